-- One seat more is dealt its opening cash.
use Rattle.std.proofs.Common.{◌≡◌, ℕ, zero, suc, ◌+◌, ◌-◌, ◌*◌, ◌<◌, ◌≤◌, true, List, [], ◌∷◌, ◌++◌, map, length, set, replicate, pos, ◌+ℤ◌, ◌-ℤ◌, Some, Ok, Result, sym, ap, ◌∙◌, le_trans, mul-le-mul_right, suc-mul, zero-mul, arith}
use Rattle.std.proofs.lemmas.List.{map-set, length-map, length-append, length-replicate}
use Rattle.std.proofs.lemmas.Int.{ints}
use Rattle.std.specs.List.{slice_get}
use Rattle.hands.specs.Carry.{Outcome, carried}
use Rattle.hands.specs.declared.fault.CarryFault.{CarryFault}
use Rattle.hands.proofs.Ways.{granted}
use Rattle.kinds.specs.Cash.{cash, can_give, can_take, given, taken}
use Rattle.kinds.specs.Floor.{floor_marks}
use Rattle.kinds.specs.declared.cash.Cash.{Cash}
use Rattle.kinds.specs.declared.cash_floor.CashFloor.TheVariants.{Zero, Overdraft}
use Rattle.kinds.specs.Marks.{to_le, given_marks, taken_marks, given_keeps, taken_keeps}
use Rattle.dealing.specs.Opening.{HandView, hand_view, bank_with, seat_with, undealt_row, dealt_row}
use Rattle.dealing.proofs.Rows.{seen_at, nth_after, set_after}

both : {A B : Type 0} {a c : A} {b d : B} → a ≡ c → b ≡ d → ◌≡◌ {A = A × B} (a, b) (c, d)
both p q = λ i. (p i, q i)

-- before any seat is dealt
pub seven_hands : (bank : ℕ) (b s : Cash) → (b.marks ≡ pos bank) × (b.floor ≡ Overdraft) → (s.marks ≡ pos 0) × (s.floor ≡ Zero)
    → map hand_view (b ∷ (s ∷ (s ∷ (s ∷ (s ∷ (s ∷ (s ∷ []))))))) ≡ undealt_row bank
seven_hands bank b s p q =
    let e : hand_view b ≡ bank_with bank = both p.1 p.0 in
    let f : hand_view s ≡ seat_with 0 = both q.1 q.0 in
    λ i. e i ∷ (f i ∷ (f i ∷ (f i ∷ (f i ∷ (f i ∷ (f i ∷ []))))))

pub none_dealt : (bank marks : ℕ) → undealt_row bank ≡ dealt_row bank 0 marks
none_dealt bank marks = let none : bank ≡ bank - 0 * marks = omega (arith, zero-mul marks) in ap (λ n. bank_with n ∷ replicate 6 (seat_with 0)) none

module _ (bank k marks : ℕ) (seat : k < 6) (enough : suc k * marks ≤ bank) (small : marks < 65536) where
  six : 6 - k ≡ suc (6 - suc k)
  six = omega arith

  abbrev rest : List HandView
  rest = replicate k (seat_with marks) ++ ((seat_with 0) ∷ replicate (6 - suc k) (seat_with 0))

  opened : dealt_row bank k marks ≡ bank_with (bank - k * marks) ∷ rest
  opened = ap (λ (l : List HandView). bank_with (bank - k * marks) ∷ (replicate k (seat_with marks) ++ l)) (ap (λ n. replicate n (seat_with 0)) six)

  module _ (row : List Cash) (view : map hand_view row ≡ dealt_row bank k marks) where
    bank_hand : (a : Cash) × (slice_get row 0 ≡ Some a) × (hand_view a ≡ bank_with (bank - k * marks))
    bank_hand = seen_at hand_view row 0 _ (ap (λ (l : List HandView). slice_get l 0) (view ∙ opened))

    seat_hand : (b : Cash) × (slice_get row (suc k) ≡ Some b) × (hand_view b ≡ seat_with 0)
    seat_hand =
        seen_at hand_view row (suc k) _ (ap (λ (l : List HandView). slice_get l (suc k)) (view ∙ opened) ∙ nth_after k (seat_with marks) (seat_with 0) (replicate (6 - suc k) (seat_with 0)))

    more : suc k * marks ≡ k * marks + marks
    more = suc-mul k marks

    gives : can_give bank_hand.0 marks ≡ true
    gives =
        let f = ap (λ (v : HandView). floor_marks v.0) bank_hand.2 in
        let m = ap (λ (v : HandView). v.1) bank_hand.2 in
        let s = more in
        to_le (floor_marks bank_hand.0.floor) (bank_hand.0.marks -ℤ pos marks) (omega (arith, ints, f, m, s))

    takes : can_take seat_hand.0 marks ≡ true
    takes = let m = ap (λ (v : HandView). v.1) seat_hand.2 in to_le (seat_hand.0.marks +ℤ pos marks) (pos 1000000) (omega (arith, ints, m))

    abbrev after : List Cash
    after = set (set row 0 (given bank_hand.0 marks)) (suc k) (taken seat_hand.0 marks)

    carries : carried cash row 0 (suc k) marks ≡ (Ok tt, after)
    carries = granted cash row 0 (suc k) marks bank_hand.0 seat_hand.0 bank_hand.1 seat_hand.1 (λ e. omega arith) gives takes

    bank_after : hand_view (given bank_hand.0 marks) ≡ bank_with (bank - suc k * marks)
    bank_after =
        let m = ap (λ (v : HandView). v.1) bank_hand.2 in
        let g = given_marks bank_hand.0 marks gives in
        let s = more in
        both (given_keeps bank_hand.0 marks ∙ ap (λ (v : HandView). v.0) bank_hand.2) (omega (arith, ints, m, g, s))

    seat_after : hand_view (taken seat_hand.0 marks) ≡ seat_with marks
    seat_after =
        let m = ap (λ (v : HandView). v.1) seat_hand.2 in
        let t = taken_marks seat_hand.0 marks takes in
        both (taken_keeps seat_hand.0 marks ∙ ap (λ (v : HandView). v.0) seat_hand.2) (omega (arith, ints, m, t))

    dealt_one : map hand_view after ≡ dealt_row bank (suc k) marks
    dealt_one =
        map-set hand_view (set row 0 (given bank_hand.0 marks)) (suc k) (taken seat_hand.0 marks)
        ∙ ap (λ (l : List HandView). set l (suc k) (hand_view (taken seat_hand.0 marks))) (map-set hand_view row 0 (given bank_hand.0 marks))
        ∙ ap (λ (l : List HandView). set (set l 0 (hand_view (given bank_hand.0 marks))) (suc k) (hand_view (taken seat_hand.0 marks))) (view ∙ opened)
        ∙ ap (λ (v : HandView). v ∷ set rest k (hand_view (taken seat_hand.0 marks))) bank_after
        ∙ ap (λ (v : HandView). bank_with (bank - suc k * marks) ∷ set rest k v) seat_after
        ∙ ap (λ (l : List HandView). bank_with (bank - suc k * marks) ∷ l) (set_after k (seat_with marks) (seat_with 0) (replicate (6 - suc k) (seat_with 0)))

    pub one_more : (r : Result (Unit {0}) CarryFault) (next : List Cash) → (r, next) ≡ carried cash row 0 (suc k) marks → (r ≡ Ok tt) × (map hand_view next ≡ dealt_row bank (suc k) marks)
    one_more r next e =
        let f = e ∙ carries in
        (ap (λ (o : Outcome Cash). o.0) f, ap (λ (o : Outcome Cash). map hand_view o.1) f ∙ dealt_one)

-- a row so seen has seven hands
pub seven : (bank k marks : ℕ) (row : List Cash) → k ≤ 6 → map hand_view row ≡ dealt_row bank k marks → length row ≡ 7
seven bank k marks row h e =
    let a = length-append (replicate k (seat_with marks)) (replicate (6 - k) (seat_with 0)) in
    let b = length-replicate k (seat_with marks) in
    let c = length-replicate (6 - k) (seat_with 0) in
    sym (length-map row hand_view) ∙ ap length e ∙ omega (arith, a, b, c)

-- the carry to a seat is granted
pub seat_dealt : (bank players seat marks load : ℕ) → players ≤ 6 → players * marks ≤ bank → marks < 65536 → 1 ≤ seat → seat ≤ players → load ≡ marks
    → (row next : List Cash) (r : Result (Unit {0}) CarryFault) → map hand_view row ≡ dealt_row bank (seat - 1) marks → (r, next) ≡ carried cash row 0 seat load
    → (r ≡ Ok tt) × (map hand_view next ≡ dealt_row bank seat marks)
seat_dealt bank players zero marks load seated enough small first le same row next r view e = absurd (omega arith)
seat_dealt bank players (suc k) marks load seated enough small first le same row next r view e =
    let paid : suc k * marks ≤ bank = le_trans (mul-le-mul_right marks le) enough in
    let before : map hand_view row ≡ dealt_row bank k marks = view ∙ ap (λ n. dealt_row bank n marks) (omega arith) in
    one_more bank k marks (omega arith) paid small row before r next (e ∙ ap (λ n. carried cash row 0 (suc k) n) same)
