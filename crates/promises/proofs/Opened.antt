-- The books of a newly opened table stand.
use Rattle.std.proofs.Common.{◌≡◌, ℕ, zero, suc, ◌+◌, ◌-◌, ◌*◌, ◌<◌, ◌≤◌, List, [], ◌∷◌, ◌++◌, length, get_or, replicate, ℤ, pos, negsuc, ◌+ℤ◌, ◌≤ℤ◌, Some, None, sym, refl, ap, ◌∙◌, subst, inl, inr, ⊎_elim, mul-le-mul_right, arith}
use Rattle.std.proofs.lemmas.List.{length-append, length-replicate}
use Rattle.std.proofs.lemmas.Int.{ints}
use Rattle.std.proofs.lemmas.Bool.{cases_lt, and_from}
use Rattle.hands.specs.Totals.{total}
use Rattle.kinds.specs.Cash.{cash_tallies, in_range}
use Rattle.kinds.specs.Floor.{floor_marks}
use Rattle.kinds.specs.Papers.{bit, papers_tallies, no_papers, all_papers}
use Rattle.kinds.specs.Trains.{trains_tallies, held}
use Rattle.kinds.specs.declared.cash.Cash.{Cash}
use Rattle.kinds.specs.declared.cash_floor.CashFloor.{CashFloor}
use Rattle.kinds.specs.declared.cash_floor.CashFloor.TheVariants.{Zero, Overdraft}
use Rattle.kinds.specs.Bits.{bit_below, bit_zero}
use Rattle.kinds.specs.Made.{passed}
use Rattle.kinds.specs.Marks.{to_le, floor_range}
use Rattle.rulebook.specs.Book.{Book}
use Rattle.rulebook.specs.Lawful.{Lawful, Between}
use Rattle.ledger.specs.Holdings.{no_cash, no_trains, no_company}
use Rattle.ledger.specs.Opening.{or_empty, cash_of, opening_cash, counts_from, stack_of, untouched, opened}
use Rattle.ledger.specs.declared.company.Company.{Company}
use Rattle.ledger.proofs.Outside.{none_counted}
use Rattle.promises.proofs.CashRow.{BankRow, floor_total}
use Rattle.promises.proofs.Rows.{total_append, total_replicate, everywhere, within_first}
use Rattle.promises.proofs.Sound.{Sound}
use Rattle.promises.proofs.Standing.{Standing}

-- a hand that was made holds what was asked
pub cash_made : (f : CashFloor) (n : ℕ) → n ≤ 1000000 → ((cash_of f n).marks ≡ pos n) × ((cash_of f n).floor ≡ f)
cash_made f n small =
    let r = floor_range f in
    passed (in_range f (pos n)) _ None (λ o. ((or_empty o).marks ≡ pos n) × ((or_empty o).floor ≡ f))
    (and_from _ _ (to_le (floor_marks f) (pos n) (omega (arith, ints, r))) (to_le (pos n) (pos 1000000) (omega (arith, ints))))
    (λ _. (refl, refl))

floors_append : (xs ys : List Cash) → floor_total (xs ++ ys) ≡ floor_total xs +ℤ floor_total ys
floors_append [] ys = omega (arith, ints)
floors_append (x ∷ xs) ys = let r = floors_append xs ys in omega (arith, ints)

floors_none : (n : ℕ) (h : Cash) → h.floor ≡ Zero → floor_total (replicate n h) ≡ pos 0
floors_none zero h e = refl
floors_none (suc n) h e = let r = floors_none n h e in let f = ap floor_marks e in omega (arith, ints)

module _ (total_marks players each : ℕ) (six : players ≤ 6) (small : total_marks ≤ 50000) (fits : players * each ≤ total_marks) (low : each ≤ 50000) where
  pub opening_row : BankRow total_marks (opening_cash total_marks players each)
  opening_row =
      let first = cash_made Overdraft (total_marks - players * each) (omega arith) in
      let seat = cash_made Zero each (omega arith) in
      let a = total_append cash_tallies (replicate players (cash_of Zero each)) (replicate (14 - players) no_cash) 0 in
      let s = total_replicate cash_tallies players (cash_of Zero each) 0 each seat.0 in
      let z = total_replicate cash_tallies (14 - players) no_cash 0 0 refl in
      let fa = floors_append (replicate players (cash_of Zero each)) (replicate (14 - players) no_cash) in
      let fs = floors_none players (cash_of Zero each) seat.1 in
      let fz = floors_none (14 - players) no_cash refl in
      let l = length-append (replicate players (cash_of Zero each)) (replicate (14 - players) no_cash) in
      let ls = length-replicate players (cash_of Zero each) in
      let lz = length-replicate (14 - players) no_cash in
      record {
        wide = omega (arith, l, ls, lz);
        sum = whole (cash_of Overdraft (total_marks - players * each)).marks _ _ _ (players * each) ((14 - players) * 0) first.0 a s z (omega arith) fits;
        floors = bottom (floor_marks (cash_of Overdraft (total_marks - players * each)).floor) _ _ _ (ap floor_marks first.1) fa fs fz;
        first = first.1;
      }
    where
      whole : (m x y w : ℤ) (k j : ℕ) → m ≡ pos (total_marks - k) → x ≡ y +ℤ w → y ≡ pos k → w ≡ pos j → j ≡ 0 → k ≤ total_marks → m +ℤ x ≡ pos total_marks
      whole m x y w k j p q r u v le = omega (arith, ints)

      bottom : (f x y w : ℤ) → f ≡ negsuc 19999 → x ≡ y +ℤ w → y ≡ pos 0 → w ≡ pos 0 → f +ℤ x ≡ negsuc 19999
      bottom f x y w p q r u = omega (arith, ints)

-- the stack has the book's count of each kind
counted : (count : ℕ → ℕ) (n from kind : ℕ) → kind < n → count (from + kind) ≤ 30 → get_or (counts_from count from n) kind 0 ≡ count (from + kind)
counted count zero from kind h few = absurd (omega arith)
counted count (suc n) from zero h few = let e : count (from + 0) ≡ count from = ap count (omega arith) in omega (arith, e)
counted count (suc n) from (suc kind) h few =
    let e : suc from + kind ≡ from + suc kind = omega arith in
    counted count n (suc from) kind (omega arith) (subst (λ z. count z ≤ 30) (sym e) few) ∙ ap count e

past_counted : (count : ℕ → ℕ) (n from kind : ℕ) → n ≤ kind → ◌≡◌ {A = ℕ} (get_or (counts_from count from n) kind 0) 0
past_counted count zero from kind h = refl
past_counted count (suc n) from zero h = absurd (omega arith)
past_counted count (suc n) from (suc kind) h = past_counted count n (suc from) kind (omega arith)

module _ (b : Book) (law : Lawful b) where
  few_trains : (kind : ℕ) → b.train_count kind ≤ 30
  few_trains kind =
      ⊎_elim (λ lt. (law.train_count_range kind lt).1) (λ le. let z = law.train_count_none kind le in omega arith) (cases_lt kind b.train_kinds)

  stack_count : (kind : ℕ) → held (stack_of b.train_count) kind ≡ b.train_count kind
  stack_count kind =
      ⊎_elim
      (λ lt.
      let e : 0 + kind ≡ kind = omega arith in
      counted b.train_count 8 0 kind lt (subst (λ z. b.train_count z ≤ 30) (sym e) (few_trains kind)) ∙ ap b.train_count e)
      (λ le. let r = law.kinds_range in past_counted b.train_count 8 0 kind le ∙ sym (law.train_count_none kind (omega arith)))
      (cases_lt kind 8)

  opening_trains : (kind : ℕ) → total trains_tallies (stack_of b.train_count ∷ replicate 8 no_trains) kind ≡ pos (b.train_count kind)
  opening_trains kind =
      let z = total_replicate trains_tallies 8 no_trains kind 0 (ap pos (none_counted 8 kind)) in
      let c = stack_count kind in
      only (held (stack_of b.train_count) kind) (total trains_tallies (replicate 8 no_trains) kind) (b.train_count kind) c z
    where
      only : (n : ℕ) (x : ℤ) (m : ℕ) → n ≡ m → x ≡ pos 0 → pos n +ℤ x ≡ pos m
      only n x m p q = omega (arith, ints)

-- nine ones
ones : (tag : ℕ) → tag < 9 → bit tag 511 ≡ 1
ones zero h = refl
ones (suc zero) h = refl
ones (suc (suc zero)) h = refl
ones (suc (suc (suc zero))) h = refl
ones (suc (suc (suc (suc zero)))) h = refl
ones (suc (suc (suc (suc (suc zero))))) h = refl
ones (suc (suc (suc (suc (suc (suc zero)))))) h = refl
ones (suc (suc (suc (suc (suc (suc (suc zero))))))) h = refl
ones (suc (suc (suc (suc (suc (suc (suc (suc zero)))))))) h = refl
ones (suc (suc (suc (suc (suc (suc (suc (suc (suc tag))))))))) h = absurd (omega arith)

no_more : (n tag : ℕ) → total papers_tallies (replicate n no_papers) tag ≡ pos 0
no_more n tag = total_replicate papers_tallies n no_papers tag 0 (ap pos (bit_zero tag)) ∙ ap pos (omega arith)

abbrev Once : ℕ → Company → Type 0
Once tag c = total papers_tallies c.papers tag ≤ℤ pos 1

once : (tag bits : ℕ) → bits < 2 → (x : ℤ) → x ≡ pos 0 → (pos bits +ℤ x) ≤ℤ pos 1
once tag bits h x e = omega (arith, ints)

full_once : (tag : ℕ) → Once tag (untouched all_papers)
full_once tag = once tag (bit tag 511) (bit_below tag 511) _ (no_more 7 tag)

empty_once : (tag : ℕ) → Once tag (untouched no_papers)
empty_once tag = once tag (bit tag 0) (bit_below tag 0) _ (no_more 7 tag)

nothing_once : (tag : ℕ) → Once tag no_company
nothing_once tag = let z = no_more 8 tag in omega (arith, ints, z)

full_all : (tag : ℕ) → tag < 9 → total papers_tallies (untouched all_papers).papers tag ≡ pos 1
full_all tag h = let o = ones tag h in let z = no_more 7 tag in sum (bit tag 511) _ o z
  where
    sum : (n : ℕ) (x : ℤ) → n ≡ 1 → x ≡ pos 0 → pos n +ℤ x ≡ pos 1
    sum n x p q = omega (arith, ints)

pub opening_sound : (b : Book) → Lawful b → (players each : ℕ) → b.opening players ≡ Some each → Sound b (opened b players each)
opening_sound b law players each e =
    let range = players_range in
    let n = b.companies in
    let c = law.companies_range in
    let l = length-append (replicate n (untouched all_papers)) (replicate (8 - n) (untouched no_papers)) in
    let l1 = length-replicate n (untouched all_papers) in
    let l2 = length-replicate (8 - n) (untouched no_papers) in
    record {
      seats = range;
      cash_row = opening_row b.bank players each range.1 law.bank_range.1 (law.opening_fits players each e) (each_small range);
      trains_wide = refl;
      trains_sum = opening_trains b law;
      records_wide = omega (arith, l, l1, l2, c);
      papers_wide = λ company. everywhere (λ (r : Company). length r.papers ≡ 8) n (8 - n) (untouched all_papers) (untouched no_papers) no_company refl refl refl (company - 1);
      papers_once = λ company tag. everywhere (Once tag) n (8 - n) (untouched all_papers) (untouched no_papers) no_company (full_once tag) (empty_once tag) (nothing_once tag) (company - 1);
      papers_all = λ company tag of inside.
          ap (λ (r : Company). total papers_tallies r.papers tag) (within_first n (8 - n) (untouched all_papers) (untouched no_papers) no_company (company - 1) (omega arith)) ∙ full_all tag inside;
    }
  where
    players_range : Between 2 6 players
    players_range =
        ⊎_elim
        (λ few. let z = law.opening_none players (inl few) in let w : ◌≡◌ {A = ℕ} 0 1 = cc in absurd (omega arith))
        (λ two. ⊎_elim (λ lt. (two, omega arith)) (λ many. let z = law.opening_none players (inr many) in let w : ◌≡◌ {A = ℕ} 0 1 = cc in absurd (omega arith)) (cases_lt players 7))
        (cases_lt players 2)

    each_small : Between 2 6 players → each ≤ 50000
    each_small r =
        let fits = law.opening_fits players each e in
        let bank = law.bank_range in
        let one = mul-le-mul_right each r.0 in
        omega (arith, one, fits, bank)

pub opening_standing : (b : Book) → Lawful b → (players each : ℕ) → b.opening players ≡ Some each → Standing b (opened b players each)
opening_standing b law players each e = record { sound = opening_sound b law players each e; on_turn = tt }
