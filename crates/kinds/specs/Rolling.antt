-- Trains keep the laws of tallies.
use Rattle.std.specs.Prelude.{◌≡◌, ℕ, ◌+◌, ◌-◌, ◌<◌, ◌≤◌, Bool, true, cond, ◌&&◌, ◌≢◌, length, pos, ◌+ℤ◌, ◌-ℤ◌, ◌≤ℤ◌, ◌==◌, nat_lt, slice_index, slice_set, refl}
use Rattle.std.proofs.Common.{sym, ap, subst, ◌∙◌, ⊎_elim, arith}
use denote.Struct.Cover.{Cover-one}
use Rattle.std.proofs.lemmas.List.{get_or-set_same, get_or-set_other, get_or_past, ext_get_or}
use Rattle.std.proofs.lemmas.Int.{ints}
use Rattle.std.proofs.lemmas.Bool.{and_parts, and_from, eq-eqb, eqb-true, ltb-true, lt-ltb, leb-true, le-leb}
use Rattle.std.proofs.lemmas.Bool.Decides.{eqb_tells}
use Rattle.hands.specs.Tallies.{TallyLaws}
use Rattle.kinds.specs.Trains.{held, can_give, can_take, given, taken, trains, trains_tallies}
use Rattle.kinds.specs.declared.trains.Trains.{Trains}
use Rattle.kinds.specs.declared.train_load.TrainLoad.{TrainLoad}
use Rattle.kinds.specs.contracts.trains.Trains.{the_type}
use Rattle.kinds.specs.Made.{passed}

pub same_trains : (a b : Trains) → a.counts ≡ b.counts → a ≡ b
same_trains a b e = Cover-one the_type.cover the_type.propositions a b (λ i. (e i, tt))

pub given_counts : (h : Trains) (l : TrainLoad) → can_give h l ≡ true → (given h l).counts ≡ slice_set h.counts l.kind (held h l.kind - l.count)
given_counts h l e = passed (can_give h l) _ h (λ (d : Trains). d.counts ≡ slice_set h.counts l.kind (held h l.kind - l.count)) e (λ _. refl)

pub taken_counts : (h : Trains) (l : TrainLoad) → can_take h l ≡ true → (taken h l).counts ≡ slice_set h.counts l.kind (held h l.kind + l.count)
taken_counts h l e = passed (can_take h l) _ h (λ (d : Trains). d.counts ≡ slice_set h.counts l.kind (held h l.kind + l.count)) e (λ _. refl)

pub is_given : (h d : Trains) (l : TrainLoad) → true ≡ can_give h l → d.counts ≡ slice_set h.counts l.kind (held h l.kind - l.count) → d ≡ given h l
is_given h d l e f = same_trains d (given h l) (f ∙ sym (given_counts h l (sym e)))

pub is_taken : (h d : Trains) (l : TrainLoad) → true ≡ can_take h l → d.counts ≡ slice_set h.counts l.kind (held h l.kind + l.count) → d ≡ taken h l
is_taken h d l e f = same_trains d (taken h l) (f ∙ sym (taken_counts h l (sym e)))

-- what is true of the load's own kind, and of every other, is true of each tag
by_kind : (P : ℕ → ℕ → Type 0) (kind n : ℕ) → P kind n → ((tag : ℕ) → tag ≢ kind → P tag 0) → (tag : ℕ) → P tag (cond (tag == kind) n 0)
by_kind P kind n same other tag =
    ⊎_elim
    (λ p. subst (λ (b : Bool). P tag (cond b n 0)) (sym p.0) (subst (λ (k : ℕ). P k n) (sym p.1) same))
    (λ p. subst (λ (b : Bool). P tag (cond b n 0)) (sym p.0) (other tag p.1))
    (eqb_tells tag kind)

module _ (h : Trains) (l : TrainLoad) where
  own : (test : Bool) → (nat_lt l.kind 8 && test) ≡ true → (tag : ℕ) → (tag == l.kind) ≡ true → tag < 8
  own test e tag named = let lt = ltb-true l.kind 8 (and_parts _ _ e).0 in let same = eqb-true tag l.kind named in omega arith

  enough : can_give h l ≡ true → l.count ≤ held h l.kind
  enough e = leb-true l.count (held h l.kind) (and_parts (nat_lt l.kind 8) _ e).1

  room : can_take h l ≡ true → held h l.kind + l.count ≤ 255
  room e = leb-true (held h l.kind + l.count) 255 (and_parts (nat_lt l.kind 8) _ e).1

  inside : (test : Bool) → (nat_lt l.kind 8 && test) ≡ true → l.kind < length h.counts
  inside test e = let lt = ltb-true l.kind 8 (and_parts _ _ e).0 in let w = h.eight in omega arith

  gives_to : can_give h l ≡ true → (tag : ℕ) → pos 0 ≤ℤ (pos (held h tag) -ℤ pos (cond (tag == l.kind) l.count 0))
  gives_to e =
      by_kind (λ tag n. pos 0 ≤ℤ (pos (held h tag) -ℤ pos n)) l.kind l.count (let x = enough e in omega (arith, ints)) (λ tag ne. omega (arith, ints))

  takes_to : can_take h l ≡ true → (tag : ℕ) → (pos (held h tag) +ℤ pos (cond (tag == l.kind) l.count 0)) ≤ℤ pos 255
  takes_to e =
      by_kind (λ tag n. (pos (held h tag) +ℤ pos n) ≤ℤ pos 255) l.kind l.count (let x = room e in omega (arith, ints)) (λ tag ne. let s = h.small tag in omega (arith, ints))

  lowered : can_give h l ≡ true → (tag : ℕ) → pos (held (given h l) tag) ≡ pos (held h tag) -ℤ pos (cond (tag == l.kind) l.count 0)
  lowered e =
      by_kind (λ tag n. pos (held (given h l) tag) ≡ pos (held h tag) -ℤ pos n) l.kind l.count
      (let x = enough e in
      let s = ap (λ xs. slice_index xs l.kind) (given_counts h l e) ∙ get_or-set_same h.counts l.kind (held h l.kind - l.count) 0 (inside _ e) in
      omega (arith, ints))
      (λ tag ne.
      let s = ap (λ xs. slice_index xs tag) (given_counts h l e) ∙ get_or-set_other h.counts l.kind tag (held h l.kind - l.count) 0 ne in
      omega (arith, ints))

  raised : can_take h l ≡ true → (tag : ℕ) → pos (held (taken h l) tag) ≡ pos (held h tag) +ℤ pos (cond (tag == l.kind) l.count 0)
  raised e =
      by_kind (λ tag n. pos (held (taken h l) tag) ≡ pos (held h tag) +ℤ pos n) l.kind l.count
      (let s = ap (λ xs. slice_index xs l.kind) (taken_counts h l e) ∙ get_or-set_same h.counts l.kind (held h l.kind + l.count) 0 (inside _ e) in
      omega (arith, ints))
      (λ tag ne.
      let s = ap (λ xs. slice_index xs tag) (taken_counts h l e) ∙ get_or-set_other h.counts l.kind tag (held h l.kind + l.count) 0 ne in
      omega (arith, ints))

  -- what is asked of the load's own kind
  at_kind : (P : ℕ → Type 0) → P (cond (l.kind == l.kind) l.count 0) → P l.count
  at_kind P p = subst (λ (b : Bool). P (cond b l.count 0)) (eq-eqb l.kind l.kind refl) p

pub trains_laws : TallyLaws trains trains_tallies
trains_laws =
    record {
      above = λ h tag. omega (arith, ints);
      below = λ h tag. let s = h.small tag in omega (arith, ints);
      outside = λ h tag past. let w = h.eight in ap pos (get_or_past h.counts tag 0 (omega arith));
      unnamed = λ l tag e. ap (λ b. cond b l.count 0) e;
      gives = λ h l. (
        (λ e. (own h l _ e, gives_to h l e)),
        (λ p.
            let s = at_kind h l (λ n. pos 0 ≤ℤ (pos (held h l.kind) -ℤ pos n)) (p.1 l.kind) in
            and_from _ _ (lt-ltb l.kind 8 (p.0 l.kind (eq-eqb l.kind l.kind refl))) (le-leb l.count (held h l.kind) (omega (arith, ints)))),
      );
      takes = λ h l. (
        (λ e. (own h l _ e, takes_to h l e)),
        (λ p.
            let s = at_kind h l (λ n. (pos (held h l.kind) +ℤ pos n) ≤ℤ pos 255) (p.1 l.kind) in
            and_from _ _ (lt-ltb l.kind 8 (p.0 l.kind (eq-eqb l.kind l.kind refl))) (le-leb (held h l.kind + l.count) 255 (omega (arith, ints)))),
      );
      lowers = λ h l tag e. lowered h l e tag;
      raises = λ h l tag e. raised h l e tag;
      given_floor = λ h l tag. refl;
      taken_floor = λ h l tag. refl;
      equal = λ a b tallies floors.
          same_trains a b (ext_get_or 0 a.counts b.counts (a.eight ∙ sym b.eight) (λ i _. let s = tallies i in omega (arith, ints)));
    }
