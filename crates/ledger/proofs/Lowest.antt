-- One number more in the search for the lowest certificates.
use Rattle.std.proofs.Common.{◌≡◌, ℕ, true, false, eqb, zero, suc, ◌+◌, ◌-◌, ◌*◌, ◌%◌, ◌^◌, ◌<◌, ◌≤◌, sym, refl, ap, ◌∙◌, pow-suc, add-one, arith}
use Rattle.std.proofs.lemmas.Nat.{one_shl}
use Rattle.std.proofs.lemmas.Bool.{cond-true, cond-false}
use Rattle.kinds.specs.Papers.{bit}
use Rattle.ledger.specs.Certificates.{lowest_from}

pub none_left : (k left set : ℕ) → lowest_from 0 k left set ≡ 0
none_left k zero set = refl
none_left k (suc left) set = refl

module _ (k set : ℕ) (inside : k < 9) where
  one_more : 9 - k ≡ suc (9 - (k + 1))
  one_more = omega arith

  module _ (n : ℕ) where
    opened : lowest_from (suc n) k (9 - k) set ≡ lowest_from (suc n) k (suc (9 - (k + 1))) set
    opened = ap (λ z. lowest_from (suc n) k z set) one_more

    pub taken_one : eqb (bit k set) 1 ≡ true → lowest_from (suc n) k (9 - k) set ≡ 2 ^ k + lowest_from n (k + 1) (9 - (k + 1)) set
    taken_one e =
        opened ∙ cond-true _ _ _ e ∙ ap (λ z. 2 ^ k + lowest_from n z (9 - (k + 1)) set) (sym (add-one k))

    pub passed_over : eqb (bit k set) 1 ≡ false → lowest_from (suc n) k (9 - k) set ≡ lowest_from (suc n) (k + 1) (9 - (k + 1)) set
    passed_over ne =
        opened ∙ cond-false _ _ _ ne ∙ ap (λ z. lowest_from (suc n) z (9 - (k + 1)) set) (sym (add-one k))

-- each way of a turn keeps what was found, and what is still to be found
module _ (whole bits left k set : ℕ) (inside : k < 9) (inv : whole ≡ bits + lowest_from left k (9 - k) set) (small : bits < 2 ^ k) (bits' left' : ℕ) where
  abbrev Kept : Type 0
  Kept = (whole ≡ bits' + lowest_from left' (k + 1) (9 - (k + 1)) set) × (bits' < 2 ^ (k + 1))

  double : 2 ^ (k + 1) ≡ 2 ^ k * 2
  double = ap (λ n. 2 ^ n) (add-one k) ∙ pow-suc 2 k

  pub took : bits' ≡ bits + 1 * 2 ^ k % 65536 → left' ≡ left - 1 → 0 < left → eqb (bit k set) 1 ≡ true → Kept
  took b a some e =
      let again : left ≡ suc left' = omega arith in
      let found = ap (λ n. lowest_from n k (9 - k) set) again ∙ taken_one k set inside left' e in
      let shift = one_shl k 16 (omega arith) in
      let d = double in
      (omega (arith, inv, found, shift, b), omega (arith, d, shift, b, small))

  pub skipped : bits' ≡ bits → left' ≡ left → 0 < left → (eqb (bit k set) 1 ≡ false) → Kept
  skipped b a some ne =
      let again : left ≡ suc (left - 1) = omega arith in
      let found = ap (λ n. lowest_from n k (9 - k) set) again ∙ passed_over k set inside (left - 1) ne ∙ ap (λ n. lowest_from n (k + 1) (9 - (k + 1)) set) (sym again ∙ sym a) in
      let d = double in
      (omega (arith, inv, found, b), omega (arith, d, b, small))

  pub finished : bits' ≡ bits → left' ≡ left → left ≤ 0 → Kept
  finished b a none =
      let z : left ≡ 0 = omega arith in
      let found = ap (λ n. lowest_from n k (9 - k) set) z ∙ none_left k (9 - k) set in
      let then = ap (λ n. lowest_from n (k + 1) (9 - (k + 1)) set) (a ∙ z) ∙ none_left (k + 1) (9 - (k + 1)) set in
      let d = double in
      (omega (arith, inv, found, then, b), omega (arith, d, b, small))
