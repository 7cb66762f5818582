-- The numbers of a set's certificates, one after the other.
use Rattle.std.proofs.Common.{◌≡◌, ℕ, true, false, eqb, zero, suc, ◌+◌, [], ◌++◌, codes, decimal, sym, ap, ◌∙◌, add-one, arith}
use Rattle.std.proofs.lemmas.List.{append_assoc, append-nil}
use Rattle.std.proofs.lemmas.Bool.{cond-true, cond-false}
use Rattle.kinds.specs.Papers.{bit}
use Rattle.trace_text.specs.Lines.{number_words, numbers_from}

module _ (set number : ℕ) where
  pub in_set : eqb (bit number set) 1 ≡ true → codes " " ++ decimal number ≡ number_words set number
  in_set e = sym (cond-true _ _ _ e)

  pub not_in_set : (eqb (bit number set) 1 ≡ false) → number_words set number ≡ []
  not_in_set ne = cond-false _ _ _ ne

last_number : (set number n : ℕ) → numbers_from set number n ++ number_words set (number + n) ≡ numbers_from set number (suc n)
last_number set number zero =
    let here : number + zero ≡ number = omega arith in
    ap (number_words set) here ∙ sym (append-nil (number_words set number))
last_number set number (suc n) =
    let next : number + suc n ≡ suc number + n = omega arith in
    ap (λ k. numbers_from set number (suc n) ++ number_words set k) next
    ∙ append_assoc (number_words set number) (numbers_from set (suc number) n) (number_words set (suc number + n))
    ∙ ap (λ rest. number_words set number ++ rest) (last_number set (suc number) n)

pub one_number_more : (set n : ℕ) → numbers_from set 0 n ++ number_words set n ≡ numbers_from set 0 (n + 1)
one_number_more set n =
    let here : n ≡ 0 + n = omega arith in
    ap (λ k. numbers_from set 0 n ++ number_words set k) here ∙ last_number set 0 n ∙ ap (numbers_from set 0) (sym (add-one n))
