-- What a call that is tried on a copy of the books has come to.
use Rattle.std.specs.Prelude.{◌≡◌, List, [], ◌++◌, IfOk, IsOkAnd, Ok, Err, Result, vec_items, refl}
use Rattle.std.proofs.Common.{sym, ap, ◌∙◌}
use Rattle.std.proofs.lemmas.List.{append_assoc, append-nil}
use Rattle.std.specs.declared.vec.Vec.{Vec}
use Rattle.ledger.specs.Crossings.{Crossing as RuleCrossing, all_crossed}
use Rattle.ledger.proofs.Crossed.{crossed_append}
use Rattle.moving.specs.Moves.{MoveLaws}
use Rattle.moving.specs.Views.{listed}
use Rattle.moving.specs.declared.crossing.Crossing.{Crossing}
use Rattle.crossings.specs.declared.trial.Trial.{Trial}

-- so much more is on the list, where memory holds it
abbrev pub Written : {Z E : Type 0} → Result (Vec Crossing Z) E → List RuleCrossing → Result (Vec Crossing Z) E → Type 0
Written before xs later = IfOk later (λ l. IsOkAnd before (λ k. listed (vec_items l) ≡ listed (vec_items k) ++ xs))

-- so much more has crossed, and is on the list
pub record Noted (before later : Trial) (xs : List RuleCrossing) : Type 0 where
  pub carried : later.books ≡ all_crossed before.books xs
  pub written : Written before.crossings xs later.crossings

nothing_written : {Z E : Type 0} → (r : Result (Vec Crossing Z) E) → Written r [] r
nothing_written (Ok v) = sym (append-nil (listed (vec_items v)))
nothing_written (Err e) = tt

both_written : {Z E : Type 0} → (q r s : Result (Vec Crossing Z) E) (xs ys : List RuleCrossing) → Written q xs r → Written r ys s → Written q (xs ++ ys) s
both_written (Ok u) (Ok v) (Ok w) xs ys p t = t ∙ ap (λ l. l ++ ys) p ∙ append_assoc _ xs ys
both_written (Err e) (Ok v) (Ok w) xs ys p t = absurd p
both_written q (Err e) (Ok w) xs ys p t = absurd t
both_written q r (Err e) xs ys p t = tt

pub noted_laws : MoveLaws (λ (t : Trial). t.books) (λ s xs t. Noted s t xs)
noted_laws = record {
  nothing = λ s. record { carried = refl; written = nothing_written s.crossings };
  both = λ s t u xs ys p q. record {
    carried = q.carried ∙ ap (λ z. all_crossed z ys) p.carried ∙ sym (crossed_append s.books xs ys);
    written = both_written s.crossings t.crossings u.crossings xs ys p.written q.written;
  };
  kept = λ s t xs p. p.carried;
}
