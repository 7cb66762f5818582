-- The books themselves keep the laws.
use Rattle.std.specs.Prelude.{◌≡◌, refl}
use Rattle.std.proofs.Common.{sym, ap, ◌∙◌}
use Rattle.ledger.specs.Crossings.{all_crossed}
use Rattle.ledger.specs.declared.books.Books.{Books}
use Rattle.ledger.proofs.Crossed.{crossed_append}
use Rattle.moving.specs.Moves.{MoveLaws}

pub books_laws : MoveLaws (λ (s : Books). s) (λ s xs t. t ≡ all_crossed s xs)
books_laws = record {
  nothing = λ s. refl;
  both = λ s t u xs ys p q. q ∙ ap (λ (z : Books). all_crossed z ys) p ∙ sym (crossed_append s xs ys);
  kept = λ s t xs p. p;
}
