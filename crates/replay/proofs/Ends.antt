-- What play tells where it ends, from how all of it was played.
use Rattle.std.proofs.Common.{◌≡◌, ℕ, List, length, Option, sym, subst}
use Rattle.faults.specs.declared.file.FileFault.{FileFault}
use Rattle.entries.specs.Whole.{reading_by}
use Rattle.rulebook.specs.Book.{Book}
use Rattle.ledger.specs.declared.books.Books.{Books}
use Rattle.replay.specs.Laws.{LedOn}
use Rattle.replay.specs.Playing.{Played, played_from}
use Rattle.replay.proofs.Lived.{led, right_card}

module _ (b : Book) (s : Books) (card : ℕ) (file : List ℕ) (from : ℕ) (t : Books) (held : ℕ) (told : Option FileFault) (e : ◌≡◌ {A = Played} (t, held, told) (played_from b s card file from)) where
  pub ends_led : LedOn b s t
  ends_led =
      let o = reading_by (length file) file from in
      subst (λ (q : Played). LedOn b s q.0) (sym e) (led b o.0 o.1 s card)

  pub ends_right : card ≡ s.round → held ≡ t.round
  ends_right own =
      let o = reading_by (length file) file from in
      subst (λ (q : Played). q.1 ≡ q.0.round) (sym e) (right_card b o.0 o.1 s card own)
