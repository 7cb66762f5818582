-- No file is refused with 20.
use Rattle.std.proofs.Common.{◌≡◌, ℕ, zero, suc, eqb, ltb, ◌≢◌, List, [], ◌∷◌, length, drop, Some, None, Ok, Err, Option, Result, sym, refl, subst, arith}
use Rattle.std.proofs.lemmas.Bool.{cond_both}
use Rattle.faults.specs.Layers.{in_call, at_place}
use Rattle.faults.specs.Numbers.{file_number}
use Rattle.faults.specs.declared.file.FileFault.{FileFault}
use Rattle.faults.specs.declared.file.FileRefusal.{FileRefusal}
use Rattle.faults.specs.declared.file.FileRefusal.TheVariants.{FileTooLong}
use Rattle.faults.specs.declared.table.CallName.TheVariants.{Open}
use Rattle.entries.specs.Entry.{Entry, opens, sells, buys, ends, closes, bills, pays_out, buys_train, is_done, reopens}
use Rattle.entries.specs.Reading.{known, complete, first, from_place}
use Rattle.entries.specs.Whole.{Outcome, onward, reading_by, reading}
use Rattle.entries.specs.Writing.{size}
use Rattle.rulebook.specs.Book.{Book}
use Rattle.catalogue.specs.Printed.{printed_meaning, numbered}
use Rattle.catalogue.specs.declared.books.PrintedBook.{PrintedBook}
use Rattle.ledger.specs.Answers.{odd}
use Rattle.ledger.specs.Opening.{opened, opened_with}
use Rattle.ledger.specs.declared.books.Books.{Books}
use Rattle.replay.specs.Calls.{call_of}
use Rattle.replay.specs.Laws.{NotTwenty}
use Rattle.replay.specs.Playing.{Played, record_played, play_on, played}
use Rattle.replay.specs.Whole.{Replayed, refused_at, from_opening, from_book, from_first, from_records, replayed}
use Rattle.replay.proofs.NotTwenty.{record_other}
use Rattle.replay.proofs.OwnCard.{card_of_round}

-- reading answers 50 and 51
abbrev ReadOther : Result (Entry × ℕ) FileRefusal → Type 0
ReadOther (Ok x) = Unit {0}
ReadOther (Err why) = file_number why ≢ 20

complete_other : (s : List ℕ) (o : Option Entry) → ReadOther (complete s o)
complete_other s None = omega arith
complete_other s (Some e) = cond_both (ltb (length s) (size e)) _ _ ReadOther (λ _. omega arith) (λ _. tt)

first_other : (s : List ℕ) → ReadOther (first s)
first_other s = cond_both (eqb (length s) 0) _ _ ReadOther (λ _. omega arith) (λ _. complete_other s (known s))

onward_other : (place : ℕ) (r : Result (Entry × ℕ) FileRefusal) → ReadOther r → (from : ℕ → Outcome) → ((next : ℕ) → NotTwenty (from next).1) → NotTwenty (onward place (from_place place r) from).1
onward_other place (Ok x) here from later = later _
onward_other place (Err why) here from later = here

reading_other : (n : ℕ) (file : List ℕ) (place : ℕ) → NotTwenty (reading_by n file place).1
reading_other zero file place = tt
reading_other (suc n) file place =
    cond_both (ltb place (length file)) _ _ (λ (o : Outcome). NotTwenty o.1) (λ _. onward_other place (first (drop place file)) (first_other (drop place file)) (reading_by n file) (λ next. reading_other n file next)) (λ _. tt)

-- played with the card of the round
abbrev Well : Played → Type 0
Well p = (p.1 ≡ p.0.round) × NotTwenty p.2

further : (p : Played) → Well p → (later : Books → ℕ → Played) → ((t : Books) (card : ℕ) → card ≡ t.round → NotTwenty (later t card).2) → NotTwenty (play_on p later).2
further (t, card, None) ok later all = all t card ok.0
further (t, card, Some fault) ok later all = ok.1

played_other : (b : Book) (records : List (ℕ × Entry)) (ending : Option FileFault) → NotTwenty ending → (s : Books) (card : ℕ) → card ≡ s.round → NotTwenty (played b s card records ending).2
played_other b [] ending last s card e = last
played_other b (p ∷ rest) ending last s card e =
    let here : Well (record_played b s s.round p.0 p.1) = (card_of_round b s p.0 (odd s.round) (call_of s.round p.1), record_other s b p.0 p.1) in
    further _ (subst (λ (n : ℕ). Well (record_played b s n p.0 p.1)) (sym e) here) (λ t next. played b t next rest ending) (λ t next. played_other b rest ending last t next)

module _ (place : ℕ) (rest : List (ℕ × Entry)) (ending : Option FileFault) (last : NotTwenty ending) where
  opening_other : (book : PrintedBook) (players : ℕ) (o : Option ℕ) → NotTwenty (from_opening place rest ending book (at_place place (in_call Open (opened_with (printed_meaning book) players o)))).fault
  opening_other book players None = omega arith
  opening_other book players (Some cash) = played_other (printed_meaning book) rest ending last (opened (printed_meaning book) players cash) 1 refl

  book_other : (o : Option PrintedBook) (players : ℕ) → NotTwenty (from_book place rest ending o players).fault
  book_other None players = omega arith
  book_other (Some book) players = opening_other book players ((printed_meaning book).opening players)

  begun_other : (e : Entry) → NotTwenty (from_first place rest ending e).fault
  begun_other (opens number players) = book_other (numbered number) players
  begun_other (sells seat company tenths) = omega arith
  begun_other (buys seat company source par_space) = omega arith
  begun_other (ends seat) = omega arith
  begun_other closes = omega arith
  begun_other (bills company amount) = omega arith
  begun_other (pays_out company mode revenue) = omega arith
  begun_other (buys_train company kind) = omega arith
  begun_other (is_done company) = omega arith
  begun_other reopens = omega arith

records_other : (records : List (ℕ × Entry)) (ending : Option FileFault) → NotTwenty ending → NotTwenty (from_records records ending).fault
records_other [] None last = omega arith
records_other [] (Some fault) last = last
records_other (p ∷ rest) ending last = begun_other p.0 rest ending last p.1

every_file : (file : List ℕ) → NotTwenty (replayed file).fault
every_file file =
    cond_both (ltb 65536 (length file)) (refused_at 0 FileTooLong) (from_records (reading file).0 (reading file).1) (λ (r : Replayed). NotTwenty r.fault) (λ _. omega arith)
    (λ _. records_other (reading file).0 (reading file).1 (reading_other (length file) file 0))

-- said of what replay answers
pub never_twenty : (file : List ℕ) (r : Replayed) → r ≡ replayed file → NotTwenty r.fault
never_twenty file r e = subst (λ (p : Replayed). NotTwenty p.fault) (sym e) (every_file file)
