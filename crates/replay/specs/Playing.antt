-- What records do at a table, one after the other.
use Rattle.std.specs.Prelude.{ℕ, ◌+◌, Bool, cond, List, [], ◌∷◌, length, Some, None, Ok, Err, Option, Result}
use Rattle.faults.specs.Layers.{in_call, at_place}
use Rattle.faults.specs.declared.file.FileFault.{FileFault}
use Rattle.faults.specs.declared.file.FileRefusal.{FileRefusal}
use Rattle.faults.specs.declared.file.FileRefusal.TheVariants.{OpenMisplaced, OtherRound}
use Rattle.entries.specs.Entry.{Entry}
use Rattle.entries.specs.Whole.{Outcome, reading_by}
use Rattle.rulebook.specs.Book.{Book}
use Rattle.ledger.specs.Answers.{Answer, odd}
use Rattle.ledger.specs.Lives.{answer, after, if_granted}
use Rattle.ledger.specs.declared.books.Books.{Books}
use Rattle.ledger.specs.declared.call.Call.{Call}
use Rattle.ledger.specs.declared.call.Call.TheVariants.{Sell, Buy, End, Close, Bill, Payout, Train, Done, Reopen}
use Rattle.replay.specs.Calls.{call_of, name_of, belongs}

-- the books, the number of the card that is held, and the fault that ended it, if any
abbrev pub Played : Type 0
Played = Books × ℕ × Option FileFault

abbrev pub fault_of : {A : Type 0} → Result A FileFault → Option FileFault
fault_of (Ok x) = None
fault_of (Err fault) = Some fault

-- close and reopen, where they are granted, trade the card for that of the next round
abbrev pub next_card : Answer → Books → ℕ → Call → ℕ
next_card told s card (Sell _ seat company tenths) = card
next_card told s card (Buy _ seat company source par) = card
next_card told s card (End _ seat) = card
next_card told s card (Close _) = if_granted told (s.round + 1) card
next_card told s card (Bill _ company amount) = card
next_card told s card (Payout _ company mode revenue) = card
next_card told s card (Train _ company kind) = card
next_card told s card (Done _ company) = card
next_card told s card (Reopen _) = if_granted told (s.round + 1) card

-- a call as the table answers it; refused, it leaves books and card as they were
abbrev pub call_played : Book → Books → ℕ → ℕ → Call → Played
call_played b s card place c =
    (after b s c, next_card (answer b s c) s card c, fault_of (at_place place (in_call (name_of c) (answer b s c))))

-- a record that is not made into a call leaves both too
abbrev pub not_made : Books → ℕ → ℕ → FileRefusal → Played
not_made s card place why = (s, card, Some (record { refusal = why; place = place }))

-- a record with a stock card or an operating one: an open comes too late, and a call of the other round is not made
abbrev pub asked : Book → Books → Bool → ℕ → ℕ → Option Call → Played
asked b s stock card place None = not_made s card place OpenMisplaced
asked b s stock card place (Some c) = cond (belongs stock c) (call_played b s card place c) (not_made s card place OtherRound)

-- a stock card has an odd number, an operating card an even one
abbrev pub record_played : Book → Books → ℕ → ℕ → Entry → Played
record_played b s card place e = asked b s (odd card) card place (call_of card e)

abbrev pub play_on : Played → (Books → ℕ → Played) → Played
play_on (s, card, None) later = later s card
play_on (s, card, Some fault) later = (s, card, Some fault)

-- records with their places: the first that is refused ends it; after all of them comes the fault that ended the reading, if any
abbrev pub played : Book → Books → ℕ → List (ℕ × Entry) → Option FileFault → Played
played b s card [] ending = (s, card, ending)
played b s card (p ∷ rest) ending = play_on (record_played b s card p.0 p.1) (λ t next. played b t next rest ending)

abbrev pub all_played : Book → Books → ℕ → Outcome → Played
all_played b s card o = played b s card o.0 o.1

-- the records of a file from a place on
abbrev pub played_from : Book → Books → ℕ → List ℕ → ℕ → Played
played_from b s card file from = all_played b s card (reading_by (length file) file from)
