-- The lines that tell one record, and what the next one finds.
use Rattle.std.specs.Prelude.{◌≡◌, ℕ, List, [], ◌++◌, Some, None, Option}
use Rattle.std.specs.List.{flat_map}
use Rattle.faults.specs.declared.file.FileFault.{FileFault}
use Rattle.entries.specs.Entry.{Entry}
use Rattle.listing.specs.Lines.{line}
use Rattle.rulebook.specs.Book.{Book}
use Rattle.ledger.specs.Crossings.{Crossing}
use Rattle.ledger.specs.Lives.{crossings}
use Rattle.ledger.specs.declared.books.Books.{Books}
use Rattle.ledger.specs.declared.call.Call.{Call}
use Rattle.replay.specs.Calls.{call_of}
use Rattle.replay.specs.Cards.{number_of}
use Rattle.replay.specs.Playing.{Played, record_played}
use Rattle.replay.specs.declared.card.Card.{Card}
use Rattle.trace_text.specs.Lines.{crossing_line}
use Rattle.trace_text.specs.Pushed.{Pushed}
use Rattle.trace_text.specs.Words.{refusal_line}

-- what crosses in the call that a record asks for; an open asks for none
abbrev pub call_crossings : Book → Books → Option Call → List Crossing
call_crossings b s None = []
call_crossings b s (Some c) = crossings b s c

abbrev pub crossing_lines : ℕ → List Crossing → List ℕ
crossing_lines players xs = flat_map (crossing_line players) xs

-- a record that is granted: its line, and one for each crossing, from the books before the call
abbrev pub record_lines : Book → Books → ℕ → ℕ → Entry → List ℕ
record_lines b s card place e = line place e ++ crossing_lines s.players (call_crossings b s (call_of card e))

-- at a fault there is its line alone
abbrev pub unless_fault : Option FileFault → List ℕ → List ℕ
unless_fault None lines = lines
unless_fault (Some fault) lines = refusal_line fault

abbrev pub step_lines : Book → Books → ℕ → ℕ → Entry → List ℕ
step_lines b s card place e = unless_fault (record_played b s card place e).2 (record_lines b s card place e)

-- the books and the card that the next record finds; none after a fault
abbrev pub going : Played → Option (Books × ℕ)
going (s, card, None) = Some (s, card)
going (s, card, Some fault) = None

abbrev pub held : Books → Option Card → Option (Books × ℕ)
held s None = None
held s (Some card) = Some (s, number_of card)

-- a record is told, and its call is made
pub record Stepped (b : Book) (s : Books) (card place : ℕ) (e : Entry) (before later : List ℕ) (next : Option (Books × ℕ)) : Type 0 where
  pub told : Pushed before later (step_lines b s card place e)
  pub made : next ≡ going (record_played b s card place e)
