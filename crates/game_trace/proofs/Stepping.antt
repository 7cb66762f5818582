-- A record that is made into a call, and told.
use Rattle.std.proofs.Common.{◌≡◌, ℕ, List, ◌++◌, IfOk, Ok, Err, Option, Result, refl, ap, ◌∙◌, subst}
use Rattle.std.specs.Result.{result_ok}
use Rattle.entries.specs.Entry.{Entry}
use Rattle.listing.specs.Lines.{line}
use Rattle.rulebook.specs.Book.{Book}
use Rattle.ledger.specs.Crossings.{Crossing as RuleCrossing}
use Rattle.ledger.specs.declared.books.Books.{Books}
use Rattle.crossings.specs.Views.{listed}
use Rattle.crossings.specs.declared.crossing.Crossing.{Crossing}
use Rattle.replay.specs.Calls.{call_of}
use Rattle.replay.specs.Cards.{card_held, fault_told}
use Rattle.replay.specs.Playing.{Played, record_played}
use Rattle.replay.specs.declared.card.Card.{Card}
use Rattle.replay.specs.declared.card.Refused.{Refused}
use Rattle.trace_text.specs.Pushed.{Pushed}
use Rattle.game_trace.specs.Steps.{call_crossings, crossing_lines, record_lines, unless_fault, going, held, Stepped}

-- a record that was made into a call, granted or refused
pub made_step : (b : Book) (s : Books) (card place : ℕ) (e : Entry) (before later : List ℕ) (t : Books) (r : Result Card Refused) (o : Option Card) → o ≡ result_ok r
    → (t, card_held r, fault_told r) ≡ record_played b s card place e → Pushed before later (unless_fault (fault_told r) (record_lines b s card place e))
    → Stepped b s card place e before later (held t o)
made_step b s card place e before later t r o is p told = record {
  told = subst (Pushed before later) (ap (λ (q : Played). unless_fault q.2 (record_lines b s card place e)) p) told;
  made = ap (held t) is ∙ still t r ∙ ap going p;
}
  where
    still : (t : Books) (r : Result Card Refused) → held t (result_ok r) ≡ going (t, card_held r, fault_told r)
    still t (Ok next) = refl
    still t (Err refused) = refl

-- the lines of a granted record, from what crossed
pub granted_lines : (b : Book) (s u : Books) (card place : ℕ) (e : Entry) (xs ys : List Crossing) → u ≡ s → xs ≡ ys → listed ys ≡ call_crossings b s (call_of card e)
    → line place e ++ crossing_lines u.players (listed xs) ≡ record_lines b s card place e
granted_lines b s u card place e xs ys p q r =
    ap (λ (v : Books). line place e ++ crossing_lines v.players (listed xs)) p
    ∙ ap (λ (l : List RuleCrossing). line place e ++ crossing_lines s.players l) (ap listed q ∙ r)

-- a last piece that is also the answer
pub last_made : {X Y : Type 0} (r : Result X Y) (a text b xs ys : List ℕ) → IfOk r (λ _. Pushed text b xs) → text ++ xs ≡ a ++ ys → IfOk r (λ _. Pushed a b ys)
last_made (Ok x) a text b xs ys p e = record { joined = p.joined ∙ e }
last_made (Err y) a text b xs ys p e = tt
