-- What carry answers to the calls of every life, and that no hand comes to its ceiling.
use Rattle.std.specs.Prelude.{◌≡◌, ℕ, ◌<◌, false, List, [], ◌∷◌, pos, ◌<ℤ◌, Some, Ok, Err}
use Rattle.hands.specs.declared.fault.CarryFault.{CarryFault}
use Rattle.hands.specs.declared.fault.CarryRefusal.TheVariants.{CannotGive}
use Rattle.faults.specs.declared.table.TableRefusal.TheVariants.{Carry}
use Rattle.rulebook.specs.Book.{Book}
use Rattle.rulebook.specs.Lawful.{Lawful, Between}
use Rattle.ledger.specs.Crossings.{Crossing, crossing_outcome, crossed}
use Rattle.ledger.specs.Holdings.{pool, marks_at, holds_director, trains_held}
use Rattle.ledger.specs.Lives.{answer, crossings_of}
use Rattle.ledger.specs.Opening.{opened}
use Rattle.ledger.specs.declared.books.Books.{Books}
use Rattle.ledger.specs.declared.call.Call.{Call}
use Rattle.ledger.specs.declared.call.Call.TheVariants.{Sell, Buy, End, Close, Bill, Payout, Train, Done, Reopen}
use Rattle.promises.specs.Lives.{lived}

-- one crossing after the other is granted
abbrev pub Carriable : Books → List Crossing → Type 0
Carriable s [] = Unit {0}
Carriable s (x ∷ xs) = ((crossing_outcome s x).0 ≡ Ok tt) × Carriable (crossed s x) xs

-- the calls that ask carry whether a payment can be made: buy, bill and train
abbrev pub AsksCarry : Call → Type 0
AsksCarry (Sell card seat company tenths) = ⊥
AsksCarry (Buy card seat company source space) = Unit {0}
AsksCarry (End card seat) = ⊥
AsksCarry (Close card) = ⊥
AsksCarry (Bill card company amount) = Unit {0}
AsksCarry (Payout card company mode revenue) = ⊥
AsksCarry (Train card company kind) = Unit {0}
AsksCarry (Done card company) = ⊥
AsksCarry (Reopen card) = ⊥

pub record Carries (b : Book) (s : Books) : Type 0 where
  -- what crosses where the call is granted can all be carried, in order
  pub carriable : (c : Call) → answer b s c ≡ Ok tt → Carriable s (crossings_of b s c)
  -- carry refuses no other call, and only because the giver cannot give
  pub asked : (c : Call) (fault : CarryFault) → answer b s c ≡ Err (Carry fault) → AsksCarry c
  pub cannot_give : (c : Call) (fault : CarryFault) → answer b s c ≡ Err (Carry fault) → fault.refusal ≡ CannotGive
  -- the director's certificate never lies in a pool
  pub none_in_pool : (company : ℕ) → Between 1 b.companies company → holds_director s company pool ≡ false
  -- no hand of cash or of trains comes to its ceiling
  pub cash_below : (place : ℕ) → marks_at s place <ℤ pos 1000000
  pub trains_below : (place kind : ℕ) → trains_held s place kind < 255

abbrev pub CallsCarry : Type 0
CallsCarry = (b : Book) → Lawful b → (players cash : ℕ) → b.opening players ≡ Some cash → (life : List Call) → Carries b (lived b (opened b players cash) life)
