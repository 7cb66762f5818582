-- A call with the card of the round is never refused for its card.
use Rattle.std.proofs.Common.{◌≡◌, ℕ, Bool, true, false, not, ◌&&◌, eqb, ◌≢◌, Some, None, Ok, Err, Option, Result, sym, refl, ap, ◌∙◌, subst, arith, eq-eqb}
use Rattle.std.proofs.lemmas.Bool.{cond_both}
use Rattle.hands.specs.Refusal.{carry_number}
use Rattle.hands.specs.declared.fault.CarryFault.{CarryFault}
use Rattle.hands.specs.declared.fault.CarryRefusal.{CarryRefusal}
use Rattle.hands.specs.declared.fault.CarryRefusal.TheVariants.{OutsideRow, SameHand, CannotGive, CannotTake}
use Rattle.faults.specs.Layers.{in_call, at_place}
use Rattle.faults.specs.Numbers.{table_number}
use Rattle.faults.specs.declared.table.CallName.{CallName}
use Rattle.faults.specs.declared.table.TableRefusal.{TableRefusal}
use Rattle.faults.specs.declared.table.TableRefusal.TheVariants.{WrongCard, NoSuchMode, Carry}
use Rattle.rulebook.specs.Book.{Book}
use Rattle.rulebook.specs.declared.split.Split.{Split}
use Rattle.entries.specs.Entry.{Entry, opens, sells, buys, ends, closes, bills, pays_out, buys_train, is_done, reopens}
use Rattle.ledger.specs.Answers.{Answer, granted, refused_if, and_then, by_carry, odd, on_stock_turn, on_operating_turn}
use Rattle.ledger.specs.Lives.{answer}
use Rattle.ledger.specs.Operating.{payout_granted}
use Rattle.ledger.specs.Stock.{may_buy}
use Rattle.ledger.specs.declared.books.Books.{Books}
use Rattle.ledger.specs.declared.call.Call.{Call}
use Rattle.replay.specs.Calls.{call_of, name_of, belongs}
use Rattle.replay.specs.Laws.{NotTwenty}
use Rattle.replay.specs.Playing.{Played, fault_of, asked, record_played}

-- granted, or refused with another number
pub record Other (a : Answer) : Type 0 where
  pub number : (why : TableRefusal) → a ≡ Err why → table_number why ≢ 20

is_granted : Other granted
is_granted = record { number = λ why e. let z : ◌≡◌ {A = ℕ} 0 1 = cc in absurd (omega arith) }

is_refused : (why : TableRefusal) → table_number why ≢ 20 → Other (Err why)
is_refused why ne = record { number = λ other e. let same : why ≡ other = cc in subst (λ (w : TableRefusal). table_number w ≢ 20) same ne }

other_if : (t : Bool) (why : TableRefusal) (a : Answer) → table_number why ≢ 20 → Other a → Other (refused_if t why a)
other_if true why a here there = is_refused why here
other_if false why a here there = there

other_then : (a n : Answer) → Other a → Other n → Other (and_then a n)
other_then (Ok x) n here there = there
other_then (Err why) n here there = here

carry_other : (r : CarryRefusal) → carry_number r ≢ 20
carry_other OutsideRow = omega arith
carry_other SameHand = omega arith
carry_other CannotGive = omega arith
carry_other CannotTake = omega arith

other_carry : (r : Result (Unit {0}) CarryFault) → Other (by_carry r)
other_carry (Ok x) = is_granted
other_carry (Err fault) = is_refused (Carry fault) (carry_other fault.refusal)

own_number : (n : ℕ) (sort : Bool) → sort ≡ true → not (eqb n n && sort) ≡ false
own_number n sort e = ap (λ (x : Bool). not (x && sort)) (eq-eqb n n refl) ∙ ap not e

module _ (s : Books) where
  other_card : (sort : Bool) (a : Answer) → sort ≡ true → Other a → Other (refused_if (not (eqb s.round s.round && sort)) WrongCard a)
  other_card sort a e there = subst (λ (x : Bool). Other (refused_if x WrongCard a)) (sym (own_number s.round sort e)) there

  stock_turn : (seat : ℕ) → odd s.round ≡ true → Other (on_stock_turn s s.round seat)
  stock_turn seat e = other_card (odd s.round) _ e (search (other_if, is_granted, arith))

  operating_turn : (company : ℕ) → not (odd s.round) ≡ true → Other (on_operating_turn s s.round company)
  operating_turn company e = other_card (not (odd s.round)) _ e (search (other_if, is_granted, arith))

  paying : (company revenue : ℕ) (o : Option Split) → Other (payout_granted s company revenue o)
  paying company revenue None = is_refused NoSuchMode (omega arith)
  paying company revenue (Some split) = search (other_if, is_granted, arith)

  module _ (b : Book) where
    buying : (seat company source space : ℕ) → Other (may_buy b s seat company source space)
    buying seat company source space = search (other_if, is_granted, arith)

    -- a call of the round, with the card of the round
    abbrev Owned : Option Call → Type 0
    Owned None = Unit {0}
    Owned (Some c) = belongs (odd s.round) c ≡ true → Other (answer b s c)

    own_other : (e : Entry) → Owned (call_of s.round e)
    own_other (opens book players) = tt
    own_other (sells seat company tenths) = λ own. other_then (on_stock_turn s s.round seat) _ (stock_turn seat own) (search (other_if, is_granted, arith))
    own_other (buys seat company source par_space) = λ own.
        other_then (on_stock_turn s s.round seat) _ (stock_turn seat own) (other_then (may_buy b s seat company source par_space) _ (buying seat company source par_space) (search (other_then, other_if, other_carry, is_granted, arith)))
    own_other (ends seat) = λ own. stock_turn seat own
    own_other closes = λ own. other_card (odd s.round) _ own (search (other_if, is_granted, arith))
    own_other (bills company amount) = λ own. other_then (on_operating_turn s s.round company) _ (operating_turn company own) (search (other_if, other_carry, arith))
    own_other (pays_out company mode revenue) = λ own. other_then (on_operating_turn s s.round company) _ (operating_turn company own) (search (other_if, paying, arith))
    own_other (buys_train company kind) = λ own. other_then (on_operating_turn s s.round company) _ (operating_turn company own) (search (other_if, other_carry, arith))
    own_other (is_done company) = λ own. other_then (on_operating_turn s s.round company) _ (operating_turn company own) (search (other_if, is_granted, arith))
    own_other reopens = λ own. other_card (not (odd s.round)) _ own (search (other_if, is_granted, arith))

    call_other : (place : ℕ) (name : CallName) (a : Answer) → Other a → NotTwenty (fault_of (at_place place (in_call name a)))
    call_other place name (Ok x) other = tt
    call_other place name (Err why) other = other.number why refl

    asked_other : (place : ℕ) (o : Option Call) → Owned o → NotTwenty (asked b s (odd s.round) s.round place o).2
    asked_other place None owned = omega arith
    asked_other place (Some c) owned =
        cond_both (belongs (odd s.round) c) _ _ (λ (q : Played). NotTwenty q.2) (λ own. call_other place (name_of c) (answer b s c) (owned own)) (λ _. omega arith)

    pub record_other : (place : ℕ) (e : Entry) → NotTwenty (record_played b s s.round place e).2
    record_other place e = asked_other place (call_of s.round e) (own_other e)
