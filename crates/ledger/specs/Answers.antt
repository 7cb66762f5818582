-- Refusals in their order: the first that applies, else granted.
use Rattle.std.specs.Prelude.{ℕ, ◌%◌, Bool, true, false, not, ◌&&◌, ℤ, negsuc, Some, None, Ok, Err, Option, Result, ◌==◌, int_lt, nat_le}
use Rattle.hands.specs.declared.fault.CarryFault.{CarryFault}
use Rattle.faults.specs.declared.table.TableRefusal.{TableRefusal}
use Rattle.faults.specs.declared.table.TableRefusal.TheVariants.{WrongCard, NoSuchSeat, NotOnTurn, RoundOver, CompanyNotOnTurn, Carry}
use Rattle.ledger.specs.Holdings.{is_seat}
use Rattle.ledger.specs.declared.books.Books.{Books}

abbrev pub Answer : Type 0
Answer = Result (Unit {0}) TableRefusal

abbrev pub granted : Answer
granted = Ok tt

-- refused where the test holds, else what follows
abbrev pub refused_if : Bool → TableRefusal → Answer → Answer
refused_if true why next = Err why
refused_if false why next = next

-- one answer, and where it grants, the next
abbrev pub and_then : Answer → Answer → Answer
and_then (Ok _) next = next
and_then (Err why) next = Err why

-- as carry answers
abbrev pub by_carry : Result (Unit {0}) CarryFault → Answer
by_carry (Ok _) = Ok tt
by_carry (Err fault) = Err (Carry fault)

-- odd rounds are stock rounds, even ones operating rounds
abbrev pub odd : ℕ → Bool
odd n = n % 2 == 1

abbrev pub stock_card : Books → ℕ → Bool
stock_card s card = card == s.round && odd s.round

abbrev pub operating_card : Books → ℕ → Bool
operating_card s card = card == s.round && not (odd s.round)

-- as many successive passes as there are players
abbrev pub round_over : Books → Bool
round_over s = nat_le s.players s.stock.passes

-- what sell, buy and end begin with
abbrev pub on_stock_turn : Books → ℕ → ℕ → Answer
on_stock_turn s card seat =
    refused_if (not (stock_card s card)) WrongCard
    (refused_if (round_over s) RoundOver
    (refused_if (not (is_seat s seat)) NoSuchSeat
    (refused_if (not (seat == s.stock.turn)) NotOnTurn granted)))

abbrev pub same_company : Option ℕ → ℕ → Bool
same_company None company = false
same_company (Some on_turn) company = on_turn == company

-- what bill, payout, train and done begin with
abbrev pub on_operating_turn : Books → ℕ → ℕ → Answer
on_operating_turn s card company =
    refused_if (not (operating_card s card)) WrongCard
    (refused_if (not (same_company s.operating.company company)) CompanyNotOnTurn granted)

-- so many marks lie below the bank's floor
abbrev pub below_floor : ℤ → Bool
below_floor marks = int_lt marks (negsuc 19999)
