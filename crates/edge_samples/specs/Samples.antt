-- The printed statement, and samples at the edges of the rules, by the definitions that the contracts of the calls cite.
use Rattle.std.specs.Prelude.{◌≡◌, ℕ, List, [], ◌∷◌, ◌++◌, reverse, pos, negsuc, Some, Ok, Err, codes}
use Rattle.hands.specs.Carry.{carried, refused}
use Rattle.hands.specs.Refusal.{carry_number}
use Rattle.hands.specs.declared.fault.CarryRefusal.TheVariants.{CannotGive}
use Rattle.kinds.specs.Cash.{cash}
use Rattle.kinds.specs.declared.cash.Cash.{Cash}
use Rattle.kinds.specs.declared.cash_floor.CashFloor.TheVariants.{Zero, Overdraft}
use Rattle.faults.specs.Numbers.{table_number}
use Rattle.faults.specs.declared.table.TableRefusal.TheVariants.{NoOpeningCash, DirectorNeeded, PoolLimit}
use Rattle.printed.specs.Books.{north, berg}
use Rattle.ledger.specs.Holdings.{bank, pool, marks_at, tenths_at, seat_tenths, director}
use Rattle.ledger.specs.Lives.{answer, after}
use Rattle.ledger.specs.Opening.{opened, open_answer}
use Rattle.ledger.specs.declared.books.Books.{Books}
use Rattle.ledger.specs.declared.call.Call.{Call}
use Rattle.ledger.specs.declared.call.Call.TheVariants.{Sell, Buy, End}
use Rattle.promises.specs.Lives.{lived}
use Rattle.console.specs.Console.{console_text}

-- the books of three players under North after calls, the first one first
abbrev pub played : List Call → Books
played calls = lived north (opened north 3 800) (reverse calls)

-- in the first round: a seat buys company 1 from the offering, at par space 3 if it opens it, and its turn ends; a turn that is a pass
abbrev pub buys : ℕ → List Call → List Call
buys seat later = Buy 1 seat 1 0 3 ∷ (End 1 seat ∷ later)

abbrev pub passes : ℕ → List Call → List Call
passes seat later = End 1 seat ∷ later

-- seat 1 is director with three tenths, and seat 2, on turn, has two
abbrev pub director_with_three : List Call
director_with_three = buys 1 (buys 2 (passes 3 (buys 1 (buys 2 (passes 3 (passes 1 []))))))

-- and then seat 2 has three, and is on turn again
abbrev pub both_with_three : List Call
both_with_three = director_with_three ++ buys 2 (passes 3 (passes 1 []))

-- seat 1 has the director's certificate alone, and is on turn again
abbrev pub lone_director : List Call
lone_director = buys 1 (passes 2 (passes 3 []))

-- seat 1 buys six tenths and sells four of them; then seat 2, with two tenths, is on turn
abbrev pub four_in_the_pool : List Call
four_in_the_pool =
    buys 1 (buys 2 (passes 3 (buys 1 (buys 2 (passes 3
    (buys 1 (passes 2 (passes 3 (buys 1 (passes 2 (passes 3 (buys 1 (passes 2 (passes 3 (Sell 1 1 1 4 ∷ (End 1 1 ∷ []))))))))))))))))

-- the bank at -19,900 beside an empty seat
abbrev pub near_the_floor : List Cash
near_the_floor =
    record { marks = negsuc 19899; floor = Overdraft; low = record { le = tt }; high = record { le = tt } }
    ∷ (record { marks = pos 0; floor = Zero; low = record { le = tt }; high = record { le = tt } } ∷ [])

pub record EdgeSamples : Type 0 where
  -- what is printed for a file of an open and a purchase
  pub printed : console_text (1 ∷ (1 ∷ (3 ∷ (3 ∷ (1 ∷ (1 ∷ (0 ∷ (8 ∷ []))))))))
      ≡ codes "bank 6800\nseat 1 600 1\nseat 2 800 0\nseat 3 800 0\ncompany 1 0 100 1 8 0\n"
  -- North, three players: the bank keeps 6,600
  pub north_three : (open_answer north 3 ≡ Ok (opened north 3 800)) × (marks_at (opened north 3 800) bank ≡ pos 6600)
  -- seven players: 10
  pub seven_players : (open_answer north 7 ≡ Err NoOpeningCash) × (open_answer berg 7 ≡ Err NoOpeningCash) × (table_number NoOpeningCash ≡ 10)
  -- Berg, six players: the bank keeps 8,200
  pub berg_six : (open_answer berg 6 ≡ Ok (opened berg 6 300)) × (marks_at (opened berg 6 300) bank ≡ pos 8200)
  -- the director has three tenths and the buyer reaches three: no exchange
  pub reaches_three :
      let s = played director_with_three in
      let t = after north s (Buy 1 2 1 0 0) in
      (answer north s (Buy 1 2 1 0 0) ≡ Ok tt) × (seat_tenths s 1 1 ≡ 3) × (seat_tenths t 1 2 ≡ 3) × (director s 1 ≡ Some 1) × (director t 1 ≡ Some 1)
  -- he reaches four: exchange
  pub reaches_four :
      let s = played both_with_three in
      let t = after north s (Buy 1 2 1 0 0) in
      (answer north s (Buy 1 2 1 0 0) ≡ Ok tt) × (seat_tenths s 1 1 ≡ 3) × (seat_tenths t 1 2 ≡ 4) × (director s 1 ≡ Some 1) × (director t 1 ≡ Some 2)
  -- a lone director with two tenths sells one: 27
  pub lone_director_sells :
      let s = played lone_director in
      (seat_tenths s 1 1 ≡ 2) × (answer north s (Sell 1 1 1 1) ≡ Err DirectorNeeded) × (table_number DirectorNeeded ≡ 27)
  -- four tenths in the pool: selling one is granted, two is 26
  pub pool_of_four :
      let s = played four_in_the_pool in
      (tenths_at s 1 pool ≡ 4) × (answer north s (Sell 1 2 1 1) ≡ Ok tt) × (answer north s (Sell 1 2 1 2) ≡ Err PoolLimit) × (table_number PoolLimit ≡ 26)
  -- the bank at -19,900: a carry of 100 is granted, 101 is 3
  pub at_the_floor : (carried cash near_the_floor 0 1 100).0 ≡ Ok tt
  pub below_the_floor : (carried cash near_the_floor 0 1 101 ≡ refused near_the_floor 0 1 CannotGive) × (carry_number CannotGive ≡ 3)
