-- Samples at the edges of the rules.
use Rattle.std.specs.Prelude.{◌≡◌, List, [], ◌∷◌, map, pos, negsuc, Ok, Err, codes}
use Rattle.hands.specs.Carry.{carried, refused}
use Rattle.hands.specs.declared.fault.CarryRefusal.TheVariants.{CannotGive}
use Rattle.kinds.specs.Cash.{cash}
use Rattle.kinds.specs.declared.cash.Cash.{Cash}
use Rattle.kinds.specs.declared.cash_floor.CashFloor.TheVariants.{Zero, Overdraft}
use Rattle.printed.specs.Books.{north, berg}
use Rattle.dealing.specs.Opening.{dealing, opened, bank_with, seat_with, hand_view}
use Rattle.dealing.specs.Listing.{opening_text}
use Rattle.dealing.specs.declared.refusal.OpeningRefusal.TheVariants.{NoOpeningCash, UnknownBook}

-- the bank at -19,900 beside an empty seat
abbrev pub near_the_floor : List Cash
near_the_floor =
    record { marks = negsuc 19899; floor = Overdraft; low = record { le = tt }; high = record { le = tt } }
    ∷ (record { marks = pos 0; floor = Zero; low = record { le = tt }; high = record { le = tt } } ∷ [])

pub record Samples : Type 0 where
  -- North, three players: the bank keeps 6,600
  pub north_three : dealing north 3 ≡ Ok (record { players = 3; row = bank_with 6600 ∷ (seat_with 800 ∷ (seat_with 800 ∷ (seat_with 800 ∷ (seat_with 0 ∷ (seat_with 0 ∷ (seat_with 0 ∷ [])))))) })
  -- Berg, six players: the bank keeps 8,200
  pub berg_six : dealing berg 6 ≡ Ok (record { players = 6; row = bank_with 8200 ∷ (seat_with 300 ∷ (seat_with 300 ∷ (seat_with 300 ∷ (seat_with 300 ∷ (seat_with 300 ∷ (seat_with 300 ∷ [])))))) })
  -- seven players have no opening cash, nor two under Berg
  pub north_seven : dealing north 7 ≡ Err NoOpeningCash
  pub berg_two : dealing berg 2 ≡ Err NoOpeningCash
  pub unknown_book : opened 9 3 ≡ Err UnknownBook
  -- the bank at -19,900 gives 100 and is then at its floor; it cannot give 101
  pub at_the_floor : (carried cash near_the_floor 0 1 100).0 ≡ Ok tt
  pub then_at_the_floor : map hand_view (carried cash near_the_floor 0 1 100).1 ≡ (Overdraft, negsuc 19999) ∷ (seat_with 100 ∷ [])
  pub below_the_floor : carried cash near_the_floor 0 1 101 ≡ refused near_the_floor 0 1 CannotGive
  -- what is printed
  pub printed : opening_text (opened 1 3) ≡ codes "bank 6600\nseat 1 800 0\nseat 2 800 0\nseat 3 800 0\n"
