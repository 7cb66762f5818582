-- What every hand holds when the opening cash is dealt.
use Rattle.std.specs.Prelude.{ℕ, zero, suc, ◌-◌, ◌*◌, List, ◌∷◌, ◌++◌, map, replicate, ℤ, pos, Some, None, Ok, Err, Option, Result}
use Rattle.kinds.specs.declared.cash.Cash.{Cash}
use Rattle.kinds.specs.declared.cash_floor.CashFloor.{CashFloor}
use Rattle.kinds.specs.declared.cash_floor.CashFloor.TheVariants.{Zero, Overdraft}
use Rattle.rulebook.specs.Book.{Book}
use Rattle.printed.specs.Books.{north, berg}
use Rattle.dealing.specs.declared.opening.Opening.{Opening}
use Rattle.dealing.specs.declared.refusal.OpeningRefusal.{OpeningRefusal}
use Rattle.dealing.specs.declared.refusal.OpeningRefusal.TheVariants.{NoOpeningCash, UnknownBook}

-- a cash hand by what makes it: its floor and its marks
abbrev pub HandView : Type 0
HandView = CashFloor × ℤ

abbrev pub hand_view : Cash → HandView
hand_view c = (c.floor, c.marks)

abbrev pub bank_with : ℕ → HandView
bank_with marks = (Overdraft, pos marks)

abbrev pub seat_with : ℕ → HandView
seat_with marks = (Zero, pos marks)

abbrev pub undealt_row : ℕ → List HandView
undealt_row bank = bank_with bank ∷ replicate 6 (seat_with 0)

-- the bank keeps the rest, each player's seat has the opening cash, and the other seats have nothing
abbrev pub dealt_row : ℕ → ℕ → ℕ → List HandView
dealt_row bank players marks =
    bank_with (bank - players * marks) ∷ (replicate players (seat_with marks) ++ replicate (6 - players) (seat_with 0))

pub record Dealt : Type 0 where
  pub players : ℕ
  pub row : List HandView

abbrev pub dealt : Book → ℕ → Option ℕ → Result Dealt OpeningRefusal
dealt b players None = Err NoOpeningCash
dealt b players (Some marks) = Ok (record { players = players; row = dealt_row b.bank players marks })

abbrev pub dealing : Book → ℕ → Result Dealt OpeningRefusal
dealing b players = dealt b players (b.opening players)

-- by the number of a printed book
abbrev pub opened : ℕ → ℕ → Result Dealt OpeningRefusal
opened zero players = Err UnknownBook
opened (suc zero) players = dealing north players
opened (suc (suc zero)) players = dealing berg players
opened (suc (suc (suc book))) players = Err UnknownBook

-- what the code answers
abbrev pub viewed : Result Opening OpeningRefusal → Result Dealt OpeningRefusal
viewed (Ok o) = Ok (record { players = o.players; row = map hand_view o.cash })
viewed (Err e) = Err e
