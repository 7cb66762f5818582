-- A card of either sort by its number, and what play answers.
use Rattle.std.specs.Prelude.{ℕ, Some, None, Ok, Err, Option, Result}
use Rattle.faults.specs.declared.file.FileFault.{FileFault}
use Rattle.replay.specs.declared.card.Card.{Card}
use Rattle.replay.specs.declared.card.Card.TheVariants.{Stock, Operating}
use Rattle.replay.specs.declared.card.Refused.{Refused}

abbrev pub number_of : Card → ℕ
number_of (Stock card) = card.number
number_of (Operating card) = card.number

-- the card that comes back, with a fault or without
abbrev pub card_held : Result Card Refused → ℕ
card_held (Ok card) = number_of card
card_held (Err refused) = number_of refused.card

abbrev pub fault_told : Result Card Refused → Option FileFault
fault_told (Ok card) = None
fault_told (Err refused) = Some refused.fault
