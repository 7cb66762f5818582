use Rattle.std.proofs.Common.{pos}
use Rattle.kinds.specs.Marks.{new_is}
use Rattle.kinds.specs.declared.cash_floor.CashFloor.TheVariants.{Zero, Overdraft}
use Rattle.dealing.proofs.Seats.{seven_hands}
use Rattle.dealing.proofs.deal.undealt.Goals as goal

pub returns : goal.returns
returns c =
    seven_hands c.args.bank c.holding-bank.result c.holding-seat.result
    (new_is Overdraft (pos c.args.bank) c.holding-bank.result c.holding-bank.ensures)
    (new_is Zero (pos 0) c.holding-seat.result c.holding-seat.ensures)
