use Rattle.std.proofs.Common.{◌≡◌, ◌-◌, ◌*◌, ◌∷◌, ◌++◌, replicate, ap, ◌∙◌}
use Rattle.kinds.specs.declared.cash_floor.CashFloor.TheVariants.{Zero, Overdraft}
use Rattle.ledger.specs.Opening.{cash_of}
use Rattle.ledger.specs.Holdings.{no_cash}
use Rattle.setup.proofs.Filled.{is_cash_of, is_no_cash}
use Rattle.setup.proofs.deal_cash.Goals as goal

pub returns : goal.returns
returns c =
    let a = c.args in
    let bank : c.holding-bank.result ≡ cash_of Overdraft (a.total - a.players * a.cash) =
    is_cash_of Overdraft _ c.holding-bank.result c.holding-bank.ensures ∙ ap (λ n. cash_of Overdraft (a.total - n * a.cash)) c.from.ensures in
    let hand : c.holding-hand.result ≡ cash_of Zero a.cash = is_cash_of Zero a.cash c.holding-hand.result c.holding-hand.ensures in
    let empty : c.holding-empty.result ≡ no_cash = is_no_cash c.holding-empty.result c.holding-empty.ensures in
    c.cash_row.ensures ∙ (λ i. bank i ∷ (replicate a.players (hand i) ++ replicate (14 - a.players) (empty i)))
