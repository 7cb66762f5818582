use Rattle.std.proofs.Common.{◌∙◌, rules, arith}
use Rattle.std.proofs.lemmas.Iterator.{YieldsList-from_map}
use Rattle.std.proofs.lemmas.Iterator.Consumers.{sum_from_yields_List, fits_from_yields_list}
use Rattle.holdings.proofs.Inclusive.{counted}
use Rattle.operating.proofs.Dividends.{due, all_due, few_due}
use Rattle.operating.proofs.payout.dividends_due.Goals as goal

pub sum-requires-clause-fits : goal.sum-requires-clause-fits
sum-requires-clause-fits c =
    let a = c.args in
    let s = a.books.now in
    let new = c.new.ensures in
    fits_from_yields_list c.map.result _ (YieldsList-from_map {s = c.map.result} _ (due s a.company a.dividend) (counted s.players c.map.ensures.source new.start new.end new.exhausted) c.map.ensures.closure (λ x r q k. search rules))
    (omega (arith, few_due s a.company a.dividend 1 s.players (omega arith)))

pub returns : goal.returns
returns c =
    let a = c.args in
    let s = a.books.now in
    let new = c.new.ensures in
    let value = sum_from_yields_List c.map.result c.sum.result c.sum.ensures.ran (YieldsList-from_map {s = c.map.result} _ (due s a.company a.dividend) (counted s.players c.map.ensures.source new.start new.end new.exhausted) c.map.ensures.closure (λ x r q k. search rules)) in
    record { value = value ∙ all_due s a.company a.dividend 1 s.players; small = omega (arith, value, few_due s a.company a.dividend 1 s.players (omega arith)) }
