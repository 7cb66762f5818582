use Rattle.std.proofs.Common.{◌∙◌, rules, arith}
use Rattle.std.proofs.lemmas.Iterator.{YieldsList-from_map}
use Rattle.std.proofs.lemmas.Iterator.Consumers.{sum_from_yields_List, fits_from_yields_list}
use Rattle.holdings.proofs.Inclusive.{counted}
use Rattle.holdings.proofs.Steps.{at_company, all_held, few_held}
use Rattle.holdings.proofs.certificates_held_by.Goals as goal

pub sum-requires-clause-fits : goal.sum-requires-clause-fits
sum-requires-clause-fits c =
    let s = c.args.books.now in
    let new = c.new.ensures in
    let few = few_held s c.args.seat 1 c.args.companies in
    fits_from_yields_list c.map.result _ (YieldsList-from_map {s = c.map.result} _ (at_company s c.args.seat) (counted c.args.companies c.map.ensures.source new.start new.end new.exhausted) c.map.ensures.closure (λ x r q k. search rules)) (omega (arith, few))

pub returns : goal.returns
returns c =
    let s = c.args.books.now in
    let new = c.new.ensures in
    sum_from_yields_List c.map.result c.sum.result c.sum.ensures.ran (YieldsList-from_map {s = c.map.result} _ (at_company s c.args.seat) (counted c.args.companies c.map.ensures.source new.start new.end new.exhausted) c.map.ensures.closure (λ x r q k. search rules))
    ∙ all_held s c.args.seat c.args.companies
