use Rattle.std.proofs.Common.{refl, sym, ◌∙◌, rules}
use borrow.Author.Tests.{tests}
use Rattle.std.proofs.lemmas.Iterator.Adapters.{option_map_id}
use Rattle.std.proofs.lemmas.Iterator.Search.{find_from_yields_List}
use Rattle.ledger.specs.Holdings.{holds_director, seat_papers}
use Rattle.holdings.proofs.Inclusive.{counted}
use Rattle.holdings.proofs.Steps.{director_found}
use Rattle.holdings.proofs.director_of.Goals as goal

pub returns : goal.returns
returns c =
    let s = c.args.books.now in
    let company = c.args.company in
    let new = c.new.ensures in
    sym (option_map_id c.find.result)
    ∙ find_from_yields_List (λ k. holds_director s company (seat_papers k)) _ _ _ c.find.ensures.ran (counted s.players refl new.start new.end new.exhausted) (λ x b q k. search (rules, tests))
    ∙ director_found s company 1 s.players
