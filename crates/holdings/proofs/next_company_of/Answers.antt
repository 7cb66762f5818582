use Rattle.std.proofs.Common.{◌+◌, None, ap, ◌∙◌, rules, arith}
use borrow.Author.Tests.{tests}
use Rattle.std.proofs.lemmas.Iterator.{YieldsList-from_range}
use Rattle.std.proofs.lemmas.Iterator.Consumers.{fold_from_yields_List}
use Rattle.holdings.proofs.Steps.{next_found, with_company}
use Rattle.holdings.proofs.next_company_of.Goals as goal

pub returns : goal.returns
returns g c =
    let b = g.B.RuleBook.meaning c.args.book.now in
    let s = c.args.books.now in
    fold_from_yields_List _ (with_company b s) None _ c.fold.ensures.ran (YieldsList-from_range 1 (b.companies + 1) b.companies (ap (λ n. record { start = 1; end = n + 1 }) c.companies.ensures) (omega arith)) (λ a x t q k. search (rules, tests))
    ∙ next_found b s b.companies
