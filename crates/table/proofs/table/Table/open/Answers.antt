use Rattle.std.proofs.Common.{Result, refl, ap}
use Rattle.faults.specs.Layers.{in_call}
use Rattle.faults.specs.declared.table.CallName.TheVariants.{Open}
use Rattle.faults.specs.declared.table.TableRefusal.{TableRefusal}
use Rattle.ledger.specs.declared.books.Books.{Books}
use Rattle.table.proofs.Compared.{opening_passed}
use Rattle.table.proofs.table.Table.open.Goals as goal

pub returns : goal.returns
returns g c =
    let b = g.B.RuleBook.meaning c.args.book in (
      ap (λ (a : Result Books TableRefusal). in_call Open a) (opening_passed b c.args.players _ _ _ c.open_books.ensures c.in_call.ensures c.in_ok-books.was),
      refl,
      refl,
    )
