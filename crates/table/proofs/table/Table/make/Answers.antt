use Rattle.table.proofs.Ranges.{kept_bounded}
use Rattle.table.proofs.table.Table.make.Goals as goal

pub invariant_of-self : goal.invariant_of-self
invariant_of-self g c =
    let t = c.args.self.now in
    let ranges =
    kept_bounded (g.B.RuleBook.meaning t.book) (g.met.B.RuleBook.lawful t.book) t.books
    (record { seated = t.seated; counted = t.counted; numbered = t.numbered })
    c.args.call
    c.make.new.books
    c.make.ensures.made in
    record { seated = ranges.seated; counted = ranges.counted; numbered = ranges.numbered }
