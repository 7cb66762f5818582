use Rattle.std.proofs.Common.{Some, None, rules}
use Rattle.replay.specs.Cards.{number_of, card_held, fault_told}
use Rattle.replay.proofs.Ends.{ends_led, ends_right}
use Rattle.replay.proofs.playing.play.Goals as goal

pub returns-in_err-card-in-Ok-clause-life : goal.returns-in_err-card-in-Ok-clause-life
returns-in_err-card-in-Ok-clause-life g c =
    ends_led _ c.args.table.now.books (number_of c.args.card) c.args.file.now c.args.from _ (card_held c.from_residual.result) (fault_told c.from_residual.result) (search rules)

pub returns-in_err-card-in-Ok-clause-card : goal.returns-in_err-card-in-Ok-clause-card
returns-in_err-card-in-Ok-clause-card g c =
    ends_right (g.B.RuleBook.meaning c.args.table.now.book) c.args.table.now.books (number_of c.args.card) c.args.file.now c.args.from c.make_record.new.table.books _ (fault_told c.from_residual.result) (search rules)

pub returns-in-Err-clause-life : goal.returns-in-Err-clause-life
returns-in-Err-clause-life g c =
    ends_led _ c.args.table.now.books (number_of c.args.card) c.args.file.now c.args.from _ (number_of c.loop-found.card) (Some c.in-Err.fault) (search rules)

pub returns-in-Err-clause-card : goal.returns-in-Err-clause-card
returns-in-Err-clause-card g c =
    ends_right (g.B.RuleBook.meaning c.args.table.now.book) c.args.table.now.books (number_of c.args.card) c.args.file.now c.args.from c.loop-found.table.books _ (Some c.in-Err.fault) (search rules)

pub returns-clause-life : goal.returns-clause-life
returns-clause-life g c =
    ends_led _ c.args.table.now.books (number_of c.args.card) c.args.file.now c.args.from _ (number_of c.loop-found.card) None (search rules)

pub returns-clause-card : goal.returns-clause-card
returns-clause-card g c =
    ends_right (g.B.RuleBook.meaning c.args.table.now.book) c.args.table.now.books (number_of c.args.card) c.args.file.now c.args.from c.loop-found.table.books _ None (search rules)
