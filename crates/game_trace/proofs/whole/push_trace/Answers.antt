use Rattle.std.proofs.Common.{Ok, Err, append_assoc, rules}
use Rattle.std.proofs.lemmas.Result.{IfOk-equal}
use Rattle.replay.specs.Games.{seen_opening}
use Rattle.game_trace.proofs.Starts.{opened_trace}
use Rattle.game_trace.proofs.whole.push_trace.Goals as goal

pub returns-in_ok-push_record-in-Ok : goal.returns-in_ok-push_record-in-Ok
returns-in_ok-push_record-in-Ok c =
    let told = opened_trace c.args.file.now (seen_opening (Ok c.in-Ok.field-0)) c.in-Ok.ensures in
    search (rules, IfOk-equal, append_assoc)

pub returns-in-Err : goal.returns-in-Err
returns-in-Err c =
    let told = opened_trace c.args.file.now (Err c.in-Err.fault) c.in-Err.ensures in
    search rules
