use Rattle.std.proofs.lemmas.Result.{err_from_is_err_and}
use Rattle.replay.proofs.Lived.{so_stands}
use Rattle.replay.proofs.NumbersOfFiles.{never_twenty}
use Rattle.replay.proofs.Opens.{opened_replay, same_game}
use Rattle.replay.proofs.WrittenGames.{files_of_games}
use Rattle.replay.proofs.whole.replay.Goals as goal

pub returns-in_err-game : goal.returns-in_err-game
returns-in_err-game c =
    let p = err_from_is_err_and c.from_residual.result c.from_residual.ensures.1 in
    let told = opened_replay c.args.file.now _ c.in_err-game.ensures in
    rw (p.1, p.2) (record { value = told; life = tt; numbers = never_twenty c.args.file.now _ told; files = files_of_games })

pub returns-in-Ok : goal.returns-in-Ok
returns-in-Ok c =
    let book = c.in_ok-game.field-0.game.table.book in
    let told = same_game book c.play.new.table.book _ _ _ c.play.ensures.same c.in-Ok.ensures.played (opened_replay c.args.file.now _ c.in_ok-game.ensures) in
    record { value = told; life = so_stands c.args.file.now _ told; numbers = never_twenty c.args.file.now _ told; files = files_of_games }

pub returns-in-Err : goal.returns-in-Err
returns-in-Err c =
    let book = c.in_ok-game.field-0.game.table.book in
    let told = same_game book c.play.new.table.book _ _ _ c.play.ensures.same c.in-Err.ensures.played (opened_replay c.args.file.now _ c.in_ok-game.ensures) in
    record { value = told; life = so_stands c.args.file.now _ told; numbers = never_twenty c.args.file.now _ told; files = files_of_games }
