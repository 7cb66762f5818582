use Rattle.std.proofs.Common.{◌≡◌, ◌++◌, vec_items}
use Rattle.gamefile.specs.Left.{left}
use Rattle.file_calls.specs.Calls.{calls_from, file_calls}
use Rattle.file_calls.proofs.calls_of.Given as goal

-- the calls so far and those of the records that are left make all of them
abbrev pub invariant-loop-found : goal.invariant-loop-found
invariant-loop-found l = vec_items l.calls ++ calls_from l.card (left l.found-iterator).0 ≡ file_calls l.file
