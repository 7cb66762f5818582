use Rattle.std.proofs.Common.{arith}
use Rattle.table.proofs.Granted.{passes_left}
use Rattle.table.proofs.calls.make_granted.Goals as goal

pub end_turn-requires : goal.end_turn-requires
end_turn-requires g c =
    let left = passes_left c.args.books.now c.in-End.card c.in-End.seat (rw c.in-End.is at c.requires.judged) in
    let few = c.requires.bounded.seated in
    omega arith
