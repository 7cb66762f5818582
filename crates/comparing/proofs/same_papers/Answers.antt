use Rattle.std.proofs.Common.{rules}
use Rattle.std.proofs.lemmas.Slice.Eq.{slice_eq-Decides}
use Rattle.kinds.specs.Papers.{no_papers}
use Rattle.kinds.proofs.Equal.{decides_papers}
use Rattle.comparing.proofs.Places.{by_place}
use Rattle.comparing.proofs.same_papers.Goals as goal

pub returns : goal.returns
returns c =
    let xs = c.args.one.now.papers in
    let ys = c.args.other.now.papers in
    by_place no_papers xs ys _ (slice_eq-Decides decides_papers xs ys _ c.eq.ensures) (search rules)
