use Rattle.std.proofs.Common.{sym, refl}
use lib.Bits.{bit_and, or_lt}
use Rattle.kinds.specs.Certificates.{is_taken, told}
use Rattle.kinds.proofs.papers.hand.PapersHand.take.Goals as goal

pub invariant_of-self : goal.invariant_of-self
invariant_of-self c =
    let held = c.args.self.now.certificates in
    let load = c.args.load.bits in
    let p = told (bit_and held load) load 0 (sym c.if-can_take.ensures) in
    record { nine = or_lt 9 held load c.args.self.now.nine p.0 }

pub returns-then-can_take : goal.returns-then-can_take
returns-then-can_take c = is_taken c.args.self.now _ c.args.load c.if-can_take.ensures refl
