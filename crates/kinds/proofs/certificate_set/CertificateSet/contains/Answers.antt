use Rattle.std.proofs.Common.{◌==◌, sym, ap, ◌∙◌, le-ltb, arith}
use Rattle.kinds.specs.Bits.{bit_past}
use Rattle.kinds.proofs.certificate_set.CertificateSet.contains.Goals as goal

pub returns-else-number-lt16 : goal.returns-else-number-lt16
returns-else-number-lt16 c = le-ltb c.args.number 16 c.if-number-lt16.false ∙ sym (ap (λ n. n == 1) (bit_past 16 c.args.number c.args.self.bits (omega arith) c.if-number-lt16.false))
