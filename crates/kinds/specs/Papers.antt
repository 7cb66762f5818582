-- The papers of one company: nine tags, the certificates 0 to 8; a load is a set of certificates.
use Rattle.std.specs.Prelude.{◌≡◌, ℕ, zero, suc, ◌+◌, ◌*◌, ◌/◌, ◌%◌, ◌^◌, ◌<◌, Bool, true, ◌&&◌, pos, ◌==◌, bit_and, bit_or, bit_xor, nat_lt}
use Rattle.std.proofs.lemmas.Nat.{xor_lt, or_lt}
use Rattle.std.proofs.Common.{lit<}
use Rattle.std.proofs.lemmas.Bool.{and_parts, ltb-true}
use Rattle.hands.specs.Kind.{Kind}
use Rattle.hands.specs.Tallies.{Tallies}
use Rattle.kinds.specs.When.{when}
use Rattle.kinds.specs.declared.papers.Papers.{Papers}
use Rattle.kinds.specs.declared.certificate_set.CertificateSet.{CertificateSet}

-- how often the number t stands in a set: once or not at all
abbrev pub bit : ℕ → ℕ → ℕ
bit t set = set / 2 ^ t % 2

abbrev pub can_give : Papers → CertificateSet → Bool
can_give p l = nat_lt l.bits 512 && bit_and p.certificates l.bits == l.bits

abbrev pub can_take : Papers → CertificateSet → Bool
can_take p l = nat_lt l.bits 512 && bit_and p.certificates l.bits == 0

-- that no one above bit 8 comes in
pub load_below : (l : ℕ) (test : Bool) → (nat_lt l 512 && test) ≡ true → l < 512
load_below l test e = ltb-true l 512 (and_parts (nat_lt l 512) test e).0

abbrev pub given : Papers → CertificateSet → Papers
given p l =
    when (can_give p l)
    (λ e. record {
      certificates = bit_xor p.certificates l.bits;
      nine = xor_lt 9 p.certificates l.bits p.nine (load_below l.bits (bit_and p.certificates l.bits == l.bits) e);
    })
    p

abbrev pub taken : Papers → CertificateSet → Papers
taken p l =
    when (can_take p l)
    (λ e. record {
      certificates = bit_or p.certificates l.bits;
      nine = or_lt 9 p.certificates l.bits p.nine (load_below l.bits (bit_and p.certificates l.bits == 0) e);
    })
    p

abbrev pub papers : Kind Papers CertificateSet
papers = record { can_give = can_give; can_take = can_take; given = given; taken = taken }

abbrev pub papers_tallies : Tallies Papers CertificateSet
papers_tallies =
    record {
      tags = 9;
      ceiling = 1;
      tally = λ p tag. pos (bit tag p.certificates);
      floor = λ _ _. pos 0;
      names = λ l tag. (bit tag l.bits == 1);
      amount = λ l tag. bit tag l.bits;
    }

abbrev pub no_papers : Papers
no_papers = record { certificates = 0; nine = lit< tt }

abbrev pub all_papers : Papers
all_papers = record { certificates = 511; nine = lit< tt }

-- over n certificates from the number `from` on, each counted at its size
abbrev pub sized : (ℕ → ℕ) → ℕ → ℕ → ℕ → ℕ
sized size from zero set = 0
sized size from (suc n) set = bit from set * size from + sized size (suc from) n set

abbrev pub certificate_count : Papers → ℕ
certificate_count p = sized (λ _. 1) 0 9 p.certificates

-- the director's certificate is two tenths of the company, each other one
abbrev pub size : ℕ → ℕ
size zero = 2
size (suc n) = 1

abbrev pub tenths : Papers → ℕ
tenths p = sized size 0 9 p.certificates
