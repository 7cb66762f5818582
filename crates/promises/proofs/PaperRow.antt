-- The papers of a company, each certificate in one hand: who holds some, can always give them.
use Rattle.std.proofs.Common.{◌≡◌, ℕ, zero, suc, ◌+◌, ◌<◌, true, ◌≢◌, List, [], ◌∷◌, length, get_or, pos, ◌≤ℤ◌, Ok, refl, ap, arith}
use lib.Bits.{bit_and}
use Rattle.std.proofs.lemmas.Option.{slice_get-get_or}
use Rattle.std.proofs.lemmas.Int.{ints}
use Rattle.std.proofs.lemmas.Bool.{and_from, lt-ltb, eq-eqb}
use Rattle.hands.specs.Carry.{carried}
use Rattle.hands.specs.Totals.{total}
use Rattle.hands.proofs.Ways.{granted}
use Rattle.kinds.specs.Papers.{bit, papers, papers_tallies, can_give, can_take, no_papers}
use Rattle.kinds.specs.declared.papers.Papers.{Papers}
use Rattle.kinds.specs.declared.certificate_set.CertificateSet.{CertificateSet}
use Rattle.kinds.specs.Bits.{bit_zero, none_there, falls}

pub not_negative : (row : List Papers) (tag : ℕ) → pos 0 ≤ℤ total papers_tallies row tag
not_negative [] tag = omega (arith, ints)
not_negative (h ∷ hs) tag = let r = not_negative hs tag in omega (arith, ints)

pub part : (row : List Papers) (p tag : ℕ) → pos (bit tag (get_or row p no_papers).certificates) ≤ℤ total papers_tallies row tag
part [] p tag = let z = bit_zero tag in omega (arith, ints, z)
part (h ∷ hs) zero tag = let r = not_negative hs tag in omega (arith, ints)
part (h ∷ hs) (suc p) tag = let r = part hs p tag in omega (arith, ints)

pub two_parts : (row : List Papers) (i j tag : ℕ) → i ≢ j → pos (bit tag (get_or row i no_papers).certificates + bit tag (get_or row j no_papers).certificates) ≤ℤ total papers_tallies row tag
two_parts [] i j tag ne = let z = bit_zero tag in omega (arith, ints, z)
two_parts (h ∷ hs) zero zero tag ne = absurd (ne refl)
two_parts (h ∷ hs) zero (suc j) tag ne = let r = part hs j tag in omega (arith, ints)
two_parts (h ∷ hs) (suc i) zero tag ne = let r = part hs i tag in omega (arith, ints)
two_parts (h ∷ hs) (suc i) (suc j) tag ne = let r = two_parts hs i j tag (λ e. ne (ap suc e)) in omega (arith, ints)

pub hand_granted : (row : List Papers) (i j bits : ℕ) → length row ≡ 8 → ((tag : ℕ) → total papers_tallies row tag ≤ℤ pos 1) → i < 8 → j < 8 → i ≢ j → bits < 512 → bit_and (get_or row i no_papers).certificates bits ≡ bits
    → (carried papers row i j (record { bits = bits })).0 ≡ Ok tt
hand_granted row i j bits wide one hi hj ne small holds =
    let a = get_or row i no_papers in
    let b = get_or row j no_papers in
    let load : CertificateSet = record { bits = bits } in
    let can : can_give a load ≡ true = and_from _ _ (lt-ltb bits 512 small) (eq-eqb (bit_and a.certificates bits) bits holds) in
    let apart : bit_and b.certificates bits ≡ 0 =
    none_there 9 b.certificates bits b.nine small (λ tag.
    let f = falls tag a.certificates bits holds in
    let r = two_parts row i j tag ne in
    let o = one tag in
    omega (arith, ints, f, r, o))
    in
    let may : can_take b load ≡ true = and_from _ _ (lt-ltb bits 512 small) (eq-eqb (bit_and b.certificates bits) 0 apart) in
    ap (λ o. o.0) (granted papers row i j load a b (slice_get-get_or row i no_papers (omega arith)) (slice_get-get_or row j no_papers (omega arith)) ne can may)
