-- Papers keep the laws of tallies, and what their ones count.
use Rattle.std.specs.Prelude.{◌≡◌, ℕ, ◌+◌, ◌/◌, ◌%◌, ◌<◌, true, ◌&&◌, pos, ◌+ℤ◌, ◌-ℤ◌, ◌≤ℤ◌, ◌==◌, bit_or, bit_xor, count_ones, nat_lt, refl}
use Rattle.std.proofs.Common.{sym, ap, ◌∙◌, div-one, arith}
use Rattle.std.specs.Int.Bits.{bit_and}
use Rattle.std.proofs.lemmas.Nat.{and_mask}
use denote.Struct.Cover.{Cover-one}
use Rattle.std.proofs.lemmas.Int.{ints}
use Rattle.std.proofs.lemmas.Bool.{and_parts, and_from, eq-eqb, eqb-true, ltb-true, lt-ltb}
use Rattle.hands.specs.Tallies.{TallyLaws}
use Rattle.kinds.specs.Papers.{bit, can_give, can_take, given, taken, papers, papers_tallies, certificate_count, tenths}
use Rattle.kinds.specs.declared.papers.Papers.{Papers}
use Rattle.kinds.specs.declared.certificate_set.CertificateSet.{CertificateSet}
use Rattle.kinds.specs.contracts.papers.Papers.{the_type}
use Rattle.kinds.specs.Bits.{by_bits, bit_below, bit_past, all_there, none_there, falls, rises, named_one, own_from, own_to, ones_sized}
use Rattle.kinds.specs.Made.{passed}

pub same_papers : (a b : Papers) → a.certificates ≡ b.certificates → a ≡ b
same_papers a b e = Cover-one the_type.cover the_type.propositions a b (λ i. (e i, tt))

-- a test that passed
pub told : (a l z : ℕ) → (nat_lt l 512 && a == z) ≡ true → (l < 512) × (a ≡ z)
told a l z e = let p = and_parts _ _ e in (ltb-true l 512 p.0, eqb-true a z p.1)

pub given_bits : (p : Papers) (l : CertificateSet) → can_give p l ≡ true → (given p l).certificates ≡ bit_xor p.certificates l.bits
given_bits p l e = passed (can_give p l) _ p (λ (d : Papers). d.certificates ≡ bit_xor p.certificates l.bits) e (λ _. refl)

pub taken_bits : (p : Papers) (l : CertificateSet) → can_take p l ≡ true → (taken p l).certificates ≡ bit_or p.certificates l.bits
taken_bits p l e = passed (can_take p l) _ p (λ (d : Papers). d.certificates ≡ bit_or p.certificates l.bits) e (λ _. refl)

pub is_given : (p d : Papers) (l : CertificateSet) → true ≡ can_give p l → d.certificates ≡ bit_xor p.certificates l.bits → d ≡ given p l
is_given p d l e f = same_papers d (given p l) (f ∙ sym (given_bits p l (sym e)))

pub is_taken : (p d : Papers) (l : CertificateSet) → true ≡ can_take p l → d.certificates ≡ bit_or p.certificates l.bits → d ≡ taken p l
is_taken p d l e f = same_papers d (taken p l) (f ∙ sym (taken_bits p l (sym e)))

module _ (p : Papers) (l : CertificateSet) where
  gives_to : can_give p l ≡ true → (tag : ℕ) → pos 0 ≤ℤ (pos (bit tag p.certificates) -ℤ pos (bit tag l.bits))
  gives_to e tag = let f = falls tag p.certificates l.bits (told (bit_and p.certificates l.bits) l.bits l.bits e).1 in omega (arith, ints)

  takes_to : can_take p l ≡ true → (tag : ℕ) → (pos (bit tag p.certificates) +ℤ pos (bit tag l.bits)) ≤ℤ pos 1
  takes_to e tag =
      let f = rises tag p.certificates l.bits (told (bit_and p.certificates l.bits) l.bits 0 e).1 in
      let b = bit_below tag (bit_or p.certificates l.bits) in
      omega (arith, ints)

pub papers_laws : TallyLaws papers papers_tallies
papers_laws =
    record {
      above = λ p tag. omega (arith, ints);
      below = λ p tag. let b = bit_below tag p.certificates in omega (arith, ints);
      outside = λ p tag past. ap pos (bit_past 9 tag p.certificates p.nine past);
      unnamed = λ l tag. named_one tag l.bits;
      gives = λ p l. (
        (λ e. (own_from 9 l.bits (told (bit_and p.certificates l.bits) l.bits l.bits e).0, gives_to p l e)),
        (λ q.
            let below = own_to 9 l.bits q.0 in
            and_from _ _ (lt-ltb l.bits 512 below) (eq-eqb (bit_and p.certificates l.bits) l.bits (all_there 9 p.certificates l.bits p.nine below (λ t. let s = q.1 t in omega (arith, ints))))),
      );
      takes = λ p l. (
        (λ e. (own_from 9 l.bits (told (bit_and p.certificates l.bits) l.bits 0 e).0, takes_to p l e)),
        (λ q.
            let below = own_to 9 l.bits q.0 in
            and_from _ _ (lt-ltb l.bits 512 below) (eq-eqb (bit_and p.certificates l.bits) 0 (none_there 9 p.certificates l.bits p.nine below (λ t. let s = q.1 t in omega (arith, ints))))),
      );
      lowers = λ p l tag e.
          let w = ap (bit tag) (given_bits p l e) in
          let f = falls tag p.certificates l.bits (told (bit_and p.certificates l.bits) l.bits l.bits e).1 in
          omega (arith, ints);
      raises = λ p l tag e.
          let w = ap (bit tag) (taken_bits p l e) in
          let f = rises tag p.certificates l.bits (told (bit_and p.certificates l.bits) l.bits 0 e).1 in
          omega (arith, ints);
      given_floor = λ p l tag. refl;
      taken_floor = λ p l tag. refl;
      equal = λ a b tallies floors. same_papers a b (by_bits 9 a.certificates b.certificates a.nine b.nine (λ t. let s = tallies t in omega (arith, ints)));
    }

pub counted : (p : Papers) → count_ones p.certificates ≡ certificate_count p
counted p =
    let w : p.certificates / 1 < 512 = rw div-one p.nine in
    ap count_ones (sym (div-one p.certificates)) ∙ ones_sized 9 0 p.certificates w

pub tenths_counted : (p : Papers) → count_ones p.certificates + bit_and p.certificates 1 ≡ tenths p
tenths_counted p =
    let n = counted p in
    let m : bit_and p.certificates 1 ≡ p.certificates % 2 = and_mask p.certificates 1 in
    let d = ap (λ z. z % 2) (div-one p.certificates) in
    omega (arith, n, m, d)
