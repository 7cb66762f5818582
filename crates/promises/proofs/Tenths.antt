-- What certificates that change hands do to the tenths of each place, and to who holds the director's.
use Rattle.std.proofs.Common.{◌≡◌, ℕ, ◌+◌, ◌<◌, ◌≤◌, true, ◌≢◌, List, [], ◌∷◌, length, get_or, set, pos, ◌≤ℤ◌, sym, refl, ap, ◌∙◌, subst, arith, length-set}
use lib.Bits.{bit_and, bit_or, bit_xor}
use Rattle.std.proofs.lemmas.List.{get_or-set_same, get_or-set_other}
use Rattle.std.proofs.lemmas.Option.{slice_get-get_or}
use Rattle.std.proofs.lemmas.Int.{ints}
use Rattle.std.proofs.lemmas.Bool.{and_from, lt-ltb, eq-eqb}
use Rattle.hands.specs.Carry.{carried}
use Rattle.hands.specs.Totals.{total}
use Rattle.hands.proofs.Ways.{granted}
use Rattle.kinds.specs.Papers.{bit, sized, size, papers, papers_tallies, can_give, can_take, given, taken, no_papers}
use Rattle.kinds.specs.declared.papers.Papers.{Papers}
use Rattle.kinds.specs.declared.certificate_set.CertificateSet.{CertificateSet}
use Rattle.kinds.specs.Bits.{none_there, falls, rises}
use Rattle.kinds.specs.Certificates.{given_bits, taken_bits}
use Rattle.rulebook.specs.Book.{Book}
use Rattle.ledger.specs.Crossings.{Crossing, pays, hands, moves, crossed, all_crossed, with_papers}
use Rattle.ledger.specs.Holdings.{company_of, papers_at}
use Rattle.ledger.specs.declared.books.Books.{Books}
use Rattle.ledger.specs.declared.company.Company.{Company}
use Rattle.promises.proofs.Counts.{sized_falls, sized_rises}
use Rattle.promises.proofs.Moved.{that_record, other_record}
use Rattle.promises.proofs.PaperRow.{two_parts}
use Rattle.promises.proofs.Sound.{Sound}

-- the sets of certificates by place, before and after one place gives some to another
pub record Given (c d : ℕ → ℕ) (i j bits : ℕ) : Type 0 where
  pub held : bit_and (c i) bits ≡ bits
  pub apart : bit_and (c j) bits ≡ 0
  pub gave : d i ≡ bit_xor (c i) bits
  pub took : d j ≡ bit_or (c j) bits
  pub others : (p : ℕ) → p ≢ i → p ≢ j → d p ≡ c p

-- the same in tenths, and in the director's certificate
pub record Handed (t d u e : ℕ → ℕ) (i j x y : ℕ) : Type 0 where
  pub gave : u i + x ≡ t i
  pub took : u j ≡ t j + x
  pub gave_director : e i + y ≡ d i
  pub took_director : e j ≡ d j + y
  pub others : (p : ℕ) → p ≢ i → p ≢ j → u p ≡ t p
  pub others_director : (p : ℕ) → p ≢ i → p ≢ j → e p ≡ d p

pub in_tenths : (c d : ℕ → ℕ) (i j bits : ℕ) → Given c d i j bits
    → Handed (λ p. sized size 0 9 (c p)) (λ p. bit 0 (c p)) (λ p. sized size 0 9 (d p)) (λ p. bit 0 (d p)) i j (sized size 0 9 bits) (bit 0 bits)
in_tenths c d i j bits g =
    record {
      gave = ap (λ set. sized size 0 9 set + sized size 0 9 bits) g.gave ∙ sized_falls size (c i) bits g.held;
      took = ap (sized size 0 9) g.took ∙ sized_rises size (c j) bits g.apart;
      gave_director = ap (λ set. bit 0 set + bit 0 bits) g.gave ∙ falls 0 (c i) bits g.held;
      took_director = ap (bit 0) g.took ∙ rises 0 (c j) bits g.apart;
      others = λ p ni nj. ap (sized size 0 9) (g.others p ni nj);
      others_director = λ p ni nj. ap (bit 0) (g.others p ni nj);
    }

module _ (row : List Papers) (i j bits : ℕ) (wide : length row ≡ 8) (one : (tag : ℕ) → total papers_tallies row tag ≤ℤ pos 1)
    (hi : i < 8) (hj : j < 8) (ne : i ≢ j) (small : bits < 512) (holds : bit_and (get_or row i no_papers).certificates bits ≡ bits) where
  abbrev load : CertificateSet
  load = record { bits = bits }

  abbrev a : Papers
  a = get_or row i no_papers

  abbrev b : Papers
  b = get_or row j no_papers

  not_there : bit_and b.certificates bits ≡ 0
  not_there =
      none_there 9 b.certificates bits b.nine small (λ tag.
      let f = falls tag a.certificates bits holds in
      let r = two_parts row i j tag ne in
      let o = one tag in
      omega (arith, ints, f, r, o))

  gives : can_give a load ≡ true
  gives = and_from _ _ (lt-ltb bits 512 small) (eq-eqb (bit_and a.certificates bits) bits holds)

  takes : can_take b load ≡ true
  takes = and_from _ _ (lt-ltb bits 512 small) (eq-eqb (bit_and b.certificates bits) 0 not_there)

  abbrev first : List Papers
  first = set row i (given a load)

  after_row : (carried papers row i j load).1 ≡ set first j (taken b load)
  after_row = ap (λ o. o.1) (granted papers row i j load a b (slice_get-get_or row i no_papers (omega arith)) (slice_get-get_or row j no_papers (omega arith)) ne gives takes)

  pub row_given : Given (λ p. (get_or row p no_papers).certificates) (λ p. (get_or (carried papers row i j load).1 p no_papers).certificates) i j bits
  row_given =
      let l = length-set row i (given a load) in
      record {
        held = holds;
        apart = not_there;
        gave =
            ap (λ (r : List Papers). (get_or r i no_papers).certificates) after_row
            ∙ ap (λ (h : Papers). h.certificates) (get_or-set_other first j i (taken b load) no_papers ne ∙ get_or-set_same row i (given a load) no_papers (omega arith))
            ∙ given_bits a load gives;
        took =
            ap (λ (r : List Papers). (get_or r j no_papers).certificates) after_row
            ∙ ap (λ (h : Papers). h.certificates) (get_or-set_same first j (taken b load) no_papers (omega arith))
            ∙ taken_bits b load takes;
        others = λ p ni nj.
            ap (λ (r : List Papers). (get_or r p no_papers).certificates) after_row
            ∙ ap (λ (h : Papers). h.certificates) (get_or-set_other first j p (taken b load) no_papers nj ∙ get_or-set_other row i p (given a load) no_papers ni);
      }

-- the tenths and the director's certificate of a company, by place
abbrev pub tens : Books → ℕ → ℕ → ℕ
tens s company place = sized size 0 9 (papers_at s company place).certificates

abbrev pub heads : Books → ℕ → ℕ → ℕ
heads s company place = bit 0 (papers_at s company place).certificates

module _ (b : Book) (s : Books) (ok : Sound b s) (company i j bits : ℕ) (low : 1 ≤ company) (high : company ≤ 8)
    (hi : i < 8) (hj : j < 8) (ne : i ≢ j) (small : bits < 512) (holds : bit_and (papers_at s company i).certificates bits ≡ bits) where
  abbrev x : Crossing
  x = hands company i j bits

  pub hands_given : Given (λ p. (papers_at s company p).certificates) (λ p. (papers_at (crossed s x) company p).certificates) i j bits
  hands_given =
      let row = (company_of s company).papers in
      let load : CertificateSet = record { bits = bits } in
      let next : Company = with_papers (company_of s company) (carried papers row i j load).1 in
      subst (λ (c : Company). Given (λ p. (papers_at s company p).certificates) (λ p. (get_or c.papers p no_papers).certificates) i j bits)
      (sym (that_record s company next ok.records_wide low high))
      (row_given row i j bits (ok.papers_wide company) (ok.papers_once company) hi hj ne small holds)

  pub hands_tenths : Handed (λ p. tens s company p) (λ p. heads s company p) (λ p. tens (crossed s x) company p) (λ p. heads (crossed s x) company p) i j (sized size 0 9 bits) (bit 0 bits)
  hands_tenths = in_tenths (λ p. (papers_at s company p).certificates) (λ p. (papers_at (crossed s x) company p).certificates) i j bits hands_given

-- crossings that move no certificate of another company
abbrev pub Only : ℕ → List Crossing → Type 0
Only company [] = Unit {0}
Only company (pays giver receiver marks ∷ xs) = Only company xs
Only company (hands of giver receiver bits ∷ xs) = (of ≡ company) × Only company xs
Only company (moves giver receiver load ∷ xs) = Only company xs

pub only_there : (company other : ℕ) → 1 ≤ company → 1 ≤ other → other ≢ company → (s : Books) (xs : List Crossing) → Only company xs → company_of (all_crossed s xs) other ≡ company_of s other
only_there company other low from ne s [] o = refl
only_there company other low from ne s (pays giver receiver marks ∷ xs) o = only_there company other low from ne (crossed s (pays giver receiver marks)) xs o
only_there company other low from ne s (hands of giver receiver bits ∷ xs) o =
    only_there company other low from ne (crossed s (hands of giver receiver bits)) xs o.1
    ∙ other_record s of other _ (subst (λ (n : ℕ). 1 ≤ n) (sym o.0) low) from (λ e. ne (e ∙ o.0))
only_there company other low from ne s (moves giver receiver load ∷ xs) o = only_there company other low from ne (crossed s (moves giver receiver load)) xs o

pub players_kept : (s : Books) (xs : List Crossing) → (all_crossed s xs).players ≡ s.players
players_kept s [] = refl
players_kept s (pays giver receiver marks ∷ xs) = players_kept (crossed s (pays giver receiver marks)) xs
players_kept s (hands of giver receiver bits ∷ xs) = players_kept (crossed s (hands of giver receiver bits)) xs
players_kept s (moves giver receiver load ∷ xs) = players_kept (crossed s (moves giver receiver load)) xs
