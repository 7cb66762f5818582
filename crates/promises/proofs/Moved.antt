-- A granted crossing changes each hand by what it receives less what it gives.
use Rattle.std.proofs.Common.{◌≡◌, ℕ, ◌-◌, ◌≤◌, ◌≢◌, List, [], ◌∷◌, length, get_or, ℤ, pos, ◌+ℤ◌, ◌-ℤ◌, Ok, ap, ◌∙◌, ⊎_elim, arith}
use Rattle.std.proofs.lemmas.List.{get_or-set_same, get_or-set_other}
use Rattle.std.proofs.lemmas.Int.{ints}
use Rattle.std.proofs.lemmas.Bool.{eq-eqb, ne_eqb, cases_eq}
use Rattle.hands.specs.Carry.{carried}
use Rattle.hands.proofs.Accounts.{granted_tally}
use Rattle.kinds.specs.Cash.{cash, cash_tallies}
use Rattle.kinds.specs.Papers.{papers, papers_tallies, no_papers}
use Rattle.kinds.specs.Trains.{trains, trains_tallies}
use Rattle.kinds.specs.declared.certificate_set.CertificateSet.{CertificateSet}
use Rattle.kinds.specs.Marks.{cash_laws}
use Rattle.kinds.specs.Certificates.{papers_laws}
use Rattle.kinds.specs.Rolling.{trains_laws}
use Rattle.ledger.specs.Crossings.{Crossing, pays, hands, moves, crossing_outcome, crossed, with_company, with_papers}
use Rattle.ledger.specs.Holdings.{no_cash, no_trains, no_company, company_of, papers_at}
use Rattle.ledger.specs.declared.books.Books.{Books}
use Rattle.ledger.specs.declared.company.Company.{Company}
use Rattle.promises.specs.Accounts.{HandOf, cash_hand, paper_hand, train_hand, OfATable, tally_of, receipt, gift}

-- the companies of a crossing are a table's
abbrev pub Within : Crossing → Type 0
Within (pays giver receiver marks) = Unit {0}
Within (hands company giver receiver bits) = (1 ≤ company) × (company ≤ 8)
Within (moves giver receiver load) = Unit {0}

nothing : (z : ℤ) → z ≡ z +ℤ pos 0 -ℤ pos 0
nothing z = omega (arith, ints)

pub that_record : (s : Books) (company : ℕ) (r : Company) → length s.companies ≡ 8 → 1 ≤ company → company ≤ 8 → company_of (with_company s company r) company ≡ r
that_record s company r wide low high = get_or-set_same s.companies (company - 1) r no_company (omega arith)

pub other_record : (s : Books) (company other : ℕ) (r : Company) → 1 ≤ company → 1 ≤ other → other ≢ company → company_of (with_company s company r) other ≡ company_of s other
other_record s company other r low high ne = get_or-set_other s.companies (company - 1) (other - 1) r no_company (λ e. ne (omega arith))

module _ (s : Books) (wide : length s.companies ≡ 8) where
  pub moved : (x : Crossing) → Within x → (crossing_outcome s x).0 ≡ Ok tt → (h : HandOf) → OfATable h → (tag : ℕ) → tally_of (crossed s x) h tag ≡ tally_of s h tag +ℤ pos (receipt x h tag) -ℤ pos (gift x h tag)
  moved (pays giver receiver marks) w ok (cash_hand place) o tag = granted_tally cash cash_tallies cash_laws s.cash giver receiver marks no_cash tag ok place
  moved (pays giver receiver marks) w ok (paper_hand company place) o tag = nothing (tally_of s (paper_hand company place) tag)
  moved (pays giver receiver marks) w ok (train_hand place) o tag = nothing (tally_of s (train_hand place) tag)
  moved (hands of giver receiver bits) w ok (cash_hand place) o tag = nothing (tally_of s (cash_hand place) tag)
  moved (hands of giver receiver bits) w ok (paper_hand company place) o tag =
      let row = (company_of s of).papers in
      let load : CertificateSet = record { bits = bits } in
      let next : Company = with_papers (company_of s of) (carried papers row giver receiver load).1 in
      ⊎_elim
      (λ same.
      let there = that_record s of next wide w.0 w.1 in
      let read = ap (λ n. papers_tallies.tally (get_or (company_of (with_company s of next) n).papers place no_papers) tag) same ∙ ap (λ c. papers_tallies.tally (get_or c.papers place no_papers) tag) there in
      let told = granted_tally papers papers_tallies papers_laws row giver receiver load no_papers tag ok place in
      let was = ap (λ n. papers_tallies.tally (papers_at s n place) tag) same in
      rw (eq-eqb company of same) (omega (arith, ints, read, told, was)))
      (λ differ.
      let kept = other_record s of company next w.0 o.0 differ in
      let read = ap (λ c. papers_tallies.tally (get_or c.papers place no_papers) tag) kept in
      rw (ne_eqb company of differ) (omega (arith, ints, read)))
      (cases_eq company of)
  moved (hands of giver receiver bits) w ok (train_hand place) o tag = nothing (tally_of s (train_hand place) tag)
  moved (moves giver receiver load) w ok (cash_hand place) o tag = nothing (tally_of s (cash_hand place) tag)
  moved (moves giver receiver load) w ok (paper_hand company place) o tag = nothing (tally_of s (paper_hand company place) tag)
  moved (moves giver receiver load) w ok (train_hand place) o tag = granted_tally trains trains_tallies trains_laws s.trains giver receiver load no_trains tag ok place

-- one crossing after the other
abbrev pub AllWithin : List Crossing → Type 0
AllWithin [] = Unit {0}
AllWithin (x ∷ xs) = Within x × AllWithin xs
