-- What it is to make the moves of a call.
use Rattle.std.specs.Prelude.{◌≡◌, ℕ, List, [], ◌++◌, slice_index_or, slice_set}
use Rattle.ledger.specs.Crossings.{Crossing, all_crossed, with_papers}
use Rattle.ledger.specs.Holdings.{no_company}
use Rattle.ledger.specs.declared.books.Books.{Books}
use Rattle.ledger.specs.declared.company.Company.{Company}
use Rattle.hands.specs.Carry.{carried as carried_papers}
use Rattle.kinds.specs.Papers.{papers}
use Rattle.kinds.specs.declared.certificate_set.CertificateSet.{CertificateSet}

-- the records of the companies after a carry of papers of the one at a place
abbrev pub papers_carried : List Company → ℕ → ℕ → ℕ → CertificateSet → List Company
papers_carried rows at giver receiver load =
    let c = slice_index_or rows at no_company in
    slice_set rows at (with_papers c (carried_papers papers c.papers giver receiver load).1)

-- no crossing moves nothing; one list of crossings and then another are both; and the books are those after all the crossings
pub record MoveLaws {M : Type 0} (books_of : M → Books) (Moved : M → List Crossing → M → Type 0) : Type 0 where
  pub nothing : (s : M) → Moved s [] s
  pub both : (s t u : M) (xs ys : List Crossing) → Moved s xs t → Moved t ys u → Moved s (xs ++ ys) u
  pub kept : (s t : M) (xs : List Crossing) → Moved s xs t → books_of t ≡ all_crossed (books_of s) xs
