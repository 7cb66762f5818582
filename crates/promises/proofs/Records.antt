-- One company's record is changed, and the others are not.
use Rattle.std.proofs.Common.{◌≡◌, ℕ, ◌-◌, ◌⊎◌, length, get_or, set, sym, ap, ◌∙◌, subst, inl, inr, ⊎_elim}
use Rattle.std.proofs.lemmas.List.{get_or-set_same, get_or-set_other, set_past}
use Rattle.std.proofs.lemmas.Bool.{cases_lt, cases_eq}
use Rattle.ledger.specs.Crossings.{with_company}
use Rattle.ledger.specs.Holdings.{no_company, company_of}
use Rattle.ledger.specs.declared.books.Books.{Books}
use Rattle.ledger.specs.declared.company.Company.{Company}

module _ (s : Books) (company : ℕ) (r : Company) (other : ℕ) where
  -- it stays as it was, or it is the one changed
  pub record_then : (company_of (with_company s company r) other ≡ company_of s other) ⊎ ((company_of (with_company s company r) other ≡ r) × (other - 1 ≡ company - 1))
  record_then =
      ⊎_elim
      (λ same.
      ⊎_elim
      (λ inside. inr (ap (λ n. get_or (set s.companies (company - 1) r) n no_company) same ∙ get_or-set_same s.companies (company - 1) r no_company inside, same))
      (λ past. inl (ap (λ l. get_or l (other - 1) no_company) (set_past s.companies (company - 1) r past)))
      (cases_lt (company - 1) (length s.companies)))
      (λ differ. inl (get_or-set_other s.companies (company - 1) (other - 1) r no_company differ))
      (cases_eq (other - 1) (company - 1))

  -- what holds of the records before, and of the new one where it stands, holds of each
  pub by_record : (P : Company → Type 0) → P (company_of s other) → (other - 1 ≡ company - 1 → P r) → P (company_of (with_company s company r) other)
  by_record P kept changed = ⊎_elim (λ e. subst P (sym e) kept) (λ p. subst P (sym p.0) (changed p.1)) record_then
