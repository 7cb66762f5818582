-- What is noted beside the crossings changes no hand, and leaves sound books sound.
use Rattle.std.proofs.Common.{◌≡◌, ℕ, ◌-◌, List, length, get_or, pos, ◌≤ℤ◌, sym, refl, ap, ◌∙◌, subst, length-set}
use Rattle.kinds.specs.Papers.{papers_tallies, no_papers}
use Rattle.kinds.specs.declared.papers.Papers.{Papers}
use Rattle.rulebook.specs.Book.{Book}
use Rattle.ledger.specs.Crossings.{with_company}
use Rattle.ledger.specs.Holdings.{no_company, company_of}
use Rattle.ledger.specs.Stock.{with_round}
use Rattle.ledger.specs.declared.books.Books.{Books}
use Rattle.ledger.specs.declared.books.Stock.{Stock}
use Rattle.ledger.specs.declared.books.Operating.{Operating}
use Rattle.ledger.specs.declared.company.Company.{Company}
use Rattle.promises.specs.Accounts.{HandOf, cash_hand, paper_hand, train_hand, tally_of}
use Rattle.promises.proofs.Records.{by_record}
use Rattle.promises.proofs.Sound.{Sound}
use Rattle.promises.proofs.Totals.{papers_kept}

module _ (s : Books) (company : ℕ) (r : Company) (same : r.papers ≡ (company_of s company).papers) where
  -- the papers of every company stay
  pub papers_stay : (other : ℕ) → (company_of (with_company s company r) other).papers ≡ (company_of s other).papers
  papers_stay other =
      by_record s company r other (λ c. c.papers ≡ (company_of s other).papers) refl
      (λ e. same ∙ ap (λ n. (get_or s.companies n no_company).papers) (sym e))

  pub noted_hands : (h : HandOf) (tag : ℕ) → tally_of (with_company s company r) h tag ≡ tally_of s h tag
  noted_hands (cash_hand place) tag = refl
  noted_hands (paper_hand other place) tag = ap (λ (row : List Papers). papers_tallies.tally (get_or row place no_papers) tag) (papers_stay other)
  noted_hands (train_hand place) tag = refl

  pub noted_sound : (b : Book) → Sound b s → Sound b (with_company s company r)
  noted_sound b ok =
      record {
        seats = ok.seats;
        cash_row = ok.cash_row;
        trains_wide = ok.trains_wide;
        trains_sum = ok.trains_sum;
        records_wide = length-set s.companies (company - 1) r ∙ ok.records_wide;
        papers_wide = λ other. ap length (papers_stay other) ∙ ok.papers_wide other;
        papers_once = λ other tag. subst (λ z. z ≤ℤ pos 1) (sym (papers_kept s company r same other tag)) (ok.papers_once other tag);
        papers_all = λ other tag of inside. papers_kept s company r same other tag ∙ ok.papers_all other tag of inside;
      }

pub turned_sound : (b : Book) (s : Books) → Sound b s → (round : ℕ) (stock : Stock) (operating : Operating) → Sound b (with_round s round stock operating)
turned_sound b s ok round stock operating =
    record {
      seats = ok.seats;
      cash_row = ok.cash_row;
      trains_wide = ok.trains_wide;
      trains_sum = ok.trains_sum;
      records_wide = ok.records_wide;
      papers_wide = ok.papers_wide;
      papers_once = ok.papers_once;
      papers_all = ok.papers_all;
    }

pub turned_hands : (s : Books) (round : ℕ) (stock : Stock) (operating : Operating) (h : HandOf) (tag : ℕ) → tally_of (with_round s round stock operating) h tag ≡ tally_of s h tag
turned_hands s round stock operating (cash_hand place) tag = refl
turned_hands s round stock operating (paper_hand company place) tag = refl
turned_hands s round stock operating (train_hand place) tag = refl
