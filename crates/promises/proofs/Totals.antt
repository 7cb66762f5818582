-- Every crossing, and so every call, keeps the totals.
use Rattle.std.proofs.Common.{◌≡◌, ℕ, List, [], ◌∷◌, get_or, Ok, Err, sym, refl, ap, ◌∙◌, subst}
use Rattle.hands.specs.Carry.{carried}
use Rattle.hands.specs.Totals.{TotalsKept}
use Rattle.hands.proofs.Kept.{totals_kept}
use Rattle.kinds.specs.Cash.{cash, cash_tallies}
use Rattle.kinds.specs.Papers.{papers, papers_tallies}
use Rattle.kinds.specs.Trains.{trains, trains_tallies}
use Rattle.kinds.specs.Marks.{cash_laws}
use Rattle.kinds.specs.Certificates.{papers_laws}
use Rattle.kinds.specs.Rolling.{trains_laws}
use Rattle.kinds.specs.declared.papers.Papers.{Papers}
use Rattle.rulebook.specs.Book.{Book}
use Rattle.ledger.specs.Answers.{Answer}
use Rattle.ledger.specs.Crossings.{Crossing, pays, hands, moves, crossed, all_crossed, with_company}
use Rattle.ledger.specs.Holdings.{no_company, company_of}
use Rattle.ledger.specs.Lives.{answer, granted_after, if_granted, after}
use Rattle.ledger.specs.Stock.{sell_crossings, buy_crossings}
use Rattle.ledger.specs.Operating.{bill_crossings, payout_crossings, train_crossings}
use Rattle.ledger.specs.declared.books.Books.{Books}
use Rattle.ledger.specs.declared.company.Company.{Company}
use Rattle.ledger.specs.declared.call.Call.{Call}
use Rattle.ledger.specs.declared.call.Call.TheVariants.{Sell, Buy, End, Close, Bill, Payout, Train, Done, Reopen}
use Rattle.promises.specs.Conservation.{SameTotals}
use Rattle.promises.proofs.Records.{by_record}

pub unchanged : (s : Books) → SameTotals s s
unchanged s = record { cash = λ tag. refl; papers = λ company tag. refl; trains = λ tag. refl }

pub one_after_the_other : (s t u : Books) → SameTotals s t → SameTotals t u → SameTotals s u
one_after_the_other s t u p q =
    record {
      cash = λ tag. q.cash tag ∙ p.cash tag;
      papers = λ company tag. q.papers company tag ∙ p.papers company tag;
      trains = λ tag. q.trains tag ∙ p.trains tag;
    }

-- a record is changed, but not its papers
pub papers_kept : (s : Books) (company : ℕ) (r : Company) → r.papers ≡ (company_of s company).papers → (other : ℕ) → TotalsKept papers_tallies (company_of s other).papers (company_of (with_company s company r) other).papers
papers_kept s company r e other =
    by_record s company r other (λ c. TotalsKept papers_tallies (company_of s other).papers c.papers)
    (λ tag. refl)
    (λ same. subst (λ (row : List Papers). TotalsKept papers_tallies (company_of s other).papers row) (ap (λ n. (get_or s.companies n no_company).papers) same ∙ sym e) (λ tag. refl))

pub crossing_keeps : (s : Books) (x : Crossing) → SameTotals s (crossed s x)
crossing_keeps s (pays giver receiver marks) =
    record { cash = totals_kept cash s.cash giver receiver marks cash_tallies cash_laws; papers = λ company tag. refl; trains = λ tag. refl }
crossing_keeps s (hands company giver receiver bits) =
    let row = (company_of s company).papers in
    record {
      cash = λ tag. refl;
      papers = λ other.
          by_record s company _ other (λ c. TotalsKept papers_tallies (company_of s other).papers c.papers)
          (λ tag. refl)
          (λ same. subst (λ (n : ℕ). TotalsKept papers_tallies (get_or s.companies n no_company).papers (carried papers row giver receiver (record { bits = bits })).1) (sym same) (totals_kept papers row giver receiver (record { bits = bits }) papers_tallies papers_laws));
      trains = λ tag. refl;
    }
crossing_keeps s (moves giver receiver load) =
    record { cash = λ tag. refl; papers = λ company tag. refl; trains = totals_kept trains s.trains giver receiver load trains_tallies trains_laws }

pub crossings_keep : (s : Books) (xs : List Crossing) → SameTotals s (all_crossed s xs)
crossings_keep s [] = unchanged s
crossings_keep s (x ∷ xs) = one_after_the_other s (crossed s x) (all_crossed (crossed s x) xs) (crossing_keeps s x) (crossings_keep (crossed s x) xs)

-- after the crossings one record is changed, but not its papers
noted : (s t : Books) (company : ℕ) (r : Company) → SameTotals s t → r.papers ≡ (company_of t company).papers → SameTotals s (with_company t company r)
noted s t company r p e =
    one_after_the_other s t (with_company t company r) p
    (record { cash = λ tag. refl; papers = papers_kept t company r e; trains = λ tag. refl })

pub granted_keeps : (b : Book) (s : Books) (c : Call) → SameTotals s (granted_after b s c)
granted_keeps b s (Sell card seat company tenths) =
    let t = all_crossed s (sell_crossings b s seat company tenths) in
    let n = noted s t company _ (crossings_keep s (sell_crossings b s seat company tenths)) refl in
    record { cash = n.cash; papers = n.papers; trains = n.trains }
granted_keeps b s (Buy card seat company source par) =
    let t = all_crossed s (buy_crossings b s seat company source par) in
    let n = noted s t company _ (crossings_keep s (buy_crossings b s seat company source par)) refl in
    record { cash = n.cash; papers = n.papers; trains = n.trains }
granted_keeps b s (End card seat) = record { cash = λ tag. refl; papers = λ company tag. refl; trains = λ tag. refl }
granted_keeps b s (Close card) = record { cash = λ tag. refl; papers = λ company tag. refl; trains = λ tag. refl }
granted_keeps b s (Bill card company amount) = crossings_keep s (bill_crossings s company amount)
granted_keeps b s (Payout card company mode revenue) =
    let t = all_crossed s (payout_crossings s company (b.split mode revenue)) in
    let n = noted s t company _ (crossings_keep s (payout_crossings s company (b.split mode revenue))) refl in
    record { cash = n.cash; papers = n.papers; trains = n.trains }
granted_keeps b s (Train card company kind) = crossings_keep s (train_crossings b s company kind)
granted_keeps b s (Done card company) =
    let n = noted s s company _ (unchanged s) refl in
    record { cash = n.cash; papers = n.papers; trains = n.trains }
granted_keeps b s (Reopen card) = record { cash = λ tag. refl; papers = λ company tag. refl; trains = λ tag. refl }

by_answer : (b : Book) (s : Books) (c : Call) (a : Answer) → SameTotals s (if_granted a (granted_after b s c) s)
by_answer b s c (Ok _) = granted_keeps b s c
by_answer b s c (Err why) = unchanged s

pub calls_keep : (b : Book) (s : Books) (c : Call) → SameTotals s (after b s c)
calls_keep b s c = by_answer b s c (answer b s c)
