-- What holds of the books at every moment, and every crossing keeps.
use Rattle.std.proofs.Common.{◌≡◌, ℕ, ◌-◌, ◌<◌, ◌≤◌, List, [], ◌∷◌, length, pos, ◌≤ℤ◌, sym, refl, ◌∙◌, subst, length-set}
use Rattle.hands.specs.Carry.{carried}
use Rattle.hands.specs.Totals.{total}
use Rattle.hands.proofs.Floors.{same_length}
use Rattle.kinds.specs.Papers.{papers, papers_tallies}
use Rattle.kinds.specs.Trains.{trains, trains_tallies}
use Rattle.rulebook.specs.Book.{Book}
use Rattle.rulebook.specs.Lawful.{Between}
use Rattle.ledger.specs.Crossings.{Crossing, pays, hands, moves, crossed, all_crossed, with_papers}
use Rattle.ledger.specs.Holdings.{company_of}
use Rattle.ledger.specs.declared.books.Books.{Books}
pub use Rattle.promises.specs.Carried.{Carriable}
use Rattle.promises.proofs.CashRow.{BankRow, pay_keeps}
use Rattle.promises.proofs.Records.{by_record}
use Rattle.promises.proofs.Totals.{crossing_keeps}

pub record Sound (b : Book) (s : Books) : Type 0 where
  pub seats : Between 2 6 s.players
  pub cash_row : BankRow b.bank s.cash
  pub trains_wide : length s.trains ≡ 9
  pub trains_sum : (kind : ℕ) → total trains_tallies s.trains kind ≡ pos (b.train_count kind)
  pub records_wide : length s.companies ≡ 8
  pub papers_wide : (company : ℕ) → length (company_of s company).papers ≡ 8
  pub papers_once : (company tag : ℕ) → total papers_tallies (company_of s company).papers tag ≤ℤ pos 1
  pub papers_all : (company tag : ℕ) → Between 1 b.companies company → tag < 9 → total papers_tallies (company_of s company).papers tag ≡ pos 1

module _ (b : Book) (few : b.bank ≤ 50000) where
  papers_wide_after : (s : Books) → Sound b s → (x : Crossing) (company : ℕ) → length (company_of (crossed s x) company).papers ≡ 8
  papers_wide_after s ok (pays giver receiver marks) company = ok.papers_wide company
  papers_wide_after s ok (hands of giver receiver bits) company =
      by_record s of _ company (λ c. length c.papers ≡ 8) (ok.papers_wide company)
      (λ _. same_length papers (company_of s of).papers giver receiver (record { bits = bits }) ∙ ok.papers_wide of)
  papers_wide_after s ok (moves giver receiver load) company = ok.papers_wide company

  cash_after : (s : Books) → Sound b s → (x : Crossing) → BankRow b.bank (crossed s x).cash
  cash_after s ok (pays giver receiver marks) = pay_keeps b.bank few s.cash ok.cash_row giver receiver marks
  cash_after s ok (hands of giver receiver bits) = ok.cash_row
  cash_after s ok (moves giver receiver load) = ok.cash_row

  trains_wide_after : (s : Books) → Sound b s → (x : Crossing) → length (crossed s x).trains ≡ 9
  trains_wide_after s ok (pays giver receiver marks) = ok.trains_wide
  trains_wide_after s ok (hands of giver receiver bits) = ok.trains_wide
  trains_wide_after s ok (moves giver receiver load) = same_length trains s.trains giver receiver load ∙ ok.trains_wide

  records_wide_after : (s : Books) → Sound b s → (x : Crossing) → length (crossed s x).companies ≡ 8
  records_wide_after s ok (pays giver receiver marks) = ok.records_wide
  records_wide_after s ok (hands of giver receiver bits) =
      length-set s.companies (of - 1) (with_papers (company_of s of) (carried papers (company_of s of).papers giver receiver (record { bits = bits })).1) ∙ ok.records_wide
  records_wide_after s ok (moves giver receiver load) = ok.records_wide

  players_after : (s : Books) (x : Crossing) → (crossed s x).players ≡ s.players
  players_after s (pays giver receiver marks) = refl
  players_after s (hands of giver receiver bits) = refl
  players_after s (moves giver receiver load) = refl

  pub crossing_sound : (s : Books) → Sound b s → (x : Crossing) → Sound b (crossed s x)
  crossing_sound s ok x =
      let same = crossing_keeps s x in
      record {
        seats = subst (λ n. Between 2 6 n) (sym (players_after s x)) ok.seats;
        cash_row = cash_after s ok x;
        trains_wide = trains_wide_after s ok x;
        trains_sum = λ kind. same.trains kind ∙ ok.trains_sum kind;
        records_wide = records_wide_after s ok x;
        papers_wide = papers_wide_after s ok x;
        papers_once = λ company tag. subst (λ z. z ≤ℤ pos 1) (sym (same.papers company tag)) (ok.papers_once company tag);
        papers_all = λ company tag of inside. same.papers company tag ∙ ok.papers_all company tag of inside;
      }

  pub crossings_sound : (s : Books) → Sound b s → (xs : List Crossing) → Sound b (all_crossed s xs)
  crossings_sound s ok [] = ok
  crossings_sound s ok (x ∷ xs) = crossings_sound (crossed s x) (crossing_sound s ok x) xs
