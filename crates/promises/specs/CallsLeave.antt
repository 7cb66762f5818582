-- What each granted call leaves in the hands, at every moment of every life.
use Rattle.std.specs.Prelude.{◌≡◌, ℕ, ◌+◌, ◌*◌, ◌<◌, ◌≤◌, true, false, ◌≢◌, List, pos, ◌+ℤ◌, ◌-ℤ◌, Some, Ok}
use Rattle.rulebook.specs.Book.{Book}
use Rattle.rulebook.specs.Lawful.{Lawful}
use Rattle.rulebook.specs.declared.split.Split.{Split}
use Rattle.ledger.specs.Holdings.{bank, treasury, pool, seat_papers, stack, marks_at, tenths_at, seat_tenths, trains_held, director, price_of, largest_other}
use Rattle.ledger.specs.Lives.{answer, after}
use Rattle.ledger.specs.Opening.{opened}
use Rattle.ledger.specs.Operating.{payout_sum, needs_help}
use Rattle.ledger.specs.Stock.{another_leads, buys_director, bought_size, payee, cost, floats, float_money}
use Rattle.ledger.specs.declared.books.Books.{Books}
use Rattle.ledger.specs.declared.call.Call.{Call}
use Rattle.ledger.specs.declared.call.Call.TheVariants.{Sell, Buy, End, Close, Bill, Payout, Train, Done, Reopen}
use Rattle.promises.specs.Accounts.{paper_hand, tally_of}
use Rattle.promises.specs.Lives.{lived}

-- each certificate of the company is where it was
abbrev pub SamePapers : Books → Books → ℕ → Type 0
SamePapers s t company = (place number : ℕ) → tally_of t (paper_hand company place) number ≡ tally_of s (paper_hand company place) number

abbrev pub AllPapersSame : Books → Books → Type 0
AllPapersSame s t = (company : ℕ) → 1 ≤ company → company ≤ 8 → SamePapers s t company

abbrev pub AllTrainsSame : Books → Books → Type 0
AllTrainsSame s t = (place kind : ℕ) → trains_held t place kind ≡ trains_held s place kind

-- every hand is as it was
pub record NothingMoves (s t : Books) : Type 0 where
  pub same_cash : (place : ℕ) → marks_at t place ≡ marks_at s place
  pub same_papers : AllPapersSame s t
  pub same_trains : AllTrainsSame s t

-- the company pays the bank
pub record BillLeaves (s t : Books) (company amount : ℕ) : Type 0 where
  pub company_pays : marks_at t (treasury s company) ≡ marks_at s (treasury s company) -ℤ pos amount
  pub bank_gets : marks_at t bank ≡ marks_at s bank +ℤ pos amount
  pub other_cash : (place : ℕ) → place ≢ bank → place ≢ treasury s company → marks_at t place ≡ marks_at s place
  pub same_papers : AllPapersSame s t
  pub same_trains : AllTrainsSame s t

-- the bank pays each seat the dividend for each of its tenths, and the company what it keeps and the dividend for each tenth in the pool
pub record PayoutLeaves (s t : Books) (company : ℕ) (split : Split) : Type 0 where
  pub seat_gets : (seat : ℕ) → 1 ≤ seat → seat ≤ s.players → marks_at t seat ≡ marks_at s seat +ℤ pos (split.dividend * seat_tenths s company seat)
  pub company_gets : marks_at t (treasury s company) ≡ marks_at s (treasury s company) +ℤ pos (split.kept + split.dividend * tenths_at s company pool)
  pub bank_pays : marks_at t bank ≡ marks_at s bank -ℤ pos (payout_sum s company split)
  pub other_cash : (place : ℕ) → s.players + 1 ≤ place → place ≢ treasury s company → marks_at t place ≡ marks_at s place
  pub same_papers : AllPapersSame s t
  pub same_trains : AllTrainsSame s t

-- one train of the kind comes from the stack to the company
pub record TrainMoves (s t : Books) (company kind : ℕ) : Type 0 where
  pub company_gets : trains_held t company kind ≡ trains_held s company kind + 1
  pub stack_gives : trains_held t stack kind + 1 ≡ trains_held s stack kind
  pub other_kinds : (place other : ℕ) → other ≢ kind → trains_held t place other ≡ trains_held s place other
  pub other_hands : (place other : ℕ) → place ≢ company → place ≢ stack → trains_held t place other ≡ trains_held s place other

-- the company pays the bank the price
pub record TrainAloneLeaves (s t : Books) (company kind price : ℕ) : Type 0 where
  pub company_pays : marks_at t (treasury s company) ≡ marks_at s (treasury s company) -ℤ pos price
  pub bank_gets : marks_at t bank ≡ marks_at s bank +ℤ pos price
  pub other_cash : (place : ℕ) → place ≢ bank → place ≢ treasury s company → marks_at t place ≡ marks_at s place
  pub same_papers : AllPapersSame s t
  pub train_moves : TrainMoves s t company kind

-- the company pays all that it has, and the director what is missing
pub record TrainHelpedLeaves (s t : Books) (company kind price seat : ℕ) : Type 0 where
  pub director_pays : marks_at t seat ≡ marks_at s seat -ℤ (pos price -ℤ marks_at s (treasury s company))
  pub company_empty : marks_at t (treasury s company) ≡ pos 0
  pub bank_gets : marks_at t bank ≡ marks_at s bank +ℤ pos price
  pub other_cash : (place : ℕ) → place ≢ bank → place ≢ treasury s company → place ≢ seat → marks_at t place ≡ marks_at s place
  pub same_papers : AllPapersSame s t
  pub train_moves : TrainMoves s t company kind

-- the bank pays the seller the price, as it stood, for each tenth
pub record SaleLeaves (s t : Books) (seat company money : ℕ) : Type 0 where
  pub seller_gets : marks_at t seat ≡ marks_at s seat +ℤ pos money
  pub bank_pays : marks_at t bank ≡ marks_at s bank -ℤ pos money
  pub other_cash : (place : ℕ) → place ≢ bank → place ≢ seat → marks_at t place ≡ marks_at s place
  pub other_papers : (other : ℕ) → 1 ≤ other → other ≤ 8 → other ≢ company → SamePapers s t other
  pub same_trains : AllTrainsSame s t

-- of that company, the tenths come from the seller to the pool; where another seat becomes director, it keeps its tenths too
pub record TenthsSold (s t : Books) (seat company tenths : ℕ) : Type 0 where
  pub seller_gives : seat_tenths t company seat + tenths ≡ seat_tenths s company seat
  pub pool_gets : tenths_at t company pool ≡ tenths_at s company pool + tenths
  pub others_keep : (place : ℕ) → place ≢ seat_papers seat → place ≢ pool → tenths_at t company place ≡ tenths_at s company place

-- where the seller is director and keeps fewer tenths than another seat has, the largest other holder is director afterwards; else nothing changes
pub record SaleDirects (s t : Books) (seat company tenths : ℕ) : Type 0 where
  pub another : another_leads s seat company tenths ≡ true → director t company ≡ Some (largest_other s company seat)
  pub as_before : another_leads s seat company tenths ≡ false → director t company ≡ director s company

-- the buyer pays the payee the cost
pub record PurchaseLeaves (s t : Books) (seat company to money : ℕ) : Type 0 where
  pub buyer_pays : marks_at t seat ≡ marks_at s seat -ℤ pos money
  pub payee_gets : marks_at t to ≡ marks_at s to +ℤ pos money
  pub other_cash : (place : ℕ) → place ≢ seat → place ≢ to → marks_at t place ≡ marks_at s place
  pub other_papers : (other : ℕ) → 1 ≤ other → other ≤ 8 → other ≢ company → SamePapers s t other
  pub same_trains : AllTrainsSame s t

-- the buyer pays the bank the cost, and the bank the company its first money
pub record FloatLeaves (s t : Books) (seat company money first : ℕ) : Type 0 where
  pub buyer_pays : marks_at t seat ≡ marks_at s seat -ℤ pos money
  pub bank_gets_and_pays : marks_at t bank ≡ marks_at s bank +ℤ pos money -ℤ pos first
  pub company_gets : marks_at t (treasury s company) ≡ marks_at s (treasury s company) +ℤ pos first
  pub other_cash : (place : ℕ) → place ≢ seat → place ≢ bank → place ≢ treasury s company → marks_at t place ≡ marks_at s place
  pub other_papers : (other : ℕ) → 1 ≤ other → other ≤ 8 → other ≢ company → SamePapers s t other
  pub same_trains : AllTrainsSame s t

-- of that company, the tenths come from the source to the buyer; where the buyer becomes director, both keep their tenths
pub record TenthsBought (s t : Books) (seat company source tenths : ℕ) : Type 0 where
  pub buyer_gets : seat_tenths t company seat ≡ seat_tenths s company seat + tenths
  pub source_gives : tenths_at t company source + tenths ≡ tenths_at s company source
  pub others_keep : (place : ℕ) → place ≢ seat_papers seat → place ≢ source → tenths_at t company place ≡ tenths_at s company place

-- the buyer is director afterwards where he buys the director's certificate, or then has more tenths than the director; else nothing changes
pub record PurchaseDirects (s t : Books) (seat company source : ℕ) : Type 0 where
  pub first : buys_director s company source ≡ true → director t company ≡ Some seat
  pub overtaken : (old : ℕ) → director s company ≡ Some old → old ≢ seat → seat_tenths s company old < seat_tenths s company seat + bought_size s company source → director t company ≡ Some seat
  pub as_before : buys_director s company source ≡ false
      → ((old : ℕ) → director s company ≡ Some old → old ≢ seat → seat_tenths s company seat + bought_size s company source ≤ seat_tenths s company old)
      → director t company ≡ director s company

pub record Leaves (b : Book) (s : Books) : Type 0 where
  pub end : (card seat : ℕ) → answer b s (End card seat) ≡ Ok tt → NothingMoves s (after b s (End card seat))
  pub close : (card : ℕ) → answer b s (Close card) ≡ Ok tt → NothingMoves s (after b s (Close card))
  pub done : (card company : ℕ) → answer b s (Done card company) ≡ Ok tt → NothingMoves s (after b s (Done card company))
  pub reopen : (card : ℕ) → answer b s (Reopen card) ≡ Ok tt → NothingMoves s (after b s (Reopen card))
  pub bill : (card company amount : ℕ) → answer b s (Bill card company amount) ≡ Ok tt → BillLeaves s (after b s (Bill card company amount)) company amount
  pub payout : (card company mode revenue : ℕ) → answer b s (Payout card company mode revenue) ≡ Ok tt → (split : Split) → b.split mode revenue ≡ Some split → PayoutLeaves s (after b s (Payout card company mode revenue)) company split
  pub train_alone : (card company kind : ℕ) → answer b s (Train card company kind) ≡ Ok tt → needs_help s company (b.train_price kind) ≡ false → TrainAloneLeaves s (after b s (Train card company kind)) company kind (b.train_price kind)
  -- where help is needed, there is a director
  pub train_helper : (card company kind : ℕ) → answer b s (Train card company kind) ≡ Ok tt → needs_help s company (b.train_price kind) ≡ true → (seat : ℕ) × (director s company ≡ Some seat)
  pub train_helped : (card company kind : ℕ) → answer b s (Train card company kind) ≡ Ok tt → needs_help s company (b.train_price kind) ≡ true → (seat : ℕ) → director s company ≡ Some seat
      → TrainHelpedLeaves s (after b s (Train card company kind)) company kind (b.train_price kind) seat
  pub sale : (card seat company tenths : ℕ) → answer b s (Sell card seat company tenths) ≡ Ok tt → SaleLeaves s (after b s (Sell card seat company tenths)) seat company (tenths * price_of b s company)
  pub sale_tenths : (card seat company tenths : ℕ) → answer b s (Sell card seat company tenths) ≡ Ok tt → TenthsSold s (after b s (Sell card seat company tenths)) seat company tenths
  pub sale_director : (card seat company tenths : ℕ) → answer b s (Sell card seat company tenths) ≡ Ok tt → SaleDirects s (after b s (Sell card seat company tenths)) seat company tenths
  pub purchase : (card seat company source space : ℕ) → answer b s (Buy card seat company source space) ≡ Ok tt → floats b s company source ≡ false
      → PurchaseLeaves s (after b s (Buy card seat company source space)) seat company (payee b s company source) (cost b s company source space)
  pub float : (card seat company source space : ℕ) → answer b s (Buy card seat company source space) ≡ Ok tt → floats b s company source ≡ true
      → FloatLeaves s (after b s (Buy card seat company source space)) seat company (cost b s company source space) (float_money b s company source space)
  pub purchase_tenths : (card seat company source space : ℕ) → answer b s (Buy card seat company source space) ≡ Ok tt
      → TenthsBought s (after b s (Buy card seat company source space)) seat company source (bought_size s company source)
  pub purchase_director : (card seat company source space : ℕ) → answer b s (Buy card seat company source space) ≡ Ok tt
      → PurchaseDirects s (after b s (Buy card seat company source space)) seat company source

abbrev pub CallsLeave : Type 0
CallsLeave = (b : Book) → Lawful b → (players cash : ℕ) → b.opening players ≡ Some cash → (life : List Call) → Leaves b (lived b (opened b players cash) life)
