-- Calls, lives and their moments.
use Rattle.std.specs.Prelude.{List, [], Ok, Err}
use Rattle.rulebook.specs.Book.{Book}
use Rattle.ledger.specs.Answers.{Answer}
use Rattle.ledger.specs.Crossings.{Crossing}
use Rattle.ledger.specs.Stock.{sell_answer, sell_crossings, sell_after, buy_answer, buy_crossings, buy_after, end_answer, end_after, close_answer, close_after}
use Rattle.ledger.specs.Operating.{bill_answer, bill_crossings, bill_after, payout_answer, payout_crossings, payout_after, train_answer, train_crossings, train_after, done_answer, done_after, reopen_answer, reopen_after}
use Rattle.ledger.specs.declared.books.Books.{Books}
use Rattle.ledger.specs.declared.call.Call.{Call}
use Rattle.ledger.specs.declared.call.Call.TheVariants.{Sell, Buy, End, Close, Bill, Payout, Train, Done, Reopen}

-- the first refusal that applies, or granted
abbrev pub answer : Book → Books → Call → Answer
answer b s (Sell card seat company tenths) = sell_answer b s card seat company tenths
answer b s (Buy card seat company source par) = buy_answer b s card seat company source par
answer b s (End card seat) = end_answer s card seat
answer b s (Close card) = close_answer s card
answer b s (Bill card company amount) = bill_answer s card company amount
answer b s (Payout card company mode revenue) = payout_answer b s card company mode revenue
answer b s (Train card company kind) = train_answer b s card company kind
answer b s (Done card company) = done_answer b s card company
answer b s (Reopen card) = reopen_answer s card

-- what crosses where the call is granted
abbrev pub crossings_of : Book → Books → Call → List Crossing
crossings_of b s (Sell card seat company tenths) = sell_crossings b s seat company tenths
crossings_of b s (Buy card seat company source par) = buy_crossings b s seat company source par
crossings_of b s (End card seat) = []
crossings_of b s (Close card) = []
crossings_of b s (Bill card company amount) = bill_crossings s company amount
crossings_of b s (Payout card company mode revenue) = payout_crossings s company (b.split mode revenue)
crossings_of b s (Train card company kind) = train_crossings b s company kind
crossings_of b s (Done card company) = []
crossings_of b s (Reopen card) = []

abbrev pub granted_after : Book → Books → Call → Books
granted_after b s (Sell card seat company tenths) = sell_after b s seat company tenths
granted_after b s (Buy card seat company source par) = buy_after b s seat company source par
granted_after b s (End card seat) = end_after s seat
granted_after b s (Close card) = close_after b s
granted_after b s (Bill card company amount) = bill_after s company amount
granted_after b s (Payout card company mode revenue) = payout_after b s company mode revenue
granted_after b s (Train card company kind) = train_after b s company kind
granted_after b s (Done card company) = done_after b s company
granted_after b s (Reopen card) = reopen_after s

abbrev pub if_granted : {A : Type 0} → Answer → A → A → A
if_granted (Ok _) yes_granted not_granted = yes_granted
if_granted (Err why) yes_granted not_granted = not_granted

-- a refused call leaves the books as they were, and nothing crosses
abbrev pub after : Book → Books → Call → Books
after b s c = if_granted (answer b s c) (granted_after b s c) s

abbrev pub crossings : Book → Books → Call → List Crossing
crossings b s c = if_granted (answer b s c) (crossings_of b s c) []
