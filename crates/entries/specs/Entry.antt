-- What a record says, as plain numbers. Contracts go by entries, so a record that borrows from the file needs only a
-- view.
use Rattle.std.specs.Prelude.{ℕ}
use Rattle.entries.specs.declared.record.Record.{Record}
use Rattle.entries.specs.declared.record.Record.TheVariants.{Open, Sell, Buy, End, Close, Bill, Payout, Train, Done, Reopen}

pub data Entry : Type 0 where
  opens : (book players : ℕ) → Entry
  sells : (seat company tenths : ℕ) → Entry
  buys : (seat company source par_space : ℕ) → Entry
  ends : (seat : ℕ) → Entry
  closes : Entry
  bills : (company amount : ℕ) → Entry
  pays_out : (company mode revenue : ℕ) → Entry
  buys_train : (company kind : ℕ) → Entry
  is_done : (company : ℕ) → Entry
  reopens : Entry

abbrev pub view : Record → Entry
view (Open book players) = opens book players
view (Sell seat company tenths) = sells seat company tenths
view (Buy seat company source par_space) = buys seat company source par_space
view (End seat) = ends seat
view Close = closes
view (Bill company amount) = bills company amount
view (Payout company mode revenue) = pays_out company mode revenue
view (Train company kind) = buys_train company kind
view (Done company) = is_done company
view Reopen = reopens
