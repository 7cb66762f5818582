-- A record as the call that it asks for.
use Rattle.std.specs.Prelude.{ℕ, Bool, not, Some, None, Option}
use Rattle.faults.specs.declared.table.CallName.{CallName}
use Rattle.faults.specs.declared.table.CallName.TheVariants as name
use Rattle.entries.specs.Entry.{Entry, opens, sells, buys, ends, closes, bills, pays_out, buys_train, is_done, reopens}
use Rattle.ledger.specs.declared.call.Call.{Call}
use Rattle.ledger.specs.declared.call.Call.TheVariants.{Sell, Buy, End, Close, Bill, Payout, Train, Done, Reopen}

-- the call, made with a card of this number; an open is no call of a table that is there
abbrev pub call_of : ℕ → Entry → Option Call
call_of card (opens book players) = None
call_of card (sells seat company tenths) = Some (Sell card seat company tenths)
call_of card (buys seat company source par_space) = Some (Buy card seat company source par_space)
call_of card (ends seat) = Some (End card seat)
call_of card closes = Some (Close card)
call_of card (bills company amount) = Some (Bill card company amount)
call_of card (pays_out company mode revenue) = Some (Payout card company mode revenue)
call_of card (buys_train company kind) = Some (Train card company kind)
call_of card (is_done company) = Some (Done card company)
call_of card reopens = Some (Reopen card)

abbrev pub name_of : Call → CallName
name_of (Sell card seat company tenths) = name.Sell
name_of (Buy card seat company source par) = name.Buy
name_of (End card seat) = name.End
name_of (Close card) = name.Close
name_of (Bill card company amount) = name.Bill
name_of (Payout card company mode revenue) = name.Payout
name_of (Train card company kind) = name.Train
name_of (Done card company) = name.Done
name_of (Reopen card) = name.Reopen

-- does it belong to a stock round, or to an operating one?
abbrev pub belongs : Bool → Call → Bool
belongs stock (Sell card seat company tenths) = stock
belongs stock (Buy card seat company source par) = stock
belongs stock (End card seat) = stock
belongs stock (Close card) = stock
belongs stock (Bill card company amount) = not stock
belongs stock (Payout card company mode revenue) = not stock
belongs stock (Train card company kind) = not stock
belongs stock (Done card company) = not stock
belongs stock (Reopen card) = not stock
