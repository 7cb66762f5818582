-- What each granted call leaves, over whole lives.
use Rattle.std.proofs.Common.{◌≡◌, ℕ, List, Some}
use Rattle.rulebook.specs.Book.{Book}
use Rattle.rulebook.specs.Lawful.{Lawful}
use Rattle.ledger.specs.Opening.{opened}
use Rattle.ledger.specs.declared.books.Books.{Books}
use Rattle.ledger.specs.declared.call.Call.{Call}
use Rattle.promises.specs.CallsLeave.{Leaves}
use Rattle.promises.specs.Lives.{lived}
use Rattle.promises.proofs.LeftDirectors.{sale_directs, purchase_directs}
use Rattle.promises.proofs.LeftHelp.{train_helper}
use Rattle.promises.proofs.LeftParts.{end_leaves, close_leaves, done_leaves, reopen_leaves, bill_leaves}
use Rattle.promises.proofs.LeftPayouts.{payout_leaves}
use Rattle.promises.proofs.LeftPurchases.{purchase_leaves, float_leaves}
use Rattle.promises.proofs.LeftSales.{sale_leaves}
use Rattle.promises.proofs.LeftTenths.{tenths_sold, tenths_bought}
use Rattle.promises.proofs.LeftTrains.{train_alone_leaves, train_helped_leaves}
use Rattle.promises.proofs.Directed.{opening_led}
use Rattle.promises.proofs.Led.{Led}
use Rattle.promises.proofs.Opened.{opening_standing}
use Rattle.promises.proofs.Standing.{Standing}
use Rattle.promises.proofs.Whole.{life_stands, life_led}

leaves : (b : Book) → Lawful b → (s : Books) → Standing b s → Led b s → Leaves b s
leaves b law s ok led =
    record {
      end = end_leaves b law s ok;
      close = close_leaves b law s ok;
      done = done_leaves b law s ok;
      reopen = reopen_leaves b law s ok;
      bill = bill_leaves b law s ok;
      payout = payout_leaves b law s ok;
      sale = sale_leaves b law s ok;
      sale_tenths = tenths_sold b law s ok.sound led;
      sale_director = sale_directs b law s ok.sound led;
      purchase = purchase_leaves b law s ok;
      float = float_leaves b law s ok;
      purchase_tenths = tenths_bought b law s ok.sound led;
      purchase_director = purchase_directs b law s ok.sound led;
      train_alone = train_alone_leaves b law s ok;
      train_helper = train_helper b law s ok;
      train_helped = train_helped_leaves b law s ok;
    }

pub calls_leave : (b : Book) → Lawful b → (players cash : ℕ) → b.opening players ≡ Some cash → (life : List Call) → Leaves b (lived b (opened b players cash) life)
calls_leave b law players cash e life =
    let start = opened b players cash in
    let ok = opening_standing b law players cash e in
    leaves b law (lived b start life) (life_stands b law start ok life) (life_led b law start ok (opening_led b players cash) life)
