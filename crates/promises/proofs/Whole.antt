-- The promises over whole lives.
use Rattle.std.proofs.Common.{◌≡◌, ℕ, List, [], ◌∷◌, Some}
use Rattle.rulebook.specs.Book.{Book}
use Rattle.rulebook.specs.Lawful.{Lawful}
use Rattle.ledger.specs.Opening.{opened}
use Rattle.ledger.specs.declared.books.Books.{Books}
use Rattle.ledger.specs.declared.call.Call.{Call}
use Rattle.promises.specs.Lives.{lived}
use Rattle.promises.specs.Promises.{Directed, LivesStand}
use Rattle.promises.proofs.Directed.{call_led, opening_led}
use Rattle.promises.proofs.EqualHands.{hands_tell_nets}
use Rattle.promises.proofs.Led.{Led, one_director}
use Rattle.promises.proofs.Limits.{within_limits}
use Rattle.promises.proofs.Opened.{opening_standing}
use Rattle.promises.proofs.Seats.{director_holds}
use Rattle.promises.proofs.Sound.{Sound}
use Rattle.promises.proofs.Standing.{Standing, call_standing}

pub life_stands : (b : Book) → Lawful b → (start : Books) → Standing b start → (life : List Call) → Standing b (lived b start life)
life_stands b law start ok [] = ok
life_stands b law start ok (c ∷ earlier) = call_standing b law (lived b start earlier) (life_stands b law start ok earlier) c

pub life_led : (b : Book) → Lawful b → (start : Books) → Standing b start → Led b start → (life : List Call) → Led b (lived b start life)
life_led b law start ok led [] = led
life_led b law start ok led (c ∷ earlier) = call_led b law (lived b start earlier) (life_stands b law start ok earlier) (life_led b law start ok led earlier) c

directed : (b : Book) (s : Books) → Sound b s → Led b s → Directed b s
directed b s ok led company of is_open =
    let d = one_director b s ok led company of is_open in
    let held = director_holds s company d.0 d.1 in
    record {
      seat = d.0;
      holds = d.1;
      two_tenths = d.2;
      no_fewer = λ other low high. led.leads company d.0 other of held.1 held.2 low high held.0;
      alone = λ other low high holds. d.3 other holds low high;
    }

pub all_lives_stand : (b : Book) → Lawful b → (players cash : ℕ) → b.opening players ≡ Some cash → (one other : List Call) → LivesStand b (opened b players cash) one other
all_lives_stand b law players cash e one other =
    let start = opened b players cash in
    let ok = opening_standing b law players cash e in
    let s = lived b start one in
    let there = (life_stands b law start ok one).sound in
    let led = life_led b law start ok (opening_led b players cash) one in
    record {
      hands_tell_nets = hands_tell_nets b law start ok one other;
      conserved = record { all_cash = there.cash_row.sum; each_certificate = there.papers_all; each_train = there.trains_sum };
      directed = directed b s there led;
      within_limits = within_limits b law s there led;
    }
