-- Over a whole life each hand holds what it had, and what it received less what it gave.
use Rattle.std.proofs.Common.{◌≡◌, ℕ, ◌+◌, ◌≤◌, true, List, [], ◌∷◌, ℤ, pos, ◌+ℤ◌, ◌-ℤ◌, Ok, Err, refl, ◌∙◌, arith}
use Rattle.std.proofs.lemmas.Int.{ints}
use Rattle.rulebook.specs.Book.{Book}
use Rattle.rulebook.specs.Lawful.{Lawful}
use Rattle.ledger.specs.Answers.{Answer}
use Rattle.ledger.specs.Crossings.{Crossing, crossed, all_crossed, with_company}
use Rattle.ledger.specs.Lives.{answer, crossings_of, granted_after, if_granted, after, crossings}
use Rattle.ledger.specs.Stock.{sell_crossings, buy_crossings, having_sold, having_bought, turn_ended, closed_stock}
use Rattle.ledger.specs.Operating.{payout_crossings}
use Rattle.ledger.specs.declared.books.Books.{Books}
use Rattle.ledger.specs.declared.call.Call.{Call}
use Rattle.ledger.specs.declared.call.Call.TheVariants.{Sell, Buy, End, Close, Bill, Payout, Train, Done, Reopen}
use Rattle.promises.specs.Accounts.{HandOf, OfATable, tally_of, receipt, gift, receipts, gifts}
use Rattle.promises.specs.Lives.{lived, life_receipts, life_gifts, net}
use Rattle.promises.proofs.Calls.{call_carried}
use Rattle.promises.proofs.Moved.{moved, AllWithin}
use Rattle.promises.proofs.Notes.{noted_hands, turned_hands}
use Rattle.promises.proofs.Places.{call_within}
use Rattle.promises.proofs.Shapes.{sold, bought, paid_out, served, closing, next_turn, reopened}
use Rattle.promises.proofs.Sound.{Sound, Carriable, crossing_sound}
use Rattle.promises.proofs.Standing.{Standing, call_standing}

added : (a b c : ℤ) (r g rs gs : ℕ) → b ≡ a +ℤ pos r -ℤ pos g → c ≡ b +ℤ pos rs -ℤ pos gs → c ≡ a +ℤ pos (r + rs) -ℤ pos (g + gs)
added a b c r g rs gs e f = omega (arith, ints)

module _ (b : Book) (few : b.bank ≤ 50000) (h : HandOf) (of : OfATable h) (tag : ℕ) where
  pub all_moved : (s : Books) → Sound b s → (xs : List Crossing) → Carriable s xs → AllWithin xs → tally_of (all_crossed s xs) h tag ≡ tally_of s h tag +ℤ pos (receipts xs h tag) -ℤ pos (gifts xs h tag)
  all_moved s ok [] c w = omega (arith, ints)
  all_moved s ok (x ∷ xs) c w =
      added (tally_of s h tag) (tally_of (crossed s x) h tag) (tally_of (all_crossed (crossed s x) xs) h tag) (receipt x h tag) (gift x h tag) (receipts xs h tag) (gifts xs h tag)
      (moved s ok.records_wide x w.0 c.0 h of tag)
      (all_moved (crossed s x) (crossing_sound b few s ok x) xs c.1 w.1)

-- beside its crossings a call changes no hand
pub hands_by_crossings : (b : Book) (s : Books) (c : Call) (h : HandOf) (tag : ℕ) → tally_of (granted_after b s c) h tag ≡ tally_of (all_crossed s (crossings_of b s c)) h tag
hands_by_crossings b s (Sell card seat company tenths) h tag =
    let t = all_crossed s (sell_crossings b s seat company tenths) in
    let r = sold b s seat company tenths in
    turned_hands (with_company t company r) t.round (having_sold t.stock seat) t.operating h tag ∙ noted_hands t company r refl h tag
hands_by_crossings b s (Buy card seat company source space) h tag =
    let t = all_crossed s (buy_crossings b s seat company source space) in
    let r = bought b s seat company source space in
    turned_hands (with_company t company r) t.round (having_bought t.stock seat) t.operating h tag ∙ noted_hands t company r refl h tag
hands_by_crossings b s (End card seat) h tag = turned_hands s s.round (turn_ended s seat) s.operating h tag
hands_by_crossings b s (Close card) h tag = turned_hands s (s.round + 1) (closed_stock s) (closing b s) h tag
hands_by_crossings b s (Bill card company amount) h tag = refl
hands_by_crossings b s (Payout card company mode revenue) h tag =
    let t = all_crossed s (payout_crossings s company (b.split mode revenue)) in
    let r = paid_out b s company mode revenue in
    turned_hands (with_company t company r) t.round t.stock (record { company = t.operating.company; paid = true }) h tag ∙ noted_hands t company r refl h tag
hands_by_crossings b s (Train card company kind) h tag = refl
hands_by_crossings b s (Done card company) h tag =
    let r = served s company in
    turned_hands (with_company s company r) s.round s.stock (next_turn b s company) h tag ∙ noted_hands s company r refl h tag
hands_by_crossings b s (Reopen card) h tag = turned_hands s (s.round + 1) (reopened s) s.operating h tag

module _ (b : Book) (law : Lawful b) (h : HandOf) (of : OfATable h) (tag : ℕ) where
  few : b.bank ≤ 50000
  few = law.bank_range.1

  by_answer : (s : Books) → Standing b s → (c : Call) (a : Answer) → answer b s c ≡ a
      → tally_of (if_granted a (granted_after b s c) s) h tag ≡ tally_of s h tag +ℤ pos (receipts (if_granted a (crossings_of b s c) []) h tag) -ℤ pos (gifts (if_granted a (crossings_of b s c) []) h tag)
  by_answer s ok c (Ok u) e =
      hands_by_crossings b s c h tag
      ∙ all_moved b few h of tag s ok.sound (crossings_of b s c) (call_carried b law s ok.sound ok.on_turn c e) (call_within b law s c e)
  by_answer s ok c (Err why) e = omega (arith, ints)

  pub call_accounts : (s : Books) → Standing b s → (c : Call) → tally_of (after b s c) h tag ≡ tally_of s h tag +ℤ pos (receipts (crossings b s c) h tag) -ℤ pos (gifts (crossings b s c) h tag)
  call_accounts s ok c = by_answer s ok c (answer b s c) refl

  module _ (start : Books) (ok : Standing b start) where
    pub life_standing : (life : List Call) → Standing b (lived b start life)
    life_standing [] = ok
    life_standing (c ∷ earlier) = call_standing b law (lived b start earlier) (life_standing earlier) c

    pub life_accounts : (life : List Call) → tally_of (lived b start life) h tag ≡ tally_of start h tag +ℤ net b start life h tag
    life_accounts [] = omega (arith, ints)
    life_accounts (c ∷ earlier) =
        let before = life_accounts earlier in
        let now = call_accounts (lived b start earlier) (life_standing earlier) c in
        joined (tally_of start h tag) (tally_of (lived b start earlier) h tag) (tally_of (lived b start (c ∷ earlier)) h tag) (life_receipts b start earlier h tag) (life_gifts b start earlier h tag) _ _ before now
      where
        joined : (a b c : ℤ) (r g rs gs : ℕ) → b ≡ a +ℤ (pos r -ℤ pos g) → c ≡ b +ℤ pos rs -ℤ pos gs → c ≡ a +ℤ (pos (r + rs) -ℤ pos (g + gs))
        joined a b c r g rs gs e f = omega (arith, ints)
