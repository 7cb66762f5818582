-- Two lives from one opening: equal hands exactly when receipts less gifts agree.
use Rattle.std.proofs.Common.{◌≡◌, ℕ, cond, eqb, List, [], ◌∷◌, get_or, ℤ, pos, ◌+ℤ◌, Ok, Err, sym, refl, ap, ◌∙◌, arith}
use Rattle.std.proofs.lemmas.Int.{ints}
use Rattle.hands.proofs.Floors.{keeps}
use Rattle.kinds.specs.Cash.{cash, cash_tallies}
use Rattle.kinds.specs.Papers.{papers_tallies}
use Rattle.kinds.specs.Trains.{trains_tallies}
use Rattle.kinds.specs.Floor.{floor_marks}
use Rattle.kinds.specs.declared.cash_floor.CashFloor.{CashFloor}
use Rattle.kinds.specs.Marks.{cash_laws, given_keeps, taken_keeps}
use Rattle.kinds.specs.Certificates.{papers_laws}
use Rattle.kinds.specs.Rolling.{trains_laws}
use Rattle.rulebook.specs.Book.{Book}
use Rattle.rulebook.specs.Lawful.{Lawful}
use Rattle.ledger.specs.Answers.{Answer}
use Rattle.ledger.specs.Crossings.{Crossing, pays, hands, moves, crossed, all_crossed}
use Rattle.ledger.specs.Holdings.{no_cash, no_trains, papers_at}
use Rattle.ledger.specs.Lives.{answer, granted_after, if_granted, crossings_of}
use Rattle.ledger.specs.declared.books.Books.{Books}
use Rattle.ledger.specs.declared.call.Call.{Call}
use Rattle.ledger.specs.declared.call.Call.TheVariants.{Sell, Buy, End, Close, Bill, Payout, Train, Done, Reopen}
use Rattle.promises.specs.Accounts.{HandOf, cash_hand, paper_hand, train_hand, OfATable, tally_of}
use Rattle.promises.specs.Lives.{lived, net, EqualHands, EqualNets, HandsTellNets}
use Rattle.promises.proofs.Ledgers.{life_accounts}
use Rattle.promises.proofs.Standing.{Standing}

-- nothing moves a floor
abbrev floor_at : Books → ℕ → CashFloor
floor_at s place = (get_or s.cash place no_cash).floor

crossing_floor : (s : Books) (x : Crossing) (place : ℕ) → floor_at (crossed s x) place ≡ floor_at s place
crossing_floor s (pays giver receiver marks) place = keeps cash s.cash giver receiver marks (λ c. c.floor) (λ c. given_keeps c marks) (λ c. taken_keeps c marks) no_cash place
crossing_floor s (hands company giver receiver bits) place = refl
crossing_floor s (moves giver receiver load) place = refl

crossings_floor : (s : Books) (xs : List Crossing) (place : ℕ) → floor_at (all_crossed s xs) place ≡ floor_at s place
crossings_floor s [] place = refl
crossings_floor s (x ∷ xs) place = crossings_floor (crossed s x) xs place ∙ crossing_floor s x place

granted_floor : (b : Book) (s : Books) (c : Call) (place : ℕ) → floor_at (granted_after b s c) place ≡ floor_at s place
granted_floor b s (Sell card seat company tenths) place = crossings_floor s (crossings_of b s (Sell card seat company tenths)) place
granted_floor b s (Buy card seat company source space) place = crossings_floor s (crossings_of b s (Buy card seat company source space)) place
granted_floor b s (End card seat) place = refl
granted_floor b s (Close card) place = refl
granted_floor b s (Bill card company amount) place = crossings_floor s (crossings_of b s (Bill card company amount)) place
granted_floor b s (Payout card company mode revenue) place = crossings_floor s (crossings_of b s (Payout card company mode revenue)) place
granted_floor b s (Train card company kind) place = crossings_floor s (crossings_of b s (Train card company kind)) place
granted_floor b s (Done card company) place = refl
granted_floor b s (Reopen card) place = refl

answered_floor : (b : Book) (s : Books) (c : Call) (a : Answer) (place : ℕ) → floor_at (if_granted a (granted_after b s c) s) place ≡ floor_at s place
answered_floor b s c (Ok u) place = granted_floor b s c place
answered_floor b s c (Err why) place = refl

life_floor : (b : Book) (start : Books) (life : List Call) (place : ℕ) → floor_at (lived b start life) place ≡ floor_at start place
life_floor b start [] place = refl
life_floor b start (c ∷ earlier) place = answered_floor b (lived b start earlier) c (answer b (lived b start earlier) c) place ∙ life_floor b start earlier place

same_net : (a x y n m : ℤ) → x ≡ a +ℤ n → y ≡ a +ℤ m → x ≡ y → n ≡ m
same_net a x y n m e f g = omega (arith, ints)

module _ (b : Book) (law : Lawful b) (start : Books) (ok : Standing b start) (one other : List Call) where
  abbrev s : Books
  s = lived b start one

  abbrev t : Books
  t = lived b start other

  accounts_tell : EqualNets b start one other → (h : HandOf) → OfATable h → (tag : ℕ) → tally_of s h tag ≡ tally_of t h tag
  accounts_tell same h of tag =
      life_accounts b law h of tag start ok one ∙ ap (λ z. tally_of start h tag +ℤ z) (same h of tag) ∙ sym (life_accounts b law h of tag start ok other)

  hands_tell : EqualHands s t → (h : HandOf) → OfATable h → (tag : ℕ) → tally_of s h tag ≡ tally_of t h tag
  hands_tell e (cash_hand place) of tag = ap (λ c. cash_tallies.tally c tag) (e.cash place)
  hands_tell e (paper_hand company place) of tag = ap (λ p. papers_tallies.tally p tag) (e.papers company place of.0 of.1)
  hands_tell e (train_hand place) of tag = ap (λ h. trains_tallies.tally h tag) (e.trains place)

  floors : (place tag : ℕ) → cond (eqb tag 0) (floor_marks (floor_at s place)) (pos 0) ≡ cond (eqb tag 0) (floor_marks (floor_at t place)) (pos 0)
  floors place tag = ap (λ f. cond (eqb tag 0) (floor_marks f) (pos 0)) (life_floor b start one place ∙ sym (life_floor b start other place))

  pub hands_tell_nets : HandsTellNets b start one other
  hands_tell_nets = (
    (λ e h of tag. same_net (tally_of start h tag) (tally_of s h tag) (tally_of t h tag) (net b start one h tag) (net b start other h tag) (life_accounts b law h of tag start ok one) (life_accounts b law h of tag start ok other) (hands_tell e h of tag)),
    (λ same. record {
      cash = λ place. cash_laws.equal (get_or s.cash place no_cash) (get_or t.cash place no_cash) (accounts_tell same (cash_hand place) tt) (floors place);
      papers = λ company place low high. papers_laws.equal (papers_at s company place) (papers_at t company place) (accounts_tell same (paper_hand company place) (low, high)) (λ tag. refl);
      trains = λ place. trains_laws.equal (get_or s.trains place no_trains) (get_or t.trains place no_trains) (accounts_tell same (train_hand place) tt) (λ tag. refl);
    }),
  )
