-- Directors at every moment of a life.
use Rattle.std.proofs.Common.{◌≡◌, ℕ, zero, suc, ◌+◌, ◌-◌, ◌≤◌, Bool, true, false, cond, eqb, List, [], ◌∷◌, ◌++◌, get_or, replicate, Some, None, Ok, Err, Option, sym, refl, ap, ◌∙◌, subst, inl, inr, ⊎_elim, arith}
use Rattle.std.proofs.lemmas.Bool.{eqb-true}
use Rattle.kinds.specs.Papers.{bit, tenths, no_papers, all_papers}
use Rattle.kinds.specs.declared.papers.Papers.{Papers}
use Rattle.kinds.specs.Bits.{bit_zero}
use Rattle.rulebook.specs.Book.{Book}
use Rattle.rulebook.specs.Lawful.{Lawful}
use Rattle.rulebook.specs.declared.split.Split.{Split}
use Rattle.ledger.specs.Answers.{Answer}
use Rattle.ledger.specs.Crossings.{Crossing, pays, hands, moves, crossed, all_crossed}
use Rattle.ledger.specs.Holdings.{no_company, company_of, papers_at, seat_papers, seat_tenths, offering, director}
use Rattle.ledger.specs.Lives.{answer, crossings_of, granted_after, if_granted, after}
use Rattle.ledger.specs.Opening.{untouched, opened}
use Rattle.ledger.specs.Operating.{dividends, payout_crossings, needs_help, missing, help}
use Rattle.ledger.specs.declared.books.Books.{Books}
use Rattle.ledger.specs.declared.company.Company.{Company}
use Rattle.ledger.specs.declared.call.Call.{Call}
use Rattle.ledger.specs.declared.call.Call.TheVariants.{Sell, Buy, End, Close, Bill, Payout, Train, Done, Reopen}
use Rattle.promises.proofs.Led.{Led}
use Rattle.promises.proofs.LedPurchases.{led_after_purchase}
use Rattle.promises.proofs.LedSales.{led_after_sale}
use Rattle.promises.proofs.Notes.{papers_stay}
use Rattle.promises.proofs.Rows.{everywhere}
use Rattle.promises.proofs.Shapes.{paid_out, served}
use Rattle.promises.proofs.Standing.{Standing}

-- where no papers move, directors stay
led_same : (b : Book) (s t : Books) → t.players ≡ s.players → ((company : ℕ) → (company_of t company).papers ≡ (company_of s company).papers) → Led b s → Led b t
led_same b s t seats same ok =
    let there : (company place : ℕ) → papers_at s company place ≡ papers_at t company place = λ company place. ap (λ (row : List Papers). get_or row place no_papers) (sym (same company)) in
    record {
      clean = λ company place of where'.
          subst (λ (p : Papers). bit 0 p.certificates ≡ 0) (there company place) (ok.clean company place of (⊎_elim (λ e. inl e) (λ le. inr (subst (λ n. n + 2 ≤ place) seats le)) where'));
      unopened = λ company place of held low.
          subst (λ (p : Papers). p.certificates ≡ 0) (there company place) (ok.unopened company place of (subst (λ (p : Papers). eqb (bit 0 p.certificates) 1 ≡ true) (sym (there company offering)) held) low);
      leads = λ company o p of o1 on p1 pn held.
          let old = ok.leads company o p of o1 (subst (λ n. o ≤ n) seats on) p1 (subst (λ n. p ≤ n) seats pn) (subst (λ (q : Papers). eqb (bit 0 q.certificates) 1 ≡ true) (sym (there company (seat_papers o))) held) in
          subst (λ (q : Papers). seat_tenths t company p ≤ tenths q) (there company (seat_papers o)) (subst (λ (q : Papers). tenths q ≤ seat_tenths s company o) (there company (seat_papers p)) old);
    }

-- crossings of cash and trains
abbrev Plain : Crossing → Type 0
Plain (pays giver receiver marks) = Unit {0}
Plain (hands company giver receiver bits) = ⊥
Plain (moves giver receiver load) = Unit {0}

abbrev AllPlain : List Crossing → Type 0
AllPlain [] = Unit {0}
AllPlain (x ∷ xs) = Plain x × AllPlain xs

plain_append : (xs ys : List Crossing) → AllPlain xs → AllPlain ys → AllPlain (xs ++ ys)
plain_append [] ys p q = q
plain_append (x ∷ xs) ys p q = (p.0, plain_append xs ys p.1 q)

record_kept : (s : Books) (x : Crossing) → Plain x → ((crossed s x).companies ≡ s.companies) × ((crossed s x).players ≡ s.players)
record_kept s (pays giver receiver marks) p = (refl, refl)
record_kept s (hands company giver receiver bits) p = absurd p
record_kept s (moves giver receiver load) p = (refl, refl)

records_kept : (s : Books) (xs : List Crossing) → AllPlain xs → ((all_crossed s xs).companies ≡ s.companies) × ((all_crossed s xs).players ≡ s.players)
records_kept s [] p = (refl, refl)
records_kept s (x ∷ xs) p = let r = records_kept (crossed s x) xs p.1 in let h = record_kept s x p.0 in (r.0 ∙ h.0, r.1 ∙ h.1)

plain_led : (b : Book) (s : Books) (xs : List Crossing) → AllPlain xs → Led b s → Led b (all_crossed s xs)
plain_led b s xs p ok =
    let r = records_kept s xs p in
    led_same b s (all_crossed s xs) r.1 (λ company. ap (λ (l : List Company). (get_or l (company - 1) no_company).papers) r.0) ok

dividends_plain : (s : Books) (company d seat n : ℕ) → AllPlain (dividends s company d seat n)
dividends_plain s company d seat zero = tt
dividends_plain s company d seat (suc n) = (tt, dividends_plain s company d (suc seat) n)

payout_plain : (s : Books) (company : ℕ) (o : Option Split) → AllPlain (payout_crossings s company o)
payout_plain s company None = tt
payout_plain s company (Some split) = plain_append (dividends s company split.dividend 1 s.players) _ (dividends_plain s company split.dividend 1 s.players) (tt, tt)

help_plain : (s : Books) (company price : ℕ) (o : Option ℕ) → AllPlain (help s company price o)
help_plain s company price None = tt
help_plain s company price (Some seat) = by_need (needs_help s company price)
  where
    by_need : (t : Bool) → AllPlain (cond t (pays seat (s.players + company) (missing s company price) ∷ []) [])
    by_need true = (tt, tt)
    by_need false = tt

module _ (b : Book) (law : Lawful b) (s : Books) (ok : Standing b s) (led : Led b s) where
  granted_led : (c : Call) → answer b s c ≡ Ok tt → Led b (granted_after b s c)
  granted_led (Sell card seat company tenths) e = led_after_sale b law s ok.sound led card seat company tenths e
  granted_led (Buy card seat company source space) e = led_after_purchase b law s ok.sound led card seat company source space e
  granted_led (End card seat) e = led_same b s (granted_after b s (End card seat)) refl (λ company. refl) led
  granted_led (Close card) e = led_same b s (granted_after b s (Close card)) refl (λ company. refl) led
  granted_led (Bill card company amount) e = plain_led b s (crossings_of b s (Bill card company amount)) (tt, tt) led
  granted_led (Payout card company mode revenue) e =
      let xs = payout_crossings s company (b.split mode revenue) in
      let t = all_crossed s xs in
      led_same b t (granted_after b s (Payout card company mode revenue)) refl (papers_stay t company (paid_out b s company mode revenue) refl) (plain_led b s xs (payout_plain s company (b.split mode revenue)) led)
  granted_led (Train card company kind) e =
      plain_led b s (crossings_of b s (Train card company kind)) (plain_append (help s company (b.train_price kind) (director s company)) _ (help_plain s company (b.train_price kind) (director s company)) (tt, (tt, tt))) led
  granted_led (Done card company) e = led_same b s (granted_after b s (Done card company)) refl (papers_stay s company (served s company) refl) led
  granted_led (Reopen card) e = led_same b s (granted_after b s (Reopen card)) refl (λ company. refl) led

  by_answer : (c : Call) (a : Answer) → answer b s c ≡ a → Led b (if_granted a (granted_after b s c) s)
  by_answer c (Ok u) e = granted_led c e
  by_answer c (Err why) e = led

  pub call_led : (c : Call) → Led b (after b s c)
  call_led c = by_answer c (answer b s c) refl

-- at the opening nothing has left an offering
nothing_out : (place : ℕ) → 1 ≤ place → (held : Papers) → get_or (untouched held).papers place no_papers ≡ no_papers
nothing_out zero low held = absurd (omega arith)
nothing_out (suc place) low held = none_there 7 place
  where
    none_there : (n place : ℕ) → get_or (replicate n no_papers) place no_papers ≡ no_papers
    none_there zero place = refl
    none_there (suc n) zero = refl
    none_there (suc n) (suc place) = none_there n place

nothing_there : (n place : ℕ) → get_or (replicate n no_papers) place no_papers ≡ no_papers
nothing_there zero place = refl
nothing_there (suc n) zero = refl
nothing_there (suc n) (suc place) = nothing_there n place

opening_papers : (b : Book) (players cash company place : ℕ) → 1 ≤ place → papers_at (opened b players cash) company place ≡ no_papers
opening_papers b players cash company place low =
    everywhere (λ (r : Company). get_or r.papers place no_papers ≡ no_papers) b.companies (8 - b.companies) (untouched all_papers) (untouched no_papers) no_company
    (nothing_out place low all_papers) (nothing_out place low no_papers) (nothing_there 8 place) (company - 1)

pub opening_led : (b : Book) (players cash : ℕ) → Led b (opened b players cash)
opening_led b players cash =
    record {
      clean = λ company place of where'.
          ap (λ (p : Papers). bit 0 p.certificates) (opening_papers b players cash company place (⊎_elim (λ e. omega arith) (λ le. omega arith) where')) ∙ bit_zero 0;
      unopened = λ company place of held low. ap (λ (p : Papers). p.certificates) (opening_papers b players cash company place low);
      leads = λ company o p of o1 on p1 pn held.
          let none = ap (λ (q : Papers). bit 0 q.certificates) (opening_papers b players cash company (seat_papers o) (omega arith)) ∙ bit_zero 0 in
          let one = eqb-true (bit 0 (papers_at (opened b players cash) company (seat_papers o)).certificates) 1 held in
          absurd (contradiction (bit 0 (papers_at (opened b players cash) company (seat_papers o)).certificates) none one);
    }
  where
    contradiction : (n : ℕ) → n ≡ 0 → n ≡ 1 → ⊥
    contradiction n p q = omega arith
