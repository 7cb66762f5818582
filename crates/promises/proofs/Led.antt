-- Who leads a company: its director's certificate lies with a seat that nobody has more tenths than.
use Rattle.std.proofs.Common.{◌≡◌, ℕ, zero, suc, ◌+◌, ◌*◌, ◌<◌, ◌≤◌, true, eqb, ◌≢◌, ◌⊎◌, List, [], ◌∷◌, length, get_or, pos, Some, sym, refl, ap, ◌∙◌, subst, inl, inr, ⊎_elim, arith}
use Rattle.std.proofs.lemmas.Int.{ints}
use Rattle.std.proofs.lemmas.Bool.{eqb-true, eqb-false, eq-eqb, not-true, cases_eq, cases_lt, cases_Bool}
use Rattle.hands.specs.Totals.{total}
use Rattle.kinds.specs.Papers.{bit, sized, size, papers_tallies, no_papers}
use Rattle.kinds.specs.declared.papers.Papers.{Papers}
use Rattle.kinds.specs.Bits.{named_one}
use Rattle.rulebook.specs.Book.{Book}
use Rattle.rulebook.specs.Lawful.{Between}
use Rattle.ledger.specs.Holdings.{offering, seat_papers, company_of, papers_at, seat_tenths, holds_director, opened, director}
use Rattle.ledger.specs.declared.books.Books.{Books}
use Rattle.promises.proofs.Counts.{tenths_count, tenths_ordinary, count_none}
use Rattle.promises.proofs.PaperRow.{two_parts}
use Rattle.promises.proofs.Seats.{director_holds, director_found}
use Rattle.promises.proofs.Sound.{Sound}
use Rattle.promises.proofs.Tenths.{tens, heads}

-- of one company: its tenths and the director's certificate by place, among n players
pub record LedIn (n : ℕ) (t d : ℕ → ℕ) : Type 0 where
  pub clean : (place : ℕ) → (place ≡ 1) ⊎ (n + 2 ≤ place) → d place ≡ 0
  pub unopened : d 0 ≡ 1 → (place : ℕ) → 1 ≤ place → t place ≡ 0
  pub leads : (o p : ℕ) → 1 ≤ o → o ≤ n → 1 ≤ p → p ≤ n → d (o + 1) ≡ 1 → t (p + 1) ≤ t (o + 1)

pub record Led (b : Book) (s : Books) : Type 0 where
  -- the director's certificate is never in the pool, nor beyond the seats
  pub clean : (company place : ℕ) → Between 1 b.companies company → (place ≡ 1) ⊎ (s.players + 2 ≤ place) → bit 0 (papers_at s company place).certificates ≡ 0
  -- before it has left the offering, nothing has
  pub unopened : (company place : ℕ) → Between 1 b.companies company → holds_director s company offering ≡ true → 1 ≤ place → (papers_at s company place).certificates ≡ 0
  -- no seat has more tenths than the one that holds it
  pub leads : (company o p : ℕ) → Between 1 b.companies company → 1 ≤ o → o ≤ s.players → 1 ≤ p → p ≤ s.players → holds_director s company (seat_papers o) ≡ true
      → seat_tenths s company p ≤ seat_tenths s company o

-- a set without tenths is empty
no_more : (t c b : ℕ) → t ≡ c + b → t ≡ 0 → c ≡ 0
no_more t c b e z = omega arith

pub no_tenths : (set : ℕ) → set < 512 → sized size 0 9 set ≡ 0 → set ≡ 0
no_tenths set small e = count_none set small (no_more (sized size 0 9 set) (sized (λ _. 1) 0 9 set) (bit 0 set) (tenths_count set) e)

none_left : (z : ℕ) → z ≡ 0 → sized size 0 9 z ≡ 0
none_left z e = ap (sized size 0 9) e

pub led_in : (b : Book) (s : Books) → Led b s → (company : ℕ) → Between 1 b.companies company → LedIn s.players (λ p. tens s company p) (λ p. heads s company p)
led_in b s led company in_book =
    record {
      clean = λ place h. led.clean company place in_book h;
      unopened = λ e place h. none_left (papers_at s company place).certificates (led.unopened company place in_book (eq-eqb (heads s company 0) 1 e) h);
      leads = λ o p o1 on p1 pn e. led.leads company o p in_book o1 on p1 pn (eq-eqb (heads s company (o + 1)) 1 e);
    }

pub led_from : (b : Book) (s : Books) → ((company : ℕ) → Between 1 b.companies company → LedIn s.players (λ p. tens s company p) (λ p. heads s company p)) → Led b s
led_from b s each =
    record {
      clean = λ company place in_book h. (each company in_book).clean place h;
      unopened = λ company place in_book e h. no_tenths (papers_at s company place).certificates (papers_at s company place).nine ((each company in_book).unopened (eqb-true (heads s company 0) 1 e) place h);
      leads = λ company o p in_book o1 on p1 pn e. (each company in_book).leads o p o1 on p1 pn (eqb-true (heads s company (o + 1)) 1 e);
    }

-- the director's certificate is in one place
pub one_place : (b : Book) (s : Books) → Sound b s → (company i j : ℕ) → i ≢ j → heads s company i + heads s company j ≤ 1
one_place b s ok company i j ne =
    let r = two_parts (company_of s company).papers i j 0 ne in
    let o = ok.papers_once company 0 in
    omega (arith, ints, r, o)

pub found_in : (row : List Papers) (tag : ℕ) → total papers_tallies row tag ≡ pos 1 → (p : ℕ) × (p < length row) × (bit tag (get_or row p no_papers).certificates ≡ 1)
found_in [] tag e = absurd (omega (arith, ints))
found_in (h ∷ hs) tag e =
    ⊎_elim
    (λ yes. (0, omega arith, eqb-true (bit tag h.certificates) 1 yes))
    (λ no.
    let z = named_one tag h.certificates no in
    let r = found_in hs tag (omega (arith, ints, z)) in
    (suc r.0, omega (arith, r.1), r.2))
    (cases_Bool (eqb (bit tag h.certificates) 1))

pub at_least_two : (set : ℕ) → bit 0 set ≡ 1 → 2 ≤ sized size 0 9 set
at_least_two set own = some (sized size 0 9 set) (bit 0 set) (sized (λ _. 1) 1 8 set) (tenths_ordinary set) own
  where
    some : (t b r : ℕ) → t ≡ 2 * b + r → b ≡ 1 → 2 ≤ t
    some t b r e own = omega arith

-- of two places, not both
not_both : (x y : ℕ) → x + y ≤ 1 → x ≡ 1 → y ≡ 1 → ⊥
not_both x y h e f = omega arith

pub same_seat : (b : Book) (s : Books) → Sound b s → (company o p : ℕ) → heads s company (o + 1) ≡ 1 → heads s company (p + 1) ≡ 1 → o ≡ p
same_seat b s ok company o p e f =
    ⊎_elim (λ same. same)
    (λ ne. absurd (not_both (heads s company (o + 1)) (heads s company (p + 1)) (one_place b s ok company (o + 1) (p + 1) (λ same. ne (omega arith))) e f))
    (cases_eq o p)

nought_not_one : (x : ℕ) → x ≡ 0 → x ≡ 1 → ⊥
nought_not_one x e f = omega arith

pub one_director : (b : Book) (s : Books) → Sound b s → Led b s → (company : ℕ) → Between 1 b.companies company → opened s company ≡ true
    → (seat : ℕ) × (director s company ≡ Some seat) × (2 ≤ seat_tenths s company seat) × ((o : ℕ) → holds_director s company (seat_papers o) ≡ true → 1 ≤ o → o ≤ s.players → o ≡ seat)
one_director b s ok led company in_book is_open =
    let found = found_in (company_of s company).papers 0 (ok.papers_all company 0 in_book (omega arith)) in
    let p = found.0 in
    let own : heads s company p ≡ 1 = found.2 in
    let not_offering : p ≢ 0 = λ e. eqb-false (heads s company 0) 1 (not-true _ is_open) (ap (λ n. heads s company n) (sym e) ∙ own) in
    let not_pool : p ≢ 1 = λ e. nought_not_one (heads s company p) (led.clean company p in_book (inl e)) own in
    let seated : p < s.players + 2 = ⊎_elim (λ lt. lt) (λ le. absurd (nought_not_one (heads s company p) (led.clean company p in_book (inr le)) own)) (cases_lt p (s.players + 2)) in
    by_place p own not_offering not_pool seated
  where
    by_place : (p : ℕ) → heads s company p ≡ 1 → p ≢ 0 → p ≢ 1 → p < s.players + 2
        → (seat : ℕ) × (director s company ≡ Some seat) × (2 ≤ seat_tenths s company seat) × ((o : ℕ) → holds_director s company (seat_papers o) ≡ true → 1 ≤ o → o ≤ s.players → o ≡ seat)
    by_place zero own n0 n1 h = absurd (n0 refl)
    by_place (suc zero) own n0 n1 h = absurd (n1 refl)
    by_place (suc (suc o)) own n0 n1 h =
        let same : suc (suc o) ≡ suc o + 1 = omega arith in
        let holds : heads s company (suc o + 1) ≡ 1 = subst (λ (n : ℕ). heads s company n ≡ 1) same own in
        let found = director_found s company (suc o) (eq-eqb (heads s company (suc o + 1)) 1 holds) (omega arith) (omega arith) in
        let seat = found.0 in
        let has = eqb-true (heads s company (seat + 1)) 1 (director_holds s company seat found.1).0 in
        (seat, found.1, at_least_two (papers_at s company (seat + 1)).certificates has, λ q yes q1 qn. same_seat b s ok company q seat (eqb-true (heads s company (q + 1)) 1 yes) has)
