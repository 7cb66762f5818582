-- The seats round the table: the seats after one, who of them has the most of a company, and who directs it.
use Rattle.std.proofs.Common.{◌≡◌, ℕ, zero, suc, ◌+◌, ◌-◌, ◌<◌, ◌≤◌, true, ltb, ◌≢◌, ◌⊎◌, Some, sym, refl, ap, ◌∙◌, subst, inl, inr, ⊎_elim, arith}
use Rattle.std.proofs.lemmas.Bool.{ltb-true, ltb-false, lt-ltb, cond-true, cond-false, cond_both, cases_lt, cases_Bool, cases_eq, both_ways}
use Rattle.ledger.specs.Holdings.{seat_papers, seat_tenths, holds_director, director_from, director, seat_after, leader, largest_other}
use Rattle.ledger.specs.declared.books.Books.{Books}

-- of three numbers
under : (a b c : ℕ) → a ≤ b → b < c → a ≤ c
under a b c h k = omega arith

alike : (a b c : ℕ) → a ≡ b → b ≤ c → a ≤ c
alike a b c e h = omega arith

itself : (a : ℕ) → a ≤ a
itself a = omega arith

module _ (s : Books) (seat : ℕ) (from_one : 1 ≤ seat) (seated : seat ≤ s.players) where
  pub seat_after_in : (n : ℕ) → (1 ≤ seat_after s seat n) × (seat_after s seat n ≤ s.players)
  seat_after_in zero = (from_one, seated)
  seat_after_in (suc n) =
      let at = seat_after s seat n in
      let before = seat_after_in n in
      cond_both (ltb at s.players) (at + 1) 1 (λ v. (1 ≤ v) × (v ≤ s.players))
      (λ e. let lt = ltb-true at s.players e in (omega arith, omega arith))
      (λ _. (omega arith, omega arith))

  -- so many seats on, or so many less all the seats
  pub seat_after_form : (n : ℕ) → n < s.players
      → ((seat + n ≤ s.players) × (seat_after s seat n ≡ seat + n)) ⊎ ((s.players < seat + n) × (seat_after s seat n + s.players ≡ seat + n))
  seat_after_form zero h = inl (omega arith, omega arith)
  seat_after_form (suc n) h =
      let at = seat_after s seat n in
      let players = s.players in
      ⊎_elim
      (λ low.
      cond_both (ltb at players) (at + 1) 1 (λ v. ((seat + suc n ≤ players) × (v ≡ seat + suc n)) ⊎ ((players < seat + suc n) × (v + players ≡ seat + suc n)))
      (λ e. let lt = ltb-true at players e in inl (omega arith, omega arith))
      (λ e. let le = ltb-false at players e in inr (omega arith, omega arith)))
      (λ high.
      inr
      (omega arith, ap (λ v. v + players) (cond-true (ltb at players) (at + 1) 1 (lt-ltb at players (omega arith))) ∙ omega arith))
      (seat_after_form n (omega arith))

  pub seat_after_other : (n : ℕ) → 1 ≤ n → n < s.players → seat_after s seat n ≢ seat
  seat_after_other n some h e =
      ⊎_elim (λ low. omega (arith, low, e)) (λ high. omega (arith, high, e)) (seat_after_form n h)

  -- every other seat is some seats on
  pub seat_reached : (o : ℕ) → 1 ≤ o → o ≤ s.players → o ≢ seat → (m : ℕ) × (1 ≤ m) × (m < s.players) × (seat_after s seat m ≡ o)
  seat_reached o one in_range ne =
      ⊎_elim
      (λ lt.
      let m = o - seat in
      let h : m < s.players = omega arith in
      (m, omega arith, h, ⊎_elim (λ low. omega (arith, low)) (λ high. absurd (omega (arith, high))) (seat_after_form m h)))
      (λ le.
      let apart : (o ≡ seat) ⊎ (o < seat) = ⊎_elim (λ e. inl e) (λ d. inr (omega (arith, d))) (cases_eq o seat) in
      ⊎_elim (λ e. absurd (ne e))
      (λ lt.
      let m = o + s.players - seat in
      let h : m < s.players = omega arith in
      (m, omega arith, h, ⊎_elim (λ low. absurd (omega (arith, low))) (λ high. omega (arith, high)) (seat_after_form m h)))
      apart)
      (cases_lt seat o)

  module _ (company : ℕ) where
    -- the leader is one of the seats after
    pub leader_is : (n : ℕ) → (m : ℕ) × (1 ≤ m) × (m ≤ suc n) × (leader s company seat n ≡ seat_after s seat m)
    leader_is zero = (1, omega arith, omega arith, refl)
    leader_is (suc n) =
        let best = leader s company seat n in
        let next = seat_after s seat (suc (suc n)) in
        let before = leader_is n in
        cond_both (ltb (seat_tenths s company best) (seat_tenths s company next)) next best (λ v. (m : ℕ) × (1 ≤ m) × (m ≤ suc (suc n)) × (v ≡ seat_after s seat m))
        (λ _. (suc (suc n), omega arith, omega arith, refl))
        (λ _. (before.0, before.1, omega (arith, before.2), before.3))

    pub leader_most : (n m : ℕ) → 1 ≤ m → m ≤ suc n → seat_tenths s company (seat_after s seat m) ≤ seat_tenths s company (leader s company seat n)
    leader_most zero m some h =
        let only : m ≡ 1 = omega arith in
        subst (λ (k : ℕ). seat_tenths s company (seat_after s seat k) ≤ seat_tenths s company (seat_after s seat 1)) (sym only) (itself (seat_tenths s company (seat_after s seat 1)))
    leader_most (suc n) m some h =
        let best = leader s company seat n in
        let next = seat_after s seat (suc (suc n)) in
        let tens = seat_tenths s company in
        let here : (m ≤ suc n) ⊎ (m ≡ suc (suc n)) = ⊎_elim (λ lt. inl (omega (arith, lt))) (λ le. inr (omega (arith, le))) (cases_lt m (suc (suc n))) in
        let mine = seat_after s seat m in
        cond_both (ltb (tens best) (tens next)) next best (λ v. tens mine ≤ tens v)
        (λ e.
        ⊎_elim (λ le. under (tens mine) (tens best) (tens next) (leader_most n m some le) (ltb-true (tens best) (tens next) e))
        (λ last. alike (tens mine) (tens next) (tens next) (ap (λ k. tens (seat_after s seat k)) last) (itself (tens next))) here)
        (λ e.
        ⊎_elim (λ le. leader_most n m some le)
        (λ last. alike (tens mine) (tens next) (tens best) (ap (λ k. tens (seat_after s seat k)) last) (ltb-false (tens best) (tens next) e)) here)

    pub largest_other_in : (1 ≤ largest_other s company seat) × (largest_other s company seat ≤ s.players)
    largest_other_in =
        let found = leader_is (s.players - 2) in
        subst (λ (v : ℕ). (1 ≤ v) × (v ≤ s.players)) (sym found.3) (seat_after_in found.0)

    pub largest_other_other : 2 ≤ s.players → largest_other s company seat ≢ seat
    largest_other_other two e =
        let found = leader_is (s.players - 2) in
        seat_after_other found.0 found.1 (omega (arith, found.2)) (sym found.3 ∙ e)

    pub largest_other_most : 2 ≤ s.players → (o : ℕ) → 1 ≤ o → o ≤ s.players → o ≢ seat → seat_tenths s company o ≤ seat_tenths s company (largest_other s company seat)
    largest_other_most two o one in_range ne =
        let found = seat_reached o one in_range ne in
        subst (λ (v : ℕ). seat_tenths s company v ≤ seat_tenths s company (largest_other s company seat)) found.3
        (leader_most (s.players - 2) found.0 found.1 (omega (arith, found.2)))

module _ (s : Books) (company : ℕ) where
  holds_from : (from n seat : ℕ) → director_from s company from n ≡ Some seat → (holds_director s company (seat_papers seat) ≡ true) × (from ≤ seat) × (seat < from + n)
  holds_from from zero seat e = absurd (let z : ◌≡◌ {A = ℕ} 0 1 = cc in omega (arith, z))
  holds_from from (suc n) seat e =
      let test = holds_director s company (seat_papers from) in
      let rest = director_from s company (suc from) n in
      ⊎_elim
      (λ yes.
      let is : Some from ≡ Some seat = sym (cond-true test (Some from) rest yes) ∙ e in
      let same : from ≡ seat = cc in
      (subst (λ (v : ℕ). holds_director s company (seat_papers v) ≡ true) same yes, omega (arith, same), omega (arith, same)))
      (λ no.
      let r = holds_from (suc from) n seat (sym (cond-false test (Some from) rest no) ∙ e) in
      (r.0, omega (arith, r.1), omega (arith, r.2)))
      (cases_Bool test)

  pub director_holds : (seat : ℕ) → director s company ≡ Some seat → (holds_director s company (seat_papers seat) ≡ true) × (1 ≤ seat) × (seat ≤ s.players)
  director_holds seat e =
      let r = holds_from 1 s.players seat e in
      (r.0, r.1, omega (arith, r.2))

  found_from : (from n o : ℕ) → holds_director s company (seat_papers o) ≡ true → from ≤ o → o < from + n → (seat : ℕ) × (director_from s company from n ≡ Some seat)
  found_from from zero o h low high = absurd (omega arith)
  found_from from (suc n) o h low high =
      let test = holds_director s company (seat_papers from) in
      let rest = director_from s company (suc from) n in
      ⊎_elim
      (λ yes. (from, cond-true test (Some from) rest yes))
      (λ no.
      let past : from ≢ o = λ e. both_ways test no (subst (λ (v : ℕ). holds_director s company (seat_papers v) ≡ true) (sym e) h) in
      let later : suc from ≤ o = ⊎_elim (λ e. absurd (past e)) (λ d. omega (arith, d)) (cases_eq from o) in
      let r = found_from (suc from) n o h later (omega arith) in
      (r.0, cond-false test (Some from) rest no ∙ r.1))
      (cases_Bool test)

  pub director_found : (o : ℕ) → holds_director s company (seat_papers o) ≡ true → 1 ≤ o → o ≤ s.players → (seat : ℕ) × (director s company ≡ Some seat)
  director_found o h one in_range = found_from 1 s.players o h one (omega arith)
