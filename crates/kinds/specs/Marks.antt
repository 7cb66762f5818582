-- Cash by its marks and its floor.
use Rattle.std.specs.Prelude.{◌≡◌, ℕ, ◌≤◌, Bool, true, false, cond, T, ℤ, pos, negsuc, ◌+ℤ◌, ◌-ℤ◌, ◌≤ℤ◌, Some, None, Option, ◌==◌, int_le, refl}
use Rattle.std.proofs.Common.{sym, ap, ◌∙◌, arith}
use denote.Struct.Cover.{Cover-one}
use Rattle.std.proofs.lemmas.Int.{ints}
use Rattle.std.proofs.lemmas.Bool.{eqb-true, ne_eqb, cond-false, and_from}
use Rattle.hands.specs.Tallies.{TallyLaws}
use Rattle.kinds.specs.Floor.{floor_marks}
use Rattle.kinds.specs.Cash.{can_give, can_take, given, taken, cash, cash_tallies, cash_new, in_range, le_from}
use Rattle.kinds.specs.declared.cash.Cash.{Cash}
use Rattle.kinds.specs.declared.cash_floor.CashFloor.{CashFloor}
use Rattle.kinds.specs.declared.cash_floor.CashFloor.TheVariants.{Zero, Overdraft}
use Rattle.kinds.specs.contracts.cash.Cash.{the_type}
use Rattle.kinds.specs.Made.{by_test, passed}

pub same_cash : (a b : Cash) → a.marks ≡ b.marks → a.floor ≡ b.floor → a ≡ b
same_cash a b e f = Cover-one the_type.cover the_type.propositions a b (λ i. (e i, (f i, tt)))

pub floor_range : (f : CashFloor) → (negsuc 19999 ≤ℤ floor_marks f) × (floor_marks f ≤ℤ pos 0)
floor_range Zero = (omega (arith, ints), omega (arith, ints))
floor_range Overdraft = (omega (arith, ints), omega (arith, ints))

is_true : (b : Bool) → T b → b ≡ true
is_true true t = refl
is_true false t = absurd t

pub to_le : (a b : ℤ) → a ≤ℤ b → int_le a b ≡ true
to_le a b h = is_true (int_le a b) h.le

same_floor : (f g : CashFloor) → floor_marks f ≡ floor_marks g → f ≡ g
same_floor Zero Zero e = refl
same_floor Zero Overdraft e = let z : ◌≡◌ {A = ℕ} 0 1 = cc in absurd (omega arith)
same_floor Overdraft Zero e = let z : ◌≡◌ {A = ℕ} 0 1 = cc in absurd (omega arith)
same_floor Overdraft Overdraft e = refl

pub given_marks : (c : Cash) (n : ℕ) → can_give c n ≡ true → (given c n).marks ≡ c.marks -ℤ pos n
given_marks c n e = passed (can_give c n) _ c (λ (d : Cash). d.marks ≡ c.marks -ℤ pos n) e (λ _. refl)

pub taken_marks : (c : Cash) (n : ℕ) → can_take c n ≡ true → (taken c n).marks ≡ c.marks +ℤ pos n
taken_marks c n e = passed (can_take c n) _ c (λ (d : Cash). d.marks ≡ c.marks +ℤ pos n) e (λ _. refl)

pub given_keeps : (c : Cash) (n : ℕ) → (given c n).floor ≡ c.floor
given_keeps c n = by_test (can_give c n) _ c (λ (d : Cash). d.floor ≡ c.floor) (λ _. refl) (λ _. refl)

pub taken_keeps : (c : Cash) (n : ℕ) → (taken c n).floor ≡ c.floor
taken_keeps c n = by_test (can_take c n) _ c (λ (d : Cash). d.floor ≡ c.floor) (λ _. refl) (λ _. refl)

pub is_given : (c d : Cash) (n : ℕ) → true ≡ can_give c n → d.marks ≡ c.marks -ℤ pos n → d.floor ≡ c.floor → d ≡ given c n
is_given c d n e m f = same_cash d (given c n) (m ∙ sym (given_marks c n (sym e))) (f ∙ sym (given_keeps c n))

pub is_taken : (c d : Cash) (n : ℕ) → true ≡ can_take c n → d.marks ≡ c.marks +ℤ pos n → d.floor ≡ c.floor → d ≡ taken c n
is_taken c d n e m f = same_cash d (taken c n) (m ∙ sym (taken_marks c n (sym e))) (f ∙ sym (taken_keeps c n))

pub is_new : (f : CashFloor) (m : ℤ) (d : Cash) → floor_marks f ≤ℤ m → m ≤ℤ pos 1000000 → d.marks ≡ m → d.floor ≡ f → Some d ≡ cash_new f m
is_new f m d low high e g =
    passed (in_range f m) _ None (λ o. Some d ≡ o) (and_from _ _ (to_le (floor_marks f) m low) (to_le m (pos 1000000) high)) (λ _. ap Some (same_cash _ _ e g))

abbrev or_made : Cash → Option Cash → Cash
or_made c (Some d) = d
or_made c None = c

pub new_is : (f : CashFloor) (m : ℤ) (d : Cash) → Some d ≡ cash_new f m → (d.marks ≡ m) × (d.floor ≡ f)
new_is f m d =
    by_test (in_range f m) _ None (λ o. Some d ≡ o → (d.marks ≡ m) × (d.floor ≡ f))
    (λ e s. (ap (λ o. (or_made d o).marks) s, ap (λ o. (or_made d o).floor) s))
    (λ _ s. let z : ◌≡◌ {A = ℕ} 0 1 = cc in absurd (omega arith))

above : (b : Bool) (f m : ℤ) → f ≤ℤ m → cond b f (pos 0) ≤ℤ cond b m (pos 0)
above true f m h = h
above false f m h = omega (arith, ints)

below : (b : Bool) (m : ℤ) → m ≤ℤ pos 1000000 → cond b m (pos 0) ≤ℤ pos 1000000
below true m h = h
below false m h = omega (arith, ints)

unnamed : (b : Bool) (n : ℕ) → b ≡ false → cond b n 0 ≡ 0
unnamed b n e = rw e

lower : (m : ℤ) (n : ℕ) → (b : Bool) → cond b (m -ℤ pos n) (pos 0) ≡ cond b m (pos 0) -ℤ pos (cond b n 0)
lower m n true = refl
lower m n false = refl

raise : (m : ℤ) (n : ℕ) → (b : Bool) → cond b (m +ℤ pos n) (pos 0) ≡ cond b m (pos 0) +ℤ pos (cond b n 0)
raise m n true = refl
raise m n false = refl

gives_at : (f m : ℤ) (n : ℕ) → f ≤ℤ (m -ℤ pos n) → (b : Bool) → cond b f (pos 0) ≤ℤ (cond b m (pos 0) -ℤ pos (cond b n 0))
gives_at f m n h true = h
gives_at f m n h false = omega (arith, ints)

takes_at : (m : ℤ) (n : ℕ) → (m +ℤ pos n) ≤ℤ pos 1000000 → (b : Bool) → (cond b m (pos 0) +ℤ pos (cond b n 0)) ≤ℤ pos 1000000
takes_at m n h true = h
takes_at m n h false = omega (arith, ints)

outside : (c : Cash) (tag : ℕ) → 1 ≤ tag → cond (tag == 0) c.marks (pos 0) ≡ pos 0
outside c tag h = cond-false (tag == 0) c.marks (pos 0) (ne_eqb tag 0 (λ e. omega arith))

pub cash_laws : TallyLaws cash cash_tallies
cash_laws =
    record {
      above = λ c tag. above (tag == 0) (floor_marks c.floor) c.marks c.low;
      below = λ c tag. below (tag == 0) c.marks c.high;
      outside = outside;
      unnamed = λ n tag. unnamed (tag == 0) n;
      gives = λ c n. (
        (λ e. ((λ tag named. let z = eqb-true tag 0 named in omega arith), λ tag. gives_at (floor_marks c.floor) c.marks n (le_from (floor_marks c.floor) (c.marks -ℤ pos n) e) (tag == 0))),
        (λ p. to_le (floor_marks c.floor) (c.marks -ℤ pos n) (p.1 0)),
      );
      takes = λ c n. (
        (λ e. ((λ tag named. let z = eqb-true tag 0 named in omega arith), λ tag. takes_at c.marks n (le_from (c.marks +ℤ pos n) (pos 1000000) e) (tag == 0))),
        (λ p. to_le (c.marks +ℤ pos n) (pos 1000000) (p.1 0)),
      );
      lowers = λ c n tag e. ap (λ m. cond (tag == 0) m (pos 0)) (given_marks c n e) ∙ lower c.marks n (tag == 0);
      raises = λ c n tag e. ap (λ m. cond (tag == 0) m (pos 0)) (taken_marks c n e) ∙ raise c.marks n (tag == 0);
      given_floor = λ c n tag. ap (λ f. cond (tag == 0) (floor_marks f) (pos 0)) (given_keeps c n);
      taken_floor = λ c n tag. ap (λ f. cond (tag == 0) (floor_marks f) (pos 0)) (taken_keeps c n);
      equal = λ a b tallies floors. same_cash a b (tallies 0) (same_floor a.floor b.floor (floors 0));
    }
