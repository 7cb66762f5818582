-- Cash: one tag, a load is a number of marks.
use Rattle.std.specs.Prelude.{◌≡◌, ℕ, Bool, true, cond, ◌&&◌, T, ℤ, pos, ◌+ℤ◌, ◌-ℤ◌, ◌≤ℤ◌, Some, None, Option, ◌==◌, int_le}
use Rattle.std.proofs.Common.{sym, subst, arith}
use Rattle.std.proofs.lemmas.Int.{ints}
use Rattle.std.proofs.lemmas.Bool.{and_parts}
use Rattle.hands.specs.Kind.{Kind}
use Rattle.hands.specs.Tallies.{Tallies}
use Rattle.kinds.specs.Floor.{floor_marks}
use Rattle.kinds.specs.When.{when}
use Rattle.kinds.specs.declared.cash_floor.CashFloor.{CashFloor}
use Rattle.kinds.specs.declared.cash.Cash.{Cash}

abbrev pub can_give : Cash → ℕ → Bool
can_give c n = int_le (floor_marks c.floor) (c.marks -ℤ pos n)

abbrev pub can_take : Cash → ℕ → Bool
can_take c n = int_le (c.marks +ℤ pos n) (pos 1000000)

-- that the range of the marks is kept
pub le_from : (a b : ℤ) → int_le a b ≡ true → a ≤ℤ b
le_from a b e = record { le = subst T (sym e) tt }

pub still_below : (m : ℤ) (n : ℕ) → m ≤ℤ pos 1000000 → (m -ℤ pos n) ≤ℤ pos 1000000
still_below m n h = omega (arith, ints)

pub still_above : (f m : ℤ) (n : ℕ) → f ≤ℤ m → f ≤ℤ (m +ℤ pos n)
still_above f m n h = omega (arith, ints)

abbrev pub given : Cash → ℕ → Cash
given c n =
    when (can_give c n)
    (λ e. record {
      marks = c.marks -ℤ pos n;
      floor = c.floor;
      low = le_from (floor_marks c.floor) (c.marks -ℤ pos n) e;
      high = still_below c.marks n c.high;
    })
    c

abbrev pub taken : Cash → ℕ → Cash
taken c n =
    when (can_take c n)
    (λ e. record {
      marks = c.marks +ℤ pos n;
      floor = c.floor;
      low = still_above (floor_marks c.floor) c.marks n c.low;
      high = le_from (c.marks +ℤ pos n) (pos 1000000) e;
    })
    c

abbrev pub cash : Kind Cash ℕ
cash = record { can_give = can_give; can_take = can_take; given = given; taken = taken }

abbrev pub cash_tallies : Tallies Cash ℕ
cash_tallies =
    record {
      tags = 1;
      ceiling = 1000000;
      tally = λ c tag. cond (tag == 0) c.marks (pos 0);
      floor = λ c tag. cond (tag == 0) (floor_marks c.floor) (pos 0);
      names = λ _ tag. (tag == 0);
      amount = λ n tag. cond (tag == 0) n 0;
    }

-- a hand made from outside: none where the marks are out of range
abbrev pub in_range : CashFloor → ℤ → Bool
in_range f m = int_le (floor_marks f) m && int_le m (pos 1000000)

abbrev pub cash_new : CashFloor → ℤ → Option Cash
cash_new f m =
    when (in_range f m)
    (λ e. Some (record {
      marks = m;
      floor = f;
      low = le_from (floor_marks f) m (and_parts (int_le (floor_marks f) m) (int_le m (pos 1000000)) e).0;
      high = le_from m (pos 1000000) (and_parts (int_le (floor_marks f) m) (int_le m (pos 1000000)) e).1;
    }))
    None
