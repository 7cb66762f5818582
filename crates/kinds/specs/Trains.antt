-- Trains: eight tags, the kinds 0 to 7; a load is a kind and a count.
use Rattle.std.specs.Prelude.{ℕ, zero, suc, ◌+◌, ◌-◌, ◌≤◌, Bool, cond, ◌&&◌, List, [], ◌∷◌, pos, ◌==◌, nat_le, nat_lt, slice_index, slice_set}
use Rattle.std.proofs.Common.{◌∙◌, arith, length-set}
use Rattle.std.proofs.lemmas.Bool.{and_parts, leb-true}
use Rattle.hands.specs.Kind.{Kind}
use Rattle.hands.specs.Tallies.{Tallies}
use Rattle.kinds.specs.When.{when}
use Rattle.kinds.specs.declared.trains.Trains.{Trains}
use Rattle.kinds.specs.declared.train_load.TrainLoad.{TrainLoad}

abbrev pub held : Trains → ℕ → ℕ
held h kind = slice_index h.counts kind

abbrev pub can_give : Trains → TrainLoad → Bool
can_give h l = nat_lt l.kind 8 && nat_le l.count (held h l.kind)

abbrev pub can_take : Trains → TrainLoad → Bool
can_take h l = nat_lt l.kind 8 && nat_le (held h l.kind + l.count) 255

-- that every count stays below the ceiling
pub bounded : (xs : List ℕ) (i v : ℕ) → v ≤ 255 → ((k : ℕ) → slice_index xs k ≤ 255) → (k : ℕ) → slice_index (slice_set xs i v) k ≤ 255
bounded [] i v h s k = s k
bounded (x ∷ xs) zero v h s zero = h
bounded (x ∷ xs) zero v h s (suc k) = s (suc k)
bounded (x ∷ xs) (suc i) v h s zero = s zero
bounded (x ∷ xs) (suc i) v h s (suc k) = bounded xs i v h (λ j. s (suc j)) k

pub less : (a n : ℕ) → a ≤ 255 → a - n ≤ 255
less a n h = omega arith

abbrev pub with_count : (h : Trains) (kind n : ℕ) → n ≤ 255 → Trains
with_count h kind n small =
    record {
      counts = slice_set h.counts kind n;
      eight = length-set h.counts kind n ∙ h.eight;
      small = bounded h.counts kind n small h.small;
    }

abbrev pub given : Trains → TrainLoad → Trains
given h l =
    when (can_give h l)
    (λ _. with_count h l.kind (held h l.kind - l.count) (less (held h l.kind) l.count (h.small l.kind)))
    h

abbrev pub taken : Trains → TrainLoad → Trains
taken h l =
    when (can_take h l)
    (λ e. with_count h l.kind (held h l.kind + l.count) (leb-true (held h l.kind + l.count) 255 (and_parts (nat_lt l.kind 8) (nat_le (held h l.kind + l.count) 255) e).1))
    h

abbrev pub trains : Kind Trains TrainLoad
trains = record { can_give = can_give; can_take = can_take; given = given; taken = taken }

abbrev pub trains_tallies : Tallies Trains TrainLoad
trains_tallies =
    record {
      tags = 8;
      ceiling = 255;
      tally = λ h tag. pos (held h tag);
      floor = λ _ _. pos 0;
      names = λ l tag. (tag == l.kind);
      amount = λ l tag. cond (tag == l.kind) l.count 0;
    }
