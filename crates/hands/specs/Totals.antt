-- What a row of hands holds in all, and what a carry leaves alone.
use Rattle.std.specs.Prelude.{◌≡◌, ℕ, ◌≢◌, List, [], ◌∷◌, ℤ, pos, ◌+ℤ◌}
use Rattle.std.specs.List.{slice_get}
use Rattle.hands.specs.Tallies.{Tallies}

-- the tallies of one tag over a whole row
abbrev pub total : {H L : Type 0} → Tallies H L → List H → ℕ → ℤ
total t [] tag = pos 0
total t (h ∷ hs) tag = t.tally h tag +ℤ total t hs tag

abbrev pub TotalsKept : {H L : Type 0} → Tallies H L → List H → List H → Type 0
TotalsKept t before after = (tag : ℕ) → total t after tag ≡ total t before tag

abbrev pub ElsewhereSame : {H : Type 0} → ℕ → ℕ → List H → List H → Type 0
ElsewhereSame i j before after = (p : ℕ) → p ≢ i → p ≢ j → slice_get after p ≡ slice_get before p
