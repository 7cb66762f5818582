-- The figures that both printed books share, and how a token steps on their chart.
use Rattle.std.specs.Prelude.{ℕ, zero, suc, ◌+◌, ◌/◌, Bool, cond, ◌&&◌, List, [], ◌∷◌, Some, None, Option, ◌==◌, nat_le, nat_lt, slice_index, slice_index_or}
use Rattle.rulebook.specs.Lawful.{payable}
use Rattle.rulebook.specs.declared.split.Split.{Split}

-- companies 1 to 8, five tenths each to float
abbrev pub float : ℕ → ℕ
float company = cond (nat_le 1 company && nat_le company 8) 5 0

-- a table for two players, three players and so on
abbrev pub by_players : {A : Type 0} → List A → A → ℕ → A
by_players figures none zero = none
by_players figures none (suc zero) = none
by_players figures none (suc (suc n)) = slice_index_or figures n none

abbrev pub certificate_limit : ℕ → ℕ
certificate_limit = by_players (28 ∷ (20 ∷ (16 ∷ (13 ∷ (11 ∷ []))))) 0

-- the chart, from the left
abbrev pub prices : List ℕ
prices = 40 ∷ (50 ∷ (60 ∷ (67 ∷ (71 ∷ (76 ∷ (82 ∷ (90 ∷ (100 ∷ (112 ∷ (126 ∷ (142 ∷ (160 ∷ (180 ∷ (200 ∷ (225 ∷ [])))))))))))))))

abbrev pub price : ℕ → ℕ
price space = slice_index prices space

abbrev pub par : ℕ → Bool
par space = nat_le 3 space && nat_le space 8

-- left is the space before, right the next one; a step past an end stays
abbrev pub step_left : ℕ → ℕ
step_left zero = zero
step_left (suc space) = space

abbrev pub step_right : ℕ → ℕ
step_right space = cond (nat_lt (space + 1) 16) (space + 1) space

abbrev pub steps_left : ℕ → ℕ → ℕ
steps_left zero space = space
steps_left (suc n) space = step_left (steps_left n space)

-- from a space that the chart lacks a token comes to space 0
abbrev pub on_chart : ℕ → ℕ → ℕ
on_chart space after = cond (nat_lt space 16) after 0

-- mode 0 steps left; mode 1 right, but left at revenue 0; another mode stays
abbrev pub payout_step : ℕ → ℕ → ℕ → ℕ
payout_step zero revenue space = step_left space
payout_step (suc zero) revenue space = cond (revenue == 0) (step_left space) (step_right space)
payout_step (suc (suc mode)) revenue space = space

abbrev pub after_payout : ℕ → ℕ → ℕ → ℕ
after_payout space mode revenue = on_chart space (payout_step mode revenue space)

-- mode 0 keeps the revenue, mode 1 pays it, and there is no other
abbrev pub split_in : ℕ → ℕ → Option Split
split_in zero revenue = Some (record { dividend = 0; kept = revenue })
split_in (suc zero) revenue = Some (record { dividend = revenue / 10; kept = 0 })
split_in (suc (suc mode)) revenue = None

abbrev pub split : ℕ → ℕ → Option Split
split mode revenue = cond (payable revenue) (split_in mode revenue) None

abbrev pub train_price : ℕ → ℕ
train_price kind = slice_index (80 ∷ (180 ∷ (300 ∷ (450 ∷ (630 ∷ []))))) kind

abbrev pub train_count : ℕ → ℕ
train_count kind = slice_index (7 ∷ (4 ∷ (3 ∷ (3 ∷ (2 ∷ []))))) kind
