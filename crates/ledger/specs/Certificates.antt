-- Which certificates of a hand move.
use Rattle.std.specs.Prelude.{ℕ, zero, suc, ◌+◌, ◌^◌, cond, ◌==◌}
use Rattle.kinds.specs.Papers.{bit}

-- the n lowest certificates of a set, going up through `left` numbers from one on
abbrev pub lowest_from : ℕ → ℕ → ℕ → ℕ → ℕ
lowest_from n from zero set = 0
lowest_from zero from (suc left) set = 0
lowest_from (suc n) from (suc left) set =
    cond ((bit from set) == 1) (2 ^ from + lowest_from n (suc from) left set) (lowest_from (suc n) (suc from) left set)

-- the one lowest; the two lowest, which a new director gives; the n lowest but the director's, which a seller gives
abbrev pub lowest_one : ℕ → ℕ
lowest_one set = lowest_from 1 0 9 set

abbrev pub lowest_two : ℕ → ℕ
lowest_two set = lowest_from 2 0 9 set

abbrev pub lowest_ordinary : ℕ → ℕ → ℕ
lowest_ordinary n set = lowest_from n 1 8 set
