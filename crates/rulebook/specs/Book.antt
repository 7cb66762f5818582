-- The meaning of a rule book: all its answers. Seats and companies count from 1, spaces and train kinds from 0.
use Rattle.std.specs.Prelude.{ℕ, Bool, Option}
use Rattle.rulebook.specs.declared.funding.Funding.{Funding}
use Rattle.rulebook.specs.declared.split.Split.{Split}

pub record Book : Type 0 where
  pub bank : ℕ
  -- opening cash by number of players
  pub opening : ℕ → Option ℕ
  pub companies : ℕ
  -- tenths, by company
  pub float : ℕ → ℕ
  pub funding : Funding
  -- certificates, by number of players
  pub certificate_limit : ℕ → ℕ
  -- tenths of one company in a hand, and in its pool
  pub share_limit : ℕ
  pub pool_limit : ℕ
  -- the chart: how many spaces, and the price and par mark of each
  pub spaces : ℕ
  pub price : ℕ → ℕ
  pub par : ℕ → Bool
  -- the space of a token after a sale (its space, tenths) and after a payout (its space, mode, revenue)
  pub after_sale : ℕ → ℕ → ℕ
  pub after_payout : ℕ → ℕ → ℕ → ℕ
  -- by mode and revenue
  pub split : ℕ → ℕ → Option Split
  pub train_kinds : ℕ
  pub train_price : ℕ → ℕ
  pub train_count : ℕ → ℕ
