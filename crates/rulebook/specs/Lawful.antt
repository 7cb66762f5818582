-- The ranges that the answers of every rule book stay in.
use Rattle.std.specs.Prelude.{◌≡◌, ℕ, ◌+◌, ◌*◌, ◌/◌, ◌%◌, ◌<◌, ◌≤◌, Bool, true, false, ◌&&◌, ◌⊎◌, Some, None, ◌==◌, nat_le}
use Rattle.rulebook.specs.Book.{Book}
use Rattle.rulebook.specs.declared.split.Split.{Split}

abbrev pub Between : ℕ → ℕ → ℕ → Type 0
Between low high n = (low ≤ n) × (n ≤ high)

abbrev pub Outside : ℕ → ℕ → ℕ → Type 0
Outside low high n = (n < low) ⊎ (high < n)

-- a revenue that can be split: a multiple of ten up to 9,990
abbrev pub payable : ℕ → Bool
payable revenue = nat_le revenue 9990 && revenue % 10 == 0

pub record Lawful (b : Book) : Type 0 where
  -- cash
  pub bank_range : Between 1 50000 b.bank
  pub opening_none : (players : ℕ) → Outside 2 6 players → b.opening players ≡ None
  pub opening_fits : (players cash : ℕ) → b.opening players ≡ Some cash → players * cash ≤ b.bank
  -- companies
  pub companies_range : Between 1 8 b.companies
  pub float_range : (company : ℕ) → Between 1 b.companies company → Between 2 10 (b.float company)
  pub float_none : (company : ℕ) → Outside 1 b.companies company → b.float company ≡ 0
  -- limits
  pub certificate_limit_range : (players : ℕ) → Between 2 6 players → Between 1 72 (b.certificate_limit players)
  pub certificate_limit_none : (players : ℕ) → Outside 2 6 players → b.certificate_limit players ≡ 0
  pub share_limit_range : Between 2 10 b.share_limit
  pub pool_limit_range : b.pool_limit ≤ 10
  -- the chart
  pub spaces_range : Between 1 128 b.spaces
  pub price_range : (space : ℕ) → space < b.spaces → Between 1 500 (b.price space)
  pub price_none : (space : ℕ) → b.spaces ≤ space → b.price space ≡ 0
  pub par_none : (space : ℕ) → b.spaces ≤ space → b.par space ≡ false
  pub after_sale_on_chart : (space tenths : ℕ) → b.after_sale space tenths < b.spaces
  pub after_payout_on_chart : (space mode revenue : ℕ) → b.after_payout space mode revenue < b.spaces
  -- the split of a revenue: mode 0 keeps all of it, mode 1 pays all of it, and no mode loses any
  pub split_none : (mode revenue : ℕ) → payable revenue ≡ false → b.split mode revenue ≡ None
  pub split_keeps : (revenue : ℕ) → payable revenue ≡ true → b.split 0 revenue ≡ Some (record { dividend = 0; kept = revenue })
  pub split_pays : (revenue : ℕ) → payable revenue ≡ true → b.split 1 revenue ≡ Some (record { dividend = revenue / 10; kept = 0 })
  pub split_whole : (mode revenue : ℕ) (s : Split) → b.split mode revenue ≡ Some s → 10 * s.dividend + s.kept ≡ revenue
  -- trains
  pub kinds_range : Between 1 8 b.train_kinds
  pub train_price_range : (kind : ℕ) → kind < b.train_kinds → Between 1 2000 (b.train_price kind)
  pub train_price_none : (kind : ℕ) → b.train_kinds ≤ kind → b.train_price kind ≡ 0
  pub train_count_range : (kind : ℕ) → kind < b.train_kinds → Between 1 30 (b.train_count kind)
  pub train_count_none : (kind : ℕ) → b.train_kinds ≤ kind → b.train_count kind ≡ 0
