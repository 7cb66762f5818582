-- The printed books: North is book 1, Berg book 2.
use Rattle.std.specs.Prelude.{ℕ, List, [], ◌∷◌, Some, None, Option}
use Rattle.rulebook.specs.Book.{Book}
use Rattle.rulebook.specs.declared.funding.Funding.{Funding}
use Rattle.rulebook.specs.declared.funding.Funding.TheVariants.{Full, Sold}
use Rattle.printed.specs.Figures.{by_players, float, certificate_limit, price, par, step_left, steps_left, on_chart, after_payout, split, train_price, train_count}

-- a printed book, by what the two do not share
abbrev pub printed : ℕ → List (Option ℕ) → Funding → (ℕ → ℕ → ℕ) → Book
printed bank opening funding sale_step =
    record {
      bank = bank;
      opening = by_players opening None;
      companies = 8;
      float = float;
      funding = funding;
      certificate_limit = certificate_limit;
      share_limit = 6;
      pool_limit = 5;
      spaces = 16;
      price = price;
      par = par;
      after_sale = λ space tenths. on_chart space (sale_step tenths space);
      after_payout = after_payout;
      split = split;
      train_kinds = 5;
      train_price = train_price;
      train_count = train_count;
    }

-- a sale steps left once for each tenth
abbrev pub north : Book
north = printed 9000 (Some 1200 ∷ (Some 800 ∷ (Some 600 ∷ (Some 480 ∷ (Some 400 ∷ []))))) Full steps_left

-- a sale steps left once, however many tenths
abbrev pub berg : Book
berg = printed 10000 (None ∷ (Some 600 ∷ (Some 450 ∷ (Some 360 ∷ (Some 300 ∷ []))))) Sold (λ _ space. step_left space)
