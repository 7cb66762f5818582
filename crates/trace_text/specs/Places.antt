-- The places of the rows by name.
use Rattle.std.specs.Prelude.{ℕ, ◌-◌, cond, List, ◌++◌, codes, decimal, ◌==◌, nat_le}
use Rattle.trace_text.specs.declared.places.Place.{Place}
use Rattle.trace_text.specs.declared.places.Place.TheVariants.{Bank, Offering, Pool, Stack, Seat, Company}

abbrev pub place_words : Place → List ℕ
place_words Bank = codes "bank"
place_words Offering = codes "offering"
place_words Pool = codes "pool"
place_words Stack = codes "stack"
place_words (Seat seat) = codes "seat " ++ decimal seat
place_words (Company company) = codes "company " ++ decimal company

-- the bank, the seats, then the companies
abbrev pub cash_place : ℕ → ℕ → Place
cash_place players place = cond (place == 0) Bank (cond (nat_le place players) (Seat place) (Company (place - players)))

-- the offering, the pool, then the seats
abbrev pub paper_place : ℕ → Place
paper_place place = cond (place == 0) Offering (cond (place == 1) Pool (Seat (place - 1)))

-- the stack, then the companies
abbrev pub train_place : ℕ → Place
train_place place = cond (place == 0) Stack (Company place)
