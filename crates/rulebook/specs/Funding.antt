-- For how many tenths a floating company is paid its par.
use Rattle.std.specs.Prelude.{ℕ}
use Rattle.rulebook.specs.declared.funding.Funding.{Funding}
use Rattle.rulebook.specs.declared.funding.Funding.TheVariants.{Full, Sold}

abbrev pub funded_tenths : Funding → ℕ → ℕ
funded_tenths Full gone = 10
funded_tenths Sold gone = gone
