use Rattle.std.proofs.Common.{◌≡◌, ◌++◌, string_bytes}
use Rattle.entries.specs.Whole.{reading}
use Rattle.gamefile.specs.Left.{left}
use Rattle.listing.specs.Listing.{lines}
use Rattle.listing.proofs.whole.push_file.Given as goal

-- what is pushed so far and what is left to read make the whole text
abbrev pub invariant-loop-found : goal.invariant-loop-found
invariant-loop-found l = string_bytes l.text ++ lines (left l.found-iterator) ≡ string_bytes l.initial.text ++ lines (reading l.file)
