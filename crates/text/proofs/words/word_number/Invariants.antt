use Rattle.std.proofs.Common.{◌≡◌, drop}
use Rattle.text.specs.Words.{digits_after}
use Rattle.text.proofs.words.word_number.Given as goal

abbrev pub invariant-loop-digit : goal.invariant-loop-digit
invariant-loop-digit l = digits_after 0 l.word ≡ digits_after l.n (drop l.digit-index l.word)
