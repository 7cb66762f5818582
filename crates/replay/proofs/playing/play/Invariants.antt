use Rattle.std.proofs.Common.{◌≡◌}
use Rattle.gamefile.specs.Left.{left}
use Rattle.replay.specs.Cards.{number_of}
use Rattle.replay.specs.Playing.{all_played, played_from}
use Rattle.replay.proofs.playing.play.Given as goal

-- what is left to play, from the books and the card of this turn, ends as the whole does
abbrev pub invariant-loop-found : goal.invariant-loop-found
invariant-loop-found g l = record {
  same : l.table.book ≡ l.initial.table.book;
  rest : all_played (g.B.RuleBook.meaning l.initial.table.book) l.table.books (number_of l.card) (left l.found-iterator)
      ≡ played_from (g.B.RuleBook.meaning l.initial.table.book) l.initial.table.books (number_of l.initial.card) l.file l.from;
}
