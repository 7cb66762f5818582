use Rattle.std.proofs.Common.{◌≡◌, ◌++◌, string_bytes}
use Rattle.gamefile.specs.Left.{left}
use Rattle.replay.specs.Cards.{number_of}
use Rattle.game_trace.specs.Trace.{all_traced, traced_from}
use Rattle.game_trace.proofs.steps.push_steps.Given as goal

-- what is told so far and what is left, from the books and the card of this turn, make the whole text
abbrev pub invariant-loop-found : goal.invariant-loop-found
invariant-loop-found g l = record {
  same : l.table.book ≡ l.initial.table.book;
  rest : string_bytes l.text ++ all_traced (g.B.RuleBook.meaning l.initial.table.book) l.table.books (number_of l.card) (left l.found-iterator)
      ≡ string_bytes l.initial.text ++ traced_from (g.B.RuleBook.meaning l.initial.table.book) l.initial.table.books (number_of l.initial.card) l.file l.from;
}
