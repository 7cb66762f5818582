use Rattle.std.proofs.Common.{◌++◌, rules, sym, ap, ◌∙◌}
use Rattle.std.proofs.Output.{has_written_append, has_written_of_eq}
use Rattle.std.proofs.lemmas.List.{append-nil}
use Rattle.trace_text.specs.Lines.{numbers_from}
use Rattle.trace_text.proofs.Numbering.{in_set, not_in_set, one_number_more}
use Rattle.trace_text.proofs.lines.NumbersDisplay.fmt.Goals as goal
use Rattle.trace_text.proofs.lines.NumbersDisplay.fmt.Goals.{then-contains+in_ok-write, else-contains}

pub loop-number-preserved : goal.loop-number-preserved
loop-number-preserved g c =
    λ plain.
    let set = c.args.self.now.0.bits in
    let n = c.loop-number.number-counter in
    let sofar = c.loop-number.invariant plain in
    elim c.if-contains.branch [
      | then-contains+in_ok-write w ↦
          let more = ap (λ l. numbers_from set 0 n ++ l) (in_set set n (sym c.contains.ensures ∙ w.if-contains.true)) ∙ one_number_more set n in
          rw w.f-is (has_written_of_eq _ _ _ _ _ more (has_written_append _ _ _ _ _ _ sofar (w.write.ensures.writes sofar.plain (search rules))))
      | else-contains w ↦
          let same = sym (append-nil (numbers_from set 0 n)) ∙ ap (λ l. numbers_from set 0 n ++ l) (sym (not_in_set set n (sym c.contains.ensures ∙ w.if-contains.false))) ∙ one_number_more set n in
          rw w.f-is (has_written_of_eq _ _ _ _ _ same sofar)
    ]
