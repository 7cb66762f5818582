use Rattle.std.proofs.Common.{◌≡◌, ◌++◌, Some, None, Option, vec_items, refl, sym, ap, ◌∙◌, append_assoc, rules}
use Rattle.std.proofs.lemmas.Iterator.Adapters.{YieldsList-from_once, fact_from_extend}
use Rattle.std.proofs.lemmas.List.{map-id}
use Rattle.std.proofs.lemmas.Result.{IfOk-at_ok}
use Rattle.std.specs.Option.{option_to_list}
use Rattle.gamefile.specs.Left.{left}
use Rattle.ledger.specs.declared.call.Call.{Call}
use Rattle.file_calls.specs.Calls.{calls_from, listed}
use Rattle.file_calls.proofs.Reached.{life_of_file}
use Rattle.file_calls.proofs.calls_of.Goals as goal

pub returns-in_err-extend-clause-lives : goal.returns-in_err-extend-clause-lives
returns-in_err-extend-clause-lives c = life_of_file

pub returns-clause-lives : goal.returns-clause-lives
returns-clause-lives c = life_of_file

listed_is : (o : Option Call) → option_to_list o ≡ listed o
listed_is None = refl
listed_is (Some call) = refl

pub loop-found-preserved : goal.loop-found-preserved
loop-found-preserved c =
    let calls = vec_items c.loop-found.calls in
    let pushed = IfOk-at_ok _ c.in_ok-extend.was (fact_from_extend (λ (x : Call). x) c.extend.result c.extend.ensures.ran (λ it b. YieldsList-from_once _ b.0) (λ xs e h. h.0 ∙ ap (λ l. calls ++ l) (sym (map-id xs) ∙ e ∙ listed_is c.call_of.result))) in
    let rest = append_assoc calls (listed c.call_of.result) (calls_from c.next_card-card.result (left c.next.new.self).0) in
    search rules
