use Rattle.std.proofs.Common.{◌≡◌, ℕ, Decides, get_or, length, sym, ◌∙◌, arith, rules, tests}
use Rattle.std.proofs.lemmas.Bool.{false≢true}
use Rattle.std.proofs.lemmas.Bool.Decides.{Decides-at, Decides-like}
use Rattle.std.proofs.lemmas.Iterator.{cases_from_all, YieldsList-from_zip, YieldsList-from_slice}
use Rattle.std.proofs.lemmas.Slice.Eq.{slice_eq-Decides}
use Rattle.kinds.specs.Papers.{no_papers}
use Rattle.ledger.specs.Holdings.{no_cash, no_trains, no_company}
use Rattle.ledger.specs.declared.company.Company.{Company}
use Rattle.kinds.proofs.Equal.{decides_cash, decides_trains}
use Rattle.comparing.proofs.Places.{by_place, pairs_decided, SameRows, same_papers_of, equal_hands}
use Rattle.comparing.proofs.same_hands.Goals as goal
use Rattle.comparing.proofs.same_hands.Goals.{Joined-eq, then-eq, else-eq}

rows : (c : Joined-eq) → Decides c.if-eq.value (SameRows c.args.one.now c.args.other.now)
rows c =
    let s = c.args.one.now in
    let t = c.args.other.now in
    let cash = by_place no_cash s.cash t.cash _ (slice_eq-Decides decides_cash s.cash t.cash c.eq.result c.eq.ensures) (search rules) in
    elim c.if-eq.branch [
      | then-eq w ↦
          let trains = by_place no_trains s.trains t.trains _ (slice_eq-Decides decides_trains s.trains t.trains w.eq-then-eq.result w.eq-then-eq.ensures) (search rules) in
          Decides-like _ (λ p. (cash.0 w.if-eq.true, p)) (λ p. p.1) (Decides-at _ _ w.value-is trains)
      | else-eq w ↦ Decides-at _ _ w.value-is (λ e. absurd (false≢true (sym w.if-eq.false ∙ e)), λ p. cash.1 p.0)
    ]

abbrev Alike : Company → Company → Type 0
Alike x y = (place : ℕ) → get_or x.papers place no_papers ≡ get_or y.papers place no_papers

pub returns-then-eq-2 : goal.returns-then-eq-2
returns-then-eq-2 c =
    let s = c.args.one.now in
    let t = c.args.other.now in
    let told = cases_from_all c.all.new.self _ _ (λ p. Alike p.0 p.1) (λ p. ¬ (Alike p.0 p.1)) c.all.ensures.ran (YieldsList-from_zip (YieldsList-from_slice s.companies (cc)) (YieldsList-from_slice t.companies (cc))) (λ x q k. search (rules, tests)) (λ x q k. search (rules, tests)) in
    let long : length s.companies ≡ 8 = search rules in
    let wide : length t.companies ≡ 8 = search rules in
    let papers = pairs_decided Alike no_company s.companies t.companies (long ∙ sym wide) _ told in
    let same = (rows (goal.at.returns-then-eq-2 c).Joined-eq).0 c.if-eq-2.true in
    Decides-like _ (λ p. equal_hands s t same (λ slot h. p slot (omega (arith, long)))) (λ e slot h. same_papers_of s t e slot (omega (arith, long))) papers

pub returns-else-eq-2 : goal.returns-else-eq-2
returns-else-eq-2 c =
    let own = rows (goal.at.returns-else-eq-2 c).Joined-eq in
    (λ e. absurd (false≢true (sym c.if-eq-2.false ∙ e)), λ same. own.1 (same.cash, same.trains))
