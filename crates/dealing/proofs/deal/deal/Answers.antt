use Rattle.std.proofs.Common.{◌≡◌, ℕ, ◌≤◌, Some, sym, ap, ◌∙◌, inr, ⊎_elim, arith}
use Rattle.std.proofs.lemmas.Bool.{cases_lt}
use Rattle.std.specs.Result.{result_ok}
use Rattle.rulebook.specs.Lawful.{Lawful}
use Rattle.rulebook.specs.Book.{Book}
use Rattle.dealing.proofs.Seats.{seven}
use Rattle.dealing.proofs.deal.deal.Goals as goal

-- a number of players that has opening cash
seated : (b : Book) → Lawful b → (players marks : ℕ) → b.opening players ≡ Some marks → players ≤ 6
seated b law players marks e =
    ⊎_elim (λ lt. omega arith) (λ le. let n = law.opening_none players (inr le) in let z : ◌≡◌ {A = ℕ} 0 1 = cc in absurd (omega arith)) (cases_lt players 7)

pub dealt_cash-cash-requires : goal.dealt_cash-cash-requires
dealt_cash-cash-requires g c =
    let law = g.met.B.RuleBook.lawful c.args.book.now in
    let e = sym c.opening_cash.ensures ∙ c.ok_or.ensures.ok_part ∙ ap result_ok c.in_ok-marks.was in
    record {
      seated = seated _ law c.args.players c.in_ok-marks.marks e;
      enough = let h = law.opening_fits c.args.players c.in_ok-marks.marks e in let t = c.bank_total.ensures in omega (arith, h, t);
    }

pub invariant_of-result : goal.invariant_of-result
invariant_of-result g c =
    let law = g.met.B.RuleBook.lawful c.args.book.now in
    let e = sym c.opening_cash.ensures ∙ c.ok_or.ensures.ok_part ∙ ap result_ok c.in_ok-marks.was in
    let six = seated _ law c.args.players c.in_ok-marks.marks e in
    record { seated = six; wide = seven c.bank_total.result c.args.players c.in_ok-marks.marks c.dealt_cash-cash.result six c.dealt_cash-cash.ensures }
