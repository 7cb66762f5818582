-- A text that grows line by line.
use Rattle.std.proofs.Common.{◌≡◌, ℕ, zero, suc, ◌-◌, ◌≤◌, List, [], ◌++◌, sym, ap, ◌∙◌, arith}
use Rattle.std.proofs.lemmas.List.{append-nil}
use Rattle.text.specs.Text.{shown, added}
use Rattle.text.specs.declared.text.Text.{Text}
use Rattle.text.proofs.Added.{added_fits, added_then, shown_bound}
use Rattle.statement_text.specs.Statement.{lines_to}

pub nothing_added : (t : Text) → shown t ≡ added (shown t) []
nothing_added t = let short = shown_bound t in sym (added_fits (shown t) [] (omega arith) ∙ append-nil (shown t))

-- the text before all lines, after those before a number, and after the line of that number
pub line_added : (line : ℕ → List ℕ) (number : ℕ) (before here after : List ℕ) → 1 ≤ number → here ≡ added before (lines_to line (number - 1)) → after ≡ added here (line number) → after ≡ added before (lines_to line number)
line_added line zero before here after first e f = absurd (omega arith)
line_added line (suc k) before here after first e f =
    let back : suc k - 1 ≡ k = omega arith in
    added_then before here after (lines_to line (suc k - 1)) (line (suc k)) e f
    ∙ ap (λ n. added before (lines_to line n ++ line (suc k))) back

-- the lines up to equal numbers
pub as_many : (line : ℕ → List ℕ) (before : List ℕ) (m n : ℕ) → m ≡ n → added before (lines_to line m) ≡ added before (lines_to line n)
as_many line before m n e = ap (λ k. added before (lines_to line k)) e
