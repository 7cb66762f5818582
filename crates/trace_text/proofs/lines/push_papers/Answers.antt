use Rattle.std.proofs.Common.{◌≡◌, ℕ, List, ◌++◌, string_bytes, codes, decimal, ap, ◌∙◌, append_assoc}
use Rattle.trace_text.specs.Lines.{numbers_from, papers_told, papers_line}
use Rattle.trace_text.specs.Places.{place_words, paper_place}
use Rattle.trace_text.specs.declared.places.Place.{Place}
use Rattle.trace_text.proofs.Growing.{written_made}
use Rattle.trace_text.proofs.lines.push_papers.Goals as goal

joined : (a b c d e f g : List ℕ) → a ++ (b ++ (c ++ (d ++ (e ++ (f ++ g))))) ≡ (a ++ (b ++ (c ++ (d ++ (e ++ f))))) ++ g
joined a b c d e f g = simp append_assoc

-- the line as the format writes it
abbrev printed : ℕ → Place → Place → List ℕ → List ℕ
printed company giver receiver numbers =
    codes "  company " ++ (decimal company ++ (codes ": " ++ (place_words giver ++ (codes " gives " ++ (place_words receiver ++ (codes " certificates" ++ (numbers ++ codes "\n")))))))

same_line : (company : ℕ) (giver receiver : Place) (numbers : List ℕ) → printed company giver receiver numbers ≡ papers_told company giver receiver ++ (numbers ++ codes "\n")
same_line company giver receiver numbers =
    ap (λ l. codes "  company " ++ l) (joined (decimal company) (codes ": ") (place_words giver) (codes " gives ") (place_words receiver) (codes " certificates") (numbers ++ codes "\n"))

pub returns : goal.returns
returns c =
    let a = c.args in
    let giver = c.paper_place_at-giver in
    let receiver = c.paper_place_at-receiver in
    let numbers = numbers_from a.certificates.bits 0 16 in
    written_made c.writeln.result (string_bytes a.text.now) (string_bytes c.writeln.new.self)
    (printed a.company giver.result receiver.result numbers)
    (papers_line a.company a.giver a.receiver a.certificates.bits)
    c.writeln.ensures.bytes
    (same_line a.company giver.result receiver.result numbers
    ∙ ap (λ (p : Place). papers_told a.company p receiver.result ++ (numbers ++ codes "\n")) giver.ensures
    ∙ ap (λ (p : Place). papers_told a.company (paper_place a.giver) p ++ (numbers ++ codes "\n")) receiver.ensures)
