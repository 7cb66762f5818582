use Rattle.std.proofs.Common.{◌≡◌, ◌+◌, ◌-◌, ◌++◌, length, take, sym, ap, ◌∙◌, arith, rules}
use Rattle.std.proofs.lemmas.List.{length-take-le}
use Rattle.std.proofs.lemmas.Slice.{take-put_mid}
use Rattle.text.specs.Text.{shown}
use Rattle.text.proofs.Added.{added_cut}
use Rattle.text.proofs.text.Text.push_bytes.Goals as goal

pub returns : goal.returns
returns c =
    let t = c.args.self.now in
    let piece = c.args.piece.now in
    let count = c.min-count.result in
    let end = t.len + count in
    let front = c.copy_from_slice.new.self in
    let copied : front ≡ take count piece = search rules in
    let front_length : length front ≡ count = ap length copied ∙ length-take-le count piece (omega arith) in
    let start_length : length (shown t) ≡ t.len = length-take-le t.len t.bytes (search rules) in
    take-put_mid t.len (end - t.len) t.bytes front end (omega arith) (search rules)
    ∙ ap (λ l. shown t ++ l) copied
    ∙ sym (added_cut (shown t) piece count (omega arith) (omega arith))
