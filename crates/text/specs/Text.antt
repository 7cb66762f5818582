-- What a text holds, what an append leaves, and what a copy to a lent buffer answers.
use Rattle.std.specs.Prelude.{ℕ, cond, List, ◌++◌, length, take, drop, Ok, Err, Result, nat_le}
use Rattle.text.specs.declared.refusal.TextRefusal.{TextRefusal}
use Rattle.text.specs.declared.refusal.TextRefusal.TheVariants.{BufferTooShort}
use Rattle.text.specs.declared.text.Text.{Text}

abbrev pub shown : Text → List ℕ
shown t = take t.len t.bytes

-- the text `xs` after `ys` is appended: what passes the capacity is cut off
abbrev pub added : List ℕ → List ℕ → List ℕ
added xs ys = take 512 (xs ++ ys)

-- the answer, and what the buffer then holds
abbrev pub copied : List ℕ → List ℕ → Result ℕ TextRefusal × List ℕ
copied text out = cond (nat_le (length text) (length out)) (Ok (length text), text ++ drop (length text) out) (Err BufferTooShort, out)

abbrev pub text_number : TextRefusal → ℕ
text_number BufferTooShort = 56
