-- The text of an opening line by line, and that it fits.
use Rattle.std.proofs.Common.{◌≡◌, ℕ, zero, suc, ◌+◌, ◌-◌, ◌*◌, ◌<◌, ◌≤◌, List, [], ◌∷◌, ◌++◌, map, length, get_or, take, take-suc, ℤ, pos, negsuc, ◌≤ℤ◌, sym, ap, ◌∙◌, arith, w32, SFits}
use Rattle.std.proofs.lemmas.List.{append-nil, append_assoc, take-map, get_or-map, length-take, length-map, length-append}
use Rattle.std.proofs.lemmas.Int.{ints}
use Rattle.kinds.specs.declared.cash.Cash.{Cash}
use Rattle.kinds.specs.Marks.{floor_range}
use Rattle.text.specs.Lines.{bank_line, seat_line}
use Rattle.text.proofs.Bounds.{bank_line_bound, seat_line_bound}
use Rattle.dealing.specs.Opening.{HandView, hand_view}
use Rattle.dealing.specs.Listing.{seat_lines, listed}

pub bank_first : (row : List Cash) (d : Cash) → 0 < length row → listed 0 (map hand_view row) ≡ bank_line (get_or row 0 d).marks
bank_first [] d h = absurd (omega arith)
bank_first (c ∷ cs) d h = append-nil (bank_line c.marks)

seat_lines_push : (n : ℕ) (xs : List HandView) (y : HandView) → seat_lines n (xs ++ (y ∷ [])) ≡ seat_lines n xs ++ seat_line (n + length xs) y.1 0
seat_lines_push n [] y = append-nil (seat_line n y.1 0) ∙ ap (λ m. seat_line m y.1 0) (omega arith)
seat_lines_push n (x ∷ xs) y =
    ap (λ l. seat_line n x.1 0 ++ l) (seat_lines_push (suc n) xs y ∙ ap (λ m. seat_lines (suc n) xs ++ seat_line m y.1 0) (omega arith))
    ∙ sym (append_assoc (seat_line n x.1 0) (seat_lines (suc n) xs) (seat_line (n + suc (length xs)) y.1 0))

pub seat_next : (row : List Cash) (d : Cash) (seat : ℕ) → 1 ≤ seat → seat < length row
    → listed seat (map hand_view row) ≡ listed (seat - 1) (map hand_view row) ++ seat_line seat (get_or row seat d).marks 0
seat_next row d zero first h = absurd (omega arith)
seat_next [] d (suc k) first h = absurd (omega arith)
seat_next (c ∷ cs) d (suc k) first h =
    let xs = map hand_view cs in
    let line = seat_line (suc k) (get_or cs k d).marks 0 in
    let wide : length (take k xs) ≡ k = length-take k xs ∙ omega (arith, length-map cs hand_view) in
    let here : (get_or xs k (hand_view d)).1 ≡ (get_or cs k d).marks = ap (λ (v : HandView). v.1) (get_or-map hand_view cs k d (hand_view d) (omega arith)) in
    ap (λ l. bank_line c.marks ++ seat_lines 1 l) (take-suc xs k (hand_view d) (omega (arith, length-map cs hand_view)))
    ∙ ap (λ l. bank_line c.marks ++ l) (seat_lines_push 1 (take k xs) (get_or xs k (hand_view d)))
    ∙ ap (λ n. bank_line c.marks ++ (seat_lines 1 (take k xs) ++ seat_line n (get_or xs k (hand_view d)).1 0)) (omega (arith, wide))
    ∙ ap (λ m. bank_line c.marks ++ (seat_lines 1 (take k xs) ++ seat_line (suc k) m 0)) here
    ∙ sym (append_assoc (bank_line c.marks) (seat_lines 1 (take k xs)) line)
    ∙ ap (λ n. listed n (map hand_view (c ∷ cs)) ++ line) (omega arith)

fits : (z : ℤ) → negsuc 19999 ≤ℤ z → z ≤ℤ pos 1000000 → SFits w32 z
fits (pos n) low high = record { sfits = omega (arith, ints) }
fits (negsuc n) low high = record { sfits = omega (arith, ints) }

cash_fits : (c : Cash) → SFits w32 c.marks
cash_fits c = let r = floor_range c.floor in let low = c.low in fits c.marks (omega (arith, ints)) c.high

seat_lines_bound : (n : ℕ) (cs : List Cash) → n + length cs ≤ 200 → length (seat_lines n (map hand_view cs)) ≤ 32 * length cs
seat_lines_bound n [] h = omega arith
seat_lines_bound n (c ∷ cs) h =
    let one = seat_line_bound n c.marks 0 (omega arith) (cash_fits c) (omega arith) in
    let rest = seat_lines_bound (suc n) cs (omega arith) in
    let both = length-append (seat_line n c.marks 0) (seat_lines (suc n) (map hand_view cs)) in
    omega (arith, one, rest, both)

pub listed_bound : (players : ℕ) (row : List Cash) → length row ≤ 7 → length (listed players (map hand_view row)) ≤ 512
listed_bound players [] h = omega arith
listed_bound players (c ∷ cs) h =
    let bank = bank_line_bound c.marks (cash_fits c) in
    let few : length (take players cs) ≤ 6 = omega (arith, length-take players cs) in
    let seats = seat_lines_bound 1 (take players cs) (omega arith) in
    let same = ap (λ l. length (seat_lines 1 l)) (take-map hand_view players cs) in
    let both = length-append (bank_line c.marks) (seat_lines 1 (take players (map hand_view cs))) in
    omega (arith, bank, seats, same, both)
