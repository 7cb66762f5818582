-- The text of an opening: the lines of the bank and of the players' seats, or the refusal.
use Rattle.std.specs.Prelude.{ℕ, suc, List, [], ◌∷◌, ◌++◌, take, Ok, Err, Result}
use Rattle.text.specs.Lines.{bank_line, seat_line, refused_line}
use Rattle.dealing.specs.Opening.{HandView, Dealt}
use Rattle.dealing.specs.Refusal.{opening_number}
use Rattle.dealing.specs.declared.refusal.OpeningRefusal.{OpeningRefusal}

-- from seat n on; nobody holds a certificate yet
abbrev pub seat_lines : ℕ → List HandView → List ℕ
seat_lines n [] = []
seat_lines n (hand ∷ hands) = seat_line n hand.1 0 ++ seat_lines (suc n) hands

-- a row is the bank, then the seats
abbrev pub listed : ℕ → List HandView → List ℕ
listed players [] = []
listed players (bank ∷ seats) = bank_line bank.1 ++ seat_lines 1 (take players seats)

abbrev pub opening_text : Result Dealt OpeningRefusal → List ℕ
opening_text (Ok dealt) = listed dealt.players dealt.row
opening_text (Err why) = refused_line (opening_number why)
