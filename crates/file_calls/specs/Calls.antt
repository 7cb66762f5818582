-- The calls of a game file, each with the card of its round.
use Rattle.std.specs.Prelude.{ℕ, ◌+◌, min, List, [], ◌∷◌, ◌++◌, Some, None, Option}
use Rattle.entries.specs.Entry.{Entry, opens, sells, buys, ends, closes, bills, pays_out, buys_train, is_done, reopens}
use Rattle.entries.specs.Whole.{reading}
use Rattle.ledger.specs.declared.call.Call.{Call}
use Rattle.replay.specs.Calls.{call_of}

-- Close and reopen trade the card for that of the next round. A card's number has sixteen bits; no table comes near the end of them.
abbrev pub next_number : ℕ → ℕ
next_number card = min (card + 1) 65535

abbrev pub card_then : ℕ → Entry → ℕ
card_then card (opens book players) = card
card_then card (sells seat company tenths) = card
card_then card (buys seat company source par_space) = card
card_then card (ends seat) = card
card_then card closes = next_number card
card_then card (bills company amount) = card
card_then card (pays_out company mode revenue) = card
card_then card (buys_train company kind) = card
card_then card (is_done company) = card
card_then card reopens = next_number card

abbrev pub listed : Option Call → List Call
listed None = []
listed (Some c) = c ∷ []

abbrev pub calls_from : ℕ → List (ℕ × Entry) → List Call
calls_from card [] = []
calls_from card (p ∷ rest) = listed (call_of card p.1) ++ calls_from (card_then card p.1) rest

-- a table's first card has the number 1
abbrev pub file_calls : List ℕ → List Call
file_calls file = calls_from 1 (reading file).0
