-- The number of each refusal of carry, and what it says.
use Rattle.std.specs.Prelude.{ℕ, List, ◌++◌, codes, decimal}
use Rattle.hands.specs.declared.fault.CarryFault.{CarryFault}
use Rattle.hands.specs.declared.fault.CarryRefusal.{CarryRefusal}
use Rattle.hands.specs.declared.fault.CarryRefusal.TheVariants.{OutsideRow, SameHand, CannotGive, CannotTake}

abbrev pub carry_number : CarryRefusal → ℕ
carry_number OutsideRow = 1
carry_number SameHand = 2
carry_number CannotGive = 3
carry_number CannotTake = 4

abbrev pub carry_words : CarryRefusal → List ℕ
carry_words OutsideRow = codes "a place outside the row"
carry_words SameHand = codes "giver and receiver are the same hand"
carry_words CannotGive = codes "the giver cannot give"
carry_words CannotTake = codes "the receiver cannot take"

-- carry from GIVER to RECEIVER: WORDS
abbrev pub carry_told : ℕ → ℕ → List ℕ → List ℕ
carry_told giver receiver words = codes "carry from " ++ (decimal giver ++ (codes " to " ++ (decimal receiver ++ (codes ": " ++ words))))

abbrev pub carry_line : CarryFault → List ℕ
carry_line fault = carry_told fault.giver fault.receiver (carry_words fault.refusal)
