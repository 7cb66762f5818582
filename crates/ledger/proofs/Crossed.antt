-- Crossings one after the other.
use Rattle.std.proofs.Common.{◌≡◌, List, [], ◌∷◌, ◌++◌, refl, ◌∙◌}
use Rattle.ledger.specs.Crossings.{Crossing, pays, hands, moves, crossed, all_crossed}
use Rattle.ledger.specs.declared.books.Books.{Books}

pub crossed_append : (s : Books) (xs ys : List Crossing) → all_crossed s (xs ++ ys) ≡ all_crossed (all_crossed s xs) ys
crossed_append s [] ys = refl
crossed_append s (x ∷ xs) ys = crossed_append (crossed s x) xs ys

-- nothing that crosses changes the number of players
pub same_players : (s : Books) (x : Crossing) → (crossed s x).players ≡ s.players
same_players s (pays giver receiver marks) = refl
same_players s (hands company giver receiver bits) = refl
same_players s (moves giver receiver load) = refl

pub all_same_players : (s : Books) (xs : List Crossing) → (all_crossed s xs).players ≡ s.players
all_same_players s [] = refl
all_same_players s (x ∷ xs) = all_same_players (crossed s x) xs ∙ same_players s x

-- nor the round, nor whose turn it is
pub same_round : (s : Books) (x : Crossing) → (crossed s x).round ≡ s.round
same_round s (pays giver receiver marks) = refl
same_round s (hands company giver receiver bits) = refl
same_round s (moves giver receiver load) = refl

pub all_same_round : (s : Books) (xs : List Crossing) → (all_crossed s xs).round ≡ s.round
all_same_round s [] = refl
all_same_round s (x ∷ xs) = all_same_round (crossed s x) xs ∙ same_round s x

pub same_operating : (s : Books) (x : Crossing) → (crossed s x).operating ≡ s.operating
same_operating s (pays giver receiver marks) = refl
same_operating s (hands company giver receiver bits) = refl
same_operating s (moves giver receiver load) = refl

pub all_same_operating : (s : Books) (xs : List Crossing) → (all_crossed s xs).operating ≡ s.operating
all_same_operating s [] = refl
all_same_operating s (x ∷ xs) = all_same_operating (crossed s x) xs ∙ same_operating s x
