-- No call changes the number of players.
use Rattle.std.proofs.Common.{◌≡◌, List, [], ◌∷◌, Ok, Err, fold, refl, ◌∙◌}
use Rattle.rulebook.specs.Book.{Book}
use Rattle.ledger.specs.Answers.{Answer}
use Rattle.ledger.specs.Lives.{answer, after, granted_after, if_granted, crossings_of}
use Rattle.ledger.specs.declared.books.Books.{Books}
use Rattle.ledger.specs.declared.call.Call.{Call}
use Rattle.ledger.specs.declared.call.Call.TheVariants.{Sell, Buy, End, Close, Bill, Payout, Train, Done, Reopen}
use Rattle.ledger.proofs.Crossed.{all_same_players}

module _ (b : Book) where
  granted_players : (s : Books) (c : Call) → (granted_after b s c).players ≡ s.players
  granted_players s (Sell card seat company tenths) = all_same_players s (crossings_of b s (Sell card seat company tenths))
  granted_players s (Buy card seat company source par) = all_same_players s (crossings_of b s (Buy card seat company source par))
  granted_players s (End card seat) = refl
  granted_players s (Close card) = refl
  granted_players s (Bill card company amount) = all_same_players s (crossings_of b s (Bill card company amount))
  granted_players s (Payout card company mode revenue) = all_same_players s (crossings_of b s (Payout card company mode revenue))
  granted_players s (Train card company kind) = all_same_players s (crossings_of b s (Train card company kind))
  granted_players s (Done card company) = refl
  granted_players s (Reopen card) = refl

  either_way : (s : Books) (c : Call) (a : Answer) → (if_granted a (granted_after b s c) s).players ≡ s.players
  either_way s c (Ok x) = granted_players s c
  either_way s c (Err why) = refl

  pub all_players : (s : Books) (calls : List Call) → (fold (after b) s calls).players ≡ s.players
  all_players s [] = refl
  all_players s (c ∷ calls) = all_players (after b s c) calls ∙ either_way s c (answer b s c)
