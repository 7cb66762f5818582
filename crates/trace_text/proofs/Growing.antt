-- A text that grows piece by piece.
use Rattle.std.proofs.Common.{◌≡◌, ℕ, List, ◌++◌, IfOk, Ok, Err, Result, ap, ◌∙◌, subst}
use Rattle.std.proofs.lemmas.List.{append_assoc}
use Rattle.trace_text.specs.Pushed.{Pushed}

pub then_pushed : (a b c xs ys : List ℕ) → Pushed a b xs → Pushed b c ys → Pushed a c (xs ++ ys)
then_pushed a b c xs ys p q = record { joined = q.joined ∙ ap (λ t. t ++ ys) p.joined ∙ append_assoc a xs ys }

-- what a format wrote is the answer
pub written_made : {X Y : Type 0} (r : Result X Y) (a b xs ys : List ℕ) → IfOk r (λ _. b ≡ a ++ xs) → xs ≡ ys → IfOk r (λ _. Pushed a b ys)
written_made (Ok x) a b xs ys p e = record { joined = p ∙ ap (λ t. a ++ t) e }
written_made (Err y) a b xs ys p e = tt

-- the last piece is also the answer
pub then_made : {X Y : Type 0} (r : Result X Y) (a b c xs ys zs : List ℕ) → Pushed a b xs → IfOk r (λ _. Pushed b c ys) → xs ++ ys ≡ zs → IfOk r (λ _. Pushed a c zs)
then_made (Ok x) a b c xs ys zs p q e = subst (Pushed a c) e (then_pushed a b c xs ys p q)
then_made (Err y) a b c xs ys zs p q e = tt
