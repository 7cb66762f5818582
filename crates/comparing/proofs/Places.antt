-- Rows and tables that are compared place by place.
use Rattle.std.proofs.Common.{◌≡◌, ℕ, ◌+◌, ◌-◌, ◌<◌, List, length, get_or, Bool, Decides, MatchBool, sym, ap, subst, arith, ext_get_or}
use Rattle.std.specs.List.{AllWithin, HoldsAt, zip}
use Rattle.std.proofs.lemmas.List.Elements.{All-from_get_or}
use Rattle.std.proofs.lemmas.Slice.Zip.{length-zip, get_or-zip}
use Rattle.std.proofs.lemmas.Iterator.Search.{true_from_All}
use Rattle.std.proofs.lemmas.Bool.Decides.{Decides-like, when_true}
use Rattle.kinds.specs.Papers.{no_papers}
use Rattle.ledger.specs.Holdings.{no_cash, no_trains, no_company}
use Rattle.ledger.specs.declared.books.Books.{Books}
use Rattle.promises.specs.Lives.{EqualHands}

-- rows of one length are equal where they are at each place
pub by_place : {A : Type 0} (d : A) (xs ys : List A) (r : Bool) → Decides r (xs ≡ ys) → length xs ≡ length ys → Decides r ((k : ℕ) → get_or xs k d ≡ get_or ys k d)
by_place d xs ys r told len = Decides-like r (λ e k. ap (λ zs. get_or zs k d) e) (λ all. ext_get_or d xs ys len (λ k _. all k)) told

-- what holds of the pairs of a zip holds at each place of two lists of one length
module _ {A : Type 0} (P : A → A → Type 0) (d : A) (xs ys : List A) (len : length xs ≡ length ys) where
  abbrev Pair : A × A → Type 0
  Pair p = P p.0 p.1

  abbrev NoPair : A × A → Type 0
  NoPair p = ¬ (P p.0 p.1)

  inside : (k : ℕ) → k < length (zip xs ys) → k < length xs
  inside k h = let n = length-zip xs ys in omega (arith, n)

  pair_at : (k : ℕ) → k < length xs → get_or (zip xs ys) k (d, d) ≡ (get_or xs k d, get_or ys k d)
  pair_at k h = get_or-zip xs ys k (d, d) h (omega arith)

  pub pairs_decided : (r : Bool) → MatchBool r (AllWithin Pair (zip xs ys) 0 (length (zip xs ys))) ((k : ℕ) × (k < length (zip xs ys)) × HoldsAt NoPair (zip xs ys) k)
      → Decides r ((k : ℕ) → k < length xs → P (get_or xs k d) (get_or ys k d))
  pairs_decided r told = (
    λ e k h. subst Pair (pair_at k h) (when_true (AllWithin Pair (zip xs ys) 0 (length (zip xs ys))) _ e told k (d, d) (omega arith) (let n = length-zip xs ys in omega (arith, n))),
    λ same. true_from_All Pair NoPair r (zip xs ys) (λ x p q. q p) told (All-from_get_or Pair (zip xs ys) (d, d) (λ k h. subst Pair (sym (pair_at k (inside k h))) (same k (inside k h)))),
  )

-- equal hands, part by part
module _ (s t : Books) where
  abbrev pub SameRows : Type 0
  SameRows = ((place : ℕ) → get_or s.cash place no_cash ≡ get_or t.cash place no_cash) × ((place : ℕ) → get_or s.trains place no_trains ≡ get_or t.trains place no_trains)

  abbrev SamePapers : Type 0
  SamePapers = (slot : ℕ) → slot < 8 → (place : ℕ) → get_or (get_or s.companies slot no_company).papers place no_papers ≡ get_or (get_or t.companies slot no_company).papers place no_papers

  pub same_papers_of : EqualHands s t → SamePapers
  same_papers_of same slot below place =
      let n : slot + 1 - 1 ≡ slot = omega arith in
      subst (λ (k : ℕ). get_or (get_or s.companies k no_company).papers place no_papers ≡ get_or (get_or t.companies k no_company).papers place no_papers) n (same.papers (slot + 1) place (omega arith) (omega arith))

  pub equal_hands : SameRows → SamePapers → EqualHands s t
  equal_hands rows certificates = record { cash = rows.0; papers = λ company place low high. certificates (company - 1) (omega arith) place; trains = rows.1 }
