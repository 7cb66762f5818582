-- Hands with tallies: what a kind tells of its hands and loads, and the laws that it shows.
use Rattle.std.specs.Prelude.{◌≡◌, ℕ, ◌<◌, ◌≤◌, Bool, true, false, ℤ, pos, ◌+ℤ◌, ◌-ℤ◌, ◌≤ℤ◌, Decides}
use Rattle.hands.specs.Kind.{Kind}

pub record Tallies (H L : Type 0) : Type 0 where
  -- the kind has the tags 0 up to this number
  pub tags : ℕ
  pub ceiling : ℕ
  pub tally : H → ℕ → ℤ
  pub floor : H → ℕ → ℤ
  -- which tags a load names, and how much it is of each
  pub names : L → ℕ → Bool
  pub amount : L → ℕ → ℕ

-- a load that names no tag outside the kind
abbrev pub Own : {H L : Type 0} → Tallies H L → L → Type 0
Own t l = (tag : ℕ) → t.names l tag ≡ true → tag < t.tags

-- no tally falls below its floor; none passes the ceiling
abbrev pub StaysAbove : {H L : Type 0} → Tallies H L → H → L → Type 0
StaysAbove t h l = (tag : ℕ) → t.floor h tag ≤ℤ (t.tally h tag -ℤ pos (t.amount l tag))

abbrev pub StaysBelow : {H L : Type 0} → Tallies H L → H → L → Type 0
StaysBelow t h l = (tag : ℕ) → (t.tally h tag +ℤ pos (t.amount l tag)) ≤ℤ pos t.ceiling

pub record TallyLaws {H L : Type 0} (k : Kind H L) (t : Tallies H L) : Type 0 where
  -- every tally lies from its floor to the ceiling, and is 0 for a tag outside the kind
  pub above : (h : H) (tag : ℕ) → t.floor h tag ≤ℤ t.tally h tag
  pub below : (h : H) (tag : ℕ) → t.tally h tag ≤ℤ pos t.ceiling
  pub outside : (h : H) (tag : ℕ) → t.tags ≤ tag → t.tally h tag ≡ pos 0
  -- a load is nothing of a tag that it does not name
  pub unnamed : (l : L) (tag : ℕ) → t.names l tag ≡ false → t.amount l tag ≡ 0
  -- exactly what can be given and taken
  pub gives : (h : H) (l : L) → Decides (k.can_give h l) (Own t l × StaysAbove t h l)
  pub takes : (h : H) (l : L) → Decides (k.can_take h l) (Own t l × StaysBelow t h l)
  -- giving lowers and taking raises, tag by tag, and floors stay
  pub lowers : (h : H) (l : L) (tag : ℕ) → k.can_give h l ≡ true → t.tally (k.given h l) tag ≡ t.tally h tag -ℤ pos (t.amount l tag)
  pub raises : (h : H) (l : L) (tag : ℕ) → k.can_take h l ≡ true → t.tally (k.taken h l) tag ≡ t.tally h tag +ℤ pos (t.amount l tag)
  pub given_floor : (h : H) (l : L) (tag : ℕ) → t.floor (k.given h l) tag ≡ t.floor h tag
  pub taken_floor : (h : H) (l : L) (tag : ℕ) → t.floor (k.taken h l) tag ≡ t.floor h tag
  -- equal tallies and equal floors make equal hands
  pub equal : (g h : H) → ((tag : ℕ) → t.tally g tag ≡ t.tally h tag) → ((tag : ℕ) → t.floor g tag ≡ t.floor h tag) → g ≡ h

-- the other order is allowed, and leaves the same hand
pub record EitherOrder {H L : Type 0} (k : Kind H L) (h : H) (l m : L) : Type 0 where
  pub first : k.can_take h m ≡ true
  pub second : k.can_take (k.taken h m) l ≡ true
  pub alike : k.taken (k.taken h l) m ≡ k.taken (k.taken h m) l

pub record BackAgain {H L : Type 0} (k : Kind H L) (h : H) (l : L) : Type 0 where
  pub allowed : k.can_give (k.taken h l) l ≡ true
  pub as_it_was : k.given (k.taken h l) l ≡ h
