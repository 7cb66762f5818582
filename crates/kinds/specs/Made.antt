-- What holds of a value that is made only where a test passes.
use Rattle.std.specs.Prelude.{◌≡◌, Bool, true, false, refl}
use Rattle.std.proofs.Common.{sym}
use Rattle.std.proofs.lemmas.Bool.{true≢false}
use Rattle.kinds.specs.When.{when}

pub by_test : {A : Type 0} (b : Bool) (make : b ≡ true → A) (other : A) (P : A → Type 0) → ((e : b ≡ true) → P (make e)) → (b ≡ false → P other) → P (when b make other)
by_test true make other P made kept = made refl
by_test false make other P made kept = kept refl

pub passed : {A : Type 0} (b : Bool) (make : b ≡ true → A) (other : A) (P : A → Type 0) → b ≡ true → ((e : b ≡ true) → P (make e)) → P (when b make other)
passed true make other P t made = made refl
passed false make other P t made = absurd (true≢false (sym t))

pub failed : {A : Type 0} (b : Bool) (make : b ≡ true → A) (other : A) → b ≡ false → when b make other ≡ other
failed true make other e = absurd (true≢false e)
failed false make other e = refl
