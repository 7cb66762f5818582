-- Either order, and back again, for every kind that keeps the laws of tallies.
use Rattle.std.proofs.Common.{◌≡◌, true, sym, ◌∙◌, arith}
use Rattle.std.proofs.lemmas.Int.{ints}
use Rattle.hands.specs.Kind.{Kind}
use Rattle.hands.specs.Tallies.{Tallies, TallyLaws, EitherOrder, BackAgain}

module _ {H L : Type 0} (k : Kind H L) (t : Tallies H L) (laws : TallyLaws k t) where
  pub either_order_lem : (h : H) (l m : L) → k.can_take h l ≡ true → k.can_take (k.taken h l) m ≡ true → EitherOrder k h l m
  either_order_lem h l m e f =
      let p = (laws.takes h l).0 e in
      let q = (laws.takes (k.taken h l) m).0 f in
      let one : k.can_take h m ≡ true = (laws.takes h m).1 (q.0, λ tag. let r = laws.raises h l tag e in let s = q.1 tag in omega (arith, ints)) in
      let two : k.can_take (k.taken h m) l ≡ true = (laws.takes (k.taken h m) l).1 (p.0, λ tag. let r = laws.raises h l tag e in let u = laws.raises h m tag one in let s = q.1 tag in omega (arith, ints)) in
      record {
        first = one;
        second = two;
        alike = laws.equal _ _
            (λ tag. let a = laws.raises h l tag e in let b = laws.raises (k.taken h l) m tag f in let c = laws.raises h m tag one in let d = laws.raises (k.taken h m) l tag two in omega (arith, ints))
            (λ tag. laws.taken_floor (k.taken h l) m tag ∙ laws.taken_floor h l tag ∙ sym (laws.taken_floor (k.taken h m) l tag ∙ laws.taken_floor h m tag));
      }

  pub back_again_lem : (h : H) (l : L) → k.can_take h l ≡ true → BackAgain k h l
  back_again_lem h l e =
      let p = (laws.takes h l).0 e in
      let ok : k.can_give (k.taken h l) l ≡ true = (laws.gives (k.taken h l) l).1 (p.0, λ tag. let r = laws.raises h l tag e in let f = laws.taken_floor h l tag in let a = laws.above h tag in omega (arith, ints)) in
      record {
        allowed = ok;
        as_it_was = laws.equal _ _
            (λ tag. let r = laws.raises h l tag e in let s = laws.lowers (k.taken h l) l tag ok in omega (arith, ints))
            (λ tag. laws.given_floor (k.taken h l) l tag ∙ laws.taken_floor h l tag);
      }
