-- A row of trains, few of each kind: who has one, can always give it.
use Rattle.std.proofs.Common.{◌≡◌, ℕ, zero, suc, ◌+◌, ◌<◌, ◌≤◌, true, ◌≢◌, List, [], ◌∷◌, length, get_or, pos, ◌≤ℤ◌, Ok, ap, arith}
use Rattle.std.proofs.lemmas.Option.{slice_get-get_or}
use Rattle.std.proofs.lemmas.Int.{ints}
use Rattle.std.proofs.lemmas.Bool.{and_from, lt-ltb, le-leb}
use Rattle.hands.specs.Carry.{carried}
use Rattle.hands.specs.Totals.{total}
use Rattle.hands.proofs.Ways.{granted}
use Rattle.kinds.specs.Trains.{trains, trains_tallies, can_give, can_take, held}
use Rattle.kinds.specs.declared.trains.Trains.{Trains}
use Rattle.kinds.specs.declared.train_load.TrainLoad.{TrainLoad}
use Rattle.ledger.specs.Holdings.{no_trains}
use Rattle.ledger.proofs.Outside.{none_counted}

not_negative : (row : List Trains) (kind : ℕ) → pos 0 ≤ℤ total trains_tallies row kind
not_negative [] kind = omega (arith, ints)
not_negative (h ∷ hs) kind = let r = not_negative hs kind in omega (arith, ints)

pub part : (row : List Trains) (p kind : ℕ) → pos (held (get_or row p no_trains) kind) ≤ℤ total trains_tallies row kind
part [] p kind = let z = none_counted 8 kind in omega (arith, ints, z)
part (h ∷ hs) zero kind = let r = not_negative hs kind in omega (arith, ints)
part (h ∷ hs) (suc p) kind = let r = part hs p kind in omega (arith, ints)

pub move_granted : (row : List Trains) (i j kind n : ℕ) → length row ≡ 9 → total trains_tallies row kind ≡ pos n → n ≤ 30 → i < 9 → j < 9 → i ≢ j → kind < 8 → 0 < held (get_or row i no_trains) kind
    → (carried trains row i j (record { kind = kind; count = 1 })).0 ≡ Ok tt
move_granted row i j kind n wide sum few hi hj ne inside some =
    let a = get_or row i no_trains in
    let b = get_or row j no_trains in
    let one : TrainLoad = record { kind = kind; count = 1 } in
    let most = part row j kind in
    let can : can_give a one ≡ true = and_from _ _ (lt-ltb kind 8 inside) (le-leb 1 (held a kind) (omega arith)) in
    let may : can_take b one ≡ true = and_from _ _ (lt-ltb kind 8 inside) (le-leb (held b kind + 1) 255 (omega (arith, ints, most, sum))) in
    ap (λ o. o.0) (granted trains row i j one a b (slice_get-get_or row i no_trains (omega arith)) (slice_get-get_or row j no_trains (omega arith)) ne can may)
