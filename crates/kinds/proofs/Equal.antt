-- What the derived `==` decides of hands.
use Rattle.std.proofs.Common.{◌≡◌, Decides, refl, ap, rules}
use Rattle.std.proofs.lemmas.Bool.Decides.{Decides-eqb, Decides-int_eq, Decides-and, Decides-like}
use Rattle.std.proofs.lemmas.Slice.Eq.{slice_eq-Decides}
use denote.Enum.Bare.{sameb, same_true, true_same}
use Rattle.kinds.specs.contracts.cash_floor.CashFloor.{the_type}
use Rattle.kinds.specs.contracts.cash.CashPartialEq.TheImpl as cash_impl
use Rattle.kinds.specs.contracts.papers.PapersPartialEq.TheImpl as papers_impl
use Rattle.kinds.specs.contracts.trains.TrainsPartialEq.TheImpl as trains_impl
use Rattle.kinds.specs.Marks.{same_cash}
use Rattle.kinds.specs.Rolling.{same_trains}
use Rattle.kinds.specs.Certificates.{same_papers}
use Rattle.kinds.specs.declared.cash_floor.CashFloor.{CashFloor}
use Rattle.kinds.specs.declared.cash.Cash.{Cash}
use Rattle.kinds.specs.declared.papers.Papers.{Papers}
use Rattle.kinds.specs.declared.trains.Trains.{Trains}

decides_floor : (f g : CashFloor) → Decides (sameb the_type f g) (f ≡ g)
decides_floor f g = (same_true the_type (search rules) f g, true_same the_type f g)

pub decides_cash : (a b : Cash) → Decides (cash_impl.eq-value.it a b) (a ≡ b)
decides_cash a b =
    Decides-like _ (λ p. same_cash a b p.0 p.1) (λ e. (ap (λ (h : Cash). h.marks) e, ap (λ (h : Cash). h.floor) e)) (Decides-and _ _ (Decides-int_eq a.marks b.marks) (decides_floor a.floor b.floor))

pub decides_papers : (a b : Papers) → Decides (papers_impl.eq-value.it a b) (a ≡ b)
decides_papers a b = Decides-like _ (same_papers a b) (ap (λ (h : Papers). h.certificates)) (Decides-eqb a.certificates b.certificates)

pub decides_trains : (a b : Trains) → Decides (trains_impl.eq-value.it a b) (a ≡ b)
decides_trains a b = Decides-like _ (same_trains a b) (ap (λ (h : Trains). h.counts)) (slice_eq-Decides Decides-eqb a.counts b.counts _ refl)
