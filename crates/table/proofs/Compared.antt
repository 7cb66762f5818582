-- Lives that are led from the first call on, and two of them compared.
use Rattle.std.proofs.Common.{◌≡◌, ℕ, Bool, List, [], ◌∷◌, reverse, take, drop, Some, None, Ok, Err, Decides, fold, Option, Result, sym, refl, ap, ◌∙◌, subst, arith, lit≤}
use mathlib.Core.List.{reverse_aux}
use Rattle.faults.specs.Layers.{in_call}
use Rattle.faults.specs.declared.table.CallName.TheVariants.{Open}
use Rattle.faults.specs.declared.table.TableFault.{TableFault}
use Rattle.faults.specs.declared.table.TableRefusal.{TableRefusal}
use Rattle.rulebook.specs.Book.{Book}
use Rattle.rulebook.specs.Lawful.{Lawful}
use Rattle.ledger.specs.Lives.{after}
use Rattle.ledger.specs.Opening.{opened, opened_with, open_answer}
use Rattle.ledger.specs.declared.books.Books.{Books}
use Rattle.ledger.specs.declared.call.Call.{Call}
use Rattle.promises.specs.Lives.{lived, EqualHands}
use Rattle.promises.proofs.Whole.{all_lives_stand}
use Rattle.setup.proofs.Filled.{opening_granted}
use Rattle.table.specs.Bounds.{Bounded}
use Rattle.table.specs.Comparing.{Compared, ToldOfLives, TablesCompared}

lived_on : (b : Book) (s : Books) (calls earlier : List Call) → lived b s (reverse_aux calls earlier) ≡ fold (after b) (lived b s earlier) calls
lived_on b s [] earlier = refl
lived_on b s (c ∷ calls) earlier = lived_on b s calls (c ∷ earlier)

-- the first call first
pub lived_led : (b : Book) (s : Books) (calls : List Call) → lived b s (reverse calls) ≡ fold (after b) s calls
lived_led b s calls = lived_on b s calls []

-- an opening that came up as granted was granted
pub opening_passed : (b : Book) (players : ℕ) (a : Result Books TableRefusal) (r : Result Books TableFault) (s : Books) → a ≡ open_answer b players → r ≡ in_call Open a → r ≡ Ok s → open_answer b players ≡ Ok s
opening_passed b players (Ok t) r s told called is = cc
opening_passed b players (Err why) r s told called is = let z : ◌≡◌ {A = ℕ} 0 1 = cc in absurd (omega arith)

-- what an opening that was granted says of the books
pub opened_from : (b : Book) (players : ℕ) (s : Books) → open_answer b players ≡ Ok s → (cash : ℕ) × (b.opening players ≡ Some cash) × (s ≡ opened b players cash)
opened_from b players s e = by_cash (b.opening players) refl e
  where
    by_cash : (o : Option ℕ) → b.opening players ≡ o → opened_with b players o ≡ Ok s → (cash : ℕ) × (b.opening players ≡ Some cash) × (s ≡ opened b players cash)
    by_cash None is f = let z : ◌≡◌ {A = ℕ} 0 1 = cc in absurd (omega arith)
    by_cash (Some cash) is f = (cash, is, cc)

pub starts_bounded : (b : Book) → Lawful b → (players : ℕ) (s : Books) → open_answer b players ≡ Ok s → Bounded s
starts_bounded b law players s e =
    let o = opened_from b players s e in
    subst Bounded (sym o.2) (record { seated = (opening_granted b law players o.0 (b.opening players) refl o.1).0; counted = lit≤ tt; numbered = λ n f. let z : ◌≡◌ {A = ℕ} 0 1 = cc in absurd (omega arith) })

-- two lives from the same opening
pub lives_compared : (b : Book) → Lawful b → (players : ℕ) (one other : List Call) (s t u v : Books) (r : Bool) → open_answer b players ≡ Ok s → open_answer b players ≡ Ok t
    → u ≡ fold (after b) s one → v ≡ fold (after b) t other → Decides r (EqualHands u v) → Compared b players one other r
lives_compared b law players one other s t u v r opened_s opened_t p q told =
    let o = opened_from b players s opened_s in
    let cash = o.0 in
    let start = opened b players cash in
    let same : t ≡ s = cc in
    let first : u ≡ lived b start (reverse one) = p ∙ ap (λ (z : Books). fold (after b) z one) o.2 ∙ sym (lived_led b start one) in
    let second : v ≡ lived b start (reverse other) = q ∙ ap (λ (z : Books). fold (after b) z other) (same ∙ o.2) ∙ sym (lived_led b start other) in
    record {
      cash = cash;
      opens = o.1;
      told = subst (λ (z : Books). Decides r (EqualHands z (lived b start (reverse other)))) first (subst (λ (z : Books). Decides r (EqualHands u z)) second told);
      moments = λ i j. all_lives_stand b law players cash o.1 (reverse (take i one)) (reverse (take j other));
      moments_turned = λ i j. all_lives_stand b law players cash o.1 (reverse (take j other)) (reverse (take i one));
    }

told_of_lives : (b d : Book) → Lawful b → (s t : Books) (r : Bool) → Decides r (EqualHands s t) → (players cash : ℕ) (one other : List Call) → d ≡ b → b.opening players ≡ Some cash
    → s ≡ lived b (opened b players cash) one → t ≡ lived d (opened d players cash) other → ToldOfLives b (opened b players cash) one other r
told_of_lives b d law s t r told players cash one other same opens e f =
    let first = opened b players cash in
    let g : t ≡ lived b first other = f ∙ ap (λ (k : Book). lived k (opened k players cash) other) same in
    let here : Decides r (EqualHands (lived b first one) (lived b first other)) =
    subst (λ (z : Books). Decides r (EqualHands z (lived b first other))) e (subst (λ (z : Books). Decides r (EqualHands s z)) g told) in
    let tells = (all_lives_stand b law players cash opens one other).hands_tell_nets in
    record {
      nets = (λ yes_told. tells.0 (here.0 yes_told), λ nets. here.1 (tells.1 nets));
      moments = λ i j. all_lives_stand b law players cash opens (drop i one) (drop j other);
      moments_turned = λ i j. all_lives_stand b law players cash opens (drop j other) (drop i one);
    }

pub tables_compared : (b d : Book) → Lawful b → (s t : Books) (r : Bool) → Decides r (EqualHands s t) → TablesCompared b d s t r
tables_compared b d law s t r told =
    record {
      hands = told;
      nets = λ players cash one other same opens e f. (told_of_lives b d law s t r told players cash one other same opens e f).nets;
      lives = told_of_lives b d law s t r told;
    }
