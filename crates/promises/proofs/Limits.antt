-- A granted purchase leaves the buyer within the certificate limit and the share limit.
use Rattle.std.proofs.Common.{◌≡◌, ℕ, zero, suc, ◌+◌, ◌<◌, ◌≤◌, ◌≢◌, List, get_or, Ok, sym, refl, ap, ◌∙◌, subst, ⊎_elim, arith}
use Rattle.std.proofs.lemmas.Bool.{cases_eq}
use Rattle.kinds.specs.Papers.{bit, sized, size, certificate_count, no_papers}
use Rattle.kinds.specs.declared.papers.Papers.{Papers}
use Rattle.rulebook.specs.Book.{Book}
use Rattle.rulebook.specs.Lawful.{Lawful}
use Rattle.ledger.specs.Certificates.{lowest_one}
use Rattle.ledger.specs.Crossings.{all_crossed}
use Rattle.ledger.specs.Holdings.{seat_papers, company_of, papers_at, seat_tenths, certificates_held}
use Rattle.ledger.specs.Stock.{source_set, bought_size, purchase, buy_answer, buy_crossings, buy_after}
use Rattle.ledger.specs.declared.books.Books.{Books}
use Rattle.ledger.specs.declared.company.Company.{Company}
use Rattle.promises.proofs.Counts.{tenths_count}
use Rattle.promises.proofs.Led.{Led}
use Rattle.promises.proofs.LedPurchases.{Settled, MayBuy, may_buy_then, Sized, first_moves, first_sized, bought, only_bought, rows_after}
use Rattle.promises.proofs.Sound.{Sound}
use Rattle.promises.proofs.Tenths.{Handed, tens, heads, only_there}

-- of numbers: the same sum, and one number of it no larger than one more
sum_grows : (a b c d : ℕ) → a ≡ b → c ≤ d + 1 → a + c ≤ b + d + 1
sum_grows a b c d e h = omega arith

sum_stays : (a b c d : ℕ) → a ≤ b + 1 → c ≡ d → a + c ≤ b + d + 1
sum_stays a b c d h e = omega arith

nothing_more : 0 ≤ 0 + 1
nothing_more = omega arith

earlier : (n company : ℕ) → suc n < company → n < company
earlier n company h = omega arith

not_yet : (n company : ℕ) → suc n < company → suc n ≢ company
not_yet n company h e = omega arith

before : (n company : ℕ) → suc n ≡ company → n < company
before n company e = omega arith

from_one : (n : ℕ) → 1 ≤ suc n
from_one n = omega arith

-- certificates of a seat over the companies, where one company's grow by at most one
module _ (s u : Books) (seat company : ℕ)
    (others : (other : ℕ) → 1 ≤ other → other ≢ company → certificate_count (papers_at u other (seat_papers seat)) ≡ certificate_count (papers_at s other (seat_papers seat)))
    (one : certificate_count (papers_at u company (seat_papers seat)) ≤ certificate_count (papers_at s company (seat_papers seat)) + 1) where
  held_before : (n : ℕ) → n < company → certificates_held u seat n ≡ certificates_held s seat n
  held_before zero h = refl
  held_before (suc n) h =
      ap (λ (k : ℕ). k + certificate_count (papers_at u (suc n) (seat_papers seat))) (held_before n (earlier n company h))
      ∙ ap (λ (k : ℕ). certificates_held s seat n + k) (others (suc n) (from_one n) (not_yet n company h))

  one_more : (n : ℕ) → certificates_held u seat n ≤ certificates_held s seat n + 1
  one_more zero = nothing_more
  one_more (suc n) =
      ⊎_elim
      (λ same.
      sum_grows (certificates_held u seat n) (certificates_held s seat n) (certificate_count (papers_at u (suc n) (seat_papers seat))) (certificate_count (papers_at s (suc n) (seat_papers seat)))
      (held_before n (before n company same))
      (subst (λ (k : ℕ). certificate_count (papers_at u k (seat_papers seat)) ≤ certificate_count (papers_at s k (seat_papers seat)) + 1) (sym same) one))
      (λ ne.
      sum_stays (certificates_held u seat n) (certificates_held s seat n) (certificate_count (papers_at u (suc n) (seat_papers seat))) (certificate_count (papers_at s (suc n) (seat_papers seat)))
      (one_more n) (others (suc n) (from_one n) ne))
      (cases_eq (suc n) company)

-- of numbers: tenths and certificates of the buyer before, with what he bought, and at the end
size_grows : (t0 t1 t2 x size most : ℕ) → t1 ≡ t0 + x → t2 ≡ t1 → x ≡ size → t0 + size ≤ most → t2 ≤ most
size_grows t0 t1 t2 x size most e f g h = omega arith

count_grows : (t0 d0 c0 t1 d1 t2 d2 c2 x y : ℕ) → t0 ≡ c0 + d0 → t2 ≡ c2 + d2 → t1 ≡ t0 + x → d1 ≡ d0 + y → t2 ≡ t1 → d1 ≤ d2 → x ≡ y + 1 → c2 ≤ c0 + 1
count_grows t0 d0 c0 t1 d1 t2 d2 c2 x y a b e f g h k = omega arith

under : (a b c : ℕ) → a ≤ b → b ≤ c → a ≤ c
under a b c h k = omega arith

module _ (b : Book) (lawful : Lawful b) (s : Books) (ok : Sound b s) (led : Led b s) (seat company source space : ℕ) (may : MayBuy b s seat company source) where
  abbrev found : ℕ
  found = lowest_one (source_set s company source)

  abbrev t : Books
  t = all_crossed s (purchase b s seat company source space)

  abbrev u : Books
  u = all_crossed s (buy_crossings b s seat company source space)

  abbrev after : Books
  after = buy_after b s seat company source space

  first : Handed (λ p. tens s company p) (λ p. heads s company p) (λ p. tens t company p) (λ p. heads t company p) source (seat + 1) (sized size 0 9 found) (bit 0 found)
  first = first_moves b lawful s ok led seat company source space may

  last : Settled s.players seat (λ p. tens t company p) (λ p. heads t company p) (λ p. tens u company p) (λ p. heads u company p)
  last = bought b lawful s ok led seat company source space may

  sizes : Sized (sized size 0 9 found) (bit 0 found) (bought_size s company source)
  sizes = first_sized b lawful s ok led seat company source space may

  same_row : (other : ℕ) → (company_of after other).papers ≡ (company_of u other).papers
  same_row = rows_after b lawful s ok led seat company source space may

  share : tens u company (seat + 1) ≤ b.share_limit
  share =
      size_grows (tens s company (seat + 1)) (tens t company (seat + 1)) (tens u company (seat + 1)) (sized size 0 9 found) (bought_size s company source) b.share_limit
      first.took last.tenths sizes.tenths may.tenths

  count_here : certificate_count (papers_at u company (seat_papers seat)) ≤ certificate_count (papers_at s company (seat_papers seat)) + 1
  count_here =
      count_grows (tens s company (seat + 1)) (heads s company (seat + 1)) (certificate_count (papers_at s company (seat + 1))) (tens t company (seat + 1)) (heads t company (seat + 1)) (tens u company (seat + 1)) (heads u company (seat + 1)) (certificate_count (papers_at u company (seat + 1))) (sized size 0 9 found) (bit 0 found)
      (tenths_count (papers_at s company (seat + 1)).certificates) (tenths_count (papers_at u company (seat + 1)).certificates) first.took first.took_director last.tenths last.director sizes.director

  abbrev count_in : List Papers → ℕ
  count_in row = certificate_count (get_or row (seat_papers seat) no_papers)

  held : certificates_held after seat b.companies ≤ certificates_held s seat b.companies + 1
  held =
      one_more s after seat company
      (λ other from ne.
      ap count_in (same_row other)
      ∙ ap (λ (c : Company). count_in c.papers) (only_there company other may.in_book.0 from ne s (buy_crossings b s seat company source space) (only_bought b lawful s ok led seat company source space may)))
      (subst (λ (row : List Papers). count_in row ≤ certificate_count (papers_at s company (seat_papers seat)) + 1) (sym (same_row company)) count_here)
      b.companies

  within : (certificates_held after seat b.companies ≤ b.certificate_limit s.players) × (seat_tenths after company seat ≤ b.share_limit)
  within = (
    under (certificates_held after seat b.companies) (certificates_held s seat b.companies + 1) (b.certificate_limit s.players) held may.certificates,
    subst (λ (row : List Papers). sized size 0 9 (get_or row (seat + 1) no_papers).certificates ≤ b.share_limit) (sym (same_row company)) share,
  )

pub within_limits : (b : Book) → Lawful b → (s : Books) → Sound b s → Led b s → (card seat company source space : ℕ) → buy_answer b s card seat company source space ≡ Ok tt
    → (certificates_held (buy_after b s seat company source space) seat b.companies ≤ b.certificate_limit s.players) × (seat_tenths (buy_after b s seat company source space) company seat ≤ b.share_limit)
within_limits b lawful s ok led card seat company source space e = within b lawful s ok led seat company source space (may_buy_then b s card seat company source space e)
