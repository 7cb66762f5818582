-- What holds of every replay.
use Rattle.std.specs.Prelude.{◌≡◌, ℕ, ◌<◌, ◌≤◌, ◌≢◌, List, [], ◌∷◌, ◌++◌, map, length, drop, Some, None, Ok, Err, fold, Option}
use Rattle.std.specs.List.{flat_map}
use Rattle.faults.specs.Numbers.{file_number}
use Rattle.faults.specs.declared.file.FileFault.{FileFault}
use Rattle.faults.specs.declared.file.FileRefusal.{FileRefusal}
use Rattle.entries.specs.Entry.{Entry, opens, sells, buys, ends, closes, bills, pays_out, buys_train, is_done, reopens}
use Rattle.entries.specs.Reading.{first}
use Rattle.entries.specs.Writing.{writing}
use Rattle.rulebook.specs.Book.{Book}
use Rattle.catalogue.specs.Printed.{printed_meaning, numbered}
use Rattle.catalogue.specs.declared.books.PrintedBook.{PrintedBook}
use Rattle.ledger.specs.Lives.{answer, after}
use Rattle.ledger.specs.Opening.{opened}
use Rattle.ledger.specs.declared.books.Books.{Books}
use Rattle.ledger.specs.declared.call.Call.{Call}
use Rattle.ledger.specs.declared.call.Call.TheVariants.{Sell, Buy, End, Close, Bill, Payout, Train, Done, Reopen}
use Rattle.promises.specs.Lives.{lived}
use Rattle.promises.specs.Promises.{LivesStand}
use Rattle.replay.specs.Playing.{record_played}
use Rattle.replay.specs.Whole.{SeenGame, game_played, replayed}

-- some calls lead from the one to the other, the latest first
pub record LedOn (b : Book) (s t : Books) : Type 0 where
  pub calls : List Call
  pub reached : t ≡ lived b s calls

-- The books are those of a life, the latest call first, and at every moment of it stands what is promised of every life.
pub record OfALife (b : Book) (s : Books) : Type 0 where
  pub players : ℕ
  pub cash : ℕ
  pub opening : b.opening players ≡ Some cash
  pub calls : List Call
  pub reached : s ≡ lived b (opened b players cash) calls
  pub moments : (i : ℕ) (other : List Call) → LivesStand b (opened b players cash) (drop i calls) other

-- and the card is that of the round
pub record GameStands (g : SeenGame) : Type 0 where
  pub life : OfALife (printed_meaning g.book) g.books
  pub card : g.card ≡ g.books.round

abbrev pub Stands : Option SeenGame → Type 0
Stands None = Unit {0}
Stands (Some g) = GameStands g

-- refusal 20 says that a card is not the round's; a file has no cards, so none brings it about
abbrev pub NotTwenty : Option FileFault → Type 0
NotTwenty None = Unit {0}
NotTwenty (Some fault) = file_number fault.refusal ≢ 20

-- the record of a call, without its card
abbrev pub entry_of : Call → Entry
entry_of (Sell card seat company tenths) = sells seat company tenths
entry_of (Buy card seat company source par) = buys seat company source par
entry_of (End card seat) = ends seat
entry_of (Close card) = closes
entry_of (Bill card company amount) = bills company amount
entry_of (Payout card company mode revenue) = pays_out company mode revenue
entry_of (Train card company kind) = buys_train company kind
entry_of (Done card company) = is_done company
entry_of (Reopen card) = reopens

-- calls that are granted one after the other
abbrev pub AllGranted : Book → Books → List Call → Type 0
AllGranted b s [] = Unit {0}
AllGranted b s (c ∷ calls) = (answer b s c ≡ Ok tt) × AllGranted b (after b s c) calls

-- a table opened under a printed book, and the calls that it then granted
pub record GrantedGame : Type 0 where
  pub number : ℕ
  pub book : PrintedBook
  pub known : numbered number ≡ Some book
  pub players : ℕ
  pub cash : ℕ
  pub opening : (printed_meaning book).opening players ≡ Some cash
  pub calls : List Call
  pub granted : AllGranted (printed_meaning book) (opened (printed_meaning book) players cash) calls

abbrev pub books_of : GrantedGame → Books
books_of g = fold (after (printed_meaning g.book)) (opened (printed_meaning g.book) g.players g.cash) g.calls

-- the writings of its open and of its calls
abbrev pub file_of : GrantedGame → List ℕ
file_of g = flat_map writing (opens g.number g.players ∷ map entry_of g.calls)

pub record FilesOfGames : Type 0 where
  -- such a file replays to the books that the calls made
  pub whole : (g : GrantedGame) → length (file_of g) ≤ 65536 → replayed (file_of g) ≡ game_played g.book (books_of g, (books_of g).round, None)
  -- a record that is refused after them leaves those books, with its refusal and place, whatever bytes follow
  pub refused :
      (g : GrantedGame) (e : Entry) (more : List ℕ) (why : FileRefusal)
      → (record_played (printed_meaning g.book) (books_of g) (books_of g).round (length (file_of g)) e).2 ≡ Some (record { refusal = why; place = length (file_of g) })
      → length (file_of g ++ (writing e ++ more)) ≤ 65536
      → replayed (file_of g ++ (writing e ++ more)) ≡ game_played g.book (books_of g, (books_of g).round, Some (record { refusal = why; place = length (file_of g) }))
  -- and so do bytes that are no record
  pub no_record :
      (g : GrantedGame) (rest : List ℕ) (why : FileRefusal) → 0 < length rest → first rest ≡ Err why → length (file_of g ++ rest) ≤ 65536
      → replayed (file_of g ++ rest) ≡ game_played g.book (books_of g, (books_of g).round, Some (record { refusal = why; place = length (file_of g) }))
