-- What each refusal says, and where a file was refused.
use Rattle.std.specs.Prelude.{ℕ, List, ◌++◌, codes, decimal}
use Rattle.hands.specs.Refusal.{carry_line}
use Rattle.faults.specs.Numbers.{file_number}
use Rattle.faults.specs.declared.table.CallName.{CallName}
use Rattle.faults.specs.declared.table.CallName.TheVariants.{Open, Sell, Buy, End, Close, Bill, Payout, Train, Done, Reopen}
use Rattle.faults.specs.declared.table.TableFault.{TableFault}
use Rattle.faults.specs.declared.table.TableRefusal.{TableRefusal}
use Rattle.faults.specs.declared.table.TableRefusal.TheVariants.{NoOpeningCash, WrongCard, NoSuchSeat, NotOnTurn, NoSuchCompany, AlreadyBought, TenthsNotHeld, PoolLimit, DirectorNeeded, SoldThisRound, NoSuchSource, SourceEmpty, NoParSpace, CertificateLimit, ShareLimit, BankFloor, RoundOver, RoundNotOver, LastRound, CompanyNotOnTurn, AlreadyPaidOut, AmountOutOfRange, RevenueOutOfRange, NoSuchMode, NoTrain, NotLowestKind, NotPaidOut, TrainOwed, CompanyOnTurn, Carry}
use Rattle.faults.specs.declared.file.FileFault.{FileFault}
use Rattle.faults.specs.declared.file.FileRefusal.{FileRefusal}
use Rattle.faults.specs.declared.file.FileRefusal.TheVariants.{UnknownKind, CutBody, OpenMisplaced, OtherRound, FileTooLong, UnknownBook, BufferTooShort, Table}

abbrev pub call_words : CallName → List ℕ
call_words Open = codes "open"
call_words Sell = codes "sell"
call_words Buy = codes "buy"
call_words End = codes "end"
call_words Close = codes "close"
call_words Bill = codes "bill"
call_words Payout = codes "payout"
call_words Train = codes "train"
call_words Done = codes "done"
call_words Reopen = codes "reopen"

abbrev pub table_words : TableRefusal → List ℕ
table_words NoOpeningCash = codes "no opening cash for so many players"
table_words WrongCard = codes "not the card of this round"
table_words NoSuchSeat = codes "no such seat"
table_words NotOnTurn = codes "the seat is not on turn"
table_words NoSuchCompany = codes "no such company"
table_words AlreadyBought = codes "already bought this turn"
table_words TenthsNotHeld = codes "the seat does not hold so many tenths"
table_words PoolLimit = codes "above the pool limit"
table_words DirectorNeeded = codes "nobody else can be director"
table_words SoldThisRound = codes "already sold this round"
table_words NoSuchSource = codes "no such source"
table_words SourceEmpty = codes "the source is empty"
table_words NoParSpace = codes "not a par space"
table_words CertificateLimit = codes "above the certificate limit"
table_words ShareLimit = codes "above the share limit"
table_words BankFloor = codes "below the bank's floor"
table_words RoundOver = codes "the round is over"
table_words RoundNotOver = codes "the round is not over"
table_words LastRound = codes "the last round"
table_words CompanyNotOnTurn = codes "the company is not on turn"
table_words AlreadyPaidOut = codes "already paid out this turn"
table_words AmountOutOfRange = codes "the amount is out of range"
table_words RevenueOutOfRange = codes "the revenue is out of range"
table_words NoSuchMode = codes "no such mode"
table_words NoTrain = codes "the company has no train"
table_words NotLowestKind = codes "not the lowest train"
table_words NotPaidOut = codes "not paid out this turn"
table_words TrainOwed = codes "the company must buy a train"
table_words CompanyOnTurn = codes "a company is on turn"
table_words (Carry fault) = carry_line fault

-- CALL: WORDS
abbrev pub table_line : TableFault → List ℕ
table_line fault = (call_words fault.call ++ codes ": ") ++ table_words fault.refusal

abbrev pub file_words : FileRefusal → List ℕ
file_words UnknownKind = codes "unknown kind"
file_words CutBody = codes "cut body"
file_words OpenMisplaced = codes "open misplaced"
file_words OtherRound = codes "a call of the other round"
file_words FileTooLong = codes "file too long"
file_words UnknownBook = codes "unknown book"
file_words BufferTooShort = codes "buffer too short"
file_words (Table fault) = table_line fault

-- refused NUMBER at PLACE
abbrev pub fault_words : FileFault → List ℕ
fault_words fault = codes "refused " ++ (decimal (file_number fault.refusal) ++ (codes " at " ++ decimal fault.place))
