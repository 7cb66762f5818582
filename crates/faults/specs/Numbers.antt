-- The number of each refusal. Where a fault holds that of a layer below, it has the inner number.
use Rattle.std.specs.Prelude.{ℕ}
use Rattle.hands.specs.Refusal.{carry_number}
use Rattle.faults.specs.declared.table.TableRefusal.{TableRefusal}
use Rattle.faults.specs.declared.table.TableRefusal.TheVariants.{NoOpeningCash, WrongCard, NoSuchSeat, NotOnTurn, NoSuchCompany, AlreadyBought, TenthsNotHeld, PoolLimit, DirectorNeeded, SoldThisRound, NoSuchSource, SourceEmpty, NoParSpace, CertificateLimit, ShareLimit, BankFloor, RoundOver, RoundNotOver, LastRound, CompanyNotOnTurn, AlreadyPaidOut, AmountOutOfRange, RevenueOutOfRange, NoSuchMode, NoTrain, NotLowestKind, NotPaidOut, TrainOwed, CompanyOnTurn, Carry}
use Rattle.faults.specs.declared.file.FileRefusal.{FileRefusal}
use Rattle.faults.specs.declared.file.FileRefusal.TheVariants.{UnknownKind, CutBody, OpenMisplaced, OtherRound, FileTooLong, UnknownBook, BufferTooShort, Table}

abbrev pub table_number : TableRefusal → ℕ
table_number NoOpeningCash = 10
table_number WrongCard = 20
table_number NoSuchSeat = 21
table_number NotOnTurn = 22
table_number NoSuchCompany = 23
table_number AlreadyBought = 24
table_number TenthsNotHeld = 25
table_number PoolLimit = 26
table_number DirectorNeeded = 27
table_number SoldThisRound = 28
table_number NoSuchSource = 29
table_number SourceEmpty = 30
table_number NoParSpace = 31
table_number CertificateLimit = 32
table_number ShareLimit = 33
table_number BankFloor = 34
table_number RoundOver = 35
table_number RoundNotOver = 36
table_number LastRound = 37
table_number CompanyNotOnTurn = 40
table_number AlreadyPaidOut = 41
table_number AmountOutOfRange = 42
table_number RevenueOutOfRange = 43
table_number NoSuchMode = 44
table_number NoTrain = 45
table_number NotLowestKind = 46
table_number NotPaidOut = 47
table_number TrainOwed = 48
table_number CompanyOnTurn = 49
table_number (Carry fault) = carry_number fault.refusal

abbrev pub file_number : FileRefusal → ℕ
file_number UnknownKind = 50
file_number CutBody = 51
file_number OpenMisplaced = 52
file_number OtherRound = 53
file_number FileTooLong = 54
file_number UnknownBook = 55
file_number BufferTooShort = 56
file_number (Table fault) = table_number fault.refusal
