-- How long numbers and the lines of a statement get, so that a caller can show that a statement fits.
use Rattle.std.proofs.Common.{◌≡◌, ℕ, ◌+◌, ◌^◌, ◌<◌, ◌≤◌, length, ℤ, decimal, arith, length-append, w32, SFits}
use Rattle.std.proofs.lemmas.Fmt.{length-decimal-le, length_signed_le}
use Rattle.std.specs.Fmt.{signed_decimal}
use Rattle.text.specs.Lines.{bank_line, company_line, refused_at_line, refused_line, seat_line}

pub digit_bound : (n : ℕ) → n < 10 → length (decimal n) ≤ 1
digit_bound n h = length-decimal-le 1 n (omega arith) (omega arith) (omega arith)

pub byte_bound : (n : ℕ) → n < 2 ^ 8 → length (decimal n) ≤ 3
byte_bound n h = length-decimal-le 3 n (omega arith) (omega arith) (omega arith)

pub number_bound : (n : ℕ) → n < 2 ^ 32 → length (decimal n) ≤ 10
number_bound n h = length-decimal-le 10 n (omega arith) (omega arith) (omega arith)

pub place_bound : (n : ℕ) → n < 2 ^ 64 → length (decimal n) ≤ 20
place_bound n h = length-decimal-le 20 n (omega arith) (omega arith) h

pub signed_bound : (z : ℤ) → SFits w32 z → length (signed_decimal z) ≤ 11
signed_bound z h = length_signed_le 10 z (omega (arith, h.sfits)) (omega (arith, h.sfits))

pub bank_line_length : (cash : ℤ) → length (bank_line cash) ≡ 6 + length (signed_decimal cash)
bank_line_length cash = simp length-append (omega arith)

pub seat_line_length : (seat : ℕ) (cash : ℤ) (certificates : ℕ) → length (seat_line seat cash certificates) ≡ 8 + length (decimal seat) + length (signed_decimal cash) + length (decimal certificates)
seat_line_length seat cash certificates = simp length-append (omega arith)

pub company_line_length : (company : ℕ) (cash : ℤ) (price director offering pool : ℕ)
    → length (company_line company cash price director offering pool) ≡ 14 + length (decimal company) + length (signed_decimal cash) + length (decimal price) + length (decimal director) + length (decimal offering) + length (decimal pool)
company_line_length company cash price director offering pool = simp length-append (omega arith)

pub refused_at_line_length : (number place : ℕ) → length (refused_at_line number place) ≡ 13 + length (decimal number) + length (decimal place)
refused_at_line_length number place = simp length-append (omega arith)

pub refused_line_length : (number : ℕ) → length (refused_line number) ≡ 9 + length (decimal number)
refused_line_length number = simp length-append (omega arith)

pub bank_line_bound : (cash : ℤ) → SFits w32 cash → length (bank_line cash) ≤ 17
bank_line_bound cash f = omega (arith, bank_line_length cash, signed_bound cash f)

pub seat_line_bound : (seat : ℕ) (cash : ℤ) (certificates : ℕ) → seat < 2 ^ 8 → SFits w32 cash → certificates < 2 ^ 32 → length (seat_line seat cash certificates) ≤ 32
seat_line_bound seat cash certificates s f c =
    omega (arith, seat_line_length seat cash certificates, byte_bound seat s, signed_bound cash f, number_bound certificates c)

pub refused_line_bound : (number : ℕ) → number < 2 ^ 8 → length (refused_line number) ≤ 12
refused_line_bound number h = omega (arith, refused_line_length number, byte_bound number h)

pub refused_at_line_bound : (number place : ℕ) → number < 2 ^ 8 → place < 2 ^ 64 → length (refused_at_line number place) ≤ 36
refused_at_line_bound number place h k = omega (arith, refused_at_line_length number place, byte_bound number h, place_bound place k)
