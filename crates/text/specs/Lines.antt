-- The lines of a statement. Each ends in a line feed.
use Rattle.std.specs.Prelude.{ℕ, List, ◌++◌, ℤ, codes, decimal}
use Rattle.std.specs.Fmt.{signed_decimal}

-- bank CASH
abbrev pub bank_line : ℤ → List ℕ
bank_line cash = codes "bank " ++ (signed_decimal cash ++ codes "\n")

-- seat NUMBER CASH CERTIFICATES
abbrev pub seat_line : ℕ → ℤ → ℕ → List ℕ
seat_line seat cash certificates = codes "seat " ++ (decimal seat ++ (codes " " ++ (signed_decimal cash ++ (codes " " ++ (decimal certificates ++ codes "\n")))))

-- a blank and a number
abbrev pub number_field : ℕ → List ℕ
number_field n = codes " " ++ decimal n

-- company NUMBER CASH PRICE DIRECTOR OFFERING POOL
abbrev pub company_line : ℕ → ℤ → ℕ → ℕ → ℕ → ℕ → List ℕ
company_line company cash price director offering pool =
    codes "company "
    ++ (decimal company ++ (codes " " ++ (signed_decimal cash ++ (number_field price ++ (number_field director ++ (number_field offering ++ (number_field pool ++ codes "\n")))))))

abbrev pub refused_number : ℕ → List ℕ
refused_number number = codes "refused " ++ decimal number

-- refused NUMBER
abbrev pub refused_line : ℕ → List ℕ
refused_line number = codes "refused " ++ (decimal number ++ codes "\n")

-- refused NUMBER at PLACE
abbrev pub refused_at_line : ℕ → ℕ → List ℕ
refused_at_line number place = refused_number number ++ (codes " at " ++ (decimal place ++ codes "\n"))
