-- The line of a crossing: two blanks, who gives what to whom, and a line feed.
use Rattle.std.specs.Prelude.{ℕ, zero, suc, cond, List, [], ◌++◌, codes, decimal, ◌==◌}
use Rattle.kinds.specs.Papers.{bit}
use Rattle.kinds.specs.declared.train_load.TrainLoad.{TrainLoad}
use Rattle.ledger.specs.Crossings.{Crossing, pays, hands, moves}
use Rattle.trace_text.specs.Places.{place_words, cash_place, paper_place, train_place}
use Rattle.trace_text.specs.declared.places.Place.{Place}

-- GIVER pays RECEIVER MARKS
abbrev pub cash_told : Place → Place → ℕ → List ℕ
cash_told giver receiver marks =
    codes "  " ++ (place_words giver ++ (codes " pays " ++ (place_words receiver ++ (codes " " ++ (decimal marks ++ codes "\n")))))

abbrev pub cash_line : ℕ → ℕ → ℕ → ℕ → List ℕ
cash_line players giver receiver marks = cash_told (cash_place players giver) (cash_place players receiver) marks

-- a certificate's number, if the set has it; those of so many certificates from one on
abbrev pub number_words : ℕ → ℕ → List ℕ
number_words set number = cond ((bit number set) == 1) (codes " " ++ decimal number) []

abbrev pub numbers_from : ℕ → ℕ → ℕ → List ℕ
numbers_from set number zero = []
numbers_from set number (suc n) = number_words set number ++ numbers_from set (suc number) n

-- company COMPANY: GIVER gives RECEIVER certificates NUMBER ..
abbrev pub papers_told : ℕ → Place → Place → List ℕ
papers_told company giver receiver =
    codes "  company " ++ (decimal company ++ (codes ": " ++ (place_words giver ++ (codes " gives " ++ (place_words receiver ++ codes " certificates")))))

abbrev pub papers_line : ℕ → ℕ → ℕ → ℕ → List ℕ
papers_line company giver receiver set = papers_told company (paper_place giver) (paper_place receiver) ++ (numbers_from set 0 16 ++ codes "\n")

-- GIVER gives RECEIVER train KIND, or as many trains of the kind as there are
abbrev pub trains_told : Place → Place → TrainLoad → List ℕ
trains_told giver receiver load =
    cond (load.count == 1)
    (codes "  " ++ (place_words giver ++ (codes " gives " ++ (place_words receiver ++ (codes " train " ++ (decimal load.kind ++ codes "\n"))))))
    (codes "  " ++ (place_words giver ++ (codes " gives " ++ (place_words receiver ++ (codes " " ++ (decimal load.count ++ (codes " trains " ++ (decimal load.kind ++ codes "\n"))))))))

abbrev pub trains_line : ℕ → ℕ → TrainLoad → List ℕ
trains_line giver receiver load = trains_told (train_place giver) (train_place receiver) load

-- the number of players tells seats and companies apart
abbrev pub crossing_line : ℕ → Crossing → List ℕ
crossing_line players (pays giver receiver marks) = cash_line players giver receiver marks
crossing_line players (hands company giver receiver set) = papers_line company giver receiver set
crossing_line players (moves giver receiver load) = trains_line giver receiver load
