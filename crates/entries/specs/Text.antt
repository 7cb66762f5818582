-- What a record says as text.
use Rattle.std.specs.Prelude.{ℕ, List, [], ◌∷◌, ◌++◌, codes, decimal}
use Rattle.entries.specs.Entry.{Entry, opens, sells, buys, ends, closes, bills, pays_out, buys_train, is_done, reopens}

-- a record's name, and its fields in order
abbrev pub words : Entry → List ℕ × List ℕ
words (opens book players) = (codes "open", book ∷ (players ∷ []))
words (sells seat company tenths) = (codes "sell", seat ∷ (company ∷ (tenths ∷ [])))
words (buys seat company source par_space) = (codes "buy", seat ∷ (company ∷ (source ∷ (par_space ∷ []))))
words (ends seat) = (codes "end", seat ∷ [])
words closes = (codes "close", [])
words (bills company amount) = (codes "bill", company ∷ (amount ∷ []))
words (pays_out company mode revenue) = (codes "payout", company ∷ (mode ∷ (revenue ∷ [])))
words (buys_train company kind) = (codes "train", company ∷ (kind ∷ []))
words (is_done company) = (codes "done", company ∷ [])
words reopens = (codes "reopen", [])

-- a blank before each number
abbrev pub fields : List ℕ → List ℕ
fields [] = []
fields (n ∷ ns) = codes " " ++ (decimal n ++ fields ns)

-- NAME FIELD ..
abbrev pub entry_words : Entry → List ℕ
entry_words e = (words e).0 ++ fields (words e).1
