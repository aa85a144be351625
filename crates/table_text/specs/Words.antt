-- Words "with a single space between", and lines, "each line ended by a line feed" (document 02, Req 01).
use Rattle.std.specs.Prelude.{List, [], ◌∷◌, ◌++◌, ℕ}

abbrev pub space : ℕ
space = 32

abbrev pub line_feed : ℕ
line_feed = 10

-- the pieces with one byte b between
abbrev pub joined_by : ℕ → List (List ℕ) → List ℕ
joined_by b [] = []
joined_by b (w ∷ []) = w
joined_by b (w ∷ v ∷ l) = w ++ (b ∷ joined_by b (v ∷ l))

-- words with a space between, and a line feed behind them
abbrev pub line : List (List ℕ) → List ℕ
line l = joined_by space l ++ (line_feed ∷ [])

abbrev pub lines : List (List (List ℕ)) → List ℕ
lines [] = []
lines (l ∷ ls) = line l ++ lines ls
