-- A table's text (document 02, Req 01): "a line for each entry, six decimal numbers with a single space between, each line ended by a line feed."
use Rattle.std.specs.Prelude.{◌≡◌, ◌⊎◌, Bool, true, ◌&&◌, List, [], ◌∷◌, ◌++◌, map, ℕ, ◌≤◌, ◌<◌, ℤ, length}
use Rattle.table_text.specs.Numerals.{numeral, fits}
use Rattle.table_text.specs.Words.{line}

-- the longest text, in bytes
abbrev pub text_limit : ℕ
text_limit = 4096

-- "is the new refusal 19"
abbrev pub bad_text : ℕ
bad_text = 19

-- "The pool there is 4,096 cells."
abbrev pub sheet_pool : ℕ
sheet_pool = 4096

-- how many numbers an entry has
abbrev pub entry_length : ℕ
entry_length = 6

-- enough numbers for any text: an entry's line has 12 bytes or more
abbrev pub table_length : ℕ
table_length = 2048

-- ---- the written form of entries, each of six 32-bit numbers

-- all have 32 bits
abbrev pub all_fit : List ℤ → Bool
all_fit [] = true
all_fit (z ∷ l) = fits z && all_fit l

-- each entry has six numbers of 32 bits
abbrev pub Entries : List (List ℤ) → Type 0
Entries [] = Unit {0}
Entries (e ∷ es) = (length e ≡ entry_length) × (all_fit e ≡ true) × Entries es

-- "a line for each entry"
abbrev pub entry_line : List ℤ → List ℕ
entry_line e = line (map numeral e)

abbrev pub written : List (List ℤ) → List ℕ
written [] = []
written (e ∷ es) = entry_line e ++ written es

-- the numbers of the entries, one behind the other: a table
abbrev pub joined : List (List ℤ) → List ℤ
joined [] = []
joined (e ∷ es) = e ++ joined es

-- s is a text of the entries es
pub record TextOf (es : List (List ℤ)) (s : List ℕ) : Type 0 where
  pub entries : Entries es
  pub text : s ≡ written es
  pub short : length s ≤ text_limit

-- s starts with k lines as they should be, and what stands behind them is no line as it should be
pub record FirstBadLine (k : ℕ) (s : List ℕ) : Type 0 where
  pub before : List (List ℤ)
  pub rest : List ℕ
  pub entries : Entries before
  pub count : length before ≡ k
  pub text : s ≡ written before ++ rest
  pub some-rest : ¬ (rest ≡ [])
  pub bad : (e : List ℤ) (more : List ℕ) → length e ≡ entry_length → all_fit e ≡ true → ¬ (rest ≡ entry_line e ++ more)

-- "Text that breaks the rules, is above 4,096 bytes or has a number outside 32 bits is the new refusal 19, with the number of the first bad line from 0
-- (0 for the length, which is judged first)"
abbrev pub BadAt : ℕ → List ℕ → Type 0
BadAt k s = ((text_limit < length s) × (k ≡ 0)) ⊎ ((length s ≤ text_limit) × FirstBadLine k s)
