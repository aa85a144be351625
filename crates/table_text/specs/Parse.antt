-- How a table's text is read, as it is computed: split at line feeds and at spaces, each word a number.
use Rattle.std.proofs.Math.Option.{Option, none, some}
use Rattle.std.specs.Prelude.{Bool, true, false, not, ◌&&◌, cond, List, [], ◌∷◌, ◌++◌, ℕ, zero, suc, ◌+◌, ◌-◌, ◌*◌, eqb, leb, ltb, ℤ, pos, negsuc, length}
use Rattle.table_text.specs.Numerals.{minus, digit_zero, bound}
use Rattle.table_text.specs.Words.{space, line_feed}
use Rattle.table_text.specs.Text.{text_limit, entry_length}

-- ---- a word

abbrev pub is_digit : ℕ → Bool
is_digit b = leb digit_zero b && leb b (digit_zero + 9)

abbrev pub all_digits : List ℕ → Bool
all_digits [] = true
all_digits (b ∷ w) = is_digit b && all_digits w

-- the number of the digits w behind digits that make v
abbrev pub value_from : ℕ → List ℕ → ℕ
value_from v [] = v
value_from v (b ∷ w) = value_from (10 * v + (b - digit_zero)) w

-- at least one digit, and the first of several is not 0
abbrev pub no_leading_zero : List ℕ → Bool
no_leading_zero [] = false
no_leading_zero (b ∷ []) = true
no_leading_zero (b ∷ c ∷ w) = not (eqb b digit_zero)

unfoldable pub natural : List ℕ → Option ℕ
natural w = cond (all_digits w && no_leading_zero w) (some (value_from 0 w)) none

abbrev pub non_negative : Option ℕ → Option ℤ
non_negative none = none
non_negative (some n) = cond (ltb n bound) (some (pos n)) none

abbrev pub negative : Option ℕ → Option ℤ
negative none = none
negative (some zero) = none
negative (some (suc n)) = cond (ltb n bound) (some (negsuc n)) none

-- the 32-bit number that a word is
unfoldable pub number : List ℕ → Option ℤ
unfolding natural
number [] = none
number (b ∷ w) = cond (eqb b minus) (negative (natural w)) (non_negative (natural (b ∷ w)))

-- ---- a line

abbrev pub in_first : ℕ → List (List ℕ) → List (List ℕ)
in_first c [] = (c ∷ []) ∷ []
in_first c (w ∷ l) = (c ∷ w) ∷ l

-- the pieces between the bytes b, one more than there are bytes b
unfoldable pub split : ℕ → List ℕ → List (List ℕ)
split b [] = [] ∷ []
split b (c ∷ s) = elim (eqb c b) [ true ↦ [] ∷ split b s | false ↦ in_first c (split b s) ]

-- ---- a text

-- the table, or the number of the first bad line, for refusal 19
pub data Reading : Type 0 where
  bad : ℕ → Reading
  table : List ℤ → Reading

abbrev pub prepended : ℤ → Option (List ℤ) → Option (List ℤ)
prepended z none = none
prepended z (some l) = some (z ∷ l)

abbrev pub number_before : Option ℤ → Option (List ℤ) → Option (List ℤ)
number_before none l = none
number_before (some z) l = prepended z l

-- the numbers that the words are
abbrev pub numbers : List (List ℕ) → Option (List ℤ)
numbers [] = some []
numbers (w ∷ l) = number_before (number w) (numbers l)

abbrev pub of_six : Option (List ℤ) → Option (List ℤ)
of_six none = none
of_six (some e) = cond (eqb (length e) entry_length) (some e) none

-- the entry that a line is, which comes without its line feed
unfoldable pub entry_of : List ℕ → Option (List ℤ)
unfolding number split
entry_of l = of_six (numbers (split space l))

abbrev pub entry_before : Option (List ℤ) → ℕ → Reading → Reading
entry_before none k r = bad k
entry_before (some e) k (bad m) = bad m
entry_before (some e) k (table t) = table (e ++ t)

-- the lines from number k on, and what stands behind the last line feed: "A last line without its line feed is bad."
unfoldable pub read_lines : ℕ → List (List ℕ) → Reading
unfolding entry_of
read_lines k [] = table []
read_lines k ([] ∷ []) = table []
read_lines k ((b ∷ w) ∷ []) = bad k
read_lines k (l ∷ m ∷ ls) = entry_before (entry_of l) k (read_lines (suc k) (m ∷ ls))

-- "the number of the first bad line from 0 (0 for the length, which is judged first)"
unfoldable pub parse : List ℕ → Reading
unfolding read_lines split
parse s = let r = read_lines 0 (split line_feed s) in cond (leb (length s) text_limit) r (bad 0)
