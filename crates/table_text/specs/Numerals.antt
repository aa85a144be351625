-- Whole numbers in decimal: "No plus sign, no leading zeros, no '-0'" (document 02, Req 01). Bytes are ASCII codes.
use Rattle.std.specs.Prelude.{Bool, true, false, List, [], ◌∷◌, ◌++◌, ℕ, zero, suc, ◌+◌, ◌/◌, ◌%◌, ltb, ℤ, pos, negsuc}

-- "-" and "0"
abbrev pub minus : ℕ
minus = 45

abbrev pub digit_zero : ℕ
digit_zero = 48

-- the decimal digits of n, with at most `fuel` steps; each step takes a digit off, so n steps are enough
unfoldable pub digits_within : ℕ → ℕ → List ℕ
digits_within zero n = (digit_zero + n) ∷ []
digits_within (suc fuel) n = elim (ltb n 10) [ true ↦ (digit_zero + n) ∷ [] | false ↦ digits_within fuel (n / 10) ++ ((digit_zero + n % 10) ∷ []) ]

-- n in decimal
unfoldable pub decimal : ℕ → List ℕ
unfolding digits_within
decimal n = digits_within n n

-- a whole number, with "-" before the digits where it is below zero
unfoldable pub numeral : ℤ → List ℕ
unfolding decimal
numeral (pos n) = decimal n
numeral (negsuc n) = minus ∷ decimal (suc n)

-- 2^31: the 32-bit numbers are −2^31 to 2^31 − 1
abbrev pub bound : ℕ
bound = 2147483648

-- z has 32 bits
abbrev pub fits : ℤ → Bool
fits (pos n) = ltb n bound
fits (negsuc n) = ltb n bound
