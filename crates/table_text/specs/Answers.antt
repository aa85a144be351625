-- The answers of the code, for what the definitions give.
use Rattle.std.proofs.Math.Option as Math
use Rattle.std.proofs.Math.Option.{none, some}
use Rattle.std.specs.Prelude.{cond, List, ℕ, leb, ℤ, None, Option, Some}
use Rattle.table_text.specs.Numerals.{bound}
use Rattle.table_text.specs.Parse.{all_digits, value_from}

-- n, where it is at most 2^31
abbrev pub up_to_bound : ℕ → Option ℕ
up_to_bound n = cond (leb n bound) (Some n) None

abbrev pub natural_answer : Math.Option ℕ → Option ℕ
natural_answer none = None
natural_answer (some n) = up_to_bound n

-- the number of the digits w behind digits that make v
unfoldable pub digits_answer : ℕ → List ℕ → Option ℕ
digits_answer v w = cond (all_digits w) (up_to_bound (value_from v w)) None

abbrev pub number_answer : Math.Option ℤ → Option ℤ
number_answer none = None
number_answer (some z) = Some z
