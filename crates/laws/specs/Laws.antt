-- Document 01's "Laws demand 3 speaks of" and those that document 02, Req 13, adds, as data.
use Rattle.std.specs.Prelude.{ℕ, ◌*◌, ℤ, pos, neg_ℤ, ◌+ℤ◌, ◌-ℤ◌, ◌*ℤ◌}
use Rattle.calendar.specs.Operation.{SetOperation}
use Rattle.calendar.specs.Operation.Unary.{group, shift, renumber}
use Rattle.calendar.specs.Operation.Selection.{select-up}
use Rattle.calendar.specs.Operation.Binary.{alter, combine, anchor, select, by-labels}
use Rattle.laws.specs.Terms.{Term}
use Rattle.laws.specs.Terms.Term.{operand, unary, binary}

-- operands by letter
abbrev pub a : Term
a = operand 0

abbrev pub b : Term
b = operand 1

abbrev pub c : Term
c = operand 2

infixl 65 ◌∪◌ ◌∩◌ ◌∖◌
abbrev pub ◌∪◌ : Term → Term → Term
s ∪ t = binary (by-labels SetOperation.union) s t

abbrev pub ◌∩◌ : Term → Term → Term
s ∩ t = binary (by-labels SetOperation.intersection) s t

abbrev pub ◌∖◌ : Term → Term → Term
s ∖ t = binary (by-labels SetOperation.difference) s t

-- the two sides mean the same calendar
pub data Law : Term → Term → Type 0 where
  -- "Shift s then t = shift s+t; shift 0, group 1 and alter by 0 (= the coarse operand) change nothing."
  shift-shift : (s t : ℤ) → Law (unary (shift t) (unary (shift s) a)) (unary (shift (s +ℤ t)) a)
  shift_zero : Law (unary (shift (pos 0)) a) a
  group-one : Law (unary (group 1) a) a
  alter-zero : (x y : ℕ) → Law (binary (alter x y (pos 0)) a b) b
  -- "Group m then n = group m·n. Group m of shift m·s = shift s of group m."
  group-group : (m n : ℕ) → Law (unary (group n) (unary (group m) a)) (unary (group (m * n)) a)
  group-shift : (m : ℕ) (s : ℤ) → Law (unary (group m) (unary (shift (pos m *ℤ s)) a)) (unary (shift s) (unary (group m) a))
  -- "Alter with z then −z, other numbers and the fine operand alike, gives the coarse operand."
  alter-back : (x y : ℕ) (z : ℤ) → Law (binary (alter x y (neg_ℤ z)) a (binary (alter x y z) a b)) b
  -- "Renumber x then y = renumber x then shift 1−y."
  renumber-renumber : (x y : ℤ) → Law (unary (renumber y) (unary (renumber x) a)) (unary (shift (pos 1 -ℤ y)) (unary (renumber x) a))
  -- "Union and intersection commute and associate"
  union_comm : Law (a ∪ b) (b ∪ a)
  intersection-comm : Law (a ∩ b) (b ∩ a)
  union_assoc : Law (a ∪ b ∪ c) (a ∪ (b ∪ c))
  intersection-assoc : Law (a ∩ b ∩ c) (a ∩ (b ∩ c))
  -- "a∪(a∩b) = a; a∩(b∪c) = (a∩b)∪(a∩c); a−(a−b) = a∩b."
  absorption : Law (a ∪ (a ∩ b)) a
  distribution : Law (a ∩ (b ∪ c)) ((a ∩ b) ∪ (a ∩ c))
  double-difference : Law (a ∖ (a ∖ b)) (a ∩ b)
  -- "Anchor(a, a) = a and combine(a, a) = a."
  anchor-self : Law (binary anchor a a) a
  combine-self : Law (binary combine a a) a
  -- document 02, Req 13: "selecting up twice by the same calendar is selecting once; combining a with combine(a, b) is combine(a, b)."
  select-up-twice : Law (binary (select select-up) (binary (select select-up) a b) b) (binary (select select-up) a b)
  combine-again : Law (binary combine a (binary combine a b)) (binary combine a b)

-- the two sides have the same labels, document 02, Req 13: "Where select-up and combine of a and b are both answered, their labels are the same."
pub data LabelLaw : Term → Term → Type 0 where
  up-combine : LabelLaw (binary (select select-up) a b) (binary combine a b)
