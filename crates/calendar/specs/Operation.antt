-- The thirteen kinds (document 01, "The table and its thirteen kinds").
use Rattle.std.specs.Prelude.{ℕ, ℤ}

pub data Unary : Type 0 where
  group : ℕ → Unary
  shift : ℤ → Unary
  renumber : ℤ → Unary

-- the kinds that keep some of a's granules, judged by b: document 01's 6, 7 and 8 (select-by-meeting)
pub data Selection : Type 0 where
  select-down : ℤ → ℕ → Selection
  select-up : Selection
  select-intersecting : ℤ → ℕ → Selection

-- "union, intersection, difference by labels"
pub data SetOperation : Type 0 where
  union : SetOperation
  intersection : SetOperation
  difference : SetOperation

pub data Binary : Type 0 where
  alter : ℕ → ℕ → ℤ → Binary
  combine : Binary
  anchor : Binary
  select : Selection → Binary
  by-labels : SetOperation → Binary

-- an operation over operands of any sort: entry numbers in a table, calendars in the algebra, rows in the conversion
pub data Operation (A : Type 0) : Type 0 where
  bottom : Operation A
  unary : Unary → A → Operation A
  binary : Binary → A → A → Operation A

abbrev pub map_operation : {A B : Type 0} → (A → B) → Operation A → Operation B
map_operation f bottom = bottom
map_operation f (unary u a) = unary u (f a)
map_operation f (binary b l r) = binary b (f l) (f r)

-- ---- what a kind asks of its operands

-- how many operands, from the first, must be full
abbrev pub full_unary : Unary → ℕ
full_unary (group x) = 1
full_unary (shift x) = 0
full_unary (renumber x) = 0

abbrev pub full_binary : Binary → ℕ
full_binary (alter x y z) = 2
full_binary combine = 0
full_binary anchor = 1
full_binary (select s) = 0
full_binary (by-labels s) = 0

-- how two operands must lie to each other: document 01's "aligned"
pub data Alignment : Type 0 where
  free : Alignment
  partition : Alignment
  subcalendar : Alignment
  compatible : Alignment

abbrev pub alignment : Binary → Alignment
alignment (alter x y z) = partition
alignment combine = free
alignment anchor = subcalendar
alignment (select s) = free
alignment (by-labels s) = compatible
