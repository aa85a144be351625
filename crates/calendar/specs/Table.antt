-- The table: what each entry names, and the checks that need no row, 1 to 6 (document 01, "The table and its thirteen kinds").
use Rattle.std.specs.Prelude.{Bool, false, not, ◌&&◌, ◌||◌, List, [], ◌∷◌, ℕ, ◌+◌, ◌*◌, ◌/◌, ◌%◌, eqb, leb, ltb, ℤ, pos, negsuc, neg_ℤ, length, get_or}
use Rattle.integers.specs.Parts.{up}
use Rattle.calendar.specs.Limits.{pool_limit, entry_limit, million, between, in_range}
use Rattle.calendar.specs.Operation.{Unary, Binary, Operation}
use Rattle.calendar.specs.Operation.Unary.{group, shift, renumber}
use Rattle.calendar.specs.Operation.Selection.{select-down, select-up, select-intersecting}
use Rattle.calendar.specs.Operation.SetOperation.{union, intersection, difference}
use Rattle.calendar.specs.Operation.Binary.{alter, combine, anchor, select, by-labels}
use Rattle.calendar.specs.Operation.Operation.{bottom, unary, binary}
use Rattle.calendar.specs.Reply.{Reply, require}
use Rattle.calendar.specs.Reply.Reply.{answer}
use Rattle.calendar.specs.Lists.{equal}

-- ---- the six numbers of an entry

-- "Six signed 32-bit numbers an entry: kind, first, second, x, y, z."
pub record Entry : Type 0 where
  pub kind : ℤ
  pub first : ℤ
  pub second : ℤ
  pub x : ℤ
  pub y : ℤ
  pub z : ℤ

abbrev pub entry_at : List ℤ → ℕ → Entry
entry_at t k =
    record {
      kind = get_or t (6 * k) (pos 0);
      first = get_or t (6 * k + 1) (pos 0);
      second = get_or t (6 * k + 2) (pos 0);
      x = get_or t (6 * k + 3) (pos 0);
      y = get_or t (6 * k + 4) (pos 0);
      z = get_or t (6 * k + 5) (pos 0);
    }

-- ---- the limits of x, y and z

abbrev pub zero? : ℤ → Bool
zero? = equal (pos 0)

abbrev pub no_numbers : Entry → Bool
no_numbers e = zero? e.x && (zero? e.y && zero? e.z)

-- group: "x 1 to 1,000,000"
abbrev pub factor : Entry → Bool
factor e = between (pos 1) million e.x && (zero? e.y && zero? e.z)

-- shift and renumber: "x within ±1,000,000,000"
abbrev pub label : Entry → Bool
label e = in_range e.x && (zero? e.y && zero? e.z)

-- alter: "x 1 to 1,000,000; y 1 to x; z within ±1,000,000"
abbrev pub altering : Entry → Bool
altering e = between (pos 1) million e.x && (between (pos 1) e.x e.y && between (neg_ℤ million) million e.z)

-- "Pick: x is not 0 and within ±1,000,000; y is 1 to 1,000,000."
abbrev pub picking : Entry → Bool
picking e = not (zero? e.x) && (between (neg_ℤ million) million e.x && (between (pos 1) million e.y && zero? e.z))

-- ---- the thirteen kinds

pub record Kind : Type 0 where
  -- how many operands it names, from the first
  pub operands : ℕ
  -- x, y and z are within their limits, those that it does not name being 0
  pub numbers : Entry → Bool
  -- the operation, over entry numbers
  pub operation : Entry → Operation ℕ

abbrev pub one : (Entry → Bool) → (Entry → Unary) → Kind
one f u = record { operands = 1; numbers = f; operation = λ e. unary (u e) (up e.first) }

abbrev pub two : (Entry → Bool) → (Entry → Binary) → Kind
two f o = record { operands = 2; numbers = f; operation = λ e. binary (o e) (up e.first) (up e.second) }

abbrev pub no_operand : Kind
no_operand = record { operands = 0; numbers = no_numbers; operation = λ e. bottom }

-- document 01's table of kinds, 0 to 12
abbrev pub kinds : List Kind
kinds =
    no_operand
    ∷ one factor (λ e. group (up e.x))
    ∷ one label (λ e. shift e.x)
    ∷ two altering (λ e. alter (up e.x) (up e.y) e.z)
    ∷ two no_numbers (λ e. combine)
    ∷ two no_numbers (λ e. anchor)
    ∷ two picking (λ e. select (select-down e.x (up e.y)))
    ∷ two no_numbers (λ e. select select-up)
    ∷ two picking (λ e. select (select-intersecting e.x (up e.y)))
    ∷ two no_numbers (λ e. by-labels union)
    ∷ two no_numbers (λ e. by-labels intersection)
    ∷ two no_numbers (λ e. by-labels difference)
    ∷ one label (λ e. renumber e.x)
    ∷ []

-- "a named operand" is an earlier entry: one of k
abbrev pub earlier : ℕ → ℤ → Bool
earlier k (pos n) = ltb n k
earlier k (negsuc n) = false

-- the operation of an entry that has k entries before it: checks 4, 5 and 6
unfoldable pub named : ℕ → Entry → Reply (Operation ℕ)
named k e =
    let m = get_or kinds (up e.kind) no_operand in
    let n = m.operands in
    require 4 (between (pos 0) (pos 12) e.kind)
    (require 5 ((ltb n 1 || earlier k e.first) && (ltb n 2 || earlier k e.second))
    (require 6 ((leb 1 n || zero? e.first) && ((leb 2 n || zero? e.second) && m.numbers e))
    (answer (m.operation e))))

-- ---- the table

-- checks 1, 2 and 3
abbrev pub admitted : List ℤ → ℕ → ℕ → Reply ℕ
admitted t headings pool =
    let n = length t / 6 in
    require 1 (eqb (length t % 6) 0 && (leb 1 n && leb n entry_limit))
    (require 2 (leb n headings)
    (require 3 (leb pool pool_limit)
    (answer n)))
