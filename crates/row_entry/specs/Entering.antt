-- How the row of an entry comes to stand behind the others.
use Rattle.calendar.specs.declared.Refusal.{Refusal}
use Rattle.std.specs.Prelude.{◌≡◌, true, List, ◌∷◌, ◌++◌, ℕ, ◌+◌, ◌*◌, ◌≤◌, ◌<◌, ℤ, pos, ◌≤ℤ◌, length, get_or, take, drop, Err, Ok, Result}
use Rattle.integers.specs.Parts.{up}
use Rattle.calendar.specs.Meaning.{Row}
use Rattle.calendar.specs.Operation.{Operation}
use Rattle.calendar.specs.Sound.{sound}
use Rattle.calendar.specs.Granules.{granules}
use Rattle.calendar.specs.Limits.{pool_limit, heading_length}
use Rattle.calendar.specs.Questions.{given}
use Rattle.calendar.specs.Reply.{Reply}
use Rattle.calendar.specs.Reply.Reply.{refused, answer}
use Rattle.calendar.specs.Refusals.{number_of}
use Rattle.entries.specs.declared.Named.{Named}
use Rattle.entries.specs.Naming.{Names}
use Rattle.kinds.specs.declared.Kind.{Kind}
use Rattle.kinds.specs.declared.Operand.{Operand}
use Rattle.kinds.specs.Operations.{operands, Numbers, SoundFirst}
use Rattle.kinds.specs.Stands.{end, row_in, CountedFirst}
use Rattle.row_entry.specs.Stores.{Stores}

-- the row whose heading is the j-th
abbrev pub operand_of : List ℕ → ℕ → Operand
operand_of headings j =
    record {
      start = get_or headings (heading_length * j) 0;
      period = pos (get_or headings (heading_length * j + 1) 0);
      distance = pos (get_or headings (heading_length * j + 2) 0);
      granules = pos (get_or headings (heading_length * j + 3) 0);
    }

-- an operation over the rows of earlier entries is due, and there is a heading for it
pub record NamedDue (n : Named) (k : ℕ) (headings : List ℕ) (pool : List ℤ) (used : ℕ) : Type 0 where
  pub rows : (l : List Row) × (length l ≡ k) × Stores l headings pool used
  pub names : (o : Operation ℕ) × Names k o n
  pub has-heading : heading_length * k + heading_length ≤ length headings
  pub at-most : length pool ≤ pool_limit

-- the operand is part of the first n cells
pub record Before (n : ℕ) (a : Operand) : Type 0 where
  pub period : pos 0 ≤ℤ a.period
  pub ends : end a ≤ n

-- an operation that has passed check 6, over rows before the cell `used`, and there is a heading for it
pub record Enterable (kind : Kind) (a b : Operand) (k used : ℕ) (headings : List ℕ) (pool : List ℤ) : Type 0 where
  pub numbers : Numbers kind
  pub sounds : SoundFirst (operands kind) (row_in pool a) (row_in pool b)
  pub counted : CountedFirst (operands kind) pool a b
  pub twice : operands kind < 2 → b ≡ a
  pub a-before : Before used a
  pub b-before : Before used b
  pub fits : used ≤ length pool
  pub at-most : length pool ≤ pool_limit
  pub has-heading : heading_length * k + heading_length ≤ length headings

-- the working row stands in the pool from the cell `used` on
pub record Worked (period distance : ℤ) (used : ℕ) (pool : List ℤ) : Type 0 where
  pub low : pos 0 ≤ℤ period
  pub is-sound : sound (given period distance (take (up period) (drop used pool))) ≡ true
  pub fits : used + up period ≤ length pool
  pub at-most : length pool ≤ pool_limit

-- the row r is added to the first `used` cells of the pool `before`, with the k-th heading; what stands behind it is left open
pub record Added (k used : ℕ) (numbers : List ℕ) (before : List ℤ) (r : Row) (e : ℕ) (headings : List ℕ) (pool : List ℤ) : Type 0 where
  pub heading : headings ≡ take (heading_length * k) numbers ++ (used ∷ r.period ∷ r.distance ∷ granules r ∷ drop (heading_length * k + heading_length) numbers)
  pub cells : take (used + r.period) pool ≡ take used before ++ r.cells
  pub ends : e ≡ used + r.period

-- after a refusal the headings are as they were, and so are the first `used` cells; those behind are scratch
pub record Kept (used : ℕ) (old : List ℕ) (before : List ℤ) (headings : List ℕ) (after : List ℤ) : Type 0 where
  pub numbers : headings ≡ old
  pub cells : take used after ≡ take used before

-- what became of an operation with the reply x
abbrev pub Became : ℕ → ℕ → List ℕ → List ℤ → Reply Row → Result ℕ Refusal → List ℕ → List ℤ → Type 0
Became k used numbers before x (Err n) headings pool = (x ≡ refused (number_of n)) × Kept used numbers before headings pool
Became k used numbers before x (Ok e) headings pool = (r : Row) × (x ≡ answer r) × Added k used numbers before r e headings pool
