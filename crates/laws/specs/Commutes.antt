-- The set operations whose operands may change places, and tables in which they have (document 02, Req 13).
use Rattle.std.specs.Prelude.{◌≡◌, List, ℕ, ◌<◌, ℤ, length}
use Rattle.calendar.specs.Reply.Reply.{answer}
use Rattle.calendar.specs.Table.{entry_at, named}
use Rattle.calendar.specs.Operation.Binary.{by-labels}
use Rattle.calendar.specs.Operation.Operation.{binary}
use Rattle.calendar.specs.Operation.{SetOperation}
use Rattle.calendar.specs.Operation.SetOperation.{union, intersection}

-- "a ∪ b and b ∪ a are refused under the same number or not at all, and likewise intersection."
pub data Commutes : SetOperation → Type 0 where
  unions : Commutes union
  intersections : Commutes intersection

-- "With the same room": two tables that are alike up to the entry k, where the operands of s have changed places
pub record Swapped (s : SetOperation) (k : ℕ) (t t' : List ℤ) : Type 0 where
  pub lengths : length t ≡ length t'
  pub before : (i : ℕ) → i < k → entry_at t i ≡ entry_at t' i
  pub first : ℕ
  pub second : ℕ
  pub one : named k (entry_at t k) ≡ answer (binary (by-labels s) first second)
  pub other : named k (entry_at t' k) ≡ answer (binary (by-labels s) second first)
