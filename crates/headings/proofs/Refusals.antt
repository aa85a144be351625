-- Refusals of what `convert` answers where the operands of union or intersection change places, with a record for each heading
-- (document 02, Req 13).
-- Assumes nothing.
use mathlib.Core.Path.{◌≡◌}
use mathlib.Core.Logic.{◌↔◌}
use mathlib.Core.List.{List}
use Prim.Native.Nat.{ℕ, ◌*◌}
use lib.IntN.{ℤ}
use Rattle.conversion.specs.Conversion.{Conversion, Refused}
use Rattle.calendar.specs.Limits.{heading_length}
use Rattle.calendar.specs.Operation.{SetOperation}
use Rattle.laws.specs.Commutes.{Commutes, Swapped}
use Rattle.conversion.proofs.Refusals as plain
use Rattle.headings.specs.declared.Heading.{Heading}
use Rattle.headings.specs.Records.{numbers_of}
use Rattle.headings.specs.LeftRecords.{LeftRecords}
use Rattle.headings.proofs.Demands.{left-numbers}

-- "With the same room, a ∪ b and b ∪ a are refused under the same number or not at all, and likewise intersection."
pub demand-3-refusals : (s : SetOperation) → Commutes s → (t t' : List ℤ) (k m p n : ℕ) → Swapped s k t t'
    → (c c' : Conversion) (headings headings' : List Heading) (pool pool' : List ℤ)
    → LeftRecords t m p c headings pool → LeftRecords t' m p c' headings' pool'
    → (c ≡ Refused n k) ↔ (c' ≡ Refused n k)
demand-3-refusals s commutes t t' k m p n w c c' headings headings' pool pool' left left' =
    plain.demand-3-refusals s commutes t t' k (heading_length * m) p n w c c' (numbers_of headings) (numbers_of headings') pool pool'
    (left-numbers t m p c headings pool left) (left-numbers t' m p c' headings' pool' left')
