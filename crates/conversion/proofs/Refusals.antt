-- Refusals of what `convert` answers where the operands of union or intersection change places (document 02, Req 13).
-- Assumes nothing.
use Rattle.std.specs.Prelude.{Ok, Err}
use mathlib.Core.Path.{◌≡◌, sym, ap, subst}
use mathlib.Core.Logic.{◌↔◌}
use mathlib.Core.List.{List}
use Prim.Native.Nat.{ℕ, ◌/◌}
use native.Mathlib.Omega.{arith}
use lib.IntN.{ℤ}
use Rattle.calendar.specs.Limits.{heading_length}
use Rattle.calendar.specs.Operation.{SetOperation}
use Rattle.algebra.specs.TableMeaning.{TableReply, TableMeans}
use Rattle.algebra.specs.TableMeaning.TableReply.{refused_at, means}
use Rattle.laws.specs.Commutes.{Commutes, Swapped}
use Rattle.laws.proofs.Refusals.{swapped-back, table-swap}
use Rattle.conversion.specs.Conversion.{Conversion, Refused}
use Rattle.conversion.specs.Shows.{Shows}
use Rattle.conversion.specs.Left.{Left}
use Rattle.conversion.proofs.Demands.{demand-2, demand-2-only}

-- what a refusal holds
abbrev number_in : Conversion → ℕ
number_in (Err e) = e.number
number_in (Ok x) = 0

abbrev entry-in : Conversion → ℕ
entry-in (Err e) = e.entry
entry-in (Ok x) = 0

-- a refusal that is answered is what the table means
refused-means : (t : List ℤ) (h p n k : ℕ) (numbers : List ℕ) (pool : List ℤ) → Left t h p (Refused n k) numbers pool
    → TableMeans t (h / heading_length) p (refused_at n k)
refused-means t h p n k numbers pool left =
    let (m, a, shown) = demand-2 t h p (Refused n k) numbers pool left in
    by m a shown
  where
    by : (m : TableReply) → TableMeans t (h / heading_length) p m → Shows m h p (Refused n k) numbers pool → TableMeans t (h / heading_length) p (refused_at n k)
    by (refused_at n' k') a shown =
        let e : n' ≡ n = sym (ap number_in shown.answer) in
        let f : k' ≡ k = sym (ap entry-in shown.answer) in
        rw (e, f) at a
    by (means ms) a shown = let z : ◌≡◌ {A = ℕ} 0 1 = cc shown.answer in absurd (omega arith)

module _ (s : SetOperation) (commutes : Commutes s) (k h p n : ℕ) where
  refused-swap : (t t' : List ℤ) → Swapped s k t t' → (c c' : Conversion) (numbers numbers' : List ℕ) (pool pool' : List ℤ)
      → Left t h p c numbers pool → Left t' h p c' numbers' pool' → c ≡ Refused n k → c' ≡ Refused n k
  refused-swap t t' w c c' numbers numbers' pool pool' left left' e =
      let a = refused-means t h p n k numbers pool (subst (λ (c : Conversion). Left t h p c numbers pool) e left) in
      (demand-2-only t' h p c' numbers' pool' left' (refused_at n k) (table-swap s commutes t t' k n (h / heading_length) p w a)).answer

-- "With the same room, a ∪ b and b ∪ a are refused under the same number or not at all, and likewise intersection."
pub demand-3-refusals : (s : SetOperation) → Commutes s → (t t' : List ℤ) (k h p n : ℕ) → Swapped s k t t'
    → (c c' : Conversion) (numbers numbers' : List ℕ) (pool pool' : List ℤ) → Left t h p c numbers pool → Left t' h p c' numbers' pool'
    → (c ≡ Refused n k) ↔ (c' ≡ Refused n k)
demand-3-refusals s commutes t t' k h p n w c c' numbers numbers' pool pool' left left' = (
  refused-swap s commutes k h p n t t' w c c' numbers numbers' pool pool' left left',
  refused-swap s commutes k h p n t' t (swapped-back s k t t' w) c' c numbers' numbers pool' pool left' left,
)
