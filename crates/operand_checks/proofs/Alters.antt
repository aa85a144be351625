-- The sizes of alter: its numbers are within the limits of `sizes`, and its working row fits 64 bits.
-- Assumes nothing.
use mathlib.Core.Path.{◌≡◌, sym, ap, subst}
use Prim.Native.Nat.{ℕ, ◌≤◌}
use native.Mathlib.Omega.{arith}
use lib.IntN.{ℤ, pos}
use lib.Signed.{◌≤ℤ◌}
use mir.Syntax.{w64}
use mir.Val.{SFits}
use Rattle.integers.specs.Parts.{up}
use Rattle.integers.proofs.Linear.{ints, ◌∴◌}
use Rattle.calendar.specs.Size as Size
use Rattle.calendar.specs.Size.{span_of}
use Rattle.calendar.specs.Limits.{pool_limit}
use Rattle.sizes.specs.Stored.{turn_of, Alterable}
use Rattle.sizes.specs.Altered.{rounds, alter_period, alter_distance}
use Rattle.algebra.proofs.AlterSize.{distance-at-most}
use Rattle.sizes.proofs.Altered.{alter-period-is}
use Rattle.sizes.proofs.Multiples.{fine-limits}
use Rattle.alignment.specs.Pass.{Limited}
use Rattle.kinds.specs.declared.Alteration.{Alteration}
use Rattle.kinds.specs.Limits.{Limits}
use Rattle.operand_checks.specs.Shared.{turn_for}
use Rattle.operand_checks.proofs.Naturals.{up-mono, stored}

pub x_fits : {by : Alteration} → Limits by → SFits w64 by.x
x_fits {by} l = l.x-low ∴ l.x-high ∴ simp ints (omega arith)

pub z-fits : {by : Alteration} → Limits by → SFits w64 by.z
z-fits {by} l = l.z-low ∴ l.z-high ∴ simp ints (omega arith)

module _ {by : Alteration} {p n q m span : ℤ} (l : Limits by) (la : Limited p n) (lb : Limited q m)
    (e : span ≡ pos (span_of (turn_of (turn_for p n)) (turn_of (turn_for q m)))) (h : span ≤ℤ pos pool_limit) where
  pub alterable : Alterable (turn_for p n) (turn_for q m) (up by.x) by.z (up span)
  alterable = record {
    fine = stored la;
    coarse = stored lb;
    spanned = ap up e;
    span-at-most = omega (arith, up-mono h);
    positive = up-mono l.x-low;
    x-at-most = up-mono l.x-high;
    low = l.z-low;
    high = l.z-high;
  }

  pub fine-fits : SFits w64 (Size.fine (turn_of (turn_for p n)) (turn_of (turn_for q m)) (up by.x) by.z)
  fine-fits = let f = fine-limits alterable in f.0 ∴ f.1 ∴ simp ints (omega arith)

-- r·n is at most the working period, as n ≤ D and Na ≤ Pa
pub distance-short : (a : Size.Turn) (n : ℕ) (D : ℤ) → 1 ≤ up D → 1 ≤ a.distance → a.distance ≤ a.period → n ≤ up D → alter_distance a n D ≤ alter_period a D
unfolding alter_distance rounds
distance-short a n D d N P h = subst (λ (p : ℕ). alter_distance a n D ≤ p) (sym (alter-period-is a D d N)) (distance-at-most (up D) a.distance d N n a.period h P)
