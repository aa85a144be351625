-- A test over pairs of instants, and what it decides of all pairs that are at most a span apart.
use mathlib.Core.Path.{◌≡◌, subst₂}
use mathlib.Core.Logic.{◌↔◌}
use mathlib.Core.Bool.{Bool, true}
use Prim.Native.Nat.{ℕ, suc, ◌≤◌, ◌*◌}
use native.Mathlib.Omega.{arith}
use lib.IntN.{ℤ, pos, ◌+ℤ◌, ◌-ℤ◌, ◌*ℤ◌}
use lib.Signed.{◌≤ℤ◌, ◌<ℤ◌}
use Rattle.integers.specs.Floor.{floor_div, floor_mod}
use Rattle.integers.proofs.Linear.{ints, ◌∴◌}
use Rattle.integers.proofs.Floor.{floor-eq, floor-lt}
use Rattle.calendar.specs.Meaning.{Row}
use Rattle.calendar.specs.Lists.{all, from}
use Rattle.calendar.specs.Size.{turn, span_of}
use Rattle.calendar.specs.Checks.{everywhere}
use Rattle.granules.proofs.Lists.{mem-from, all-iff}

-- t and u are at most s instants apart
abbrev pub Near : ℕ → ℤ → ℤ → Type 0
Near s t u = ((t -ℤ pos s) ≤ℤ u) × (u ≤ℤ (t +ℤ pos s))

-- a test of all numbers of a window
from-iff : (f : ℤ → Bool) (t : ℤ) (n : ℕ) → (all f (from t n) ≡ true) ↔ ((u : ℤ) → t ≤ℤ u → u <ℤ (t +ℤ pos n) → f u ≡ true)
from-iff f t n = (
  λ e u l m. (all-iff f (from t n)).0 e u ((mem-from u t n).1 (l, m)),
  λ h. (all-iff f (from t n)).1 (λ u m. let b = (mem-from u t n).0 m in h u b.0 b.1),
)

-- the test passes at t with each instant near it
abbrev beside : ℕ → (ℤ → ℤ → Bool) → ℤ → Bool
beside s f t = all (f t) (from (t -ℤ pos s) (suc (2 * s)))

-- f decides Q, and Q goes over to both instants moved by whole spans
module _ (s : ℕ) (above : 1 ≤ s) (f : ℤ → ℤ → Bool) (Q : ℤ → ℤ → Type 0)
    (decides : (t u : ℤ) → (f t u ≡ true) ↔ Q t u) (moves : (k t u : ℤ) → Q t u → Q (t +ℤ pos s *ℤ k) (u +ℤ pos s *ℤ k)) where
  beside-iff : (t : ℤ) → (beside s f t ≡ true) ↔ ((u : ℤ) → Near s t u → Q t u)
  beside-iff t = (
    λ e u n. (decides t u).0 ((from-iff (f t) (t -ℤ pos s) (suc (2 * s))).0 e u n.0 (n.1 ∴ simp ints (omega arith))),
    λ h. (from-iff (f t) (t -ℤ pos s) (suc (2 * s))).1 (λ u l m. (decides t u).1 (h u (l, m ∴ simp ints (omega arith)))),
  )

  near-iff : (all (beside s f) (from (pos 0) s) ≡ true) ↔ ((t u : ℤ) → Near s t u → Q t u)
  near-iff = (there, λ h. (from-iff (beside s f) (pos 0) s).1 (λ t l m. (beside-iff t).1 (h t)))
    where
      there : all (beside s f) (from (pos 0) s) ≡ true → (t u : ℤ) → Near s t u → Q t u
      there e t u n =
          let k = floor_div t s in
          let r = pos (floor_mod t s) in
          let eq = floor-eq s above t in
          let first = (from-iff (beside s f) (pos 0) s).0 e r (simp ints (omega arith)) (floor-lt s above t ∴ simp ints (omega arith)) in
          let near : Near s r (u -ℤ pos s *ℤ k) = eq ∴ n.0 ∴ n.1 ∴ simp ints (omega arith) in
          subst₂ Q (eq ∴ simp ints (omega arith)) (simp ints (omega arith)) (moves k r (u -ℤ pos s *ℤ k) ((beside-iff r).0 first (u -ℤ pos s *ℤ k) near))

pub everywhere-iff : (a b : Row) → 1 ≤ span_of (turn a) (turn b) → (f : ℤ → ℤ → Bool) (Q : ℤ → ℤ → Type 0)
    → ((t u : ℤ) → (f t u ≡ true) ↔ Q t u)
    → ((k t u : ℤ) → Q t u → Q (t +ℤ pos (span_of (turn a) (turn b)) *ℤ k) (u +ℤ pos (span_of (turn a) (turn b)) *ℤ k))
    → (everywhere a b f ≡ true) ↔ ((t u : ℤ) → Near (span_of (turn a) (turn b)) t u → Q t u)
everywhere-iff a b = near-iff (span_of (turn a) (turn b))
