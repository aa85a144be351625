-- A walk over the instants of a row to one whose label is not below j.
-- Assumes nothing.
use mathlib.Core.Path.{◌≡◌, refl, sym, ◌∙◌, ap}
use mathlib.Core.Option.{Option, none, some}
use mathlib.Core.Bool.{true, false}
use Prim.Native.Nat.{◌+◌, ◌≤◌, ◌<◌}
use native.Mathlib.Omega.{arith}
use lib.IntN.{ℤ, pos, ◌+ℤ◌}
use lib.Signed.{◌<ℤ◌}
use Rattle.integers.proofs.Linear.{ints, ◌∴◌}
use Rattle.integers.proofs.Order.{≤ℤ-antisym, Cases, cases}
use Rattle.integers.proofs.Order.Cases.{below, equal, above}
use Rattle.calendar.specs.Meaning.{Row, meant}
use Rattle.calendar.specs.Limits.{pool_limit}
use Rattle.granules.specs.Valid.{Valid}
use Rattle.granules.proofs.Tests.{true≢false, le_z-iff}
use Rattle.cursors.specs.Cursor.{cursor_at}
use Rattle.alter_granules.specs.declared.behind.Instant.{Instant}
use Rattle.alter_granules.specs.Follows.{at_least, Seeks}

module _ (r : Row) (v : Valid r) (j : ℤ) (p : Instant) (s : Seeks r p j) where
  -- where it is, the label is j: labels never fall, and j is ahead
  pub seek-ends : at_least j (meant r (pos p.index)) ≡ true → meant r (pos p.index) ≡ some j
  seek-ends e = go (meant r (pos p.index)) refl e
    where
      go : (o : Option ℤ) → meant r (pos p.index) ≡ o → at_least j o ≡ true → o ≡ some j
      go none f e = absurd (true≢false e refl)
      go (some k) f e = ap some (≤ℤ-antisym (v.ordered (pos p.index) s.there k j s.ahead f s.label) ((le_z-iff j k).0 e))

  -- where it is not, j is farther ahead
  pub seek-ahead : at_least j (meant r (pos p.index)) ≡ false → pos p.index <ℤ s.there
  seek-ahead e = go (cases (pos p.index) s.there)
    where
      go : Cases (pos p.index) s.there → pos p.index <ℤ s.there
      go (below h) = h
      go (equal h) = absurd (true≢false ((le_z-iff j j).1 (simp ints (omega arith))) (sym (ap (at_least j) (ap (meant r) h ∙ s.label)) ∙ e))
      go (above h) = absurd (h ∴ s.ahead ∴ simp ints (omega arith))

  pub seek-past : (q : Instant) → q.index ≡ p.index + 1 → q.cursor ≡ cursor_at r (pos p.index +ℤ pos 1) → at_least j (meant r (pos p.index)) ≡ false → Seeks r q j
  seek-past q step c e = record {
    cursor = c ∙ ap (cursor_at r) (step ∴ simp ints (omega arith));
    there = s.there;
    ahead = seek-ahead e ∴ step ∴ simp ints (omega arith);
    near = s.near;
    label = s.label;
  }

  pub seek-near : p.index ≤ pool_limit
  seek-near = omega (arith, simp ints at s.ahead, simp ints at s.near)

  pub seek-left : at_least j (meant r (pos p.index)) ≡ false → p.index < pool_limit
  seek-left e = omega (arith, simp ints at (seek-ahead e), simp ints at s.near)
