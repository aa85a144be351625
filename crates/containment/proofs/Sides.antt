-- The granule of a place lies in the other from the place on, back or on.
-- Assumes nothing.
use mathlib.Core.Path.{◌≡◌}
use mathlib.Core.Logic.{◌↔◌, ⊎_elim, ⊎_map}
use mathlib.Core.Option.{some}
use mathlib.Core.Bool.{Bool, true, false, ◌&&◌, ◌||◌}
use native.Mathlib.Omega.{arith}
use lib.IntN.{ℤ, pos}
use lib.Signed.{◌≤ℤ◌, ◌<ℤ◌, lt_z}
use Rattle.integers.proofs.Linear.{ints, ◌∴◌}
use Rattle.integers.proofs.Machine.{test-not-lt}
use Rattle.integers.proofs.Order.{le-or-lt}
use Rattle.calendar.specs.Meaning.{Row, meant}
use Rattle.calendar.specs.Lists.{all, is, first}
use Rattle.calendar.specs.Granules.{granule, inside}
use Rattle.granules.specs.Valid.{Valid}
use Rattle.granules.proofs.Tests.{true-or-false, true≢false, and-iff, or-iff, test-ext, is-iff}
use Rattle.granules.proofs.Lists.{all-iff, first-least}
use Rattle.granules.proofs.Granule.{granule-lists}
use Rattle.granules.proofs.Inside.{inside-iff}
use Rattle.cursors.specs.Direction.{away}
use Rattle.containment.specs.declared.CursorPair.{CursorPair}
use Rattle.containment.specs.Places.{at}
use Rattle.containment.specs.Sides.{inside_toward}

-- the instants of b's granule for which s holds are in a's
abbrev pub Held : Row → Row → CursorPair → (ℤ → Type 0) → Type 0
Held b a p s = (u : ℤ) → s u → meant b u ≡ some p.k → meant a u ≡ some p.i

module _ (b a : Row) (v : Valid b) (p : CursorPair) where
  -- as a test, over the instants that f does not pass over
  held-iff : (f : ℤ → Bool) → (all (λ u. f u || is p.i (meant a u)) (granule b p.k) ≡ true) ↔ Held b a p (λ u. f u ≡ false)
  held-iff f =
      let g = granule-lists b v p.k in
      let h = all-iff (λ u. f u || is p.i (meant a u)) (granule b p.k) in (
        λ e u n l. (is-iff p.i (meant a u)).0 (⊎_elim (λ y. absurd (true≢false y n)) (λ y. y) ((or-iff (f u) (is p.i (meant a u))).0 (h.0 e u ((g.member u).0 l)))),
        λ s. h.1 (λ u m. (or-iff (f u) (is p.i (meant a u))).1 (⊎_map (λ y. y) (λ n. (is-iff p.i (meant a u)).1 (s u n ((g.member u).1 m))) (true-or-false (f u)))),
      )

  pub toward-iff : (back : Bool) → (inside_toward back b a p ≡ true) ↔ Held b a p (λ u. pos 0 ≤ℤ away back (at b p) u)
  unfolding inside_toward
  toward-iff back =
      let h = held-iff (λ u. lt_z (away back (at b p) u) (pos 0)) in (
        λ e u m. h.0 e u ((test-not-lt (away back (at b p) u) (pos 0)).1 m),
        λ s. h.1 (λ u n. s u ((test-not-lt (away back (at b p) u) (pos 0)).0 n)),
      )

  -- the two sides are the whole
  pub both-sides : inside_toward false b a p && inside_toward true b a p ≡ inside b p.k a p.i
  both-sides =
      let w = inside-iff b a v p.k p.i in
      let y = and-iff (inside_toward false b a p) (inside_toward true b a p) in
      test-ext
      (λ e. w.1 (λ u l. ⊎_elim
      (λ (h : at b p ≤ℤ u). (toward-iff false).0 (y.0 e).0 u (h ∴ simp ints (omega arith)) l)
      (λ (h : u <ℤ at b p). (toward-iff true).0 (y.0 e).1 u (h ∴ simp ints (omega arith)) l)
      (le-or-lt (at b p) u)))
      (λ e. y.1 ((toward-iff false).1 (λ u _. w.0 e u), (toward-iff true).1 (λ u _. w.0 e u)))

  -- at the granule's first instant there is one side
  pub from_first : at b p ≡ first (granule b p.k) → inside_toward false b a p ≡ inside b p.k a p.i
  from_first e =
      let w = inside-iff b a v p.k p.i in
      let g = granule-lists b v p.k in
      test-ext
      (λ h. w.1 (λ u l. (toward-iff false).0 h u ((first-least u (granule b p.k) g.rising ((g.member u).0 l)).1 ∴ e ∴ simp ints (omega arith)) l))
      (λ h. (toward-iff false).1 (λ u _. w.0 h u))
