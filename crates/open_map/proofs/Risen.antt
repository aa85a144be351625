-- How far the rank rises from a cell to another, over whole turns and a part of one.
-- Assumes nothing.
use mathlib.Core.Path.{◌≡◌, ap}
use Prim.Native.Nat.{ℕ, ◌+◌}
use native.Mathlib.Omega.{arith}
use lib.IntN.{ℤ, pos, ◌+ℤ◌, ◌-ℤ◌, ◌*ℤ◌}
use Rattle.integers.specs.Floor.{floor_div, floor_mod}
use Rattle.integers.proofs.Linear.{ints, ◌∴◌}
use Rattle.open_map.specs.Maps.{Map}
use Rattle.open_map.specs.Turns.{set_before, rank, risen_over}

module _ (m : Map) where
  -- by the turns of the two instants
  pub rank-risen : (s t u : ℤ) → u ≡ floor_div t m.period -ℤ floor_div s m.period
      → risen_over m u (floor_mod s m.period) (floor_mod t m.period) ≡ rank m t -ℤ rank m s
  unfolding rank risen_over
  rank-risen s t u e = ap (λ (z : ℤ). pos (set_before m m.period) *ℤ z) e ∴ simp ints (omega arith)

  module _ (a c r : ℕ) where
    -- those inside and outside a stretch are all
    pub inside-outside : (q : ℕ) → set_before m a + r ≡ set_before m c → set_before m c + q ≡ set_before m a + set_before m m.period
        → q + r ≡ set_before m m.period
    inside-outside q e f = omega arith

    -- ---- from a to c, r cells between them being set
    pub within-turn : (u : ℤ) → u ≡ pos 0 → set_before m a + r ≡ set_before m c → pos r ≡ risen_over m u a c
    unfolding risen_over
    within-turn u z e = ap (λ (v : ℤ). pos (set_before m m.period) *ℤ v) z ∴ e ∴ simp ints (omega arith)

    pub over-turns : (u z : ℤ) (n : ℕ) → n ≡ set_before m m.period → set_before m a + r ≡ set_before m c → z ≡ pos n *ℤ u +ℤ pos r → z ≡ risen_over m u a c
    unfolding risen_over
    over-turns u z n f e h = h ∴ ap (λ (k : ℕ). pos k *ℤ u) f ∴ e ∴ simp ints (omega arith)

    -- ---- from c round to a, r cells that are not between them being set
    pub into_next : (u : ℤ) → u ≡ pos 1 → set_before m c + r ≡ set_before m a + set_before m m.period → pos r ≡ risen_over m u c a
    unfolding risen_over
    into_next u z e = ap (λ (v : ℤ). pos (set_before m m.period) *ℤ v) z ∴ e ∴ simp ints (omega arith)

    pub round-turns : (u z : ℤ) (n : ℕ) → n ≡ set_before m m.period → set_before m c + r ≡ set_before m a + set_before m m.period
        → z ≡ pos n *ℤ (u -ℤ pos 1) +ℤ pos r → z ≡ risen_over m u c a
    unfolding risen_over
    round-turns u z n f e h = h ∴ ap (λ (k : ℕ). pos k *ℤ u) f ∴ ap pos f ∴ e ∴ simp ints (omega arith)
