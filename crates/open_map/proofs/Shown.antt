-- The rank that a map gives to an instant: it rises by one at each open instant, and by the number of set cells in
-- each period.
-- Assumes nothing.
use mathlib.Core.Path.{◌≡◌, refl, ◌∙◌, ap}
use mathlib.Core.Logic.{◌⊎◌, inl, inr}
use Prim.Native.Nat.{ℕ, zero, suc, ◌+◌, ◌≤◌, ◌<◌}
use native.Mathlib.Nat.{eq-or-lt_of_le}
use native.Mathlib.Omega.{arith}
use lib.Dec.{eqb}
use lib.IntN.{ℤ, pos, ◌+ℤ◌, ◌*ℤ◌}
use lib.Signed.{◌<ℤ◌}
use Rattle.integers.specs.Floor.{floor_div, floor_mod}
use Rattle.integers.proofs.Linear.{ints, ◌∴◌}
use Rattle.integers.proofs.Floor.{floor-eq, floor-lt, floor-unique}
use Rattle.words.specs.Bits.{cell}
use Rattle.words.proofs.Tally.{tally-zero, tally-one}
use Rattle.bitmaps.proofs.Words.{cell-le}
use Rattle.open_map.specs.Maps.{Map, is_open}
use Rattle.open_map.specs.Turns.{rank, set_before}
use Rattle.open_map.proofs.Ranks.{one}

one_bit : (b : ℕ) → b ≤ 1 → one (eqb b 1) ≡ b
one_bit zero h = refl
one_bit (suc zero) h = refl
one_bit (suc (suc b)) h = absurd (omega arith)

module _ (m : Map) (above : 0 < m.period) where
  abbrev pub total : ℕ
  total = set_before m m.period

  -- the instant of the cell i in the turn q
  abbrev pub instant_of : ℤ → ℕ → ℤ
  instant_of q i = pos m.period *ℤ q +ℤ pos i

  pub rank-at : (q : ℤ) (i : ℕ) → i < m.period → rank m (instant_of q i) ≡ pos total *ℤ q +ℤ pos (set_before m i)
  unfolding rank
  rank-at q i h =
      let u = floor-unique m.period above (instant_of q i) q i refl h in
      ap (λ (z : ℤ). pos total *ℤ z +ℤ pos (set_before m (floor_mod (instant_of q i) m.period))) u.0
      ∙ ap (λ (k : ℕ). pos total *ℤ q +ℤ pos (set_before m k)) u.1

  pub open_at : (q : ℤ) (i : ℕ) → i < m.period → is_open m (instant_of q i) ≡ eqb (cell m.words i) 1
  unfolding is_open
  open_at q i h = ap (λ (k : ℕ). eqb (cell m.words k) 1) (floor-unique m.period above (instant_of q i) q i refl h).1

  -- at the end of a turn, too
  pub rank-end : (q : ℤ) (i : ℕ) → i ≤ m.period → rank m (instant_of q i) ≡ pos total *ℤ q +ℤ pos (set_before m i)
  rank-end q i h = by (eq-or-lt_of_le h)
    where
      by : (i ≡ m.period) ⊎ (i < m.period) → rank m (instant_of q i) ≡ pos total *ℤ q +ℤ pos (set_before m i)
      by (inr l) = rank-at q i l
      by (inl e) =
          let next : instant_of q i ≡ instant_of (q +ℤ pos 1) 0 = e ∴ simp ints (omega arith) in
          ap (rank m) next ∙ rank-at (q +ℤ pos 1) 0 above
          ∙ (tally-zero (cell m.words) ∴ ap (set_before m) e ∴ simp ints (omega arith))

  pub rank_step : (t : ℤ) → rank m (t +ℤ pos 1) ≡ rank m t +ℤ pos (one (is_open m t))
  rank_step t =
      let P = m.period in
      let q = floor_div t P in
      let r = floor_mod t P in
      let l = floor-lt P above t in
      let e = floor-eq P above t in
      let n : t +ℤ pos 1 ≡ instant_of q (r + 1) = e ∴ simp ints (omega arith) in
      let b : one (is_open m t) ≡ cell m.words r = ap one (ap (is_open m) e ∙ open_at q r l) ∙ one_bit (cell m.words r) (cell-le m.words r) in
      ap (rank m) n ∙ rank-end q (r + 1) (omega arith)
      ∙ (tally-one (cell m.words) r ∴ (ap (rank m) e ∙ rank-at q r l) ∴ b ∴ simp ints (omega arith))

  pub rank-turn : (x : ℤ) → rank m (x +ℤ pos m.period) ≡ rank m x +ℤ pos total
  rank-turn x =
      let P = m.period in
      let q = floor_div x P in
      let r = floor_mod x P in
      let l = floor-lt P above x in
      let e = floor-eq P above x in
      let n : x +ℤ pos P ≡ instant_of (q +ℤ pos 1) r = e ∴ simp ints (omega arith) in
      ap (rank m) n ∙ rank-at (q +ℤ pos 1) r l ∙ ((ap (rank m) e ∙ rank-at q r l) ∴ simp ints (omega arith))

  pub rank-busy : 0 < total → (x : ℤ) → rank m x <ℤ rank m (x +ℤ pos m.period)
  rank-busy p x = rank-turn x ∴ simp ints (omega arith)
