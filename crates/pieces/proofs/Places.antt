-- The places of instants in a sound row: where a piece starts, the labels of its instants, and the place behind it.
-- Assumes nothing.
use mathlib.Core.Path.{◌≡◌, refl}
use mathlib.Core.Bool.{Bool, true, false, cond}
use mathlib.Core.List.{List}
use Prim.Native.Nat.{ℕ, ◌+◌, ◌≤◌, ◌<◌}
use native.Mathlib.Omega.{arith}
use lib.Dec.{ltb}
use lib.IntN.{ℤ, pos, ◌+ℤ◌}
use lib.Signed.{◌≤ℤ◌}
use lib.ListN.{get_or}
use Rattle.integers.specs.Parts.{up}
use Rattle.integers.proofs.Linear.{ints, ◌∴◌}
use Rattle.integers.proofs.Floor.{floor-lt}
use Rattle.calendar.specs.Meaning.{Row, meant, label_of, raise, empty}
use Rattle.calendar.specs.Limits.{pool_limit}
use Rattle.calendar.specs.Questions.{given}
use Rattle.granules.proofs.Tests.{ltb_iff, false-iff}
use Rattle.cursors.specs.Found.{Sound, Within}
use Rattle.cursors.proofs.Numbers.{Numbers, numbers, rise-bound}
use Rattle.cursors.proofs.Cursors.{cursor-at, cursor-of, cursor-moved, cursor-meant}
use Rattle.pieces.specs.declared.Place.{Place}
use Rattle.pieces.specs.Places.{Stands, place_on}

module _ (period distance : ℤ) (cells : List ℤ) (s : Sound period distance cells) where
  abbrev row : Row
  row = given period distance cells

  n : Numbers period distance cells
  n = numbers period distance cells s

  pub place-first : Stands row (record { cell = 0; rise = pos 0 }) (pos 0)
  place-first =
      cursor-of row (pos 0) (pos 0) _ _ 0 (simp ints (omega arith)) (omega (arith, n.low, n.middle)) refl (simp ints (omega arith))

  module _ (p : Place) (u : ℤ) (e : Stands row p u) where
    -- the place i instants on in the same turn
    place_in : (i : ℕ) → p.cell + i < up period → Stands row (record { cell = p.cell + i; rise = p.rise }) (u +ℤ pos i)
    place_in i h =
        cursor-moved period distance cells s _ u (pos i) (pos 0) _ _ e
        (simp ints (omega arith)) (simp ints (omega arith)) (simp ints (omega arith)) (n.period-is ∴ simp ints (omega arith))

    -- the label of that instant
    pub place-label : (i : ℕ) → p.cell + i < up period → meant row (u +ℤ pos i) ≡ raise p.rise (label_of (get_or cells (p.cell + i) empty))
    place-label i h = cursor-meant row _ (u +ℤ pos i) (place_in i h)

    place-over : (i : ℕ) → p.cell + i ≡ up period → Stands row (record { cell = 0; rise = p.rise +ℤ distance }) (u +ℤ pos i)
    place-over i h =
        cursor-moved period distance cells s _ u (pos i) (pos 1) _ _ e
        (n.period-is ∴ simp ints (omega arith)) (simp ints (omega arith)) (simp ints (omega arith)) (n.period-is ∴ n.low ∴ n.middle ∴ simp ints (omega arith))

    -- the place behind a piece
    pub place-moved : (i : ℕ) → p.cell + i ≤ up period → Stands row (place_on p i (up period) distance) (u +ℤ pos i)
    place-moved i h = by (ltb (p.cell + i) (up period)) refl
      where
        by : (b : Bool) → ltb (p.cell + i) (up period) ≡ b
            → Stands row (cond b (record { cell = p.cell + i; rise = p.rise }) (record { cell = 0; rise = p.rise +ℤ distance })) (u +ℤ pos i)
        by true f = place_in i ((ltb_iff (p.cell + i) (up period)).0 f)
        by false f = place-over i (let g = (false-iff (ltb_iff (p.cell + i) (up period))).0 f in omega arith)

    -- its cell is one of the row, and the rise is small where the instant is
    pub place-cell : p.cell < up period
    place-cell = let a = cursor-at row _ u e in let m = floor-lt (up period) (omega (arith, n.low, n.middle)) u in a.index_is ∴ m ∴ simp ints (omega arith)

    pub place-rise : pos 0 ≤ℤ u → u ≤ℤ pos pool_limit → Within 1000000000 p.rise
    place-rise lo hi =
        let a = cursor-at row _ u e in
        let b = rise-bound (up period) (up distance) pool_limit (omega (arith, n.low, n.middle)) n.middle u (lo ∴ simp ints (omega arith)) hi in
        a.rise-is ∴ b ∴ n.high ∴ simp ints (omega arith)
