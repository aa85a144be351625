-- A stride of many instants: its numbers fit, and it leads to the cursor of the instant there.
-- Assumes nothing.
use mathlib.Core.Path.{◌≡◌, ◌∙◌, ap}
use mathlib.Core.List.{List}
use Prim.Native.Nat.{◌^◌, ◌≤◌, ◌<◌}
use native.Mathlib.Omega.{arith}
use lib.IntN.{ℤ, pos, ◌+ℤ◌, ◌-ℤ◌, ◌*ℤ◌, *ℤ_comm}
use lib.Signed.{◌≤ℤ◌}
use mir.Syntax.{w64}
use mir.Val.{SFits}
use Rattle.integers.specs.Parts.{up}
use Rattle.integers.specs.Floor.{floor_div, floor_mod}
use Rattle.integers.proofs.Linear.{ints, ◌∴◌}
use Rattle.integers.proofs.Floor.{floor-eq, floor-lt}
use Rattle.calendar.specs.Limits.{pool_limit}
use Rattle.calendar.specs.Questions.{given}
use Rattle.cursors.specs.declared.Cursor.{Cursor}
use Rattle.cursors.specs.Found.{Sound}
use Rattle.cursors.specs.Cursor.{cursor_at}
use Rattle.cursors.proofs.Numbers.{numbers, rise-bound}
use Rattle.cursors.proofs.Cursors.{Bounds, cursor-moved}

module _ (period distance : ℤ) (cells : List ℤ) (s : Sound period distance cells) (c : Cursor) (b : Bounds period distance c) (steps : ℤ) (lo : pos 0 ≤ℤ steps) (hi : steps ≤ℤ pos (2 ^ 32)) where
  -- the turns that it goes on
  abbrev pub turns : ℤ
  turns = floor_div (c.index +ℤ steps) (up period)

  pub record Stride : Type 0 where
    pub whole-fits : SFits w64 (turns *ℤ period)
    pub cell-fits : SFits w64 (c.index +ℤ steps -ℤ turns *ℤ period)
    pub more-fits : SFits w64 (turns *ℤ distance)
    pub rise-fits : SFits w64 (c.rise +ℤ turns *ℤ distance)
    pub leads : (u : ℤ) → c ≡ cursor_at (given period distance cells) u
        → ◌≡◌ {A = Cursor} (record { index = c.index +ℤ steps -ℤ turns *ℤ period; rise = c.rise +ℤ turns *ℤ distance }) (cursor_at (given period distance cells) (u +ℤ steps))

  pub stride : Stride
  stride =
      let n = numbers period distance cells s in
      let P = up period in
      let above : 0 < P = omega (arith, n.low, n.middle) in
      let e = floor-eq P above (c.index +ℤ steps) in
      let m = floor-lt P above (c.index +ℤ steps) in
      let small : P ≤ pool_limit = n.high in
      let p : turns *ℤ period ≡ pos P *ℤ turns = ap (λ (z : ℤ). turns *ℤ z) n.period-is ∙ *ℤ_comm turns (pos P) in
      let d : turns *ℤ distance ≡ pos (up distance) *ℤ turns = ap (λ (z : ℤ). turns *ℤ z) n.distance_is ∙ *ℤ_comm turns (pos (up distance)) in
      let r =
      rise-bound P (up distance) (2 ^ 33) above n.middle (c.index +ℤ steps) (b.low ∴ lo ∴ simp ints (omega arith)) (b.high ∴ n.period-is ∴ small ∴ hi ∴ simp ints (omega arith)) in
      let i : c.index +ℤ steps -ℤ turns *ℤ period ≡ pos (floor_mod (c.index +ℤ steps) P) = rw p (e ∴ simp ints (omega arith)) in
      record {
        whole-fits = rw p (e ∴ m ∴ small ∴ b.low ∴ b.high ∴ n.period-is ∴ lo ∴ hi ∴ simp ints (omega arith));
        cell-fits = rw i (m ∴ small ∴ simp ints (omega arith));
        more-fits = rw d (r ∴ small ∴ simp ints (omega arith));
        rise-fits = rw d (r ∴ small ∴ b.rise-low ∴ b.rise-high ∴ simp ints (omega arith));
        leads = λ u at. cursor-moved period distance cells s c u steps turns _ _ at
            (ap (λ (z : ℤ). c.index +ℤ steps -ℤ z) (*ℤ_comm turns period))
            (ap (λ (z : ℤ). c.rise +ℤ z) (*ℤ_comm turns distance))
            (i ∴ simp ints (omega arith))
            (i ∴ m ∴ n.period-is ∴ simp ints (omega arith));
      }
