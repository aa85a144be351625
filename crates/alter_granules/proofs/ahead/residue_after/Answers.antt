-- `alter_granules::ahead::residue_after` meets its contract: the next remainder is one more, or 0 where that is x.
-- Assumes nothing.
use mathlib.Core.Path.{◌≡◌, sym, ◌∙◌, ap}
use mathlib.Core.Logic.{◌↔◌}
use Prim.Native.Nat.{ℕ, ◌+◌, ◌≤◌, ◌<◌}
use native.Mathlib.Omega.{arith}
use lib.IntN.{ℤ, pos, ◌+ℤ◌}
use lib.Signed.{◌<ℤ◌}
use mir.Syntax.{w64}
use mir.Val.{SFits, to_z, of_z}
use Rattle.integers.specs.Parts.{up}
use Rattle.integers.specs.Floor.{floor_div, floor_mod}
use Rattle.integers.proofs.Linear.{ints, ◌∴◌}
use Rattle.integers.proofs.Order.{pos-up}
use Rattle.integers.proofs.Machine.{plain, test-eq}
use Rattle.integers.proofs.Floor.{floor-eq, floor-unique}
use Rattle.alter_granules.proofs.ahead.residue_after.Goals as goal
use Rattle.alter_granules.proofs.ahead.residue_after.Goals.{Start}

-- the remainder of t + 1, by that of t
wraps : (x : ℕ) → 1 ≤ x → (t : ℤ) → floor_mod t x + 1 ≡ x → floor_mod (t +ℤ pos 1) x ≡ 0
wraps x above t e = (floor-unique x above (t +ℤ pos 1) (floor_div t x +ℤ pos 1) 0 (floor-eq x above t ∴ e ∴ simp ints (omega arith)) above).1

rises : (x : ℕ) → 1 ≤ x → (t : ℤ) → floor_mod t x + 1 < x → floor_mod (t +ℤ pos 1) x ≡ floor_mod t x + 1
rises x above t h = (floor-unique x above (t +ℤ pos 1) (floor_div t x) (floor_mod t x + 1) (floor-eq x above t ∴ simp ints (omega arith)) h).1

pub overflow_add-r : goal.overflow_add-r
overflow_add-r s =
    let r = s.ranges.residue in
    let x = s.ranges.x in
    s.requires.0 ∴ s.requires.1 ∴ x ∴ simp (plain, ints) (omega arith)

-- x is a natural number, and the sum is one more
above : (s : Start) → 1 ≤ up s.args.x
above s = omega (arith, simp ints at s.requires.0, simp ints at s.requires.1)

natural : (s : Start) → pos (up s.args.x) ≡ s.args.x
natural s = pos-up (s.requires.0 ∴ s.requires.1 ∴ simp ints (omega arith))

more-fits : (s : Start) → SFits w64 (s.args.residue +ℤ pos 1)
more-fits s = let r = s.ranges.residue in simp plain at (overflow_add-r s)

same : (r x : ℤ) (m n : ℕ) → r ≡ pos m → pos n ≡ x → r +ℤ pos 1 ≡ x → m + 1 ≡ n
same r x m n = simp ints (omega arith)

less : (r x : ℤ) (m n : ℕ) → r ≡ pos m → pos n ≡ x → r <ℤ x → (r +ℤ pos 1 ≡ x → ⊥) → m + 1 < n
less r x m n = simp ints (omega arith)

-- whether it is x
is_x : (s : Start) → (of_z w64 (to_z w64 (of_z w64 s.args.residue) +ℤ pos 1) ≡ of_z w64 s.args.x) ↔ (s.args.residue +ℤ pos 1 ≡ s.args.x)
is_x s =
    let r = s.ranges.residue in
    simp plain (test-eq w64 (s.args.residue +ℤ pos 1) s.args.x (more-fits s) s.ranges.x)

pub returns-then-r-x : goal.returns-then-r-x
returns-then-r-x c t e =
    let s = (goal.at.returns-then-r-x c).Start in
    let n = up s.args.x in
    ap pos (sym (wraps n (above s) t (same s.args.residue s.args.x (floor_mod t n) n e (natural s) ((is_x s).0 c.if-r-x.true))))

pub returns-else-r-x : goal.returns-else-r-x
returns-else-r-x c t e =
    let s = (goal.at.returns-else-r-x c).Start in
    let n = up s.args.x in
    let r = s.ranges.residue in
    let f = more-fits s in
    let h = less s.args.residue s.args.x (floor_mod t n) n e (natural s) s.requires.1 (λ p. c.if-r-x.false ((is_x s).1 p)) in
    simp plain (ap (λ (z : ℤ). z +ℤ pos 1) e ∙ ap pos (sym (rises n (above s) t h)))
