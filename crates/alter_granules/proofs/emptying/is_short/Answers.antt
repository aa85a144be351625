-- `alter_granules::emptying::is_short` meets its contract: it makes the two tests, and no number on the way is great.
-- Assumes nothing.
use mathlib.Core.Path.{◌≡◌, sym, ◌∙◌, ap}
use mathlib.Core.Bool.{Bool, ◌&&◌}
use native.Mathlib.Omega.{arith}
use lib.Dec.{eqb}
use lib.IntN.{ℤ, pos, ◌+ℤ◌, ◌-ℤ◌}
use lib.Signed.{lt_z}
use mir.Syntax.{w64}
use mir.Val.{SFits, to_z, of_z}
use Rattle.integers.specs.Parts.{up}
use Rattle.integers.specs.Floor.{floor_mod}
use Rattle.integers.proofs.Linear.{ints, ◌∴◌}
use Rattle.integers.proofs.Machine.{plain}
use Rattle.alter_granules.proofs.emptying.is_short.Goals as goal
use Rattle.alter_granules.proofs.emptying.is_short.Goals.{After-floor_mod, After-struct_told-then-size-by-lt1-1, Start}

y-fits : (s : Start) → SFits w64 s.args.by.y
y-fits s = let l = s.requires.limits in l.y-low ∴ l.y-high ∴ l.x-high ∴ simp ints (omega arith)

z-fits : (s : Start) → SFits w64 s.args.by.z
z-fits s = let l = s.requires.limits in l.z-low ∴ l.z-high ∴ simp ints (omega arith)

-- the two numbers that are tested
sum_fits : (s : Start) → SFits w64 (s.args.size +ℤ s.args.by.z)
sum_fits s = let l = s.requires.limits in s.requires.within_2 ∴ l.z-low ∴ l.z-high ∴ simp ints (omega arith)

difference-fits : (s : Start) → SFits w64 (s.args.i -ℤ s.args.by.y)
difference-fits s = let l = s.requires.limits in s.requires.within ∴ l.y-low ∴ l.y-high ∴ l.x-high ∴ simp ints (omega arith)

pub overflow_add-size : goal.overflow_add-size
overflow_add-size c =
    let s = (goal.at.overflow_add-size c).Start in
    let t = s.ranges.size in
    let z = z-fits s in
    simp plain (sum_fits s)

abbrev begun : After-struct_told-then-size-by-lt1-1 → Start
begun c = (goal.at.After-struct_told-then-size-by-lt1-1 c).Start

pub overflow_sub-i : goal.overflow_sub-i
overflow_sub-i c =
    let s = begun c in
    let i = s.ranges.i in
    let y = y-fits s in
    simp plain (difference-fits s)

-- the first test, as the machine makes it
sum_is : (s : Start) → to_z w64 (of_z w64 (to_z w64 (of_z w64 s.args.size) +ℤ to_z w64 (of_z w64 s.args.by.z))) ≡ s.args.size +ℤ s.args.by.z
sum_is s =
    let t = s.ranges.size in
    let z = z-fits s in
    let f = sum_fits s in
    simp plain

remainder_is : (c : After-floor_mod) → let s = begun (goal.at.After-floor_mod c).After-struct_told-then-size-by-lt1-1 in c.floor_mod.result ≡ pos (floor_mod (s.args.i -ℤ s.args.by.y) (up s.args.common))
remainder_is c =
    let s = begun (goal.at.After-floor_mod c).After-struct_told-then-size-by-lt1-1 in
    let i = s.ranges.i in
    let y = y-fits s in
    let g = s.ranges.common in
    let f = difference-fits s in
    simp plain at c.floor_mod.ensures

pub returns-then-size-by-lt1 : goal.returns-then-size-by-lt1
returns-then-size-by-lt1 c =
    let s = begun (goal.at.returns-then-size-by-lt1 c).After-struct_told-then-size-by-lt1-1 in
    let m = eqb (floor_mod (s.args.i -ℤ s.args.by.y) (up s.args.common)) 0 in
    ap (λ (z : ℤ). eqb (of_z w64 z) 0) (remainder_is c)
    ∙ sym (ap (λ (t : Bool). t && m) (ap (λ (z : ℤ). lt_z z (pos 1)) (sym (sum_is s)) ∙ c.if-size-by-lt1.true))

pub returns-else-size-by-lt1 : goal.returns-else-size-by-lt1
returns-else-size-by-lt1 c =
    let s = (goal.at.returns-else-size-by-lt1 c).Start in
    let m = eqb (floor_mod (s.args.i -ℤ s.args.by.y) (up s.args.common)) 0 in
    c.if-size-by-lt1.false ∙ sym (ap (λ (t : Bool). t && m) (ap (λ (z : ℤ). lt_z z (pos 1)) (sym (sum_is s)) ∙ c.if-size-by-lt1.false))
