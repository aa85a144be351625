-- `alter_granules::origin::first_fine` meets its contract: it is the sum, whose parts all fit.
-- Assumes nothing.
use mathlib.Core.Path.{◌≡◌, sym, ◌∙◌, ap, ap₂, subst}
use Prim.Native.Nat.{◌^◌}
use native.Mathlib.Omega.{arith}
use lib.IntN.{ℤ, pos, ◌+ℤ◌, ◌-ℤ◌, ◌*ℤ◌}
use mir.Facts.{to_z-of_z}
use mir.Syntax.{w64}
use mir.Val.{SFits, to_z, of_z}
use Rattle.integers.specs.Parts.{up}
use Rattle.integers.specs.Floor.{floor_div}
use Rattle.integers.proofs.Linear.{ints, ◌∴◌}
use Rattle.calendar.specs.Algebra.{changes}
use Rattle.cursors.specs.Found.{Within}
use Rattle.cursors.proofs.Numbers.{read_as}
use Rattle.alter_granules.proofs.Sized.{Small, small, changes-within, changed-within}
use Rattle.alter_granules.proofs.origin.first_fine.Goals as goal
use Rattle.alter_granules.proofs.origin.first_fine.Goals.{After-floor_div-changes, Start}

-- x and y as naturals
factors : (s : Start) → Small s.args.by
factors s = small s.args.by s.requires.limits

-- each number as the machine has it, and that it fits
less : (s : Start) → to_z w64 (of_z w64 s.args.i) -ℤ pos 1 ≡ s.args.i -ℤ pos 1
less s = ap (λ (i : ℤ). i -ℤ pos 1) (to_z-of_z s.ranges.i)

less-fits : (s : Start) → SFits w64 (s.args.i -ℤ pos 1)
less-fits s = s.requires.within.0 ∴ simp ints (omega arith)

pub overflow_sub-i : goal.overflow_sub-i
overflow_sub-i s = subst (SFits w64) (sym (less s)) (less-fits s)

apart : (s : Start) → to_z w64 (of_z w64 (to_z w64 (of_z w64 s.args.i) -ℤ pos 1)) -ℤ to_z w64 (of_z w64 s.args.by.y) ≡ s.args.i -ℤ pos 1 -ℤ pos (up s.args.by.y)
apart s = ap₂ ◌-ℤ◌ (read_as {w = w64} (less s) (less-fits s)) (to_z-of_z (factors s).y-fits ∙ (factors s).y-is)

apart_fits : (s : Start) → SFits w64 (s.args.i -ℤ pos 1 -ℤ pos (up s.args.by.y))
apart_fits s = s.requires.within.0 ∴ (factors s).y-high ∴ simp ints (omega arith)

pub overflow_sub-i-2 : goal.overflow_sub-i-2
overflow_sub-i-2 c = subst (SFits w64) (sym (apart (goal.at.overflow_sub-i-2 c).Start)) (apart_fits (goal.at.overflow_sub-i-2 c).Start)

-- how often z is added
abbrev begun : After-floor_div-changes → Start
begun c = (goal.at.After-floor_div-changes c).Start

abbrev often : Start → ℤ
often s = changes (up s.args.by.x) (up s.args.by.y) (s.args.i -ℤ pos 1)

often-bound : (s : Start) → Within (2 ^ 33) (often s)
often-bound s = let f = factors s in changes-within (up s.args.by.x) (up s.args.by.y) s.args.i f.x-low f.x-high f.y-high s.requires.within.0

more : (c : After-floor_div-changes) → to_z w64 (of_z w64 c.floor_div-changes.result) +ℤ pos 1 ≡ often (begun c)
more c =
    let s = begun c in
    let e = c.floor_div-changes.ensures ∙ ap₂ (λ (t x : ℤ). floor_div t (up x)) (read_as {w = w64} (apart s) (apart_fits s)) (to_z-of_z (factors s).x_fits) in
    ap (λ (q : ℤ). q +ℤ pos 1) (read_as {w = w64} e (often-bound s ∴ simp ints (omega arith)))

often-fits : (s : Start) → SFits w64 (often s)
often-fits s = often-bound s ∴ simp ints (omega arith)

pub overflow_add-changes : goal.overflow_add-changes
overflow_add-changes c = subst (SFits w64) (sym (more c)) (often-fits (begun c))

product : (c : After-floor_div-changes) → let s = begun c in to_z w64 (of_z w64 (to_z w64 (of_z w64 c.floor_div-changes.result) +ℤ pos 1)) *ℤ to_z w64 (of_z w64 s.args.by.z) ≡ often s *ℤ s.args.by.z
product c = ap₂ ◌*ℤ◌ (read_as {w = w64} (more c) (often-fits (begun c))) (to_z-of_z (factors (begun c)).z-fits)

product-bound : (s : Start) → Within (2 ^ 53) (often s *ℤ s.args.by.z)
product-bound s =
    let f = factors s in
    changed-within (up s.args.by.x) (up s.args.by.y) s.args.by.z s.args.i f.x-low f.x-high f.y-high (s.requires.limits.z-low, s.requires.limits.z-high) s.requires.within.0

product-fits : (s : Start) → SFits w64 (often s *ℤ s.args.by.z)
product-fits s = product-bound s ∴ simp ints (omega arith)

pub overflow_mul-result : goal.overflow_mul-result
overflow_mul-result c = subst (SFits w64) (sym (product (goal.at.overflow_mul-result c).After-floor_div-changes)) (product-fits (begun (goal.at.overflow_mul-result c).After-floor_div-changes))

sum : (c : After-floor_div-changes) → let s = begun c in
    to_z w64 (of_z w64 s.args.p) +ℤ to_z w64 (of_z w64 (to_z w64 (of_z w64 (to_z w64 (of_z w64 c.floor_div-changes.result) +ℤ pos 1)) *ℤ to_z w64 (of_z w64 s.args.by.z)))
    ≡ s.args.p +ℤ often s *ℤ s.args.by.z
sum c = ap₂ ◌+ℤ◌ (to_z-of_z (begun c).ranges.p) (read_as {w = w64} (product c) (product-fits (begun c)))

sum_fits : (s : Start) → SFits w64 (s.args.p +ℤ often s *ℤ s.args.by.z)
sum_fits s = s.requires.within.1 ∴ product-bound s ∴ simp ints (omega arith)

pub overflow_add-result : goal.overflow_add-result
overflow_add-result c = subst (SFits w64) (sym (sum (goal.at.overflow_add-result c).After-floor_div-changes)) (sum_fits (begun (goal.at.overflow_add-result c).After-floor_div-changes))

pub returns : goal.returns
returns c = read_as {w = w64} (sum (goal.at.returns c).After-floor_div-changes) (sum_fits (begun (goal.at.returns c).After-floor_div-changes))
