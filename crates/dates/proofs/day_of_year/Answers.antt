-- `dates::day_of_year` meets its contract: a year has 366 days at most.
-- Assumes nothing.
use borrow.Author.Rules.{sfits_of}
use mathlib.Core.Path.{◌≡◌, ◌∙◌}
use Prim.Native.Nat.{ℕ}
use native.Mathlib.Omega.{arith}
use lib.IntN.{ℤ, pos, ◌+ℤ◌, ◌-ℤ◌}
use mir.Facts.{to_z-of_z}
use mir.Syntax.{w64}
use mir.Val.{of_z, to_z}
use Rattle.integers.proofs.Linear.{ints, ◌∴◌}
use Rattle.integers.proofs.Machine.{plain}
use Rattle.civil.specs.Instants.{days_to_year}
use Rattle.dates.proofs.Naturals.{natural, cast-small}
use Rattle.dates.proofs.Years.{day-range}
use Rattle.dates.proofs.day_of_year.Goals as goal
use Rattle.dates.proofs.day_of_year.Goals.{After-days_to_year, Start}

year : (c : After-days_to_year) → to_z w64 (of_z w64 c.days_to_year.result) ≡ days_to_year c.args.q
year c =
    let q = c.ranges.q in to_z-of_z {w = w64} (sfits_of c.days_to_year.type_inv) ∙ simp plain at c.days_to_year.ensures

back : (D x : ℤ) (k : ℕ) → pos k ≡ x -ℤ D → D +ℤ pos k ≡ x
back D x k = simp ints (omega arith)

pub overflow_sub-result : goal.overflow_sub-result
overflow_sub-result c =
    let s = (goal.at.overflow_sub-result c).Start in
    let x = s.ranges.x in
    simp (year c, plain) (day-range s.args.x s.args.q s.requires).0

pub overflow_cast-result : goal.overflow_cast-result
overflow_cast-result c =
    let s = (goal.at.overflow_cast-result c).Start in
    let x = s.ranges.x in
    let (f, l, h) = day-range s.args.x s.args.q s.requires in
    simp (year c, plain) (cast-small l (h ∴ simp ints (omega arith)))

pub returns : goal.returns
returns c =
    let s = (goal.at.returns c).Start in
    let x = s.ranges.x in
    let (f, l, h) = day-range s.args.x s.args.q s.requires in
    simp (year c, plain) (back (days_to_year s.args.q) s.args.x _ (natural l).1)
