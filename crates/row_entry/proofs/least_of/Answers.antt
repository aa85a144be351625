-- `row_entry::least_of` meets its contract: the part that is handed over, twice, is the working row, and R of its least row follows.
-- Assumes nothing.
use mathlib.Core.Path.{◌≡◌, ◌∙◌, ap}
use mathlib.Core.List.{List}
use Prim.Native.Nat.{◌+◌}
use borrow.Author.Rules.{sfits_of}
use native.Mathlib.Omega.{arith}
use lib.IntN.{ℤ, pos, nat_abs}
use lib.ListN.{take, drop}
use mir.Facts.{to_z-of_z}
use mir.Syntax.{w64}
use mir.Val.{SFits, of_z, to_z}
use Rattle.integers.specs.Parts.{up}
use Rattle.integers.proofs.Machine.{plain}
use Rattle.calendar.specs.Meaning.{Row}
use Rattle.calendar.specs.Granules.{granules}
use Rattle.calendar.specs.Questions.{given}
use Rattle.least_form.specs.Row.{IsLeast}
use Rattle.row_entry.proofs.Numbers.{cast-wide}
use Rattle.row_entry.proofs.Shortening.{Found, ending-is, handed-row, handed-sound, found-handed}
use Rattle.row_entry.proofs.least_of.Goals as goal
use Rattle.row_entry.proofs.least_of.Goals.{After-granules-granules, After-least_period-found, Start}

-- the end of the working row, as it is summed up
ends : (c : Start) → let a = c.args in a.used + nat_abs (to_z w64 (of_z w64 a.period)) ≡ a.used + up a.period
ends c = let a = c.args in ending-is a.period a.distance a.used a.pool.now c.requires c.ranges.period c.ranges.distance

pub overflow_cast-end : goal.overflow_cast-end
overflow_cast-end c = let p = c.ranges.period in simp plain (cast-wide p c.requires.low)

pub overflow_add-end : goal.overflow_add-end
overflow_add-end c = omega (arith, ends c)

pub slice_bounds-granules-end : goal.slice_bounds-granules-end
slice_bounds-granules-end c = omega (arith, ends c)

pub granules-granules-requires : goal.granules-granules-requires
granules-granules-requires c =
    let s = (goal.at.granules-granules-requires c).Start in
    let a = s.args in
    handed-sound a.period a.distance a.used a.pool.now s.requires s.ranges.period s.ranges.distance

pub slice_bounds-least_period-end : goal.slice_bounds-least_period-end
slice_bounds-least_period-end c = omega (arith, ends (goal.at.slice_bounds-least_period-end c).Start)

pub least_period-found-requires : goal.least_period-found-requires
least_period-found-requires c =
    let s = (goal.at.least_period-found-requires c).Start in
    let a = s.args in
    record {
      cells_value = handed-sound a.period a.distance a.used a.pool.now s.requires s.ranges.period s.ranges.distance;
      granules_value = to_z-of_z {w = w64} (sfits_of c.granules-granules.type_inv) ∙ c.granules-granules.ensures;
    }

-- ---- the least period and R of the working row
abbrev counting : After-least_period-found → After-granules-granules
counting c = (goal.at.After-least_period-found c).After-granules-granules

abbrev start : After-least_period-found → Start
start c = (goal.at.After-least_period-found c).Start

at : (c : After-least_period-found) → let a = (start c).args in Found a.period a.distance a.used a.pool.now c.least_period-found.result.period
at c =
    let s = start c in
    let a = s.args in
    let l = c.least_period-found in
    found-handed a.period a.distance a.used a.pool.now s.requires s.ranges.period s.ranges.distance l.result.period l.ensures.least

abbrev cells : Start → List ℤ
cells s = take (up s.args.period) (drop s.args.used s.args.pool.now)

is-least : (c : After-least_period-found) → let s = start c in
    IsLeast (to_z w64 (of_z w64 s.args.period)) s.args.distance (to_z w64 (of_z w64 c.least_period-found.result.period)) (cells s)
is-least c =
    let s = start c in
    let p = s.ranges.period in
    let f = at c in
    let z = f.fits in
    simp plain (record { passed = s.requires.is-sound; is = f.is })

counted : (c : After-least_period-found) → let s = start c in
    to_z w64 (of_z w64 (counting c).granules-granules.result) ≡ pos (granules (given (to_z w64 (of_z w64 s.args.period)) s.args.distance (cells s)))
counted c =
    let s = start c in
    let a = s.args in
    let p = s.ranges.period in
    let g : SFits w64 (counting c).granules-granules.result = sfits_of (counting c).granules-granules.type_inv in
    simp plain
    ((counting c).granules-granules.ensures
    ∙ ap (λ (r : Row). pos (granules r)) (handed-row a.period a.distance a.used a.pool.now s.requires p s.ranges.distance))

pub least_granules-requires : goal.least_granules-requires
least_granules-requires c = (_, _, is-least (goal.at.least_granules-requires c).After-least_period-found, counted (goal.at.least_granules-requires c).After-least_period-found)

pub returns : goal.returns
returns c =
    let l = (goal.at.returns c).After-least_period-found in
    let s = start l in
    let p = s.ranges.period in
    let f = at l in
    let z = f.fits in
    let g : SFits w64 c.least_granules.result = sfits_of c.least_granules.type_inv in
    record { period = simp plain f.is; granules = simp plain (simp plain at (c.least_granules.ensures _ _ (is-least l) (counted l))) }
