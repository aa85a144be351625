-- `open_row::steps::nth_of` meets its contract: forward, back, or x itself.
-- Assumes nothing.
use mathlib.Core.Path.{◌≡◌, ◌∙◌, sym, ap}
use mathlib.Core.Bool.{Bool}
use mathlib.Core.Option.{some}
use native.Mathlib.Omega.{arith}
use borrow.Author.Rules.{sfits_of}
use lib.IntN.{ℤ, pos, ◌+ℤ◌, ◌-ℤ◌}
use lib.Signed.{◌≤ℤ◌}
use mir.Facts.{to_z-of_z}
use mir.Syntax.{w64}
use mir.Val.{SFits}
use Rattle.integers.specs.Parts.{up}
use Rattle.integers.proofs.Linear.{ints, ◌∴◌}
use Rattle.integers.proofs.Machine.{plain}
use Rattle.calendar.specs.Meaning.{Row}
use Rattle.calendar.specs.Lists.{only}
use Rattle.calendar.specs.Questions.{given}
use Rattle.granules.proofs.Tests.{and-iff, le_z-iff}
use Rattle.cursors.specs.Found.{Within}
use Rattle.open_steps.specs.Steps.{nth_open}
use Rattle.open_map.specs.Maps.{Map, is_open}
use Rattle.open_steps.specs.Ranked.{OpenFrom}
use Rattle.open_map.proofs.Given.{Given}
use Rattle.open_steps.proofs.Found.{nth-forward, nth-back, nth_here}
use Rattle.row_maps.specs.Making.{map_of}
use Rattle.open_row.specs.Inquiries.{opens}
use Rattle.open_row.specs.Shown.{shown_by}
use Rattle.open_row.proofs.Rows.{map-given, nth-same, opens-same}
use Rattle.open_row.proofs.steps.nth_of.Goals as goal
use Rattle.open_row.proofs.steps.nth_of.Goals.{After-is_open, Start}

abbrev row : Start → Row
row s = given s.args.period s.args.distance s.args.cells.now

abbrev map : Start → Map
map s = shown_by s.args.period s.args.cells.now

known : (s : Start) → Given s.args.period (map_of s.args.cells.now)
known s = map-given s.args.period s.args.distance s.args.cells.now s.requires.sound

-- the limits of x and n
limits : (s : Start) → Within 1000000000 s.args.x × Within 1000000 s.args.n
limits s = simp (and-iff, le_z-iff) at s.requires.n_value

behind-fits : (s : Start) → SFits w64 (s.args.x +ℤ pos 1)
behind-fits s = (limits s).0 ∴ simp ints (omega arith)

less-fits : (s : Start) → SFits w64 (s.args.n -ℤ pos 1)
less-fits s = (limits s).1 ∴ simp ints (omega arith)

pub overflow_add-x : goal.overflow_add-x
overflow_add-x c = let x = c.ranges.x in simp plain (behind-fits (goal.at.overflow_add-x c).Start)

pub overflow_sub-n : goal.overflow_sub-n
overflow_sub-n c = let n = c.ranges.n in simp plain (less-fits (goal.at.overflow_sub-n c).Start)

pub open_from-requires : goal.open_from-requires
open_from-requires c =
    let s = (goal.at.open_from-requires c).Start in
    let p = s.ranges.period in
    let d = s.ranges.distance in
    let x = s.ranges.x in
    let n = s.ranges.n in
    let y = behind-fits s in
    let m = less-fits s in
    record { sound = simp plain s.requires.sound; within = simp plain ((limits s).0 ∴ simp ints (omega arith), (limits s).1 ∴ simp ints (omega arith)) }

-- what is asked, of the map
asked : (s : Start) → let P = up s.args.period in
    nth_open P (opens (row s)) s.args.x s.args.n ≡ nth_open P (is_open (map s)) s.args.x s.args.n
asked s = sym (nth-same s.args.period s.args.distance s.args.cells.now s.args.x s.args.n)

pub returns-then-n-gt0 : goal.returns-then-n-gt0
returns-then-n-gt0 c =
    let s = (goal.at.returns-then-n-gt0 c).Start in
    let p = s.ranges.period in
    let x = s.ranges.x in
    let n = s.ranges.n in
    let y = behind-fits s in
    let m = less-fits s in
    let o : OpenFrom (map s) (s.args.x +ℤ pos 1) (s.args.n -ℤ pos 1) c.open_from.result = simp plain at c.open_from.ensures in
    ap some (to_z-of_z {w = w64} (sfits_of c.open_from.type_inv))
    ∙ sym (asked s ∙ nth-forward s.args.period (map_of s.args.cells.now) (known s) s.args.x s.args.n c.open_from.result
    (simp plain at c.if-n-gt0.true) o)

pub open_from-requires-then-n-lt0 : goal.open_from-requires-then-n-lt0
open_from-requires-then-n-lt0 c =
    let s = (goal.at.open_from-requires-then-n-lt0 c).Start in
    let p = s.ranges.period in
    let d = s.ranges.distance in
    let x = s.ranges.x in
    let n = s.ranges.n in
    record { sound = simp plain s.requires.sound; within = simp plain ((limits s).0 ∴ simp ints (omega arith), (limits s).1 ∴ simp ints (omega arith)) }

pub returns-then-n-lt0 : goal.returns-then-n-lt0
returns-then-n-lt0 c =
    let s = (goal.at.returns-then-n-lt0 c).Start in
    let p = s.ranges.period in
    let x = s.ranges.x in
    let n = s.ranges.n in
    let o : OpenFrom (map s) s.args.x s.args.n c.open_from-then-n-lt0.result = simp plain at c.open_from-then-n-lt0.ensures in
    ap some (to_z-of_z {w = w64} (sfits_of c.open_from-then-n-lt0.type_inv))
    ∙ sym (asked s ∙ nth-back s.args.period (map_of s.args.cells.now) (known s) s.args.x s.args.n c.open_from-then-n-lt0.result
    (simp plain at c.if-n-lt0.true) o)

pub is_open-requires : goal.is_open-requires
is_open-requires c =
    let s = (goal.at.is_open-requires c).Start in
    let p = s.ranges.period in
    let d = s.ranges.distance in
    let x = s.ranges.x in
    record { sound = simp plain s.requires.sound; within = simp plain ((limits s).0 ∴ simp ints (omega arith)) }

-- zero steps
stays : (c : After-is_open) → let s = (goal.at.After-is_open c).Start in
    nth_open (up s.args.period) (opens (row s)) s.args.x s.args.n ≡ only s.args.x c.is_open.result
stays c =
    let s = (goal.at.After-is_open c).Start in
    let p = s.ranges.period in
    let d = s.ranges.distance in
    let x = s.ranges.x in
    let n = s.ranges.n in
    let l = s.args.cells.now in
    let lo : s.args.n ≤ℤ pos 0 = simp plain at c.if-n-gt0.false in
    let hi : pos 0 ≤ℤ s.args.n = simp plain at c.if-n-lt0.false in
    let e : c.is_open.result ≡ opens (row s) s.args.x = simp plain at c.is_open.ensures in
    asked s ∙ nth_here s.args.period (map_of l) (known s) s.args.x s.args.n (lo ∴ hi ∴ simp ints (omega arith))
    ∙ ap (λ (f : ℤ → Bool). only s.args.x (f s.args.x)) (opens-same s.args.period s.args.distance l)
    ∙ ap (only s.args.x) (sym e)

pub returns-then-is_open : goal.returns-then-is_open
returns-then-is_open c =
    let s = (goal.at.returns-then-is_open c).Start in
    ap some (to_z-of_z s.ranges.x) ∙ sym (stays (goal.at.returns-then-is_open c).After-is_open ∙ ap (only s.args.x) c.if-is_open.true)

pub returns-else-is_open : goal.returns-else-is_open
returns-else-is_open c =
    let s = (goal.at.returns-else-is_open c).Start in
    sym (stays (goal.at.returns-else-is_open c).After-is_open ∙ ap (only s.args.x) c.if-is_open.false)
