-- `fill_by_granule::combining::combined` meets its contract.
-- Assumes nothing.
use mathlib.Core.Path.{◌≡◌, sym, ◌∙◌}
use native.Mathlib.Omega.{arith}
use Rattle.integers.proofs.Linear.{ints, ◌∴◌}
use Rattle.integers.proofs.Machine.{plain}
use Rattle.calendar.specs.Meaning.{Row}
use Rattle.calendar.specs.Questions.{given}
use Rattle.fill_by_granule.specs.Lying.{lies_at}
use Rattle.fill_by_granule.proofs.Lying.{combined-in, combined-out}
use Rattle.fill_by_granule.proofs.combining.combined.Goals as goal
use Rattle.fill_by_granule.proofs.combining.combined.Goals.{After-lies, Start}

abbrev A : Start → Row
A s = given s.args.a_period s.args.a_distance s.args.a_cells.now

abbrev B : Start → Row
B s = given s.args.b_period s.args.b_distance s.args.b_cells.now

lies-is : (c : After-lies) → c.lies.result ≡ lies_at (A (goal.at.After-lies c).Start) (B (goal.at.After-lies c).Start) c.args.k c.args.t
lies-is c =
    let f = c.ranges in
    let a = f.a_period in
    let b = f.a_distance in
    let d = f.b_period in
    let e = f.b_distance in
    let k = f.k in
    let t = f.t in
    simp plain at c.lies.ensures

pub cursor_label-requires : goal.cursor_label-requires
cursor_label-requires c =
    let s = (goal.at.cursor_label-requires c).Start in
    let f = s.ranges in
    let a = f.a_period in
    let b = f.a_distance in
    record { sound = simp plain s.requires.sound; standing = simp plain ((s.args.t, s.requires.within ∴ simp ints (omega arith), s.requires.a_value)) }

pub returns-then-lies : goal.returns-then-lies
returns-then-lies c =
    let s = (goal.at.returns-then-lies c).Start in
    let f = s.ranges in
    let a = f.a_period in
    let b = f.a_distance in
    (simp plain at c.cursor_label.ensures) s.args.t s.requires.a_value ∙ combined-in (A s) (B s) s.args.k s.args.t s.requires.t_value (sym (lies-is (goal.at.returns-then-lies c).After-lies) ∙ c.if-lies.true)

pub returns-else-lies : goal.returns-else-lies
returns-else-lies c = let s = (goal.at.returns-else-lies c).Start in combined-out (A s) (B s) s.args.k s.args.t s.requires.t_value (sym (lies-is (goal.at.returns-else-lies c).After-lies) ∙ c.if-lies.false)
