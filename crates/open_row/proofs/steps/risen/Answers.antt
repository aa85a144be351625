-- `open_row::steps::risen` meets its contract.
-- Assumes nothing.
use mathlib.Core.Path.{◌≡◌, ◌∙◌, ap}
use Prim.Native.Nat.{◌^◌}
use native.Mathlib.Omega.{arith}
use borrow.Author.Rules.{sfits_of}
use lib.IntN.{pos, ◌-ℤ◌}
use mir.Syntax.{w64}
use mir.Val.{SFits}
use Rattle.integers.specs.Parts.{up}
use Rattle.integers.proofs.Linear.{ints, ◌∴◌}
use Rattle.integers.proofs.Machine.{plain}
use Rattle.cursors.specs.Found.{Within}
use Rattle.open_map.specs.Maps.{Map}
use Rattle.open_map.specs.Turns.{rank}
use Rattle.open_row.specs.Shown.{labelled_before, shown_by}
use Rattle.open_row.proofs.Rows.{total-is}
use Rattle.open_row.proofs.steps.risen.Goals as goal
use Rattle.open_row.proofs.steps.risen.Goals.{After-labelled_instants-total, After-rank_of-end, After-rank_of-start, Start}

abbrev map : Start → Map
map s = shown_by s.args.period s.args.cells.now

total : (c : After-labelled_instants-total) → let s = (goal.at.After-labelled_instants-total c).Start in
    c.labelled_instants-total.result ≡ pos (labelled_before s.args.cells.now (up s.args.period))
total c =
    let s = (goal.at.After-labelled_instants-total c).Start in
    c.labelled_instants-total.ensures ∙ ap pos (total-is s.args.period s.args.distance s.args.cells.now s.requires.sound)

pub rank_of-end-requires : goal.rank_of-end-requires
rank_of-end-requires c =
    let s = (goal.at.rank_of-end-requires c).Start in
    let p = s.ranges.period in
    let d = s.ranges.distance in
    let t = s.ranges.t in
    let f : SFits w64 c.labelled_instants-total.result = sfits_of c.labelled_instants-total.type_inv in
    record { sound = simp plain s.requires.sound; total_value = simp plain (total c); within = simp plain s.requires.within.1 }

pub rank_of-start-requires : goal.rank_of-start-requires
rank_of-start-requires c =
    let a = (goal.at.rank_of-start-requires c).After-labelled_instants-total in
    let s = (goal.at.After-labelled_instants-total a).Start in
    let p = s.ranges.period in
    let d = s.ranges.distance in
    let t = s.ranges.s in
    let f : SFits w64 a.labelled_instants-total.result = sfits_of a.labelled_instants-total.type_inv in
    record { sound = simp plain s.requires.sound; total_value = simp plain (total a); within = simp plain s.requires.within.0 }

end_is : (c : After-rank_of-end) → let s = (goal.at.After-rank_of-end c).Start in
    (c.rank_of-end.result ≡ rank (map s) s.args.t) × Within (2 ^ 60) c.rank_of-end.result
end_is c =
    let s = (goal.at.After-rank_of-end c).Start in
    let p = s.ranges.period in
    let t = s.ranges.t in
    (simp plain at c.rank_of-end.ensures.value, c.rank_of-end.ensures.within_2)

start_is : (c : After-rank_of-start) → let s = (goal.at.After-rank_of-start c).Start in
    (c.rank_of-start.result ≡ rank (map s) s.args.s) × Within (2 ^ 60) c.rank_of-start.result
start_is c =
    let s = (goal.at.After-rank_of-start c).Start in
    let p = s.ranges.period in
    let t = s.ranges.s in
    (simp plain at c.rank_of-start.ensures.value, c.rank_of-start.ensures.within_2)

difference-fits : (c : After-rank_of-start) → SFits w64 (c.rank_of-end.result -ℤ c.rank_of-start.result)
difference-fits c = (end_is (goal.at.After-rank_of-start c).After-rank_of-end).1 ∴ (start_is c).1 ∴ simp ints (omega arith)

pub overflow_sub-result : goal.overflow_sub-result
overflow_sub-result c =
    let f : SFits w64 c.rank_of-end.result = sfits_of c.rank_of-end.type_inv in
    let g : SFits w64 c.rank_of-start.result = sfits_of c.rank_of-start.type_inv in
    simp plain (difference-fits c)

pub returns : goal.returns
returns c =
    let f : SFits w64 c.rank_of-end.result = sfits_of c.rank_of-end.type_inv in
    let g : SFits w64 c.rank_of-start.result = sfits_of c.rank_of-start.type_inv in
    let d = difference-fits c in
    simp plain ((end_is (goal.at.returns c).After-rank_of-end).0 ∴ (start_is c).0 ∴ simp ints (omega arith))
