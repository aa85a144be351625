-- `open_steps::steps::is_open` meets its contract.
-- Assumes nothing.
use mathlib.Core.Path.{◌≡◌, ◌∙◌, ap}
use lib.Dec.{eqb}
use Rattle.integers.specs.Parts.{up}
use Rattle.integers.proofs.Machine.{plain}
use Rattle.words.specs.Bits.{cell}
use Rattle.open_map.specs.Maps.{is_open}
use Rattle.open_map.specs.declared.turns.Turned.{Turned}
use Rattle.open_map.specs.Turns.{turned_at}
use Rattle.open_map.proofs.Given.{given, turning}
use Rattle.open_steps.proofs.steps.is_open.Goals as goal
use Rattle.open_steps.proofs.steps.is_open.Goals.{After-turn_of-at, Start}

pub turn_of-at-requires : goal.turn_of-at-requires
turn_of-at-requires c =
    let s = (goal.at.turn_of-at-requires c).Start in
    let p = s.ranges.period in
    let l = s.args.words.now in
    simp plain (turning s.args.period l (given s.args.period l s.requires))

pub returns : goal.returns
unfolding is_open turned_at
returns c =
    let a = (goal.at.returns c).After-turn_of-at in
    let s = (goal.at.After-turn_of-at a).Start in
    let p = s.ranges.period in
    let x = s.ranges.x in
    let e : a.turn_of-at.result ≡ turned_at (up s.args.period) s.args.x = simp plain at a.turn_of-at.ensures in
    c.is_set.ensures ∙ ap (λ (r : Turned). eqb (cell s.args.words.now r.cell) 1) e
