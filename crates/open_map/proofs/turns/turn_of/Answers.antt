-- `open_map::turns::turn_of` meets its contract.
-- Assumes nothing.
use mathlib.Core.Path.{◌≡◌, ◌∙◌, ap}
use native.Mathlib.Omega.{arith}
use borrow.Author.Rules.{sfits_of}
use lib.IntN.{pos}
use lib.Signed.{◌≤ℤ◌}
use mir.Facts.{to_z-of_z}
use mir.Syntax.{w64}
use Rattle.integers.specs.Parts.{up}
use Rattle.integers.specs.Floor.{floor_div, floor_mod}
use Rattle.integers.proofs.Linear.{ints, ◌∴◌}
use Rattle.integers.proofs.Machine.{plain}
use Rattle.open_map.specs.Turns.{turned_at}
use Rattle.open_map.proofs.Numbers.{cast-up, turned-eq}
use Rattle.open_map.proofs.turns.turn_of.Goals as goal
use Rattle.open_map.proofs.turns.turn_of.Goals.{After-floor_div-turn, After-floor_mod-cell}

pub floor_div-turn-requires : goal.floor_div-turn-requires
floor_div-turn-requires c = let p = c.ranges.period in c.requires ∴ simp (plain, ints) (omega arith)

pub floor_mod-cell-requires : goal.floor_mod-cell-requires
floor_mod-cell-requires c = let p = c.ranges.period in c.requires ∴ simp (plain, ints) (omega arith)

turn_is : (c : After-floor_div-turn) → c.floor_div-turn.result ≡ floor_div c.args.t (up c.args.period)
turn_is c =
    let p = c.ranges.period in
    let t = c.ranges.t in
    simp plain at c.floor_div-turn.ensures

rest-is : (c : After-floor_mod-cell) → c.floor_mod-cell.result ≡ pos (floor_mod c.args.t (up c.args.period))
rest-is c =
    let p = c.ranges.period in
    let t = c.ranges.t in
    simp plain at c.floor_mod-cell.ensures

natural : (c : After-floor_mod-cell) → pos 0 ≤ℤ c.floor_mod-cell.result
natural c = rest-is c ∴ simp ints (omega arith)

pub overflow_cast-result : goal.overflow_cast-result
overflow_cast-result c = let n = cast-up c.floor_mod-cell.result (sfits_of c.floor_mod-cell.type_inv) (natural c) in (n.0, n.1)

pub returns : goal.returns
unfolding turned_at
returns c =
    turned-eq _ _ _ _ (to_z-of_z {w = w64} (sfits_of c.floor_div-turn.type_inv) ∙ turn_is (goal.at.returns c).After-floor_div-turn)
    ((cast-up c.floor_mod-cell.result (sfits_of c.floor_mod-cell.type_inv) (natural c)).2 ∙ ap up (rest-is c))
