-- `one_cell::is_along` meets its contract: no cell has another label.
-- Assumes nothing.
use mathlib.Core.Path.{◌≡◌, ◌∙◌, sym, subst}
use Prim.Native.Nat.{◌<◌, ◌≤◌}
use native.Mathlib.Omega.{arith}
use lib.IntN.{ℤ, pos}
use lib.ListN.{length, get_or}
use mir.Facts.{to_z-of_z}
use mir.Syntax.{w32}
use mir.Val.{SFits}
use Rattle.integers.proofs.Linear.{ints, ◌∴◌}
use Rattle.calendar.specs.Meaning.{empty}
use Rattle.calendar.specs.Limits.{pool_limit}
use Rattle.granules.proofs.Tests.{eqb-iff}
use Rattle.cursors.specs.Found.{Within}
use Rattle.cursors.proofs.Numbers.{numbers}
use Rattle.cursors.proofs.Bounds.{in-range}
use Rattle.cursors.proofs.Cells.{get_d_any}
use Rattle.one_cell.specs.Along.{Along}
use Rattle.one_cell.proofs.Labels.{one-length, one-range}
use Rattle.one_cell.proofs.is_along.Goals as goal
use Rattle.one_cell.proofs.is_along.Goals.{Start}

here : (s : Start) → 0 < length s.args.one_cells.now
here s = omega (arith, one-length s.args.one_period s.args.one_distance s.args.one_cells.now s.requires.sound.0 s.requires.sound.1)

-- the only cell
abbrev only : Start → ℤ
only s = get_or s.args.one_cells.now 0 (pos 0)

only-is : (s : Start) → get_or s.args.one_cells.now 0 empty ≡ only s
only-is s = get_d_any s.args.one_cells.now 0 empty (pos 0) (here s)

only-within : (s : Start) → Within 1000000000 (only s)
only-within s = subst (Within 1000000000) (only-is s) ((in-range _).0 (one-range s.args.one_period s.args.one_distance s.args.one_cells.now s.requires.sound.0 s.requires.sound.1))

only-fits : (s : Start) → SFits w32 (only s)
only-fits s = let w = only-within s in w.0 ∴ w.1 ∴ simp ints (omega arith)

few : (s : Start) → length s.args.cells.now ≤ pool_limit
few s = let n = numbers s.args.period s.args.distance s.args.cells.now s.requires.sound_2 in omega arith

pub bounds-one_cells-0 : goal.bounds-one_cells-0
bounds-one_cells-0 c = here c

pub others-requires : goal.others-requires
others-requires c =
    let s = (goal.at.others-requires c).Start in
    let e = to_z-of_z (only-fits s) in
    record { within = rw e (only-within s); cells_len_bound = few s }

pub returns : goal.returns
returns c =
    let s = (goal.at.returns c).Start in
    let e = to_z-of_z (only-fits s) in
    let i = eqb-iff c.others.result 0 in
    let l : ℤ → Type 0 = λ z. Along z s.args.cells.now in
    record { is = λ t. subst l (e ∙ sym (only-is s)) (c.others.ensures.none (i.0 t)); back = λ a. i.1 (c.others.ensures.along (subst l (only-is s ∙ sym e) a)) }
