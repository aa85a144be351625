-- `match_alter::find_ahead` meets its contract: the walk over b goes on to the altered granule of j.
-- Assumes nothing.
use mathlib.Core.Path.{◌≡◌, refl, sym, ap}
use mathlib.Core.Bool.{true}
use Prim.Native.Nat.{◌^◌}
use native.Mathlib.Omega.{arith}
use lib.IntN.{ℤ, pos, ◌-ℤ◌}
use lib.Signed.{◌≤ℤ◌, ◌<ℤ◌}
use mir.Facts.{to_z-of_z}
use mir.Syntax.{w64}
use mir.Val.{SFits, to_z, of_z}
use Rattle.integers.proofs.Linear.{ints, ◌∴◌}
use Rattle.calendar.specs.Meaning.{Row}
use Rattle.calendar.specs.Sound.{sound}
use Rattle.cursors.specs.Found.{Within}
use Rattle.cursors.proofs.Numbers.{read_as}
use Rattle.kinds.specs.Stands.{row_in}
use Rattle.alter_granules.specs.declared.ahead.Walk.{Walk}
use Rattle.alter_granules.specs.Follows.{Altering, begins, Holds, CoarseWalk}
use Rattle.alter_granules.proofs.Walking.{room}
use Rattle.fill_shared.proofs.Cells.{same_rows}
use Rattle.match_shared.proofs.Lent.{lent_row}
use Rattle.match_stretches.proofs.Rows.{period-positive, lent_is}
use Rattle.match_alter.proofs.find_ahead.Goals as goal
use Rattle.match_alter.proofs.find_ahead.Goals.{After-advance_to-walk, After-cells_of-b_cells, Start}

pub cells_of-a_cells-requires : goal.cells_of-a_cells-requires
cells_of-a_cells-requires c = let f = c.requires.stands.0 in record { pos_bound = period-positive _ _ f; a_in_bounds = f.fits }

pub cells_of-b_cells-requires : goal.cells_of-b_cells-requires
cells_of-b_cells-requires c = let f = c.requires.stands.1 in record { pos_bound = period-positive _ _ f; a_in_bounds = f.fits }

abbrev Lent : Type 0
Lent = After-cells_of-b_cells

abbrev entry : Lent → Start
entry l = (goal.at.After-cells_of-b_cells l).Start

abbrev A : Lent → Row
A l = row_in (entry l).args.pool.now (entry l).args.a

abbrev B : Lent → Row
B l = row_in (entry l).args.pool.now (entry l).args.b

a-is : (l : Lent) → lent_row (entry l).args.a l.cells_of-a_cells.result.now ≡ A l
a-is l = lent_is _ _ (entry l).requires.stands.0 _ l.cells_of-a_cells.ensures

b-is : (l : Lent) → lent_row (entry l).args.b l.cells_of-b_cells.result.now ≡ B l
b-is l = lent_is _ _ (entry l).requires.stands.1 _ l.cells_of-b_cells.ensures

-- j as the machine has it
abbrev J : Lent → ℤ
J l = to_z w64 (of_z w64 (entry l).args.j)

J-is : (l : Lent) → J l ≡ (entry l).args.j
J-is l = to_z-of_z {w = w64} (entry l).ranges.j

pub advance_to-walk-requires : goal.advance_to-walk-requires
advance_to-walk-requires c =
    let l = (goal.at.advance_to-walk-requires c).After-cells_of-b_cells in
    let s = entry l in
    let g = s.requires.walking in
    let w = s.args.from.walk in
    let low : begins s.args.by (A l) (B l) w.label ≤ℤ J l = g.reached ∴ J-is l ∴ simp ints (omega arith) in
    let high : J l <ℤ w.end = g.before ∴ J-is l ∴ simp ints (omega arith) in
    let k = same_rows (λ x y. (sound x ≡ true) × (sound y ≡ true) × Altering s.args.by x y × CoarseWalk s.args.by x y w × ((begins s.args.by x y w.label ≤ℤ J l) × (J l <ℤ w.end)))
    (sym (a-is l)) (sym (b-is l)) (s.requires.stands.0.is-sound, s.requires.stands.1.is-sound, s.requires.altering, g.walk, (low, high)) in
    record { sound = k.0; sound_2 = k.1; altering = k.2; coarse_walk = k.3; label_bound = k.4 }

-- ---- what it finds
abbrev Walked : Type 0
Walked = After-advance_to-walk

abbrev lent_of : Walked → Lent
lent_of c = (goal.at.After-advance_to-walk c).After-cells_of-b_cells

abbrev walk : Walked → Walk
walk c = c.advance_to-walk.result

walked : (c : Walked) → let l = lent_of c in let s = entry l in
    CoarseWalk s.args.by (A l) (B l) (walk c) × (Holds s.args.by (A l) (B l) s.args.j (walk c).label × ((walk c).end ≡ s.args.from.walk.end))
walked c =
    let l = lent_of c in
    let s = entry l in
    same_rows (λ x y. CoarseWalk s.args.by x y (walk c) × (Holds s.args.by x y s.args.j (walk c).label × ((walk c).end ≡ s.args.from.walk.end))) (a-is l) (b-is l)
    (c.advance_to-walk.ensures.walks, (rw (J-is l) at c.advance_to-walk.ensures.has, c.advance_to-walk.ensures.end))

-- its numbers are not great
near : (c : Walked) → Within (2 ^ 56) (walk c).label × Within (2 ^ 56) (walk c).next
near c =
    let l = lent_of c in
    let s = entry l in
    let a = s.args.a in
    let b = s.args.b in
    let r = room s.args.by a.period a.distance b.period b.distance (A l).cells (B l).cells s.requires.stands.0.is-sound s.requires.stands.1.is-sound s.requires.altering (walk c) (walked c).0 in
    (r.label, r.next)

label-fits : (c : Walked) → SFits w64 (walk c).label
label-fits c = (near c).0 ∴ simp ints (omega arith)

next_fits : (c : Walked) → SFits w64 (walk c).next
next_fits c = (near c).1 ∴ simp ints (omega arith)

less-fits : (c : Walked) → SFits w64 ((walk c).next -ℤ pos 1)
less-fits c = (near c).1 ∴ simp ints (omega arith)

less-is : (c : Walked) → to_z w64 (of_z w64 (walk c).next) -ℤ pos 1 ≡ (walk c).next -ℤ pos 1
less-is c = ap (λ (z : ℤ). z -ℤ pos 1) (to_z-of_z {w = w64} (next_fits c))

pub overflow_sub-result : goal.overflow_sub-result
overflow_sub-result c = let w = (goal.at.overflow_sub-result c).After-advance_to-walk in rw (less-is w) (less-fits w)

pub returns : goal.returns
returns c =
    let w = (goal.at.returns c).After-advance_to-walk in
    let h = walked w in
    record {
      walk = h.0;
      holds = h.1.0;
      end = h.1.1;
      place = refl;
      number = to_z-of_z {w = w64} (label-fits w);
      high = read_as {w = w64} (less-is w) (less-fits w);
    }
