-- `fill_stretches::fill_cells` meets its contract: the part gets copies of the cell.
-- Assumes nothing.
use Rattle.std.proofs.Common.{◌≡◌, ◌-◌, length, take, drop, refl, sym, ◌∙◌, ap₂, arith, length-drop}
use mir.Facts.{to_z-of_z}
use Rattle.std.proofs.Math.ListN.{replicate}
use Rattle.std.proofs.lemmas.List.{length-replicate}
use Rattle.std.proofs.lemmas.Slice.{put_mid-paste}
use lib.Seq.{length-take-le}
use Rattle.fill_stretches.proofs.OneCell.{written-paste}
use Rattle.fill_stretches.proofs.fill_cells.Goals as goal

pub returns : goal.returns
returns c =
    let a = c.args in
    let n = a.to - a.from in
    let e : length (take n (drop a.from a.pool.now)) ≡ n = length-take-le n (drop a.from a.pool.now) (simp length-drop (omega (arith, c.requires))) in
    put_mid-paste a.from n a.pool.now c.fill.new.self (replicate n a.cell) n
    (c.fill.ensures.after (λ y e. e) ∙ ap₂ replicate e (to_z-of_z c.ranges.cell))
    refl
    (sym (length-replicate n a.cell))
    ∙ sym (written-paste a.cell a.from a.pool.now n (omega (arith, c.requires)))
