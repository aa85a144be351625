-- `counts::labels_from` meets its contract: cell by cell, or in four parts that fit together.
-- Assumes nothing.
use mathlib.Core.Path.{◌∙◌, ap}
use Prim.Native.Nat.{◌+◌, ◌-◌, ◌/◌}
use borrow.Author.Rules.{sfits_of}
use lib.IntN.{ℤ, pos}
use lib.ListN.{length, drop}
use mir.Facts.{to_z-of_z}
use mir.Syntax.{w32}
use Rattle.calendar.specs.Meaning.{empty}
use Rattle.cursors.proofs.Cells.{get_d_any}
use Rattle.counts.specs.Labels.{counted_on}
use Rattle.counts.proofs.Steps.{abreast-joined, counted-from}
use Rattle.counts.proofs.labels_from.Goals as goal
use Rattle.counts.proofs.labels_from.Goals.{After-abreast-tops, After-joined, Start}

pub returns-then-q-lt-PART : goal.returns-then-q-lt-PART
returns-then-q-lt-PART c =
    let s = (goal.at.returns-then-q-lt-PART c).Start in
    let l = s.args.cells.now in
    c.labels_on.ensures ∙ counted-from _ _ _ (to_z-of_z {w = w32} (sfits_of c.labels_on-arg-1.given) ∙ get_d_any l _ (pos 0) empty s.requires)

pub returns-then-joined : goal.returns-then-joined
returns-then-joined c =
    let j = (goal.at.returns-then-joined c).After-joined in
    let a = (goal.at.After-joined j).After-abreast-tops in
    let s = (goal.at.After-abreast-tops a).Start in
    let l = s.args.cells.now in
    let q = (length l - s.args.start) / 4 in
    let t = a.abreast-tops.result in
    let f = to_z-of_z {w = w32} (sfits_of c.struct_told-1.given.1.1.1.1.0.1) in
    c.labels_on-then-joined.ensures
    ∙ ap (λ (y : ℤ). counted_on t.count y (drop (s.args.start + q + q + q + q) l)) f
    ∙ abreast-joined l s.args.start q _ _ _ t a.abreast-tops.ensures (j.joined.ensures c.if-joined.true)

pub returns : goal.returns
returns c =
    let s = (goal.at.returns c).Start in
    let l = s.args.cells.now in
    c.labels_on-2.ensures ∙ counted-from _ _ _ (to_z-of_z {w = w32} (sfits_of c.labels_on-arg-2-1.given) ∙ get_d_any l _ (pos 0) empty s.requires)
