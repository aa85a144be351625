-- `journal::search::last_trailer` meets its contract. The loop's invariant: no trailer points back from p on.
-- Assumes nothing.
use mathlib.Core.Path.{◌≡◌, sym, ap, ◌∙◌}
use Prim.Native.Nat.{suc, ◌-◌}
use native.Mathlib.Omega.{arith}
use Rattle.journal.specs.Window.{last_in}
use Rattle.journal.proofs.Trailers.{last_none, last-body, last-no-body}
use Rattle.journal.proofs.search.last_trailer.Goals as goal
use Rattle.journal.proofs.search.last_trailer.Goals.{At-loop-p}

pub returns : goal.returns
returns c =
    let l = (goal.at.returns c).At-loop-p in
    let a = l.args in
    sym (l.loop-p.invariant ∙ ap (last_in a.window.now a.base) (let q : l.loop-p.p ≡ 0 = omega arith in q)
    ∙ last_none a.window.now a.base)

pub returns-in-Some : goal.returns-in-Some
returns-in-Some c =
    sym (c.loop-p.invariant
    ∙ ap (last_in c.args.window.now c.args.base) (let q : c.loop-p.p ≡ suc (c.loop-p.p - 1) = omega (arith, c.loop-p-test.true) in q)
    ∙ last-body _ _ _ _ (sym c.in-Some.is ∙ c.body_length.ensures))

pub loop-p-preserved : goal.loop-p-preserved
loop-p-preserved c =
    c.loop-p.invariant
    ∙ ap (last_in c.args.window.now c.args.base) (let q : c.loop-p.p ≡ suc (c.loop-p.p - 1) = omega (arith, c.loop-p-test.true) in q)
    ∙ last-no-body _ _ _ (sym c.in_default.is ∙ c.body_length.ensures)
