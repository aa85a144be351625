-- `steps::step` meets its contract: an entry that is due is taken; else nothing changes.
-- Assumes nothing.
use mathlib.Core.Path.{◌≡◌, refl, sym, ap, subst}
use mathlib.Core.Logic.{◌⊎◌, inl, inr}
use mathlib.Core.List.{List}
use Prim.Native.Nat.{ℕ}
use lib.IntN.{ℤ}
use Rattle.walks.specs.Walk.Progress.{done, refused_at}
use Rattle.steps.specs.declared.Walk.{Walk}
use Rattle.walks.specs.Walk as W
use Rattle.walks.proofs.Came.{call-due, ended-stays}
use Rattle.steps.specs.State.{progress_of, walk_of, Gives}
use Rattle.steps.proofs.step.Goals as goal
use Rattle.steps.proofs.step.Goals.{After-take_due, In-Due}

-- a walk that has ended
stays : (w : Walk) (t : List ℤ) (headings : List ℕ) (pool : List ℤ)
    → ((progress_of w.progress ≡ done) ⊎ ((m : ℕ) × (k : ℕ) × (progress_of w.progress ≡ refused_at m k))) → Gives (W.call (walk_of w) t headings pool) w headings pool
stays w t headings pool e =
    subst (λ (s : W.Left). Gives s w headings pool) (sym (ended-stays (walk_of w) t headings pool e)) (record { state = refl; numbers = refl; cells = refl })

pub returns-in-Due : goal.returns-in-Due
returns-in-Due c =
    let d = (goal.at.returns-in-Due c).After-take_due in
    let k = (goal.at.After-take_due d).In-Due in
    let a = k.args in
    let e = call-due (walk_of a.walk) _ (ap progress_of k.in-Due.is) a.table.now a.headings.now a.pool.now in
    subst (λ (s : W.Left). Gives s d.take_due.result d.take_due.new.headings d.take_due.new.pool) (sym e) d.take_due.ensures

pub returns-in-Done : goal.returns-in-Done
returns-in-Done c =
    let a = c.args in
    stays a.walk a.table.now a.headings.now a.pool.now (inl (ap progress_of c.in-Done.is))

pub returns-in-Refused : goal.returns-in-Refused
returns-in-Refused c =
    let a = c.args in
    stays a.walk a.table.now a.headings.now a.pool.now (inr (_, _, ap progress_of c.in-Refused.is))
