-- `checking::check_entries` meets its contract. The loop's invariant: the entries before k are right, and the others decide the verdict.
-- Assumes nothing.
use Rattle.calendar.specs.declared.Refusal.{Refusal}
use Rattle.std.specs.Prelude.{Ok, ℕ, Option, Result}
use mathlib.Core.Path.{◌≡◌, sym, ◌∙◌, ap, subst}
use mathlib.Core.List.{[]}
use mathlib.Core.Bool.{Bool, cond}
use Prim.Native.Nat.{◌-◌}
use native.Mathlib.Omega.{arith}
use lib.ListN.{length}
use Rattle.calendar.specs.Table.{entry_at}
use Rattle.calendar.specs.Outcome.{judged}
use Rattle.verdicts.specs.Check.{check_entries}
use Rattle.verdicts.specs.declared.Verdict.TheVariants.{Accepted, Wrong}
use Rattle.checking.specs.Claims.{Judges}
use Rattle.checking.proofs.Table.{checked-none, entry-due, entry-refused, entry-wrong, entry-right, all_right}
use Rattle.checking.proofs.check_entries.Goals as goal
use Rattle.checking.proofs.check_entries.Goals.{After-check_entry-judged, After-number, After-rest_is_empty, At-loop-k, In-Ok-Some, Start}

abbrev At-loop : Type 0
At-loop = At-loop-k

abbrev After-entry : Type 0
After-entry = After-check_entry-judged

abbrev begun : At-loop → Start
begun c = (goal.at.At-loop-k c).Start

pub loop-k-init : goal.loop-k-init
loop-k-init c = checked-none _ _ _ _

pub check_entry-judged-requires : goal.check_entry-judged-requires
check_entry-judged-requires c = entry-due _ _ _ _ _ _ (begun (goal.at.check_entry-judged-requires c).At-loop-k).requires c.loop-k.invariant c.loop-k-test.true

-- ---- what the check of the entry came to
abbrev at-loop : After-entry → At-loop
at-loop c = (goal.at.After-check_entry-judged c).At-loop-k

abbrev Says : After-entry → Result (Option ℕ) Refusal → Type 0
Says c x =
    let l = at-loop c in
    let a = (begun l).args in
    Judges l.loop-k.k l.loop-k.used a.headings.now a.pool.now
    (judged l.loop-k.invariant.before (length a.pool.now - l.loop-k.used) (entry_at a.table.now l.loop-k.k)) x

says : (c : After-entry) → Says c c.check_entry-judged.result
says c = let i = (at-loop c).loop-k.invariant in c.check_entry-judged.ensures i.before i.count i.behind

abbrev refusing : After-number → After-entry
refusing c = (goal.at.After-number c).After-check_entry-judged

pub overflow_cast-result : goal.overflow_cast-result
overflow_cast-result c = let l = at-loop (refusing c) in omega (arith, l.loop-k.invariant.at-most, (begun l).requires.at-most)

pub returns-in-Err : goal.returns-in-Err
returns-in-Err c =
    let e = refusing c in
    let l = at-loop e in
    rw c.number.ensures
    (entry-refused _ _ _ _ _ _ (begun l).requires l.loop-k.invariant e.loop-k-test.true c.in-Err.refusal
    (subst (Says e) c.in-Err.is (says e)))

-- ---- its heading or its row is wrong
pub overflow_cast-result-in-Ok-None : goal.overflow_cast-result-in-Ok-None
overflow_cast-result-in-Ok-None c = let l = at-loop (goal.at.overflow_cast-result-in-Ok-None c).After-check_entry-judged in omega (arith, l.loop-k.invariant.at-most, (begun l).requires.at-most)

pub returns-in-Ok-None : goal.returns-in-Ok-None
returns-in-Ok-None c =
    let e = (goal.at.returns-in-Ok-None c).After-check_entry-judged in
    let l = at-loop e in
    entry-wrong _ _ _ _ _ _ (begun l).requires l.loop-k.invariant e.loop-k-test.true (subst (Says e) (c.in-Ok-None.is ∙ ap Ok (rw c.in-Ok-None.is at c.in-Ok-None.field-0-is)) (says e))

-- ---- it is right
abbrev passing : In-Ok-Some → After-entry
passing c = (goal.at.In-Ok-Some c).After-check_entry-judged

pub overflow_step-k : goal.overflow_step-k
overflow_step-k c = omega (arith, (passing c).loop-k-test.true)

pub loop-k-smaller : goal.loop-k-smaller
loop-k-smaller c = omega (arith, (passing c).loop-k-test.true)

pub loop-k-preserved : goal.loop-k-preserved
loop-k-preserved c =
    let e = passing c in
    let l = at-loop e in
    entry-right _ _ _ _ _ _ (begun l).requires l.loop-k.invariant e.loop-k-test.true _ (subst (Says e) (c.in-Ok-Some.is ∙ ap Ok (rw c.in-Ok-Some.is at c.in-Ok-Some.field-0-is)) (says e))

-- ---- all are
pub rest_is_empty-requires : goal.rest_is_empty-requires
rest_is_empty-requires c = (begun (goal.at.rest_is_empty-requires c).At-loop-k).requires.at-most

pub overflow_cast-result-else-rest_is_empty : goal.overflow_cast-result-else-rest_is_empty
overflow_cast-result-else-rest_is_empty c = omega (arith, (begun (goal.at.overflow_cast-result-else-rest_is_empty c).At-loop-k).requires.at-most)

-- by the test of the rest
verdict : (c : After-rest_is_empty) → let a = (begun (goal.at.After-rest_is_empty c).At-loop-k).args in
    cond c.rest_is_empty.result Accepted (Wrong a.n) ≡ check_entries a.table.now a.headings.now a.pool.now a.n 0 []
verdict c =
    let l = (goal.at.After-rest_is_empty c).At-loop-k in
    all_right _ _ _ _ _ _ (begun l).requires l.loop-k.invariant c.loop-k-test.false c.rest_is_empty.result c.rest_is_empty.ensures

pub returns-then-rest_is_empty : goal.returns-then-rest_is_empty
returns-then-rest_is_empty c =
    let a = (begun (goal.at.returns-then-rest_is_empty c).At-loop-k).args in
    sym (ap (λ (b : Bool). cond b Accepted (Wrong a.n)) c.if-rest_is_empty.true) ∙ verdict (goal.at.returns-then-rest_is_empty c).After-rest_is_empty

pub returns-else-rest_is_empty : goal.returns-else-rest_is_empty
returns-else-rest_is_empty c =
    let a = (begun (goal.at.returns-else-rest_is_empty c).At-loop-k).args in
    sym (ap (λ (b : Bool). cond b Accepted (Wrong a.n)) c.if-rest_is_empty.false) ∙ verdict (goal.at.returns-else-rest_is_empty c).After-rest_is_empty
