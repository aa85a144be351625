-- `counts::abreast` meets its contract: the loop keeps the count of all parts, by the greatest label of each so far.
-- Assumes nothing.
use mathlib.Core.Path.{◌≡◌, refl, sym, ◌∙◌, ap, subst}
use mathlib.Core.Logic.{⊎_elim}
use mathlib.Core.List.{List}
use Prim.Native.Nat.{ℕ, ◌+◌, ◌<◌}
use native.Mathlib.Omega.{arith}
use borrow.Author.Rules.{sfits_of}
use lib.IntN.{ℤ, pos}
use lib.ListN.{length, get_or, drop}
use mir.Facts.{to_z-of_z}
use mir.Syntax.{w32}
use mir.Val.{SFits, of_z, to_z}
use Rattle.calendar.specs.Meaning.{empty}
use Rattle.cursors.proofs.Cells.{get_d_any}
use Rattle.counts.specs.Labels.{rises, greatest}
use Rattle.counts.proofs.Steps.{Passed, passed-more, passed-same, abreast-then}
use Rattle.counts.proofs.abreast.Goals as goal
use Rattle.counts.proofs.abreast.Goals.{At-loop-i, In-loop-i, Joined-w-top_d, Joined-x-top_c, Joined-y-top_b, Joined-z-top_a, Start}

held : {z : ℤ} → SFits w32 z → SFits w32 (to_z w32 (of_z w32 z))
held f = subst (SFits w32) (sym (to_z-of_z f)) f

pub loop-i-init : goal.loop-i-init
loop-i-init c =
    let s = (goal.at.loop-i-init c).Start in
    let l = s.args.cells.now in
    let k = s.args.start in
    let f : SFits w32 (get_or l k (pos 0)) = sfits_of c.top_a-1.given in
    let e : get_or l k empty ≡ to_z w32 (of_z w32 (get_or l k (pos 0))) = get_d_any l k empty (pos 0) s.requires.0 ∙ sym (to_z-of_z f) in
    record {
      fits-a = held f;
      fits-b = held s.ranges.b;
      fits-c = held s.ranges.c;
      fits-d = held s.ranges.d;
      passed = record {
        few = omega arith;
        sum = omega (arith, ap (λ (y : ℤ). rises y (drop k l)) e);
        a = ap (λ (y : ℤ). greatest y (drop k l)) e;
        b = refl;
        c = refl;
        d = refl;
      };
    }

-- ---- the cell of each part that a turn passes
abbrev At : Type 0
At = At-loop-i

abbrev start : At → Start
start k = (goal.at.At-loop-i k).Start

abbrev q : At → ℕ
q k = (start k).args.q

abbrev turn : In-loop-i → At
turn c = (goal.at.In-loop-i c).At-loop-i

abbrev row : At → List ℤ
row k = (start k).args.cells.now

-- the last of the four is within the row
inside : (c : In-loop-i) → let k = turn c in k.loop-i.i + q k + q k + q k < length (row k)
inside c = let p = (start (turn c)).requires in omega arith

abbrev in-1 : Joined-z-top_a → In-loop-i
in-1 c = (goal.at.Joined-z-top_a c).In-loop-i

abbrev in-2 : Joined-y-top_b → In-loop-i
in-2 c = in-1 (goal.at.Joined-y-top_b c).Joined-z-top_a

abbrev in-3 : Joined-x-top_c → In-loop-i
in-3 c = in-2 (goal.at.Joined-x-top_c c).Joined-y-top_b

abbrev in-4 : Joined-w-top_d → In-loop-i
in-4 c = in-3 (goal.at.Joined-w-top_d c).Joined-x-top_c

passed-a : (c : Joined-z-top_a) → let k = turn (in-1 c) in let i = k.loop-i.i in
    Passed (row k) i (i + 1) (to_z w32 k.loop-i.top_a-bits) k.loop-i.count (to_z w32 c.if-z-top_a.top_a-bits) c.if-z-top_a.count
passed-a c =
    let k = turn (in-1 c) in
    let h = inside (in-1 c) in
    let f = sfits_of c.z-1.given in
    ⊎_elim
    (λ w. passed-more (row k) _ _ _ _ _ _ (omega arith) (omega arith) f w.if-z-top_a.true w.top_a-is w.count-is)
    (λ w. passed-same (row k) _ _ _ _ _ _ (omega arith) (omega arith) f k.loop-i.invariant.fits-a w.if-z-top_a.false w.top_a-is w.count-is)
    c.if-z-top_a.branch-raw

passed_b : (c : Joined-y-top_b) → let k = turn (in-2 c) in let i = k.loop-i.i in
    Passed (row k) (i + q k) (i + 1 + q k) (to_z w32 k.loop-i.top_b-bits) c.if-z-top_a.count (to_z w32 c.if-y-top_b.top_b-bits) c.if-y-top_b.count
passed_b c =
    let k = turn (in-2 c) in
    let h = inside (in-2 c) in
    let f = sfits_of c.y-1.given in
    ⊎_elim
    (λ w. passed-more (row k) _ _ _ _ _ _ (omega arith) (omega arith) f w.if-y-top_b.true w.top_b-is w.count-is)
    (λ w. passed-same (row k) _ _ _ _ _ _ (omega arith) (omega arith) f k.loop-i.invariant.fits-b w.if-y-top_b.false w.top_b-is w.count-is)
    c.if-y-top_b.branch-raw

passed-c : (c : Joined-x-top_c) → let k = turn (in-3 c) in let i = k.loop-i.i in
    Passed (row k) (i + q k + q k) (i + 1 + q k + q k) (to_z w32 k.loop-i.top_c-bits) c.if-y-top_b.count (to_z w32 c.if-x-top_c.top_c-bits) c.if-x-top_c.count
passed-c c =
    let k = turn (in-3 c) in
    let h = inside (in-3 c) in
    let f = sfits_of c.x-1.given in
    ⊎_elim
    (λ w. passed-more (row k) _ _ _ _ _ _ (omega arith) (omega arith) f w.if-x-top_c.true w.top_c-is w.count-is)
    (λ w. passed-same (row k) _ _ _ _ _ _ (omega arith) (omega arith) f k.loop-i.invariant.fits-c w.if-x-top_c.false w.top_c-is w.count-is)
    c.if-x-top_c.branch-raw

passed-d : (c : Joined-w-top_d) → let k = turn (in-4 c) in let i = k.loop-i.i in
    Passed (row k) (i + q k + q k + q k) (i + 1 + q k + q k + q k) (to_z w32 k.loop-i.top_d-bits) c.if-x-top_c.count (to_z w32 c.if-w-top_d.top_d-bits) c.if-w-top_d.count
passed-d c =
    let k = turn (in-4 c) in
    let h = inside (in-4 c) in
    let f = sfits_of c.w-1.given in
    ⊎_elim
    (λ w. passed-more (row k) _ _ _ _ _ _ (omega arith) (omega arith) f w.if-w-top_d.true w.top_d-is w.count-is)
    (λ w. passed-same (row k) _ _ _ _ _ _ (omega arith) (omega arith) f k.loop-i.invariant.fits-d w.if-w-top_d.false w.top_d-is w.count-is)
    c.if-w-top_d.branch-raw

pub overflow_add-count-then-x-top_c : goal.overflow_add-count-then-x-top_c
overflow_add-count-then-x-top_c c =
    let j = (goal.at.overflow_add-count-then-x-top_c c).Joined-y-top_b in
    let h = inside (in-2 j) in
    let p = (passed-a (goal.at.Joined-y-top_b j).Joined-z-top_a).few in
    let r = (passed_b j).few in
    omega arith

pub overflow_add-count-then-w-top_d : goal.overflow_add-count-then-w-top_d
overflow_add-count-then-w-top_d c =
    let j = (goal.at.overflow_add-count-then-w-top_d c).Joined-x-top_c in
    let h = inside (in-3 j) in
    let p = (passed-a (goal.at.Joined-x-top_c j).Joined-z-top_a).few in
    let r = (passed_b (goal.at.Joined-x-top_c j).Joined-y-top_b).few in
    let s = (passed-c j).few in
    omega arith

pub loop-i-preserved : goal.loop-i-preserved
loop-i-preserved c =
    let j = (goal.at.loop-i-preserved c).Joined-x-top_c in
    let k = turn (in-4 c) in
    let v = k.loop-i.invariant in
    let p = passed-a (goal.at.Joined-x-top_c j).Joined-z-top_a in
    let r = passed_b (goal.at.Joined-x-top_c j).Joined-y-top_b in
    let s = passed-c j in
    let t = passed-d c in
    record {
      fits-a = p.fits;
      fits-b = r.fits;
      fits-c = s.fits;
      fits-d = t.fits;
      passed = abreast-then (row k) _ _ (q k) _ _ _ _ _ _ _ _ _ _ _ _ _ _ v.passed p r s t;
    }

pub returns : goal.returns
returns c =
    let k = c.loop-i in
    let s = start (goal.at.returns c).At-loop-i in
    let l = row (goal.at.returns c).At-loop-i in
    let e : k.i ≡ s.args.start + s.args.q = omega arith in
    rw (e, to_z-of_z s.ranges.b, to_z-of_z s.ranges.c, to_z-of_z s.ranges.d) at k.invariant.passed
