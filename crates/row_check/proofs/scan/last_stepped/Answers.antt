-- `row_check::scan::last_stepped` meets its contract: the loop keeps the answer, by the last label so far and the cells that are left, an even number.
-- Assumes nothing.
use mathlib.Core.Path.{◌≡◌, refl, sym, ◌∙◌, ap, subst}
use mathlib.Core.Option.{some}
use mathlib.Core.Logic.{⊎_elim}
use mathlib.Core.Bool.{true}
use mathlib.Core.List.{List}
use Prim.Native.Nat.{ℕ, zero, suc, ◌+◌, ◌-◌, ◌/◌, ◌%◌, ◌<◌}
use native.Mathlib.Nat.{div-add-mod, mod-lt}
use native.Mathlib.Omega.{arith}
use borrow.Author.Rules.{sfits_of}
use lib.IntN.{ℤ, pos}
use lib.Signed.{le_z}
use lib.ListN.{length, get_or, drop}
use mir.Facts.{to_z-of_z}
use mir.Syntax.{w32}
use mir.Val.{SFits, of_z, to_z}
use Rattle.integers.proofs.Linear.{ints, ◌∴◌}
use Rattle.integers.proofs.Machine.{test-le, widened}
use Rattle.calendar.specs.Meaning.{empty}
use Rattle.row_check.specs.Order.{risen}
use Rattle.cursors.proofs.Cells.{get_d_any, bits-empty, bits_full}
use Rattle.row_check.proofs.Order.{risen-past, risen-falls, risen-on, risen-end}
use Rattle.row_check.proofs.scan.last_stepped.Invariants.{Rises}
use Rattle.row_check.proofs.scan.last_stepped.Goals as goal
use Rattle.row_check.proofs.scan.last_stepped.Goals.{After-y-1, After-z-1, At-loop-i, Joined-y-last, Joined-z-last, Start}

module _ (cells : List ℤ) (start : ℕ) (last : ℤ) (i : ℕ) (r : Rises cells start last i) (here : i < length cells) (fits : SFits w32 (get_or cells i (pos 0))) where
  -- the next cell has a label that is not below it
  step-on : le_z last (to_z w32 (of_z w32 (get_or cells i (pos 0)))) ≡ true → (now : ℤ) → now ≡ to_z w32 (of_z w32 (get_or cells i (pos 0))) → Rises cells start now (i + 1)
  step-on t now e =
      let z : now ≡ get_or cells i (pos 0) = e ∙ to_z-of_z fits in
      record {
        within = omega arith;
        fits = subst (SFits w32) (sym z) fits;
        same =
            r.same
            ∙ risen-on cells i (pos 0) here last (r.fits ∴ simp ints (omega arith)) (rw (to_z-of_z fits) at t)
            ∙ ap (λ (y : ℤ). risen y (drop (i + 1) cells)) (sym z);
      }

  -- it is empty
  step_past : of_z w32 (get_or cells i (pos 0)) ≡ 2147483648 → (now : ℤ) → now ≡ last → Rises cells start now (i + 1)
  step_past t now e = record {
    within = omega arith;
    fits = subst (SFits w32) (sym e) r.fits;
    same =
        r.same
        ∙ risen-past cells i (pos 0) here last (bits-empty (get_or cells i (pos 0)) fits t)
        ∙ ap (λ (y : ℤ). risen y (drop (i + 1) cells)) (sym e);
  }

pub overflow_add-i : goal.overflow_add-i
overflow_add-i c = let s = (goal.at.overflow_add-i c).Start in let n = length s.args.cells.now - s.args.start in let h : n % 2 < 2 = mod-lt n (omega arith) in omega arith

-- the first label needs no look
first-passed : (cells : List ℤ) (start : ℕ) (last : ℤ) (m : ℕ) → Rises cells start last start → last ≡ to_z w32 (of_z w32 (get_or cells start (pos 0))) → start < length cells → SFits w32 (get_or cells start (pos 0)) → m < 2 → Rises cells start last (start + m)
first-passed cells start last zero r e h f m = let z : start ≡ start + 0 = omega arith in subst (Rises cells start last) z r
first-passed cells start last (suc zero) r e h f m =
    step-on cells start last start r h f (ap (λ (y : ℤ). le_z y (to_z w32 (of_z w32 (get_or cells start (pos 0))))) e ∙ (test-le (to_z w32 (of_z w32 (get_or cells start (pos 0)))) _).1 (simp ints (omega arith))) last e
first-passed cells start last (suc (suc n)) r e h f m = absurd (omega arith)

pub loop-i-init : goal.loop-i-init
loop-i-init c =
    let s = (goal.at.loop-i-init c).Start in
    let l = s.args.cells.now in
    let k = s.args.start in
    let f : SFits w32 (get_or l k (pos 0)) = sfits_of c.last-1.given in
    let e = to_z-of_z f in
    let n = length l - k in
    let r : Rises l k (to_z w32 (of_z w32 (get_or l k (pos 0)))) k = record {
      within = omega arith;
      fits = subst (SFits w32) (sym e) f;
      same = ap (λ (y : ℤ). risen y (drop k l)) (get_d_any l k empty (pos 0) s.requires ∙ sym e);
    } in
    let d = div-add-mod n 2 in
    (first-passed l k _ (n % 2) r refl s.requires f (mod-lt n (omega arith)), (n / 2, omega (arith, d)))

pub bounds-cells-i : goal.bounds-cells-i
bounds-cells-i c = c.loop-i-test.true

abbrev At : Type 0
At = At-loop-i

abbrev row : At → List ℤ
row l = l.args.cells.now

abbrev Y : Type 0
Y = After-y-1

abbrev at_y : Y → At
at_y c = (goal.at.After-y-1 c).At-loop-i

here-y : (c : Y) → (at_y c).loop-i.i < length (row (at_y c))
here-y c = c.loop-i-test.true

y-fits : (c : Y) → SFits w32 (get_or (row (at_y c)) (at_y c).loop-i.i (pos 0))
y-fits c = sfits_of c.y-1.given

pub returns-then-y : goal.returns-then-y
returns-then-y c =
    let a = (goal.at.returns-then-y c).After-y-1 in
    let k = (at_y a).loop-i in
    sym (k.invariant.0.same ∙ risen-falls (row (at_y a)) k.i (pos 0) (here-y a) (to_z w32 k.last-bits) (bits_full (get_or (row (at_y a)) k.i (pos 0)) c.if-y.true) (rw (to_z-of_z (y-fits a)) at c.if-y-last.false))

behind-y : (c : Joined-y-last) → let l = at_y (goal.at.Joined-y-last c).After-y-1 in Rises (row l) l.args.start (to_z w32 c.if-y-last.last-bits) (l.loop-i.i + 1)
behind-y c =
    let a = (goal.at.Joined-y-last c).After-y-1 in
    let l = at_y a in
    ⊎_elim
    (λ w. step-on (row l) _ (to_z w32 l.loop-i.last-bits) l.loop-i.i l.loop-i.invariant.0 (here-y a) (y-fits a) w.if-y-last.true (to_z w32 c.if-y-last.last-bits) w.last-is)
    (λ w. step_past (row l) _ (to_z w32 l.loop-i.last-bits) l.loop-i.i l.loop-i.invariant.0 (here-y a) (y-fits a) w.if-y.false (to_z w32 c.if-y-last.last-bits) w.last-is)
    c.if-y-last.branch-raw

-- ---- the second
-- there is one, as their number is even
here-z : (c : Joined-y-last) → let l = at_y (goal.at.Joined-y-last c).After-y-1 in l.loop-i.i + 1 < length (row l)
here-z c = let l = at_y (goal.at.Joined-y-last c).After-y-1 in let h = here-y (goal.at.Joined-y-last c).After-y-1 in omega (arith, h, l.loop-i.invariant.1.1)

pub overflow_add-z : goal.overflow_add-z
overflow_add-z c = let h = here-z c in omega arith

pub offset_bounds-cells-i-in-loop-i : goal.offset_bounds-cells-i-in-loop-i
offset_bounds-cells-i-in-loop-i c = let h = here-z c in omega arith

pub bounds-cells-i-in-loop-i : goal.bounds-cells-i-in-loop-i
bounds-cells-i-in-loop-i c = here-z c

z-fits : (c : After-z-1) → let l = at_y (goal.at.After-z-1 c).After-y-1 in SFits w32 (get_or (row l) (l.loop-i.i + 1) (pos 0))
z-fits c = sfits_of c.z-1.given

pub returns-then-z : goal.returns-then-z
returns-then-z c =
    let a = (goal.at.returns-then-z c).After-z-1 in
    let j = (goal.at.After-z-1 a).Joined-y-last in
    let l = at_y (goal.at.Joined-y-last j).After-y-1 in
    sym ((behind-y j).same ∙ risen-falls (row l) (l.loop-i.i + 1) (pos 0) (here-z j) (to_z w32 j.if-y-last.last-bits) (bits_full (get_or (row l) (l.loop-i.i + 1) (pos 0)) c.if-z.true) (rw (to_z-of_z (z-fits a)) at c.if-z-last.false))

behind-z : (c : Joined-z-last) → let l = at_y (goal.at.Joined-z-last c).After-y-1 in Rises (row l) l.args.start (to_z w32 c.if-z-last.last-bits) (l.loop-i.i + 1 + 1)
behind-z c =
    let a = (goal.at.Joined-z-last c).After-z-1 in
    let j = (goal.at.After-z-1 a).Joined-y-last in
    let l = at_y (goal.at.Joined-y-last j).After-y-1 in
    ⊎_elim
    (λ w. step-on (row l) _ (to_z w32 j.if-y-last.last-bits) (l.loop-i.i + 1) (behind-y j) (here-z j) (z-fits a) w.if-z-last.true (to_z w32 c.if-z-last.last-bits) w.last-is)
    (λ w. step_past (row l) _ (to_z w32 j.if-y-last.last-bits) (l.loop-i.i + 1) (behind-y j) (here-z j) (z-fits a) w.if-z.false (to_z w32 c.if-z-last.last-bits) w.last-is)
    c.if-z-last.branch-raw

pub overflow_add-i-in-loop-i : goal.overflow_add-i-in-loop-i
overflow_add-i-in-loop-i c = let h = here-z (goal.at.overflow_add-i-in-loop-i c).Joined-y-last in omega arith

pub loop-i-smaller : goal.loop-i-smaller
loop-i-smaller c = let h = here-z (goal.at.loop-i-smaller c).Joined-y-last in omega arith

pub loop-i-preserved : goal.loop-i-preserved
loop-i-preserved c =
    let j = (goal.at.loop-i-preserved c).Joined-y-last in
    let l = at_y (goal.at.Joined-y-last j).After-y-1 in
    let e : l.loop-i.i + 1 + 1 ≡ l.loop-i.i + 2 = omega arith in
    let h = here-z j in
    (rw e at (behind-z c), (l.loop-i.invariant.1.0 - 1, omega (arith, h, l.loop-i.invariant.1.1)))

-- ---- the end
pub overflow_cast-result : goal.overflow_cast-result
overflow_cast-result c = widened c.loop-i.invariant.0.fits

pub returns : goal.returns
returns c =
    let k = c.loop-i in
    ap some (to_z-of_z (widened k.invariant.0.fits)) ∙ sym (k.invariant.0.same ∙ risen-end (row (goal.at.returns c).At-loop-i) k.i (to_z w32 k.last-bits) (omega arith))
