-- `alignment::pass` meets its contract: it is a pass over the two rows.
-- Assumes nothing.
use borrow.Author.Rules.{sfits_of}
use mathlib.Core.Path.{◌≡◌, sym, ◌∙◌, ap, ap₂, subst}
use mathlib.Core.Logic.{inl, ⊎_elim}
use mathlib.Core.Option.{Option}
use mathlib.Core.Bool.{Bool, true, ◌||◌}
use native.Mathlib.Omega.{arith}
use lib.IntN.{ℤ, pos, ◌+ℤ◌}
use lib.Signed.{◌≤ℤ◌, ◌<ℤ◌}
use mir.Facts.{of_z-to_z, to_z-of_z}
use mir.Syntax.{w64}
use mir.Val.{SFits, to_z, of_z}
use Rattle.integers.proofs.Linear.{ints, ◌∴◌}
use Rattle.integers.proofs.Machine.{plain}
use Rattle.integers.proofs.Order.{le-or-lt}
use Rattle.calendar.specs.Limits.{pool_limit}
use Rattle.calendar.specs.Lists.{is_some}
use Rattle.calendar.specs.Meaning.{Row, meant}
use Rattle.calendar.specs.Operation as Operation
use Rattle.calendar.specs.Questions.{given}
use Rattle.calendar.specs.Size.{turn, span_of}
use Rattle.granules.specs.Valid.{Valid}
use Rattle.cursors.specs.Cursor.{cursor_at}
use Rattle.cursors.specs.Found.{Sound, Near, found}
use Rattle.cursors.proofs.Numbers.{numbers, valid}
use Rattle.alignment.specs.Codes.{code_of, coded_label}
use Rattle.alignment.specs.Fits.{alignment_of, fits}
use Rattle.alignment.specs.Pass.{Starts, Spanned, RiseAlike}
use Rattle.alignment.proofs.Choices.{outcome}
use Rattle.alignment.proofs.Codes.{read_back}
use Rattle.alignment.proofs.Looks.{look-first, look-over, look-to, look-fails, look-next}
use Rattle.alignment.proofs.Passes.{Passed, labelled-of, unlabelled-of, pass-end}
use Rattle.alignment.proofs.Read.{aligned-read}
use Rattle.alignment.proofs.Starts.{left_less}
use Rattle.alignment.proofs.pass.Goals as goal
use Rattle.alignment.proofs.pass.Goals.{After-cursor_label-y, After-labelled_instant-t, At-loop-k, Else-t-end, Joined-either, else-either, then-either+else-not-fits, Start as Start-place}

-- ---- before the loop

-- the rows and the span as the machine has them
abbrev Start : Type 0
Start = Start-place

abbrev a-row : Start → Row
a-row s = given (to_z w64 (of_z w64 s.args.a_period)) (to_z w64 (of_z w64 s.args.a_distance)) s.args.a_cells.now

abbrev b-row : Start → Row
b-row s = given (to_z w64 (of_z w64 s.args.b_period)) (to_z w64 (of_z w64 s.args.b_distance)) s.args.b_cells.now

abbrev S : Start → ℤ
S s = to_z w64 (of_z w64 s.args.span)

abbrev kind : Start → Operation.Alignment
kind s = alignment_of s.args.k

a-sound : (s : Start) → Sound (to_z w64 (of_z w64 s.args.a_period)) (to_z w64 (of_z w64 s.args.a_distance)) s.args.a_cells.now
a-sound s =
    let p = s.ranges.a_period in
    let n = s.ranges.a_distance in
    simp plain s.requires.sound

b-sound : (s : Start) → Sound (to_z w64 (of_z w64 s.args.b_period)) (to_z w64 (of_z w64 s.args.b_distance)) s.args.b_cells.now
b-sound s =
    let p = s.ranges.b_period in
    let n = s.ranges.b_distance in
    simp plain s.requires.sound_2

spanned : (s : Start) → Spanned (a-row s) (b-row s) (S s)
spanned s =
    let p = s.ranges.a_period in
    let n = s.ranges.a_distance in
    let q = s.ranges.b_period in
    let m = s.ranges.b_distance in
    let t = s.ranges.span in
    simp plain s.requires.spanned

alike : (s : Start) → RiseAlike (kind s) (a-row s) (b-row s)
alike s =
    let p = s.ranges.a_period in
    let n = s.ranges.a_distance in
    let q = s.ranges.b_period in
    let m = s.ranges.b_distance in
    simp plain s.requires.rise_alike

a-rules : (s : Start) → Valid (a-row s)
a-rules s = valid (to_z w64 (of_z w64 s.args.a_period)) (to_z w64 (of_z w64 s.args.a_distance)) s.args.a_cells.now (a-sound s)

b-rules : (s : Start) → Valid (b-row s)
b-rules s = valid (to_z w64 (of_z w64 s.args.b_period)) (to_z w64 (of_z w64 s.args.b_distance)) s.args.b_cells.now (b-sound s)

-- where the pass starts
abbrev Begun : Type 0
Begun = After-labelled_instant-t

abbrev first : Begun → Start
first l = (goal.at.After-labelled_instant-t l).Start

abbrev from : Begun → ℤ
from l = to_z w64 (of_z w64 l.labelled_instant-t.result)

starts : (l : Begun) → Starts (a-row (first l)) (from l)
starts l = subst (Starts (a-row (first l))) (sym (to_z-of_z {w = w64} (sfits_of l.labelled_instant-t.type_inv))) l.labelled_instant-t.ensures

-- it is in the first turn, and so is within the period
below : (l : Begun) → (pos 0 ≤ℤ from l) × (from l ≤ℤ pos pool_limit)
below l =
    let s = first l in
    let n = numbers (to_z w64 (of_z w64 s.args.a_period)) (to_z w64 (of_z w64 s.args.a_distance)) s.args.a_cells.now (a-sound s) in
    n.high ∴ (starts l).low ∴ (starts l).high ∴ simp ints (omega arith)

pub overflow_add-end : goal.overflow_add-end
overflow_add-end l =
    let s = spanned (first l) in
    below l ∴ s.is-span ∴ s.at-most ∴ simp ints (omega arith)

near-start : (l : Begun) → Near (from l)
near-start l = below l ∴ simp ints (omega arith)

pub cursor_at-a-requires-clause-near : goal.cursor_at-a-requires-clause-near
cursor_at-a-requires-clause-near l = near-start l

pub cursor_at-b-requires-clause-near : goal.cursor_at-b-requires-clause-near
cursor_at-b-requires-clause-near c = near-start (goal.at.cursor_at-b-requires-clause-near c).After-labelled_instant-t

pub cursor_label-requires-clause-standing : goal.cursor_label-requires-clause-standing
cursor_label-requires-clause-standing c =
    let l = (goal.at.cursor_label-requires-clause-standing c).After-labelled_instant-t in
    (from l, near-start l, c.cursor_at-a.ensures)

pub cursor_label-requires-2-clause-standing : goal.cursor_label-requires-2-clause-standing
cursor_label-requires-2-clause-standing c =
    let l = (goal.at.cursor_label-requires-2-clause-standing c).After-labelled_instant-t in
    (from l, near-start l, c.cursor_at-b.ensures)

-- the label of an instant as a number
a_read : (s : Start) (t : ℤ) → Near t → (o : Option ℤ) → o ≡ meant (a-row s) t → (z : ℤ) → SFits w64 z → z ≡ code_of o → coded_label (to_z w64 (of_z w64 z)) ≡ o
a_read s = read_back (to_z w64 (of_z w64 s.args.a_period)) (to_z w64 (of_z w64 s.args.a_distance)) s.args.a_cells.now (a-sound s)

b-read : (s : Start) (t : ℤ) → Near t → (o : Option ℤ) → o ≡ meant (b-row s) t → (z : ℤ) → SFits w64 z → z ≡ code_of o → coded_label (to_z w64 (of_z w64 z)) ≡ o
b-read s = read_back (to_z w64 (of_z w64 s.args.b_period)) (to_z w64 (of_z w64 s.args.b_distance)) s.args.b_cells.now (b-sound s)

pub loop-k-init : goal.loop-k-init
loop-k-init c =
    let l = (goal.at.loop-k-init c).After-labelled_instant-t in
    let s = first l in
    let x : found c.cursor_label.result ≡ meant (a-row s) (from l) = c.cursor_label.ensures (from l) c.cursor_at-a.ensures in
    let y : found c.cursor_label-2.result ≡ meant (b-row s) (from l) = c.cursor_label-2.ensures (from l) c.cursor_at-b.ensures in
    look-first (kind s) (a-row s) (b-row s) (from l) _ _ _ _ c.cursor_at-a.ensures c.cursor_at-b.ensures (inl (starts l).labelled)
    (a_read s (from l) (near-start l) _ x _ (sfits_of c.coded-o.type_inv) c.coded-o.ensures ∙ x)
    (b-read s (from l) (near-start l) _ y _ (sfits_of c.coded-p.type_inv) c.coded-p.ensures ∙ y)

-- ---- the look at an instant
abbrev At : Type 0
At = At-loop-k

abbrev begun : At → Begun
begun c = (goal.at.At-loop-k c).After-labelled_instant-t

abbrev start : At → Start
start c = (goal.at.At-loop-k c).Start

abbrev at : At → ℤ
at c = to_z w64 c.loop-k.t-bits

-- the end, as the machine has it
end_is : (c : At) → to_z w64 (of_z w64 (from (begun c) +ℤ S (start c))) ≡ from (begun c) +ℤ pos (span_of (turn (a-row (start c))) (turn (b-row (start c))))
end_is c = to_z-of_z (overflow_add-end (begun c)) ∙ ap (λ (z : ℤ). from (begun c) +ℤ z) (spanned (start c)).is-span

near : (c : At) → Near (at c) × Near (at c +ℤ pos 1)
near c =
    let s = spanned (start c) in
    below (begun c) ∴ s.is-span ∴ s.at-most ∴ c.loop-k.invariant.low ∴ c.loop-k.invariant.high ∴ simp ints (omega arith)

pub cursor_label-x-requires-clause-standing : goal.cursor_label-x-requires-clause-standing
cursor_label-x-requires-clause-standing c = (at c, (near c).0, c.loop-k.invariant.a-cursor)

pub cursor_label-y-requires-clause-standing : goal.cursor_label-y-requires-clause-standing
cursor_label-y-requires-clause-standing c =
    let l = (goal.at.cursor_label-y-requires-clause-standing c).At-loop-k in
    (at l, (near l).0, l.loop-k.invariant.b-cursor)

-- its labels
abbrev Seen : Type 0
Seen = After-cursor_label-y

abbrev loop : Seen → At
loop c = (goal.at.After-cursor_label-y c).At-loop-k

abbrev a-found : Seen → Option ℤ
a-found c = found c.cursor_label-x.result

abbrev b-found : Seen → Option ℤ
b-found c = found c.cursor_label-y.result

a-label : (c : Seen) → a-found c ≡ meant (a-row (start (loop c))) (at (loop c))
a-label c = c.cursor_label-x.ensures (at (loop c)) c.loop-k.invariant.a-cursor

b-label : (c : Seen) → b-found c ≡ meant (b-row (start (loop c))) (at (loop c))
b-label c = c.cursor_label-y.ensures (at (loop c)) c.loop-k.invariant.b-cursor

-- whether they fit those before
abbrev asked : Seen → Bool
asked c = fits (kind (start (loop c))) (coded_label (to_z w64 c.loop-k.o-bits)) (coded_label (to_z w64 c.loop-k.p-bits)) (a-found c) (b-found c)

fits-is : (c : Seen) (o p : Option ℤ) → o ≡ coded_label (to_z w64 c.loop-k.o-bits) → p ≡ coded_label (to_z w64 c.loop-k.p-bits)
    → fits (kind (start (loop c))) o p (a-found c) (b-found c) ≡ asked c
fits-is c o p e f = ap₂ (λ (o p : Option ℤ). fits (kind (start (loop c))) o p (a-found c) (b-found c)) e f

pub returns-then-not-fits : goal.returns-then-not-fits
returns-then-not-fits c =
    let d = (goal.at.returns-then-not-fits c).After-cursor_label-y in
    let l = loop d in
    let s = start l in
    let e =
    look-fails (kind s) (a-row s) (b-row s) (from (begun l)) (a-rules s) (b-rules s) (at l) _ _ _ _ l.loop-k.invariant _ _ (a-label d) (b-label d) (alike s)
    (outcome (c.fits.ensures ∙ fits-is d _ _ c.decoded.ensures c.decoded-then-either.ensures) c.if-not-fits.true) in
    sym (sym (aligned-read (kind s) s.args.a_period s.args.a_distance s.args.b_period s.args.b_distance s.args.a_cells.now s.args.b_cells.now s.ranges.a_period s.ranges.a_distance s.ranges.b_period s.ranges.b_distance) ∙ e)

-- it is passed
abbrev Passes : At → ℤ → ℤ → Type 0
Passes l o p = Passed (kind (start l)) (a-row (start l)) (b-row (start l)) (from (begun l)) (at l) l.loop-k.a l.loop-k.b (coded_label o) (coded_label p)

with-labels : (d : Seen) → (is_some (a-found d) || is_some (b-found d)) ≡ true → asked d ≡ true
    → (o p : ℤ) → SFits w64 o → o ≡ code_of (a-found d) → SFits w64 p → p ≡ code_of (b-found d)
    → Passes (loop d) (to_z w64 (of_z w64 o)) (to_z w64 (of_z w64 p))
with-labels d some h o p f e g i =
    let l = loop d in
    let s = start l in
    rw (a_read s (at l) (near l).0 _ (a-label d) o f e, b-read s (at l) (near l).0 _ (b-label d) p g i)
    (look-to (kind s) (a-row s) (b-row s) (from (begun l)) (a-rules s) (b-rules s) (at l) _ _ _ _ l.loop-k.invariant _ _ (a-label d) (b-label d)
    (labelled-of (a-row s) (b-row s) (at l) _ _ (a-label d) (b-label d) some)
    h)

passed : (c : Joined-either) → Passes (loop (goal.at.Joined-either c).After-cursor_label-y) (to_z w64 c.if-either.o-bits) (to_z w64 c.if-either.p-bits)
passed c =
    let d = (goal.at.Joined-either c).After-cursor_label-y in
    let l = loop d in
    let s = start l in
    elim c.if-either.branch [
      | then-either+else-not-fits w ↦ rw (w.o-is, w.p-is) (with-labels d (outcome c.either.ensures w.if-either.true) (outcome (w.fits.ensures ∙ fits-is d _ _ w.decoded.ensures w.decoded-then-either.ensures) w.if-not-fits.false) _ _ (sfits_of w.coded-o-then-either.type_inv) w.coded-o-then-either.ensures (sfits_of w.coded-p-then-either.type_inv) w.coded-p-then-either.ensures)
      | else-either w ↦ rw (w.o-is, w.p-is) (look-over (kind s) (a-row s) (b-row s) (from (begun l)) (a-rules s) (b-rules s) (at l) _ _ _ _ l.loop-k.invariant (unlabelled-of (a-row s) (b-row s) (at l) _ _ (a-label d) (b-label d) (outcome c.either.ensures w.if-either.false)))
    ]

-- ---- the end, or the next instant

pub returns-then-t-end : goal.returns-then-t-end
returns-then-t-end c =
    let j = (goal.at.returns-then-t-end c).Joined-either in
    let l = loop (goal.at.Joined-either j).After-cursor_label-y in
    let s = start l in
    let x : at l ≡ _ = ap (to_z w64) c.if-t-end.true ∙ end_is l in
    let e = pass-end (kind s) (a-row s) (b-row s) (a-rules s) (b-rules s) (alike s) (from (begun l)) (at l) _ _ _ _ (passed j) (x ∴ simp ints (omega arith)) in
    sym (sym (aligned-read (kind s) s.args.a_period s.args.a_distance s.args.b_period s.args.b_distance s.args.a_cells.now s.args.b_cells.now s.ranges.a_period s.ranges.a_distance s.ranges.b_period s.ranges.b_distance) ∙ e)

abbrev On : Type 0
On = Else-t-end

abbrev looked : On → At
looked c = (goal.at.Else-t-end c).At-loop-k

pub overflow_add-t : goal.overflow_add-t
overflow_add-t c = (near (looked c)).1 ∴ simp ints (omega arith)

-- the next instant, as the machine has it
abbrev next : On → ℤ
next c = to_z w64 (of_z w64 (at (looked c) +ℤ pos 1))

step : (c : On) → next c ≡ at (looked c) +ℤ pos 1
step c = to_z-of_z (overflow_add-t c)

inner : (c : On) → let l = looked c in at l <ℤ (from (begun l) +ℤ S (start l))
inner c =
    let l = looked c in
    ⊎_elim
    (λ h.
    let e : at l ≡ from (begun l) +ℤ S (start l) = h ∴ l.loop-k.invariant.high ∴ (spanned (start l)).is-span ∴ simp ints (omega arith) in
    absurd (c.if-t-end.false (sym (of_z-to_z l.loop-k.auto.t-fits) ∙ ap (of_z w64) e)))
    (λ h. h)
    (le-or-lt (from (begun l) +ℤ S (start l)) (at l))

pub cursor_next-a-requires-clause-standing : goal.cursor_next-a-requires-clause-standing
cursor_next-a-requires-clause-standing c = let l = looked c in (at l, (near l).0, l.loop-k.invariant.a-cursor)

pub cursor_next-b-requires-clause-standing : goal.cursor_next-b-requires-clause-standing
cursor_next-b-requires-clause-standing c =
    let l = (goal.at.cursor_next-b-requires-clause-standing c).At-loop-k in
    (at l, (near l).0, l.loop-k.invariant.b-cursor)

pub loop-k-smaller : goal.loop-k-smaller
loop-k-smaller c =
    let i = (goal.at.loop-k-smaller c).Else-t-end in
    let l = looked i in
    left_less (from (begun l) +ℤ S (start l)) (at l) (next i) (step i ∴ simp ints (omega arith)) (inner i)

pub loop-k-preserved : goal.loop-k-preserved
loop-k-preserved c =
    let i = (goal.at.loop-k-preserved c).Else-t-end in
    let l = looked i in
    let s = start l in
    look-next (kind s) (a-row s) (b-row s) (from (begun l)) (at l) (next i) _ _ _ _ _ _ (passed (goal.at.Else-t-end i).Joined-either) (step i) (inner i ∴ (spanned s).is-span ∴ simp ints (omega arith))
    (c.cursor_next-a.ensures (at l) l.loop-k.invariant.a-cursor ∙ ap (cursor_at (a-row s)) (sym (step i)))
    (c.cursor_next-b.ensures (at l) l.loop-k.invariant.b-cursor ∙ ap (cursor_at (b-row s)) (sym (step i)))
