-- `parts::parts_of` meets its contract: it is a walk over the granule.
-- Assumes nothing.
use Rattle.std.specs.Prelude as Prelude
use Rattle.std.specs.Prelude.{None}
use borrow.Author.Rules.{rules, sfits_of}
use mathlib.Core.Path.{◌≡◌, refl, sym, ◌∙◌, ap, subst, subst₂}
use mathlib.Core.Logic.{⊎_elim}
use mathlib.Core.Option.{Option}
use mathlib.Core.Bool.{true}
use mathlib.Core.List.{List, [], ◌∷◌, ◌++◌}
use Prim.Native.Nat.{ℕ, ◌+◌, ◌≤◌, ◌<◌, ◌^◌}
use native.Mathlib.Omega.{arith}
use lib.IntN.{ℤ, pos, ◌+ℤ◌, ◌-ℤ◌}
use lib.ListN.{length, set, length-set}
use mir.Facts.{to_z-of_z}
use mir.Syntax.{w64}
use mir.Val.{to_z, of_z, SFits}
use Rattle.integers.specs.Parts.{up}
use Rattle.integers.proofs.Linear.{ints, ◌∴◌}
use Rattle.integers.proofs.Machine.{plain}
use Rattle.calendar.specs.Meaning.{Row, meant}
use Rattle.calendar.specs.Questions.{given}
use Rattle.granules.specs.Valid.{Valid}
use Rattle.cursors.specs.declared.Cursor.{Cursor}
use Rattle.cursors.specs.Found.{Sound, Near, Within}
use Rattle.cursors.specs.Cursor.{cursor_at}
use Rattle.cursors.proofs.Numbers.{numbers, valid}
use Rattle.granule_ends.proofs.Walks.{ahead}
use Rattle.containment.specs.First.{FirstInstant}
use Rattle.containment.specs.Places.{instant}
use Rattle.containment.proofs.Places.{instant-is}
use Rattle.parts.specs.declared.Part.{Part}
use Rattle.parts.specs.declared.Part.TheVariants.{Next, Outside}
use Rattle.parts.specs.Walk.{Nearest, PartAt, EndAt, PartsOf}
use Rattle.parts.proofs.Shown.{Shows, shows_nothing, shows-past, shows_more}
use Rattle.parts.proofs.WalkGaps.{roomy}
use Rattle.parts.proofs.Walk.{Walk, walk_start, walk-less, walk-past, walk-outside, walk_same, walk-next}
use Rattle.parts.proofs.WalkEnds.{walk-broken, walk-ended}
use Rattle.parts.proofs.parts_of.Goals as goal
use Rattle.parts.proofs.parts_of.Goals.{After-cursor_at-g, After-cursor_next-g, After-part_at-part, At-loop-k, In-Next, Start as Start-place}

-- ---- before the loop

-- the numbers and the rows as the machine has them
abbrev Start : Type 0
Start = Start-place

abbrev Z : Start → ℤ
Z s = to_z w64 (of_z w64 s.args.z)

abbrev T : Start → ℤ
T s = to_z w64 (of_z w64 s.args.first)

abbrev h-row : Start → Row
h-row s = given (to_z w64 (of_z w64 s.args.h_period)) (to_z w64 (of_z w64 s.args.h_distance)) s.args.h_cells.now

abbrev g-row : Start → Row
g-row s = given (to_z w64 (of_z w64 s.args.g_period)) (to_z w64 (of_z w64 s.args.g_distance)) s.args.g_cells.now

h-sound : (s : Start) → Sound (to_z w64 (of_z w64 s.args.h_period)) (to_z w64 (of_z w64 s.args.h_distance)) s.args.h_cells.now
h-sound s =
    let p = s.ranges.h_period in
    let n = s.ranges.h_distance in
    simp plain s.requires.sound

g-sound : (s : Start) → Sound (to_z w64 (of_z w64 s.args.g_period)) (to_z w64 (of_z w64 s.args.g_distance)) s.args.g_cells.now
g-sound s =
    let p = s.ranges.g_period in
    let n = s.ranges.g_distance in
    simp plain s.requires.sound_2

abbrev Walking : Start → List ℤ → ℤ → Cursor → Cursor → ℕ → ℤ → ℤ → Type 0
Walking s = Walk (h-row s) (g-row s) (Z s) (T s) (length s.args.parts.now)

h-rules : (s : Start) → Valid (h-row s)
h-rules s = valid (to_z w64 (of_z w64 s.args.h_period)) (to_z w64 (of_z w64 s.args.h_distance)) s.args.h_cells.now (h-sound s)

g-rules : (s : Start) → Valid (g-row s)
g-rules s = valid (to_z w64 (of_z w64 s.args.g_period)) (to_z w64 (of_z w64 s.args.g_distance)) s.args.g_cells.now (g-sound s)

begins : (s : Start) → FirstInstant (h-row s) (Z s) (T s)
begins s =
    let p = s.ranges.h_period in
    let n = s.ranges.h_distance in
    let z = s.ranges.z in
    let t = s.ranges.first in
    simp plain s.requires.first_instant

-- what is found of these is found of those that are handed in
plainly : (s : Start) (p : List ℤ) (x : Prelude.Option ℕ) → PartsOf (h-row s) (g-row s) (Z s) p x
    → PartsOf (given s.args.h_period s.args.h_distance s.args.h_cells.now) (given s.args.g_period s.args.g_distance s.args.g_cells.now) s.args.z p x
plainly s p x y =
    let f = s.ranges.h_period in
    let d = s.ranges.h_distance in
    let q = s.ranges.g_period in
    let m = s.ranges.g_distance in
    let z = s.ranges.z in
    simp plain at y

-- the instant before the first
abbrev zeroth : Start → ℤ
zeroth s = to_z w64 (of_z w64 (T s -ℤ pos 1))

zeroth-is : (s : Start) → zeroth s ≡ T s -ℤ pos 1
zeroth-is s =
    let l = (begins s).near in
    let f : SFits w64 (T s -ℤ pos 1) = l.0 ∴ l.1 ∴ simp ints (omega arith) in
    to_z-of_z {w = w64} f

near-zeroth : (s : Start) → Within (2 ^ 59) (zeroth s)
near-zeroth s = let l = (begins s).near in l.0 ∴ l.1 ∴ zeroth-is s ∴ simp ints (omega arith)

wide : (u : ℤ) → Within (2 ^ 59) u → Near u
wide u n = n.0 ∴ n.1 ∴ simp ints (omega arith)

pub nearest_label-outside-requires-clause-roomy : goal.nearest_label-outside-requires-clause-roomy
nearest_label-outside-requires-clause-roomy c =
    let s = (goal.at.nearest_label-outside-requires-clause-roomy c).Start in
    roomy (g-row s) (g-rules s) c.cursor_at-g.result (zeroth s) c.cursor_at-g.ensures (near-zeroth s)

pub loop-k-init : goal.loop-k-init
loop-k-init c =
    let s = (goal.at.loop-k-init c).Start in
    let a = c.cursor_at-h in
    let d = c.cursor_at-g in
    let e = sym (instant-is (h-row s) (h-rules s) a.result (zeroth s) a.ensures) in
    let f : SFits w64 c.nearest_label-outside.result = sfits_of c.nearest_label-outside.type_inv in
    let i = instant-is (g-row s) (g-rules s) d.result (zeroth s) d.ensures in
    walk_start (h-rules s) (g-rules s) (begins s) refl (shows_nothing _ s.requires.parts_value) (a.ensures ∙ ap (cursor_at (h-row s)) e) (d.ensures ∙ ap (cursor_at (g-row s)) e) (sym e ∙ zeroth-is s)
    (subst₂ (Nearest true (g-row s)) (i ∙ e) (sym (to_z-of_z {w = w64} f)) c.nearest_label-outside.ensures)

-- ---- a turn of the loop: the next instant, and what it says of the parts

-- where the walk is
abbrev begun : At-loop-k → Start
begun c = (goal.at.At-loop-k c).Start

abbrev here : At-loop-k → ℤ
here c = instant (h-row (begun c)) c.loop-k.h

near : (c : At-loop-k) → Near (here c) × Within (2 ^ 59) (here c +ℤ pos 1)
near c =
    let s = begun c in
    let l = (begins s).near in
    let n = numbers (to_z w64 (of_z w64 s.args.h_period)) (to_z w64 (of_z w64 s.args.h_distance)) s.args.h_cells.now (h-sound s) in
    l.0 ∴ l.1 ∴ n.high ∴ c.loop-k.invariant.low ∴ c.loop-k.invariant.high ∴ simp ints (omega arith)

pub cursor_next-h-requires-clause-standing : goal.cursor_next-h-requires-clause-standing
cursor_next-h-requires-clause-standing c =
    let l = (goal.at.cursor_next-h-requires-clause-standing c).At-loop-k in
    (here l, (near l).0, c.loop-k.invariant.h-cursor)

pub cursor_next-g-requires-clause-standing : goal.cursor_next-g-requires-clause-standing
cursor_next-g-requires-clause-standing c =
    let l = (goal.at.cursor_next-g-requires-clause-standing c).At-loop-k in
    (here l, (near l).0, c.loop-k.invariant.g-cursor)

-- the next instant, with its cursors and its labels
abbrev place : After-cursor_next-g → At-loop-k
place c = (goal.at.After-cursor_next-g c).At-loop-k

abbrev next : After-cursor_next-g → ℤ
next c = instant (h-row (begun (place c))) c.cursor_next-h.result

stepped : (c : After-cursor_next-g) → c.cursor_next-h.result ≡ cursor_at (h-row (begun (place c))) (here (place c) +ℤ pos 1)
stepped c = c.cursor_next-h.ensures (here (place c)) c.loop-k.invariant.h-cursor

next-is : (c : After-cursor_next-g) → next c ≡ here (place c) +ℤ pos 1
next-is c = let s = begun (place c) in instant-is (h-row s) (h-rules s) c.cursor_next-h.result (here (place c) +ℤ pos 1) (stepped c)

near_next : (c : After-cursor_next-g) → Within (2 ^ 59) (next c)
near_next c = subst (Within (2 ^ 59)) (sym (next-is c)) (near (place c)).1

h-next : (c : After-cursor_next-g) → c.cursor_next-h.result ≡ cursor_at (h-row (begun (place c))) (next c)
h-next c = stepped c ∙ ap (cursor_at (h-row (begun (place c)))) (sym (next-is c))

g-next : (c : After-cursor_next-g) → c.cursor_next-g.result ≡ cursor_at (g-row (begun (place c))) (next c)
g-next c = c.cursor_next-g.ensures (here (place c)) c.loop-k.invariant.g-cursor ∙ ap (cursor_at (g-row (begun (place c)))) (sym (next-is c))

pub cursor_label-own-requires-clause-standing : goal.cursor_label-own-requires-clause-standing
cursor_label-own-requires-clause-standing c =
    let n = (goal.at.cursor_label-own-requires-clause-standing c).After-cursor_next-g in
    (next n, wide (next n) (near_next n), h-next n)

pub cursor_label-label-requires-clause-standing : goal.cursor_label-label-requires-clause-standing
cursor_label-label-requires-clause-standing c =
    let n = (goal.at.cursor_label-label-requires-clause-standing c).After-cursor_next-g in
    (next n, wide (next n) (near_next n), g-next n)

-- what the next instant says of the parts
abbrev at_next : After-part_at-part → After-cursor_next-g
at_next c = (goal.at.After-part_at-part c).After-cursor_next-g

abbrev start : After-part_at-part → Start
start c = begun (place (at_next c))

abbrev Says : After-part_at-part → Part → Type 0
Says c x =
    let n = at_next c in
    PartAt (Z (start c)) (meant (h-row (start c)) (next n)) (meant (g-row (start c)) (next n)) (to_z w64 c.loop-k.outside-bits) (to_z w64 c.loop-k.latest-bits) x

says : (c : After-part_at-part) → Says c c.part_at-part.result
says c =
    let n = at_next c in
    subst₂ (λ (x y : Option ℤ). PartAt (Z (start c)) x y (to_z w64 c.loop-k.outside-bits) (to_z w64 c.loop-k.latest-bits) c.part_at-part.result)
    (c.cursor_label-own.ensures (next n) (h-next n)) (c.cursor_label-label.ensures (next n) (g-next n)) c.part_at-part.ensures

less : (c : After-part_at-part) → let P = up (to_z w64 (of_z w64 (start c).args.h_period)) in ahead P (T (start c)) (next (at_next c)) < ahead P (T (start c)) (here (place (at_next c)))
less c =
    let n = at_next c in
    let s = start c in
    walk-less (h-rules s) (g-rules s) (begins s) c.loop-k.invariant (h-next n) (g-next n) (next-is n)

-- ---- the next part

abbrev at_part : In-Next → After-part_at-part
at_part c = (goal.at.In-Next c).After-part_at-part

-- its label
abbrev part : In-Next → ℤ
part c = to_z w64 (of_z w64 c.in-Next.k)

part-fits : (c : In-Next) → SFits w64 c.in-Next.k
part-fits c = search rules

part_says : (c : In-Next) → Says (at_part c) (Next (part c))
part_says c = subst (Says (at_part c)) (c.in-Next.is ∙ ap Next (sym (to_z-of_z (part-fits c)))) (says (at_part c))

-- the walk with one part more, in a list that shows it
one_more : (c : In-Next) (p : List ℤ)
    → let a = at_part c in
    length p ≡ length (start a).args.parts.now
    → Shows p (c.loop-k.invariant.seen ++ (part c ∷ []))
    → Walking (start a) p (next (at_next a)) c.cursor_next-h.result c.cursor_next-g.result (c.loop-k.count + 1) (to_z w64 c.loop-k.outside-bits) (part c)
one_more c p e x =
    let a = at_part c in
    let n = at_next a in
    let s = start a in
    let y = part_says c in
    walk-next (h-rules s) (g-rules s) (begins s) c.loop-k.invariant (h-next n) (g-next n) (next-is n) (part c) y.0 y.1.0 y.1.1.0 y.1.1.1 p e x

pub loop-k-smaller-then-i-parts : goal.loop-k-smaller-then-i-parts
loop-k-smaller-then-i-parts c = less (goal.at.loop-k-smaller-then-i-parts c).After-part_at-part

pub loop-k-preserved-then-i-parts : goal.loop-k-preserved-then-i-parts
loop-k-preserved-then-i-parts c =
    let k = (goal.at.loop-k-preserved-then-i-parts c).In-Next in
    let l = c.loop-k in
    let b = l.invariant in
    one_more k (set l.parts l.count (part k)) (simp length-set b.whole) (shows_more l.parts b.seen (part k) l.count b.count-is c.if-i-parts.true b.shows)

pub loop-k-smaller-else-i-parts : goal.loop-k-smaller-else-i-parts
loop-k-smaller-else-i-parts c = less (goal.at.loop-k-smaller-else-i-parts c).After-part_at-part

pub loop-k-preserved-else-i-parts : goal.loop-k-preserved-else-i-parts
loop-k-preserved-else-i-parts c =
    let k = (goal.at.loop-k-preserved-else-i-parts c).In-Next in
    let l = c.loop-k in
    let b = l.invariant in
    let full : length l.parts ≤ length b.seen = omega (arith, b.count-is, c.if-i-parts.false) in
    one_more k l.parts b.whole (shows-past l.parts b.seen (part k) full b.shows)

-- ---- no part begins

pub loop-k-smaller-in-Nothing : goal.loop-k-smaller-in-Nothing
loop-k-smaller-in-Nothing c = less (goal.at.loop-k-smaller-in-Nothing c).After-part_at-part

pub loop-k-preserved-in-Nothing : goal.loop-k-preserved-in-Nothing
loop-k-preserved-in-Nothing c =
    let a = (goal.at.loop-k-preserved-in-Nothing c).After-part_at-part in
    let n = at_next a in
    let b = c.loop-k.invariant in
    let s = start a in
    ⊎_elim
    (λ y. walk-past (h-rules s) (g-rules s) (begins s) b (h-next n) (g-next n) (next-is n) y.0 y.1)
    (λ y. walk_same (h-rules s) (g-rules s) (begins s) b (h-next n) (g-next n) (next-is n) y.0 y.1.0 y.1.1)
    (subst (Says a) c.in-Nothing.is (says a))

pub loop-k-smaller : goal.loop-k-smaller
loop-k-smaller c = less (goal.at.loop-k-smaller c).After-part_at-part

pub loop-k-preserved : goal.loop-k-preserved
loop-k-preserved c =
    let a = (goal.at.loop-k-preserved c).After-part_at-part in
    let n = at_next a in
    let s = start a in
    let f : SFits w64 c.in-Outside.k = search rules in
    let y = subst (Says a) (c.in-Outside.is ∙ ap Outside (sym (to_z-of_z f))) (says a) in
    walk-outside (h-rules s) (g-rules s) (begins s) c.loop-k.invariant (h-next n) (g-next n) (next-is n) _ y.0 y.1.0 y.1.1

-- ---- the granule is over

pub ended-requires-clause-roomy : goal.ended-requires-clause-roomy
ended-requires-clause-roomy c =
    let n = (goal.at.ended-requires-clause-roomy c).After-cursor_next-g in
    let s = begun (place n) in
    roomy (g-row s) (g-rules s) c.cursor_next-g.result (next n) (g-next n) (near_next n)

pub returns-in-End : goal.returns-in-End
returns-in-End c =
    let a = (goal.at.returns-in-End c).After-part_at-part in
    let n = at_next a in
    let l = c.loop-k in
    let s = start a in
    let y = subst (Says a) c.in-End.is (says a) in
    let e = subst (λ (u : ℤ). EndAt (g-row s) u l.count (to_z w64 l.latest-bits) c.ended.result) (instant-is (g-row s) (g-rules s) c.cursor_next-g.result (next n) (g-next n)) c.ended.ensures in
    plainly s l.parts c.ended.result (walk-ended (h-rules s) (g-rules s) (begins s) l.invariant (h-next n) (g-next n) (next-is n) y.0 y.1 y.2 c.ended.result e)

-- ---- the parts do not make it up

pub returns-in-Broken : goal.returns-in-Broken
returns-in-Broken c =
    let a = (goal.at.returns-in-Broken c).After-part_at-part in
    let n = at_next a in
    let l = c.loop-k in
    let s = start a in
    plainly s l.parts None
    (walk-broken (h-rules s) (g-rules s) (begins s) l.invariant (h-next n) (g-next n) (next-is n) (subst (Says a) c.in-Broken.is (says a)))
