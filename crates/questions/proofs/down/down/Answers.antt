-- `questions::down::down` meets its contract: 13 twice, 14, 15, and then what the walk over the granule finds.
-- Assumes nothing.
use borrow.Author.Tests.{not-false}
use borrow.Author.Rules.{rules, sfits_of}
use mathlib.Core.Path.{◌≡◌, sym, ◌∙◌, ap, subst}
use mathlib.Core.Bool.{true}
use mathlib.Core.Option.{some}
use Prim.Native.Nat.{ℕ, ◌≤◌, ◌<◌, ◌^◌}
use native.Mathlib.Omega.{arith}
use lib.IntN.{ℤ, pos}
use lib.ListN.{length, replicate}
use mir.Syntax.{w64}
use mir.Val.{SFits}
use Rattle.integers.proofs.Linear.{ints, ◌∴◌}
use Rattle.integers.proofs.Machine.{plain}
use Rattle.calendar.specs.Meaning.{Row, meant}
use Rattle.calendar.specs.Lists.{first, is_some}
use Rattle.calendar.specs.Granules.{instant_of, has, granule, within}
use Rattle.calendar.specs.Sound.{sound}
use Rattle.calendar.specs.Limits.{in_range}
use Rattle.calendar.specs.Questions.{given}
use Rattle.granules.specs.Valid.{Valid}
use Rattle.granules.proofs.Tests.{not_iff}
use Rattle.granules.proofs.Calendars.{granule-near}
use Rattle.granules.proofs.Rows.{meant-repeats}
use Rattle.granules.proofs.Instants.{instant_of-labelled}
use Rattle.granules.proofs.Questions.{first-labelled, first-at-most}
use Rattle.cursors.specs.Found.{found, Within}
use Rattle.cursors.proofs.Bounds.{in-range}
use Rattle.cursors.proofs.Numbers.{numbers, valid}
use Rattle.containment.specs.First.{FirstInstant}
use Rattle.std.specs.Prelude.{Some}
use Rattle.parts.specs.Walk.{PartsOf}
use Rattle.questions.proofs.Checks.{Checked, down-row, down-other, down-argument, down-label, down-incomplete, down-short, down-answer, refused-parts, answered-parts}
use Rattle.questions.proofs.down.down.Goals as goal
use Rattle.questions.proofs.down.down.Goals.{Start, After-clear, After-sound, Else-not-sound, After-sound-2, Else-not-sound-2, After-in_range, Else-not-in_range, After-instant_of-instant, In-Some, After-first_instant-first, After-parts_of-walked, In-Some-walked}

abbrev h-row : Start → Row
h-row s = given s.args.h_period s.args.h_distance s.args.h_cells.now

abbrev g-row : Start → Row
g-row s = given s.args.g_period s.args.g_distance s.args.g_cells.now

abbrev room : Start → ℕ
room s = length s.args.parts.now

-- the list, cleared
cleared : (c : After-clear) → c.clear.new.parts ≡ replicate (room (goal.at.After-clear c).Start) (pos 0)
cleared c = c.clear.ensures

-- ---- 13 of h

h-tested : (c : After-sound) → c.sound.result ≡ sound (h-row (goal.at.After-sound c).Start)
h-tested c =
    let s = (goal.at.After-sound c).Start in
    let p = s.ranges.h_period in
    let n = s.ranges.h_distance in
    simp plain at c.sound.ensures

pub returns-then-not-sound : goal.returns-then-not-sound
returns-then-not-sound c =
    let k = goal.at.returns-then-not-sound c in
    let s = k.Start in
    let r = refused-parts (room s) 13 _ _ (down-row (h-row s) (g-row s) s.args.z (room s) (sym (h-tested k.After-sound) ∙ (not_iff _).0 c.if-not-sound.true-raw)) (cleared k.After-clear) in
    record { answer = r.0; list = r.1 }

h-sound : (c : Else-not-sound) → sound (h-row (goal.at.Else-not-sound c).Start) ≡ true
h-sound c = sym (h-tested (goal.at.Else-not-sound c).After-sound) ∙ not-false _ c.if-not-sound.false-raw

-- ---- 13 of g

g-tested : (c : After-sound-2) → c.sound-2.result ≡ sound (g-row (goal.at.After-sound-2 c).Start)
g-tested c =
    let s = (goal.at.After-sound-2 c).Start in
    let p = s.ranges.g_period in
    let n = s.ranges.g_distance in
    simp plain at c.sound-2.ensures

pub returns-then-not-sound-2 : goal.returns-then-not-sound-2
returns-then-not-sound-2 c =
    let k = goal.at.returns-then-not-sound-2 c in
    let s = k.Start in
    let r = refused-parts (room s) 13 _ _ (down-other (h-row s) (g-row s) s.args.z (room s) (h-sound k.Else-not-sound) (sym (g-tested k.After-sound-2) ∙ (not_iff _).0 c.if-not-sound-2.true-raw)) (cleared k.After-clear) in
    record { answer = r.0; list = r.1 }

g-sound : (c : Else-not-sound-2) → sound (g-row (goal.at.Else-not-sound-2 c).Start) ≡ true
g-sound c = sym (g-tested (goal.at.Else-not-sound-2 c).After-sound-2) ∙ not-false _ c.if-not-sound-2.false-raw

-- ---- 14

ranged : (c : After-in_range) → c.in_range.result ≡ in_range c.args.z
ranged c = let z = c.ranges.z in simp plain at c.in_range.ensures

pub returns-then-not-in_range : goal.returns-then-not-in_range
returns-then-not-in_range c =
    let k = goal.at.returns-then-not-in_range c in
    let s = k.Start in
    let r = refused-parts (room s) 14 _ _ (down-argument (h-row s) (g-row s) s.args.z (room s) (h-sound k.Else-not-sound) (g-sound k.Else-not-sound-2) (sym (ranged k.After-in_range) ∙ (not_iff _).0 c.if-not-in_range.true-raw)) (cleared k.After-clear) in
    record { answer = r.0; list = r.1 }

abbrev begun : Else-not-in_range → Start
begun c = (goal.at.Else-not-in_range c).Start

is-ranged : (c : Else-not-in_range) → in_range (begun c).args.z ≡ true
is-ranged c = sym (ranged (goal.at.Else-not-in_range c).After-in_range) ∙ not-false _ c.if-not-in_range.false-raw

h-is : (c : Else-not-in_range) → sound (h-row (begun c)) ≡ true
h-is c = h-sound (goal.at.Else-not-in_range c).Else-not-sound

g-is : (c : Else-not-in_range) → sound (g-row (begun c)) ≡ true
g-is c = g-sound (goal.at.Else-not-in_range c).Else-not-sound-2

-- ---- 15

pub instant_of-instant-requires : goal.instant_of-instant-requires
instant_of-instant-requires c =
    let s = begun c in
    let p = s.ranges.h_period in
    let n = s.ranges.h_distance in
    let z = s.ranges.z in
    record { sound = simp plain (h-is c); within = simp plain ((in-range s.args.z).0 (is-ranged c)) }

found-is : (c : After-instant_of-instant) → instant_of (h-row (goal.at.After-instant_of-instant c).Start) c.args.z ≡ found c.instant_of-instant.result
found-is c =
    let s = (goal.at.After-instant_of-instant c).Start in
    let p = s.ranges.h_period in
    let n = s.ranges.h_distance in
    let z = s.ranges.z in
    sym (simp plain at c.instant_of-instant.ensures.result_value)

pub returns-in_default : goal.returns-in_default
unfolding has
returns-in_default c =
    let k = goal.at.returns-in_default c in
    let e = k.Else-not-in_range in
    let s = k.Start in
    let r = refused-parts (room s) 15 _ _
    (down-label (h-row s) (g-row s) s.args.z (room s) (h-is e) (g-is e) (is-ranged e) (ap is_some (found-is k.After-instant_of-instant ∙ ap found c.in_default.is))) (cleared k.After-clear) in
    record { answer = r.0; list = r.1 }

-- ---- the first instant of the granule

abbrev checks : In-Some → Else-not-in_range
checks c = (goal.at.In-Some c).Else-not-in_range

abbrev instant : In-Some → ℤ
instant c = c.in-Some.t

instant-fits : (c : In-Some) → SFits w64 c.in-Some.t
instant-fits c = search rules

is_found : (c : In-Some) → let s = begun (checks c) in instant_of (h-row s) s.args.z ≡ some (instant c)
is_found c = found-is (goal.at.In-Some c).After-instant_of-instant ∙ ap found c.in-Some.is

is-label : (c : In-Some) → let s = begun (checks c) in has (h-row s) s.args.z ≡ true
unfolding has
is-label c = ap is_some (is_found c)

checked : (c : In-Some) → let s = begun (checks c) in Checked (h-row s) (g-row s) s.args.z
checked c = record { h-sound = h-is (checks c); g-sound = g-is (checks c); in-range = is-ranged (checks c); is-label = is-label c }

rules_own : (c : Else-not-in_range) → Valid (h-row (begun c))
rules_own c = let s = begun c in valid s.args.h_period s.args.h_distance s.args.h_cells.now (h-is c)

labelled : (c : In-Some) → let s = begun (checks c) in meant (h-row s) (instant c) ≡ some s.args.z
labelled c = let s = begun (checks c) in instant_of-labelled (h-row s) (rules_own (checks c)) s.args.z (instant c) (is_found c)

near : (c : In-Some) → Within (2 ^ 54) (instant c)
near c = c.instant_of-instant.ensures.within_2 (instant c) (ap found c.in-Some.is)

pub first_instant-first-requires : goal.first_instant-first-requires
first_instant-first-requires c =
    let s = begun (checks c) in
    let p = s.ranges.h_period in
    let n = s.ranges.h_distance in
    let t = instant-fits c in
    let l = near c in
    let w : Within (2 ^ 59) (instant c) = l.0 ∴ l.1 ∴ simp ints (omega arith) in
    record { sound = simp plain (h-is (checks c)); labelled = simp plain ((s.args.z, labelled c), w) }

first-is : (c : After-first_instant-first) → let s = (goal.at.After-first_instant-first c).Start in c.first_instant-first.result ≡ first (granule (h-row s) s.args.z)
first-is c =
    let k = (goal.at.After-first_instant-first c).In-Some in
    let s = begun (checks k) in
    let p = s.ranges.h_period in
    let n = s.ranges.h_distance in
    let t = instant-fits k in
    (simp plain at c.first_instant-first.ensures) s.args.z (labelled k)

begins : (c : After-first_instant-first) → let s = (goal.at.After-first_instant-first c).Start in FirstInstant (h-row s) s.args.z c.first_instant-first.result
begins c =
    let k = (goal.at.After-first_instant-first c).In-Some in
    let e = checks k in
    let s = begun e in
    let r = h-row s in
    let v = rules_own e in
    let z = s.args.z in
    let t = instant k in
    let l = near k in
    let n = numbers s.args.h_period s.args.h_distance s.args.h_cells.now (h-is e) in
    let o = first-labelled r v z (t, labelled k) in
    let lo = granule-near (meant r) r.period r.distance (meant-repeats r v.positive.0) v.positive.1 v.ordered (first (granule r z)) t z o (labelled k) in
    let hi = first-at-most r v z t (labelled k) in
    subst (FirstInstant r z) (sym (first-is c)) (record { near = l.0 ∴ l.1 ∴ lo ∴ hi ∴ n.high ∴ simp ints (omega arith); label = o; least = first-at-most r v z })

-- ---- what the walk finds

pub parts_of-walked-requires-clause-first_instant : goal.parts_of-walked-requires-clause-first_instant
parts_of-walked-requires-clause-first_instant c =
    let s = (goal.at.parts_of-walked-requires-clause-first_instant c).Start in
    let p = s.ranges.h_period in
    let n = s.ranges.h_distance in
    let z = s.ranges.z in
    let t : SFits w64 c.first_instant-first.result = sfits_of c.first_instant-first.type_inv in
    simp plain (begins (goal.at.parts_of-walked-requires-clause-first_instant c).After-first_instant-first)

walks : (c : After-parts_of-walked) → let s = (goal.at.After-parts_of-walked c).Start in PartsOf (h-row s) (g-row s) s.args.z c.parts_of-walked.new.parts c.parts_of-walked.result
walks c =
    let s = (goal.at.After-parts_of-walked c).Start in
    let p = s.ranges.h_period in
    let n = s.ranges.h_distance in
    let q = s.ranges.g_period in
    let m = s.ranges.g_distance in
    let z = s.ranges.z in
    simp plain at c.parts_of-walked.ensures

as_long : (c : After-parts_of-walked) → length c.parts_of-walked.new.parts ≡ room (goal.at.After-parts_of-walked c).Start
as_long c = search rules

walks_parts : (c : In-Some-walked) → let s = (goal.at.In-Some-walked c).Start in
    PartsOf (h-row s) (g-row s) s.args.z c.parts_of-walked.new.parts (Some c.in-Some-walked.count)
walks_parts c =
    let w = (goal.at.In-Some-walked c).After-parts_of-walked in
    let s = (goal.at.In-Some-walked c).Start in
    subst (PartsOf (h-row s) (g-row s) s.args.z c.parts_of-walked.new.parts) c.in-Some-walked.is (walks w)

-- ---- 17

pub returns-then-parts-count : goal.returns-then-parts-count
returns-then-parts-count c =
    let k = goal.at.returns-then-parts-count c in
    let w = k.After-parts_of-walked in
    let s = k.Start in
    let x = walks_parts k.In-Some-walked in
    let short : room s < length (within (g-row s) (h-row s) s.args.z) = omega (arith, c.if-parts-count.true, x.1.0, as_long w) in
    let r = refused-parts (room s) 17 _ _ (down-short (h-row s) (g-row s) s.args.z (room s) (checked k.In-Some) x.0 short)
    (c.clear-then-parts-count.ensures ∙ ap (λ (m : ℕ). replicate m (pos 0)) (as_long w)) in
    record { answer = r.0; list = r.1 }

-- ---- 16

pub returns-in-None : goal.returns-in-None
returns-in-None c =
    let k = goal.at.returns-in-None c in
    let w = k.After-parts_of-walked in
    let s = k.Start in
    let x = subst (PartsOf (h-row s) (g-row s) s.args.z c.parts_of-walked.new.parts) c.in-None.is (walks w) in
    let r = refused-parts (room s) 16 _ _ (down-incomplete (h-row s) (g-row s) s.args.z (room s) (checked k.In-Some) x.0)
    (c.clear-in-None.ensures ∙ ap (λ (m : ℕ). replicate m (pos 0)) (as_long w)) in
    record { answer = r.0; list = r.1 }

-- ---- the answer

pub returns-else-parts-count : goal.returns-else-parts-count
returns-else-parts-count c =
    let k = goal.at.returns-else-parts-count c in
    let w = k.After-parts_of-walked in
    let s = k.Start in
    let x = walks_parts k.In-Some-walked in
    let enough : length (within (g-row s) (h-row s) s.args.z) ≤ room s = omega (arith, c.if-parts-count.false, x.1.0, as_long w) in
    let r = answered-parts (room s) _ _ _ _ (down-answer (h-row s) (g-row s) s.args.z (room s) (checked k.In-Some) x.0 enough) x.1.0 enough (as_long w) x.1.1 in
    record { answer = r.0; list = r.1 }
