-- `alter_granules::ahead::advance_to` meets its contract: the walk goes on until the next altered granule begins behind j.
-- Assumes nothing.
use borrow.Author.Rules.{sfits_of}
use mathlib.Core.Path.{◌≡◌, refl, ◌∙◌, ap}
use native.Mathlib.Omega.{arith}
use lib.IntN.{ℤ, pos, ◌+ℤ◌, ◌-ℤ◌}
use lib.Signed.{◌≤ℤ◌, ◌<ℤ◌}
use mir.Syntax.{w64}
use mir.Val.{SFits, to_z, of_z}
use Rattle.integers.proofs.Linear.{ints, ◌∴◌}
use Rattle.integers.proofs.Machine.{plain}
use Rattle.calendar.specs.Meaning.{Row}
use Rattle.calendar.specs.Questions.{given}
use Rattle.cursors.specs.Found.{Sound}
use Rattle.kinds.specs.declared.Alteration.{Alteration}
use Rattle.alter_granules.specs.declared.ahead.Walk.{Walk}
use Rattle.alter_granules.specs.Follows.{Altering, begins, Holds, CoarseWalk, Steps, Stepped}
use Rattle.alter_granules.proofs.Tiled.{begins-rise}
use Rattle.alter_granules.proofs.Walking as walking
use Rattle.integers.proofs.Order.{up-less}
use Rattle.alter_granules.proofs.ahead.advance_to.Goals as goal
use Rattle.alter_granules.proofs.ahead.advance_to.Goals.{After-following-begin, After-stepped-s, At-loop-s, In-loop-s, Start as Start-place}

-- the rows and j as the machine has them
abbrev Start : Type 0
Start = Start-place

abbrev a-period : Start → ℤ
a-period s = to_z w64 (of_z w64 s.args.a_period)

abbrev a_distance : Start → ℤ
a_distance s = to_z w64 (of_z w64 s.args.a_distance)

abbrev b-period : Start → ℤ
b-period s = to_z w64 (of_z w64 s.args.b_period)

abbrev b-distance : Start → ℤ
b-distance s = to_z w64 (of_z w64 s.args.b_distance)

abbrev a-row : Start → Row
a-row s = given (a-period s) (a_distance s) s.args.a_cells.now

abbrev b-row : Start → Row
b-row s = given (b-period s) (b-distance s) s.args.b_cells.now

abbrev J : Start → ℤ
J s = to_z w64 (of_z w64 s.args.j)

-- what is required, of these
abbrev Required : Start → Type 0
Required s =
    let a = a-row s in
    let b = b-row s in
    Sound (a-period s) (a_distance s) s.args.a_cells.now
    × (Sound (b-period s) (b-distance s) s.args.b_cells.now
    × (Altering s.args.by a b
    × (CoarseWalk s.args.by a b s.args.from
    × ((begins s.args.by a b s.args.from.label ≤ℤ J s) × (J s <ℤ s.args.from.end)))))

required : (s : Start) → Required s
required s =
    let p = s.ranges.a_period in
    let n = s.ranges.a_distance in
    let q = s.ranges.b_period in
    let m = s.ranges.b_distance in
    let j = s.ranges.j in
    let r = s.requires in
    simp plain (r.sound, (r.sound_2, (r.altering, (r.coarse_walk, r.label_bound))))

pub loop-s-init : goal.loop-s-init
loop-s-init s = let r = (required s).1.1.1 in (r.0, r.1.0, refl)

-- the next granule begins up to j
abbrev begun : In-loop-s → Start
begun c = (goal.at.In-loop-s c).Start

abbrev walk : In-loop-s → Walk
walk c = c.loop-s.s

next_low : (c : In-loop-s) → (walk c).next ≤ℤ J (begun c)
next_low c =
    let n : SFits w64 (walk c).next = sfits_of c.struct_told-1.given.1.0.1 in
    simp plain at c.loop-s-test.true

next-before : (c : In-loop-s) → (walk c).next <ℤ (walk c).end
next-before c = next_low c ∴ (required (begun c)).1.1.1.1.1 ∴ c.loop-s.invariant.2 ∴ simp ints (omega arith)

pub following-begin-requires : goal.following-begin-requires
following-begin-requires c =
    let l = (goal.at.following-begin-requires c).In-loop-s in
    let s = begun l in
    let r = required s in
    let g = r.1.1.0 in
    let d = g.1.ready in
    let w = l.loop-s.invariant.0 in
    let near =
    walking.place s.args.by (a-period s) (a_distance s) (b-period s) (b-distance s) s.args.a_cells.now s.args.b_cells.now r.0 r.1.0 g (walk l) w in
    record {
      sound = r.0;
      sound_2 = r.1.0;
      full = d.full;
      partition = d.aligned;
      coarse_begins = w.begin;
      within = near;
    }

steps : (c : After-following-begin) → let s = begun (goal.at.After-following-begin c).In-loop-s in Steps s.args.by (a-row s) (b-row s) (walk (goal.at.After-following-begin c).In-loop-s) c.following-begin.result
steps c =
    let d = (goal.at.After-following-begin c).In-loop-s in
    let s = begun d in
    let r = required s in
    let e = c.following-begin.ensures in
    walking.steps s.args.by (a-period s) (a_distance s) (b-period s) (b-distance s) s.args.a_cells.now s.args.b_cells.now r.0 r.1.0 r.1.1.0
    (walk d) c.following-begin.result d.loop-s.invariant.0 (next-before d) e.begins e.of

pub stepped-s-requires : goal.stepped-s-requires
stepped-s-requires c = let s = begun (goal.at.stepped-s-requires c).In-loop-s in (a-row s, b-row s, steps c)

on : (c : After-stepped-s) → let s = begun (goal.at.After-stepped-s c).In-loop-s in Stepped s.args.by (a-row s) (b-row s) (walk (goal.at.After-stepped-s c).In-loop-s) c.stepped-s.result
on c = let s = begun (goal.at.After-stepped-s c).In-loop-s in c.stepped-s.ensures (a-row s) (b-row s) (steps (goal.at.After-stepped-s c).After-following-begin)

less : (by : Alteration) (a b : Row) → Altering by a b → (s r : Walk) → CoarseWalk by a b s → CoarseWalk by a b r → r.label ≡ s.label +ℤ pos 1 → s.next <ℤ r.next
less by a b g s r w v e = w.next ∴ v.next ∴ ap (λ (l : ℤ). begins by a b (l +ℤ pos 1)) e ∴ begins-rise by a b g (s.label +ℤ pos 1) ∴ simp ints (omega arith)

pub loop-s-smaller : goal.loop-s-smaller
loop-s-smaller c =
    let d = (goal.at.loop-s-smaller c).In-loop-s in
    let s = begun d in
    let t = on c in
    let l = less s.args.by (a-row s) (b-row s) (required s).1.1.0 (walk d) c.stepped-s.result d.loop-s.invariant.0 t.walk t.label in
    up-less (J s +ℤ pos 1 -ℤ c.stepped-s.result.next) (J s +ℤ pos 1 -ℤ (walk d).next) (l ∴ simp ints (omega arith)) (next_low d ∴ simp ints (omega arith))

pub loop-s-preserved : goal.loop-s-preserved
loop-s-preserved c =
    let d = (goal.at.loop-s-preserved c).In-loop-s in
    let s = begun d in
    let v = d.loop-s.invariant in
    let t = on c in (
      t.walk,
      ap (begins s.args.by (a-row s) (b-row s)) t.label ∴ v.0.next ∴ next_low d ∴ simp ints (omega arith),
      t.end ∙ v.2,
    )

pub returns : goal.returns
returns c =
    let l = (goal.at.returns c).At-loop-s in
    let s = (goal.at.At-loop-s l).Start in
    let w = l.loop-s.s in
    let v = l.loop-s.invariant in
    let n : SFits w64 w.next = sfits_of c.struct_told-1.given.1.0.1 in
    let h : J s <ℤ w.next = simp plain at c.loop-s-test.false in
    let p = s.ranges.a_period in
    let n = s.ranges.a_distance in
    let q = s.ranges.b_period in
    let m = s.ranges.b_distance in
    let j = s.ranges.j in
    let holds : Holds s.args.by (a-row s) (b-row s) (J s) w.label = (v.1, v.0.next ∴ h ∴ simp ints (omega arith)) in
    let x : CoarseWalk s.args.by (a-row s) (b-row s) w = v.0 in
    record { walks = simp plain at x; has = simp plain at holds; end = v.2 }
