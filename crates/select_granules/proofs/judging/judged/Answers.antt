-- `select_granules::judging::judged` meets its contract: it is a walk over the granule.
-- Assumes nothing.
use borrow.Author.Rules.{rules}
use mathlib.Core.Path.{◌≡◌, sym, ◌∙◌, ap, subst}
use mathlib.Core.Logic.{inl, inr}
use mathlib.Core.Option.{some}
use mathlib.Core.Bool.{Bool, true, false, ◌&&◌}
use Prim.Native.Nat.{◌^◌}
use native.Mathlib.Omega.{arith}
use lib.IntN.{ℤ, pos, ◌+ℤ◌, ◌-ℤ◌}
use lib.Signed.{◌≤ℤ◌, ◌<ℤ◌}
use mir.Facts.{to_z-of_z}
use mir.Syntax.{w64}
use mir.Val.{to_z, of_z, SFits}
use Rattle.integers.specs.Parts.{up}
use Rattle.integers.proofs.Linear.{ints, ◌∴◌}
use Rattle.integers.proofs.Machine.{plain}
use Rattle.calendar.specs.Meaning.{Row, meant}
use Rattle.calendar.specs.Compute.{selects}
use Rattle.calendar.specs.Lists.{equal}
use Rattle.calendar.specs.Questions.{given}
use Rattle.granules.specs.Valid.{Valid}
use Rattle.granules.proofs.Tests.{and-iff, equal-iff}
use Rattle.cursors.specs.Cursor.{cursor_at}
use Rattle.cursors.specs.Found.{Sound, Near, Within}
use Rattle.cursors.proofs.Numbers.{numbers, valid}
use Rattle.containment.specs.declared.seen.Seen.{Seen}
use Rattle.containment.specs.declared.seen.Seen.TheVariants.{Off, Bare, Of}
use Rattle.containment.specs.Seen.{SeenAt}
use Rattle.candidates.specs.Tallies.{candidates}
use Rattle.kinds.specs.Operations.{selection_of}
use Rattle.select_granules.specs.declared.Decision.{Decision}
use Rattle.select_granules.specs.declared.Picked.{Picked}
use Rattle.select_granules.specs.Deciding.{selection_by, takes, Decides}
use Rattle.select_granules.specs.Memos.{flag_of, Picks, Recalls}
use Rattle.select_granules.proofs.Decisions.{decides, judges, recalls, remembers, whole-none}
use Rattle.select_granules.proofs.Meetings.{Goes, Starts, room, starts, walk_start, walk-on, walk-less, walk-over, walk-early, goes-off, goes-bare, goes_of}
use Rattle.select_granules.proofs.judging.judged.Goals as goal
use Rattle.select_granules.proofs.judging.judged.Goals.{After-cursor_next-other, After-seen_at-seen, After-start_of-start, At-loop-i, In-Of, Joined-not-knows, Joined-seen, Start as Start-place, in-Off, in-Bare+else-whole, in-Of+else-is_taken+else-whole-2+else-precedes, then-not-knows, else-not-knows, then-is_taken-via-then-is_taken, then-is_taken-via-else-is_taken+then-whole-2}

-- ---- before the loop

-- the numbers and the rows as the machine has them
abbrev Start : Type 0
Start = Start-place

abbrev J : Start → ℤ
J s = to_z w64 (of_z w64 s.args.j)

abbrev T : Start → ℤ
T s = to_z w64 (of_z w64 s.args.t)

abbrev a-row : Start → Row
a-row s = given (to_z w64 (of_z w64 s.args.a_period)) (to_z w64 (of_z w64 s.args.a_distance)) s.args.a_cells.now

abbrev b-row : Start → Row
b-row s = given (to_z w64 (of_z w64 s.args.b_period)) (to_z w64 (of_z w64 s.args.b_distance)) s.args.b_cells.now

pub start_of-start-requires-clause-t_value_2 : goal.start_of-start-requires-clause-t_value_2
start_of-start-requires-clause-t_value_2 c =
    let s = (goal.at.start_of-start-requires-clause-t_value_2 c).Start in
    let p = s.ranges.a_period in
    let n = s.ranges.a_distance in
    let t = s.ranges.t in
    let j = s.ranges.j in
    simp plain s.requires.t_value_2

recalled : (s : Start) → Recalls s.args.pick s.args.whole (a-row s) (b-row s) s.args.m
recalled s =
    let p = s.ranges.a_period in
    let n = s.ranges.a_distance in
    let q = s.ranges.b_period in
    let m = s.ranges.b_distance in
    simp plain s.requires.recalls

a-sound : (s : Start) → Sound (to_z w64 (of_z w64 s.args.a_period)) (to_z w64 (of_z w64 s.args.a_distance)) s.args.a_cells.now
a-sound s =
    let p = s.ranges.a_period in
    let n = s.ranges.a_distance in
    simp plain s.requires.sound

b-sound : (s : Start) → Sound (to_z w64 (of_z w64 s.args.b_period)) (to_z w64 (of_z w64 s.args.b_distance)) s.args.b_cells.now
b-sound s =
    let q = s.ranges.b_period in
    let m = s.ranges.b_distance in
    simp plain s.requires.sound_2

within : (s : Start) → Within (2 ^ 49) (T s)
within s = let t = s.ranges.t in simp plain s.requires.within

own : (s : Start) → meant (a-row s) (T s) ≡ some (J s)
own s =
    let p = s.ranges.a_period in
    let n = s.ranges.a_distance in
    let t = s.ranges.t in
    let j = s.ranges.j in
    simp plain s.requires.t_value

a-rules : (s : Start) → Valid (a-row s)
a-rules s = valid (to_z w64 (of_z w64 s.args.a_period)) (to_z w64 (of_z w64 s.args.a_distance)) s.args.a_cells.now (a-sound s)

b-rules : (s : Start) → Valid (b-row s)
b-rules s = valid (to_z w64 (of_z w64 s.args.b_period)) (to_z w64 (of_z w64 s.args.b_distance)) s.args.b_cells.now (b-sound s)

-- where the walk begins
abbrev F : After-start_of-start → ℤ
F c = to_z w64 (of_z w64 c.start_of-start.result.at)

first_fits : (c : After-start_of-start) → SFits w64 c.start_of-start.result.at
first_fits c = let n = c.start_of-start.ensures.near in n.0 ∴ n.1 ∴ simp ints (omega arith)

begins : (c : After-start_of-start) → let s = (goal.at.After-start_of-start c).Start in Starts s.args.whole (a-row s) (J s) (F c) × ((T s -ℤ pos (a-row s).period) <ℤ F c) × (F c ≤ℤ T s)
begins c =
    let s = (goal.at.After-start_of-start c).Start in
    let f = first_fits c in
    starts s.args.whole (a-row s) (a-rules s) (J s) (T s) (F c) (own s) (simp plain c.start_of-start.ensures.at)

-- with room for a walk of a turn
near_first : (c : After-start_of-start) (u : ℤ) → F c ≤ℤ u → u ≤ℤ (F c +ℤ pos (a-row (goal.at.After-start_of-start c).Start).period) → Within (2 ^ 50) u × Near u × Near (u +ℤ pos 1)
near_first c u lo hi =
    let s = (goal.at.After-start_of-start c).Start in
    let n = numbers (to_z w64 (of_z w64 s.args.a_period)) (to_z w64 (of_z w64 s.args.a_distance)) s.args.a_cells.now (a-sound s) in
    let f = begins c in
    room (up (to_z w64 (of_z w64 s.args.a_period))) (T s) (F c) u n.high (within s) f.1 f.2 lo hi

pub loop-i-init : goal.loop-i-init
loop-i-init c =
    let k = (goal.at.loop-i-init c).After-start_of-start in
    let s = (goal.at.After-start_of-start k).Start in
    let f = first_fits k in
    let e = c.start_of-start.ensures in
    walk_start s.args.pick s.args.whole (a-row s) (b-row s) (a-rules s) (b-rules s) (J s) (F k) (begins k).0 _ _ _ (simp plain e.own) (simp plain e.other) (recalled s)

-- ---- where the walk is, and what an instant says

abbrev first-at : At-loop-i → After-start_of-start
first-at c = (goal.at.At-loop-i c).After-start_of-start

abbrev begun : At-loop-i → Start
begun c = (goal.at.After-start_of-start (first-at c)).Start

abbrev here : At-loop-i → ℤ
here c = to_z w64 c.loop-i.at-bits

near : (c : At-loop-i) → Within (2 ^ 50) (here c) × Near (here c) × Near (here c +ℤ pos 1)
near c = near_first (first-at c) (here c) c.loop-i.invariant.low c.loop-i.invariant.high

pub seen_at-seen-requires-clause-within : goal.seen_at-seen-requires-clause-within
seen_at-seen-requires-clause-within c = (near (goal.at.seen_at-seen-requires-clause-within c).At-loop-i).0 ∴ simp ints (omega arith)

abbrev at : After-seen_at-seen → At-loop-i
at c = (goal.at.After-seen_at-seen c).At-loop-i

abbrev Says : After-seen_at-seen → Seen → Type 0
Says c x = let s = begun (at c) in SeenAt (a-row s) (b-row s) (J s) (here (at c)) x

says : (c : After-seen_at-seen) → Says c c.seen_at-seen.result
says c = c.seen_at-seen.ensures

-- a decision that is made
made : (s : Start) {h : Bool} {m : Picked} {r : Decision} → (r.holds ≡ flag_of h) → (r.picked ≡ m) → h ≡ selects (selection_of (selection_by s.args.whole s.args.pick)) (a-row s) (b-row s) (J s)
    → Recalls s.args.pick s.args.whole (a-row s) (b-row s) m
    → Decides (selection_by s.args.whole s.args.pick) (given s.args.a_period s.args.a_distance s.args.a_cells.now) (given s.args.b_period s.args.b_distance s.args.b_cells.now) s.args.j r
made s {h} {m} {r} e o f g =
    let p = s.ranges.a_period in
    let n = s.ranges.a_distance in
    let q = s.ranges.b_period in
    let d = s.ranges.b_distance in
    let j = s.ranges.j in
    let x = decides (selection_by s.args.whole s.args.pick) (a-row s) (b-row s) (J s) h m r e o f (remembers s.args.pick s.args.whole (a-row s) (b-row s) m g) in
    simp plain at x

-- ---- no label in b

pub returns-then-whole : goal.returns-then-whole
returns-then-whole c =
    let d = (goal.at.returns-then-whole c).After-seen_at-seen in
    let l = at d in
    let s = begun l in
    let y = subst (Says d) c.in-Bare.is (says d) in
    made s c.decide.ensures.holds c.decide.ensures.picked
    (whole-none s.args.pick (a-row s) (b-row s) (a-rules s) (b-rules s) (here l) (J s) y.0 s.args.whole c.if-whole.true y.1)
    c.loop-i.invariant.recalls

-- ---- another granule begins

pub returns-in-Over : goal.returns-in-Over
returns-in-Over c =
    let d = (goal.at.returns-in-Over c).After-seen_at-seen in
    let l = at d in
    let f = first-at l in
    let s = begun l in
    let w = c.loop-i.invariant in
    let y = subst (Says d) c.in-Over.is (says d) in
    made s c.decide-in-Over.ensures.holds c.decide-in-Over.ensures.picked
    (walk-over s.args.pick s.args.whole (a-row s) (b-row s) (a-rules s) (b-rules s) (J s) (F f) (begins f).0 _ _ _ _ w y.0 y.1 y.2)
    w.recalls

-- ---- a label in b: what is taken for it

abbrev label : ℤ → ℤ
label i = to_z w64 (of_z w64 i)

abbrev Labels : At-loop-i → ℤ → Type 0
Labels l i = let s = begun l in (meant (a-row s) (here l) ≡ some (J s)) × (meant (b-row s) (here l) ≡ some i)

labels : (d : After-seen_at-seen) (i : ℤ) → SFits w64 i → d.seen_at-seen.result ≡ Of i → Labels (at d) (label i)
labels d i f e = let y = subst (Says d) e (says d) in (y.0, simp plain y.1)

labels-of : (c : In-Of) → Labels (goal.at.In-Of c).At-loop-i (label c.in-Of.i)
labels-of c = labels (goal.at.In-Of c).After-seen_at-seen c.in-Of.i (search rules) c.in-Of.is

pub picked_at-picked-requires-clause-within : goal.picked_at-picked-requires-clause-within
picked_at-picked-requires-clause-within c = (near (goal.at.picked_at-picked-requires-clause-within c).At-loop-i).0

-- what Pick takes for b's granule i is known
abbrev Right : At-loop-i → ℤ → Picked → Type 0
Right l i m = let s = begun l in (m.of ≡ i) × Picks s.args.pick (candidates s.args.whole (a-row s) (b-row s) i) m

remembered : (l : At-loop-i) (i : ℤ) (k : Bool) → let m = l.loop-i.picked in k ≡ equal m.known (pos 1) && equal m.of i → k ≡ true → Right l i m
remembered l i k h e =
    let s = begun l in
    let m = l.loop-i.picked in
    let y = (and-iff (equal m.known (pos 1)) (equal m.of i)).0 (sym h ∙ e) in
    let of = (equal-iff m.of i).0 y.1 in
    (of, subst (λ (i : ℤ). Picks s.args.pick (candidates s.args.whole (a-row s) (b-row s) i) m) of (l.loop-i.invariant.recalls ((equal-iff m.known (pos 1)).0 y.0)))

picked-is : (c : Joined-not-knows) → Right (goal.at.Joined-not-knows c).At-loop-i (label c.in-Of.i) c.if-not-knows.picked
picked-is c =
    let l = (goal.at.Joined-not-knows c).At-loop-i in
    let i = label c.in-Of.i in
    elim c.if-not-knows.branch [
      | then-not-knows w ↦ subst (Right l i) (sym w.picked-is) (w.picked_at-picked.ensures.known.1, w.picked_at-picked.ensures.picks)
      | else-not-knows w ↦ subst (Right l i) (sym w.picked-is) (remembered l i c.knows.result c.knows.ensures w.if-not-knows.false)
    ]

pub taken_at-is_taken-requires-clause-within : goal.taken_at-is_taken-requires-clause-within
taken_at-is_taken-requires-clause-within c = (near (goal.at.taken_at-is_taken-requires-clause-within c).At-loop-i).0

pub taken_at-is_taken-requires-clause-picks : goal.taken_at-is_taken-requires-clause-picks
taken_at-is_taken-requires-clause-picks c = (picked-is (goal.at.taken_at-is_taken-requires-clause-picks c).Joined-not-knows).1

recalls-it : (l : At-loop-i) (i : ℤ) (m : Picked) → Right l i m → let s = begun l in Recalls s.args.pick s.args.whole (a-row s) (b-row s) m
recalls-it l i m r = let s = begun l in recalls s.args.pick s.args.whole (a-row s) (b-row s) i m r.0 r.1

pub returns-then-is_taken : goal.returns-then-is_taken
returns-then-is_taken c =
    let h = (goal.at.returns-then-is_taken c).Joined-not-knows in
    let l = (goal.at.Joined-not-knows h).At-loop-i in
    let s = begun l in
    let i = label c.in-Of.i in
    let y = labels-of (goal.at.returns-then-is_taken c).In-Of in
    let e = c.taken_at-is_taken.ensures in
    made s c.decide-then-is_taken.ensures.holds c.decide-then-is_taken.ensures.picked
    (e
    ∙ judges s.args.pick (a-row s) (b-row s) (a-rules s) (b-rules s) (here l) (J s) y.0 i y.1 s.args.whole
    (elim c.then-is_taken.branch [
      | then-is_taken-via-then-is_taken w ↦ inl (sym e ∙ w.if-is_taken.true)
      | then-is_taken-via-else-is_taken+then-whole-2 w ↦ inr w.if-whole-2.true
    ]))
    (recalls-it l i c.if-not-knows.picked (picked-is h))

-- ---- what is taken begins behind the granule

pub returns-then-precedes : goal.returns-then-precedes
returns-then-precedes c =
    let h = (goal.at.returns-then-precedes c).Joined-not-knows in
    let l = (goal.at.Joined-not-knows h).At-loop-i in
    let f = first-at l in
    let s = begun l in
    let i = label c.in-Of.i in
    let y = labels-of (goal.at.returns-then-precedes c).In-Of in
    made s c.decide-then-precedes.ensures.holds c.decide-then-precedes.ensures.picked
    (walk-early s.args.pick s.args.whole (a-row s) (b-row s) (a-rules s) (b-rules s) (J s) (F f) (begins f).0 _ _ _ _ c.loop-i.invariant c.if-whole-2.false i y.1
    (sym c.taken_at-is_taken.ensures ∙ c.if-is_taken.false) _ (picked-is h).1 (sym c.precedes.ensures ∙ c.if-precedes.true))
    (recalls-it l i c.if-not-knows.picked (picked-is h))

-- ---- the walk goes on

abbrev On : At-loop-i → Picked → Type 0
On l m = let s = begun l in Goes s.args.pick s.args.whole (a-row s) (b-row s) (J s) (here l) × Recalls s.args.pick s.args.whole (a-row s) (b-row s) m

off : (d : After-seen_at-seen) → d.seen_at-seen.result ≡ Off → On (at d) d.loop-i.picked
off d e =
    let l = at d in
    let f = first-at l in
    let s = begun l in
    let w = d.loop-i.invariant in
    let y = subst (Says d) e (says d) in
    (goes-off s.args.pick s.args.whole (a-row s) (b-row s) (a-rules s) (b-rules s) (J s) (F f) (begins f).0 _ _ _ _ w y, w.recalls)

bare : (d : After-seen_at-seen) → d.seen_at-seen.result ≡ Bare → d.args.whole ≡ false → On (at d) d.loop-i.picked
bare d e h =
    let l = at d in
    let f = first-at l in
    let s = begun l in
    let w = d.loop-i.invariant in
    let y = subst (Says d) e (says d) in
    (goes-bare s.args.pick s.args.whole (a-row s) (b-row s) (a-rules s) (b-rules s) (J s) (F f) (begins f).0 _ _ _ _ w h y.0 y.1, w.recalls)

not-kept : (l : At-loop-i) (i : ℤ) (m : Picked) → Labels l i → let s = begun l in s.args.whole ≡ false → takes s.args.pick s.args.whole (a-row s) (b-row s) (J s) i ≡ false → Right l i m → On l m
not-kept l i m y h t r =
    let f = first-at l in
    let s = begun l in (
      goes_of s.args.pick s.args.whole (a-row s) (b-row s) (a-rules s) (b-rules s) (J s) (F f) (begins f).0 _ _ _ _ l.loop-i.invariant h i y.0 y.1 t,
      recalls-it l i m r,
    )

goes : (c : Joined-seen) → On (goal.at.Joined-seen c).At-loop-i c.match-seen.picked
goes c =
    let d = (goal.at.Joined-seen c).After-seen_at-seen in
    let l = at d in
    elim c.match-seen.branch [
      | in-Off w ↦ subst (On l) (sym w.picked-is) (off d w.in-Off.is)
      | in-Bare+else-whole w ↦ subst (On l) (sym w.picked-is) (bare d w.in-Bare.is w.if-whole.false)
      | in-Of+else-is_taken+else-whole-2+else-precedes w ↦
          let i = label w.in-Of.i in
          let r : Right l i w.if-not-knows.picked = elim w.if-not-knows.branch [
            | then-not-knows v ↦ subst (Right l i) (sym v.picked-is) (v.picked_at-picked.ensures.known.1, v.picked_at-picked.ensures.picks)
            | else-not-knows v ↦ subst (Right l i) (sym v.picked-is) (remembered l i w.knows.result w.knows.ensures v.if-not-knows.false)
          ] in
          subst (On l) (sym w.picked-is) (not-kept l i w.if-not-knows.picked (labels d w.in-Of.i (search rules) w.in-Of.is) w.if-whole-2.false (sym w.taken_at-is_taken.ensures ∙ w.if-is_taken.false) r)
    ]

add-fits : (l : At-loop-i) → SFits w64 (here l +ℤ pos 1)
add-fits l = (near l).2 ∴ simp ints (omega arith)

pub overflow_add-at : goal.overflow_add-at
overflow_add-at c = add-fits (goal.at.overflow_add-at c).At-loop-i

pub cursor_next-own-requires-clause-standing : goal.cursor_next-own-requires-clause-standing
cursor_next-own-requires-clause-standing c = let l = (goal.at.cursor_next-own-requires-clause-standing c).At-loop-i in (here l, (near l).1, c.loop-i.invariant.a-cursor)

pub cursor_next-other-requires-clause-standing : goal.cursor_next-other-requires-clause-standing
cursor_next-other-requires-clause-standing c = let l = (goal.at.cursor_next-other-requires-clause-standing c).At-loop-i in (here l, (near l).1, c.loop-i.invariant.b-cursor)

-- the next instant, as the machine has it
abbrev next : At-loop-i → ℤ
next l = to_z w64 (of_z w64 (here l +ℤ pos 1))

next-is : (l : At-loop-i) → next l ≡ here l +ℤ pos 1
next-is l = to_z-of_z {w = w64} (add-fits l)

pub loop-i-smaller : goal.loop-i-smaller
loop-i-smaller c =
    let k = (goal.at.loop-i-smaller c).Joined-seen in
    let l = (goal.at.Joined-seen k).At-loop-i in
    let f = first-at l in
    let s = begun l in
    walk-less s.args.pick s.args.whole (a-row s) (b-row s) (a-rules s) (b-rules s) (J s) (F f) (begins f).0 _ _ _ _ l.loop-i.invariant (goes k).0 (next l) (next-is l)

pub loop-i-preserved : goal.loop-i-preserved
loop-i-preserved c =
    let k = (goal.at.loop-i-preserved c).Joined-seen in
    let l = (goal.at.Joined-seen k).At-loop-i in
    let f = first-at l in
    let s = begun l in
    let w = l.loop-i.invariant in
    let g = goes k in
    let n = sym (next-is l) in
    walk-on s.args.pick s.args.whole (a-row s) (b-row s) (a-rules s) (b-rules s) (J s) (F f) (begins f).0 _ _ _ _ w g.0 (next l) _ _ _ (next-is l)
    (c.cursor_next-own.ensures (here l) w.a-cursor ∙ ap (cursor_at (a-row s)) n)
    (c.cursor_next-other.ensures (here l) w.b-cursor ∙ ap (cursor_at (b-row s)) n)
    g.1
