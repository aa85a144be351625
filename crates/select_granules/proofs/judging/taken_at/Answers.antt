-- `select_granules::judging::taken_at` meets its contract: what lies between the first and the last that are taken is taken, where it is in question.
-- Assumes nothing.
use borrow.Author.Rules.{rules}
use mathlib.Core.Path.{◌≡◌, sym, ◌∙◌, subst}
use mathlib.Core.Bool.{Bool, true, false}
use native.Mathlib.Omega.{arith}
use Prim.Native.Nat.{◌^◌}
use lib.IntN.{pos, neg_ℤ}
use lib.Signed.{◌≤ℤ◌}
use mir.Syntax.{w64}
use mir.Val.{SFits}
use Rattle.integers.proofs.Linear.{ints, ◌∴◌}
use Rattle.integers.proofs.Machine.{plain, test-eq}
use Rattle.calendar.specs.Meaning.{Row}
use Rattle.calendar.specs.Granules.{inside}
use Rattle.calendar.specs.Lists.{any, equal}
use Rattle.calendar.specs.Questions.{given}
use Rattle.granules.specs.Valid.{Valid}
use Rattle.cursors.proofs.Numbers.{valid}
use Rattle.containment.specs.declared.CursorPair.{CursorPair}
use Rattle.containment.specs.Sides.{Overlaps}
use Rattle.containment.proofs.Places.{overlaps}
use Rattle.candidates.specs.Tallies.{candidates}
use Rattle.select_granules.specs.Memos.{taken, Picks}
use Rattle.select_granules.specs.Deciding.{takes}
use Rattle.select_granules.proofs.Decisions.{not_taken, taken_is, taken-low, taken-high, meets, lies}
use Rattle.select_granules.proofs.judging.taken_at.Goals as goal
use Rattle.select_granules.proofs.judging.taken_at.Goals.{After-inside_at, After-taken, Else-not-taken, Start}

abbrev a-row : Start → Row
a-row s = given s.args.a_period s.args.a_distance s.args.a_cells.now

abbrev b-row : Start → Row
b-row s = given s.args.b_period s.args.b_distance s.args.b_cells.now

a-rules : (s : Start) → Valid (a-row s)
a-rules s = valid s.args.a_period s.args.a_distance s.args.a_cells.now s.requires.sound

b-rules : (s : Start) → Valid (b-row s)
b-rules s = valid s.args.b_period s.args.b_distance s.args.b_cells.now s.requires.sound_2

picks : (s : Start) → Picks s.args.pick (candidates s.args.whole (a-row s) (b-row s) s.args.i) s.args.m
picks s = s.requires.picks

between : (c : After-taken) → let s = (goal.at.After-taken c).Start in c.taken.result ≡ taken s.args.m s.args.j
between c = let j = c.ranges.j in simp plain at c.taken.ensures

pub returns-then-not-taken : goal.returns-then-not-taken
returns-then-not-taken c =
    let d = (goal.at.returns-then-not-taken c).After-taken in
    let s = (goal.at.After-taken d).Start in
    not_taken s.args.pick s.args.whole (a-row s) (b-row s) s.args.j s.args.i s.args.m (picks s) (sym (between d) ∙ c.if-not-taken.true)

is-between : (c : Else-not-taken) → let s = (goal.at.Else-not-taken c).Start in taken s.args.m s.args.j ≡ true
is-between c = sym (between (goal.at.Else-not-taken c).After-taken) ∙ c.if-not-taken.false

-- it is taken exactly if it is in question
asked : (c : Else-not-taken) (w : Bool)
    → let s = (goal.at.Else-not-taken c).Start in
    s.args.whole ≡ w
    → any (equal s.args.j) (candidates w (a-row s) (b-row s) s.args.i) ≡ takes s.args.pick s.args.whole (a-row s) (b-row s) s.args.j s.args.i
asked c w e =
    let s = (goal.at.Else-not-taken c).Start in
    subst
    (λ (z : Bool). any (equal s.args.j) (candidates z (a-row s) (b-row s) s.args.i) ≡ takes s.args.pick s.args.whole (a-row s) (b-row s) s.args.j s.args.i)
    e
    (taken_is s.args.pick s.args.whole (a-row s) (b-row s) s.args.j s.args.i s.args.m (picks s) (is-between c))

-- ---- where it need not lie in b's granule
pub returns-then-not-whole : goal.returns-then-not-whole
returns-then-not-whole c =
    let d = (goal.at.returns-then-not-whole c).Else-not-taken in
    let s = (goal.at.Else-not-taken d).Start in
    meets s.args.pick (a-row s) (b-row s) (a-rules s) (b-rules s) s.args.t s.args.j s.requires.t_value s.args.i s.requires.t_value_2 ∙ asked d false (c.if-not-whole.true)

-- ---- the first and the last that are taken
pub returns-then-j-m : goal.returns-then-j-m
returns-then-j-m c =
    let d = (goal.at.returns-then-j-m c).Else-not-taken in
    let s = (goal.at.Else-not-taken d).Start in
    let low : SFits w64 s.args.m.low = search rules in
    taken-low s.args.pick s.args.whole (a-row s) (b-row s) s.args.j s.args.i s.args.m (picks s) (is-between d)
    ((test-eq w64 s.args.j s.args.m.low s.ranges.j low).0 c.if-j-m.true)

pub returns-then-j-m-2 : goal.returns-then-j-m-2
returns-then-j-m-2 c =
    let d = (goal.at.returns-then-j-m-2 c).Else-not-taken in
    let s = (goal.at.Else-not-taken d).Start in
    let high : SFits w64 s.args.m.high = search rules in
    taken-high s.args.pick s.args.whole (a-row s) (b-row s) s.args.j s.args.i s.args.m (picks s) (is-between d)
    ((test-eq w64 s.args.j s.args.m.high s.ranges.j high).0 c.if-j-m-2.true)

-- ---- another between them

abbrev place : Start → CursorPair
place s = record { b = s.args.a; k = s.args.j; a = s.args.b; i = s.args.i }

placed : (s : Start) → Overlaps (a-row s) (b-row s) (place s)
placed s =
    let l = s.requires.within in
    let lo : neg_ℤ (pos (2 ^ 59)) ≤ℤ s.args.t = l.0 ∴ simp ints (omega arith) in
    let hi : s.args.t ≤ℤ pos (2 ^ 59) = l.1 ∴ simp ints (omega arith) in
    overlaps (a-row s) (b-row s) (a-rules s) (place s) s.args.t lo hi s.requires.a_value s.requires.t_value s.requires.b_value s.requires.t_value_2

pub inside_at-requires-clause-overlaps : goal.inside_at-requires-clause-overlaps
inside_at-requires-clause-overlaps c =
    let s = (goal.at.inside_at-requires-clause-overlaps c).Start in
    let p = s.ranges.a_period in
    let n = s.ranges.a_distance in
    let q = s.ranges.b_period in
    let m = s.ranges.b_distance in
    let j = s.ranges.j in
    let i = s.ranges.i in
    simp plain (placed s)

inside_is : (c : After-inside_at) → let s = (goal.at.After-inside_at c).Start in c.inside_at.result ≡ inside (a-row s) s.args.j (b-row s) s.args.i
inside_is c =
    let s = (goal.at.After-inside_at c).Start in
    let p = s.ranges.a_period in
    let n = s.ranges.a_distance in
    let q = s.ranges.b_period in
    let m = s.ranges.b_distance in
    let j = s.ranges.j in
    let i = s.ranges.i in
    simp plain at c.inside_at.ensures

pub returns : goal.returns
returns c =
    let d = (goal.at.returns c).Else-not-taken in
    let s = (goal.at.Else-not-taken d).Start in
    let whole = c.if-not-whole.false in
    inside_is c ∙ lies s.args.pick (a-row s) (b-row s) (a-rules s) (b-rules s) s.args.t s.args.j s.requires.t_value s.args.i s.requires.t_value_2 ∙ asked d true whole
