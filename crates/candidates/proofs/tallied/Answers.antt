-- `candidates::tallied` meets its contract: it is a walk over the granule.
-- Assumes nothing.
use borrow.Author.Rules.{rules}
use mathlib.Core.Path.{◌≡◌, sym, ◌∙◌, ap, subst}
use mathlib.Core.Logic.{⊎_elim}
use mathlib.Core.Bool.{Bool, true}
use mathlib.Core.List.{List, [], ◌∷◌, ◌++◌}
use Prim.Native.Nat.{◌^◌}
use native.Mathlib.Omega.{arith}
use lib.IntN.{ℤ, pos, ◌+ℤ◌}
use lib.Signed.{◌≤ℤ◌}
use mir.Facts.{to_z-of_z}
use mir.Syntax.{w64}
use mir.Val.{to_z, of_z, SFits}
use Rattle.integers.proofs.Linear.{ints, ◌∴◌}
use Rattle.integers.proofs.Machine.{plain}
use Rattle.calendar.specs.Meaning.{Row}
use Rattle.calendar.specs.Questions.{given}
use Rattle.granules.specs.Valid.{Valid}
use Rattle.cursors.specs.Found.{Near, Within, Sound}
use Rattle.cursors.specs.Cursor.{cursor_at}
use Rattle.cursors.proofs.Numbers.{numbers, valid}
use Rattle.containment.specs.First.{FirstInstant}
use Rattle.candidates.specs.declared.Tally.{Tally}
use Rattle.candidates.specs.declared.candidate.Candidate.{Candidate}
use Rattle.candidates.specs.declared.candidate.Candidate.TheVariants.{Nothing, Passed, Next}
use Rattle.candidates.specs.Tallies.{CandidateAt, tally_of}
use Rattle.candidates.proofs.Candidates.{Walk, walk_start, walk-few, walk-less, walk-past, walk-bare, walk_same, walk-passed, walk-next, walk-full, walk_end}
use Rattle.candidates.proofs.tallied.Goals as goal
use Rattle.candidates.proofs.tallied.Goals.{After-candidate_at-candidate, After-cursor_next-other, At-loop-tally, Start as Start-place, in-Nothing, in-Passed, in-Next}

-- the numbers and the rows as the machine has them
abbrev Start : Type 0
Start = Start-place

abbrev I : Start → ℤ
I s = to_z w64 (of_z w64 s.args.i)

abbrev T : Start → ℤ
T s = to_z w64 (of_z w64 s.args.first)

abbrev lo : Start → ℤ
lo s = to_z w64 (of_z w64 s.args.low)

abbrev hi : Start → ℤ
hi s = to_z w64 (of_z w64 s.args.high)

abbrev a-row : Start → Row
a-row s = given (to_z w64 (of_z w64 s.args.a_period)) (to_z w64 (of_z w64 s.args.a_distance)) s.args.a_cells.now

abbrev b-row : Start → Row
b-row s = given (to_z w64 (of_z w64 s.args.b_period)) (to_z w64 (of_z w64 s.args.b_distance)) s.args.b_cells.now

a-sound : (s : Start) → Sound (to_z w64 (of_z w64 s.args.a_period)) (to_z w64 (of_z w64 s.args.a_distance)) s.args.a_cells.now
a-sound s =
    let p = s.ranges.a_period in
    let n = s.ranges.a_distance in
    simp plain s.requires.sound

b-sound : (s : Start) → Sound (to_z w64 (of_z w64 s.args.b_period)) (to_z w64 (of_z w64 s.args.b_distance)) s.args.b_cells.now
b-sound s =
    let p = s.ranges.b_period in
    let n = s.ranges.b_distance in
    simp plain s.requires.sound_2

a-rules : (s : Start) → Valid (a-row s)
a-rules s = valid (to_z w64 (of_z w64 s.args.a_period)) (to_z w64 (of_z w64 s.args.a_distance)) s.args.a_cells.now (a-sound s)

b-rules : (s : Start) → Valid (b-row s)
b-rules s = valid (to_z w64 (of_z w64 s.args.b_period)) (to_z w64 (of_z w64 s.args.b_distance)) s.args.b_cells.now (b-sound s)

begins : (s : Start) → FirstInstant (b-row s) (I s) (T s)
begins s =
    let p = s.ranges.b_period in
    let n = s.ranges.b_distance in
    let i = s.ranges.i in
    let t = s.ranges.first in
    simp plain s.requires.first_instant

a-begins : (s : Start) → s.args.a ≡ cursor_at (a-row s) (T s)
a-begins s =
    let p = s.ranges.a_period in
    let n = s.ranges.a_distance in
    let t = s.ranges.first in
    simp plain s.requires.a_value

b-begins : (s : Start) → s.args.b ≡ cursor_at (b-row s) (T s)
b-begins s =
    let p = s.ranges.b_period in
    let n = s.ranges.b_distance in
    let t = s.ranges.first in
    simp plain s.requires.b_value

pub loop-tally-init : goal.loop-tally-init
loop-tally-init c =
    let s = (goal.at.loop-tally-init c).Start in
    walk_start s.args.whole (a-row s) (b-row s) (a-rules s) (b-rules s) (I s) (T s) (lo s) (hi s) (begins s) _ _ _ _ (a-begins s) (b-begins s) (c.empty_tally-tally.ensures (lo s) (hi s))

-- where the walk is
abbrev At-loop : Type 0
At-loop = At-loop-tally

abbrev begun : At-loop → Start
begun l = (goal.at.At-loop-tally l).Start

abbrev here : At-loop → ℤ
here l = to_z w64 l.loop-tally.at-bits

near : (l : At-loop) → Near (here l) × Within (2 ^ 59) (here l)
near l =
    let s = begun l in
    let b = (begins s).near in
    let n = numbers (to_z w64 (of_z w64 s.args.b_period)) (to_z w64 (of_z w64 s.args.b_distance)) s.args.b_cells.now (b-sound s) in
    b.0 ∴ b.1 ∴ n.high ∴ l.loop-tally.invariant.low ∴ l.loop-tally.invariant.high ∴ simp ints (omega arith)

counted-few : (l : At-loop) → let s = begun l in (pos 0 ≤ℤ l.loop-tally.tally.count) × (l.loop-tally.tally.count ≤ℤ s.args.b_period)
counted-few l =
    let s = begun l in
    let p = s.ranges.b_period in
    let n = numbers s.args.b_period s.args.b_distance s.args.b_cells.now s.requires.sound_2 in
    let f = walk-few s.args.whole (a-row s) (b-row s) (I s) (T s) (lo s) (hi s) _ _ _ _ _ _ l.loop-tally.invariant in
    (f.0, (simp plain at f.1) ∴ n.period-is ∴ simp ints (omega arith))

few : (l : At-loop) → (pos 0 ≤ℤ l.loop-tally.tally.count) × (l.loop-tally.tally.count ≤ℤ pos (2 ^ 23))
few l =
    let s = begun l in
    let n = numbers s.args.b_period s.args.b_distance s.args.b_cells.now s.requires.sound_2 in
    let f = counted-few l in
    (f.0, f.1 ∴ n.period-is ∴ n.high ∴ simp ints (omega arith))

-- what the instant says

abbrev Looked-at : Type 0
Looked-at = After-candidate_at-candidate

abbrev at-loop : Looked-at → At-loop
at-loop c = (goal.at.After-candidate_at-candidate c).At-loop-tally

abbrev start : Looked-at → Start
start c = begun (at-loop c)

abbrev Says : Looked-at → Candidate → Type 0
Says c x =
    let s = start c in
    let l = at-loop c in
    CandidateAt s.args.whole (a-row s) (b-row s) (I s) (here l) l.loop-tally.looked (to_z w64 l.loop-tally.latest-bits) x

says : (c : Looked-at) → Says c c.candidate_at-candidate.result
says c = c.candidate_at-candidate.ensures

-- ---- the granule is over, or all positions are behind

pub returns-in-End : goal.returns-in-End
returns-in-End c =
    let d = (goal.at.returns-in-End c).After-candidate_at-candidate in
    let l = at-loop d in
    let s = start d in
    let p = s.ranges.a_period in
    let o = s.ranges.a_distance in
    let q = s.ranges.b_period in
    let m = s.ranges.b_distance in
    let i = s.ranges.i in
    let f = s.ranges.low in
    let h = s.ranges.high in
    let y = subst (Says d) c.in-End.is (says d) in
    let e = simp plain at (walk_end s.args.whole (a-row s) (b-row s) (a-rules s) (b-rules s) (I s) (T s) (lo s) (hi s) (begins s) _ _ _ _ _ _ l.loop-tally.invariant y.0 y.1 y.2) in
    record { low = e.0.0; high = e.0.1; count = λ _. e.1; few = counted-few l }

pub returns : goal.returns
returns c =
    let l = (goal.at.returns c).At-loop-tally in
    let s = begun l in
    let p = s.ranges.a_period in
    let o = s.ranges.a_distance in
    let q = s.ranges.b_period in
    let m = s.ranges.b_distance in
    let i = s.ranges.i in
    let f = s.ranges.low in
    let h = s.ranges.high in
    let n : SFits w64 l.loop-tally.tally.count = (few l).0 ∴ (few l).1 ∴ simp ints (omega arith) in
    let e : s.args.high ≤ℤ l.loop-tally.tally.count = simp plain at c.loop-tally-test.false in
    let w = simp plain at (walk-full s.args.whole (a-row s) (b-row s) (a-rules s) (b-rules s) (I s) (T s) (lo s) (hi s) (begins s) _ _ _ _ _ _ l.loop-tally.invariant (simp plain e)) in
    record { low = w.0; high = w.1; count = λ k. absurd (k ∴ e ∴ simp ints (omega arith)); few = counted-few l }

-- ---- the next instant

pub candidate_at-candidate-requires-clause-within : goal.candidate_at-candidate-requires-clause-within
candidate_at-candidate-requires-clause-within c = (near (goal.at.candidate_at-candidate-requires-clause-within c).At-loop-tally).1

pub counted-tally-requires : goal.counted-tally-requires
counted-tally-requires c = few (goal.at.counted-tally-requires c).At-loop-tally

add-fits : (l : At-loop) → SFits w64 (here l +ℤ pos 1)
add-fits l = let b = (near l).1 in b.0 ∴ b.1 ∴ simp ints (omega arith)

pub overflow_add-at : goal.overflow_add-at
overflow_add-at c = add-fits (goal.at.overflow_add-at c).At-loop-tally

pub cursor_next-own-requires-clause-standing : goal.cursor_next-own-requires-clause-standing
cursor_next-own-requires-clause-standing c =
    let l = (goal.at.cursor_next-own-requires-clause-standing c).At-loop-tally in
    (here l, (near l).0, c.loop-tally.invariant.a-cursor)

pub cursor_next-other-requires-clause-standing : goal.cursor_next-other-requires-clause-standing
cursor_next-other-requires-clause-standing c =
    let l = (goal.at.cursor_next-other-requires-clause-standing c).At-loop-tally in
    (here l, (near l).0, c.loop-tally.invariant.b-cursor)

abbrev Stepped : Type 0
Stepped = After-cursor_next-other

abbrev looked-at : Stepped → Looked-at
looked-at c = (goal.at.After-cursor_next-other c).After-candidate_at-candidate

-- as the machine has it, with its cursors
abbrev next : Stepped → ℤ
next c = to_z w64 (of_z w64 (here (at-loop (looked-at c)) +ℤ pos 1))

next-is : (c : Stepped) → next c ≡ here (at-loop (looked-at c)) +ℤ pos 1
next-is c = to_z-of_z {w = w64} (add-fits (at-loop (looked-at c)))

a-next : (c : Stepped) → c.cursor_next-own.result ≡ cursor_at (a-row (start (looked-at c))) (next c)
a-next c = let l = at-loop (looked-at c) in c.cursor_next-own.ensures (here l) l.loop-tally.invariant.a-cursor ∙ ap (cursor_at (a-row (begun l))) (sym (next-is c))

b-next : (c : Stepped) → c.cursor_next-other.result ≡ cursor_at (b-row (start (looked-at c))) (next c)
b-next c = let l = at-loop (looked-at c) in c.cursor_next-other.ensures (here l) l.loop-tally.invariant.b-cursor ∙ ap (cursor_at (b-row (begun l))) (sym (next-is c))

-- the walk there
abbrev Goes : Stepped → Bool → ℤ → Tally → Type 0
Goes c looked latest tally =
    let s = start (looked-at c) in
    Walk s.args.whole (a-row s) (b-row s) (I s) (T s) (lo s) (hi s) (next c) c.cursor_next-own.result c.cursor_next-other.result looked latest tally

-- no label shows that was not looked at
goes_on : (c : Stepped) → let l = (at-loop (looked-at c)).loop-tally in Says (looked-at c) Nothing → Goes c l.looked (to_z w64 l.latest-bits) l.tally
goes_on c y =
    let l = at-loop (looked-at c) in
    let s = begun l in
    let v = a-rules s in
    let w = b-rules s in
    ⊎_elim
    (λ e. walk-past s.args.whole (a-row s) (b-row s) v w (I s) (T s) (lo s) (hi s) (begins s) _ _ _ _ _ _ l.loop-tally.invariant _ _ _ (a-next c) (b-next c) (next-is c) e)
    (λ y.
    ⊎_elim
    (λ e. walk-bare s.args.whole (a-row s) (b-row s) v w (I s) (T s) (lo s) (hi s) (begins s) _ _ _ _ _ _ l.loop-tally.invariant _ _ _ (a-next c) (b-next c) (next-is c) y.0 e)
    (λ e. walk_same s.args.whole (a-row s) (b-row s) v w (I s) (T s) (lo s) (hi s) (begins s) _ _ _ _ _ _ l.loop-tally.invariant _ _ _ (a-next c) (b-next c) (next-is c) y.0 e.0 e.1)
    y.1)
    y

-- one shows that is not in question
goes-past : (c : Stepped) (j : ℤ) → Says (looked-at c) (Passed j) → Goes c true j (at-loop (looked-at c)).loop-tally.tally
goes-past c j y =
    let l = at-loop (looked-at c) in
    let s = begun l in
    walk-passed s.args.whole (a-row s) (b-row s) (a-rules s) (b-rules s) (I s) (T s) (lo s) (hi s) (begins s) _ _ _ _ _ _ l.loop-tally.invariant _ _ _ (a-next c) (b-next c) (next-is c)
    j y.0 y.1.0 y.1.1.0 y.1.1.1

-- the next one shows
goes-more : (c : Stepped) (j : ℤ) → Says (looked-at c) (Next j) → (r : Tally)
    → let l = at-loop (looked-at c) in let s = begun l in ((m : List ℤ) → l.loop-tally.tally ≡ tally_of (lo s) (hi s) m → r ≡ tally_of (lo s) (hi s) (m ++ (j ∷ [])))
    → Goes c true j r
goes-more c j y r e =
    let l = at-loop (looked-at c) in
    let s = begun l in
    walk-next s.args.whole (a-row s) (b-row s) (a-rules s) (b-rules s) (I s) (T s) (lo s) (hi s) (begins s) _ _ _ _ _ _ l.loop-tally.invariant _ _ _ (a-next c) (b-next c) (next-is c)
    j y.0 y.1.0 y.1.1.0 y.1.1.1 r e

-- with what the arms leave
joined : (c : Stepped) (looked : Bool) (latest : ℤ) (tally : Tally) {looked' : Bool} {latest' : ℤ} {tally' : Tally}
    → looked ≡ looked' → latest ≡ latest' → tally ≡ tally' → Goes c looked' latest' tally' → Goes c looked latest tally
joined c looked latest tally p q r w = rw (p, q, r) w

pub loop-tally-smaller : goal.loop-tally-smaller
loop-tally-smaller c =
    let l = at-loop (looked-at c) in
    let s = begun l in
    walk-less s.args.whole (a-row s) (b-row s) (a-rules s) (b-rules s) (I s) (T s) (lo s) (hi s) (begins s) _ _ _ _ _ _ l.loop-tally.invariant _ _ _ (a-next c) (b-next c) (next-is c)

pub loop-tally-preserved : goal.loop-tally-preserved
loop-tally-preserved c =
    let d = looked-at c in
    elim c.match-candidate.branch [
      | in-Nothing w ↦ joined c _ _ _ w.looked-is w.latest-is w.tally-is (goes_on c (subst (Says d) w.in-Nothing.is (says d)))
      | in-Passed w ↦ let f : SFits w64 w.in-Passed.j = search rules in
          joined c _ _ _ w.looked-is w.latest-is w.tally-is (goes-past c _ (subst (Says d) (w.in-Passed.is ∙ ap Passed (sym (to_z-of_z f))) (says d)))
      | in-Next w ↦ let f : SFits w64 w.in-Next.j = search rules in
          joined c _ _ _ w.looked-is w.latest-is w.tally-is (goes-more c _ (subst (Says d) (w.in-Next.is ∙ ap Next (sym (to_z-of_z f))) (says d)) _ w.counted-tally.ensures)
    ]
