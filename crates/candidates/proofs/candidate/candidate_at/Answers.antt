-- `candidates::candidate::candidate_at` meets its contract: by what t says of b's granule, and then whether a's granule is in question.
-- Assumes nothing.
use borrow.Author.Rules.{rules}
use mathlib.Core.Option.{some}
use mathlib.Core.Path.{◌≡◌, sym, ◌∙◌, ap, subst}
use mathlib.Core.Logic.{inl, inr}
use lib.IntN.{ℤ}
use mir.Facts.{to_z-of_z}
use mir.Syntax.{w64}
use mir.Val.{SFits}
use Rattle.integers.proofs.Machine.{plain, test-eq}
use Rattle.calendar.specs.Meaning.{Row}
use Rattle.calendar.specs.Questions.{given}
use Rattle.cursors.proofs.Numbers.{valid}
use Rattle.containment.specs.declared.CursorPair.{CursorPair}
use Rattle.containment.specs.declared.seen.Seen.{Seen}
use Rattle.containment.specs.declared.seen.Seen.TheVariants.{Of}
use Rattle.containment.specs.Sides.{Overlaps}
use Rattle.containment.specs.Seen.{SeenAt}
use Rattle.containment.proofs.Places.{overlaps}
use Rattle.candidates.specs.declared.candidate.Candidate.TheVariants.{Passed, Next}
use Rattle.candidates.specs.Tallies.{counts, New, CandidateAt}
use Rattle.candidates.proofs.candidate.candidate_at.Goals as goal
use Rattle.candidates.proofs.candidate.candidate_at.Goals.{then-looked+else-j-latest, else-looked, After-counts_at-in_question, After-seen_at-seen, In-Of, Joined-looked, Start}

abbrev a-row : Start → Row
a-row s = given s.args.a_period s.args.a_distance s.args.a_cells.now

abbrev b-row : Start → Row
b-row s = given s.args.b_period s.args.b_distance s.args.b_cells.now

abbrev Says : After-seen_at-seen → Seen → Type 0
Says c x = let s = (goal.at.After-seen_at-seen c).Start in SeenAt (b-row s) (a-row s) s.args.i s.args.t x

says : (c : After-seen_at-seen) → Says c c.seen_at-seen.result
says c =
    let s = (goal.at.After-seen_at-seen c).Start in
    let p = s.ranges.a_period in
    let n = s.ranges.a_distance in
    let q = s.ranges.b_period in
    let m = s.ranges.b_distance in
    let i = s.ranges.i in
    let t = s.ranges.t in
    simp plain at c.seen_at-seen.ensures

abbrev start : In-Of → Start
start c = (goal.at.In-Of c).Start

abbrev label : In-Of → ℤ
label c = c.in-Of.j

label-fits : (c : In-Of) → SFits w64 (label c)
label-fits c = search rules

labels : (c : In-Of) → Says (goal.at.In-Of c).After-seen_at-seen (Of (label c))
labels c = let d = (goal.at.In-Of c).After-seen_at-seen in subst (Says d) c.in-Of.is (says d)

pub returns-then-j-latest : goal.returns-then-j-latest
returns-then-j-latest c =
    let d = (goal.at.returns-then-j-latest c).In-Of in
    let y = labels d in
    inr (y.0, inr (c.if-looked.true, y.1 ∙ ap some ((test-eq w64 _ _ (label-fits d) (start d).ranges.latest).0 c.if-j-latest.true)))

-- ---- whether that is in question
abbrev place : In-Of → CursorPair
place c = let s = start c in record { b = s.args.a; k = label c; a = s.args.b; i = s.args.i }

placed : (c : In-Of) → Overlaps (a-row (start c)) (b-row (start c)) (place c)
placed c =
    let s = start c in
    let l = s.requires.within in
    let v = valid s.args.a_period s.args.a_distance s.args.a_cells.now s.requires.sound in
    overlaps (a-row s) (b-row s) v (place c) s.args.t l.0 l.1 s.requires.a_value (labels c).1 s.requires.b_value (labels c).0

pub counts_at-in_question-requires-clause-overlaps : goal.counts_at-in_question-requires-clause-overlaps
counts_at-in_question-requires-clause-overlaps c =
    let d = (goal.at.counts_at-in_question-requires-clause-overlaps c).In-Of in
    let s = start d in
    let p = s.ranges.a_period in
    let n = s.ranges.a_distance in
    let q = s.ranges.b_period in
    let m = s.ranges.b_distance in
    let i = s.ranges.i in
    let k = label-fits d in
    simp plain (placed d)

counts-is : (c : After-counts_at-in_question) → let d = (goal.at.After-counts_at-in_question c).In-Of in let s = start d in c.counts_at-in_question.result ≡ counts s.args.whole (a-row s) (b-row s) s.args.i (label d)
counts-is c =
    let d = (goal.at.After-counts_at-in_question c).In-Of in
    let s = start d in
    let p = s.ranges.a_period in
    let n = s.ranges.a_distance in
    let q = s.ranges.b_period in
    let m = s.ranges.b_distance in
    let i = s.ranges.i in
    let k = label-fits d in
    simp plain at c.counts_at-in_question.ensures

-- it is not the label looked at last
new : (c : Joined-looked) → let d = (goal.at.Joined-looked c).In-Of in New (start d).args.looked (start d).args.latest (label d)
new c =
    let d = (goal.at.Joined-looked c).In-Of in
    elim c.if-looked.branch [ then-looked+else-j-latest w ↦ inr (λ e. w.if-j-latest.false ((test-eq w64 _ _ (label-fits d) (start d).ranges.latest).1 e)) | else-looked w ↦ inl w.if-looked.false ]

pub returns-then-in_question : goal.returns-then-in_question
returns-then-in_question c =
    let d = (goal.at.returns-then-in_question c).In-Of in
    let s = start d in
    subst (λ (k : ℤ). CandidateAt s.args.whole (a-row s) (b-row s) s.args.i s.args.t s.args.looked s.args.latest (Next k)) (sym (to_z-of_z (label-fits d)))
    ((labels d).0, ((labels d).1, (new (goal.at.returns-then-in_question c).Joined-looked, sym (counts-is (goal.at.returns-then-in_question c).After-counts_at-in_question) ∙ c.if-in_question.true)))

pub returns : goal.returns
returns c =
    let d = (goal.at.returns c).In-Of in
    let s = start d in
    subst (λ (k : ℤ). CandidateAt s.args.whole (a-row s) (b-row s) s.args.i s.args.t s.args.looked s.args.latest (Passed k)) (sym (to_z-of_z (label-fits d)))
    ((labels d).0, ((labels d).1, (new (goal.at.returns c).Joined-looked, sym (counts-is (goal.at.returns c).After-counts_at-in_question) ∙ c.if-in_question.false)))
