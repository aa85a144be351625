-- `batches::instants::up_instants` meets its contract: 17 for the first list that is too short, or what `answer_all`
-- writes over the cleared lists.
use borrow.Author.Rules.{rules, sfits_of}
use mathlib.Core.Path.{◌≡◌, sym, ◌∙◌, ap}
use mathlib.Core.Bool.{Bool, true, false}
use mathlib.Core.List.{List, [], ◌∷◌}
use Prim.Native.Nat.{ℕ, ◌≤◌, ◌<◌, ◌^◌}
use native.Mathlib.Omega.{arith}
use lib.IntN.{ℤ}
use lib.ListN.{length}
use mir.Facts.{to_z-of_z}
use mir.Syntax.{w64}
use Rattle.integers.proofs.Machine.{plain}
use Rattle.calendar.specs.Meaning.{Row}
use Rattle.calendar.specs.Questions.{given, up_from_instant}
use Rattle.codes.specs.Codes.{refusal_code}
use Rattle.codes.proofs.Counts.{count-back}
use Rattle.questions_api.specs.Codes.{placed_code, placed_label, placed_place}
use Rattle.batches.specs.Left.{room, batch_code, answers_left}
use Rattle.batches.proofs.Lefts.{room-more, room-less, cleared-length, left-none, left-all}
use Rattle.batches.proofs.instants.up_instants.Goals as goal
use Rattle.batches.proofs.instants.up_instants.Goals.{After-answer_all, After-clear, After-clear-2, After-clear-3, After-places-1, Else-codes-ts, Else-labels-ts, Else-places-ts, Start}

abbrev start : After-places-1 → Start
start p = (goal.at.After-places-1 p).Start

abbrev row : Start → Row
row s = given s.args.period s.args.distance s.args.cells.now

abbrev code : Start → ℤ → ℤ
code s t = placed_code (up_from_instant (row s) t)

abbrev label : Start → ℤ → ℤ
label s t = placed_label (up_from_instant (row s) t)

abbrev place : Start → ℤ → ℤ
place s t = placed_place (up_from_instant (row s) t)

abbrev last-two : Start → List ℕ
last-two s = length s.args.labels.now ∷ length s.args.places.now ∷ []

abbrev last_one : Start → List ℕ
last_one s = length s.args.places.now ∷ []

abbrev asked : Start → ℕ
asked s = length s.args.ts.now

abbrev roomy : Start → Bool
roomy s = room (asked s) (length s.args.codes.now ∷ last-two s)

-- the lists are cleared
abbrev codes : After-places-1 → After-clear
codes p = (goal.at.After-places-1 p).After-clear

abbrev labels : After-places-1 → After-clear-2
labels p = (goal.at.After-places-1 p).After-clear-2

abbrev places : After-places-1 → After-clear-3
places p = (goal.at.After-places-1 p).After-clear-3

same-lengths : (p : After-places-1) → let s = start p in
    (length (codes p).clear.new.parts ≡ length s.args.codes.now) ×
    (length (labels p).clear-2.new.parts ≡ length s.args.labels.now) ×
    (length (places p).clear-3.new.parts ≡ length s.args.places.now)
same-lengths p =
    (cleared-length _ (codes p).clear.ensures, cleared-length _ (labels p).clear-2.ensures, cleared-length _ (places p).clear-3.ensures)

refusal : (s : Start) → roomy s ≡ false → refusal_code 17 ≡ batch_code (roomy s) s.args.ts.now
refusal s e = sym (ap (λ (b : Bool). batch_code b s.args.ts.now) e)

nothing : (p : After-places-1) → let s = start p in
    roomy s ≡ false
    → ((codes p).clear.new.parts ≡ answers_left (roomy s) (length s.args.codes.now) (code s) s.args.ts.now) ×
    (((labels p).clear-2.new.parts ≡ answers_left (roomy s) (length s.args.labels.now) (label s) s.args.ts.now) ×
    ((places p).clear-3.new.parts ≡ answers_left (roomy s) (length s.args.places.now) (place s) s.args.ts.now))
nothing p e =
    let s = start p in
    let ts = s.args.ts.now in (
      left-none (code s) ts _ e (codes p).clear.ensures,
      (left-none (label s) ts _ e (labels p).clear-2.ensures, left-none (place s) ts _ e (places p).clear-3.ensures),
    )

pub returns-then-codes-ts : goal.returns-then-codes-ts
returns-then-codes-ts c =
    let p = (goal.at.returns-then-codes-ts c).After-places-1 in
    let s = start p in
    let e : roomy s ≡ false = room-less (asked s) (length s.args.codes.now) (last-two s) (omega (arith, (same-lengths p).0, c.if-codes-ts.true)) in
    let n = nothing p e in
    record { answer = to_z-of_z {w = w64} (sfits_of c.refusal_code.type_inv) ∙ c.refusal_code.ensures ∙ refusal s e; codes = n.0; labels = n.1.0; places = n.1.1 }

pub returns-then-labels-ts : goal.returns-then-labels-ts
returns-then-labels-ts c =
    let d = (goal.at.returns-then-labels-ts c).Else-codes-ts in
    let p = (goal.at.Else-codes-ts d).After-places-1 in
    let s = start p in
    let k = same-lengths p in
    let e : roomy s ≡ false =
    room-more (asked s) (length s.args.codes.now) (last-two s) (omega (arith, k.0, d.if-codes-ts.false))
    ∙ room-less (asked s) (length s.args.labels.now) (last_one s) (omega (arith, k.1, c.if-labels-ts.true)) in
    let n = nothing p e in
    record { answer = to_z-of_z {w = w64} (sfits_of c.refusal_code-then-labels-ts.type_inv) ∙ c.refusal_code-then-labels-ts.ensures ∙ refusal s e; codes = n.0; labels = n.1.0; places = n.1.1 }

pub returns-then-places-ts : goal.returns-then-places-ts
returns-then-places-ts c =
    let d = (goal.at.returns-then-places-ts c).Else-labels-ts in
    let p = (goal.at.Else-labels-ts d).After-places-1 in
    let s = start p in
    let k = same-lengths p in
    let e : roomy s ≡ false =
    room-more (asked s) (length s.args.codes.now) (last-two s) (omega (arith, k.0, d.if-codes-ts.false))
    ∙ room-more (asked s) (length s.args.labels.now) (last_one s) (omega (arith, k.1, d.if-labels-ts.false))
    ∙ room-less (asked s) (length s.args.places.now) [] (omega (arith, k.2, c.if-places-ts.true)) in
    let n = nothing p e in
    record { answer = to_z-of_z {w = w64} (sfits_of c.refusal_code-then-places-ts.type_inv) ∙ c.refusal_code-then-places-ts.ensures ∙ refusal s e; codes = n.0; labels = n.1.0; places = n.1.1 }

pub returns : goal.returns
returns c =
    let a = (goal.at.returns c).After-answer_all in
    let d = (goal.at.After-answer_all a).Else-places-ts in
    let p = (goal.at.Else-places-ts d).After-places-1 in
    let s = start p in
    let f = s.ranges.period in
    let g = s.ranges.distance in
    let ts = s.args.ts.now in
    let k = same-lengths p in
    let in-codes : asked s ≤ length s.args.codes.now = omega (arith, k.0, d.if-codes-ts.false) in
    let in-labels : asked s ≤ length s.args.labels.now = omega (arith, k.1, d.if-labels-ts.false) in
    let in-places : asked s ≤ length s.args.places.now = omega (arith, k.2, d.if-places-ts.false) in
    let e : roomy s ≡ true = room-more _ _ (last-two s) in-codes ∙ room-more _ _ (last_one s) in-labels ∙ room-more _ _ [] in-places in
    let l = a.answer_all.ensures in
    let x = l.answers in
    let y = l.labels in
    let z = l.places in
    let few : asked s < 2 ^ 63 = search rules in
    record {
      answer = count-back _ few ∙ sym (ap (λ (b : Bool). batch_code b ts) e);
      codes = left-all (code s) ts _ e in-codes (codes p).clear.ensures (simp plain at x);
      labels = left-all (label s) ts _ e in-labels (labels p).clear-2.ensures (simp plain at y);
      places = left-all (place s) ts _ e in-places (places p).clear-3.ensures (simp plain at z);
    }
