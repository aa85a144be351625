-- `batches::slots::up_granules` meets its contract: 17 for the first list that is too short, or what `answer_all` writes
-- over the cleared lists.
use borrow.Author.Rules.{rules, sfits_of}
use mathlib.Core.Path.{◌≡◌, sym, ◌∙◌, ap}
use mathlib.Core.Bool.{Bool, true, false}
use mathlib.Core.List.{List, [], ◌∷◌}
use Prim.Native.Nat.{ℕ, ◌≤◌, ◌<◌, ◌^◌}
use native.Mathlib.Omega.{arith}
use lib.IntN.{ℤ}
use lib.ListN.{length}
use mir.Facts.{to_z-of_z}
use mir.Syntax.{w64}
use Rattle.integers.proofs.Machine.{plain}
use Rattle.calendar.specs.Meaning.{Row}
use Rattle.calendar.specs.Questions.{given, up_from_granule}
use Rattle.codes.specs.Codes.{refusal_code}
use Rattle.codes.proofs.Counts.{count-back}
use Rattle.questions_api.specs.Codes.{up_code, up_label}
use Rattle.batches.specs.Left.{room, batch_code, answers_left}
use Rattle.batches.proofs.Lefts.{room-more, room-less, cleared-length, left-none, left-all}
use Rattle.batches.proofs.slots.up_granules.Goals as goal
use Rattle.batches.proofs.slots.up_granules.Goals.{After-answer_all, After-clear, After-clear-2, After-labels-1, Else-codes-zs, Else-labels-zs, Start}

abbrev start : After-labels-1 → Start
start p = (goal.at.After-labels-1 p).Start

abbrev g-row : Start → Row
g-row s = given s.args.g_period s.args.g_distance s.args.g_cells.now

abbrev h-row : Start → Row
h-row s = given s.args.h_period s.args.h_distance s.args.h_cells.now

abbrev code : Start → ℤ → ℤ
code s z = up_code (up_from_granule (g-row s) (h-row s) z)

abbrev label : Start → ℤ → ℤ
label s z = up_label (up_from_granule (g-row s) (h-row s) z)

abbrev asked : Start → ℕ
asked s = length s.args.zs.now

abbrev last_one : Start → List ℕ
last_one s = length s.args.labels.now ∷ []

abbrev roomy : Start → Bool
roomy s = room (asked s) (length s.args.codes.now ∷ last_one s)

-- the lists are cleared
abbrev codes : After-labels-1 → After-clear
codes p = (goal.at.After-labels-1 p).After-clear

abbrev labels : After-labels-1 → After-clear-2
labels p = (goal.at.After-labels-1 p).After-clear-2

same-lengths : (p : After-labels-1) → let s = start p in
    (length (codes p).clear.new.parts ≡ length s.args.codes.now) ×
    (length (labels p).clear-2.new.parts ≡ length s.args.labels.now)
same-lengths p = (cleared-length _ (codes p).clear.ensures, cleared-length _ (labels p).clear-2.ensures)

refusal : (s : Start) → roomy s ≡ false → refusal_code 17 ≡ batch_code (roomy s) s.args.zs.now
refusal s e = sym (ap (λ (b : Bool). batch_code b s.args.zs.now) e)

nothing : (p : After-labels-1) → let s = start p in
    roomy s ≡ false
    → ((codes p).clear.new.parts ≡ answers_left (roomy s) (length s.args.codes.now) (code s) s.args.zs.now) ×
    ((labels p).clear-2.new.parts ≡ answers_left (roomy s) (length s.args.labels.now) (label s) s.args.zs.now)
nothing p e =
    let s = start p in
    let zs = s.args.zs.now in
    (left-none (code s) zs _ e (codes p).clear.ensures, left-none (label s) zs _ e (labels p).clear-2.ensures)

pub returns-then-codes-zs : goal.returns-then-codes-zs
returns-then-codes-zs c =
    let p = (goal.at.returns-then-codes-zs c).After-labels-1 in
    let s = start p in
    let e : roomy s ≡ false =
    room-less (asked s) (length s.args.codes.now) (last_one s) (omega (arith, (same-lengths p).0, c.if-codes-zs.true)) in
    let n = nothing p e in
    record { answer = to_z-of_z {w = w64} (sfits_of c.refusal_code.type_inv) ∙ c.refusal_code.ensures ∙ refusal s e; codes = n.0; labels = n.1 }

pub returns-then-labels-zs : goal.returns-then-labels-zs
returns-then-labels-zs c =
    let d = (goal.at.returns-then-labels-zs c).Else-codes-zs in
    let p = (goal.at.Else-codes-zs d).After-labels-1 in
    let s = start p in
    let k = same-lengths p in
    let e : roomy s ≡ false =
    room-more (asked s) (length s.args.codes.now) (last_one s) (omega (arith, k.0, d.if-codes-zs.false))
    ∙ room-less (asked s) (length s.args.labels.now) [] (omega (arith, k.1, c.if-labels-zs.true)) in
    let n = nothing p e in
    record { answer = to_z-of_z {w = w64} (sfits_of c.refusal_code-then-labels-zs.type_inv) ∙ c.refusal_code-then-labels-zs.ensures ∙ refusal s e; codes = n.0; labels = n.1 }

pub returns : goal.returns
returns c =
    let a = (goal.at.returns c).After-answer_all in
    let d = (goal.at.After-answer_all a).Else-labels-zs in
    let p = (goal.at.Else-labels-zs d).After-labels-1 in
    let s = start p in
    let f = s.ranges.g_period in
    let g = s.ranges.g_distance in
    let q = s.ranges.h_period in
    let m = s.ranges.h_distance in
    let zs = s.args.zs.now in
    let k = same-lengths p in
    let in-codes : asked s ≤ length s.args.codes.now = omega (arith, k.0, d.if-codes-zs.false) in
    let in-labels : asked s ≤ length s.args.labels.now = omega (arith, k.1, d.if-labels-zs.false) in
    let e : roomy s ≡ true = room-more _ _ (last_one s) in-codes ∙ room-more _ _ [] in-labels in
    let x = a.answer_all.ensures.answers in
    let y = a.answer_all.ensures.labels in
    let few : asked s < 2 ^ 63 = search rules in
    record {
      answer = count-back _ few ∙ sym (ap (λ (b : Bool). batch_code b zs) e);
      codes = left-all (code s) zs _ e in-codes (codes p).clear.ensures (simp plain at x);
      labels = left-all (label s) zs _ e in-labels (labels p).clear-2.ensures (simp plain at y);
    }
