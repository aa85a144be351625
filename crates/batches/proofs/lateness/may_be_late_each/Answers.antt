-- `batches::lateness::may_be_late_each` meets its contract: 17 for a list that is too short, or what `answer_all` writes
-- over the cleared list.
use borrow.Author.Rules.{rules, sfits_of}
use mathlib.Core.Path.{◌≡◌, sym, ◌∙◌, ap}
use mathlib.Core.Bool.{Bool, true, false}
use mathlib.Core.List.{[], ◌∷◌}
use Prim.Native.Nat.{ℕ, ◌≤◌, ◌<◌, ◌^◌}
use native.Mathlib.Omega.{arith}
use lib.IntN.{ℤ}
use lib.ListN.{length}
use mir.Facts.{to_z-of_z}
use mir.Syntax.{w64}
use Rattle.integers.proofs.Machine.{plain}
use Rattle.calendar.specs.Questions.{given}
use Rattle.codes.proofs.Counts.{count-back}
use Rattle.questions.specs.Answers.{may_be_late}
use Rattle.questions_api.specs.Codes.{late_code}
use Rattle.batches.specs.Left.{room, batch_code}
use Rattle.batches.proofs.Lefts.{room-more, room-less, cleared-length, left-none, left-all}
use Rattle.batches.proofs.lateness.may_be_late_each.Goals as goal
use Rattle.batches.proofs.lateness.may_be_late_each.Goals.{After-answer_all, After-codes-1, Else-codes-zs, Start}

abbrev start : After-codes-1 → Start
start p = (goal.at.After-codes-1 p).Start

abbrev code : Start → ℤ → ℤ
code s z = late_code (may_be_late (given s.args.period s.args.distance s.args.cells.now) z s.args.d s.args.allowance)

abbrev asked : Start → ℕ
asked s = length s.args.zs.now

abbrev roomy : Start → Bool
roomy s = room (asked s) (length s.args.codes.now ∷ [])

-- the list is cleared
same-length-cleared : (p : After-codes-1) → length p.clear.new.parts ≡ length (start p).args.codes.now
same-length-cleared p = cleared-length _ p.clear.ensures

pub returns-then-codes-zs : goal.returns-then-codes-zs
returns-then-codes-zs c =
    let p = (goal.at.returns-then-codes-zs c).After-codes-1 in
    let s = start p in
    let zs = s.args.zs.now in
    let e : roomy s ≡ false =
    room-less (asked s) (length s.args.codes.now) [] (omega (arith, same-length-cleared p, c.if-codes-zs.true)) in
    record {
      answer = to_z-of_z {w = w64} (sfits_of c.refusal_code.type_inv) ∙ c.refusal_code.ensures ∙ sym (ap (λ (b : Bool). batch_code b zs) e);
      codes = left-none (code s) zs _ e p.clear.ensures;
    }

pub returns : goal.returns
returns c =
    let a = (goal.at.returns c).After-answer_all in
    let k = (goal.at.After-answer_all a).Else-codes-zs in
    let p = (goal.at.Else-codes-zs k).After-codes-1 in
    let s = start p in
    let f = s.ranges.period in
    let g = s.ranges.distance in
    let h = s.ranges.d in
    let zs = s.args.zs.now in
    let in-codes : asked s ≤ length s.args.codes.now = omega (arith, same-length-cleared p, k.if-codes-zs.false) in
    let e : roomy s ≡ true = room-more _ _ [] in-codes in
    let x = a.answer_all.ensures in
    let few : asked s < 2 ^ 63 = search rules in
    record {
      answer = count-back _ few ∙ sym (ap (λ (b : Bool). batch_code b zs) e);
      codes = left-all (code s) zs _ e in-codes p.clear.ensures (simp plain at x);
    }
