-- `civil_api::date` meets its contract: what `dates::date_of` answers, or its refusal and zeros.
-- Assumes nothing.
use borrow.Author.Rules.{rules, sfits_of}
use mathlib.Core.Path.{◌≡◌, sym, ◌∙◌, ap}
use Prim.Native.Nat.{ℕ, ◌<◌, ◌^◌}
use native.Mathlib.Omega.{arith}
use lib.IntN.{pos}
use mir.Facts.{to_z-of_z}
use mir.Syntax.{w64}
use mir.Val.{to_z}
use Rattle.integers.proofs.Machine.{plain}
use Rattle.calendar.specs.Reply.{Reply}
use Rattle.civil.specs.Rule.{Date}
use Rattle.civil.specs.Asked.{date_reply}
use Rattle.dates.specs.Answers.{dated_reply}
use Rattle.civil_api.specs.Codes.{date_code, date_left}
use Rattle.civil_api.proofs.date.Goals as goal
use Rattle.civil_api.proofs.date.Goals.{After-date_of-dated}

-- an unsigned number of 32 bits reads back
reads-back : (n : ℕ) → n < 2 ^ 63 → to_z w64 n ≡ pos n
reads-back n h = simp plain

replied : (c : After-date_of-dated) → dated_reply c.date_of-dated.result ≡ date_reply c.args.t
replied c = let t = c.ranges.t in simp plain at c.date_of-dated.ensures

pub returns-in-Ok : goal.returns-in-Ok
returns-in-Ok c =
    let e = sym (ap dated_reply c.in-Ok.is) ∙ replied (goal.at.returns-in-Ok c).After-date_of-dated in
    let d = c.in-Ok.d in
    record {
      code = ap date_code e;
      year = to_z-of_z {w = w64} (search rules) ∙ ap (λ (r : Reply Date). (date_left r).year) e;
      month = reads-back d.month (omega arith) ∙ ap (λ (r : Reply Date). pos (date_left r).month) e;
      day = reads-back d.day (omega arith) ∙ ap (λ (r : Reply Date). pos (date_left r).day) e;
    }

pub returns-in-Err : goal.returns-in-Err
returns-in-Err c =
    let e = sym (ap dated_reply c.in-Err.is) ∙ replied (goal.at.returns-in-Err c).After-date_of-dated in
    record {
      code = to_z-of_z {w = w64} (sfits_of c.refusal_code.type_inv) ∙ c.refusal_code.ensures ∙ ap date_code e;
      year = ap (λ (r : Reply Date). (date_left r).year) e;
      month = ap (λ (r : Reply Date). pos (date_left r).month) e;
      day = ap (λ (r : Reply Date). pos (date_left r).day) e;
    }
