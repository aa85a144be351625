-- `questions_api::told::of_placing` meets its contract, arm by arm.
use Rattle.std.specs.Prelude.{Ok}
use borrow.Author.Rules.{rules, sfits_of}
use mathlib.Core.Path.{◌≡◌, sym, ◌∙◌, ap, subst}
use mathlib.Core.Option.{Option, some}
use Prim.Native.Nat.{ℕ, ◌<◌, ◌^◌}
use native.Mathlib.Omega.{arith}
use lib.IntN.{ℤ, pos}
use lib.Signed.{◌≤ℤ◌}
use mir.Facts.{to_z-of_z}
use mir.Syntax.{w64}
use mir.Val.{SFits}
use Rattle.integers.proofs.Linear.{ints, ◌∴◌}
use Rattle.calendar.specs.Reply.{Reply}
use Rattle.calendar.specs.Reply.Reply.{answer}
use Rattle.calendar.specs.Limits.{pool_limit}
use Rattle.calendar.specs.Questions.{Placed}
use Rattle.codes.proofs.Counts.{count_fits, count-back}
use Rattle.questions.specs.Answers.{placed_reply}
use Rattle.questions_api.specs.Codes.{placed_code, placed_label, placed_place}
use Rattle.questions_api.proofs.told.of_placing.Goals as goal

-- a place that is told fits
small : {r : Reply (Option Placed)} (j : ℤ) (n : ℕ) → answer (some (record { label = j; place = n })) ≡ r → placed_place r ≤ℤ pos pool_limit → n < 2 ^ 63
small j n e h = subst (λ (r : Reply (Option Placed)). placed_place r ≤ℤ pos pool_limit) (sym e) h ∴ simp ints (omega arith)

pub overflow_cast-place : goal.overflow_cast-place
overflow_cast-place c =
    count_fits _ (small _ _ (sym (ap placed_reply (c.in-Ok-Some.is ∙ ap Ok (rw c.in-Ok-Some.is at c.in-Ok-Some.field-0-is)))) c.requires)

pub returns-in-Ok-Some : goal.returns-in-Ok-Some
returns-in-Ok-Some c =
    let e = sym (ap placed_reply (c.in-Ok-Some.is ∙ ap Ok (rw c.in-Ok-Some.is at c.in-Ok-Some.field-0-is))) in
    let f : SFits w64 c.in-Ok-Some.j = search rules in
    record { code = ap placed_code e; label = to_z-of_z f ∙ ap placed_label e; place = count-back _ (small _ _ e c.requires) ∙ ap placed_place e }

pub returns-in-Ok-None : goal.returns-in-Ok-None
returns-in-Ok-None c =
    let e = sym (ap placed_reply (c.in-Ok-None.is ∙ ap Ok (rw c.in-Ok-None.is at c.in-Ok-None.field-0-is))) in
    record { code = ap placed_code e; label = ap placed_label e; place = ap placed_place e }

pub returns-in-Err : goal.returns-in-Err
returns-in-Err c =
    let e = sym (ap placed_reply c.in-Err.is) in
    record { code = to_z-of_z {w = w64} (sfits_of c.refusal_code.type_inv) ∙ c.refusal_code.ensures ∙ ap placed_code e; label = ap placed_label e; place = ap placed_place e }
