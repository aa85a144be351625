-- `steps_api::number_of` meets its contract.
-- Assumes nothing.
use mathlib.Core.Path.{sym, ◌∙◌, ap}
use Prim.Native.Nat.{◌<◌, ◌^◌}
use native.Mathlib.Omega.{arith}
use Rattle.steps.specs.declared.Progress.{Progress}
use Rattle.steps.specs.State.{progress_of}
use Rattle.steps_api.specs.Codes.{number}
use Rattle.steps_api.proofs.Numbers.{code, back}
use borrow.Author.Rules.{rules}
use Rattle.steps_api.proofs.number_of.Goals as goal

pub returns-in-Due : goal.returns-in-Due
returns-in-Due c =
    let small : c.in-Due.k < 2 ^ 32 = search rules in
    back c.in-Due.k (omega (arith, small)) ∙ sym (ap (λ (x : Progress). number (progress_of x)) c.in-Due.is)

pub returns-in-Done : goal.returns-in-Done
returns-in-Done c = sym (ap (λ (x : Progress). number (progress_of x)) c.in-Done.is)

pub returns-in-Refused : goal.returns-in-Refused
returns-in-Refused c =
    code c.in-Refused.m c.in-Refused.k (search rules) (search rules) ∙ sym (ap (λ (x : Progress). number (progress_of x)) c.in-Refused.is)
