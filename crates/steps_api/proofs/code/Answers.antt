-- `steps_api::code` meets its contract.
-- Assumes nothing.
use mathlib.Core.Path.{sym, ◌∙◌, ap}
use Rattle.steps.specs.declared.Progress.{Progress}
use Rattle.steps.specs.State.{progress_of}
use Rattle.steps_api.specs.Codes.{progress_code}
use Rattle.steps_api.proofs.Numbers.{code}
use borrow.Author.Rules.{rules}
use Rattle.steps_api.proofs.code.Goals as goal

pub returns-in-Due : goal.returns-in-Due
returns-in-Due c = sym (ap (λ (x : Progress). progress_code (progress_of x)) c.in-Due.is)

pub returns-in-Done : goal.returns-in-Done
returns-in-Done c = sym (ap (λ (x : Progress). progress_code (progress_of x)) c.in-Done.is)

pub returns-in-Refused : goal.returns-in-Refused
returns-in-Refused c =
    code c.in-Refused.m c.in-Refused.k (search rules) (search rules) ∙ sym (ap (λ (x : Progress). progress_code (progress_of x)) c.in-Refused.is)
