-- `steps_api::stage_of` meets its contract.
-- Assumes nothing.
use mathlib.Core.Path.{sym, ap}
use Rattle.steps.specs.declared.Progress.{Progress}
use Rattle.steps.specs.State.{progress_of}
use Rattle.steps_api.specs.Codes.{stage}
use Rattle.steps_api.proofs.stage_of.Goals as goal

pub returns-in-Due : goal.returns-in-Due
returns-in-Due c = sym (ap (λ (x : Progress). stage (progress_of x)) c.in-Due.is)

pub returns-in-Done : goal.returns-in-Done
returns-in-Done c = sym (ap (λ (x : Progress). stage (progress_of x)) c.in-Done.is)

pub returns-in-Refused : goal.returns-in-Refused
returns-in-Refused c = sym (ap (λ (x : Progress). stage (progress_of x)) c.in-Refused.is)
