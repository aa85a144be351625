-- `journal_api::record` meets its contract: what `journal::record` answers, and the list as it leaves it.
-- Assumes nothing.
use mathlib.Core.Path.{sym, ap, ◌∙◌}
use Prim.Native.Nat.{◌<◌, ◌^◌}
use native.Mathlib.Omega.{arith}
use Rattle.journal.proofs.Laying.{recorded-fit}
use Rattle.journal_api.specs.Codes.{record_code}
use Rattle.journal_api.proofs.Numbers.{number_fits, number-back}
use Rattle.journal_api.proofs.record.Goals as goal
use Rattle.journal_api.proofs.record.Goals.{In-Ok}

-- the count is below half of the numbers of 64 bits
small : (c : In-Ok) → c.in-Ok.n < 2 ^ 63
small c = omega (arith, recorded-fit c.record-recorded.ensures c.in-Ok.is, c.well_formed)

pub overflow_cast-result : goal.overflow_cast-result
overflow_cast-result c = number_fits _ (small c)

pub returns-in-Ok : goal.returns-in-Ok
returns-in-Ok c = record { code = number-back _ (small c) ∙ ap record_code (sym c.in-Ok.is ∙ c.record-recorded.ensures.answer); list = c.record-recorded.ensures.bytes }
