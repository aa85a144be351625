-- `floats::quotient` meets its contract.
use mathlib.Core.Path.{refl}
use native.Mathlib.Omega.{arith}
use Rattle.floats.proofs.Whole.{cast_fits}
use Rattle.floats.proofs.Division as law
use Rattle.floats.proofs.quotient.Goals as goal

pub int_to_float-result : goal.int_to_float-result
int_to_float-result c = cast_fits _ (omega arith)

pub int_to_float-result-2 : goal.int_to_float-result-2
int_to_float-result-2 c = cast_fits _ (omega arith)

pub returns : goal.returns
returns c = record {
  is = refl;
  near = law.near _ _ (omega arith) (omega arith) (omega arith);
  exact = law.exact _ _ (omega arith) (omega arith) (omega arith);
}
