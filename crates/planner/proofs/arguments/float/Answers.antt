-- `planner::arguments::float` is safe: the number has a float of its own.
use native.Mathlib.Omega.{arith}
use Rattle.floats.proofs.Whole.{cast_fits}
use Rattle.planner.proofs.arguments.float.Goals as goal

pub int_to_float-result : goal.int_to_float-result
int_to_float-result c = cast_fits _ (omega arith)
