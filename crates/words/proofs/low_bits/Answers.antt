-- `words::low_bits` meets its contract.
-- Assumes nothing.
use mathlib.Core.Path.{ap}
use Prim.Native.Nat.{ℕ, ◌%◌}
use lib.Pow.{pow_pos}
use Rattle.words.proofs.Ones.{one_shl}
use Rattle.words.proofs.low_bits.Goals as goal

pub nonzero_rem-result : goal.nonzero_rem-result
nonzero_rem-result c = rw (one_shl c.args.k c.requires) (pow_pos c.args.k)

pub returns : goal.returns
returns c = ap (λ (n : ℕ). c.args.w % n) (one_shl c.args.k c.requires)
