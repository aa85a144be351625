-- `floats::whole_parts` meets its contract: v lies from low / 256 on and below high / 256.
use Prim.Native.Nat.{◌-◌, ◌*◌, ◌≤◌, ◌<◌}
use lib.Ieee.Positive.{num, den}
use Rattle.floats.proofs.whole_parts.Given as goal

abbrev pub invariant-loop-high : goal.invariant-loop-high
invariant-loop-high l =
    (l.low * den l.v ≤ num l.v * 256) × (num l.v * 256 < l.high * den l.v) × (l.low < l.high) × (l.high ≤ 257)

abbrev pub decreases-loop-high : goal.decreases-loop-high
decreases-loop-high l = l.high - l.low
