-- `sizes::span` meets its contract: the span is a least common multiple.
use Rattle.calendar.specs.Size.{span_of}
use Rattle.sizes.proofs.span.Goals as goal

pub returns : goal.returns
unfolding span_of
returns c = c.capped_lcm.ensures
