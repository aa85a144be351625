-- Where a coarse granule begins: an instant of its first fine granule.
use Rattle.std.specs.Prelude.{◌≡◌, ℤ}
use Rattle.std.proofs.Math.Option.{some}
use Rattle.calendar.specs.Meaning.{Row, meant}
use Rattle.calendar.specs.Lists.{first}
use Rattle.calendar.specs.Granules.{meeting}
use Rattle.cursors.specs.Cursor.{cursor_at}
use Rattle.containment.specs.Places.{instant}
use Rattle.alter_granules.specs.declared.coarse.Begin.{Begin}

-- the instant of its cursors
abbrev pub at : Row → Begin → ℤ
at b c = instant b c.b

-- it is an instant of the granule i of b and of a's granule p, the first that meets i
pub record CoarseBegins (a b : Row) (c : Begin) : Type 0 where
  pub a-cursor : c.a ≡ cursor_at a (at b c)
  pub b-cursor : c.b ≡ cursor_at b (at b c)
  pub a-label : meant a (at b c) ≡ some c.p
  pub b-label : meant b (at b c) ≡ some c.i
  pub is-first : c.p ≡ first (meeting a b c.i)
