-- The numbers of an entry fit their width, so each is what the machine reads back from its bits.
-- Assumes nothing.
use mir.Syntax.{w32}
use mir.Val.{SFits}
use Rattle.entries.specs.declared.Entry.{Entry}

pub record Fields (e : Entry) : Type 0 where
  pub kind : SFits w32 e.kind
  pub first : SFits w32 e.first
  pub second : SFits w32 e.second
  pub x : SFits w32 e.x
  pub y : SFits w32 e.y
  pub z : SFits w32 e.z
