-- Questions to two rows, in terms of the calendars that they mean: what is asked, and what the parts of a granule are.
use Rattle.std.specs.Prelude.{◌≡◌, true, ℤ}
use Rattle.std.proofs.Math.Option.{some}
use Rattle.calendar.specs.Limits.{in_range}
use Rattle.calendar.specs.Meaning.{Row, meant, Has, Inside}
use Rattle.calendar.specs.Sound.{sound}

-- both rows pass rule 13
abbrev pub Handed : Row → Row → Type 0
Handed r s = (sound r ≡ true) × (sound s ≡ true)

-- a question about the granule z of r that rules 13, 14 and 15 let pass: not "a given instant or label outside ±1,000,000,000",
-- and not "the given label isn't one of that calendar"
pub record Asked (r s : Row) (z : ℤ) : Type 0 where
  pub rows : Handed r s
  pub in-range : in_range z ≡ true
  pub is-label : Has (meant r) z

-- "the labels of g's slots inside it": k is one of them, of the granule z of h
abbrev pub Part : Row → Row → ℤ → ℤ → Type 0
Part h g z k = Has (meant g) k × Inside (meant g) k (meant h) z

-- "the parts don't make up the whole slot" is not the case: each instant of the granule z of h is in a part
abbrev pub MadeUp : Row → Row → ℤ → Type 0
MadeUp h g z = (u : ℤ) → meant h u ≡ some z → (k : ℤ) × (meant g u ≡ some k) × Inside (meant g) k (meant h) z
