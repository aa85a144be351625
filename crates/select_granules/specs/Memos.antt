-- What a scan remembers of the granules that it met last.
use Rattle.std.specs.Prelude.{◌≡◌, Bool, true, false, ◌&&◌, List, ℤ, pos, ◌≤ℤ◌}
use Rattle.std.specs.Int.Signed.{le_z}
use Rattle.integers.specs.Parts.{up}
use Rattle.calendar.specs.Meaning.{Row}
use Rattle.calendar.specs.Algebra.{pick}
use Rattle.calendar.specs.Lists.{any, equal}
use Rattle.candidates.specs.Tallies.{candidates}
use Rattle.kinds.specs.declared.Pick.{Pick}
use Rattle.select_granules.specs.declared.Picked.{Picked}
use Rattle.kinds.specs.declared.Selection.{Selection}
use Rattle.kinds.specs.declared.Selection.TheVariants.{Down, Up, Intersecting}

-- a test as a number: 1 where it holds, 0 where not
abbrev pub flag_of : Bool → ℤ
flag_of true = pos 1
flag_of false = pos 0

-- j is among what was picked
abbrev pub taken : Picked → ℤ → Bool
taken m j = le_z m.low j && le_z j m.high

-- what is picked for b's granule i
abbrev pub picked_of : ℤ → ℤ → ℤ → Picked
picked_of i low high = record { known = pos 1; of = i; low = low; high = high }

-- Pick takes of l what was picked; where anything is, the first and the last of it are in l
pub record Picks (p : Pick) (l : List ℤ) (m : Picked) : Type 0 where
  pub takes : (j : ℤ) → any (equal j) (pick p.x (up p.y) l) ≡ (any (equal j) l && taken m j)
  pub ends : m.low ≤ℤ m.high → (any (equal m.low) l ≡ true) × (any (equal m.high) l ≡ true)

-- what is remembered of Pick is so
abbrev pub Recalls : Pick → Bool → Row → Row → Picked → Type 0
Recalls p whole a b m = m.known ≡ pos 1 → Picks p (candidates whole a b m.of) m

abbrev pub Remembers : Selection → Row → Row → Picked → Type 0
Remembers (Down p) a b m = Recalls p true a b m
Remembers Up a b m = Unit {0}
Remembers (Intersecting p) a b m = Recalls p false a b m
