-- When the computed outcome of a conversion is what the table means.
use Rattle.std.specs.Prelude.{◌≡◌, List, [], ◌∷◌}
use Rattle.calendar.specs.Meaning.{Row}
use Rattle.calendar.specs.Outcome.{Outcome}
use Rattle.algebra.specs.TableMeaning.{Meant, TableReply}
use Rattle.algebra.specs.TableMeaning.TableReply.{refused_at, means}
use Rattle.algebra.specs.Represents.{Represents}

-- one by one
abbrev pub RepresentsAll : List Meant → List Row → Type 0
RepresentsAll [] [] = Unit {0}
RepresentsAll [] (r ∷ rs) = ⊥
RepresentsAll (m ∷ ms) [] = ⊥
RepresentsAll (m ∷ ms) (r ∷ rs) = Represents m r × RepresentsAll ms rs

-- the outcome of a conversion is what the table means: the same refusal at the same entry, or the least rows of the calendars
abbrev pub Agrees : TableReply → Outcome → Type 0
Agrees (refused_at m k) (Outcome.refused_at n l) = (m ≡ n) × (k ≡ l)
Agrees (refused_at m k) (Outcome.rows rs) = ⊥
Agrees (means ms) (Outcome.refused_at n l) = ⊥
Agrees (means ms) (Outcome.rows rs) = RepresentsAll ms rs
