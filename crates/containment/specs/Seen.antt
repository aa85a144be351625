-- What an instant says to a walk over a granule of a for the granules of b that it meets.
use Rattle.std.specs.Prelude.{◌≡◌, ℤ}
use Rattle.std.proofs.Math.Option.{none, some}
use Rattle.calendar.specs.Meaning.{Row, meant}
use Rattle.containment.specs.declared.seen.Seen.{Seen}
use Rattle.containment.specs.declared.seen.Seen.TheVariants.{Off, Bare, Over, Of}

-- what the instant t says of a's granule j
abbrev pub SeenAt : Row → Row → ℤ → ℤ → Seen → Type 0
SeenAt a b j t Off = meant a t ≡ none
SeenAt a b j t Bare = (meant a t ≡ some j) × (meant b t ≡ none)
SeenAt a b j t Over = (k : ℤ) × (meant a t ≡ some k) × (k ≡ j → ⊥)
SeenAt a b j t (Of i) = (meant a t ≡ some j) × (meant b t ≡ some i)
