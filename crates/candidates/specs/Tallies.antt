-- The granules of a in question for one granule of b, and the walk over it that counts them and notes those at some positions.
use Rattle.std.specs.Prelude.{◌≡◌, ◌⊎◌, Bool, true, false, List, [], ◌∷◌, ℤ, pos, length}
use Rattle.std.proofs.Math.Option.{none, some}
use Rattle.calendar.specs.Meaning.{Row, meant}
use Rattle.calendar.specs.Algebra.{positions}
use Rattle.calendar.specs.Lists.{last}
use Rattle.calendar.specs.Granules.{inside, within, meeting}
use Rattle.candidates.specs.declared.Tally.{Tally}
use Rattle.candidates.specs.declared.candidate.Candidate.{Candidate}
use Rattle.candidates.specs.declared.candidate.Candidate.TheVariants.{Nothing, Passed, Next, End}

-- the labels of a's granules in question for b's granule i: those inside it, or those that meet it
abbrev pub candidates : Bool → Row → Row → ℤ → List ℤ
candidates true a b i = within a b i
candidates false a b i = meeting a b i

-- a's granule j, which meets b's granule i, is in question: it lies in it, or need not
abbrev pub counts : Bool → Row → Row → ℤ → ℤ → Bool
counts true a b i j = inside a j b i
counts false a b i j = true

-- j is not the label looked at last
abbrev pub New : Bool → ℤ → ℤ → Type 0
New looked latest j = (looked ≡ false) ⊎ (j ≡ latest → ⊥)

-- what an instant t says of the granules in question for b's granule i, the label looked at last being `latest`, if there is one
abbrev pub CandidateAt : Bool → Row → Row → ℤ → ℤ → Bool → ℤ → Candidate → Type 0
CandidateAt whole a b i t looked latest Nothing =
    (meant b t ≡ none) ⊎ ((meant b t ≡ some i) × ((meant a t ≡ none) ⊎ ((looked ≡ true) × (meant a t ≡ some latest))))
CandidateAt whole a b i t looked latest (Passed j) = (meant b t ≡ some i) × ((meant a t ≡ some j) × (New looked latest j × (counts whole a b i j ≡ false)))
CandidateAt whole a b i t looked latest (Next j) = (meant b t ≡ some i) × ((meant a t ≡ some j) × (New looked latest j × (counts whole a b i j ≡ true)))
CandidateAt whole a b i t looked latest End = (k : ℤ) × (meant b t ≡ some k) × (k ≡ i → ⊥)

abbrev pub first_or : ℤ → List ℤ → ℤ
first_or d [] = d
first_or d (j ∷ l) = j

abbrev pub last_or : ℤ → List ℤ → ℤ
last_or d [] = d
last_or d (j ∷ l) = last (j ∷ l)

-- how many members the rising list l has, and the least and the greatest of those at the positions low to high, or 1 and 0 where there are none
unfoldable pub tally_of : ℤ → ℤ → List ℤ → Tally
tally_of low high l =
    let m = positions low high (pos 1) l in
    record { count = pos (length l); low = first_or (pos 1) m; high = last_or (pos 0) m }
