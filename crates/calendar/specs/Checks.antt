-- The checks of an entry's operands and of its working row, as tests that compute.
use Rattle.std.proofs.Math.Option.{Option, none, some}
use Rattle.std.specs.Prelude.{Bool, true, false, not, ◌&&◌, ◌||◌, ℕ, zero, suc, ◌*◌, eqb, ℤ, pos, ◌-ℤ◌}
use Rattle.std.specs.Int.Signed.{le_z, lt_z}
use Rattle.calendar.specs.Limits.{in_range}
use Rattle.calendar.specs.Meaning.{Row, meant}
use Rattle.calendar.specs.Operation.{Binary, Operation, Alignment, alignment, full_unary, full_binary}
use Rattle.calendar.specs.Operation.Binary.{alter, combine, anchor, select, by-labels}
use Rattle.calendar.specs.Operation.Operation.{bottom, unary, binary}
use Rattle.calendar.specs.Operation.Alignment.{free, partition, subcalendar, compatible}
use Rattle.calendar.specs.Lists.{any, all, from, equal, is_some, is, same_label, if_label}
use Rattle.calendar.specs.Granules.{full}
use Rattle.calendar.specs.Size.{turn, span_of, rise, coarse}
use Rattle.calendar.specs.Distance.{size}
use Rattle.calendar.specs.Compute.{first_fine, last_fine, result}

-- ---- full operands (check 7)

abbrev pub full_first : ℕ → Row → Row → Bool
full_first zero a b = true
full_first (suc zero) a b = full a
full_first (suc (suc n)) a b = full a && full b

unfoldable pub full_operands : Operation Row → Bool
unfolding full
full_operands bottom = true
full_operands (unary u a) = full_first (full_unary u) a a
full_operands (binary o a b) = full_first (full_binary o) a b

-- ---- aligned operands (check 9): each test is over two instants, t and u

-- the same instants are labelled, and what is one granule in a is one in b
abbrev pub partitions : Row → Row → ℤ → ℤ → Bool
partitions a b t u =
    elim (meant a t) [ none ↦ not (is_some (meant b t)) | some j ↦ is_some (meant b t) && (not (is j (meant a u)) || same_label (meant b t) (meant b u)) ]

-- the granule of b at t is the one of a with that label
abbrev pub is_subcalendar : Row → Row → ℤ → ℤ → Bool
is_subcalendar a b t u = if_label (meant b t) λ j. is j (meant a t) && (not (is j (meant a u)) || is j (meant b u))

-- a's label at t and b's at u are in order, and if they are equal both instants have it in both
abbrev pub agrees : Row → Row → ℤ → ℤ → Bool
agrees a b t u =
    if_label (meant a t) λ i. if_label (meant b u) λ j.
    (not (le_z t u) || le_z i j) && ((not (le_z u t) || le_z j i) && (not (equal i j) || (is i (meant b t) && is i (meant a u))))

-- the test passes at each t of one span and each u at most a span away. That decides it for all instants: of a
-- partition always, of the others where the labels rise alike
abbrev pub everywhere : Row → Row → (ℤ → ℤ → Bool) → Bool
everywhere a b f = let s = span_of (turn a) (turn b) in all (λ t. all (f t) (from (t -ℤ pos s) (suc (2 * s)))) (from (pos 0) s)

abbrev pub rise_alike : Row → Row → Bool
rise_alike a b = let s = span_of (turn a) (turn b) in eqb (rise (turn a) s) (rise (turn b) s)

abbrev pub aligned_as : Alignment → Row → Row → Bool
aligned_as free a b = true
aligned_as partition a b = everywhere a b (partitions a b)
aligned_as subcalendar a b = rise_alike a b && everywhere a b (is_subcalendar a b)
aligned_as compatible a b = rise_alike a b && everywhere a b (agrees a b)

unfoldable pub aligned : Operation Row → Bool
unfolding meant span_of
aligned bottom = true
aligned (unary u a) = true
aligned (binary o a b) = aligned_as (alignment o) a b

-- ---- emptied granules (check 10): after n coarse granules the altering repeats

abbrev pub emptied_by : Binary → Row → Row → Bool
emptied_by (alter x y z) a b = any (λ i. lt_z (last_fine a b x y z i) (first_fine a b x y z i)) (from (pos 0) (coarse (turn a) (turn b) x))
emptied_by combine a b = false
emptied_by anchor a b = false
emptied_by (select s) a b = false
emptied_by (by-labels s) a b = false

unfoldable pub emptied : Operation Row → Bool
unfolding first_fine last_fine coarse
emptied bottom = false
emptied (unary u a) = false
emptied (binary o a b) = emptied_by o a b

-- ---- the labels of the working row (checks 12 and 11)

-- the test passes at each instant of the working row
abbrev pub throughout : Operation Row → (Option ℤ → Bool) → Bool
throughout o f = all (λ t. f (result o t)) (from (pos 0) (size o).period)

-- "no instant is labelled"
unfoldable pub unlabelled : Operation Row → Bool
unfolding result size
unlabelled o = throughout o (λ l. not (is_some l))

-- no "label in the working row outside ±1,000,000,000"
unfoldable pub labels_in_range : Operation Row → Bool
unfolding result size
labels_in_range o = throughout o (λ l. if_label l in_range)
