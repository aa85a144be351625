-- A loop that compares a claimed row with the working row of an operation over rows of the pool: what it asks at an instant, and what it answers.
-- Assumes nothing.
use Rattle.calendar.specs.declared.Refusal.TheVariants.{NothingLabelled, LabelOutsideLimits}
use Rattle.calendar.specs.declared.Refusal.{Refusal}
use Rattle.std.specs.Prelude.{Err, Ok, Result, Bool, true}
use mathlib.Core.Path.{◌≡◌, ◌∙◌}
use mathlib.Core.Option.{Option}
use mathlib.Core.Bool.{false, cond}
use mathlib.Core.List.{List}
use Prim.Native.Nat.{ℕ, ◌^◌, ◌≤◌, ◌<◌}
use native.Mathlib.Omega.{arith}
use lib.IntN.{ℤ, pos}
use lib.Signed.{◌<ℤ◌}
use mir.Syntax.{w64}
use mir.Val.{to_z}
use mir.ValLaws.{to_z_pos}
use Rattle.integers.proofs.Linear.{ints}
use Rattle.calendar.specs.Meaning.{Row}
use Rattle.calendar.specs.Operation.{Operation}
use Rattle.calendar.specs.Lists.{if_label}
use Rattle.calendar.specs.Limits.{in_range, pool_limit}
use Rattle.calendar.specs.Distance.{size}
use Rattle.calendar.specs.Compute.{result}
use Rattle.granules.proofs.Sound.{sound-valid}
use Rattle.cursors.specs.Cursor.{Standing}
use Rattle.kinds.specs.declared.Kind.{Kind}
use Rattle.kinds.specs.declared.Operand.{Operand}
use Rattle.kinds.specs.Stands.{row_in}
use Rattle.fill_shared.specs.Placed.{over}
use Rattle.match_shared.specs.declared.Comparing.{Comparing}
use Rattle.match_shared.specs.Matching.{matched_as}
use Rattle.match_shared.specs.Claims.{Claimed}
use Rattle.match_shared.specs.Seen.{Compares}
use Rattle.match_shared.proofs.Seen.{seen-matched, seen-outside}

module _ {k : Kind} {a b r : Operand} {span : ℤ} {period : ℕ} {pool : List ℤ} (h : Claimed k a b r span period pool) where
  abbrev o : Operation Row
  o = over k pool a b

  pub claim-positive : 1 ≤ (row_in pool r).period
  claim-positive = (sound-valid (row_in pool r) h.claim.is-sound).positive.0

  -- an instant of the working row
  module _ {t : ℕ} (m : t < period) where
    pub claim-inside : t < (size o).period
    claim-inside = omega (arith, h.is-period)

    -- as an `i64`
    pub claim-instant : to_z w64 t ≡ pos t
    claim-instant = let q : t < 2 ^ 63 = omega (arith, h.room, h.at-most) in to_z_pos w64 t q

    pub claim-below : pos t <ℤ pos pool_limit
    claim-below = let q : t < pool_limit = omega (arith, h.room, h.at-most) in simp ints (omega arith)

    -- its label is outside the limits
    pub claim-outside : (l : Option ℤ) → l ≡ result o (pos t) → if_label l in_range ≡ false → (Err LabelOutsideLimits) ≡ matched_as o (row_in pool r)
    claim-outside l e i = seen-outside o (row_in pool r) t claim-inside l e i

  module _ {t : ℕ} {c : Comparing} (w : Compares o (row_in pool r) t c) where
    pub claim-standing : Standing (row_in pool r) c.cursor
    claim-standing =
        let q : t ≤ pool_limit = omega (arith, w.seen.at-most, h.is-period, h.room, h.at-most) in
        (pos t, simp ints (omega arith), w.cursor)

    -- all instants
    pub claim-matched : period ≤ t → (m : Result Bool Refusal) → m ≡ cond c.labelled (Ok c.same) (Err NothingLabelled) → m ≡ matched_as o (row_in pool r)
    claim-matched e m q = q ∙ seen-matched o (row_in pool r) t c.labelled c.same w.seen (omega (arith, h.is-period))
