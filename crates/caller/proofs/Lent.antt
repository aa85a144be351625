-- A local array of n elements that is lent as a slice for a call.
--     opened       the cell that holds the array, as elements that can be lent (`lends_slice`)
--     shut         and back, with the machine value that the elements have then
-- Assumes `Logic`.
use Prim.Native.Nat.{ℕ}
use mathlib.Core.Path.{refl, subst}
use mathlib.Core.List.{List, [], ◌∷◌}
use seplogic.Ra.Ura.{Ura}
use base.Fraction.{full_share}
use mir.Syntax.{Ty, ty_array}
use mir.Val.{Val}
use base.Logic.{ent, guard}
use base.Fml.{fsep, fat}
use types.Logic.{Logic, sem}
use types.Kit.{‵, ◌$◌, ◌∵◌, !, qed, move, use1, drop, rewrite, fsplit, fjoin, fpick, fpack, check, done}
use types.SemTy.{cells, Arr}
use types.Share.{arr_parts}
use denote.RattleType.{RattleType}
use denote.Laws.{Is, Tells, Makes, shows}
use denote.Memory.{cell_at, lone, part_at, part_of, mem, shares}
use denote.Array.{Array, Array-Makes, array_vals, Array-Tells}
use denote.ArrayMemory.{Single, Array-apart, Array-whole}
use denote.Index.{row, whole_in, whole_out}
use denote.Steps.{only, owned, peeks}

module _ {M : Type 1} {𝓤 : Ura M} (𝓛 : Logic 𝓤) (R : RattleType) (n b : ℕ) where
  abbrev τ : Ty
  τ = ty_array (lone R.mir) n

  pub opened : Makes 𝓛 R (Is R) → Single R.mir → (xs : List R.Denot) (v : Val) → Is (Array R n) xs (v ∷ []) → ent 𝓤 (sem 𝓛 (fat full_share τ b 0 v)) (sem 𝓛 (cells (mem R) xs b 0))
  unfolding part_of
  opened makes one xs v is =
      qed 𝓛 (‵ (fat full_share τ b 0 v) ∷ []) ∵ use1 𝓛 (‵ (cell_at full_share (τ ∷ []) (v ∷ []) b 0)) (𝓛.laws.at_raw full_share τ b 0 v) $
      owned ! (Array R n) (Is (Array R n)) (Array-Makes 𝓛 R makes n) xs (v ∷ []) is $ move ! (1 ∷ 0 ∷ []) $ fjoin ! $
      fpack ! (List Val) (λ vs. fsep (cell_at full_share (τ ∷ []) vs b 0) ((Array R n).own_val xs vs)) (v ∷ []) $
      use1 𝓛 (‵ ((arr_parts (shares R) n).part full_share xs b 0)) (Array-apart 𝓛 R full_share one n xs b 0) $
      fsplit ! $ drop ! $ use1 𝓛 (‵ (cells (mem R) xs b 0)) (whole_in 𝓛 R xs b 0) $ done !

  module _ (vals : R.Denot → List Val) (tells : Tells R (Is R) vals) (zs : List R.Denot) where
    abbrev pub value : Val
    value = only (array_vals vals zs)

    pub shut : ent 𝓤 (sem 𝓛 ((Arr (mem R) n).own_at zs b 0)) (guard 𝓤 (Is (Array R n) zs (value ∷ [])) (sem 𝓛 (fat full_share τ b 0 value)))
    unfolding part_of
    shut =
        qed 𝓛 (‵ ((Arr (mem R) n).own_at zs b 0) ∷ []) ∵ fsplit ! $ move ! (1 ∷ []) $ use1 𝓛 (‵ (row R full_share zs b 0)) (whole_out 𝓛 R zs b 0) $ move ! (1 ∷ 0 ∷ []) $ fjoin ! $
        use1 𝓛 (‵ (part_at (Array R n) full_share zs b 0)) (Array-whole 𝓛 R full_share n zs b 0) $ fpick ! (λ vs. fsplit ! $ move ! (1 ∷ []) $
        peeks ! (Array R n) (Is (Array R n)) (shows 𝓛 (Array R n)) zs vs (λ is. drop ! $
        rewrite ! 0 (λ (ws : List Val). ‵ (cell_at full_share (τ ∷ []) ws b 0)) (Array-Tells R vals tells n zs vs is) refl $
        use1 𝓛 (‵ (fat full_share τ b 0 value)) (𝓛.laws.raw_at full_share τ b 0 value) $ check ! (subst (Is (Array R n) zs) (Array-Tells R vals tells n zs vs is) is) $ done !))
