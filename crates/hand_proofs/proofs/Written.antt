-- A lent slice that is written in a loop, place by place.
--     wrote g ys i     ys with g 0, .. g (i - 1) at its first i places: what a loop that stores g i at place i has made of ys.        length-wrote     it is as long as ys
--     wrote-all        once i is ys's length it is `tabled g`
--     Upto n, Nearer   the variant of a loop that counts to n: i with i ≤ n, ordered by what is left.        next     one more
--     at-list          a slice reference at a list
--     slice_in         [obs at zs; the borrow at zs]  ⊢  own (the `&κ mut [T]` at zs), at the machine value that the slice was passed with
-- Assumes `Logic`.
use mathlib.Core.Path.{◌≡◌, refl, sym, ◌∙◌, ap, subst}
use Prim.Native.Nat.{ℕ, zero, suc, ◌+◌, ◌-◌, ◌≤◌, ◌<◌}
use native.Mathlib.Numerals.{add-one-le}
use native.Mathlib.Omega.{arith}
use mathlib.Core.WellFounded.InvImage
use mathlib.Core.WellFounded.{WellFounded}
use mathlib.Core.List.{List, [], ◌∷◌}
use lib.ListN.{length, set, length-set}
use lib.WfN.{lt-wf_rel}
use seplogic.Ra.Ura.{Ura}
use mir.Syntax.{Lifetime}
use base.Logic.{ent}
use base.Fml.{Lft, GName, fobs, fbor}
use types.Logic.{Logic, sem}
use types.Kit.{‵, ⋆, ◌$◌, ◌∵◌, !, qed, fjoin, done}
use denote.RattleType.{RattleType}
use denote.Shadow.{pure_i}
use denote.Ref.{MutBor}
use denote.Slice.{slice_val, MutSlice, heres, Room, mut_slice_at, coded_holeys}
use denote.Lend.{Held}
use Rattle.hand_proofs.specs.Tabled.{tabled}

module _ {X : Type 0} where
  abbrev pub wrote : (ℕ → X) → List X → ℕ → List X
  wrote g ys zero = ys
  wrote g ys (suc i) = set (wrote g ys i) i (g i)

  pub length-wrote : (g : ℕ → X) (ys : List X) (i : ℕ) → length (wrote g ys i) ≡ length ys
  length-wrote g ys zero = refl
  length-wrote g ys (suc i) = length-set (wrote g ys i) i (g i) ∙ length-wrote g ys i

  behind : (g : ℕ → X) (y : X) (ys : List X) (i : ℕ) → wrote g (y ∷ ys) (suc i) ≡ g zero ∷ wrote (λ k. g (suc k)) ys i
  behind g y ys zero = refl
  behind g y ys (suc i) = ap (λ (l : List X). set l (suc i) (g (suc i))) (behind g y ys i)

  pub wrote-all : (g : ℕ → X) (ys : List X) → wrote g ys (length ys) ≡ tabled g (length ys)
  wrote-all g [] = refl
  wrote-all g (y ∷ ys) = behind g y ys (length ys) ∙ ap (λ (l : List X). g zero ∷ l) (wrote-all (λ k. g (suc k)) ys)

-- a loop that has written its first i places has ended, as i is behind the last
module _ {X : Type 0} where
  pub wrote-end : (g : ℕ → X) (ys zs : List X) (i : ℕ) → i ≤ length ys → zs ≡ wrote g ys i → length zs ≤ i → zs ≡ tabled g (length ys)
  wrote-end g ys zs i h e b =
      let l : length zs ≡ length ys = ap length e ∙ length-wrote g ys i in
      let n : i ≡ length ys = omega arith in
      e ∙ ap (wrote g ys) n ∙ wrote-all g ys

abbrev pub Upto : ℕ → Type 0
Upto n = (i : ℕ) × (i ≤ n)

abbrev pub Nearer : (n : ℕ) → Upto n → Upto n → Type 0
Nearer n j i = n - j.0 < n - i.0

pub nearer-wf : (n : ℕ) → WellFounded (Nearer n)
nearer-wf n = InvImage.wf (λ (i : Upto n). n - i.0) lt-wf_rel.wf

abbrev pub next : {n : ℕ} (i : Upto n) → i.0 < n → Upto n
next i less = (i.0 + 1, add-one-le less)

abbrev pub at-list : {X : Type 0} → ℕ → ℕ → GName → List X → MutBor (List X)
at-list b o γ l = record { ref_ptr = (b, o); ghost_name = γ; now = l }

module _ {M : Type 1} {𝓤 : Ura M} (𝓛 : Logic 𝓤) (R : RattleType) (ℓ : Lifetime) (κ : Lft) (b o : ℕ) (γ : GName) (n : ℕ) (zs : List R.Denot) where
  pub slice_in : Room R n → length zs ≡ n
      → ent 𝓤 (⋆ 𝓛 (‵ (fobs γ ((coded_holeys R).code (heres R zs))) ∷ ‵ (fbor κ (Held R (length zs) b o γ)) ∷ [])) (sem 𝓛 ((MutSlice ℓ κ R).own_val (at-list b o γ zs) (slice_val (b, o) n ∷ [])))
  slice_in room e =
      qed 𝓛 (‵ (fobs γ ((coded_holeys R).code (heres R zs))) ∷ ‵ (fbor κ (Held R (length zs) b o γ)) ∷ []) ∵
      fjoin ! $ pure_i ! (mut_slice_at R (at-list b o γ zs) (slice_val (b, o) n ∷ [])) (tt, (tt, tt)) (ap (λ (m : ℕ). slice_val (b, o) m ∷ []) (sym e), subst (Room R) (sym e) room) $ fjoin ! $ done !
