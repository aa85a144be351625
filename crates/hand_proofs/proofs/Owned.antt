-- What a function's parameters own, and what a contract says of them at exit, taken from one function's parameters to another's.
--     owns_then     what the types Ts own, and F behind it.        last, unlast     from the two, and back
--     silent n     what is said at exit of n parameters that have no last value.        silence     it is had for nothing
--     lastly x ys      what is said at exit of a lent list x that is ys then
--     silent_but n F m      F is said of one parameter, with n silent before it and m behind it.        said-once     the same at another place
-- Assumes nothing.
use Prim.Native.Nat.{ℕ, zero, suc}
use mathlib.Core.List.{List, [], ◌∷◌}
use lib.ListN.{length}
use seplogic.Ra.Ura.{Ura}
use base.Logic.{SProp, ent, sep, emp, via, comm∗, assoc∗, assoc', mono_r, fst∗, snd∗, emp∗, id⊢}
use base.Fml.{Fml, ftrue, fsep, feq}
use types.Logic.{Logic, sem}
use contract.Monad.{top}
use denote.RattleType.{RattleType, Denots, Valss, owns}
use denote.Ref.{MutBor}
use denote.Slice.{finally}

abbrev pub owns_then : (Ts : List RattleType) → Denots Ts → Valss Ts → Fml → Fml
owns_then [] a vss F = F
owns_then (T ∷ Ts) a vss F = fsep (T.own_val a.0 vss.0) (owns_then Ts a.1 vss.1 F)

abbrev pub silent : ℕ → Fml
silent zero = ftrue
silent (suc n) = fsep ftrue (silent n)

abbrev pub silent_but : ℕ → Fml → ℕ → Fml
silent_but zero F m = fsep F (silent m)
silent_but (suc n) F m = fsep ftrue (silent_but n F m)

abbrev pub lastly : (R : RattleType) → MutBor (List R.Denot) → List R.Denot → Fml
lastly R x ys = fsep (finally R x.ghost_name ys) (feq ℕ (length ys) (length x.now))

module _ {M : Type 1} {𝓤 : Ura M} (𝓛 : Logic 𝓤) where
  abbrev ⟦◌⟧ : Fml → SProp 𝓤
  ⟦ F ⟧ = sem 𝓛 F

  pub last : (Ts : List RattleType) (a : Denots Ts) (vss : Valss Ts) (F : Fml) → ent 𝓤 (sep 𝓤 ⟦ owns Ts a vss ⟧ ⟦ F ⟧) ⟦ owns_then Ts a vss F ⟧
  last [] a vss F = snd∗ 𝓤 (emp 𝓤) ⟦ F ⟧
  last (T ∷ Ts) a vss F =
      via 𝓤 (sep 𝓤 ⟦ T.own_val a.0 vss.0 ⟧ (sep 𝓤 ⟦ owns Ts a.1 vss.1 ⟧ ⟦ F ⟧)) (assoc∗ 𝓤 ⟦ T.own_val a.0 vss.0 ⟧ ⟦ owns Ts a.1 vss.1 ⟧ ⟦ F ⟧)
      (mono_r 𝓤 ⟦ T.own_val a.0 vss.0 ⟧ (last Ts a.1 vss.1 F))

  pub unlast : (Ts : List RattleType) (a : Denots Ts) (vss : Valss Ts) (F : Fml) → ent 𝓤 ⟦ owns_then Ts a vss F ⟧ (sep 𝓤 ⟦ owns Ts a vss ⟧ ⟦ F ⟧)
  unlast [] a vss F = emp∗ 𝓤 ⟦ F ⟧
  unlast (T ∷ Ts) a vss F =
      via 𝓤 (sep 𝓤 ⟦ T.own_val a.0 vss.0 ⟧ (sep 𝓤 ⟦ owns Ts a.1 vss.1 ⟧ ⟦ F ⟧)) (mono_r 𝓤 ⟦ T.own_val a.0 vss.0 ⟧ (unlast Ts a.1 vss.1 F))
      (assoc' 𝓤 ⟦ T.own_val a.0 vss.0 ⟧ ⟦ owns Ts a.1 vss.1 ⟧ ⟦ F ⟧)

  quiet : (n : ℕ) → ent 𝓤 (emp 𝓤) ⟦ silent n ⟧
  quiet zero = id⊢ 𝓤 (emp 𝓤)
  quiet (suc n) = via 𝓤 (sep 𝓤 (emp 𝓤) (emp 𝓤)) (emp∗ 𝓤 (emp 𝓤)) (mono_r 𝓤 (emp 𝓤) (quiet n))

  pub silence : (n : ℕ) (P : SProp 𝓤) → ent 𝓤 P ⟦ silent n ⟧
  silence n P = via 𝓤 (emp 𝓤) (top 𝓤 P) (quiet n)

  heard : (n : ℕ) (F : Fml) (m : ℕ) → ent 𝓤 ⟦ silent_but n F m ⟧ ⟦ F ⟧
  heard zero F m = fst∗ 𝓤 ⟦ F ⟧ ⟦ silent m ⟧
  heard (suc n) F m = via 𝓤 ⟦ silent_but n F m ⟧ (snd∗ 𝓤 (emp 𝓤) ⟦ silent_but n F m ⟧) (heard n F m)

  repeated : (n : ℕ) (F : Fml) (m : ℕ) → ent 𝓤 ⟦ F ⟧ ⟦ silent_but n F m ⟧
  repeated zero F m = via 𝓤 (sep 𝓤 ⟦ F ⟧ (emp 𝓤)) (via 𝓤 (sep 𝓤 (emp 𝓤) ⟦ F ⟧) (emp∗ 𝓤 ⟦ F ⟧) (comm∗ 𝓤 (emp 𝓤) ⟦ F ⟧)) (mono_r 𝓤 ⟦ F ⟧ (quiet m))
  repeated (suc n) F m = via 𝓤 (sep 𝓤 (emp 𝓤) ⟦ F ⟧) (emp∗ 𝓤 ⟦ F ⟧) (mono_r 𝓤 (emp 𝓤) (repeated n F m))

  pub said-once : (n m : ℕ) (F : Fml) (n' m' : ℕ) → ent 𝓤 ⟦ silent_but n F m ⟧ ⟦ silent_but n' F m' ⟧
  said-once n m F n' m' = via 𝓤 ⟦ F ⟧ (heard n F m) (repeated n' F m')
