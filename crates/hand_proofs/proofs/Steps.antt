-- Steps that the walks share. A local's cell is an entry of the context, at the place n; its end is the next entry.
--     cell n       the local whose cell is entry n, as an operand
--     part n k     field k of the local, a struct, whose cell is entry n, as an operand
--     target n     where the local, a reference to a slice, whose cell is entry n, points
--     puts m       a value is stored in the local whose room is entry m
--     dies n       the local whose cell is entry n is freed.        dies-empty     the same of a local that was never written
--     with-own     what a value of plain data owns is put in front of what the next parameters own
--     ty_at ls k    the type of local k, as the MIR spells it, at ls the generated `locals`
--     after k t    the statements of the body t from the k-th on
-- Assumes `Logic`.
use mathlib.Core.Path.{◌≡◌, subst, sym}
use Prim.Native.Nat.{ℕ, zero, suc, ◌+◌}
use mathlib.Core.Option.{some}
use mathlib.Core.List.{List, [], ◌∷◌}
use lib.Dec.{T as Holds}
use seplogic.Ra.Ura.{Ura}
use base.Fraction.{full_share}
use mir.Syntax.{Sym, Ty, Tys, ty_struct, ty_unit, Local, local, place, field, deref, copy, addr_of, Rv as RValue, Body, skip, seq, assign, block, loop, cond, switch, exit, return, call, unreachable, call_v, lend_static}
use mir.Fields.{get_v, set_v}
use mir.Val.{Val, Vals, vptr, vstruct, vcons, WT, has_ty}
use base.Logic.{ent, sep, via, mono_l, mono_r, id⊢}
use base.Fml.{Fml, Share, fsep, fat, froom, fdies}
use prog.Memory.{field_at}
use prog.Wp.{Env, Calls, Loops, Spot, spot_of}
use types.Logic.{Logic}
use types.Kit.{Item, ‵, mean, ⋆, nth, del, put, pull, push, Goal, Post, runs, frees, Step, step, ◌$◌, fjoin}
use types.Part.{Part, whole, sub, look_in}
use types.Run.{Opd, Rv, Walks, look, load, addr, from, fld, hop, stop, init, assigns, free1}
use denote.RattleType.{RattleType}
use denote.Laws.{Is, Makes}
use denote.Steps.{owned}

module _ {M : Type 1} {𝓤 : Ura M} {𝓛 : Logic 𝓤} {K : Type 0} {Γ : List (Item 𝓤)} {E : Env 𝓤 𝓛.H} where
  open 𝓛 use {H}

  pub cell : K → (n : ℕ) {i : ℕ} {s : Share} {v : Val} → nth 𝓛 n Γ ≡ ‵ (fat s (spot_of 𝓤 H E i).0 (spot_of 𝓤 H E i).1 (spot_of 𝓤 H E i).2 v) → Opd K 𝓛 Γ E (copy (place i [])) v
  cell t n e = load t (from t (stop t)) (look t n e)

  pub part : K → (n k : ℕ) {i : ℕ} {s : Share} {ν : Sym} {τs : Tys} {b : ℕ} {vs : Vals} {τ : Ty} {d : ℕ} → nth 𝓛 n Γ ≡ ‵ (fat s (ty_struct ν τs) b zero (vstruct vs)) → spot_of 𝓤 H E i ≡ (ty_struct ν τs, b, zero)
      → field_at zero τs k ≡ some (τ, d) → Opd K 𝓛 Γ E (copy (place i (field k ∷ []))) (get_v vs k)
  part t n k {i} {s} {ν} {τs} {b} {vs} {τ} {d} e at f = load t (from t (subst (λ (sp : Spot 𝓤 H). Walks K 𝓛 Γ E sp (field k ∷ []) (τ, b, zero + d)) (sym at) (fld t f (stop t))))
      (look_in t n (subst (λ (j : Item 𝓤). Part K 𝓛 j s τ b (zero + d) (get_v vs k) (λ u. ‵ (fat s (ty_struct ν τs) b zero (vstruct (set_v vs k u))))) (sym e) (sub t k f (whole t))))

  pub target : K → (n : ℕ) {i : ℕ} {s : Share} {ν : Sym} {τs : Tys} {b p o : ℕ} {vs : Vals} {τ σ : Ty} {d : ℕ} → nth 𝓛 n Γ ≡ ‵ (fat s (ty_struct ν τs) b zero (vstruct (vcons (vptr p o) vs))) → spot_of 𝓤 H E i ≡ (ty_struct ν τs, b, zero)
      → field_at zero τs zero ≡ some (τ, d) → Rv K 𝓛 Γ E (addr_of (place i (field zero ∷ deref σ ∷ []))) (vptr p o)
  target t n {i} {s} {ν} {τs} {b} {p} {o} {vs} {τ} {σ} {d} e at f = addr t (from t (subst (λ (sp : Spot 𝓤 H). Walks K 𝓛 Γ E sp (field zero ∷ deref σ ∷ []) (σ, p, o)) (sym at)
      (fld t f (hop t (look_in t n (subst (λ (j : Item 𝓤). Part K 𝓛 j s τ b (zero + d) (vptr p o) (λ u. ‵ (fat s (ty_struct ν τs) b zero (vstruct (set_v (vcons (vptr p o) vs) zero u))))) (sym e) (sub t zero f (whole t)))) (stop t)))))

  module _ {C : Calls 𝓤 H} {Λ : Loops 𝓤 H} {q : Post 𝓤 H} where
    pub puts : K → (m : ℕ) {j : ℕ} {rv : RValue} {rest : Body} {v : Val} → Rv K 𝓛 Γ E rv v → nth 𝓛 m Γ ≡ ‵ (froom (spot_of 𝓤 H E j).0 (spot_of 𝓤 H E j).1 (spot_of 𝓤 H E j).2) → Holds (has_ty (spot_of 𝓤 H E j).0 v) × WT v
        → Step K 𝓛 (put 𝓛 m (‵ (fat full_share (spot_of 𝓤 H E j).0 (spot_of 𝓤 H E j).1 (spot_of 𝓤 H E j).2 v)) Γ) (runs C Λ E rest q) Γ (runs C Λ E (seq (assign (place j []) rv) rest) q)
    puts t m r e wt = assigns t r (from t (stop t)) (init t m e wt)

module _ {M : Type 1} {𝓤 : Ura M} {𝓛 : Logic 𝓤} {K : Type 0} {Γ : List (Item 𝓤)} {τ : Ty} {b : ℕ} {E : Env 𝓤 𝓛.H} {g : Goal 𝓤 𝓛.H} where
  open 𝓛 use {H}

  freed : K → (n : ℕ) → ent 𝓤 (mean 𝓛 (nth 𝓛 n Γ)) (H.room τ b zero) → nth 𝓛 n (del 𝓛 n Γ) ≡ ‵ (fdies τ b) → Step K 𝓛 (del 𝓛 n (del 𝓛 n Γ)) (frees E g) Γ (frees ((τ, b) ∷ E) g)
  freed t n h e = step (λ s. record {
    prf =
        via 𝓤 (sep 𝓤 (mean 𝓛 (nth 𝓛 n Γ)) (⋆ 𝓛 (del 𝓛 n Γ))) (pull 𝓛 n Γ)
        (via 𝓤 (sep 𝓤 (H.room τ b zero) (⋆ 𝓛 (del 𝓛 n Γ))) (mono_l 𝓤 (⋆ 𝓛 (del 𝓛 n Γ)) h)
        (via 𝓤 (sep 𝓤 (H.room τ b zero) (⋆ 𝓛 (‵ (fdies τ b) ∷ del 𝓛 n (del 𝓛 n Γ))))
        (mono_r 𝓤 (H.room τ b zero) (via 𝓤 (sep 𝓤 (mean 𝓛 (‵ (fdies τ b))) (⋆ 𝓛 (del 𝓛 n (del 𝓛 n Γ))))
        (subst (λ (j : Item 𝓤). ent 𝓤 (⋆ 𝓛 (del 𝓛 n Γ)) (sep 𝓤 (mean 𝓛 j) (⋆ 𝓛 (del 𝓛 n (del 𝓛 n Γ))))) e (pull 𝓛 n (del 𝓛 n Γ)))
        (push 𝓛 (‵ (fdies τ b)) (del 𝓛 n (del 𝓛 n Γ)))))
        (via 𝓤 (⋆ 𝓛 (‵ (froom τ b zero) ∷ ‵ (fdies τ b) ∷ del 𝓛 n (del 𝓛 n Γ))) (push 𝓛 (‵ (froom τ b zero)) (‵ (fdies τ b) ∷ del 𝓛 n (del 𝓛 n Γ)))
        (free1 t $ s).prf)));
  })

  pub dies : K → (n : ℕ) {v : Val} → nth 𝓛 n Γ ≡ ‵ (fat full_share τ b zero v) → nth 𝓛 n (del 𝓛 n Γ) ≡ ‵ (fdies τ b) → Step K 𝓛 (del 𝓛 n (del 𝓛 n Γ)) (frees E g) Γ (frees ((τ, b) ∷ E) g)
  dies t n {v} i e = freed t n (via 𝓤 (H.at full_share τ b zero v) (subst (λ (j : Item 𝓤). ent 𝓤 (mean 𝓛 (nth 𝓛 n Γ)) (mean 𝓛 j)) i (id⊢ 𝓤 _)) (𝓛.laws.at_room τ b zero v)) e

  pub dies-empty : K → (n : ℕ) → nth 𝓛 n Γ ≡ ‵ (froom τ b zero) → nth 𝓛 n (del 𝓛 n Γ) ≡ ‵ (fdies τ b) → Step K 𝓛 (del 𝓛 n (del 𝓛 n Γ)) (frees E g) Γ (frees ((τ, b) ∷ E) g)
  dies-empty t n i e = freed t n (subst (λ (j : Item 𝓤). ent 𝓤 (mean 𝓛 (nth 𝓛 n Γ)) (mean 𝓛 j)) i (id⊢ 𝓤 _)) e

module _ {M : Type 1} {𝓤 : Ura M} {𝓛 : Logic 𝓤} {K : Type 0} {Γ : List (Item 𝓤)} where
  open 𝓛 use {H}

  pub with-own : K → {G : Goal 𝓤 H} {F : Fml} (R : RattleType) → Makes 𝓛 R (Is R) → (x : R.Denot) (vs : List Val) → Is R x vs → Step K 𝓛 (‵ (fsep (R.own_val x vs) F) ∷ Γ) G (‵ F ∷ Γ) G
  with-own t R mk x vs is = step (λ s. owned t R (Is R) mk x vs is $ fjoin t $ s)

-- ---- parts of the MIR

abbrev pub ty_at : List Local → ℕ → Ty
ty_at [] k = ty_unit
ty_at (local τ h ∷ ls) zero = τ
ty_at (local τ h ∷ ls) (suc k) = ty_at ls k

abbrev rest_of : Body → Body
rest_of (seq s t) = t
rest_of skip = skip
rest_of (assign p v) = skip
rest_of (block t) = skip
rest_of (loop t) = skip
rest_of (cond c s t) = skip
rest_of (switch c ts) = skip
rest_of (exit n) = skip
rest_of return = skip
rest_of (call f xs p) = skip
rest_of unreachable = skip
rest_of (call_v v s xs p) = skip
rest_of (lend_static a b c) = skip

abbrev pub after : ℕ → Body → Body
after zero t = t
after (suc k) t = after k (rest_of t)
