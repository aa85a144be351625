-- Calls by their contracts, and the contract of a function that is walked.
--     calls-fn     a call. The head of the context is `tok`, the callee's tokens, and what its parameters own. Once it has returned u, there are
--                  [what the result owns; what is said of last values; tok; …], with the result's value r, the last values ws, the fact that the `ensures` states, and the relation of r to u.
--                  The operands are read where the head two are one entry, so their places are one less. The entailments are `id⊢`, where the callee requires nothing.
--     proves       a walk at each choice of lifetimes, shares and arguments, with the law of each parameter, meets the contract
-- Assumes `Logic`, and for a call that the table of calls is monotone under a frame, as every `Tables` is.
use mathlib.Core.List.{List, [], ◌∷◌}
use seplogic.Ra.Ura.{Ura}
use mir.Syntax.{Fn, Callee, Place, Opd as Operand, Body, seq, call}
use mir.Val.{Val}
use base.Logic.{ent, sep, emp, via, mono_r, id⊢}
use prog.Wp.{Env, Calls, Loops, WpFn, Tables}
use types.Logic.{Logic}
use contract.Lifetimes.{Lfts, Shares, AllOutlive}
use contract.Monad.{Fun, fact}
use sound.Laws.{∗emp}
use sound.WpLaws.{FmC, WpFn-mono}
use types.Kit.{Item, ‵, raw, mean, ◌⊛◌, some, later, Post, runs, lands, Seq, ◌$◌, move, use1, use2, split, pick, await}
use types.Run.{Opds}
use denote.RattleType.{owns, flat}
use denote.Laws.{Is, shows, Spells, Tellss, Ises, Are, valss}
use denote.Signature.{type_at, types_at}
use denote.Steps.{heard, peeks}
use denote.Triple.Bound.{Bound, passed}
use denote.Triple.Call.{calls_at}
use denote.Triple.Clauses.{Ended, Clauses, Lasts, at_exit, lasts, closing}
use denote.Triple.Entry.{Args, Res, alive, on_entry}
use denote.Triple.Spec.{Meets, triple_of}
use denote.Triple.Walked.{Stays, AllGo, walk_of, walked, walk_Meets}

module _ {M : Type 1} {𝓤 : Ura M} {𝓛 : Logic 𝓤} {K : Type 0} {Γ : List (Item 𝓤)} {E : Env 𝓤 𝓛.H} {C : Calls 𝓤 𝓛.H} {f : Callee} {xs : List Operand} {Λ : Loops 𝓤 𝓛.H} {q : Post 𝓤 𝓛.H} {d : Place} {rest : Body} where
  open 𝓛 use {H}

  pub calls-fn : K → FmC 𝓤 H 𝓛.laws C → (T : Ended) (c : Clauses 𝓤 T) → Meets 𝓛 T.signature (C f) (closing 𝓛 T c)
      → (x : Bound 𝓛 T.signature) (g : (c x.0 x.3).ghost) → ent 𝓤 (emp 𝓤) ((c x.0 x.3).requires g)
      → (tok : Item 𝓤) → ent 𝓤 (mean 𝓛 tok) (alive 𝓛 T.signature x.0 x.1) → ent 𝓤 (alive 𝓛 T.signature x.0 x.1) (mean 𝓛 tok)
      → (φ : Res T.signature x.0 → Lasts T x.0 x.3 → Type 0) → ((r : Res T.signature x.0) (ws : Lasts T x.0 x.3) → ent 𝓤 ((c x.0 x.3).ensures g r (at_exit T x.0 x.3 ws)) (fact 𝓤 (φ r ws)))
      → Opds K 𝓛 (raw ((triple_of 𝓛 T.signature (closing 𝓛 T c)).pre (x, g)) ∷ Γ) E xs (passed 𝓛 T.signature x)
      → ((u : Val) (r : Res T.signature x.0) (ws : Lasts T x.0 x.3) → φ r ws → Is (type_at T.signature.result x.0) r (u ∷ [])
      → Seq K 𝓛 (‵ ((type_at T.signature.result x.0).own_val r (u ∷ [])) ∷ ‵ (lasts T x.0 x.3 ws) ∷ tok ∷ Γ) (lands C Λ E d u rest q))
      → Seq K 𝓛 (tok ∷ ‵ (owns (types_at T.signature.params x.0) x.3 x.4) ∷ Γ) (runs C Λ E (seq (call f xs d) rest) q)
  calls-fn t fm T c met x g req tok into back φ reads os k =
      use1 𝓛 (raw (alive 𝓛 T.signature x.0 x.1)) into $
      use2 𝓛 (raw ((triple_of 𝓛 T.signature (closing 𝓛 T c)).pre (x, g)))
      (via 𝓤 _ (∗emp 𝓤 (on_entry 𝓛 T.signature x.0 x.1 x.3 x.4)) (mono_r 𝓤 (on_entry 𝓛 T.signature x.0 x.1 x.3 x.4) req)) $
      calls_at t fm (triple_of 𝓛 T.signature (closing 𝓛 T c)) met (x, g) os (λ u.
      use1 𝓛 (later (some (λ (r : Res T.signature x.0). (raw (alive 𝓛 T.signature x.0 x.1) ⊛ ‵ ((type_at T.signature.result x.0).own_val r (u ∷ [])))
      ⊛ some (λ (ws : Lasts T x.0 x.3). ‵ (lasts T x.0 x.3 ws) ⊛ raw ((c x.0 x.3).ensures g r (at_exit T x.0 x.3 ws)))))) (id⊢ 𝓤 _) $ await t tt $ pick t (λ r.
      split t $ move t (1 ∷ []) $ pick t (λ ws. split t $ move t (1 ∷ []) $ use1 𝓛 (raw (fact 𝓤 (φ r ws))) (reads r ws) $ heard t (φ r ws) (λ e.
      move t (1 ∷ []) $ split t $ use1 𝓛 tok back $ move t (1 ∷ 2 ∷ 0 ∷ []) $
      peeks t (type_at T.signature.result x.0) (Is (type_at T.signature.result x.0)) (shows 𝓛 (type_at T.signature.result x.0)) r (u ∷ []) (λ is. k u r ws e is)))))

module _ {M : Type 1} {𝓤 : Ura M} (𝓛 : Logic 𝓤) (𝓣 : Tables 𝓤 𝓛.H) (T : Ended) (hs : Stays T.signature.params T.kept) (c : Clauses 𝓤 T) (fn : Fn) where
  open 𝓛 use {H}

  abbrev run : Fun 𝓤
  run = WpFn 𝓤 H 𝓣.C 𝓣.Λ fn

  pub proves : AllGo 𝓛 T.signature.lifetimes T.signature.params T.kept hs
      → (sp : (κs : Lfts T.signature.lifetimes) → Spells (types_at T.signature.params κs)) → ((κs : Lfts T.signature.lifetimes) → Tellss (types_at T.signature.params κs) (Ises (types_at T.signature.params κs)) (sp κs))
      → ((κs : Lfts T.signature.lifetimes) (qs : Shares T.signature.lifetimes) (bounds : AllOutlive T.signature.lifetimes T.signature.outlives κs) (a : Args T.signature κs) (g : (c κs a).ghost)
      → Are (types_at T.signature.params κs) (Ises (types_at T.signature.params κs)) a (valss (types_at T.signature.params κs) (sp κs) a)
      → ent 𝓤 (sep 𝓤 (on_entry 𝓛 T.signature κs qs a (valss (types_at T.signature.params κs) (sp κs) a)) ((c κs a).requires g))
      (run (flat (types_at T.signature.params κs) (valss (types_at T.signature.params κs) (sp κs) a)) ((walk_of 𝓛 T hs c).post ((κs, qs, bounds, a, valss (types_at T.signature.params κs) (sp κs) a), g))))
      → Meets 𝓛 T.signature run (closing 𝓛 T c)
  proves goes sp tl k = walk_Meets 𝓛 T hs goes c run (WpFn-mono 𝓤 H 𝓛.laws 𝓣 fn) (walked 𝓛 T hs c run sp tl k)
