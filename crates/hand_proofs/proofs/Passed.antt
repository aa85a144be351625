-- A function f that passes its arguments on to a function g, and returns g's answer: what f promises follows from what g promises, whatever that
-- is, where both say it in the same words.
--     Passes       f, run at us, calls g at vs, and returns its answer, which is of the type τ. It is what a walk of f's MIR shows, and says nothing of a contract
--     calls-on     the call in such a walk: once g has returned u, there is Q u, and u's type is known
--     Lifetimes    g's lifetimes, from f's, with their tokens.        same      they are the same
--     passes_on    f meets its contract. It asks, at f's lifetimes and arguments:
--                      to, bounds, arg      g's lifetimes, its bounds, and its arguments
--                      free                 g requires nothing
--                      answer               g's answer is f's
--                      ks, ks'              what is known of the machine values of g's parameters, and of f's
--                      typed, walk          the type of the answer's machine value, and the walk
--                      gives                what f's parameters own is what g's own
--                      ends, lasting        the last values of f's lists are those of g's
--                      says                 what g ensures is what f ensures: `id⊢`, where both say it in the same words
-- Assumes `Logic`.
use Prim.Native.Nat.{ℕ}
use mathlib.Core.List.{List, [], ◌∷◌}
use lib.Dec.{T as Holds}
use seplogic.Ra.Ura.{Ura}
use mir.Syntax.{Ty, Fn, Callee, Place, Opd as Operand, Body, seq, call}
use mir.Val.{Val, WT, has_ty}
use base.Logic.{SProp, ent, sep, wand, guard, emp, via, comm∗, mono_l, mono∗, snd∗, id⊢, ex_e, ex_i, guard_i, wand_i, apply∗}
use prog.Wp.{Heap, Env, WpFn, Tables}
use types.Logic.{Logic, sem}
use contract.Lifetimes.{Lfts, Shares, toks, AllOutlive}
use contract.Monad.{Fun, top, fact_use, fm→mono}
use sound.WpLaws.{fm_of}
use types.Kit.{Item, raw, given, later, Post, Seq, runs, lands, ◌$◌, use1, await, learn}
use types.Run.{Opds}
use denote.RattleType.{RattleType, Valss, owns, flat, mirs}
use denote.Laws.{Is, shows, Typed, Spells, Tellss, Ises, Are, valss}
use denote.Signature.{Signature, type_at, types_at}
use denote.Steps.{said}
use denote.Triple.Bound.{Bound, passed}
use denote.Triple.Call.{calls_from}
use denote.Triple.Clauses.{Ended, Clauses, Lasts, at_exit, lasts, ensured, closing}
use denote.Triple.Entry.{Args, Res, alive}
use denote.Triple.Spec.{Spec, Back, triple_of, Meets}
use Rattle.hand_proofs.proofs.Params.{Knowns, Spelled, Passed, spells, tells_all, of_types}

-- ---- a walk of f
abbrev pub IsOf : Ty → Val → Type 0
IsOf τ u = Holds (has_ty τ u) × WT u

abbrev pub Passes : {M : Type 1} (𝓤 : Ura M) (H : Heap 𝓤) (𝓣 : Tables 𝓤 H) → Fn → List Val → Callee → List Val → Ty → Type 2
Passes 𝓤 H 𝓣 f us k vs τ = (P : SProp 𝓤) (Q : Val → SProp 𝓤) → ent 𝓤 P (𝓣.C k vs (λ u. H.⇛ (guard 𝓤 (IsOf τ u) (Q u)))) → ent 𝓤 P (WpFn 𝓤 H 𝓣.C 𝓣.Λ f us Q)

module _ {M : Type 1} {𝓤 : Ura M} {𝓛 : Logic 𝓤} {K : Type 0} {Γ : List (Item 𝓤)} {E : Env 𝓤 𝓛.H} {k : Callee} {xs : List Operand} {q : Post 𝓤 𝓛.H} {d : Place} {rest : Body} where
  open 𝓛 use {H}

  pub calls-on : K → (𝓣 : Tables 𝓤 H) (P : SProp 𝓤) (vs : List Val) (τ : Ty) (Q : Val → SProp 𝓤) → ent 𝓤 P (𝓣.C k vs (λ u. H.⇛ (guard 𝓤 (IsOf τ u) (Q u)))) → Opds K 𝓛 (raw P ∷ Γ) E xs vs
      → ((u : Val) → IsOf τ u → Seq K 𝓛 (raw (Q u) ∷ Γ) (lands 𝓣.C 𝓣.Λ E d u rest q)) → Seq K 𝓛 (raw P ∷ Γ) (runs 𝓣.C 𝓣.Λ E (seq (call k xs d) rest) q)
  calls-on t 𝓣 P vs τ Q h os next = calls_from t (fm_of 𝓤 H 𝓛.laws 𝓣) (raw P) vs (λ u. H.⇛ (guard 𝓤 (IsOf τ u) (Q u))) h os
      (λ u. use1 𝓛 (later (given (IsOf τ u) (raw (Q u)))) (id⊢ 𝓤 _) $ await t tt $ learn t (λ is. next u is))

-- ---- lifetimes
pub record Lifetimes {M : Type 1} {𝓤 : Ura M} (𝓛 : Logic 𝓤) (m n : ℕ) : Type 1 where
  pub lft : Lfts m → Lfts n
  pub share : Shares m → Shares n
  pub there : (κs : Lfts m) (qs : Shares m) → ent 𝓤 (toks 𝓛 m κs qs) (toks 𝓛 n (lft κs) (share qs))
  pub back : (κs : Lfts m) (qs : Shares m) → ent 𝓤 (toks 𝓛 n (lft κs) (share qs)) (toks 𝓛 m κs qs)

abbrev pub same : {M : Type 1} {𝓤 : Ura M} (𝓛 : Logic 𝓤) (n : ℕ) → Lifetimes 𝓛 n n
same {𝓤 = 𝓤} 𝓛 n = record { lft = λ κs. κs; share = λ qs. qs; there = λ κs qs. id⊢ 𝓤 (toks 𝓛 n κs qs); back = λ κs qs. id⊢ 𝓤 (toks 𝓛 n κs qs) }

-- ---- f's contract
module _ {M : Type 1} {𝓤 : Ura M} (𝓛 : Logic 𝓤) (S : Signature) (c : Spec 𝓤 S) (run : Fun 𝓤) where
  abbrev rows : Lfts S.lifetimes → List RattleType
  rows κs = types_at S.params κs

  -- enough at the machine values that are known of the parameters
  at-values : (sp : (κs : Lfts S.lifetimes) → Spells (rows κs)) → ((κs : Lfts S.lifetimes) → Tellss (rows κs) (Ises (rows κs)) (sp κs))
      → ((κs : Lfts S.lifetimes) (qs : Shares S.lifetimes) (bounds : AllOutlive S.lifetimes S.outlives κs) (a : Args S κs) (g : (c κs a).ghost) → Are (rows κs) (Ises (rows κs)) a (valss (rows κs) (sp κs) a)
      → ent 𝓤 ((triple_of 𝓛 S c).pre ((κs, qs, bounds, a, valss (rows κs) (sp κs) a), g)) (run (flat (rows κs) (valss (rows κs) (sp κs) a)) ((triple_of 𝓛 S c).post ((κs, qs, bounds, a, valss (rows κs) (sp κs) a), g))))
      → Meets 𝓛 S run c
  at-values sp tl k y =
      let κs : Lfts S.lifetimes = y.0.0 in
      let a : Args S κs = y.0.3 in
      let R : SProp 𝓤 = (c κs a).requires y.1 in
      let Q : Valss (rows κs) → SProp 𝓤 = λ us. run (flat (rows κs) us) ((triple_of 𝓛 S c).post ((κs, y.0.1, y.0.2, a, us), y.1)) in
      via 𝓤 (sep 𝓤 R (wand 𝓤 R (Q y.0.4)))
      (via 𝓤 (sep 𝓤 (wand 𝓤 R (Q y.0.4)) R)
      (mono_l 𝓤 R (said 𝓛 S κs y.0.1 (sp κs) (tl κs) a (λ us. wand 𝓤 R (Q us)) y.0.4 (λ are. wand_i 𝓤 _ R _ (k κs y.0.1 y.0.2 a y.1 are))))
      (comm∗ 𝓤 (wand 𝓤 R (Q y.0.4)) R))
      (apply∗ 𝓤 R (Q y.0.4))

-- T and c are g's, T' and c' are f's
module _ {M : Type 1} {𝓤 : Ura M} (𝓛 : Logic 𝓤) (𝓣 : Tables 𝓤 𝓛.H) (T : Ended) (c : Clauses 𝓤 T) (k : Callee) (met : Meets 𝓛 T.signature (𝓣.C k) (closing 𝓛 T c)) (T' : Ended) (c' : Clauses 𝓤 T') (f : Fn) where
  open 𝓛 use {H}

  abbrev S : Signature
  S = T.signature

  abbrev S' : Signature
  S' = T'.signature

  -- x is what g's triple binds outside, y what f's does; r is the answer, of f's type
  module _ (x : Bound 𝓛 S) (g : (c x.0 x.3).ghost) (y : Bound 𝓛 S') (g' : (c' y.0 y.3).ghost) (to : Res S x.0 → Res S' y.0) where
    abbrev After : Val → SProp 𝓤
    After = (triple_of 𝓛 S (closing 𝓛 T c)).post (x, g)

    abbrev After' : Val → SProp 𝓤
    After' = (triple_of 𝓛 S' (closing 𝓛 T' c')).post (y, g')

    abbrev R : RattleType
    R = type_at S.result x.0

    returned : ((r : Res S x.0) → ent 𝓤 (ensured 𝓛 T c x.0 x.3 g r) (ensured 𝓛 T' c' y.0 y.3 g' (to r)))
        → ((r : Res S x.0) (u : Val) → ent 𝓤 (Back 𝓛 S x u r) (Back 𝓛 S' y u (to r)))
        → (τ : Ty) → ((r : Res S x.0) (u : Val) → Is R r (u ∷ []) → IsOf τ u) → (u : Val) → ent 𝓤 (After u) (H.⇛ (guard 𝓤 (IsOf τ u) (After' u)))
    returned says back τ typed u = 𝓛.laws.⇛_mono _ _ (ex_e 𝓤 (λ (r : Res S x.0). sep 𝓤 (Back 𝓛 S x u r) (ensured 𝓛 T c x.0 x.3 g r)) (λ r.
        let B : SProp 𝓤 = Back 𝓛 S x u r in
        let E : SProp 𝓤 = ensured 𝓛 T c x.0 x.3 g r in
        let own : SProp 𝓤 = sem 𝓛 (R.own_val r (u ∷ [])) in
        fact_use 𝓤 (Is R r (u ∷ [])) (via 𝓤 B (via 𝓤 (sep 𝓤 E B) (comm∗ 𝓤 B E) (snd∗ 𝓤 E B)) (via 𝓤 own (snd∗ 𝓤 (alive 𝓛 S x.0 x.1) own) (shows 𝓛 R r (u ∷ []))))
        (λ is. via 𝓤 (After' u)
        (via 𝓤 (sep 𝓤 (Back 𝓛 S' y u (to r)) (ensured 𝓛 T' c' y.0 y.3 g' (to r))) (mono∗ 𝓤 (back r u) (says r))
        (via 𝓤 _ (ex_i 𝓤 (λ (z : Res S' y.0). sep 𝓤 (Back 𝓛 S' y u z) (ensured 𝓛 T' c' y.0 y.3 g' z)) (to r)) (𝓛.laws.⇛_intro _)))
        (guard_i 𝓤 (IsOf τ u) (After' u) (typed r u is)))))

  -- a clause is handed on, with what is said of last values
  module _ (κs : Lfts S.lifetimes) (a : Args S κs) (g : (c κs a).ghost) (r : Res S κs) (κs' : Lfts S'.lifetimes) (a' : Args S' κs') (g' : (c' κs' a').ghost) (r' : Res S' κs') where
    answers : (ends : Lasts T κs a → Lasts T' κs' a') → ((ws : Lasts T κs a) → ent 𝓤 (sem 𝓛 (lasts T κs a ws)) (sem 𝓛 (lasts T' κs' a' (ends ws))))
        → ((ws : Lasts T κs a) → ent 𝓤 ((c κs a).ensures g r (at_exit T κs a ws)) ((c' κs' a').ensures g' r' (at_exit T' κs' a' (ends ws)))) → ent 𝓤 (ensured 𝓛 T c κs a g r) (ensured 𝓛 T' c' κs' a' g' r')
    answers ends lasting says = ex_e 𝓤 (λ (ws : Lasts T κs a). sep 𝓤 (sem 𝓛 (lasts T κs a ws)) ((c κs a).ensures g r (at_exit T κs a ws))) (λ ws.
        via 𝓤 (sep 𝓤 (sem 𝓛 (lasts T' κs' a' (ends ws))) ((c' κs' a').ensures g' r' (at_exit T' κs' a' (ends ws)))) (mono∗ 𝓤 (lasting ws) (says ws))
        (ex_i 𝓤 (λ (zs : Lasts T' κs' a'). sep 𝓤 (sem 𝓛 (lasts T' κs' a' zs)) ((c' κs' a').ensures g' r' (at_exit T' κs' a' zs))) (ends ws)))

  -- at f's lifetimes κs and arguments a, g is called at `to.lft κs` and `arg κs a`
  module _ (to : Lifetimes 𝓛 S'.lifetimes S.lifetimes) (bounds : (κs : Lfts S'.lifetimes) → AllOutlive S.lifetimes S.outlives (to.lft κs)) (arg : (κs : Lfts S'.lifetimes) → Args S' κs → Args S (to.lft κs))
      (free : (κs : Lfts S'.lifetimes) (a : Args S' κs) → (g : (c (to.lft κs) (arg κs a)).ghost) × ent 𝓤 (emp 𝓤) ((c (to.lft κs) (arg κs a)).requires g))
      (answer : (κs : Lfts S'.lifetimes) → (h : Res S (to.lft κs) → Res S' κs) × ((r : Res S (to.lft κs)) (u : Val) → ent 𝓤 (sem 𝓛 ((type_at S.result (to.lft κs)).own_val r (u ∷ []))) (sem 𝓛 ((type_at S'.result κs).own_val (h r) (u ∷ [])))))
      (ks : (κs : Lfts S'.lifetimes) → Knowns (types_at S.params (to.lft κs))) (ks' : (κs : Lfts S'.lifetimes) → Knowns (types_at S'.params κs)) where
    abbrev Rs : Lfts S'.lifetimes → List RattleType
    Rs κs = types_at S.params (to.lft κs)

    abbrev Rs' : Lfts S'.lifetimes → List RattleType
    Rs' κs = types_at S'.params κs

    pub passes_on : (τ : Ty) → ((κs : Lfts S'.lifetimes) (r : Res S (to.lft κs)) (u : Val) → Is (type_at S.result (to.lft κs)) r (u ∷ []) → IsOf τ u)
        → ((κs : Lfts S'.lifetimes) (a : Args S' κs) → Typed (mirs (Rs' κs)) (Passed (Rs' κs) (ks' κs) a) → Passes 𝓤 H 𝓣 f (Passed (Rs' κs) (ks' κs) a) k (Passed (Rs κs) (ks κs) (arg κs a)) τ)
        → ((κs : Lfts S'.lifetimes) (a : Args S' κs) → ent 𝓤 (sem 𝓛 (owns (Rs' κs) a (Spelled (Rs' κs) (ks' κs) a))) (sem 𝓛 (owns (Rs κs) (arg κs a) (Spelled (Rs κs) (ks κs) (arg κs a)))))
        → (ends : (κs : Lfts S'.lifetimes) (a : Args S' κs) → Lasts T (to.lft κs) (arg κs a) → Lasts T' κs a)
        → ((κs : Lfts S'.lifetimes) (a : Args S' κs) (ws : Lasts T (to.lft κs) (arg κs a)) → ent 𝓤 (sem 𝓛 (lasts T (to.lft κs) (arg κs a) ws)) (sem 𝓛 (lasts T' κs a (ends κs a ws))))
        → ((κs : Lfts S'.lifetimes) (a : Args S' κs) (g : (c' κs a).ghost) (r : Res S (to.lft κs)) (ws : Lasts T (to.lft κs) (arg κs a))
        → ent 𝓤 ((c (to.lft κs) (arg κs a)).ensures (free κs a).0 r (at_exit T (to.lft κs) (arg κs a) ws)) ((c' κs a).ensures g ((answer κs).0 r) (at_exit T' κs a (ends κs a ws))))
        → Meets 𝓛 S' (WpFn 𝓤 H 𝓣.C 𝓣.Λ f) (closing 𝓛 T' c')
    passes_on τ typed walk gives ends lasting says = at-values 𝓛 S' (closing 𝓛 T' c') (WpFn 𝓤 H 𝓣.C 𝓣.Λ f) (λ κs. spells (Rs' κs) (ks' κs)) (λ κs. tells_all (Rs' κs) (ks' κs)) (λ κs qs bounds' a g' are.
        let x : Bound 𝓛 S = (to.lft κs, to.share qs, bounds κs, arg κs a, Spelled (Rs κs) (ks κs) (arg κs a)) in
        let y : Bound 𝓛 S' = (κs, qs, bounds', a, Spelled (Rs' κs) (ks' κs) a) in
        let g = (free κs a).0 in
        let h = (answer κs).0 in
        walk κs a (of_types (Rs' κs) (ks' κs) a _ are) _ _
        (via 𝓤 ((triple_of 𝓛 S (closing 𝓛 T c)).pre (x, g)) (mono∗ 𝓤 (mono∗ 𝓤 (to.there κs qs) (gives κs a)) (via 𝓤 (emp 𝓤) (top 𝓤 ((c' κs a).requires g')) (free κs a).1))
        (via 𝓤 (𝓣.C k (passed 𝓛 S x) (After x g y g' h)) (met (x, g))
        (fm→mono 𝓤 (𝓣.C k (passed 𝓛 S x)) (fm_of 𝓤 H 𝓛.laws 𝓣 k (passed 𝓛 S x)) (After x g y g' h) (λ u. H.⇛ (guard 𝓤 (IsOf τ u) (After' x g y g' h u)))
        (returned x g y g' h (λ r. answers (to.lft κs) (arg κs a) g r κs a g' (h r) (ends κs a) (lasting κs a) (says κs a g' r)) (λ r u. mono∗ 𝓤 (to.back κs qs) ((answer κs).1 r u)) τ (typed κs))))))
