-- Walks over lists that the caller left alone: they are the conversion of the entries as these stood.
use mathlib.Core.Path.{◌≡◌, refl, sym, ◌∙◌, ap, ap₂}
use mathlib.Core.Logic.{inr, ⊎_elim}
use mathlib.Core.Bool.{Bool, true, false, ◌&&◌, cond}
use mathlib.Core.List.Memᴰ
use mathlib.Core.List.{List, [], ◌∷◌, ◌++◌, append_assoc}
use Prim.Native.Nat.{ℕ, zero, suc, ◌+◌, ◌-◌, ◌*◌, ◌/◌, ◌%◌, ◌≤◌, ◌<◌}
use native.Mathlib.Nat.{div-add-mod, mul-div_right, mul-mod_right, sub-zero}
use native.Mathlib.Omega.{arith}
use lib.Dec.{eqb, leb}
use lib.IntN.{ℤ}
use lib.ListN.{length, replicate, length-append, length-replicate, take}
use Rattle.calendar.specs.Meaning.{Row, empty}
use Rattle.calendar.specs.Limits.{pool_limit, entry_limit, heading_length}
use Rattle.calendar.specs.Reply.{Reply, require}
use Rattle.calendar.specs.Reply.Reply.{refused, answer}
use Rattle.calendar.specs.Outcome.{Outcome, judged, entries}
use Rattle.calendar.specs.Table.{Entry, entry_at}
use Rattle.calendar.specs.Outcome.Outcome.{rows}
use Rattle.calendar.specs.Stored.{headings_from, headings_after, pool_after, joined}
use Rattle.granules.proofs.Tests.{and-iff, eqb-iff, leb-iff, ltb_iff}
use Rattle.granules.proofs.Replies.{require-answer}
use Rattle.algebra.proofs.Steps.{after_entry, entries-zero, entries-suc, after_table, outcome-is}
use Rattle.algebra.proofs.Stored.{joined_length}
use Rattle.standing.specs.Standing.{Standing}
use Rattle.walks.specs.Walk.{Lengths, Walk, Left, lengths_of, entries_of, left, begun, start, is_entry, ready, entered, stepped, call, admits, converts}
use Rattle.walks.specs.Walk.Progress.{due, done}
use Rattle.walks.specs.Runs.{calls, assembled, AllOf}
use Rattle.conversion.proofs.Headings.{filled-length, headings-length}
use Rattle.standing.proofs.Decides.{AllLeast, standing-passes, standing-shown}
use Rattle.walks.proofs.Kept.{kept, least_more}
use Rattle.walks.proofs.Came.{call-due, lengths-ext, ready-iff, Admitted, admitted-gives, step_to, entered-is, stepped-is, left-progress, left-walk}
use Rattle.walks.proofs.Calls.{left-stands}
use Rattle.walks.proofs.States.{start_is, admits_of}
use Rattle.granules.proofs.Sound.{sound-valid}
use Rattle.walks.proofs.Assembled.{six, six-length, entry-behind, assembled-length, prefix_same, calls-nil, calls-cons, calls-stay}

-- ---- the walk, entry by entry

eqb-false : (a b : ℕ) → a < b → eqb a b ≡ false
eqb-false a b h = by (eqb a b) refl
  where
    by : (x : Bool) → eqb a b ≡ x → x ≡ false
    by true q = absurd (omega (arith, (eqb-iff a b).0 q))
    by false q = refl

module _ (t : List ℤ) (headings : List ℕ) (pool : List ℤ) (n : ℕ) (passed : admits t headings pool ≡ answer n) where
  abbrev L : Lengths
  L = lengths_of t headings pool

  abbrev S : List Row → Left
  S l = left L L (rows l)

  abbrev room : List Row → ℕ
  room l = length pool - length (joined l)

  pub gives : Admitted n (length t) (length headings / heading_length) (length pool)
  gives = admitted-gives t (length headings / heading_length) (length pool) n passed

  table-length : length t ≡ 6 * n
  table-length = omega (arith, div-add-mod (length t) 6, gives.whole, gives.is_number)

  headings-fit : 4 * n ≤ length headings
  headings-fit = omega (arith, div-add-mod (length headings) 4, gives.has-headings)

  -- so many rows, least, that fit
  pub record Fits (l : List Row) : Type 0 where
    pub least : AllLeast l
    pub few : length l ≤ n
    pub fit : length (joined l) ≤ length pool

  left-lengths : (l : List Row) → Fits l → (length (S l).headings ≡ length headings) × (length (S l).pool ≡ length pool)
  unfolding left headings_after pool_after
  left-lengths l f = (
    filled-length (length headings) 0 (headings_from 0 l) (omega (arith, headings-length 0 l, headings-fit, f.few)),
    filled-length (length pool) empty (joined l) f.fit,
  )

  same-lengths : (l : List Row) → Fits l → (u : List ℤ) → length u ≡ length t → lengths_of u (S l).headings (S l).pool ≡ L
  same-lengths l f u e = let h = left-lengths l f in lengths-ext (lengths_of u (S l).headings (S l).pool) L e h.0 h.1

  stands : (l : List Row) → Fits l → Standing l (S l).headings (S l).pool
  stands l f = left-stands L L l f.least

  is-ready : (l : List Row) → Fits l → length l < n → (u : List ℤ) → length u ≡ length t → ready L (length l) u (S l).headings (S l).pool ≡ true
  is-ready l f b u e =
      let same = same-lengths l f u e in
      (ready-iff L (length l) u (S l).headings (S l).pool).1 (
        same,
        ap (λ (q : Lengths). is_entry (length l) (admits_of q)) same ∙ ap (is_entry (length l)) passed ∙ (ltb_iff (length l) n).1 b,
        standing-passes l (S l).headings (S l).pool (stands l f),
      )

  is-due : (l : List Row) → length l < n → (S l).walk.progress ≡ due (length l)
  is-due l b = left-progress L L (rows l) ∙ ap (λ (x : Bool). cond x done (due (length l))) (eqb-false (length l) (entries_of L) (omega (arith, gives.is_number)))

  -- one call
  step-at : (l : List Row) → Fits l → length l < n → (u : List ℤ) → length u ≡ length t
      → call (S l).walk u (S l).headings (S l).pool ≡ left L L (step_to (length l) l (judged l (room l) (entry_at u (length l))))
  step-at l f b u e =
      let hs = (S l).headings in
      let ps = (S l).pool in
      let k = length l in
      let shown = standing-shown l hs ps (stands l f) in
      let w = left-walk L L (rows l) in
      call-due (S l).walk k (is-due l b) u hs ps
      ∙ ap (λ (x : Walk). left x.lengths (lengths_of u hs ps) (stepped x.lengths k u hs ps)) w
      ∙ ap (λ (q : Lengths). left L q (stepped L k u hs ps)) (same-lengths l f u e)
      ∙ ap (left L L) (stepped-is L k u hs ps ∙ ap (λ (x : Bool). cond x (entered k u hs ps) (Outcome.refused_at 13 k)) (is-ready l f b u e) ∙ entered-is k u hs ps)
      ∙ ap (λ (m : List Row). left L L (step_to k m (judged m (length ps - length (joined m)) (entry_at u k)))) shown
      ∙ ap (λ (i : ℕ). left L L (step_to k l (judged l (i - length (joined l)) (entry_at u k)))) (left-lengths l f).1

  abbrev Chain : List (List ℤ) → Type 0
  Chain us = (l : List Row) → Fits l → length l + length us ≤ n → (pre : List ℤ) → length pre ≡ 6 * length l
      → calls (S l) us ≡ left L L (entries (pre ++ assembled (length l) us) (length us) (length l) l (room l))

  -- the entry of u was judged, and the others follow
  follow : (us : List (List ℤ)) → Chain us → (u : List ℤ) → length u ≡ length t → (l : List Row) → Fits l → length l + suc (length us) ≤ n → (pre : List ℤ) → length pre ≡ 6 * length l
      → (x : Reply Row) → judged l (room l) (entry_at u (length l)) ≡ x
      → calls (left L L (step_to (length l) l x)) us ≡ left L L (after_entry (pre ++ (six u (length l) ++ assembled (suc (length l)) us)) (length us) (length l) l (room l) x)
  follow us ih u e l f b pre q (refused m) p = calls-stay (left L L (Outcome.refused_at m (length l))) (inr (m, length l, left-progress L L (Outcome.refused_at m (length l)))) us
  follow us ih u e l f b pre q (answer r) p =
      let k = kept l (room l) (entry_at u (length l)) r f.least (omega (arith, gives.at-most)) p in
      let whole = (sound-valid r k.is-least.0).whole in
      let more = l ++ (r ∷ []) in
      let count : length more ≡ suc (length l) = omega (arith, length-append l (r ∷ [])) in
      let cells = joined_length l r in
      let fits : Fits more = record { least = least_more l r f.least k.is-least; few = omega arith; fit = omega (arith, f.fit, k.fits) } in
      let s = six-length u (length l) (omega (arith, table-length)) in
      let long : length (pre ++ six u (length l)) ≡ 6 * length more = simp length-append (omega arith) in
      let left-room : room more ≡ room l - r.period = omega (arith, f.fit, k.fits) in
      ih more fits (omega arith) (pre ++ six u (length l)) long
      ∙ ap₂ (λ (a : List ℤ) (i : ℕ). left L L (entries a (length us) (length more) more i)) (append_assoc pre (six u (length l)) (assembled (length more) us)) left-room
      ∙ ap (λ (i : ℕ). left L L (entries (pre ++ (six u (length l) ++ assembled i us)) (length us) i more (room l - r.period))) count

  chain : (ts : List (List ℤ)) → AllOf (length t) ts → Chain ts
  chain [] all l f b pre q = calls-nil (S l) ∙ ap (left L L) (sym (entries-zero (pre ++ []) (length l) l (room l)))
  chain (u ∷ us) all l f b pre q =
      let e = all u (Memᴰ.head refl) in
      let A = pre ++ (six u (length l) ++ assembled (suc (length l)) us) in
      let same : entry_at A (length l) ≡ entry_at u (length l) = entry-behind pre u (assembled (suc (length l)) us) (length l) q (omega (arith, e, table-length)) in
      calls-cons (S l) u us
      ∙ ap (λ (s : Left). calls s us) (step-at l f (omega arith) u e)
      ∙ follow us (chain us (λ v i. all v (Memᴰ.tail i))) u e l f b pre q (judged l (room l) (entry_at u (length l))) refl
      ∙ ap (λ (x : Entry). left L L (after_entry A (length us) (length l) l (room l) (judged l (room l) x))) (sym same)
      ∙ ap (left L L) (sym (entries-suc A (length us) (length l) l (room l)))

  start-at : start t headings pool ≡ S []
  start-at = start_is t headings pool ∙ ap (λ (x : Reply ℕ). left L L (begun x)) passed

  pub walked : (ts : List (List ℤ)) → AllOf (length t) ts → length ts ≤ n → calls (start t headings pool) ts ≡ left L L (entries (assembled 0 ts) (length ts) 0 [] (length pool))
  walked ts all b =
      ap (λ (s : Left). calls s ts) start-at
      ∙ chain ts all [] (record { least = λ r m. absurd (Memᴰ.not-nil m); few = omega arith; fit = omega arith }) (omega arith) [] (omega arith)
      ∙ ap (λ (i : ℕ). left L L (entries (assembled 0 ts) (length ts) 0 [] i)) (sub-zero (length pool))

  -- the table of these entries passes checks 1 to 3
  admits-assembled : (ts : List (List ℤ)) → AllOf (length t) ts → 1 ≤ length ts → length ts ≤ n → admits (assembled 0 ts) headings pool ≡ answer (length ts)
  admits-assembled ts all a b =
      let k = length ts in
      let m : length (assembled 0 ts) ≡ 6 * k = assembled-length (length t) ts all 0 (omega (arith, table-length)) in
      let d : 6 * k / 6 ≡ k = mul-div_right k (omega arith) in
      let z : 6 * k % 6 ≡ 0 = mul-mod_right 6 k in
      let r₁ = require-answer 1 (eqb (length t % 6) 0 && (leb 1 (length t / 6) && leb (length t / 6) entry_limit)) _ passed in
      let c = (and-iff (leb 1 (length t / 6)) (leb (length t / 6) entry_limit)).0 ((and-iff (eqb (length t % 6) 0) (leb 1 (length t / 6) && leb (length t / 6) entry_limit)).0 r₁.0).1 in
      let limit = (leb-iff (length t / 6) entry_limit).0 c.1 in
      ap (λ (i : ℕ). admits_of (record { table = i; headings = length headings; pool = length pool })) m
      ∙ passes (eqb (6 * k % 6) 0 && (leb 1 (6 * k / 6) && leb (6 * k / 6) entry_limit)) (leb (6 * k / 6) (length headings / heading_length)) (leb (length pool) pool_limit) (6 * k / 6)
      ((and-iff (eqb (6 * k % 6) 0) (leb 1 (6 * k / 6) && leb (6 * k / 6) entry_limit)).1 (
        (eqb-iff (6 * k % 6) 0).1 z,
        (and-iff (leb 1 (6 * k / 6)) (leb (6 * k / 6) entry_limit)).1 ((leb-iff 1 (6 * k / 6)).1 (omega (arith, d)), (leb-iff (6 * k / 6) entry_limit).1 (omega (arith, d, limit, gives.is_number))),
      ))
      ((leb-iff (6 * k / 6) (length headings / heading_length)).1 (omega (arith, d, gives.has-headings)))
      ((leb-iff (length pool) pool_limit).1 gives.at-most)
      ∙ ap answer d
    where
      passes : (x y z : Bool) (i : ℕ) → x ≡ true → y ≡ true → z ≡ true → require 1 x (require 2 y (require 3 z (answer i))) ≡ answer i
      passes x y z i p q r = ap (λ (v : Bool). require 1 v (require 2 y (require 3 z (answer i)))) p ∙ ap (λ (v : Bool). require 2 v (require 3 z (answer i))) q ∙ ap (λ (v : Bool). require 3 v (answer i)) r

  pub converts-assembled : (ts : List (List ℤ)) → AllOf (length t) ts → 1 ≤ length ts → length ts ≤ n
      → converts (assembled 0 ts) headings pool ≡ entries (assembled 0 ts) (length ts) 0 [] (length pool)
  converts-assembled ts all a b =
      outcome-is (assembled 0 ts) (length headings / heading_length) (length pool)
      ∙ ap (after_table (assembled 0 ts) (length pool)) (admits-assembled ts all a b)

  pub steps-are : (ts : List (List ℤ)) → AllOf (length t) ts → 1 ≤ length ts → length ts ≤ n
      → calls (start t headings pool) ts ≡ left L L (converts (assembled 0 ts) headings pool)
  steps-are ts all a b = walked ts all b ∙ ap (left L L) (sym (converts-assembled ts all a b))

-- ---- the statements

pub steps-convert :
    (t : List ℤ) (headings : List ℕ) (pool : List ℤ) (n : ℕ) → admits t headings pool ≡ answer n
    → (ts : List (List ℤ)) → AllOf (length t) ts → 1 ≤ length ts → length ts ≤ n
    → calls (start t headings pool) ts
    ≡ left (lengths_of t headings pool) (lengths_of t headings pool) (converts (assembled 0 ts) headings pool)
steps-convert t headings pool n p ts all a b = steps-are t headings pool n p ts all a b

all_same : (t : List ℤ) (k : ℕ) → AllOf (length t) (replicate k t)
all_same t zero u m = absurd (Memᴰ.not-nil m)
all_same t (suc k) u m = ⊎_elim (λ e. ap (λ (l : List ℤ). length l) e) (all_same t k u) (Memᴰ.cases_cons m)

pub prefix-converts :
    (t : List ℤ) (headings : List ℕ) (pool : List ℤ) (n : ℕ) → admits t headings pool ≡ answer n
    → (k : ℕ) → 1 ≤ k → k ≤ n
    → calls (start t headings pool) (replicate k t)
    ≡ left (lengths_of t headings pool) (lengths_of t headings pool) (converts (take (6 * k) t) headings pool)
prefix-converts t headings pool n p k a b =
    let l : length (replicate k t) ≡ k = length-replicate k t in
    steps-are t headings pool n p (replicate k t) (all_same t k) (omega (arith, l)) (omega (arith, l))
    ∙ ap (λ (x : List ℤ). left (lengths_of t headings pool) (lengths_of t headings pool) (converts x headings pool)) (prefix_same t k)
