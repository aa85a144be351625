-- What a trailer that points back shows, byte by byte, in a window of the file.
use Rattle.std.specs.Prelude.{Some, None, Option, slice_range}
use mathlib.Core.Path.{◌≡◌, refl, sym, ap, subst, ◌∙◌}
use mathlib.Core.Logic.{⊎_elim}
use mathlib.Core.Bool.{Bool, true, false, ◌&&◌, cond}
use mathlib.Core.List.{List}
use Prim.Native.Nat.{ℕ, zero, suc, ◌+◌, ◌-◌, ◌≤◌, ◌<◌}
use native.Mathlib.Nat.{add-zero}
use native.Mathlib.Omega.{arith}
use lib.Dec.{leb}
use lib.ListN.{length, get_or, drop, get_or-eq_default}
use lib.Seq.{get_or-take, get_or-drop}
use borrow.Author.Tests.{leb-true, leb-false, eqb-true, ltb-true, eq-eqb, lt-ltb, le-leb}
use Rattle.granules.proofs.Tests.{true-or-false, true≢false, and-iff}
use Rattle.table_text.specs.Text.{text_limit}
use Rattle.journal.specs.Journal.{byte_at, trailer_at, length_at}
use Rattle.journal.specs.Window.{points_in, body_length, last_in}

-- a complete trailer at p, but for its length
pub record Marked (w : List ℕ) (p : ℕ) : Type 0 where
  pub start : byte_at w p ≡ 255
  pub a : byte_at w (p + 1) < 128
  pub b : byte_at w (p + 2) < 128
  pub c : byte_at w (p + 3) < 128
  pub d : byte_at w (p + 4) < 128
  pub end : byte_at w (p + 5) ≡ 254

pub record Points (w : List ℕ) (base p : ℕ) : Type 0 where
  pub marked : Marked w p
  pub positive : 1 ≤ length_at w p
  pub short : length_at w p ≤ 4096
  pub within : length_at w p ≤ base + p

marked-true : (w : List ℕ) (p : ℕ) → Marked w p → trailer_at w p ≡ true
marked-true w p m =
    simp and-iff
    (eq-eqb _ 255 m.start, (lt-ltb _ 128 m.a, (lt-ltb _ 128 m.b, (lt-ltb _ 128 m.c, (lt-ltb _ 128 m.d, eq-eqb _ 254 m.end)))))

pub points-facts : (w : List ℕ) (base p : ℕ) → points_in w base p ≡ true → Points w base p
unfolding points_in
points-facts w base p e =
    let f = simp and-iff at e in
    record {
      marked = record {
        start = eqb-true _ _ f.0.0;
        a = ltb-true _ _ f.0.1.0;
        b = ltb-true _ _ f.0.1.1.0;
        c = ltb-true _ _ f.0.1.1.1.0;
        d = ltb-true _ _ f.0.1.1.1.1.0;
        end = eqb-true _ _ f.0.1.1.1.1.1;
      };
      positive = leb-true _ _ f.1.0;
      short = leb-true _ _ f.1.1.0;
      within = leb-true _ _ f.1.1.1;
    }

pub points-true : (w : List ℕ) (base p : ℕ) → Points w base p → points_in w base p ≡ true
unfolding points_in
points-true w base p f =
    (and-iff (trailer_at w p) (leb 1 (length_at w p) && (leb (length_at w p) text_limit && leb (length_at w p) (base + p)))).1
    (marked-true w p f.marked, simp and-iff (le-leb 1 _ f.positive, (le-leb _ text_limit f.short, le-leb _ (base + p) f.within)))

-- it stands in the window
pub points-stand : (w : List ℕ) (base p : ℕ) → Points w base p → p + 5 < length w
points-stand w base p f = ⊎_elim
    (λ e. leb-true _ _ e)
    (λ e. absurd (outside (leb-false (suc (p + 5)) (length w) e)))
    (true-or-false (leb (suc (p + 5)) (length w)))
  where
    outside : length w < suc (p + 5) → ⊥
    outside l = omega (arith, get_or-eq_default w 0 {n = p + 5} (omega arith), f.marked.end)

pub points-false : (w : List ℕ) (base p : ℕ) → (Points w base p → ⊥) → points_in w base p ≡ false
points-false w base p h = ⊎_elim (λ e. absurd (h (points-facts w base p e))) (λ e. e) (true-or-false (points_in w base p))

-- ---- the length of the body

pub body-none : (w : List ℕ) (base p : ℕ) → (Points w base p → ⊥) → None ≡ body_length w base p
unfolding body_length
body-none w base p h = sym (ap (λ (t : Bool). cond t (Some (length_at w p)) None) (points-false w base p h))

pub body-some : (w : List ℕ) (base p : ℕ) → Points w base p → Some (length_at w p) ≡ body_length w base p
unfolding body_length
body-some w base p f = sym (ap (λ (t : Bool). cond t (Some (length_at w p)) None) (points-true w base p f))

pub body-of : (w : List ℕ) (base p n : ℕ) → n ≡ length_at w p → Points w base p → Some n ≡ body_length w base p
body-of w base p n e f = ap (λ (k : ℕ). Some k) e ∙ body-some w base p f

-- ---- the bytes of the window from p on

pub record From (w : List ℕ) (p : ℕ) (v : List ℕ) : Type 0 where
  pub whole : length v + p ≡ length w
  pub start : get_or v 0 0 ≡ byte_at w p
  pub a : get_or v 1 0 ≡ byte_at w (p + 1)
  pub b : get_or v 2 0 ≡ byte_at w (p + 2)
  pub c : get_or v 3 0 ≡ byte_at w (p + 3)
  pub d : get_or v 4 0 ≡ byte_at w (p + 4)
  pub end : get_or v 5 0 ≡ byte_at w (p + 5)

pub from_place : (w : List ℕ) (p : ℕ) (v : List ℕ) → v ≡ slice_range w p (length w) → length v + p ≡ length w → From w p v
from_place w p v e h =
    record { whole = h; start = at 0 ∙ ap (byte_at w) (add-zero p); a = at 1; b = at 2; c = at 3; d = at 4; end = at 5 }
  where
    at : (i : ℕ) → get_or v i 0 ≡ byte_at w (p + i)
    at i = ⊎_elim
        (λ t.
        let l : i < length w - p = omega (arith, leb-true (suc i) (length v) t) in
        ap (λ (x : List ℕ). get_or x i 0) e ∙ get_or-take (length w - p) (drop p w) i 0 l ∙ get_or-drop p w i 0)
        (λ t.
        let l : length v ≤ i = omega (arith, leb-false (suc i) (length v) t) in
        get_or-eq_default v 0 l ∙ sym (get_or-eq_default w 0 {n = p + i} (omega arith)))
        (true-or-false (leb (suc i) (length v)))

-- ---- the search

pub last_none : (w : List ℕ) (base : ℕ) → last_in w base 0 ≡ None
unfolding last_in
last_none w base = refl

pub last-here : (w : List ℕ) (base p : ℕ) → points_in w base p ≡ true → last_in w base (suc p) ≡ Some (p, length_at w p)
unfolding last_in
last-here w base p e = rw (e, last_in)

pub last_on : (w : List ℕ) (base p : ℕ) → points_in w base p ≡ false → last_in w base (suc p) ≡ last_in w base p
unfolding last_in
last_on w base p e = rw (e, last_in)

pub last-body : (w : List ℕ) (base p n : ℕ) → Some n ≡ body_length w base p → last_in w base (suc p) ≡ Some (p, n)
last-body w base p n e = ⊎_elim
    (λ t.
    let q : Some (length_at w p) ≡ Some n = body-some w base p (points-facts w base p t) ∙ sym e in
    let same : length_at w p ≡ n = cc in
    last-here w base p t ∙ ap (λ (k : ℕ). Some (p, k)) same)
    (λ f.
    let q : ◌≡◌ {A = Option ℕ} None (Some n) = body-none w base p (λ g. true≢false (points-true w base p g) f) ∙ sym e in
    let z : ◌≡◌ {A = ℕ} 0 1 = cc in
    absurd (omega arith))
    (true-or-false (points_in w base p))

pub last-no-body : (w : List ℕ) (base p : ℕ) → None ≡ body_length w base p → last_in w base (suc p) ≡ last_in w base p
last-no-body w base p e = last_on w base p (points-false w base p (λ f. apart f))
  where
    apart : Points w base p → ⊥
    apart f =
        let q : ◌≡◌ {A = Option ℕ} None (Some (length_at w p)) = e ∙ sym (body-some w base p f) in
        let z : ◌≡◌ {A = ℕ} 0 1 = cc in
        omega arith

-- what is found is a trailer that points back, and the length that it says
pub last_found : (w : List ℕ) (base q : ℕ) {p n : ℕ} → last_in w base q ≡ Some (p, n) → Points w base p × (n ≡ length_at w p)
last_found w base zero {p} {n} e =
    let q : ◌≡◌ {A = Option (ℕ × ℕ)} None (Some (p, n)) = sym (last_none w base) ∙ e in
    let z : ◌≡◌ {A = ℕ} 0 1 = cc in
    absurd (omega arith)
last_found w base (suc r) {p} {n} e = ⊎_elim
    (λ t.
    let q : ◌≡◌ {A = Option (ℕ × ℕ)} (Some (r, length_at w r)) (Some (p, n)) = sym (last-here w base r t) ∙ e in
    let pair : ◌≡◌ {A = ℕ × ℕ} (r, length_at w r) (p, n) = cc in
    let place : r ≡ p = ap (λ (x : ℕ × ℕ). x.0) pair in
    let says : length_at w r ≡ n = ap (λ (x : ℕ × ℕ). x.1) pair in
    (subst (Points w base) place (points-facts w base r t), sym says ∙ ap (length_at w) place))
    (λ t. last_found w base r (sym (last_on w base r t) ∙ e))
    (true-or-false (points_in w base r))
