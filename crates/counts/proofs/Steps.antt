-- The labels of a row, counted cell by cell in a loop: the greatest so far, of 32 bits, the count so far, and what is left.
-- Assumes nothing.
use mathlib.Core.Path.{◌≡◌, refl, sym, ◌∙◌, ap, subst}
use mathlib.Core.Bool.{true, false}
use mathlib.Core.List.{List}
use Prim.Native.Nat.{ℕ, ◌+◌, ◌≤◌, ◌<◌}
use native.Mathlib.Omega.{arith}
use lib.IntN.{ℤ, pos}
use lib.Signed.{lt_z}
use lib.ListN.{length, get_or, drop}
use mir.Facts.{to_z-of_z}
use mir.Syntax.{w32}
use mir.Val.{SFits, of_z, to_z}
use Rattle.calendar.specs.Meaning.{empty}
use Rattle.counts.specs.declared.Labels.{Labels}
use Rattle.counts.specs.declared.Tops.{Tops}
use Rattle.counts.specs.Labels.{rises, greatest, counted, counted_on}
use Rattle.counts.specs.Abreast.{Abreast, begun}
use Rattle.counts.proofs.Counts.{count-more, count_same}

pub labels-eq : {m n y z : ℤ} → m ≡ n → y ≡ z
    → ◌≡◌ {A = Labels} (record { count = m; last = y }) (record { count = n; last = z })
labels-eq p q = λ i. record { count = p i; last = q i }

-- from the cell i to the cell k the greatest goes from `last` to `top`, and the count from `count` to `sum`
pub record Passed (cells : List ℤ) (i k : ℕ) (last : ℤ) (count : ℕ) (top : ℤ) (sum : ℕ) : Type 0 where
  pub few : sum + i ≤ count + k
  pub fits : SFits w32 top
  pub left : count + rises last (drop i cells) ≡ sum + rises top (drop k cells)
  pub end : greatest last (drop i cells) ≡ greatest top (drop k cells)

pub passed_none : (cells : List ℤ) (i : ℕ) (last : ℤ) (count : ℕ) → SFits w32 last → Passed cells i i last count last count
passed_none cells i last count f = record { few = omega arith; fits = f; left = omega arith; end = refl }

pub passed_then : (cells : List ℤ) (i k m : ℕ) (last : ℤ) (count : ℕ) (top : ℤ) (sum : ℕ) (high : ℤ) (all : ℕ)
    → Passed cells i k last count top sum → Passed cells k m top sum high all → Passed cells i m last count high all
passed_then cells i k m last count top sum high all p q = record {
  few = omega arith;
  fits = q.fits;
  left = p.left ∙ q.left;
  end = p.end ∙ q.end;
}

-- one cell
module _ (cells : List ℤ) (i k : ℕ) (last : ℤ) (count : ℕ) (top : ℤ) (sum : ℕ) (here : i < length cells) (next : k ≡ i + 1)
    (cell : SFits w32 (get_or cells i (pos 0))) where
  abbrev z : ℤ
  z = get_or cells i (pos 0)

  -- with a new label
  pub passed-more : lt_z last (to_z w32 (of_z w32 z)) ≡ true → top ≡ to_z w32 (of_z w32 z) → sum ≡ count + 1
      → Passed cells i k last count top sum
  passed-more t e n =
      let q : top ≡ z = e ∙ to_z-of_z cell in
      let m = count-more cells i (pos 0) here last (rw (to_z-of_z cell) at t) in
      let r = ap (λ (y : ℤ). rises y (drop (i + 1) cells)) q in
      let d = ap (λ (x : ℕ). rises top (drop x cells)) next in
      record {
        few = omega arith;
        fits = subst (SFits w32) (sym q) cell;
        left = omega (arith, m.0, r, d);
        end =
            m.1
            ∙ ap (λ (y : ℤ). greatest y (drop (i + 1) cells)) (sym q)
            ∙ ap (λ (x : ℕ). greatest top (drop x cells)) (sym next);
      }

  -- with the same label, or with none
  pub passed-same : SFits w32 last → lt_z last (to_z w32 (of_z w32 z)) ≡ false → top ≡ last → sum ≡ count
      → Passed cells i k last count top sum
  passed-same f t e n =
      let m = count_same cells i (pos 0) here last (rw (to_z-of_z cell) at t) in
      let r = ap (λ (b : ℤ). rises b (drop (i + 1) cells)) e in
      let d = ap (λ (x : ℕ). rises top (drop x cells)) next in
      record {
        few = omega arith;
        fits = subst (SFits w32) (sym e) f;
        left = omega (arith, m.0, r, d);
        end =
            m.1
            ∙ ap (λ (b : ℤ). greatest b (drop (i + 1) cells)) (sym e)
            ∙ ap (λ (x : ℕ). greatest top (drop x cells)) (sym next);
      }

-- ---- four parts

abbrev pub tops : ℕ → ℤ → ℤ → ℤ → ℤ → Tops
tops count a b c d = record { count = count; a = a; b = b; c = c; d = d }

-- a cell of each, one after the other
pub abreast-then : (cells : List ℤ) (start i q : ℕ) (from : Tops) (n₀ n₁ n₂ n₃ n₄ : ℕ) (a b c d a' b' c' d' : ℤ)
    → Abreast cells start i q from (tops n₀ a b c d)
    → Passed cells i (i + 1) a n₀ a' n₁
    → Passed cells (i + q) (i + 1 + q) b n₁ b' n₂
    → Passed cells (i + q + q) (i + 1 + q + q) c n₂ c' n₃
    → Passed cells (i + q + q + q) (i + 1 + q + q + q) d n₃ d' n₄
    → Abreast cells start (i + 1) q from (tops n₄ a' b' c' d')
abreast-then cells start i q from n₀ n₁ n₂ n₃ n₄ a b c d a' b' c' d' h pa pb pc pd = record {
  few = omega (arith, h.few, pa.few, pb.few, pc.few, pd.few);
  sum = omega (arith, h.sum, pa.left, pb.left, pc.left, pd.left);
  a = h.a ∙ pa.end;
  b = h.b ∙ pb.end;
  c = h.c ∙ pc.end;
  d = h.d ∙ pd.end;
}

-- where each part ends with the label that the next began with, the last one goes on for all
pub abreast-joined : (cells : List ℤ) (start q : ℕ) (b c d : ℤ) (t : Tops)
    → Abreast cells start (start + q) q (begun cells start b c d) t → (t.a ≡ b) × (t.b ≡ c) × (t.c ≡ d)
    → counted_on t.count t.d (drop (start + q + q + q + q) cells) ≡ counted (get_or cells start empty) (drop start cells)
unfolding counted counted_on
abreast-joined cells start q b c d t h e =
    let i = start + q in
    let left : ℕ → ℤ → ℕ = λ k y. rises y (drop k cells) in
    let top : ℕ → ℤ → ℤ = λ k y. greatest y (drop k cells) in
    labels-eq
    (ap pos (omega (arith, h.sum, ap (left i) e.0, ap (left (i + q)) e.1, ap (left (i + q + q)) e.2)))
    (sym (h.a ∙ ap (top i) e.0 ∙ h.b ∙ ap (top (i + q)) e.1 ∙ h.c ∙ ap (top (i + q + q)) e.2 ∙ h.d))

-- from the first label on
pub counted-from : (j k : ℤ) (l : List ℤ) → j ≡ k → counted_on 1 j l ≡ counted k l
unfolding counted counted_on
counted-from j k l e =
    labels-eq (ap pos (omega (arith, ap (λ (y : ℤ). rises y l) e))) (ap (λ (y : ℤ). greatest y l) e)
