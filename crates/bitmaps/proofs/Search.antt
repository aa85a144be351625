-- The least set cell from the cell c on, and the greatest below it: by the word of c, then by the other words.
-- Assumes nothing.
use mathlib.Core.Path.{◌≡◌, sym, ap, ◌∙◌, subst}
use mathlib.Core.List.{List}
use Prim.Native.Nat.{ℕ, ◌+◌, ◌-◌, ◌*◌, ◌/◌, ◌%◌, ◌^◌, ◌≤◌, ◌<◌}
use native.Mathlib.Omega.{arith}
use lib.ListN.{length, get_or, get_or-eq_default}
use Rattle.words.specs.Bits.{bit, cell}
use Rattle.words.specs.Places.{Clear, Least, Greatest}
use Rattle.words.proofs.Parts.{bit_below, bit-none, least-shr, clear_shr, greatest-low, clear-low}
use Rattle.bitmaps.specs.Cells.{FirstWord, LastWord}
use Rattle.bitmaps.proofs.Words.{cell_in, clear-words, clear-join, least-in, greatest-in}

-- no cell is set past the last word
pub clear-past : (words : List ℕ) (n c : ℕ) → length words ≤ n → 64 * n ≤ c → cell words c ≡ 0
unfolding cell
clear-past words n c h l =
    let k : length words ≤ c / 64 = omega arith in
    ap (λ (w : ℕ). bit w (c % 64)) (get_or-eq_default words 0 k) ∙ bit-none (c % 64)

-- w is the word of the cell c
module _ (words : List ℕ) (c w : ℕ) (is : w ≡ get_or words (c / 64) 0) where
  -- ---- from c on
  pub first-here : (r : ℕ) → w < 2 ^ 64 → Least (bit (w / 2 ^ (c % 64))) 0 r → Least (cell words) c (c + r)
  first-here r f t =
      let k = c % 64 in
      let here : Least (bit w) k (k + r) = least-shr w k r t in
      let e : 64 * (c / 64) + (k + r) ≡ c + r = omega arith in
      subst (λ (n : ℕ). Least (cell words) c n) e
      (least-in words c (c / 64) k (k + r) (bit_below w 64 (k + r) f here.set) (omega arith) (λ i a b. absurd (omega arith))
      (subst (λ (v : ℕ). Least (bit v) k (k + r)) is here))

  pub rest-clear : w / 2 ^ (c % 64) ≡ 0 → Clear (cell words) c (64 * (c / 64 + 1))
  rest-clear e i a b =
      cell_in words (c / 64) i (omega arith) (omega arith) ∙ ap (λ (v : ℕ). bit v (i - 64 * (c / 64))) (sym is)
      ∙ clear_shr w (c % 64) e (i - 64 * (c / 64)) (omega arith)

  module _ (e : w / 2 ^ (c % 64) ≡ 0) (j : ℕ) (f : FirstWord words (c / 64 + 1) j) where
    skipped : Clear (cell words) c (64 * j)
    skipped = clear-join (cell words) c (64 * (c / 64 + 1)) (64 * j) (rest-clear e) (clear-words words (c / 64 + 1) j f.before)

    pub first-later : (r : ℕ) → r < 64 → Least (bit (get_or words j 0)) 0 r → Least (cell words) c (64 * j + r)
    first-later r h t = least-in words c j 0 r h (omega (arith, f.from)) (λ i a b. skipped i a (omega arith)) t

    pub first-nowhere : length words ≤ j → (i : ℕ) → c ≤ i → cell words i ≡ 0
    first-nowhere h i l = clear-join (cell words) c (64 * j) (i + 1) skipped (λ m a b. clear-past words j m h a) i l (omega arith)

  -- ---- below c
  pub last-here : (r : ℕ) → Greatest (bit (w % 2 ^ (c % 64))) 64 r → Greatest (cell words) c (64 * (c / 64) + r)
  last-here r t =
      let k = c % 64 in
      greatest-in words c (c / 64) k r (omega arith) (omega arith) (λ i a b. absurd (omega arith))
      (subst (λ (v : ℕ). Greatest (bit v) k r) is (greatest-low w k r t (omega arith)))

  low_clear : w % 2 ^ (c % 64) ≡ 0 → Clear (cell words) (64 * (c / 64)) c
  low_clear e i a b =
      cell_in words (c / 64) i (omega arith) (omega arith) ∙ ap (λ (v : ℕ). bit v (i - 64 * (c / 64))) (sym is)
      ∙ clear-low w (c % 64) e (i - 64 * (c / 64)) (omega arith)

  module _ (e : w % 2 ^ (c % 64) ≡ 0) (n : ℕ) (f : LastWord words (c / 64) n) where
    passed : Clear (cell words) (64 * n) c
    passed = clear-join (cell words) (64 * n) (64 * (c / 64)) c (clear-words words n (c / 64) f.after) (low_clear e)

    pub last-earlier : (r : ℕ) → 0 < n → Greatest (bit (get_or words (n - 1) 0)) 64 r → Greatest (cell words) c (64 * (n - 1) + r)
    last-earlier r p t = greatest-in words c (n - 1) 64 r (omega arith) (omega (arith, f.most)) (λ i a b. passed i (omega arith) b) t

    pub last-nowhere : n ≡ 0 → Clear (cell words) 0 c
    last-nowhere z i a b = passed i (omega arith) b
