-- The cells of one word of a list, and of words that are zero.
-- Assumes nothing.
use mathlib.Core.Path.{◌≡◌, sym, ap, ◌∙◌}
use mathlib.Core.List.{List}
use Prim.Native.Nat.{ℕ, ◌+◌, ◌-◌, ◌*◌, ◌/◌, ◌%◌, ◌≤◌, ◌<◌}
use native.Mathlib.Omega.{arith}
use native.Mathlib.Decide.{dec_lt}
use lib.ListN.{get_or}
use Rattle.words.specs.Bits.{bit, cell, tally}
use Rattle.words.specs.Places.{Clear, Least, Greatest}
use Rattle.words.proofs.Tally.{tally-add, tally-same}
use Rattle.words.proofs.Ones.{bit_le}
use Rattle.words.proofs.Parts.{bit-none}

pub cell-le : (words : List ℕ) (c : ℕ) → cell words c ≤ 1
unfolding cell
cell-le words c = bit_le (get_or words (c / 64) 0) (c % 64)

-- the k-th cell of the word i
pub cell_at : (words : List ℕ) (i k : ℕ) → k < 64 → cell words (64 * i + k) ≡ bit (get_or words i 0) k
unfolding cell
cell_at words i k h =
    let q : (64 * i + k) / 64 ≡ i = omega arith in
    let r : (64 * i + k) % 64 ≡ k = omega arith in
    ap (λ (j : ℕ). bit (get_or words j 0) ((64 * i + k) % 64)) q ∙ ap (bit (get_or words i 0)) r

-- a cell c of the word i, which starts at 64 * i
pub cell_in : (words : List ℕ) (i c : ℕ) → 64 * i ≤ c → c < 64 * i + 64 → cell words c ≡ bit (get_or words i 0) (c - 64 * i)
cell_in words i c h l = let e : 64 * i + (c - 64 * i) ≡ c = omega arith in ap (cell words) (sym e) ∙ cell_at words i (c - 64 * i) (omega arith)

-- the set cells before the k-th of the word i
pub tally-word : (words : List ℕ) (i k : ℕ) → k ≤ 64 → tally (cell words) (64 * i + k) ≡ tally (cell words) (64 * i) + tally (bit (get_or words i 0)) k
tally-word words i k h =
    tally-add (cell words) (64 * i) k
    ∙ ap (λ (n : ℕ). tally (cell words) (64 * i) + n) (tally-same (λ j. cell words (64 * i + j)) (bit (get_or words i 0)) k (λ j l. cell_at words i j (omega arith)))

pub tally-whole : (words : List ℕ) (i : ℕ) → tally (cell words) (64 * (i + 1)) ≡ tally (cell words) (64 * i) + tally (bit (get_or words i 0)) 64
tally-whole words i = let e : 64 * (i + 1) ≡ 64 * i + 64 = omega arith in ap (tally (cell words)) e ∙ tally-word words i 64 (omega arith)

-- the cells of words that are zero
pub clear-words : (words : List ℕ) (i j : ℕ) → Clear (λ m. get_or words m 0) i j → Clear (cell words) (64 * i) (64 * j)
unfolding cell
clear-words words i j h c a b =
    ap (λ (w : ℕ). bit w (c % 64)) (h (c / 64) (omega arith) (omega arith)) ∙ bit-none (c % 64)

-- two stretches
pub clear-join : (f : ℕ → ℕ) (a b c : ℕ) → Clear f a b → Clear f b c → Clear f a c
clear-join f a b c p q i l h = by (dec_lt i b)
  where
    by : Dec (i < b) → f i ≡ 0
    by (yes k) = p i l k
    by (no k) = q i (omega arith) h

-- one more at the end
pub clear-more : (f : ℕ → ℕ) (a b : ℕ) → Clear f a b → f b ≡ 0 → Clear f a (b + 1)
clear-more f a b p e = clear-join f a b (b + 1) p (λ i l h. let s : i ≡ b = omega arith in ap f s ∙ e)

-- a set bit of the word j is the least set cell, and the greatest
pub least-in : (words : List ℕ) (c j k s : ℕ) → s < 64 → c ≤ 64 * j + k → Clear (cell words) c (64 * j + k) → Least (bit (get_or words j 0)) k s
    → Least (cell words) c (64 * j + s)
least-in words c j k s h l p t = record {
  from = omega (arith, t.from);
  set = cell_at words j s h ∙ t.set;
  before =
      clear-join (cell words) c (64 * j + k) (64 * j + s) p
      (λ m a b. cell_in words j m (omega arith) (omega arith) ∙ t.before (m - 64 * j) (omega arith) (omega arith));
}

pub greatest-in : (words : List ℕ) (c j k s : ℕ) → k ≤ 64 → 64 * j + k ≤ c → Clear (cell words) (64 * j + k) c → Greatest (bit (get_or words j 0)) k s
    → Greatest (cell words) c (64 * j + s)
greatest-in words c j k s h l p t = record {
  below = omega (arith, t.below);
  set = cell_at words j s (omega (arith, t.below)) ∙ t.set;
  after = λ m a b.
      clear-join (cell words) (64 * j + s + 1) (64 * j + k) c
      (λ m a b. cell_in words j m (omega arith) (omega arith) ∙ t.after (m - 64 * j) (omega arith) (omega arith)) p m (omega arith) b;
}
