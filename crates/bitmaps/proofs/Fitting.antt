-- Words that n cells fill.
-- Assumes nothing.
use mathlib.Core.Path.{◌≡◌, refl, sym, ◌∙◌, ap}
use mathlib.Core.Bool.{Bool, true, false, not, and-eq-true_iff}
use mathlib.Core.List.{List}
use Prim.Native.Nat.{ℕ, ◌+◌, ◌*◌, ◌/◌, ◌%◌, ◌^◌, ◌≤◌, ◌<◌}
use native.Mathlib.Omega.{arith}
use native.Mathlib.Decide.{dec_lt}
use borrow.Author.Tests.{eqb-true, eqb-false, not-true, eq-eqb, ne_eqb}
use lib.Count.{count_trailing_zeros}
use lib.Dec.{eqb}
use lib.ListN.{length, get_or}
use Rattle.words.specs.Bits.{cell, tally}
use Rattle.words.proofs.Tally.{tally-none, tally-mono, tally-one}
use Rattle.words.proofs.Zeros.{trailing}
use Rattle.bitmaps.specs.Cells.{words_for, fitting}
use Rattle.bitmaps.specs.Zeros.{AnySet}
use Rattle.bitmaps.proofs.Words.{cell_at, clear-words, clear-join}
use Rattle.bitmaps.proofs.Search.{rest-clear, clear-past}

module _ (n : ℕ) (words : List ℕ) where
  pub record Filled : Type 0 where
    pub whole : length words ≡ words_for n
    pub behind : get_or words (n / 64) 0 / 2 ^ (n % 64) ≡ 0

  -- no cell from n on is set
  pub clear_behind : Filled → (i : ℕ) → n ≤ i → cell words i ≡ 0
  clear_behind f i h =
      clear-join (cell words) n (64 * (n / 64 + 1)) (i + 1)
      (rest-clear words n (get_or words (n / 64) 0) refl f.behind)
      (λ j a b. clear-past words (n / 64 + 1) j (omega (arith, f.whole)) a) i h (omega arith)

  pub filled : length words ≡ words_for n → get_or words (n / 64) 0 / 2 ^ (n % 64) ≡ 0 → fitting n words ≡ not (eqb (tally (cell words) n) 0)
  unfolding fitting
  filled p q = simp (eq-eqb (length words) (words_for n) p, eq-eqb (get_or words (n / 64) 0 / 2 ^ (n % 64)) 0 q)

  -- what the test says
  pub fitting-true : fitting n words ≡ true → Filled × (0 < tally (cell words) n)
  unfolding fitting
  fitting-true e =
      let a = (and-eq-true_iff (eqb (length words) (words_for n)) _).0 e in
      let b = (and-eq-true_iff (eqb (get_or words (n / 64) 0 / 2 ^ (n % 64)) 0) _).0 a.1 in
      let c = eqb-false (tally (cell words) n) 0 (not-true _ b.1) in
      (record { whole = eqb-true (length words) (words_for n) a.0; behind = eqb-true _ 0 b.0 }, omega arith)

  -- a set cell, or none
  pub some-set : Filled → (i : ℕ) → cell words i ≡ 1 → fitting n words ≡ true
  some-set f i e = by (dec_lt i n)
    where
      by : Dec (i < n) → fitting n words ≡ true
      by (yes l) =
          let t = tally-one (cell words) i in
          let u = tally-mono (cell words) (i + 1) n (omega arith) in
          let z = ne_eqb (tally (cell words) n) 0 (λ z. omega arith) in
          filled f.whole f.behind ∙ ap not z
      by (no l) = absurd (omega (arith, clear_behind f i (omega arith)))

  pub none-set : Filled → ((i : ℕ) → 0 ≤ i → cell words i ≡ 0) → fitting n words ≡ false
  none-set f h =
      let z = eq-eqb (tally (cell words) n) 0 (tally-none (cell words) n (λ i l. h i (omega arith))) in
      filled f.whole f.behind ∙ ap not z

  -- by the words
  pub by-words : Filled → ((i : ℕ) → get_or words i 0 < 2 ^ 64) → (r : Bool) → AnySet words r → r ≡ fitting n words
  by-words f b true s =
      let l = trailing 64 (get_or words s.0 0) s.3 (b s.0) in
      sym (some-set f (64 * s.0 + count_trailing_zeros 64 (get_or words s.0 0)) (cell_at words s.0 _ l.0 ∙ l.1.set))
  by-words f b false s = sym (none-set f (λ i l. clear-all i))
    where
      clear-all : (i : ℕ) → cell words i ≡ 0
      clear-all i = by (dec_lt i (64 * length words))
        where
          by : Dec (i < 64 * length words) → cell words i ≡ 0
          by (yes l) = clear-words words 0 (length words) s i (omega arith) l
          by (no l) = clear-past words (length words) i (omega arith) (omega arith)
