-- Lists that show the calendars of a table's entries are the only ones of their lengths that do.
-- Assumes nothing.
use mathlib.Core.Path.{◌≡◌, refl, sym, ◌∙◌, ap, subst}
use mathlib.Core.Logic.{◌⊎◌, inl, inr, ⊎_map}
use mathlib.Core.List.{List}
use Prim.Native.Nat.{ℕ, zero, suc, ◌+◌, ◌-◌, ◌*◌, ◌/◌, ◌%◌, ◌≤◌, ◌<◌}
use native.Mathlib.Omega.{arith}
use lib.IntN.{ℤ}
use lib.ListN.{length, get_or, drop}
use lib.Seq.{get_or-take, get_or-drop, ext_get_or}
use Rattle.calendar.specs.Limits.{heading_length}
use Rattle.calendar.specs.Meaning.{Row, empty}
use Rattle.calendar.specs.Granules.{granules}
use Rattle.granules.proofs.Tests.{decided, ltb_iff}
use Rattle.granules.proofs.Equal.{least-row-unique}
use Rattle.algebra.specs.TableMeaning.{Meant, nothing}
use Rattle.conversion.specs.Conversion.{Conversion}
use Rattle.conversion.specs.Shows.{start_at, period_at, distance_at, granules_at, end_at, row_at, ShowsRows}
use Rattle.conversion.proofs.LeftRows.{labels-counted}

lt-or-ge : (i n : ℕ) → (i < n) ⊎ (n ≤ i)
lt-or-ge i n = ⊎_map (λ h. h) (λ never. omega arith) (decided (ltb_iff i n))

module _ (ms : List Meant) (h p : ℕ) (c d : Conversion) (H G : List ℕ) (P Q : List ℤ) (s : ShowsRows ms h p c H P) (s' : ShowsRows ms h p d G Q) where
  abbrev n : ℕ
  n = length ms

  -- ---- rows

  row_same : (k : ℕ) → k < n → row_at H P k ≡ row_at G Q k
  row_same k b =
      let r = s.rows k b in
      least-row-unique (get_or ms k nothing).calendar (row_at H P k) (row_at G Q k) r.calendar r.least (s'.rows k b).least

  period-same : (k : ℕ) → k < n → period_at H k ≡ period_at G k
  period-same k b = ap (λ (r : Row). r.period) (row_same k b)

  distance-same : (k : ℕ) → k < n → distance_at H k ≡ distance_at G k
  distance-same k b = ap (λ (r : Row). r.distance) (row_same k b)

  granules-same : (k : ℕ) → k < n → granules_at H k ≡ granules_at G k
  granules-same k b =
      labels-counted (get_or ms k nothing) (row_at H P k) (s.rows k b) (granules_at H k) (s.granules k b)
      ∙ ap granules (row_same k b)
      ∙ sym (labels-counted (get_or ms k nothing) (row_at G Q k) (s'.rows k b) (granules_at G k) (s'.granules k b))

  start-same : (k : ℕ) → k < n → start_at H k ≡ start_at G k
  start-same zero b = s.first ∙ sym s'.first
  start-same (suc k) b =
      let ih = start-same k (omega arith) in
      let q = period-same k (omega arith) in
      omega (arith, s.next k b, s'.next k b)

  -- ---- headings

  number_same : (k j : ℕ) → k < n → j < heading_length → get_or H (heading_length * k + j) 0 ≡ get_or G (heading_length * k + j) 0
  number_same k zero b l =
      let z : heading_length * k ≡ heading_length * k + 0 = omega arith in
      subst (λ (i : ℕ). get_or H i 0 ≡ get_or G i 0) z (start-same k b)
  number_same k (suc zero) b l = period-same k b
  number_same k (suc (suc zero)) b l = distance-same k b
  number_same k (suc (suc (suc zero))) b l = granules-same k b
  number_same k (suc (suc (suc (suc j)))) b l = absurd (omega arith)

  -- either list holds the same number at an index, below the headings or behind
  number_at : (i : ℕ) → (i < heading_length * n) ⊎ (heading_length * n ≤ i) → get_or H i 0 ≡ get_or G i 0
  number_at i (inl b) =
      let e : heading_length * (i / heading_length) + i % heading_length ≡ i = omega arith in
      subst (λ (j : ℕ). get_or H j 0 ≡ get_or G j 0) e (number_same (i / heading_length) (i % heading_length) (omega arith) (omega arith))
  number_at i (inr b) = s.beyond i b ∙ sym (s'.beyond i b)

  pub numbers-same : H ≡ G
  numbers-same = ext_get_or 0 H G (s.lengths.0 ∙ sym s'.lengths.0) (λ i b. number_at i (lt-or-ge i (heading_length * n)))

  -- ---- cells

  -- in the row k
  cell_in : (k i : ℕ) → k < n → start_at H k ≤ i → i < end_at H k → get_or P i empty ≡ get_or Q i empty
  cell_in k i b low high =
      let j = i - start_at H k in
      let e : start_at H k + j ≡ i = omega arith in
      let f : start_at G k + j ≡ i = omega (arith, start-same k b) in
      let inside : j < period_at H k = omega arith in
      ap (λ (x : ℕ). get_or P x empty) (sym e)
      ∙ sym (get_or-drop (start_at H k) P j empty)
      ∙ sym (get_or-take (period_at H k) (drop (start_at H k) P) j empty inside)
      ∙ ap (λ (r : Row). get_or r.cells j empty) (row_same k b)
      ∙ get_or-take (period_at G k) (drop (start_at G k) Q) j empty (omega (arith, period-same k b))
      ∙ get_or-drop (start_at G k) Q j empty
      ∙ ap (λ (x : ℕ). get_or Q x empty) f

  -- up to the end of the row k
  cell-before : (k i : ℕ) → k < n → i < end_at H k → get_or P i empty ≡ get_or Q i empty
  cell-before zero i b high = cell_in zero i b (omega (arith, s.first)) high
  cell-before (suc k) i b high = by (lt-or-ge i (end_at H k)) (cell-before k i (omega arith))
    where
      by : (i < end_at H k) ⊎ (end_at H k ≤ i) → (i < end_at H k → get_or P i empty ≡ get_or Q i empty) → get_or P i empty ≡ get_or Q i empty
      by (inl l) ih = ih l
      by (inr l) ih = cell_in (suc k) i b (omega (arith, s.next k b)) high

  -- ends rise
  end-rises : (k m : ℕ) → k + m < n → end_at H k ≤ end_at H (k + m)
  end-rises k zero b = let e : k + 0 ≡ k = omega arith in omega (arith, ap (end_at H) e)
  end-rises k (suc m) b =
      let e : k + suc m ≡ suc (k + m) = omega arith in
      omega (arith, ap (end_at H) e, ap (start_at H) e, end-rises k m (omega arith), s.next (k + m) (omega arith))

  cell-behind : (i : ℕ) → ((k : ℕ) → k < n → end_at H k ≤ i) → get_or P i empty ≡ get_or Q i empty
  cell-behind i b =
      s.behind i b ∙ sym (s'.behind i (λ k l. omega (arith, b k l, start-same k l, period-same k l)))

  cell_at : (m : ℕ) → n ≡ m → (i : ℕ) → get_or P i empty ≡ get_or Q i empty
  cell_at zero e i = cell-behind i (λ k b. absurd (omega arith))
  cell_at (suc m) e i = by (lt-or-ge i (end_at H m))
    where
      rises : (k : ℕ) → k < n → end_at H k ≤ end_at H m
      rises k b =
          let x : k + (m - k) ≡ m = omega arith in
          subst (λ (j : ℕ). end_at H k ≤ end_at H j) x (end-rises k (m - k) (omega arith))

      by : (i < end_at H m) ⊎ (end_at H m ≤ i) → get_or P i empty ≡ get_or Q i empty
      by (inl l) = cell-before m i (omega arith) l
      by (inr l) = cell-behind i (λ k b. omega (arith, rises k b))

  pub cells_same : P ≡ Q
  cells_same = ext_get_or empty P Q (s.lengths.1 ∙ sym s'.lengths.1) (λ i b. cell_at n refl i)
