-- Opening a file by windows from its end: a window that holds the file's bytes from `base` on finds what the whole file
-- has there.
use Rattle.std.specs.Prelude.{Some, None, Option}
use mathlib.Core.Path.{◌≡◌, refl, sym, ap, ◌∙◌}
use mathlib.Core.Logic.{⊎_elim}
use mathlib.Core.List.{List}
use Prim.Native.Nat.{ℕ, zero, suc, ◌+◌, ◌-◌, ◌≤◌, ◌<◌}
use native.Mathlib.Nat.{add-zero, add-suc, add_assoc}
use native.Mathlib.Omega.{arith}
use lib.Dec.{leb}
use lib.ListN.{length, take, drop, length-take, length-drop}
use lib.Seq.{get_or-take, get_or-drop}
use borrow.Author.Tests.{leb-true, leb-false}
use Rattle.granules.proofs.Tests.{true-or-false}
use Rattle.journal.specs.Journal.{byte_at, length_at, points_back, opened}
use Rattle.journal.specs.Window.{points_in, last_in}
use Rattle.journal.specs.Opens.{body_of}
use Rattle.journal.specs.Answers.{placed, opened_in, overlap, stepped, step_in, ByWindows}
use Rattle.journal.specs.Answers.ByWindows.{body as by-body, before as by_before, empty as by-empty}
use Rattle.journal.specs.declared.opened.Step.{Step}
use Rattle.journal.specs.declared.opened.Step.TheVariants.{Body as StepBody, Before, Empty as StepEmpty}
use Rattle.journal.proofs.Trailers.{last_none, last-here, last_on, last_found, points-stand, points-false}
use Rattle.journal.proofs.Finding.{whole-points, open-finds}

-- the last five places hold no whole trailer
cut-places : (w : List ℕ) (base q k : ℕ) → length w ≤ q + overlap → last_in w base (q + k) ≡ last_in w base q
cut-places w base q zero h = ap (last_in w base) (add-zero q)
cut-places w base q (suc k) h =
    ap (last_in w base) (add-suc q k)
    ∙ last_on w base (q + k) (points-false w base (q + k) (λ f. let s = points-stand w base (q + k) f in omega arith))
    ∙ cut-places w base q k h

-- so the search from the end of a list
last_end : (w : List ℕ) (base : ℕ) → last_in w base (length w) ≡ last_in w base (length w - overlap)
last_end w base =
    ap (last_in w base) (let e : length w ≡ (length w - overlap) + (length w - (length w - overlap)) = omega arith in e)
    ∙ cut-places w base (length w - overlap) (length w - (length w - overlap)) (omega arith)

-- what is found before q in the whole file
abbrev pub found_before : List ℕ → ℕ → Option (ℕ × ℕ)
found_before book q = placed (last_in book 0 q)

module _ (book : List ℕ) (base m : ℕ) (in-file : base + m ≤ length book) where
  abbrev window : List ℕ
  window = take m (drop base book)

  length-window : length window ≡ m
  length-window = omega (arith, length-take m (drop base book), length-drop base book)

  byte-there : (p k : ℕ) → p + k < m → byte_at window (p + k) ≡ byte_at book (base + p + k)
  byte-there p k h =
      get_or-take m (drop base book) (p + k) 0 h ∙ get_or-drop base book (p + k) 0 ∙ ap (byte_at book) (sym (add_assoc base p k))

  module _ (p : ℕ) (h : p + 5 < m) where
    same_length : length_at window p ≡ length_at book (base + p)
    same_length =
        rw (byte-there p 1 (omega arith), byte-there p 2 (omega arith), byte-there p 3 (omega arith), byte-there p 4 (omega arith))

    same_start : byte_at window p ≡ byte_at book (base + p)
    same_start = get_or-take m (drop base book) p 0 (omega arith) ∙ get_or-drop base book p 0

    points-there : points_in window base p ≡ points_back book (base + p)
    unfolding points_in points_back
    points-there =
        rw (same_start, byte-there p 1 (omega arith), byte-there p 2 (omega arith))
        (rw (byte-there p 3 (omega arith), byte-there p 4 (omega arith), byte-there p 5 (omega arith)))

    same_points : points_in window base p ≡ points_in book 0 (base + p)
    same_points = points-there ∙ sym (whole-points book (base + p))

  -- what the window's search says of the file: the body, or that the search goes on before the window
  abbrev said : Option (ℕ × ℕ) → Option (ℕ × ℕ)
  said (Some (p, n)) = Some (base + p - n, n)
  said None = found_before book base

  here : (p : ℕ) → p + 5 < m → placed (Some (base + p, (length_at book (base + p)))) ≡ said (Some (p, length_at window p))
  here p h = ap (λ (n : ℕ). Some (base + p - n, n)) (sym (same_length p h))

  inside : (q : ℕ) → q + 5 ≤ m → found_before book (base + q) ≡ said (last_in window base q)
  inside zero h = ap (found_before book) (add-zero base) ∙ ap said (sym (last_none window base))
  inside (suc p) h =
      ap (found_before book) (add-suc base p)
      ∙ ⊎_elim
      (λ e.
      ap placed (last-here book 0 (base + p) (sym (same_points p (omega arith)) ∙ e))
      ∙ here p (omega arith)
      ∙ ap said (sym (last-here window base p e)))
      (λ e.
      ap placed (last_on book 0 (base + p) (sym (same_points p (omega arith)) ∙ e))
      ∙ inside p (omega arith)
      ∙ ap said (sym (last_on window base p e)))
      (true-or-false (points_in window base p))

  -- of the places of the file from `base` up to the last at which a trailer fits into the window
  window-says : found_before book (base + (m - overlap)) ≡ said (last_in window base (length window))
  window-says = ⊎_elim
      (λ e. let h : overlap ≤ m = leb-true overlap m e in inside (m - overlap) (omega arith) ∙ ap said (sym ends))
      (λ e.
      let h : m < overlap = leb-false overlap m e in
      let z : m - overlap ≡ 0 = omega arith in
      ap (λ (k : ℕ). found_before book (base + k)) z
      ∙ ap (found_before book) (add-zero base)
      ∙ ap said (sym (ends ∙ ap (last_in window base) z ∙ last_none window base)))
      (true-or-false (leb overlap m))
    where
      ends : last_in window base (length window) ≡ last_in window base (m - overlap)
      ends = last_end window base ∙ ap (λ (k : ℕ). last_in window base (k - overlap)) length-window

-- what a step says of the whole file
abbrev pub said_by : List ℕ → Step → Option (ℕ × ℕ)
said_by book (StepBody start n) = Some (start, n)
said_by book (Before end) = found_before book (end - overlap)
said_by book StepEmpty = None

stepped-says : (book : List ℕ) (base m : ℕ) (h : base + m ≤ length book) (f : Option (ℕ × ℕ))
    → said book base m h f ≡ said_by book (stepped base f)
stepped-says book base m h (Some (p, n)) = refl
stepped-says book zero m h None = ap placed (last_none book 0)
stepped-says book (suc b) m h None =
    ap (found_before book) (let e : suc b ≡ suc b + overlap - overlap = omega arith in e)

pub step-says : (book : List ℕ) (base m : ℕ) → base + m ≤ length book
    → found_before book (base + (m - overlap)) ≡ said_by book (step_in (take m (drop base book)) base)
unfolding step_in
step-says book base m h =
    window-says book base m h ∙ stepped-says book base m h (last_in (take m (drop base book)) base (length (take m (drop base book))))

-- the next window ends behind the start of this one
step_end : (base : ℕ) (f : Option (ℕ × ℕ)) {end : ℕ} → stepped base f ≡ Before end → (0 < base) × (end ≡ base + overlap)
step_end base (Some (p, n)) e = let z : ◌≡◌ {A = ℕ} 0 1 = cc in absurd (omega arith)
step_end zero None e = let z : ◌≡◌ {A = ℕ} 0 1 = cc in absurd (omega arith)
step_end (suc b) None e = (omega arith, cc)

pub step-before : (window : List ℕ) (base : ℕ) {end : ℕ} → step_in window base ≡ Before end → (0 < base) × (end ≡ base + overlap)
unfolding step_in
step-before window base e = step_end base (last_in window base (length window)) e

-- a body that is found has 1 to 4,096 bytes, and its trailer ends in the window
step-found : (window : List ℕ) (base : ℕ) (f : Option (ℕ × ℕ)) → last_in window base (length window) ≡ f → {start n : ℕ}
    → stepped base f ≡ StepBody start n → (1 ≤ n) × (n ≤ 4096) × (start + n + 6 ≤ base + length window)
step-found window base (Some (p, k)) q {start} {n} e =
    let place : base + p - k ≡ start = cc in
    let says : k ≡ n = cc in
    let f = last_found window base (length window) q in
    let stand = points-stand window base p f.0 in
    (omega (arith, f.0.positive, f.1), omega (arith, f.0.short, f.1), omega (arith, f.0.within, f.1))
step-found window zero None q e = let z : ◌≡◌ {A = ℕ} 0 1 = cc in absurd (omega arith)
step-found window (suc b) None q e = let z : ◌≡◌ {A = ℕ} 0 1 = cc in absurd (omega arith)

pub step-body : (window : List ℕ) (base : ℕ) {start n : ℕ} → step_in window base ≡ StepBody start n
    → (1 ≤ n) × (n ≤ 4096) × (start + n + 6 ≤ base + length window)
unfolding step_in
step-body window base e = step-found window base (last_in window base (length window)) refl e

-- a window of seven bytes, a trailer and the last byte of its body, does not start before the body
pub step-no-further : (window : List ℕ) (base : ℕ) {start n : ℕ} → step_in window base ≡ StepBody start n → length window ≤ 7
    → start ≤ base
step-no-further window base e h = omega (arith, step-body window base e)

-- ---- opening by windows, whatever their lengths, finds what opening the whole file finds

windows-before : (book : List ℕ) {end : ℕ} {r : Option (ℕ × ℕ)} → ByWindows book end r → end ≤ length book
    → r ≡ found_before book (end - overlap)
windows-before book (by-body base m {start = s} {n = n} l e) h =
    sym (ap (found_before book) (let q : base + m - overlap ≡ base + (m - overlap) = omega arith in q)
    ∙ step-says book base m h
    ∙ ap (said_by book) e)
windows-before book (by_before base m {end = end} l e w) h =
    let b = step-before (take m (drop base book)) base e in
    windows-before book w (omega arith)
    ∙ sym (ap (found_before book) (let q : base + m - overlap ≡ base + (m - overlap) = omega arith in q)
    ∙ step-says book base m h
    ∙ ap (said_by book) e)
windows-before book (by-empty m e) h =
    sym (ap (found_before book) (let q : m - overlap ≡ 0 + (m - overlap) = omega arith in q)
    ∙ step-says book 0 m (omega arith)
    ∙ ap (said_by book) e)

pub windows-open : (book : List ℕ) {r : Option (ℕ × ℕ)} → ByWindows book (length book) r → r ≡ opened_in book
unfolding opened_in
windows-open book w = windows-before book w (omega arith) ∙ ap placed (sym (last_end book 0))

pub windows-find : (book : List ℕ) {r : Option (ℕ × ℕ)} → ByWindows book (length book) r → body_of book r ≡ opened book
windows-find book w = ap (body_of book) (windows-open book w) ∙ open-finds book
