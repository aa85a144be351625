-- Calendars whose granule i is the instants s(i) to s(i + 1) − 1.
--     Each instant is in exactly one of them (`algebra/proofs/Tiles`), so such a calendar is full and in order, and
--     repeats as s does.
use mathlib.Core.Path.{◌≡◌, sym, ◌∙◌, ap}
use mathlib.Core.Logic.{◌↔◌}
use mathlib.Core.Option.{Option, some}
use Prim.Native.Nat.{ℕ, ◌≤◌}
use native.Mathlib.Omega.{arith}
use lib.IntN.{ℤ, pos, ◌+ℤ◌, ◌-ℤ◌, ◌*ℤ◌}
use lib.Signed.{◌≤ℤ◌}
use Rattle.integers.specs.Floor.{floor_div}
use Rattle.integers.proofs.Linear.{ints, ◌∴◌}
use Rattle.integers.proofs.Floor.{floor-eq, floor-lt}
use Rattle.calendar.specs.Meaning.{Calendar, Full, Ordered, Repeats, IsCalendar, raise, Row, meant, LeastRow}
use Rattle.calendar.specs.Granules.{granules, full}
use Rattle.granules.proofs.Tests.{some_inj, eqb-iff}
use Rattle.granules.proofs.Rows.{valid-of-least}
use Rattle.granules.proofs.Count.{full-iff}
use Rattle.algebra.proofs.Tiles.{Tiling, find, tiles-ordered, tiles-unique, rises-many, count-at-most, holder, holder-iff}

-- the first instants of granules: N granules are P instants, each at least m; granule 1 begins with instant 1
pub record Starts (s : ℤ → ℤ) (P N m : ℕ) : Type 0 where
  pub turn : (i : ℤ) → s (i +ℤ pos N) ≡ s i +ℤ pos P
  pub length : (i : ℤ) → (s i +ℤ pos m) ≤ℤ s (i +ℤ pos 1)
  pub origin : s (pos 1) ≡ pos 1
  pub positive : (1 ≤ N) × (1 ≤ m)

-- the last instant of the granule i
abbrev pub ends : (ℤ → ℤ) → ℤ → ℤ
ends s i = s (i +ℤ pos 1) -ℤ pos 1

-- c labels the instants s(i) to s(i + 1) − 1 with i
abbrev pub Tiled : Calendar → (ℤ → ℤ) → Type 0
Tiled c s = (t i : ℤ) → (c t ≡ some i) ↔ ((s i ≤ℤ t) × (t ≤ℤ ends s i))

-- such a calendar, which searches the N granules of a turn
unfoldable pub tiles : (ℤ → ℤ) → ℕ → ℕ → Calendar
tiles s P N = holder s (ends s) N P

module _ {s : ℤ → ℤ} {P N m : ℕ} (starts : Starts s P N m) where
  pub tiling : Tiling s (ends s)
  tiling =
      record { next = λ i. simp ints (omega arith); nonempty = λ i. starts.length i ∴ starts.positive ∴ simp ints (omega arith) }

  pub period-positive : 1 ≤ P
  period-positive = omega (arith, starts.positive, count-at-most tiling N P starts.turn)

  pub tiles-tiled : Tiled (tiles s P N) s
  unfolding tiles
  tiles-tiled = holder-iff tiling N P starts.turn starts.positive.0

  -- so is any function that gives each instant a granule which has it
  pub function-tiled : (f : ℤ → ℤ) → ((t : ℤ) → (s (f t) ≤ℤ t) × (t ≤ℤ ends s (f t))) → Tiled (λ t. some (f t)) s
  function-tiled f h t i = (
    λ e. let (l, u) =
        h t in (ap s (some_inj e) ∴ l ∴ simp ints (omega arith), ap (ends s) (some_inj e) ∴ u ∴ simp ints (omega arith)),
    λ (l, u). let (l', u') = h t in ap {B = Option ℤ} some (tiles-unique tiling (f t) i t l' u' l u),
  )

  -- each instant is in a granule
  pub granule_of : (t : ℤ) → (i : ℤ) × (s i ≤ℤ t) × (t ≤ℤ ends s i)
  granule_of t =
      let k = floor_div (t -ℤ s (pos 0)) P in
      let i = pos 0 +ℤ pos N *ℤ k in
      let e = floor-eq P period-positive (t -ℤ s (pos 0)) in
      let b = floor-lt P period-positive (t -ℤ s (pos 0)) in
      let g = rises-many s N P starts.turn k (pos 0) in
      let r = find tiling N i t (e ∴ g ∴ simp ints (omega arith)) (e ∴ b ∴ g ∴ starts.turn i ∴ simp ints (omega arith)) in
      (r.0, r.3, r.4)

  module _ {c : Calendar} (tiled : Tiled c s) where
    pub label-at : (t : ℤ) → (i : ℤ) × (c t ≡ some i)
    label-at t = let g = granule_of t in (g.0, (tiled t g.0).1 (g.1, g.2))

    pub tiled-full : Full c
    tiled-full i = (s i, (tiled (s i) i).1 (simp ints (omega arith), tiling.nonempty i))

    pub tiled-ordered : Ordered c
    tiled-ordered u v i j h e f = tiles-ordered tiling i j u v ((tiled u i).0 e).0 h ((tiled v j).0 f).1

    pub tiled-repeats : Repeats P N c
    tiled-repeats t =
        let (i, e) = label-at t in
        let h = (tiled t i).0 e in
        let g = ap s {x = i +ℤ pos N +ℤ pos 1} {y = i +ℤ pos 1 +ℤ pos N} (simp ints (omega arith)) ∙ starts.turn (i +ℤ pos 1) in
        (tiled (t +ℤ pos P) (i +ℤ pos N)).1 (starts.turn i ∴ h ∴ simp ints (omega arith), g ∴ h ∴ simp ints (omega arith))
        ∙ sym (ap (raise (pos N)) e)

    pub tiled-calendar : IsCalendar c
    tiled-calendar = record {
      ordered = tiled-ordered;
      period = P;
      distance = N;
      positive = (period-positive, starts.positive.0);
      repeats = tiled-repeats;
      label = pos 1;
      labelled = tiled-full (pos 1);
    }

    -- the instants 0 to P have labels from 0 to N
    pub tiled-range : (t i : ℤ) → pos 0 ≤ℤ t → t ≤ℤ pos P → c t ≡ some i → (pos 0 ≤ℤ i) × (i ≤ℤ pos N)
    tiled-range t i h k e =
        let (low, high) = (tiled t i).0 e in
        let turn : s (pos N +ℤ pos 1) ≡ s (pos 1) +ℤ pos P = ap s {x = pos N +ℤ pos 1} {y = pos 1 +ℤ pos N} (simp ints (omega arith)) ∙ starts.turn (pos 1) in (
          tiles-ordered tiling (pos 0) i (pos 0) t (starts.origin ∴ tiling.nonempty (pos 0) ∴ simp ints (omega arith)) h high,
          tiles-ordered tiling i (pos N) t (pos P) low k (turn ∴ starts.origin ∴ simp ints (omega arith)),
        )

    -- such a calendar is full: its least row has as many granules as its distance
    pub tiled-granules : (r : Row) → LeastRow c r → granules r ≡ r.distance
    unfolding full
    tiled-granules r least =
        let valid = valid-of-least r c tiled-calendar least in
        let all : Full (meant r) = λ i. let (t, e) = tiled-full i in (t, least.means t ∙ e) in
        (eqb-iff (granules r) r.distance).0 ((full-iff r valid).1 all)
