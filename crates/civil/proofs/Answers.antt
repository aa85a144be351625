-- An entry of a table whose result is a calendar with granules from s(i) to s(i + 1) − 1 is answered, if the periods
-- fit the room.
use mathlib.Core.Path.{◌≡◌, refl, sym, ap}
use mathlib.Core.Option.{Option, some}
use mathlib.Core.Bool.{true}
use Prim.Native.Nat.{ℕ, ◌*◌, ◌≤◌}
use native.Mathlib.Omega.{arith}
use lib.IntN.{ℤ, pos}
use Rattle.integers.specs.Gcd.{gcd, euclid}
use Rattle.integers.proofs.Linear.{ints, ◌∴◌}
use Rattle.integers.proofs.Order.{≤ℤ-antisym}
use Rattle.calendar.specs.Meaning.{Calendar}
use Rattle.calendar.specs.Operation.{Operation}
use Rattle.calendar.specs.Operation.Unary.{group}
use Rattle.calendar.specs.Operation.Binary.{alter}
use Rattle.calendar.specs.Operation.Operation.{bottom, unary, binary}
use Rattle.calendar.specs.Algebra.{Result, FullOperands, Aligned, Emptied}
use Rattle.calendar.specs.Size.{span, working_period}
use Rattle.calendar.specs.Reply.Reply.{answer}
use Rattle.granules.proofs.Tests.{some_inj}
use Rattle.algebra.specs.TableMeaning.{Meant, calendars, turns, WorkingIn, InRange, Judged, answered}
use Rattle.civil.proofs.Tilings.{Starts, Tiled, tiled-full, tiled-calendar, tiled-range}
use Rattle.civil.proofs.Shortest.{all_broken, least-turn}
use Rattle.civil.proofs.Grouped.{grouped, grouped-starts, grouped-result}
use Rattle.civil.proofs.Altered.{days, altered, Alters, altered-starts, days-partition, none-emptied, altered-result}

abbrev pub meant_by : Calendar → ℕ → ℕ → Meant
meant_by c P N = record { calendar = c; turn = record { period = P; distance = N } }

-- the instants are granules of one instant each
pub days-starts : Starts (λ i. i) 1 1 1
days-starts =
    record { turn = λ i. refl; length = λ i. simp ints (omega arith); origin = refl; positive = omega arith }

pub days-tiled : Tiled days (λ i. i)
days-tiled t i = (
  λ e. (some_inj e ∴ simp ints (omega arith), some_inj e ∴ simp ints (omega arith)),
  λ (h, k). ap {B = Option ℤ} some (≤ℤ-antisym (k ∴ simp ints (omega arith)) h),
)

module _ {s : ℤ → ℤ} {P N m : ℕ} (starts : Starts s P N m) {c : Calendar} (tiled : Tiled c s) where
  tiled-judged : {o : Operation Meant} {room : ℕ} → WorkingIn o room → working_period (turns o) ≡ P
      → Result (calendars o) c
      → N ≤ 1000000000 → (i : ℤ) → all_broken s P N i ≡ true → Judged o room (answer (meant_by c P N))
  tiled-judged {o} w e r n k test = answered w in-range r (tiled-calendar starts tiled) (least-turn starts tiled k test)
    where
      in-range : InRange (calendars o) (working_period (turns o))
      in-range t i h k l =
          let (low, high) = tiled-range starts tiled t i h (ap pos e ∴ k ∴ simp ints (omega arith)) ((r t i).1 l) in
          (low ∴ simp ints (omega arith), high ∴ simp ints (omega arith))

-- ---- the three kinds

-- all checks before the labels
passed : {o : Operation Meant} {room : ℕ} → FullOperands (calendars o) → span (turns o) ≤ room → Aligned (calendars o)
    → ¬ (Emptied (calendars o))
    → working_period (turns o) ≤ room → WorkingIn o room
passed f s a k w =
    record { before = record { before = record { before = record { before = record { full = f }; fits = s }; aligned = a }; kept = k }; fits = w }

pub days-judged : {room : ℕ} → 1 ≤ room → Judged bottom room (answer (meant_by days 1 1))
unfolding span working_period gcd euclid
days-judged h =
    tiled-judged days-starts days-tiled (passed tt h tt (λ e. e) h) refl (λ t i. (λ e. sym (some_inj e), λ e. ap {B = Option ℤ} some (sym e))) (omega arith) (pos 0) refl

module _ {s : ℤ → ℤ} {P N m : ℕ} (starts : Starts s P N m) {c : Calendar} (tiled : Tiled c s) {room : ℕ} where
  pub group-judged : (x n a : ℕ) → 1 ≤ x → 1 ≤ n → x * n ≡ N * a → {d : Calendar} → Tiled d (grouped x s)
      → working_period (turns (unary (group x) (meant_by c P N))) ≡ P * a → (P ≤ room) × (P * a ≤ room)
      → n ≤ 1000000000 → (i : ℤ) → all_broken (grouped x s) (P * a) n i ≡ true
      → Judged (unary (group x) (meant_by c P N)) room (answer (meant_by d (P * a) n))
  unfolding span
  group-judged x n a above positive e tiled' size fits =
      tiled-judged (grouped-starts starts x above n a positive e) tiled'
      (passed (tiled-full starts tiled) fits.0 tt (λ e. e) (rw size fits.1)) size (grouped-result starts x above tiled tiled')

  pub alter-judged : {x y : ℕ} {z : ℤ} {D n k a b : ℕ} → Alters x y z P N m D n k a b → {d : Calendar}
      → Tiled d (altered x y z s)
      → (span (turns (binary (alter x y z) (meant_by days 1 1) (meant_by c P N))) ≡ P) × (working_period (turns (binary (alter x y z) (meant_by days 1 1) (meant_by c P N))) ≡ D)
      → (P ≤ room) × (D ≤ room) → n ≤ 1000000000 → (i : ℤ) → all_broken (altered x y z s) D n i ≡ true
      → Judged (binary (alter x y z) (meant_by days 1 1) (meant_by c P N)) room (answer (meant_by d D n))
  alter-judged numbers tiled' size fits =
      tiled-judged (altered-starts starts numbers) tiled'
      (passed (tiled-full days-starts days-tiled, tiled-full starts tiled) (rw size.0 fits.0) (days-partition starts numbers tiled)
      (none-emptied starts numbers tiled) (rw size.1 fits.1))
      size.1 (altered-result starts numbers tiled tiled')
