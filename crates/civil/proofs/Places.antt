-- The day of an instant's date is the instant's place in its month (document 02, Req 08): the instants of the month
-- up to it are as many.
use mathlib.Core.Path.{◌≡◌, refl, sym, ◌∙◌, ap}
use mathlib.Core.Option.{some}
use mathlib.Core.List.{List}
use native.Mathlib.Omega.{arith}
use lib.IntN.{ℤ}
use lib.ListN.{length}
use lib.Signed.{◌≤ℤ◌}
use Rattle.integers.proofs.Linear.{ints, ◌∴◌}
use Rattle.integers.proofs.Order.{≤ℤ-trans}
use Rattle.calendar.specs.Meaning.{Row, meant, Same, LeastRow}
use Rattle.calendar.specs.Algebra.{Lists}
use Rattle.calendar.specs.Lists.{from}
use Rattle.calendar.specs.Questions.{place, Placed, placed}
use Rattle.granules.specs.Valid.{Valid}
use Rattle.granules.proofs.Lists.{mem-from, length_from, rising-from, lists-unique}
use Rattle.granules.proofs.Rows.{valid-of-least}
use Rattle.granules.proofs.Questions.{place-lists, placed-some}
use Rattle.civil.specs.Rule.{Date, Exists, date_of, months, month_slot}
use Rattle.civil.specs.Instants.{instant_of}
use Rattle.civil.proofs.Tilings.{tiled-calendar}
use Rattle.civil.proofs.Entries.{s9, starts-9}
use Rattle.civil.proofs.Dates.{date-on, on-inside}
use Rattle.civil.proofs.Civil.{months-tiled}
use Rattle.civil.proofs.Instants.{date-of-instant}

module _ (t : ℤ) where
  abbrev pub slot : ℤ
  slot = month_slot (date_of t).year (date_of t).month

  first : ℤ
  first = s9 slot

  month-is : months t ≡ some slot
  unfolding months
  month-is = refl

  -- from the first instant of the month to t
  up_to : Lists (λ u. (months u ≡ months t) × (u ≤ℤ t)) (from first (date_of t).day)
  unfolding first
  up_to = record {
    rising = rising-from first (date_of t).day;
    member = λ u. (
      λ (e, h). (mem-from u first (date_of t).day).1 (((months-tiled u slot).0 (e ∙ month-is)).0, (date-on t).at ∴ h ∴ simp ints (omega arith)),
      λ k. let (l, b) = (mem-from u first (date_of t).day).0 k in
          let h : u ≤ℤ t = (date-on t).at ∴ b ∴ simp ints (omega arith) in
          ((months-tiled u slot).1 (l, ≤ℤ-trans h (on-inside (date-on t)).1) ∙ sym month-is, h),
    );
  }

  pub day-is-place : (l : List ℤ) → Lists (λ u. (months u ≡ months t) × (u ≤ℤ t)) l → length l ≡ (date_of t).day
  day-is-place l h =
      ap length (lists-unique l (from first (date_of t).day) h up_to) ∙ length_from first (date_of t).day

  module _ (r : Row) (v : Valid r) (means : Same (meant r) months) where
    day-in : place r slot t ≡ (date_of t).day
    day-in = sym (place-lists r v slot t (from first (date_of t).day) in_row) ∙ length_from first (date_of t).day
      where
        in_row : Lists (λ u. (meant r u ≡ some slot) × (u ≤ℤ t)) (from first (date_of t).day)
        in_row = record {
          rising = up_to.rising;
          member = λ u. (
            λ (e, h). (up_to.member u).0 (sym (means u) ∙ e ∙ sym month-is, h),
            λ k. let (e, h) = (up_to.member u).1 k in (means u ∙ e ∙ month-is, h),
          );
        }

    -- "the day of a Req 05 date is its instant's place in its month": in any row that means the months, at every instant
    pub day-placed : placed r t ≡ some (record { label = slot; place = (date_of t).day })
    day-placed = (placed-some r t (record { label = slot; place = (date_of t).day })).1 (means t ∙ month-is, sym day-in)

  -- by the months' least row
  pub day-in-row : (r : Row) → LeastRow months r → place r slot t ≡ (date_of t).day
  day-in-row r least = day-in r (valid-of-least r months (tiled-calendar starts-9 months-tiled) least) least.means

-- "its instant": of a date that exists
pub date-placed : (r : Row) → Valid r → Same (meant r) months → {d : Date} → Exists d
    → placed r (instant_of d.year d.month d.day) ≡ some (record { label = month_slot d.year d.month; place = d.day })
date-placed r v means {d} h =
    let at : Date → Placed = λ e. record { label = month_slot e.year e.month; place = e.day } in
    day-placed (instant_of d.year d.month d.day) r v means ∙ ap (λ (e : Date). some (at e)) (date-of-instant h)
