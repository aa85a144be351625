-- What a start or a call of a walk comes to with a record for each heading, by what it comes to over the numbers of the first headings.
use Rattle.std.specs.Prelude.{◌≡◌, Bool, true, false, ◌&&◌, cond, List, ◌++◌, ℕ, ◌+◌, ◌*◌, eqb, ℤ, length}
use Rattle.calendar.specs.Limits.{heading_length}
use Rattle.headings.specs.declared.Heading.{Heading}
use Rattle.headings.specs.Records.{numbers_of}
use Rattle.headings.specs.LeftRecords.{records_of}
use Rattle.heading_records.specs.Reading.{at_most}
use Rattle.walks.specs.Walk as W
use Rattle.walks.specs.Walk.Progress.{due, done, refused_at}
use Rattle.steps.specs.State.{walk_of, Gives}
use Rattle.walk_records.specs.declared.Passed.{Passed}

-- ---- the start

-- what is passed is what the start leaves of lists with the numbers of n headings, whatever they hold
pub record Begins (t : List ℤ) (n : ℕ) (before : List ℤ) (p : Passed) (pool : List ℤ) : Type 0 where
  pub gives : (headings : List ℕ) → length headings ≡ heading_length * n → Gives (W.start t headings before) p.walk (numbers_of (records_of p.numbers n)) pool
  pub none_kept : p.kept ≡ false

-- ---- a call

-- the length of the first of n headings that a walk is told, which began with so many numbers: it is another one where these are not all the numbers
-- of n headings, or a heading beyond the first is not zero
abbrev pub told_of : ℕ → Bool → ℕ → ℕ
told_of began zero n = cond (zero && eqb (heading_length * n) began) (heading_length * at_most n) (heading_length * at_most n + 1)

-- the walk over the first of n headings
abbrev pub inner_of : W.Walk → Bool → ℕ → W.Walk
inner_of w zero n = record {
  lengths = record { table = w.lengths.table; headings = told_of w.lengths.headings zero n; pool = w.lengths.pool };
  progress = w.progress;
}

abbrev pub has_ended : W.Progress → Bool
has_ended (due k) = false
has_ended done = true
has_ended (refused_at m k) = true

-- what is passed is what s leaves of the first headings, in a walk that began with these lengths; the numbers `rest` stand behind them
pub record Passes (began : W.Lengths) (s : W.Left) (rest : List ℕ) (kept : Bool) (p : Passed) (pool : List ℤ) : Type 0 where
  pub state : walk_of p.walk ≡ record { lengths = began; progress = s.walk.progress }
  pub numbers : p.numbers ≡ s.headings ++ rest
  pub stay : p.kept ≡ kept
  pub cells : pool ≡ s.pool

-- ---- the headings

-- as they are once they are written
abbrev pub written : Passed → List Heading → List Heading
written p hs = cond p.kept hs (records_of p.numbers (length hs))
