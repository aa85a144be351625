-- The meaning of a table, over calendars alone: which entries are answered, the calendar that each means, and when each refusal is given
-- (document 01, "How much room an entry takes" and "When the desk says no").
use Rattle.std.specs.Prelude.{◌≡◌, List, [], ◌∷◌, ◌++◌, ℕ, zero, suc, ◌-◌, ◌≤◌, ◌<◌, ℤ, pos, neg_ℤ, ◌≤ℤ◌, ◌<ℤ◌, length, get_or}
use Rattle.calendar.specs.Meaning.{Calendar, Repeats, IsCalendar}
use Rattle.calendar.specs.Operation.{Operation, map_operation}
use Rattle.calendar.specs.Algebra.{Labels, Result, FullOperands, Aligned, Emptied}
use Rattle.calendar.specs.Size.{Turn, span, working_period}
use Rattle.calendar.specs.Limits.{label_limit}
use Rattle.calendar.specs.Reply.{Reply}
use Rattle.calendar.specs.Reply.Reply.{refused, answer}
use Rattle.calendar.specs.Table.{Entry, entry_at, named, admitted}

-- "The least form uses the smallest P for which any N exists."
pub record LeastTurn (c : Calendar) (p : Turn) : Type 0 where
  pub positive : (1 ≤ p.period) × (1 ≤ p.distance)
  pub repeats : Repeats p.period p.distance c
  pub least : (P N : ℕ) → 1 ≤ P → 1 ≤ N → Repeats P N c → p.period ≤ P

-- what an answered entry means: a calendar, with the least period and its distance, from which room is counted
pub record Meant : Type 0 where
  pub calendar : Calendar
  pub turn : Turn

abbrev pub calendars : Operation Meant → Operation Calendar
calendars = map_operation (λ m. m.calendar)

abbrev pub turns : Operation Meant → Operation Turn
turns = map_operation (λ m. m.turn)

-- ---- one operation with the room it has

-- checks 7, 8, 9 and 10 pass, one after the other
pub record FullIn (o : Operation Meant) : Type 0 where
  pub full : FullOperands (calendars o)

pub record SpanIn (o : Operation Meant) (room : ℕ) : Type 0 where
  pub before : FullIn o
  pub fits : span (turns o) ≤ room

pub record AlignedIn (o : Operation Meant) (room : ℕ) : Type 0 where
  pub before : SpanIn o room
  pub aligned : Aligned (calendars o)

pub record KeptIn (o : Operation Meant) (room : ℕ) : Type 0 where
  pub before : AlignedIn o room
  pub kept : ¬ (Emptied (calendars o))

pub record WorkingIn (o : Operation Meant) (room : ℕ) : Type 0 where
  pub before : KeptIn o room
  pub fits : working_period (turns o) ≤ room

-- some instant is labelled
abbrev pub Labelled : Operation Calendar → Type 0
Labelled o = (t : ℤ) × (i : ℤ) × Labels o t i

-- each label of the instants 0 to P − 1 is within ±1,000,000,000
abbrev pub InRange : Operation Calendar → ℕ → Type 0
InRange o P = (t i : ℤ) → pos 0 ≤ℤ t → t <ℤ pos P → Labels o t i → (neg_ℤ label_limit ≤ℤ i) × (i ≤ℤ label_limit)

-- the reply to an operation: "7, 8 for the span, 9, 10, 8 for the working period, 12, 11", or what it means
pub data Judged (o : Operation Meant) (room : ℕ) : Reply Meant → Type 0 where
  not_full : ¬ (FullOperands (calendars o)) → Judged o room (refused 7)
  span-too-long : FullIn o → room < span (turns o) → Judged o room (refused 8)
  not_aligned : SpanIn o room → ¬ (Aligned (calendars o)) → Judged o room (refused 9)
  emptied : AlignedIn o room → Emptied (calendars o) → Judged o room (refused 10)
  period-too-long : KeptIn o room → room < working_period (turns o) → Judged o room (refused 8)
  unlabelled : WorkingIn o room → ¬ (Labelled (calendars o)) → Judged o room (refused 12)
  out_of_range : WorkingIn o room → Labelled (calendars o) → ¬ (InRange (calendars o) (working_period (turns o))) → Judged o room (refused 11)
  answered : {m : Meant} → WorkingIn o room → InRange (calendars o) (working_period (turns o)) → Result (calendars o) m.calendar
      → IsCalendar m.calendar → LeastTurn m.calendar m.turn → Judged o room (answer m)

-- ---- the table

-- what stands for an operand that is not there, which check 5 rules out
abbrev pub nothing : Meant
nothing = record { calendar = λ t. mathlib.Core.Option.none; turn = record { period = 1; distance = 1 } }

-- the reply to an entry behind the ones before: checks 4, 5 and 6, then those of its operation over what these mean
pub data EntryJudged (before : List Meant) (room : ℕ) (e : Entry) : Reply Meant → Type 0 where
  unread : {n : ℕ} → named (length before) e ≡ refused n → EntryJudged before room e (refused n)
  read : {o : Operation ℕ} {r : Reply Meant} → named (length before) e ≡ answer o → Judged (map_operation (λ k. get_or before k nothing) o) room r
      → EntryJudged before room e r

pub data TableReply : Type 0 where
  refused_at : ℕ → ℕ → TableReply
  means : List Meant → TableReply

-- n entries from k on. "Room is the pool's length less the least periods of all earlier entries."
pub data Entries (t : List ℤ) : ℕ → ℕ → List Meant → ℕ → TableReply → Type 0 where
  done : {k room : ℕ} {before : List Meant} → Entries t zero k before room (means before)
  stop : {n k room m : ℕ} {before : List Meant} → EntryJudged before room (entry_at t k) (refused m) → Entries t (suc n) k before room (refused_at m k)
  next : {n k room : ℕ} {before : List Meant} {m : Meant} {r : TableReply} → EntryJudged before room (entry_at t k) (answer m)
      → Entries t n (suc k) (before ++ (m ∷ [])) (room - m.turn.period) r → Entries t (suc n) k before room r

-- the whole table, with so many headings and so many cells lent: checks 1, 2 and 3, then entry by entry
pub data TableMeans (t : List ℤ) (headings pool : ℕ) : TableReply → Type 0 where
  not-admitted : {m : ℕ} → admitted t headings pool ≡ refused m → TableMeans t headings pool (refused_at m 0)
  entries : {n : ℕ} {r : TableReply} → admitted t headings pool ≡ answer n → Entries t n 0 [] pool r → TableMeans t headings pool r
