-- The declared types of this crate, in the terms of the definitions.
use Rattle.calendar.specs.declared.Refusal.{Refusal}
use Rattle.std.specs.Prelude.{Bool, ◌&&◌, ◌||◌, ℕ, leb, ltb, get_or, Result, Ok, Err}
use Rattle.calendar.specs.Reply.{Reply}
use Rattle.calendar.specs.Reply.Reply.{refused, answer}
use Rattle.calendar.specs.Refusals.{number_of}
use Rattle.calendar.specs.Table as Table
use Rattle.entries.specs.declared.Entry.{Entry}

-- the six numbers of an entry of the code
abbrev pub entry_of : Entry → Table.Entry
entry_of e = record { kind = e.kind; first = e.first; second = e.second; x = e.x; y = e.y; z = e.z }

-- a kind by its number. Beyond the last it is that of bottom, which check 4 keeps from being seen
abbrev pub kind_of : ℕ → Table.Kind
kind_of n = get_or Table.kinds n Table.no_operand

-- check 5, where a kind names n operands: each is one of the k entries before
abbrev pub operands_earlier : ℕ → ℕ → Table.Entry → Bool
operands_earlier n k e = (ltb n 1 || Table.earlier k e.first) && (ltb n 2 || Table.earlier k e.second)

-- of check 6: the operands that it does not name are 0
abbrev pub others_zero : ℕ → Table.Entry → Bool
others_zero n e = (leb 1 n || Table.zero? e.first) && (leb 2 n || Table.zero? e.second)

-- what checks 1, 2 and 3 come to
abbrev pub begun_reply : Result ℕ Refusal → Reply ℕ
begun_reply (Err x) = refused (number_of x)
begun_reply (Ok n) = answer n
