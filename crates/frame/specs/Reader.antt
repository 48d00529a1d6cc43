-- What the reader makes of any bytes. Assumes nothing.
use Rattle.std.specs.Prelude.{ℕ, ◌+◌, Bool, cond, ◌&&◌, List, length, Ok, Err, Result, ◌==◌, nat_le, slice_index}
use Rattle.std.specs.List.{between}
use Rattle.frame.specs.Check.{check_byte}
use Rattle.frame.specs.Telegram.{Fields, fields_of, start_byte, end_byte}
use Rattle.frame.specs.declared.refusal.Refusal.{Refusal}
use Rattle.frame.specs.declared.refusal.Refusal.TheVariants.{NoLayout, WrongCheckByte}
use Rattle.frame.specs.declared.telegram.Frame.{Frame}
use Rattle.frame.specs.declared.telegram.Kind.TheVariants.{Short, Long}

-- byte k
abbrev at : List ℕ → ℕ → ℕ
at bytes k = slice_index bytes k

-- the short layout: 10h, DA, SA, FC, FCS, 16h
abbrev pub is_short : List ℕ → Bool
is_short bytes = length bytes == 6 && (at bytes 0 == start_byte Short && at bytes 5 == end_byte)

-- the long layout: 68h, LE, LE, 68h, the LE bytes DA, SA, FC and data, FCS, 16h; LE is 4 to 249
abbrev pub is_long : List ℕ → Bool
is_long bytes =
    (at bytes 0 == start_byte Long) && (at bytes 2 == at bytes 1 && (at bytes 3 == start_byte Long
    && (nat_le 4 (at bytes 1) && (nat_le (at bytes 1) 249
    && (length bytes == at bytes 1 + 6 && at bytes (at bytes 1 + 5) == end_byte)))))

-- the fields that lie from start on, DA first, up to the FCS at end; the data are that part of the bytes
abbrev pub fields_from : List ℕ → ℕ → ℕ → Fields
fields_from bytes start end = record {
  destination = at bytes start;
  source = at bytes (start + 1);
  function = at bytes (start + 2);
  «data» = between (start + 3) end bytes;
  place = start + 3;
}

-- these fields, if the FCS at end is the check byte of the bytes from start on
abbrev pub checked : List ℕ → ℕ → ℕ → Result Fields Refusal
checked bytes start end =
    cond (check_byte (between start end bytes) == at bytes end) (Ok (fields_from bytes start end)) (Err WrongCheckByte)

-- what the reader answers
abbrev pub reading : List ℕ → Result Fields Refusal
reading bytes =
    cond (is_short bytes) (checked bytes 1 4)
    (cond (is_long bytes) (checked bytes 4 (at bytes 1 + 4)) (Err NoLayout))

-- the reader's answer with the fields that its frame carries
abbrev pub outcome : Result Frame Refusal → Result Fields Refusal
outcome (Ok f) = Ok (fields_of f)
outcome (Err e) = Err e
