-- Cells: what a sound one is, and how one takes a value. Assumes nothing.
use Rattle.std.specs.Prelude.{ℕ, Bool, cond, not, ◌&&◌, ℤ, ◌≤ℤ◌, Ok, Err, Result, ◌==◌, nat_le}
use Rattle.drive.specs.Command.{InForce, is_off}
use Rattle.drive.specs.Width.{width_bits, within, fits}
use Rattle.drive.specs.declared.cell.Cell.{Cell}
use Rattle.drive.specs.declared.error.ChangeError.{ChangeError}
use Rattle.drive.specs.declared.error.ChangeError.TheVariants.{NotWritable, OtherWidth, OutsideLimits, OnlyWhileOff}
use Rattle.drive.specs.declared.width.Width.{Width}

-- a group or a number
abbrev pub one_to_255 : ℕ → Bool
one_to_255 n = nat_le 1 n && nat_le n 255

-- group and number are 1 to 255
abbrev pub has_valid_key : Cell → Bool
has_valid_key c = one_to_255 c.key.group && one_to_255 c.key.number

-- the value lies within the limits
abbrev pub value_within_limits : Cell → Bool
value_within_limits c = within c.low c.high c.value

-- the limits lie within the width
abbrev pub limits_within_width : Cell → Bool
limits_within_width c = fits c.width c.low && fits c.width c.high

-- a cell as it must be: group and number 1 to 255, limits within the width, value within the limits
abbrev pub is_sound : Cell → Bool
is_sound c = has_valid_key c && (limits_within_width c && value_within_limits c)

-- the cell with another value
abbrev pub with_value : Cell → ℤ → Cell
with_value c v = record {
  key = c.key;
  width = c.width;
  low = c.low;
  high = c.high;
  value = v;
  writable = c.writable;
  only_while_off = c.only_while_off;
}

-- the answer to a change of a cell under a command: the first check that fails, in this order
abbrev pub change_check : Cell → InForce → Width → ℤ → Result Unit ChangeError
change_check c command w v =
    cond (not c.writable) (Err NotWritable)
    (cond (not (width_bits c.width == width_bits w)) (Err OtherWidth)
    (cond (not (within c.low c.high v)) (Err OutsideLimits)
    (cond (c.only_while_off && not (is_off command)) (Err OnlyWhileOff)
    (Ok tt))))

-- a value that a cell takes lies within its limits
abbrev pub TakenFits : Result Unit ChangeError → Cell → ℤ → Type 0
TakenFits (Ok u) c v = (c.low ≤ℤ v) × (v ≤ℤ c.high)
TakenFits (Err e) c v = Unit {0}
