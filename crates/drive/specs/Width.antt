-- How wide a cell's value is. Assumes nothing.
use Rattle.std.specs.Prelude.{ℕ, Bool, ◌&&◌, ℤ, pos, negsuc, int_le}
use Rattle.drive.specs.declared.width.Width.{Width}
use Rattle.drive.specs.declared.width.Width.TheVariants.{Word, Double}

-- how many bits a value has
abbrev pub width_bits : Width → ℕ
width_bits Word = 16
width_bits Double = 32

-- the least value of a width: -32768 and -2147483648
abbrev pub least : Width → ℤ
least Word = negsuc 32767
least Double = negsuc 2147483647

-- the greatest one
abbrev pub greatest : Width → ℤ
greatest Word = pos 32767
greatest Double = pos 2147483647

-- z lies from low to high, ends included
abbrev pub within : ℤ → ℤ → ℤ → Bool
within low high z = int_le low z && int_le z high

-- a value fits a width
abbrev pub fits : Width → ℤ → Bool
fits w z = within (least w) (greatest w) z
