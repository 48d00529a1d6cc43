-- The numbers and the words of the refusals. Assumes nothing.
use Rattle.std.specs.Prelude.{ℕ, List, codes}
use Rattle.frame.specs.declared.refusal.Refusal.{Refusal}
use Rattle.frame.specs.declared.refusal.Refusal.TheVariants.{BufferTooSmall, NoLayout, WrongCheckByte, DataTooLong}

-- the number under which a refusal is reported
abbrev pub refusal_number : Refusal → ℕ
refusal_number BufferTooSmall = 3
refusal_number NoLayout = 4
refusal_number WrongCheckByte = 5
refusal_number DataTooLong = 7

-- the text under which it is printed
abbrev pub refusal_text : Refusal → List ℕ
refusal_text BufferTooSmall = codes "buffer too small"
refusal_text NoLayout = codes "no layout"
refusal_text WrongCheckByte = codes "wrong check byte"
refusal_text DataTooLong = codes "data too long"
