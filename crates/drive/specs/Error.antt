-- The numbers and the words of the errors of a change. Assumes nothing.
use Rattle.std.specs.Prelude.{ℕ, List, codes}
use Rattle.drive.specs.declared.error.ChangeError.{ChangeError}
use Rattle.drive.specs.declared.error.ChangeError.TheVariants.{NoCell, NotWritable, OtherWidth, OutsideLimits, OnlyWhileOff}

-- the number under which an error is reported
abbrev pub error_number : ChangeError → ℕ
error_number NoCell = 0
error_number NotWritable = 1
error_number OtherWidth = 5
error_number OutsideLimits = 2
error_number OnlyWhileOff = 17

-- the words in which an error is told
abbrev pub error_text : ChangeError → List ℕ
error_text NoCell = codes "there is no such cell"
error_text NotWritable = codes "the cell is not writable"
error_text OtherWidth = codes "the cell has another width"
error_text OutsideLimits = codes "the value is outside the cell's limits"
error_text OnlyWhileOff = codes "the cell is changeable only while off"
