-- A drive's fault as a number. Assumes nothing.
use Rattle.std.specs.Prelude.{ℕ, Some, None, Option}
use Rattle.drive.specs.declared.fault.Fault.{Fault}

-- 0 for none
abbrev pub fault_number : Option Fault → ℕ
fault_number None = 0
fault_number (Some f) = f.number
