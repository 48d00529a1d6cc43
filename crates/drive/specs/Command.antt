-- What a drive is commanded to do. Assumes nothing.
use Rattle.std.specs.Prelude.{ℕ, Bool, true, false, List, ℤ, pos, codes}
use Rattle.drive.specs.declared.command.Command.{Command}
use Rattle.drive.specs.declared.command.Command.TheVariants.{Off, Run, RampStop, QuickStop}

-- the command in force, the reference as a whole number
pub data InForce : Type 0 where
  off : InForce
  run : ℤ → InForce
  ramp_stop : InForce
  quick_stop : InForce

-- a command as it is in force once given
abbrev pub command_of : Command → InForce
command_of Off = off
command_of (Run reference) = run reference.value
command_of RampStop = ramp_stop
command_of QuickStop = quick_stop

abbrev pub is_off : InForce → Bool
is_off off = true
is_off (run r) = false
is_off ramp_stop = false
is_off quick_stop = false

-- the speed that a command asks for: the reference under run, else 0
abbrev pub target : InForce → ℤ
target off = pos 0
target (run r) = r
target ramp_stop = pos 0
target quick_stop = pos 0

-- the words for a command, without its reference
abbrev pub command_text : InForce → List ℕ
command_text off = codes "off"
command_text (run r) = codes "run"
command_text ramp_stop = codes "ramp stop"
command_text quick_stop = codes "quick stop"
