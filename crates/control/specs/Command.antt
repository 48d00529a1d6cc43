-- What the drive is commanded in each state. Assumes nothing.
use Rattle.std.specs.Prelude.{◌≡◌, Bool, true, false, ℤ}
use Rattle.drive.specs.Command.{InForce, off, run, ramp_stop, quick_stop}
use Rattle.control.specs.DriveState.{is_operating}
use Rattle.control.specs.declared.drive_state.DriveState.{DriveState}
use Rattle.control.specs.declared.drive_state.DriveState.TheVariants.{Inhibited, ReadyOn, ReadyRun, Operating, Off1Active, Off3Active, Fault}

-- the command for a state, with this reference where it is to run
abbrev pub command_for : DriveState → ℤ → InForce
command_for Operating reference = run reference
command_for Off1Active reference = ramp_stop
command_for Off3Active reference = quick_stop
command_for Inhibited reference = off
command_for ReadyOn reference = off
command_for ReadyRun reference = off
command_for Fault reference = off

-- commanded to run
abbrev pub is_run : InForce → Bool
is_run off = false
is_run (run reference) = true
is_run ramp_stop = false
is_run quick_stop = false

-- a drive is commanded to run in OPERATING and in no other state
abbrev pub RunExactlyInOperating : DriveState → InForce → Type 0
RunExactlyInOperating s command = is_run command ≡ is_operating s
