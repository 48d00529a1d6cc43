-- The states of the drive. Assumes nothing.
use Rattle.std.specs.Prelude.{ℕ, Bool, true, false}
use Rattle.control.specs.declared.drive_state.DriveState.{DriveState}
use Rattle.control.specs.declared.drive_state.DriveState.TheVariants.{Inhibited, ReadyOn, ReadyRun, Operating, Off1Active, Off3Active, Fault}

-- the number of a state
abbrev pub state_number : DriveState → ℕ
state_number Inhibited = 0
state_number ReadyOn = 1
state_number ReadyRun = 2
state_number Operating = 3
state_number Off1Active = 4
state_number Off3Active = 5
state_number Fault = 6

abbrev pub is_inhibited : DriveState → Bool
is_inhibited Inhibited = true
is_inhibited ReadyOn = false
is_inhibited ReadyRun = false
is_inhibited Operating = false
is_inhibited Off1Active = false
is_inhibited Off3Active = false
is_inhibited Fault = false

abbrev pub is_operating : DriveState → Bool
is_operating Inhibited = false
is_operating ReadyOn = false
is_operating ReadyRun = false
is_operating Operating = true
is_operating Off1Active = false
is_operating Off3Active = false
is_operating Fault = false

abbrev pub is_fault : DriveState → Bool
is_fault Inhibited = false
is_fault ReadyOn = false
is_fault ReadyRun = false
is_fault Operating = false
is_fault Off1Active = false
is_fault Off3Active = false
is_fault Fault = true
