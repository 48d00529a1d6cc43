-- How an event settles, and what leaving data exchange makes of the drive state. Assumes nothing.
use Rattle.std.specs.Prelude.{◌≡◌, ℕ, Bool, true, cond, not, ℤ, pos, ◌==◌}
use Rattle.std.specs.Ordering.{int_eq}
use Rattle.control.specs.DriveState.{is_operating, is_fault}
use Rattle.control.specs.declared.drive_state.DriveState.{DriveState}
use Rattle.control.specs.declared.drive_state.DriveState.TheVariants.{Inhibited, ReadyOn, ReadyRun, Operating, Off1Active, Off3Active, Fault}

-- a speed of 0
abbrev pub stands : ℤ → Bool
stands speed = int_eq speed (pos 0)

-- without a fault: FAULT ends, and standstill ends both ways of stopping
abbrev pub without_fault : DriveState → Bool → DriveState
without_fault Fault standstill = Inhibited
without_fault Off1Active standstill = cond standstill ReadyOn Off1Active
without_fault Off3Active standstill = cond standstill Inhibited Off3Active
without_fault Inhibited standstill = Inhibited
without_fault ReadyOn standstill = ReadyOn
without_fault ReadyRun standstill = ReadyRun
without_fault Operating standstill = Operating

-- the state once an event has settled, by the drive's fault and speed
abbrev pub settled : DriveState → ℕ → ℤ → DriveState
settled s fault speed = cond (fault == 0) (without_fault s (stands speed)) Fault

-- the state once data exchange is left: INHIBITED unless FAULT
abbrev pub left : DriveState → DriveState
left s = cond (is_fault s) Fault Inhibited

-- what settling owes
pub record Settles (s : DriveState) (fault : ℕ) (speed : ℤ) (r : DriveState) : Type 0 where
  -- FAULT is shown exactly while the drive has a fault
  pub fault_shown : is_fault r ≡ not (fault == 0)
  -- no settling starts a run
  pub starts_nothing : is_operating r ≡ true → is_operating s ≡ true
  -- settling again changes nothing
  pub again : settled r fault speed ≡ r
