-- How a control word steps the drive state. Assumes nothing.
use Rattle.std.specs.Prelude.{ℕ, zero, suc, Bool, cond, not, ◌&&◌}
use Rattle.control.specs.ControlWord.{on, no_coast_stop, no_quick_stop, enable_operation, acknowledge}
use Rattle.control.specs.DriveState.{is_fault}
use Rattle.control.specs.declared.drive_state.DriveState.{DriveState}
use Rattle.control.specs.declared.drive_state.DriveState.TheVariants.{Inhibited, ReadyOn, ReadyRun, Operating, Off1Active, Off3Active, Fault}

-- a word with bit 2 clear
abbrev pub quick_stopped : DriveState → DriveState
quick_stopped Operating = Off3Active
quick_stopped Off1Active = Off3Active
quick_stopped ReadyOn = Inhibited
quick_stopped ReadyRun = Inhibited
quick_stopped Inhibited = Inhibited
quick_stopped Off3Active = Off3Active
quick_stopped Fault = Fault

-- a word with bits 1 and 2 set, by bit 0 (on) and bit 3 (enable)
abbrev pub switched : DriveState → Bool → Bool → DriveState
switched Off3Active on enable = Off3Active
switched Inhibited on enable = cond on Inhibited ReadyOn
switched ReadyOn on enable = cond on ReadyRun ReadyOn
switched ReadyRun on enable = cond on (cond enable Operating ReadyRun) ReadyOn
switched Operating on enable = cond on (cond enable Operating ReadyRun) Off1Active
switched Off1Active on enable = cond on ReadyRun Off1Active
switched Fault on enable = Fault

-- one step by bits 0 to 3: the first line that fits
abbrev pub step_by : Bool → Bool → Bool → Bool → DriveState → DriveState
step_by on no_coast no_quick enable s =
    cond (is_fault s) s
    (cond (not no_coast) Inhibited
    (cond (not no_quick) (quick_stopped s)
    (switched s on enable)))

-- one step by a control word
abbrev pub one_step : ℕ → DriveState → DriveState
one_step word s = step_by (on word) (no_coast_stop word) (no_quick_stop word) (enable_operation word) s

-- so many steps by one word
abbrev pub steps : ℕ → ℕ → DriveState → DriveState
steps zero word s = s
steps (suc n) word s = one_step word (steps n word s)

-- the most steps that one word makes
abbrev pub most_steps : ℕ
most_steps = 2

-- the state once it stands still
abbrev pub stepped : ℕ → DriveState → DriveState
stepped word s = steps most_steps word s

-- in FAULT, bit 7 risen since the word before asks for one reset of the drive
abbrev pub asks_reset : DriveState → ℕ → ℕ → Bool
asks_reset s before word = is_fault s && (acknowledge word && not (acknowledge before))
