-- The reference that the drive runs at. Assumes nothing.
use Rattle.std.specs.Prelude.{ℕ, cond, ◌&&◌, ℤ, pos, Some, None, Option}
use Rattle.drive.specs.Command.{InForce, target}
use Rattle.control.specs.ControlWord.{enable_ramp, enable_setpoint, unfreeze_ramp}
use Rattle.control.specs.declared.control_word.ControlWord.{ControlWord}

-- of a taken word: 0 with bit 4 or 6 clear, else with bit 5 clear the former one, else the scaled one
abbrev pub reference_by : ℕ → ℤ → ℤ → ℤ
reference_by word scaled former =
    cond (enable_ramp word && enable_setpoint word) (cond (unfreeze_ramp word) scaled former) (pos 0)

-- the former one is the reference in force, 0 if the drive is not running; without a taken word it is kept
abbrev pub next_reference : Option ControlWord → ℤ → InForce → ℤ
next_reference None scaled in_force = target in_force
next_reference (Some word) scaled in_force = reference_by word.0 scaled (target in_force)
