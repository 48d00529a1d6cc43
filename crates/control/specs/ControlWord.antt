-- The bits of a control word. Assumes nothing.
use Rattle.std.specs.Prelude.{ℕ, Bool}
use Rattle.control.specs.Flags.{is_set}

-- bit 0: on; clear asks to stop along the ramp (OFF1)
abbrev pub on : ℕ → Bool
on word = is_set 0x0001 word

-- bit 1: clear asks to coast (OFF2)
abbrev pub no_coast_stop : ℕ → Bool
no_coast_stop word = is_set 0x0002 word

-- bit 2: clear asks to stop as fast as the drive can (OFF3)
abbrev pub no_quick_stop : ℕ → Bool
no_quick_stop word = is_set 0x0004 word

-- bit 3: operation enabled
abbrev pub enable_operation : ℕ → Bool
enable_operation word = is_set 0x0008 word

-- bits 4 and 6: either clear makes the reference 0
abbrev pub enable_ramp : ℕ → Bool
enable_ramp word = is_set 0x0010 word

abbrev pub enable_setpoint : ℕ → Bool
enable_setpoint word = is_set 0x0040 word

-- bit 5: clear freezes the reference
abbrev pub unfreeze_ramp : ℕ → Bool
unfreeze_ramp word = is_set 0x0020 word

-- bit 7: rising, it acknowledges a fault
abbrev pub acknowledge : ℕ → Bool
acknowledge word = is_set 0x0080 word

-- bit 10: the word is meant; clear, it is not taken
abbrev pub control_by_master : ℕ → Bool
control_by_master word = is_set 0x0400 word
