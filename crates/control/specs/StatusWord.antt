-- The status word. Assumes nothing.
use Rattle.std.specs.Prelude.{◌≡◌, ℕ, Bool, true, false, cond, not, ℤ, ◌==◌, bit_or}
use Rattle.std.specs.Ordering.{int_eq}
use Rattle.drive.specs.Command.{InForce, off, run, ramp_stop, quick_stop, command_of}
use Rattle.drive.specs.Link.{link_number}
use Rattle.drive.specs.declared.link.Link.{Link}
use Rattle.control.specs.ControlWord.{no_coast_stop, no_quick_stop}
use Rattle.control.specs.Flags.{is_set}
use Rattle.control.specs.DriveState.{is_inhibited, is_operating, is_fault}
use Rattle.control.specs.declared.drive_state.DriveState.{DriveState}
use Rattle.control.specs.declared.status_word.Status.{Status}
use Rattle.control.specs.declared.drive_state.DriveState.TheVariants.{Inhibited, ReadyOn, ReadyRun, Operating, Off1Active, Off3Active, Fault}

-- bit 0: ready to be switched on, or past that
abbrev pub ready_to_switch_on : DriveState → Bool
ready_to_switch_on ReadyOn = true
ready_to_switch_on ReadyRun = true
ready_to_switch_on Operating = true
ready_to_switch_on Off1Active = true
ready_to_switch_on Inhibited = false
ready_to_switch_on Off3Active = false
ready_to_switch_on Fault = false

-- bit 1: ready to operate, or operating
abbrev pub ready_to_operate : DriveState → Bool
ready_to_operate ReadyRun = true
ready_to_operate Operating = true
ready_to_operate Inhibited = false
ready_to_operate ReadyOn = false
ready_to_operate Off1Active = false
ready_to_operate Off3Active = false
ready_to_operate Fault = false

-- bit 7: the link to the drive is not good
abbrev pub link_lost : Link → Bool
link_lost link = not (link_number link == 0)

-- bit 8: commanded to run, and the speed is the reference
abbrev pub at_reference : InForce → ℤ → Bool
at_reference off speed = false
at_reference (run reference) speed = int_eq speed reference
at_reference ramp_stop speed = false
at_reference quick_stop speed = false

-- a mask, if its bit is to be shown
abbrev pub shown_if : Bool → ℕ → ℕ
shown_if b mask = cond b mask 0

-- bits 0 to 3 and 6, which the drive state decides
abbrev pub state_bits : DriveState → ℕ
state_bits s =
    bit_or (shown_if (ready_to_switch_on s) 0x0001) (bit_or (shown_if (ready_to_operate s) 0x0002) (bit_or (shown_if (is_operating s) 0x0004)
    (bit_or (shown_if (is_fault s) 0x0008) (shown_if (is_inhibited s) 0x0040))))

-- and then bits 4, 5, 7, 8 and 9, each by its own test
abbrev pub word_by : DriveState → Bool → Bool → Bool → Bool → Bool → ℕ
word_by s b4 b5 b7 b8 b9 =
    bit_or (bit_or (bit_or (bit_or (bit_or (state_bits s) (shown_if b4 0x0010)) (shown_if b5 0x0020)) (shown_if b7 0x0080)) (shown_if b8 0x0100)) (shown_if b9 0x0200)

-- the status word, by the drive state, the latest control word, the drive's link, command and speed, and whether data are exchanged
abbrev pub status_word : Status → ℕ
status_word s =
    word_by s.state (no_coast_stop s.latest.0) (no_quick_stop s.latest.0) (link_lost s.link) (at_reference (command_of s.command) s.speed.value) s.data_exchange

-- bit by bit, what a status word shows
pub record Shows (s : Status) (word : ℕ) : Type 0 where
  pub bit_0 : is_set 0x0001 word ≡ ready_to_switch_on s.state
  pub bit_1 : is_set 0x0002 word ≡ ready_to_operate s.state
  pub bit_2 : is_set 0x0004 word ≡ is_operating s.state
  pub bit_3 : is_set 0x0008 word ≡ is_fault s.state
  pub bit_4 : is_set 0x0010 word ≡ no_coast_stop s.latest.0
  pub bit_5 : is_set 0x0020 word ≡ no_quick_stop s.latest.0
  pub bit_6 : is_set 0x0040 word ≡ is_inhibited s.state
  pub bit_7 : is_set 0x0080 word ≡ link_lost s.link
  pub bit_8 : is_set 0x0100 word ≡ at_reference (command_of s.command) s.speed.value
  pub bit_9 : is_set 0x0200 word ≡ s.data_exchange
  -- bits 10 to 15
  pub others : is_set 0xFC00 word ≡ false
