-- What a control word can do to the drive state, and what it cannot. Assumes nothing.
use Rattle.std.specs.Prelude.{◌≡◌, ℕ, Bool, true, not, ◌&&◌}
use Rattle.control.specs.ControlWord.{on, no_coast_stop, no_quick_stop, enable_operation}
use Rattle.control.specs.DriveState.{is_inhibited, is_operating, is_fault}
use Rattle.control.specs.Step.{one_step, steps, stepped}
use Rattle.control.specs.declared.drive_state.DriveState.{DriveState}

-- a word that runs the drive: bits 0 to 3 set
abbrev pub run_word : ℕ → Bool
run_word word = on word && (no_coast_stop word && (no_quick_stop word && enable_operation word))

-- a word that releases the drive: bit 0 clear, bits 1 and 2 set
abbrev pub release_word : ℕ → Bool
release_word word = not (on word) && (no_coast_stop word && no_quick_stop word)

-- from s by one word to the state r, where it stands still
pub record StandsStill (word : ℕ) (s r : DriveState) : Type 0 where
  -- a further step changes nothing
  pub still : one_step word r ≡ r
  -- a second pass with the same word changes nothing
  pub again : stepped word r ≡ r
  -- however many steps are made, where they stand still it is in r
  pub only : (n : ℕ) → one_step word (steps n word s) ≡ steps n word s → steps n word s ≡ r

-- OPERATING is entered, and kept, only by a word with bits 0 to 3 set
abbrev pub OperatingOnlyByRunWord : ℕ → DriveState → Type 0
OperatingOnlyByRunWord word r = is_operating r ≡ true → run_word word ≡ true

-- out of INHIBITED leads a word with bit 0 clear and bits 1 and 2 set, and no other
abbrev pub ReleasedOnlyByReleaseWord : ℕ → DriveState → DriveState → Type 0
ReleasedOnlyByReleaseWord word s r = is_inhibited s ≡ true → not (is_inhibited r) ≡ release_word word

-- no word leads into FAULT or out of it
abbrev pub FaultStays : DriveState → DriveState → Type 0
FaultStays s r = is_fault r ≡ is_fault s
