use Rattle.std.proofs.Common.{◌≡◌, ℕ, Bool, false, rules}
use Rattle.control.specs.DriveState.{is_inhibited, is_operating, is_fault}
use Rattle.control.specs.Flags.{is_set}
use Rattle.control.specs.StatusWord.{ready_to_switch_on, ready_to_operate, word_by, status_word, Shows}
use Rattle.control.specs.declared.drive_state.DriveState.{DriveState}
use Rattle.control.specs.declared.status_word.Status.{Status}
use Rattle.control.proofs.status_word.Status.word.Goals as goal

-- each bit of a word is what its test says
module _ (s : DriveState) (b4 b5 b7 b8 b9 : Bool) where
  abbrev word : ℕ
  word = word_by s b4 b5 b7 b8 b9

  bit_0 : is_set 0x0001 word ≡ ready_to_switch_on s
  bit_0 = search rules

  bit_1 : is_set 0x0002 word ≡ ready_to_operate s
  bit_1 = search rules

  bit_2 : is_set 0x0004 word ≡ is_operating s
  bit_2 = search rules

  bit_3 : is_set 0x0008 word ≡ is_fault s
  bit_3 = search rules

  bit_4 : is_set 0x0010 word ≡ b4
  bit_4 = search rules

  bit_5 : is_set 0x0020 word ≡ b5
  bit_5 = search rules

  bit_6 : is_set 0x0040 word ≡ is_inhibited s
  bit_6 = search rules

  bit_7 : is_set 0x0080 word ≡ b7
  bit_7 = search rules

  bit_8 : is_set 0x0100 word ≡ b8
  bit_8 = search rules

  bit_9 : is_set 0x0200 word ≡ b9
  bit_9 = search rules

  others : is_set 0xFC00 word ≡ false
  others = search rules

-- and so each bit of a status word shows what it is to show
shows : (s : Status) (word : ℕ) → word ≡ status_word s → Shows s word
shows s word is = rw is (search (rules, bit_0, bit_1, bit_2, bit_3, bit_4, bit_5, bit_6, bit_7, bit_8, bit_9, others))

pub returns-clause-shows : goal.returns-clause-shows
returns-clause-shows c = shows c.args.self _ (search rules)
