-- Speeds as words of the process data, and back. Assumes nothing.
use Rattle.std.specs.Prelude.{◌≡◌, ℤ, pos, ◌*ℤ◌, neg_ℤ, ◌≤ℤ◌, int_div}
use Rattle.drive.specs.Speed.{full, held, InRange}

-- the word that means full speed: 4000h
abbrev pub full_word : ℤ
full_word = pos 16384

-- the speed of a word: times 625 / 512 cut towards 0, held within full speed
abbrev pub scaled_speed : ℤ → ℤ
scaled_speed word = held (int_div (word *ℤ pos 625) (pos 512))

-- the word of a speed: times 512 / 625 cut towards 0
abbrev pub shown_speed : ℤ → ℤ
shown_speed speed = int_div (speed *ℤ pos 512) (pos 625)

-- what both ways of a scale keep
pub record Fair (f : ℤ → ℤ) : Type 0 where
  -- order is kept
  pub order : (a b : ℤ) → a ≤ℤ b → f a ≤ℤ f b
  -- signs mirror
  pub mirror : (z : ℤ) → f (neg_ℤ z) ≡ neg_ℤ (f z)

-- words to speeds: fair, within full speed, and the full word is full speed
pub record ScalesToSpeed : Type 0 where
  pub fair : Fair scaled_speed
  pub range : (word : ℤ) → InRange (scaled_speed word)
  pub top : scaled_speed full_word ≡ full

-- speeds to words: fair, and full speed is the full word
pub record ScalesToWord : Type 0 where
  pub fair : Fair shown_speed
  pub top : shown_speed full ≡ full_word
