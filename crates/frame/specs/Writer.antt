-- What the writer answers, and what the buffer then holds. Assumes nothing.
use Rattle.std.specs.Prelude.{◌≡◌, ℕ, cond, List, ◌++◌, length, drop, Ok, Err, Result, nat_lt}
use Rattle.frame.specs.Buffer.{put_by}
use Rattle.frame.specs.Telegram.{Fields, fields_bytes}
use Rattle.frame.specs.declared.refusal.Refusal.{Refusal}
use Rattle.frame.specs.declared.refusal.Refusal.TheVariants.{BufferTooSmall, DataTooLong}

-- the room that the writer asks for, whatever it writes: that of the longest telegram
abbrev pub room_needed : ℕ
room_needed = 255

-- the most data bytes of a telegram
abbrev pub most_data : ℕ
most_data = 246

-- the writer's answer for these fields and a buffer of this many bytes: the telegram's length, or a refusal, by rising number
abbrev pub writing : Fields → ℕ → Result ℕ Refusal
writing f room =
    cond (nat_lt room room_needed) (Err BufferTooSmall)
    (cond (nat_lt most_data (length f.«data»)) (Err DataTooLong) (Ok (length (fields_bytes f))))

-- a telegram put down at the start of a buffer, before the bytes that were there, and its length
pub record PutDown (f : Fields) (n : ℕ) (before after : List ℕ) : Type 0 where
  pub count : n ≡ length (fields_bytes f)
  pub bytes : after ≡ fields_bytes f ++ drop n before

-- what the buffer holds after the call
abbrev pub written : Fields → List ℕ → List ℕ
written f buffer = put_by (writing f (length buffer)) (fields_bytes f) buffer
