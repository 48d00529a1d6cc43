-- What reader and writer owe each other and the bus. Assumes nothing.
use Rattle.std.specs.Prelude.{◌≡◌, ℕ, ◌+◌, ◌<◌, ◌≤◌, Bool, cond, ◌&&◌, List, ◌++◌, length, take, drop, Ok, Err, Result, ◌≢◌, nat_le, slice_index, slice_set}
use Rattle.frame.specs.Telegram.{Fields}
use Rattle.frame.specs.Reader.{reading}
use Rattle.frame.specs.Writer.{room_needed, writing, written}
use Rattle.frame.specs.declared.refusal.Refusal.{Refusal}
use Rattle.frame.specs.declared.refusal.Refusal.TheVariants.{NoLayout, WrongCheckByte}

-- a written telegram is read back as its fields
abbrev pub WrittenIsReadBack : Fields → Result ℕ Refusal → List ℕ → Type 0
WrittenIsReadBack f (Ok n) buffer = reading (take n buffer) ≡ Ok f
WrittenIsReadBack f (Err e) buffer = Unit {0}

-- whatever the reader accepts is exactly what the writer makes of its fields, in any buffer with room for it
abbrev pub AcceptedIsWritten : List ℕ → Result Fields Refusal → Type 0
AcceptedIsWritten bytes (Ok f) =
    (buffer : List ℕ) → room_needed ≤ length buffer
    → (writing f (length buffer) ≡ Ok (length bytes)) × (written f buffer ≡ bytes ++ drop (length bytes) buffer)
AcceptedIsWritten bytes (Err e) = Unit {0}

-- whether byte k of a telegram is DA, SA, FC, one of the data or the FCS
abbrev pub summed_or_check_byte : List ℕ → Fields → ℕ → Bool
summed_or_check_byte bytes f k = nat_le f.place (k + 3) && nat_le (k + 2) (length bytes)

-- an accepted telegram in which one byte was changed is refused: for its check byte in DA, SA, FC, data and FCS, for its layout elsewhere
abbrev pub ChangedIsRefused : List ℕ → Result Fields Refusal → Type 0
ChangedIsRefused bytes (Ok f) =
    (k v : ℕ) → k < length bytes → v < 256 → (v ≢ slice_index bytes k)
    → reading (slice_set bytes k v) ≡ Err (cond (summed_or_check_byte bytes f k) WrongCheckByte NoLayout)
ChangedIsRefused bytes (Err e) = Unit {0}
