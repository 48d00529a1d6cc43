-- Upper-case hexadecimal text, as character codes. Assumes nothing.
use Rattle.std.specs.Prelude.{◌≡◌, ℕ, ◌+◌, ◌-◌, ◌*◌, ◌/◌, ◌%◌, Bool, cond, ◌&&◌, ◌||◌, List, [], ◌∷◌, length, take, Some, None, Ok, Err, codes, Option, Result, ◌==◌, nat_le, nat_lt, slice_index}
use Rattle.std.specs.List.{list_all}
use Rattle.frame.specs.Buffer.{put_by}
use Rattle.frame.specs.declared.hex.HexError.{HexError}
use Rattle.frame.specs.declared.hex.HexError.TheVariants.{NotHex, NoRoom}

-- the text under which a refused text is printed
abbrev pub hex_error_text : HexError → List ℕ
hex_error_text NotHex = codes "no even run of upper-case digits"
hex_error_text NoRoom = codes "no room for the result"

-- the digit with this value
abbrev pub digit_of : ℕ → ℕ
digit_of value = slice_index (codes "0123456789ABCDEF") value

-- the digits of some bytes, two each, the high one first
abbrev pub digits_of : List ℕ → List ℕ
digits_of [] = []
digits_of (b ∷ bs) = digit_of (b / 16) ∷ digit_of (b % 16) ∷ digits_of bs

-- a character from 0 to 9 or from A to F
abbrev pub is_digit : ℕ → Bool
is_digit c = (nat_le 48 c && nat_le c 57) || (nat_le 65 c && nat_le c 70)

-- the value of a digit: 0 to 9 from 0 on, A to F from 10 on
abbrev pub value_of : ℕ → ℕ
value_of c = cond (nat_le c 57) (c - 48) ((c - 65) + 10)

-- each character is a digit
abbrev pub all_digits : List ℕ → Bool
all_digits = list_all is_digit

-- the bytes of pairs of digits
abbrev pub bytes_of : List ℕ → List ℕ
bytes_of [] = []
bytes_of (c ∷ []) = []
bytes_of (high ∷ low ∷ rest) = (value_of high * 16 + value_of low) ∷ bytes_of rest

-- an even run of digits
abbrev pub is_hex : List ℕ → Bool
is_hex text = length text % 2 == 0 && all_digits text

-- what a text is read as: the bytes of its digits, if it is an even run of digits
abbrev pub read_as : List ℕ → Option (List ℕ)
read_as text = cond (is_hex text) (Some (bytes_of text)) None

-- the answer for bytes whose digits go into a text with this much room: how many digits they are
abbrev pub encoding : List ℕ → ℕ → Result ℕ HexError
encoding bytes room = cond (nat_lt room (length (digits_of bytes))) (Err NoRoom) (Ok (length (digits_of bytes)))

-- the text then
abbrev pub encoded : List ℕ → List ℕ → List ℕ
encoded bytes text = put_by (encoding bytes (length text)) (digits_of bytes) text

-- the answer for what a text is read as and this much room for it: how many bytes they are
abbrev pub decoding : Option (List ℕ) → ℕ → Result ℕ HexError
decoding None room = Err NotHex
decoding (Some xs) room = cond (nat_lt room (length xs)) (Err NoRoom) (Ok (length xs))

-- the memory then
abbrev pub decoded : Option (List ℕ) → List ℕ → List ℕ
decoded None bytes = bytes
decoded (Some xs) bytes = put_by (decoding (Some xs) (length bytes)) xs bytes

-- the digits of any bytes are read back as these bytes
abbrev pub DigitsAreReadBack : List ℕ → Result ℕ HexError → List ℕ → Type 0
DigitsAreReadBack bytes (Ok n) text = read_as (take n text) ≡ Some bytes
DigitsAreReadBack bytes (Err e) text = Unit {0}

-- whatever text is read is exactly the digits of its bytes
abbrev pub TextIsItsDigits : List ℕ → Option (List ℕ) → Type 0
TextIsItsDigits text (Some xs) = text ≡ digits_of xs
TextIsItsDigits text None = Unit {0}
