-- What a telegram says, and how its bytes lie. Assumes nothing.
use Rattle.std.specs.Prelude.{ℕ, ◌+◌, Bool, cond, not, ◌||◌, List, [], ◌∷◌, ◌++◌, length, codes, ◌==◌, bit_and}
use Rattle.frame.specs.Check.{check_byte}
use Rattle.frame.specs.declared.telegram.Frame.{Frame}
use Rattle.frame.specs.declared.telegram.Function.{Function}
use Rattle.frame.specs.declared.telegram.Function.TheVariants.{SendAndReply, Status, OtherRequest, Reply}
use Rattle.frame.specs.declared.telegram.Kind.{Kind}
use Rattle.frame.specs.declared.telegram.Kind.TheVariants.{Short, Long}
use Rattle.frame.specs.declared.telegram.Telegram.{Telegram}

-- whether a byte has the bit of this mask set
abbrev pub is_set : ℕ → ℕ → Bool
is_set mask byte = not (bit_and byte mask == 0)

-- the station number in DA or SA: the low seven bits
abbrev pub station_number : ℕ → ℕ
station_number address = bit_and address 0x7F

-- the top bit of DA or SA: the data begin with two service bytes
abbrev pub top_bit : ℕ → Bool
top_bit address = is_set 0x80 address

-- FC bit 6: a request
abbrev pub request_bit : ℕ → Bool
request_bit function = is_set 0x40 function

-- the low four bits of a request's FC: 12 and 13 are send and reply, 9 is status
abbrev pub request_of : ℕ → Function
request_of code = cond (code == 12 || code == 13) SendAndReply (cond (code == 9) Status OtherRequest)

-- what FC asks for
abbrev pub function_of : ℕ → Function
function_of function = cond (request_bit function) (request_of (bit_and function 0x0F)) Reply

-- the words for what FC asks for
abbrev pub function_text : Function → List ℕ
function_text SendAndReply = codes "send and reply"
function_text Status = codes "status"
function_text OtherRequest = codes "other request"
function_text Reply = codes "reply"

-- the words for the two layouts
abbrev pub kind_text : Kind → List ℕ
kind_text Short = codes "short"
kind_text Long = codes "long"

-- the first byte of each layout
abbrev pub start_byte : Kind → ℕ
start_byte Short = 0x10
start_byte Long = 0x68

-- the last byte of both
abbrev pub end_byte : ℕ
end_byte = 0x16

-- LE of a long telegram: it counts DA, SA, FC and the data
abbrev pub length_byte : List ℕ → ℕ
length_byte xs = length xs + 3

-- the bytes of a telegram: the short layout without data, the long one with data
abbrev pub telegram : ℕ → ℕ → ℕ → List ℕ → List ℕ
telegram da sa fc [] = start_byte Short ∷ da ∷ sa ∷ fc ∷ check_byte (da ∷ sa ∷ fc ∷ []) ∷ end_byte ∷ []
telegram da sa fc (x ∷ xs) =
    start_byte Long ∷ length_byte (x ∷ xs) ∷ length_byte (x ∷ xs) ∷ start_byte Long
    ∷ da ∷ sa ∷ fc ∷ ((x ∷ xs) ++ check_byte (da ∷ sa ∷ fc ∷ x ∷ xs) ∷ end_byte ∷ [])

-- the fields of a telegram: DA, SA, FC, the data, and the place in its bytes where the data begin
pub record Fields : Type 0 where
  pub destination : ℕ
  pub source : ℕ
  pub function : ℕ
  pub «data» : List ℕ
  pub place : ℕ

-- the place of the data: right after FC
abbrev pub data_place : List ℕ → ℕ
data_place [] = 4
data_place (x ∷ xs) = 7

-- the fields of a telegram that is made from DA, SA, FC and data
abbrev pub fields : ℕ → ℕ → ℕ → List ℕ → Fields
fields da sa fc xs = record { destination = da; source = sa; function = fc; «data» = xs; place = data_place xs }

-- the fields that are to be written
abbrev pub telegram_fields : Telegram → Fields
telegram_fields t = fields t.destination.0 t.source.0 t.function.0 t.«data».now

-- the fields that were read
abbrev pub fields_of : Frame → Fields
fields_of f = record (telegram_fields f.telegram) { place = f.place }

-- the bytes of the telegram with these fields
abbrev pub fields_bytes : Fields → List ℕ
fields_bytes f = telegram f.destination f.source f.function f.«data»

-- the bytes of the telegram that says this
abbrev pub telegram_bytes : Telegram → List ℕ
telegram_bytes t = fields_bytes (telegram_fields t)
