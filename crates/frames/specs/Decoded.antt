-- What a line of the capture is decoded as. Assumes nothing.
use Rattle.std.specs.Prelude.{◌≡◌, ℕ, true, cond, ◌&&◌, ◌||◌, List, length, Ok, Err, codes, Result, nat_le}
use Rattle.frame.specs.Telegram.{Fields, fields_of, top_bit}
use Rattle.frame.specs.declared.refusal.Refusal.{Refusal}
use Rattle.frames.specs.declared.decoded.Decoded.{Decoded}
use Rattle.frames.specs.declared.decoded.Services.{Services}
use Rattle.frames.specs.declared.decoded.Services.TheVariants.{Present, Absent, Unclear}

-- the fields that a decoded telegram carries, or why it is refused
abbrev pub carried : Result Decoded Refusal → Result Fields Refusal
carried (Ok t) = Ok (fields_of t.frame)
carried (Err e) = Err e

-- a decoded telegram is said to be written back the same
abbrev pub Same : Result Decoded Refusal → Type 0
Same (Ok t) = t.same ≡ true
Same (Err e) = Unit {0}

-- whether the data begin with two service bytes: they do where both addresses say so and the two bytes are there, and do not where neither says so
abbrev pub services_of : Fields → Services
services_of f =
    cond (top_bit f.destination && top_bit f.source) (cond (nat_le 2 (length f.«data»)) Present Unclear)
    (cond (top_bit f.destination || top_bit f.source) Unclear Absent)

-- the words for whether the data begin with two service bytes
abbrev pub services_text : Services → List ℕ
services_text Present = codes "services"
services_text Absent = codes "no services"
services_text Unclear = codes "unclear"
