-- What encoding and decoding come to, refused and made. Assumes nothing.
use Rattle.std.proofs.Common.{◌≡◌, ℕ, ◌*◌, ◌/◌, ◌<◌, ◌≤◌, true, false, List, ◌++◌, length, drop, Some, None, Ok, Err, Result, sym, refl, ap, ◌∙◌, arith}
use Rattle.std.proofs.lemmas.Bool.{cond-true, cond-false, lt-ltb, le-ltb}
use Rattle.frame.specs.Buffer.{put_by}
use Rattle.frame.specs.declared.hex.HexError.{HexError}
use Rattle.frame.specs.declared.hex.HexError.TheVariants.{NotHex, NoRoom}
use Rattle.frame.specs.Hex.{digits_of, is_hex, bytes_of, read_as, encoding, encoded, decoding, decoded}
use Rattle.frame.proofs.Digits.{length_digits, length_bytes}

-- what encoding comes to, refused and made
pub encode_refused : (bytes text : List ℕ) → length text / 2 < length bytes → (Err NoRoom ≡ encoding bytes (length text)) × (text ≡ encoded bytes text)
encode_refused bytes text h =
    let n = length_digits bytes in
    let answer : encoding bytes (length text) ≡ Err NoRoom = cond-true _ _ _ (lt-ltb (length text) (length (digits_of bytes)) (omega arith)) in
    (sym answer, ap (λ a. put_by a (digits_of bytes) text) (sym answer))

pub encode_made : (bytes text after : List ℕ) → length bytes ≤ length text / 2 → after ≡ digits_of bytes ++ drop (2 * length bytes) text → (Ok (2 * length bytes) ≡ encoding bytes (length text)) × (after ≡ encoded bytes text)
encode_made bytes text after h e =
    let n = length_digits bytes in
    let answer : encoding bytes (length text) ≡ Ok (2 * length bytes) = cond-false _ _ _ (le-ltb (length text) (length (digits_of bytes)) (omega arith)) ∙ ap Ok n in
    (sym answer, e ∙ ap (λ a. put_by a (digits_of bytes) text) (sym answer))

-- what decoding comes to, refused and made
pub decode_no_hex : (text bytes : List ℕ) → false ≡ is_hex text → (Err NotHex ≡ decoding (read_as text) (length bytes)) × (bytes ≡ decoded (read_as text) bytes)
decode_no_hex text bytes e =
    let none : read_as text ≡ None = cond-false _ _ _ (sym e) in
    (ap (λ o. decoding o (length bytes)) (sym none), ap (λ o. decoded o bytes) (sym none))

module _ (text bytes : List ℕ) (e : true ≡ is_hex text) where
  -- from the answer for the bytes of the text
  answered : (r : Result ℕ HexError) (after : List ℕ) → decoding (Some (bytes_of text)) (length bytes) ≡ r → after ≡ put_by r (bytes_of text) bytes → (r ≡ decoding (read_as text) (length bytes)) × (after ≡ decoded (read_as text) bytes)
  answered r after answer is =
      let some : read_as text ≡ Some (bytes_of text) = cond-true _ _ _ (sym e) in
      (sym (ap (λ o. decoding o (length bytes)) some ∙ answer), is ∙ ap (λ a. put_by a (bytes_of text) bytes) (sym answer) ∙ ap (λ o. decoded o bytes) (sym some))

  pub decode_refused : length bytes < length text / 2 → (Err NoRoom ≡ decoding (read_as text) (length bytes)) × (bytes ≡ decoded (read_as text) bytes)
  decode_refused h = let n = length_bytes text in answered (Err NoRoom) bytes (cond-true _ _ _ (lt-ltb (length bytes) (length (bytes_of text)) (omega arith))) refl

  pub decode_made : (after : List ℕ) → length text / 2 ≤ length bytes → after ≡ bytes_of text ++ drop (length text / 2) bytes → (Ok (length text / 2) ≡ decoding (read_as text) (length bytes)) × (after ≡ decoded (read_as text) bytes)
  decode_made after h made = let n = length_bytes text in answered (Ok (length text / 2)) after (cond-false _ _ _ (le-ltb (length bytes) (length (bytes_of text)) (omega arith)) ∙ ap Ok n) made
