-- What a line holds, from what decoding its digits answered and left. Assumes nothing.
use Rattle.std.proofs.Common.{◌≡◌, ℕ, ◌/◌, true, false, eqb, List, [], ◌∷◌, ◌++◌, length, take, drop, Some, None, Ok, Err, Vec, sym, refl, ap, ◌∙◌, ⊎_elim, arith}
use Rattle.std.specs.Bool.{then_some}
use Rattle.std.specs.Option.{option_map}
use Rattle.std.specs.Result.{is_ok}
use Rattle.std.specs.Vec.{vec_items}
use Rattle.std.proofs.lemmas.List.{append-nil, drop_all, nil_from_length, take_at}
use Rattle.std.proofs.lemmas.Bool.{cond-true, cond-false, cases_Bool, eqb-true}
use Rattle.std.proofs.lemmas.Bool.Decides.{nat_tests}
use Rattle.frame.specs.Buffer.{put_by}
use Rattle.frame.specs.Hex.{is_hex, bytes_of, read_as, decoding, decoded}
use Rattle.frame.specs.declared.hex.HexError.{HexError}
use Rattle.frame.specs.declared.hex.HexError.TheVariants.{NotHex}
use Rattle.frame.proofs.Digits.{length_bytes}
use Rattle.frames.specs.Line.{line_bytes}

pub held_empty : (line : List ℕ) → true ≡ eqb (length line) 0 → None ≡ line_bytes line
held_empty line e = ap line_bytes (sym (nil_from_length line (eqb-true (length line) 0 (sym e))))

not_empty : (line : List ℕ) → false ≡ eqb (length line) 0 → line_bytes line ≡ read_as line
not_empty [] e = cc
not_empty (c ∷ cs) e = refl

-- there is just room for the bytes of the digits
module _ (line old : List ℕ) (some : false ≡ eqb (length line) 0) (room : length old ≡ length line / 2) where
  answer : decoding (Some (bytes_of line)) (length old) ≡ Ok (length (bytes_of line))
  answer = let n = length_bytes line in grind (arith, nat_tests)

  pub held_refused : (e : HexError) → Err e ≡ decoding (read_as line) (length old) → None ≡ line_bytes line
  held_refused e said =
      ⊎_elim
      (λ (t : is_hex line ≡ true). let e : Err e ≡ Ok (length (bytes_of line)) = said ∙ ap (λ o. decoding o (length old)) (cond-true (is_hex line) _ _ t) ∙ answer in cc)
      (λ (f : is_hex line ≡ false). sym (not_empty line some ∙ cond-false (is_hex line) _ _ f))
      (cases_Bool (is_hex line))

  pub held_made : (after rest : List ℕ) (n len : ℕ) → len ≡ length line / 2 → Ok n ≡ decoding (read_as line) (length old) → after ≡ decoded (read_as line) old → Some (take len (after ++ rest)) ≡ line_bytes line
  held_made after rest n len full said left =
      ⊎_elim
      (λ (t : is_hex line ≡ true).
      let size = length_bytes line in
      let read : read_as line ≡ Some (bytes_of line) = cond-true (is_hex line) _ _ t in
      let none : drop (length (bytes_of line)) old ≡ [] = drop_all (length (bytes_of line)) old (omega arith) in
      let is : after ≡ bytes_of line = left ∙ ap (λ o. decoded o old) read ∙ ap (λ a. put_by a (bytes_of line) old) answer ∙ ap (λ l. bytes_of line ++ l) none ∙ append-nil (bytes_of line) in
      ap (λ l. Some (take len (l ++ rest))) is ∙ ap Some (take_at (bytes_of line) rest len (omega arith)) ∙ sym (not_empty line some ∙ read))
      (λ (f : is_hex line ≡ false). let e : Ok n ≡ Err NotHex = said ∙ ap (λ o. decoding o (length old)) (cond-false (is_hex line) _ _ f) in cc)
      (cases_Bool (is_hex line))

  full : put_by (decoding (Some (bytes_of line)) (length old)) (bytes_of line) old ≡ bytes_of line
  full =
      let n = length_bytes line in
      ap (λ a. put_by a (bytes_of line) old) answer
      ∙ ap (λ l. bytes_of line ++ l) (drop_all (length (bytes_of line)) old (omega arith))
      ∙ append-nil (bytes_of line)

  pub held : {Z : Type 0} (bytes : Vec ℕ Z) → vec_items bytes ≡ decoded (read_as line) old → option_map vec_items (then_some (is_ok (decoding (read_as line) (length old))) bytes) ≡ line_bytes line
  held bytes left =
      ⊎_elim
      (λ (t : is_hex line ≡ true).
      let read : read_as line ≡ Some (bytes_of line) = cond-true (is_hex line) _ _ t in
      ap (λ o. option_map vec_items (then_some (is_ok (decoding o (length old))) bytes)) read
      ∙ ap (λ r. option_map vec_items (then_some (is_ok r) bytes)) answer
      ∙ ap Some (left ∙ ap (λ o. decoded o old) read ∙ full)
      ∙ sym (not_empty line some ∙ read))
      (λ (f : is_hex line ≡ false).
      let none : read_as line ≡ None = cond-false (is_hex line) _ _ f in
      ap (λ o. option_map vec_items (then_some (is_ok (decoding o (length old))) bytes)) none ∙ sym (not_empty line some ∙ none))
      (cases_Bool (is_hex line))
