-- The digits of bytes are read back as these bytes, and text is the digits of its bytes. Assumes nothing.
use Rattle.std.proofs.Common.{◌≡◌, ℕ, suc, ◌+◌, ◌*◌, ◌/◌, ◌%◌, ◌<◌, true, false, cond, ◌&&◌, eqb, ltb, List, [], ◌∷◌, ◌++◌, length, get_or, take, drop, Some, sym, refl, ap, ◌∙◌, subst, ⊎_elim, arith}
use Rattle.std.proofs.lemmas.List.{take_at}
use Rattle.std.proofs.lemmas.Nat.{div-mul-add, mod-mul-add}
use Rattle.std.proofs.lemmas.Bool.{agree_below_at, and_parts, and_from, cond-true, cond-false, eq-eqb, eqb-true, ltb-true, cases_Bool}
use Rattle.std.proofs.lemmas.Bool.Decides.{nat_tests}
use Rattle.frame.specs.Hex.{digit_of, digits_of, is_digit, value_of, all_digits, is_hex, bytes_of, read_as, TextIsItsDigits}
use Rattle.frame.proofs.Digits.{length_digits}

-- the sixteen digits: each is one, and has its value
digit_value : (v : ℕ) → v < 16 → (is_digit (digit_of v) ≡ true) × (value_of (digit_of v) ≡ v)
digit_value v h =
    let p = and_parts _ _ (agree_below_at (λ k. is_digit (digit_of k) && eqb (value_of (digit_of k)) k) (λ _. true) 16 v refl h) in
    (p.0, eqb-true _ _ p.1)

-- each digit is the one of its value
value_digit : (c : ℕ) → is_digit c ≡ true → (digit_of (value_of c) ≡ c) × (value_of c < 16)
value_digit c e =
    let below : c < 71 = grind (arith, nat_tests) in
    let p = and_parts _ _ (sym (cond-true (is_digit c) _ _ e) ∙ agree_below_at (λ k. cond (is_digit k) (eqb (digit_of (value_of k)) k && ltb (value_of k) 16) true) (λ _. true) 71 c refl below) in
    (eqb-true _ _ p.0, ltb-true _ _ p.1)

all_are_digits : (bs : List ℕ) → ((k : ℕ) → get_or bs k 0 < 256) → all_digits (digits_of bs) ≡ true
all_are_digits [] bound = refl
all_are_digits (b ∷ bs) bound =
    let small : b < 256 = bound 0 in
    and_from _ _ (digit_value (b / 16) (omega arith)).0 (and_from _ _ (digit_value (b % 16) (omega arith)).0 (all_are_digits bs (λ k. bound (suc k))))

bytes_back : (bs : List ℕ) → ((k : ℕ) → get_or bs k 0 < 256) → bytes_of (digits_of bs) ≡ bs
bytes_back [] bound = refl
bytes_back (b ∷ bs) bound =
    let small : b < 256 = bound 0 in
    let high = (digit_value (b / 16) (omega arith)).1 in
    let low = (digit_value (b % 16) (omega arith)).1 in
    let whole : value_of (digit_of (b / 16)) * 16 + value_of (digit_of (b % 16)) ≡ b = omega (arith, high, low) in
    ap (λ x. x ∷ bytes_of (digits_of bs)) whole ∙ ap (λ t. b ∷ t) (bytes_back bs (λ k. bound (suc k)))

pub read_back : (bytes text after : List ℕ) → ((k : ℕ) → get_or bytes k 0 < 256) → after ≡ digits_of bytes ++ drop (2 * length bytes) text → read_as (take (2 * length bytes) after) ≡ Some bytes
read_back bytes text after bound e =
    let n = length_digits bytes in
    let front : take (2 * length bytes) after ≡ digits_of bytes = ap (take (2 * length bytes)) e ∙ take_at (digits_of bytes) (drop (2 * length bytes) text) (2 * length bytes) n in
    let even : length (digits_of bytes) % 2 ≡ 0 = omega arith in
    ap read_as front ∙ cond-true _ _ _ (and_from _ _ (eq-eqb (length (digits_of bytes) % 2) 0 even) (all_are_digits bytes bound)) ∙ ap Some (bytes_back bytes bound)

same_text : (text : List ℕ) → length text % 2 ≡ 0 → all_digits text ≡ true → text ≡ digits_of (bytes_of text)
same_text [] even e = refl
same_text (c ∷ []) even e = absurd (omega arith)
same_text (high ∷ low ∷ rest) even e =
    let p = and_parts _ _ e in
    let q = and_parts _ _ p.1 in
    let h = value_digit high p.0 in
    let l = value_digit low q.0 in
    let quotient = div-mul-add (value_of high) 16 (value_of low) l.1 in
    let remainder = mod-mul-add (value_of high) 16 (value_of low) l.1 in
    ap (λ x. x ∷ low ∷ rest) (sym (ap digit_of quotient ∙ h.0))
    ∙ ap (λ x. digit_of ((value_of high * 16 + value_of low) / 16) ∷ x ∷ rest) (sym (ap digit_of remainder ∙ l.0))
    ∙ ap (λ t. digit_of ((value_of high * 16 + value_of low) / 16) ∷ digit_of ((value_of high * 16 + value_of low) % 16) ∷ t) (same_text rest (omega arith) q.1)

pub text_is_its_digits : (text : List ℕ) → TextIsItsDigits text (read_as text)
text_is_its_digits text =
    ⊎_elim
    (λ (e : is_hex text ≡ true). let p = and_parts _ _ e in subst (TextIsItsDigits text) (sym (cond-true (is_hex text) _ _ e)) (same_text text (eqb-true _ _ p.0) p.1))
    (λ (e : is_hex text ≡ false). subst (TextIsItsDigits text) (sym (cond-false (is_hex text) _ _ e)) tt)
    (cases_Bool (is_hex text))
