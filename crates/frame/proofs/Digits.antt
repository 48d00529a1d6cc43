-- Bytes and their digits, place by place, and the loops that write them. Assumes nothing.
use Rattle.std.proofs.Common.{◌≡◌, ℕ, zero, suc, ◌+◌, ◌*◌, ◌/◌, ◌%◌, ◌<◌, ◌≤◌, Bool, true, ◌&&◌, List, [], ◌∷◌, ◌++◌, length, get_or, take, drop, set, zero-add, sym, refl, ap, ◌∙◌, arith}
use Rattle.std.specs.Simd.{first_chunks}
use Rattle.std.proofs.lemmas.List.{at_drop_more, take_all}
use Rattle.std.proofs.lemmas.List.Edits.{paste_more}
use Rattle.std.proofs.lemmas.Bool.{and_parts}
use Rattle.frame.specs.Hex.{digit_of, digits_of, is_digit, value_of, all_digits, bytes_of}

pub length_digits : (bs : List ℕ) → length (digits_of bs) ≡ 2 * length bs
length_digits [] = refl
length_digits (b ∷ bs) = let e = length_digits bs in omega arith

pub length_bytes : (text : List ℕ) → length (bytes_of text) ≡ length text / 2
length_bytes [] = refl
length_bytes (c ∷ []) = refl
length_bytes (h ∷ l ∷ rest) = let e = length_bytes rest in omega arith

pub high_at : (bs : List ℕ) (i : ℕ) → i < length bs → get_or (digits_of bs) (2 * i) 0 ≡ digit_of (get_or bs i 0 / 16)
high_at [] i h = absurd (omega arith)
high_at (b ∷ bs) zero h = refl
high_at (b ∷ bs) (suc i) h = let e : 2 * suc i ≡ suc (suc (2 * i)) = omega arith in ap (λ k. get_or (digits_of (b ∷ bs)) k 0) e ∙ high_at bs i (omega arith)

pub low_at : (bs : List ℕ) (i : ℕ) → i < length bs → get_or (digits_of bs) (2 * i + 1) 0 ≡ digit_of (get_or bs i 0 % 16)
low_at [] i h = absurd (omega arith)
low_at (b ∷ bs) zero h = refl
low_at (b ∷ bs) (suc i) h = let e : 2 * suc i + 1 ≡ suc (suc (2 * i + 1)) = omega arith in ap (λ k. get_or (digits_of (b ∷ bs)) k 0) e ∙ low_at bs i (omega arith)

pub byte_at : (text : List ℕ) (i : ℕ) → 2 * i + 1 < length text → get_or (bytes_of text) i 0 ≡ value_of (get_or text (2 * i) 0) * 16 + value_of (get_or text (2 * i + 1) 0)
byte_at [] i h = absurd (omega arith)
byte_at (c ∷ []) i h = absurd (omega arith)
byte_at (high ∷ low ∷ rest) zero h = refl
byte_at (high ∷ low ∷ rest) (suc i) h =
    let a : suc (suc (2 * i)) ≡ 2 * suc i = omega arith in
    let b : suc (suc (2 * i + 1)) ≡ 2 * suc i + 1 = omega arith in
    byte_at rest i (omega arith)
    ∙ ap (λ k. value_of (get_or (high ∷ low ∷ rest) k 0) * 16 + value_of (get_or (high ∷ low ∷ rest) (suc (suc (2 * i + 1))) 0)) a
    ∙ ap (λ k. value_of (get_or (high ∷ low ∷ rest) (2 * suc i) 0) * 16 + value_of (get_or (high ∷ low ∷ rest) k 0)) b

pub digit_at : (text : List ℕ) (k : ℕ) → all_digits text ≡ true → k < length text → is_digit (get_or text k 0) ≡ true
digit_at [] k e h = absurd (omega arith)
digit_at (c ∷ cs) zero e h = (and_parts _ _ e).0
digit_at (c ∷ cs) (suc k) e h = digit_at cs k (and_parts _ _ e).1 (omega arith)

-- one turn of the loop that looks at each character
pub digits_step : (text : List ℕ) (i : ℕ) (b : Bool) → i < length text → b ≡ is_digit (get_or text i 0) → (b && all_digits (drop (i + 1) text)) ≡ all_digits (drop i text)
digits_step text i b h e = ap (λ d. d && all_digits (drop (i + 1) text)) e ∙ sym (at_drop_more all_digits text i 0 h)

-- the first n pairs of a text: each is two digits, and they make a byte
byte_of_pair : (text : List ℕ) (n i : ℕ) → i < n → 2 * n ≤ length text → get_or (bytes_of text) i 0 ≡ value_of (get_or (get_or (first_chunks 2 n text) i []) 0 0) * 16 + value_of (get_or (get_or (first_chunks 2 n text) i []) 1 0)
byte_of_pair text zero i h room = absurd (omega arith)
byte_of_pair [] (suc n) i h room = absurd (omega arith)
byte_of_pair (c ∷ []) (suc n) i h room = absurd (omega arith)
byte_of_pair (high ∷ low ∷ rest) (suc n) zero h room = refl
byte_of_pair (high ∷ low ∷ rest) (suc n) (suc i) h room = byte_of_pair rest n i (omega arith) (omega arith)

two_digits : (text : List ℕ) (n i : ℕ) → i < n → 2 * n ≤ length text → all_digits text ≡ true → (is_digit (get_or (get_or (first_chunks 2 n text) i []) 0 0) ≡ true) × (is_digit (get_or (get_or (first_chunks 2 n text) i []) 1 0) ≡ true)
two_digits text zero i h room e = absurd (omega arith)
two_digits [] (suc n) i h room e = absurd (omega arith)
two_digits (c ∷ []) (suc n) i h room e = absurd (omega arith)
two_digits (high ∷ low ∷ rest) (suc n) zero h room e = let p = and_parts _ _ e in (p.0, (and_parts _ _ p.1).0)
two_digits (high ∷ low ∷ rest) (suc n) (suc i) h room e = two_digits rest n i (omega arith) (omega arith) (and_parts _ _ (and_parts _ _ e).1).1

-- old with its first n elements taken from new
abbrev pub over : List ℕ → List ℕ → ℕ → List ℕ
over old new n = take n new ++ drop n old

over_more : (old new : List ℕ) (n x : ℕ) → n < length new → n < length old → x ≡ get_or new n 0 → set (over old new n) n x ≡ over old new (n + 1)
over_more old new n x h k e = ap (set (over old new n) n) e ∙ simp zero-add at (paste_more old 0 new n 0 (omega arith) h)

pub over_all : (old new : List ℕ) (n : ℕ) → length new ≡ n → over old new n ≡ new ++ drop n old
over_all old new n e = ap (λ t. t ++ drop n old) (take_all n new (omega arith))

-- one turn of the loop that writes digits
pub digits_more : (bytes old text : List ℕ) (i high low : ℕ) → i < length bytes → 2 * length bytes ≤ length old → text ≡ over old (digits_of bytes) (2 * i) → high ≡ digit_of (get_or bytes i 0 / 16) → low ≡ digit_of (get_or bytes i 0 % 16) → set (set text (2 * i) high) (2 * i + 1) low ≡ over old (digits_of bytes) (2 * (i + 1))
digits_more bytes old text i high low h room e eh el =
    let n = length_digits bytes in
    ap (λ t. set (set t (2 * i) high) (2 * i + 1) low) e
    ∙ ap (λ t. set t (2 * i + 1) low) (over_more old (digits_of bytes) (2 * i) high (omega arith) (omega arith) (eh ∙ sym (high_at bytes i h)))
    ∙ over_more old (digits_of bytes) (2 * i + 1) low (omega arith) (omega arith) (el ∙ sym (low_at bytes i h))
    ∙ ap (over old (digits_of bytes)) (omega arith)

-- one byte more of those of a text
pub bytes_more : (text old bytes : List ℕ) (i high low : ℕ) → i < length text / 2 → length text / 2 ≤ length old → bytes ≡ over old (bytes_of text) i → high ≡ value_of (get_or text (2 * i) 0) → low ≡ value_of (get_or text (2 * i + 1) 0) → set bytes i (high * 16 + low) ≡ over old (bytes_of text) (i + 1)
bytes_more text old bytes i high low h room e eh el =
    let n = length_bytes text in
    ap (λ t. set t i (high * 16 + low)) e
    ∙ over_more old (bytes_of text) i (high * 16 + low) (omega arith) (omega arith) (ap (λ x. x * 16 + low) eh ∙ ap (λ x. value_of (get_or text (2 * i) 0) * 16 + x) el ∙ sym (byte_at text i (omega arith)))

-- the loop that writes bytes: what it reads, and one turn
module _ (text old : List ℕ) (pairs : List (List ℕ)) (cut : pairs ≡ first_chunks 2 (length text / 2) text) (i : ℕ) (within : i < length text / 2) where
  pub pair_of_digits : all_digits text ≡ true → (is_digit (get_or (get_or pairs i []) 0 0) ≡ true) × (is_digit (get_or (get_or pairs i []) 1 0) ≡ true)
  pair_of_digits e = rw cut (two_digits text _ i within (omega arith) e)

  pub pairs_more : (bytes : List ℕ) (high low : ℕ) → length text / 2 ≤ length old → bytes ≡ over old (bytes_of text) i → high ≡ value_of (get_or (get_or pairs i []) 0 0) → low ≡ value_of (get_or (get_or pairs i []) 1 0) → set bytes i (high * 16 + low) ≡ over old (bytes_of text) (i + 1)
  pairs_more bytes high low room e eh el =
      let n = length_bytes text in
      let byte : high * 16 + low ≡ get_or (bytes_of text) i 0 = rw (eh, el, cut) (sym (byte_of_pair text (length text / 2) i within (omega arith))) in
      ap (λ t. set t i (high * 16 + low)) e ∙ over_more old (bytes_of text) i (high * 16 + low) (omega arith) (omega arith) byte
