-- What the writes of a long telegram come to. Assumes nothing.
use Rattle.std.proofs.Common.{◌≡◌, ℕ, ◌+◌, ◌-◌, ◌<◌, ◌≤◌, List, [], ◌∷◌, ◌++◌, length, drop, Ok, Err, sym, refl, ap, ◌∙◌, arith, rules, length-append}
use borrow.Rule.Slice.PartMut.{put_mid, post_of}
use Rattle.std.specs.Array.{IsFirstChunk}
use Rattle.std.specs.List.{between}
use Rattle.std.proofs.lemmas.List.{take_at, drop_at, drop-drop, append_assoc, drop-append-le, length-take-le, take-append-drop}
use Rattle.std.proofs.lemmas.Slice.{overwrites}
use Rattle.std.proofs.lemmas.Bool.Decides.{nat_tests}
use Rattle.frame.specs.Check.{check_byte}
use Rattle.frame.specs.Telegram.{Fields, fields_bytes, telegram}
use Rattle.frame.specs.declared.refusal.Refusal.TheVariants.{DataTooLong}
use Rattle.frame.specs.Writer.{PutDown, writing, written}

-- the bytes before the data
abbrev pub head : ℕ → ℕ → ℕ → ℕ → List ℕ
head le da sa fc = 0x68 ∷ le ∷ le ∷ 0x68 ∷ da ∷ sa ∷ fc ∷ []

pub long_telegram : (da sa fc : ℕ) (xs : List ℕ) → 0 < length xs → telegram da sa fc xs ≡ head (length xs + 3) da sa fc ++ (xs ++ check_byte (da ∷ sa ∷ fc ∷ xs) ∷ 0x16 ∷ [])
long_telegram da sa fc [] h = absurd (omega arith)
long_telegram da sa fc (x ∷ xs) h = refl

pub long_length : (da sa fc : ℕ) (xs : List ℕ) → 0 < length xs → length (telegram da sa fc xs) ≡ length xs + 9
long_length da sa fc xs h = ap length (long_telegram da sa fc xs h) ∙ simp length-append (omega arith)

module _ (out xs : List ℕ) (da sa fc : ℕ) where
  abbrev n : ℕ
  n = length xs

  abbrev first : List ℕ
  first = head (n + 3) da sa fc

  -- after the data were put down
  abbrev half : List ℕ
  half = first ++ (xs ++ drop (n + 7) out)

  half_put : put_mid 7 ((n + 7) - 7) (first ++ post_of 0 7 out) xs ≡ half
  half_put = search (rules, overwrites)

  half_sum : between 4 (n + 7) half ≡ da ∷ sa ∷ fc ∷ xs
  half_sum = take_at (da ∷ sa ∷ fc ∷ xs) (drop (n + 7) out) ((n + 7) - 4) (omega arith)

  end_put : (s : ℕ) → put_mid (n + 7) ((n + 9) - (n + 7)) half (s ∷ 0x16 ∷ []) ≡ (first ++ (xs ++ s ∷ 0x16 ∷ [])) ++ drop (n + 9) out
  end_put s =
      let k : (n + 9) - (n + 7) ≡ 2 = omega arith in
      let m : (n + 7) + 2 ≡ n + 9 = omega arith in
      let len : length (first ++ xs) ≡ n + 7 = omega arith in
      let front = take_at (first ++ xs) (drop (n + 7) out) (n + 7) len in
      let back = drop_at (first ++ xs) (drop (n + 7) out) (n + 7) len in
      let tail : drop ((n + 9) - (n + 7)) (drop (n + 7) half) ≡ drop (n + 9) out = ap (λ l. drop ((n + 9) - (n + 7)) l) back ∙ ap (λ j. drop j (drop (n + 7) out)) k ∙ drop-drop 2 (n + 7) out ∙ ap (λ j. drop j out) m in
      ap (λ l. l ++ (s ∷ 0x16 ∷ drop ((n + 9) - (n + 7)) (drop (n + 7) half))) front
      ∙ ap (λ l. (first ++ xs) ++ (s ∷ 0x16 ∷ l)) tail
      ∙ ap (λ l. first ++ l) (sym (append_assoc xs (s ∷ 0x16 ∷ []) (drop (n + 9) out)))

  -- the three writes one after the other, and the sum taken between
  pub long_put : (a b c : List ℕ) (s : ℕ) → 0 < n → a ≡ first → b ≡ xs → s ≡ check_byte (between 4 (n + 7) (put_mid 7 ((n + 7) - 7) (a ++ post_of 0 7 out) b)) → c ≡ s ∷ 0x16 ∷ [] → put_mid (n + 7) ((n + 9) - (n + 7)) (put_mid 7 ((n + 7) - 7) (a ++ post_of 0 7 out) b) c ≡ telegram da sa fc xs ++ drop (n + 9) out
  long_put a b c s h ea eb es ec =
      let mid : put_mid 7 ((n + 7) - 7) (a ++ post_of 0 7 out) b ≡ half = ap (λ l. put_mid 7 ((n + 7) - 7) (l ++ post_of 0 7 out) b) ea ∙ ap (λ l. put_mid 7 ((n + 7) - 7) (first ++ post_of 0 7 out) l) eb ∙ half_put in
      let sum_is : s ≡ check_byte (da ∷ sa ∷ fc ∷ xs) = es ∙ ap (λ l. check_byte (between 4 (n + 7) l)) mid ∙ ap check_byte half_sum in
      ap (λ l. put_mid (n + 7) ((n + 9) - (n + 7)) l c) mid
      ∙ ap (λ l. put_mid (n + 7) ((n + 9) - (n + 7)) half l) ec
      ∙ end_put s
      ∙ ap (λ t. (first ++ (xs ++ t ∷ 0x16 ∷ [])) ++ drop (n + 9) out) sum_is
      ∙ ap (λ l. l ++ drop (n + 9) out) (sym (long_telegram da sa fc xs h))

-- where nothing is refused
pub writing_ok : (f : Fields) (room : ℕ) → 255 ≤ room → length f.«data» ≤ 246 → writing f room ≡ Ok (length (fields_bytes f))
writing_ok f room h k = grind (arith, nat_tests)

pub written_ok : (f : Fields) (buffer : List ℕ) → 255 ≤ length buffer → length f.«data» ≤ 246 → written f buffer ≡ fields_bytes f ++ drop (length (fields_bytes f)) buffer
written_ok f buffer h k = grind (arith, nat_tests)

-- a telegram with at most 246 data bytes has at most 255
length_most : (da sa fc : ℕ) (xs : List ℕ) → length xs ≤ 246 → length (telegram da sa fc xs) ≤ 255
length_most da sa fc [] few = omega arith
length_most da sa fc (x ∷ xs) few = omega (arith, long_length da sa fc (x ∷ xs))

-- the first bytes of a buffer, before the others, are the buffer
pub room_and_rest : (buffer room : List ℕ) → IsFirstChunk buffer room 255 → room ++ drop 255 buffer ≡ buffer
room_and_rest buffer room chunk = ap (λ l. l ++ drop 255 buffer) chunk.same ∙ take-append-drop 255 buffer

-- what was put down in the first bytes of a buffer was put down in the buffer
pub put_in_room : (f : Fields) (count : ℕ) (buffer room after : List ℕ) → length f.«data» ≤ 246 → IsFirstChunk buffer room 255 → PutDown f count room after → PutDown f count buffer (after ++ drop 255 buffer)
put_in_room f count buffer room after few chunk p =
    let most = length_most f.destination f.source f.function f.«data» few in
    let size : length room ≡ 255 = ap length chunk.same ∙ length-take-le 255 buffer chunk.enough in
    let within : count ≤ length room = rw p.count (omega (arith, most, size)) in
    let past = drop-append-le count room (drop 255 buffer) within in
    let whole = room_and_rest buffer room chunk in
    record {
      count = p.count;
      bytes =
          ap (λ l. l ++ drop 255 buffer) p.bytes
          ∙ append_assoc (fields_bytes f) (drop count room) (drop 255 buffer)
          ∙ ap (λ l. fields_bytes f ++ l) (sym past ∙ ap (drop count) whole);
    }

-- what the writer answers and leaves, from what was put down
pub wrote : (f : Fields) (buffer after : List ℕ) (n : ℕ) → 255 ≤ length buffer → length f.«data» ≤ 246 → PutDown f n buffer after → (Ok n ≡ writing f (length buffer)) × (after ≡ written f buffer)
wrote f buffer after n room few p = (grind (arith, nat_tests), grind (arith, nat_tests))

-- what the writer answers and leaves where the data are too long
pub too_long : (f : Fields) (buffer after : List ℕ) → 255 ≤ length buffer → 246 < length f.«data» → after ≡ buffer → (Err DataTooLong ≡ writing f (length buffer)) × (after ≡ written f buffer)
too_long f buffer after room many same = (grind (arith, nat_tests), grind (arith, nat_tests))
