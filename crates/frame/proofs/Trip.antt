-- A written telegram is read back as its fields. Assumes nothing.
use Rattle.std.proofs.Common.{◌≡◌, ℕ, ◌+◌, ◌-◌, ◌≤◌, eqb, List, [], ◌∷◌, ◌++◌, length, get_or, take, drop, Ok, sym, refl, ap, ◌∙◌, arith, length-append}
use Rattle.std.specs.List.{between}
use Rattle.std.proofs.lemmas.List.{take_at, get_or_at, append_assoc}
use Rattle.std.proofs.lemmas.Bool.{cond-true, cond-false, eq-eqb}
use Rattle.std.proofs.lemmas.Bool.Decides.{nat_tests}
use Rattle.frame.specs.Check.{check_byte}
use Rattle.frame.specs.Telegram.{Fields, fields, fields_bytes, telegram}
use Rattle.frame.specs.Writer.{PutDown}
use Rattle.frame.specs.Reader.{reading, is_long, is_short}
use Rattle.frame.proofs.Shape.{Long, long_test, long_not_short}

module _ (da sa fc x : ℕ) (xs : List ℕ) (few : length (x ∷ xs) ≤ 246) where
  abbrev n : ℕ
  n = length (x ∷ xs)

  abbrev all : List ℕ
  all = telegram da sa fc (x ∷ xs)

  abbrev fcs : ℕ
  fcs = check_byte (da ∷ sa ∷ fc ∷ x ∷ xs)

  abbrev front : List ℕ
  front = 0x68 ∷ (n + 3) ∷ (n + 3) ∷ 0x68 ∷ da ∷ sa ∷ fc ∷ x ∷ xs

  fcs_at : get_or all ((n + 3) + 4) 0 ≡ fcs
  fcs_at = get_or_at front fcs (0x16 ∷ []) 0 ((n + 3) + 4) (omega arith)

  end_at : get_or all ((n + 3) + 5) 0 ≡ 0x16
  end_at =
      ap (λ l. get_or (0x68 ∷ (n + 3) ∷ (n + 3) ∷ 0x68 ∷ da ∷ sa ∷ fc ∷ x ∷ l) ((n + 3) + 5) 0) (sym (append_assoc xs (fcs ∷ []) (0x16 ∷ [])))
      ∙ get_or_at (front ++ fcs ∷ []) 0x16 [] 0 ((n + 3) + 5) (simp length-append (omega arith))

  long : Long all
  long = record {
    start = refl;
    again = refl;
    start_2 = refl;
    least = omega arith;
    most = omega arith;
    size = simp length-append (omega arith);
    end = end_at;
  }

  summed : between 4 ((n + 3) + 4) all ≡ da ∷ sa ∷ fc ∷ x ∷ xs
  summed = take_at (da ∷ sa ∷ fc ∷ x ∷ xs) _ (((n + 3) + 4) - 4) (omega arith)

  held : between 7 ((n + 3) + 4) all ≡ x ∷ xs
  held = take_at (x ∷ xs) _ (((n + 3) + 4) - 7) (omega arith)

  long_trip : reading all ≡ Ok (fields da sa fc (x ∷ xs))
  long_trip =
      cond-false (is_short all) _ _ (long_not_short all long)
      ∙ cond-true (is_long all) _ _ (long_test all long)
      ∙ cond-true (eqb (check_byte (between 4 ((n + 3) + 4) all)) (get_or all ((n + 3) + 4) 0)) _ _ (eq-eqb _ _ (ap check_byte summed ∙ sym fcs_at))
      ∙ ap (λ l. Ok (record { destination = da; source = sa; function = fc; «data» = l; place = 7 })) held

-- the telegram of any fields with at most 246 data bytes is read as these fields
pub trip : (da sa fc : ℕ) (xs : List ℕ) → length xs ≤ 246 → reading (telegram da sa fc xs) ≡ Ok (fields da sa fc xs)
trip da sa fc [] h = grind (arith, nat_tests)
trip da sa fc (x ∷ xs) h = long_trip da sa fc x xs h

-- what was put down is read back
pub read_back : (f : Fields) (buffer after : List ℕ) (n : ℕ) → f ≡ fields f.destination f.source f.function f.«data» → length f.«data» ≤ 246 → PutDown f n buffer after → reading (take n after) ≡ Ok f
read_back f buffer after n whole few p =
    ap (λ l. reading (take n l)) p.bytes
    ∙ ap reading (take_at (fields_bytes f) (drop n buffer) n (sym p.count))
    ∙ trip f.destination f.source f.function f.«data» few
    ∙ ap Ok (sym whole)
