-- The two layouts as facts, and the bytes of a telegram that has one. Assumes nothing.
use Rattle.std.proofs.Common.{◌≡◌, ℕ, ◌+◌, ◌-◌, ◌≤◌, true, false, List, [], ◌∷◌, ◌++◌, length, get_or, drop, sym, refl, ap, ◌∙◌, arith}
use Rattle.std.specs.List.{between}
use Rattle.std.proofs.lemmas.List.{take-append-drop, take_at, drop-drop, drop_more, drop_all}
use Rattle.std.proofs.lemmas.List.Edits.{length-between}
use Rattle.std.proofs.lemmas.Bool.Decides.{nat_tests}
use Rattle.frame.specs.Check.{check_byte}
use Rattle.frame.specs.Telegram.{telegram}
use Rattle.frame.specs.Reader.{is_short, is_long}
use Rattle.frame.proofs.Put.{head, long_telegram}

pub record Short (bytes : List ℕ) : Type 0 where
  pub size : length bytes ≡ 6
  pub start : get_or bytes 0 0 ≡ 0x10
  pub end : get_or bytes 5 0 ≡ 0x16

pub record Long (bytes : List ℕ) : Type 0 where
  pub start : get_or bytes 0 0 ≡ 0x68
  pub again : get_or bytes 2 0 ≡ get_or bytes 1 0
  pub start_2 : get_or bytes 3 0 ≡ 0x68
  pub least : 4 ≤ get_or bytes 1 0
  pub most : get_or bytes 1 0 ≤ 249
  pub size : length bytes ≡ get_or bytes 1 0 + 6
  pub end : get_or bytes (get_or bytes 1 0 + 5) 0 ≡ 0x16

pub short_facts : (bytes : List ℕ) → is_short bytes ≡ true → Short bytes
short_facts bytes h = record { size = grind (arith, nat_tests); start = grind (arith, nat_tests); end = grind (arith, nat_tests) }

pub short_test : (bytes : List ℕ) → Short bytes → is_short bytes ≡ true
short_test bytes s = grind (arith, nat_tests)

pub long_facts : (bytes : List ℕ) → is_long bytes ≡ true → Long bytes
long_facts bytes h = record {
  start = grind (arith, nat_tests);
  again = grind (arith, nat_tests);
  start_2 = grind (arith, nat_tests);
  least = grind (arith, nat_tests);
  most = grind (arith, nat_tests);
  size = grind (arith, nat_tests);
  end = grind (arith, nat_tests);
}

pub long_test : (bytes : List ℕ) → Long bytes → is_long bytes ≡ true
long_test bytes l = grind (arith, nat_tests)

pub long_not_short : (bytes : List ℕ) → Long bytes → is_short bytes ≡ false
long_not_short bytes l = grind (arith, nat_tests)

-- a list by its first elements
first_six : (bytes : List ℕ) → 6 ≤ length bytes → bytes ≡ get_or bytes 0 0 ∷ get_or bytes 1 0 ∷ get_or bytes 2 0 ∷ get_or bytes 3 0 ∷ get_or bytes 4 0 ∷ get_or bytes 5 0 ∷ drop 6 bytes
first_six [] h = absurd (omega arith)
first_six (a ∷ []) h = absurd (omega arith)
first_six (a ∷ b ∷ []) h = absurd (omega arith)
first_six (a ∷ b ∷ c ∷ []) h = absurd (omega arith)
first_six (a ∷ b ∷ c ∷ d ∷ []) h = absurd (omega arith)
first_six (a ∷ b ∷ c ∷ d ∷ e ∷ []) h = absurd (omega arith)
first_six (a ∷ b ∷ c ∷ d ∷ e ∷ f ∷ rest) h = refl

-- the bytes of a short telegram with the right FCS
pub short_bytes : (bytes : List ℕ) → Short bytes → check_byte (between 1 4 bytes) ≡ get_or bytes 4 0 → bytes ≡ telegram (get_or bytes 1 0) (get_or bytes 2 0) (get_or bytes 3 0) (between 4 4 bytes)
short_bytes bytes s e =
    let u = first_six bytes (omega (arith, s.size)) in
    let none : drop 6 bytes ≡ [] = drop_all 6 bytes (omega (arith, s.size)) in
    let sum : check_byte (get_or bytes 1 0 ∷ get_or bytes 2 0 ∷ get_or bytes 3 0 ∷ []) ≡ get_or bytes 4 0 = sym (ap (λ l. check_byte (between 1 4 l)) u) ∙ e in
    cc

-- the bytes of a long telegram with the right FCS
module _ (bytes : List ℕ) (l : Long bytes) where
  abbrev end : ℕ
  end = get_or bytes 1 0 + 4

  pub data_length : length (between 7 end bytes) ≡ end - 7
  data_length = length-between bytes 7 end (omega arith)

  -- the data, the FCS and the end byte
  back : drop 7 bytes ≡ between 7 end bytes ++ get_or bytes end 0 ∷ 0x16 ∷ []
  back =
      let e : 7 + (end - 7) ≡ end = omega arith in
      let n : (end + 1) + 1 ≡ length bytes = omega arith in
      let m : end + 1 ≡ get_or bytes 1 0 + 5 = omega arith in
      let last : drop ((end + 1) + 1) bytes ≡ [] = drop_all _ bytes (omega arith) in
      let two : drop end bytes ≡ get_or bytes end 0 ∷ 0x16 ∷ [] =
      drop_more bytes end 0 (omega arith)
      ∙ ap (λ t. get_or bytes end 0 ∷ t) (drop_more bytes (end + 1) 0 (omega arith) ∙ ap (λ t. get_or bytes (end + 1) 0 ∷ t) last ∙ ap (λ k. get_or bytes k 0 ∷ []) m ∙ ap (λ b. b ∷ []) l.end) in
      sym (take-append-drop (end - 7) (drop 7 bytes)) ∙ ap (λ t. between 7 end bytes ++ t) (drop-drop (end - 7) 7 bytes ∙ ap (λ k. drop k bytes) e ∙ two)

  pub long_bytes : check_byte (between 4 end bytes) ≡ get_or bytes end 0 → bytes ≡ telegram (get_or bytes 4 0) (get_or bytes 5 0) (get_or bytes 6 0) (between 7 end bytes)
  long_bytes e =
      let u = first_six bytes (omega arith) in
      let v : drop 6 bytes ≡ get_or bytes 6 0 ∷ drop 7 bytes = drop_more bytes 6 0 (omega arith) in
      let n : length (between 7 end bytes) + 3 ≡ get_or bytes 1 0 = omega (arith, data_length) in
      let whole : bytes ≡ head (get_or bytes 1 0) (get_or bytes 4 0) (get_or bytes 5 0) (get_or bytes 6 0) ++ (between 7 end bytes ++ get_or bytes end 0 ∷ 0x16 ∷ []) = let b = back in cc in
      let part : between 4 end bytes ≡ get_or bytes 4 0 ∷ get_or bytes 5 0 ∷ get_or bytes 6 0 ∷ between 7 end bytes =
      ap (between 4 end) whole ∙ take_at (get_or bytes 4 0 ∷ get_or bytes 5 0 ∷ get_or bytes 6 0 ∷ between 7 end bytes) (get_or bytes end 0 ∷ 0x16 ∷ []) (end - 4) (omega (arith, data_length)) in
      whole
      ∙ ap (λ k. head k (get_or bytes 4 0) (get_or bytes 5 0) (get_or bytes 6 0) ++ (between 7 end bytes ++ get_or bytes end 0 ∷ 0x16 ∷ [])) (sym n)
      ∙ ap (λ s. head (length (between 7 end bytes) + 3) (get_or bytes 4 0) (get_or bytes 5 0) (get_or bytes 6 0) ++ (between 7 end bytes ++ s ∷ 0x16 ∷ [])) (sym e ∙ ap check_byte part)
      ∙ sym (long_telegram (get_or bytes 4 0) (get_or bytes 5 0) (get_or bytes 6 0) (between 7 end bytes) (omega (arith, data_length)))
