-- A ratio cut towards 0 keeps order and mirrors signs; so does holding within full speed. Assumes nothing.
use Rattle.std.proofs.Common.{◌≡◌, ℕ, zero, suc, ◌-◌, ◌*◌, ◌/◌, ◌<◌, ◌≤◌, ℤ, pos, negsuc, ◌*ℤ◌, neg_ℤ, ◌≤ℤ◌, sym, refl, ap, ◌∙◌, mul-le-mul_right, zero-mul, div-le_self, arith, w16, w32, SFits, to_z, of_z}
use native.Mathlib.Nat.{zero-div}
use lib.IntN.{neg_ℤ-neg_ℤ}
use lib.Signed.{mag, quot_z}
use Rattle.std.proofs.lemmas.Nat.{le-div, div-add-mod', mul-le}
use Rattle.std.proofs.lemmas.Int.{ints, clamps, to_z-of_z}
use Rattle.drive.specs.Speed.{full, full_back, held, InRange}
use Rattle.control.specs.Scale.{Fair, shown_speed, ScalesToSpeed, ScalesToWord}

module _ (a b : ℕ) (some : 0 < b) where
  abbrev ratio : ℤ → ℤ
  ratio z = quot_z (z *ℤ pos a) (pos b)

  none : 0 * a / b ≡ 0
  none = ap (λ n. n / b) (zero-mul a) ∙ zero-div b

  negative : (m : ℕ) → quot_z (neg_ℤ (pos m)) (pos b) ≡ neg_ℤ (pos (m / b))
  negative zero = ap pos (zero-div b) ∙ sym (ap (λ n. neg_ℤ (pos n)) (zero-div b))
  negative (suc m) = refl

  mirrored : (z : ℤ) → ratio (neg_ℤ z) ≡ neg_ℤ (ratio z)
  mirrored (pos zero) = ap pos none ∙ sym (ap (λ n. neg_ℤ (pos n)) none)
  mirrored (pos (suc n)) = negative (suc n * a)
  mirrored (negsuc n) = sym (ap neg_ℤ (negative (suc n * a)) ∙ neg_ℤ-neg_ℤ (pos (suc n * a / b)))

  grows : (m n : ℕ) → m ≤ n → m * a / b ≤ n * a / b
  grows m n h =
      let p : m * a ≤ n * a = mul-le-mul_right a h in
      le-div (m * a / b) (n * a) b some (omega (arith, div-add-mod' (m * a) b))

  below : (m n : ℕ) → quot_z (neg_ℤ (pos m)) (pos b) ≤ℤ pos n
  below m n = rw (negative m) (omega (arith, ints))

  ordered : (x y : ℤ) → x ≤ℤ y → ratio x ≤ℤ ratio y
  ordered (pos x) (pos y) h = let l : x ≤ y = omega (arith, ints) in let m = grows x y l in omega (arith, ints)
  ordered (pos x) (negsuc y) h = absurd (omega (arith, ints))
  ordered (negsuc x) (pos y) h = below (suc x * a) (y * a / b)
  ordered (negsuc x) (negsuc y) h =
      let l : suc y ≤ suc x = omega (arith, ints) in
      let m = grows (suc y) (suc x) l in
      let p = negative (suc x * a) in
      let q = negative (suc y * a) in
      rw (p, q) (omega (arith, ints))

  pub fair : Fair ratio
  fair = record { order = ordered; mirror = mirrored }

held_ordered : (x y : ℤ) → x ≤ℤ y → held x ≤ℤ held y
held_ordered x y h = omega (arith, ints, clamps)

held_mirrored : (z : ℤ) → held (neg_ℤ z) ≡ neg_ℤ (held z)
held_mirrored z = omega (arith, ints, clamps)

held_in_range : (z : ℤ) → InRange (held z)
held_in_range z = record { low = omega (arith, ints, clamps); high = omega (arith, ints, clamps) }

pub scales_to_speed : ScalesToSpeed
scales_to_speed =
    let r = fair 625 512 (omega arith) in
    record {
      fair = record {
        order = λ x y h. held_ordered _ _ (r.order x y h);
        mirror = λ z. ap held (r.mirror z) ∙ held_mirrored (quot_z (z *ℤ pos 625) (pos 512));
      };
      range = λ z. held_in_range (quot_z (z *ℤ pos 625) (pos 512));
      top = refl;
    }

pub scales_to_word : ScalesToWord
scales_to_word = record { fair = fair 512 625 (omega arith); top = refl }

-- what the code computes fits its words
negated : (n : ℕ) → mag (neg_ℤ (pos n)) ≡ n - 1
negated zero = refl
negated (suc n) = omega arith

product_fits : (z : ℤ) (a : ℕ) → a ≤ 625 → SFits w16 z → SFits w32 (z *ℤ pos a)
product_fits (pos n) a le f =
    let p = mul-le n a 32767 625 (omega (arith, f.sfits)) le in
    record { sfits = omega arith }
product_fits (negsuc n) a le f =
    let p = mul-le (suc n) a 32768 625 (omega (arith, f.sfits)) le in
    record { sfits = omega (arith, negated (suc n * a)) }

quotient_fits : (x : ℤ) (b : ℕ) → SFits w32 x → SFits w32 (quot_z x (pos b))
quotient_fits (pos n) b f = record { sfits = omega (arith, f.sfits, div-le_self n b) }
quotient_fits (negsuc n) b f = record { sfits = omega (arith, f.sfits, div-le_self (suc n) b, negated (suc n / b)) }

-- the ratio as the code computes it, in 32 bits
abbrev computed : ℕ → ℕ → ℤ → ℤ
computed a b z = to_z w32 (of_z w32 (quot_z (to_z w32 (of_z w32 (to_z w32 (of_z w32 z) *ℤ pos a))) (pos b)))

wider : (z : ℤ) → SFits w16 z → SFits w32 z
wider z f = record { sfits = omega (arith, f.sfits) }

pub computed_is : (a b : ℕ) (z : ℤ) → a ≤ 625 → SFits w16 z → computed a b z ≡ quot_z (z *ℤ pos a) (pos b)
computed_is a b z le f =
    let one = to_z-of_z w32 z (wider z f) in
    let two = to_z-of_z w32 (z *ℤ pos a) (product_fits z a le f) in
    let three = to_z-of_z w32 (quot_z (z *ℤ pos a) (pos b)) (quotient_fits (z *ℤ pos a) b (product_fits z a le f)) in
    ap (λ y. to_z w32 (of_z w32 (quot_z (to_z w32 (of_z w32 (y *ℤ pos a))) (pos b)))) one
    ∙ ap (λ y. to_z w32 (of_z w32 (quot_z y (pos b)))) two ∙ three

within_fits : (z : ℤ) → full_back ≤ℤ z → z ≤ℤ full → SFits w16 z
within_fits (pos n) low high = record { sfits = omega (arith, ints) }
within_fits (negsuc n) low high = record { sfits = omega (arith, ints) }

pub shown_is : (s : ℤ) → full_back ≤ℤ s → s ≤ℤ full → to_z w16 (of_z w16 (computed 512 625 s)) ≡ shown_speed s
shown_is s low high =
    let f = within_fits s low high in
    let o = (fair 512 625 (omega arith)).order in
    let up : shown_speed s ≤ℤ pos 16384 = o s full high in
    let down : negsuc 16383 ≤ℤ shown_speed s = o full_back s low in
    ap (λ y. to_z w16 (of_z w16 y)) (computed_is 512 625 s (omega arith) f)
    ∙ to_z-of_z w16 (shown_speed s) (within_fits (shown_speed s) (omega (arith, ints)) (omega (arith, ints)))
