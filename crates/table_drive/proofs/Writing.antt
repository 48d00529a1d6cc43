-- One record of a list takes a value. Assumes nothing.
use Rattle.std.proofs.Common.{◌≡◌, ℕ, zero, suc, ◌<◌, Bool, true, false, cond, ◌&&◌, eqb, List, [], ◌∷◌, length, get_or, set, ℤ, ◌≤ℤ◌, Some, None, Option, sym, refl, ap, ◌∙◌, ⊎_elim, arith}
use lib.Signed.{le_z}
use Rattle.std.proofs.lemmas.Int.{ints}
use Rattle.std.proofs.lemmas.Bool.{and_parts, and_from, cond-true, cond-false, cases_Bool}
use Rattle.std.proofs.lemmas.Bool.Decides.{nat_tests}
use Rattle.std.specs.Ordering.{is_eq}
use Rattle.drive.specs.Cell.{is_sound, has_valid_key, limits_within_width, value_within_limits, with_value}
use Rattle.drive.specs.Meaning.{put, taken}
use Rattle.drive.specs.declared.cell.Cell.{Cell}
use Rattle.table_drive.specs.Acceptance.{cells_rise, all_sound}
use Rattle.table_drive.specs.Key.{key, key_of, by_key}
use Rattle.table_drive.specs.Table.{cells_of, cells_in_use, put_value}
use Rattle.drive.specs.declared.key.Key.{Key}
use Rattle.table_drive.proofs.Ascending.{first_below, rest_rises}
use Rattle.table_drive.proofs.KeyOrder.{trans, itself}

-- the order of the keys stays
pub rises_set : (cs : List Cell) (i : ℕ) (d : Cell) (v : ℤ) → cells_rise cs ≡ true → cells_rise (set cs i (with_value (get_or cs i d) v)) ≡ true
rises_set [] i d v h = refl
rises_set (c ∷ []) zero d v h = refl
rises_set (c ∷ []) (suc i) d v h = refl
rises_set (c ∷ e ∷ cs) zero d v h = h
rises_set (c ∷ e ∷ cs) (suc zero) d v h = let p = and_parts _ _ h in and_from _ _ p.0 (rises_set (e ∷ cs) zero d v p.1)
rises_set (c ∷ e ∷ cs) (suc (suc i)) d v h = let p = and_parts _ _ h in and_from _ _ p.0 (rises_set (e ∷ cs) (suc i) d v p.1)

sound_with : (c : Cell) (v : ℤ) → is_sound c ≡ true → c.low ≤ℤ v → v ≤ℤ c.high → is_sound (with_value c v) ≡ true
sound_with c v h low high =
    let p = and_parts (has_valid_key c) (limits_within_width c && value_within_limits c) h in
    let q = and_parts (limits_within_width c) (value_within_limits c) p.1 in
    and_from _ _ p.0 (and_from _ _ q.0 (and_from (le_z c.low v) (le_z v c.high) (grind (arith, ints)) (grind (arith, ints))))

-- and so does that each cell is sound, where the value lies within the limits
pub sound_set : (cs : List Cell) (i : ℕ) (d : Cell) (v : ℤ) → all_sound cs ≡ true → i < length cs → (get_or cs i d).low ≤ℤ v → v ≤ℤ (get_or cs i d).high → all_sound (set cs i (with_value (get_or cs i d) v)) ≡ true
sound_set [] i d v s h low high = refl
sound_set (c ∷ cs) zero d v s h low high = let p = and_parts _ _ s in and_from _ _ (sound_with c v p.0 low high) p.1
sound_set (c ∷ cs) (suc i) d v s h low high = let p = and_parts _ _ s in and_from _ _ p.0 (sound_set cs i d v p.1 (omega arith) low high)

-- the record with this key is the one that is written
pub written : (cs : List Cell) (k : Key) (i : ℕ) (d : Cell) (v : ℤ) → cells_rise cs ≡ true → i < length cs → key_of (get_or cs i d) ≡ k → set cs i (with_value (get_or cs i d) v) ≡ put_value cs k v
written [] k i d v rise h is = refl
written (c ∷ cs) k zero d v rise h is = sym (cond-true _ _ _ (ap is_eq (ap (λ x. by_key x k) is ∙ itself k)))
written (c ∷ cs) k (suc i) d v rise h is =
    let below = ap (by_key (key_of c)) (sym is) ∙ first_below by_key key_of trans c cs i d rise (omega arith) in
    ap (λ l. c ∷ l) (written cs k i d v (rest_rises by_key key_of c cs rise) (omega arith) is) ∙ sym (cond-false _ _ _ (ap is_eq below))

-- a cell with the key sought is the one looked up exactly where that key is looked up
key_here : (x y z : Key) → is_eq (by_key x y) ≡ true → is_eq (by_key x z) ≡ (eqb z.group y.group && eqb z.number y.number)
key_here x y z h = grind (arith, nat_tests)

key_elsewhere : (x y z : Key) → is_eq (by_key x y) ≡ false → is_eq (by_key x z) ≡ true → (eqb z.group y.group && eqb z.number y.number) ≡ false
key_elsewhere x y z h e = grind (arith, nat_tests)

module _ (c : Cell) (v : ℤ) (rest : Option Cell) where
  at_once : (b q : Bool) → b ≡ q → cond b (Some (with_value c v)) rest ≡ cond q (taken (cond b (Some c) rest) v) (cond b (Some c) rest)
  at_once true true e = refl
  at_once true false e = cc
  at_once false true e = cc
  at_once false false e = refl

  later_on : (b q : Bool) → (b ≡ true → q ≡ false) → cond b (Some c) (cond q (taken rest v) rest) ≡ cond q (taken (cond b (Some c) rest) v) (cond b (Some c) rest)
  later_on true true e = let f = e refl in cc
  later_on true false e = refl
  later_on false q e = refl

nothing : (b : Bool) (v : ℤ) → None ≡ cond b (taken None v) None
nothing true v = refl
nothing false v = refl

-- the cell with this key takes the value, the others are found as before
pub put_found : (cs : List Cell) (g n : ℕ) (v : ℤ) (h k : ℕ) → cells_of (put_value cs (key g n) v) h k ≡ put (cells_of cs) g n v h k
put_found [] g n v h k = nothing (eqb h g && eqb k n) v
put_found (c ∷ cs) g n v h k =
    ⊎_elim
    (λ (e : is_eq (by_key (key_of c) (key g n)) ≡ true).
    ap (λ l. cells_of l h k) (cond-true _ (with_value c v ∷ cs) (c ∷ put_value cs (key g n) v) e)
    ∙ at_once c v (cells_of cs h k) _ _ (key_here (key_of c) (key g n) (key h k) e))
    (λ (e : is_eq (by_key (key_of c) (key g n)) ≡ false).
    ap (λ l. cells_of l h k) (cond-false _ (with_value c v ∷ cs) (c ∷ put_value cs (key g n) v) e)
    ∙ ap (λ o. cond (is_eq (by_key (key_of c) (key h k))) (Some c) o) (put_found cs g n v h k)
    ∙ later_on c v (cells_of cs h k) _ _ (key_elsewhere (key_of c) (key g n) (key h k) e))
    (cases_Bool (is_eq (by_key (key_of c) (key g n))))

-- the record at the place of a cell in use is written
module _ (list : List Cell) (k : Key) (i : ℕ) (d new : Cell) (v : ℤ) (is : new ≡ with_value (get_or list i d) v) (rise : cells_rise list ≡ true) (h : i < length list) (named : key_of (get_or list i d) ≡ k) where
  pub list_written : set list i new ≡ put_value list k v
  list_written = ap (set list i) is ∙ written list k i d v rise h named

  pub cells_written : (b : Bool) → b ≡ true → (g n : ℕ) → cells_in_use b (set list i new) g n ≡ put (cells_in_use b list) k.group k.number v g n
  cells_written true e g n = ap (λ cs. cells_of cs g n) list_written ∙ put_found list k.group k.number v g n
  cells_written false e g n = cc
