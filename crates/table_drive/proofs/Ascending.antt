-- Records that rise, each below the next, rise from any one to any later one. Assumes nothing.
use Rattle.std.proofs.Common.{◌≡◌, ℕ, zero, suc, ◌<◌, true, List, [], ◌∷◌, length, get_or, Ordering, Less, Equal, Greater, refl, arith}
use Rattle.std.proofs.lemmas.Bool.{and_parts}
use Rattle.std.specs.Ordering.{is_lt}
use Rattle.table_drive.specs.Order.{rises}

lt_less : (o : Ordering) → is_lt o ≡ true → o ≡ Less
lt_less Less e = refl
lt_less Equal e = cc
lt_less Greater e = cc

module _ {R K : Type 0} (order : K → K → Ordering) (key : R → K) where
  -- each key lies below those of all later records
  abbrev pub Ascending : List R → Type 0
  Ascending rs = (i j : ℕ) (d : R) → i < j → j < length rs → order (key (get_or rs i d)) (key (get_or rs j d)) ≡ Less

  pub rest_rises : (r : R) (rs : List R) → rises order key (r ∷ rs) ≡ true → rises order key rs ≡ true
  rest_rises r [] h = refl
  rest_rises r (s ∷ rs) h = (and_parts _ _ h).1

  module _ (trans : (x y z : K) → order x y ≡ Less → order y z ≡ Less → order x z ≡ Less) where
    pub first_below : (r : R) (rs : List R) (j : ℕ) (d : R) → rises order key (r ∷ rs) ≡ true → j < length rs → order (key r) (key (get_or rs j d)) ≡ Less
    first_below r [] j d h l = absurd (omega arith)
    first_below r (s ∷ rs) zero d h l = lt_less _ (and_parts (is_lt (order (key r) (key s))) (rises order key (s ∷ rs)) h).0
    first_below r (s ∷ rs) (suc j) d h l =
        let p = and_parts (is_lt (order (key r) (key s))) (rises order key (s ∷ rs)) h in
        trans (key r) (key s) (key (get_or rs j d)) (lt_less _ p.0) (first_below s rs j d p.1 (omega arith))

    pub ascends : (rs : List R) → rises order key rs ≡ true → Ascending rs
    ascends [] h i j d l m = absurd (omega arith)
    ascends (r ∷ rs) h zero zero d l m = absurd (omega arith)
    ascends (r ∷ rs) h zero (suc j) d l m = first_below r rs j d h (omega arith)
    ascends (r ∷ rs) h (suc i) zero d l m = absurd (omega arith)
    ascends (r ∷ rs) h (suc i) (suc j) d l m = ascends rs (rest_rises r rs h) i j d (omega arith) (omega arith)
