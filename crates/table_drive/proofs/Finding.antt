-- What is found in records by a key. Assumes nothing.
use Rattle.std.proofs.Common.{◌≡◌, ℕ, zero, suc, ◌<◌, true, false, List, [], ◌∷◌, length, get_or, Some, None, Ordering, Less, Equal, Greater, sym, refl, ap, ◌∙◌, ⊎_elim, arith}
use Rattle.std.proofs.lemmas.Bool.{cond-true, cond-false, cases_Bool}
use Rattle.std.specs.Ordering.{is_eq}
use Rattle.table_drive.specs.Order.{found}
use Rattle.table_drive.proofs.Ascending.{Ascending}

pub eq_equal : (o : Ordering) → is_eq o ≡ true → o ≡ Equal
eq_equal Less e = cc
eq_equal Equal e = refl
eq_equal Greater e = cc

not_equal : (o : Ordering) → (o ≡ Equal → ⊥) → is_eq o ≡ false
not_equal Less h = refl
not_equal Equal h = absurd (h refl)
not_equal Greater h = refl

less_equal : (o : Ordering) → o ≡ Less → o ≡ Equal → ⊥
less_equal o a b = cc

module _ {R K : Type 0} (order : K → K → Ordering) (key : R → K) where
  -- whatever is found lies in the list
  pub in_list : (rs : List R) (k : K) (r : R) → found order key rs k ≡ Some r → (i : ℕ) × (i < length rs) × (get_or rs i r ≡ r)
  in_list [] k r e = cc
  in_list (s ∷ rs) k r e =
      ⊎_elim
      (λ (h : is_eq (order (key s) k) ≡ true). let is : Some s ≡ Some r = sym (cond-true _ _ _ h) ∙ e in (0, omega arith, cc))
      (λ (h : is_eq (order (key s) k) ≡ false).
      let there = in_list rs k r (sym (cond-false _ _ _ h) ∙ e) in
      (suc there.0, omega (arith, there.1), there.2))
      (cases_Bool (is_eq (order (key s) k)))

  module _ (same : (x y : K) → order x y ≡ Equal → x ≡ y) (itself : (x : K) → order x x ≡ Equal) where
    none_equal : (rs : List R) (k : K) → ((i : ℕ) (d : R) → i < length rs → order (key (get_or rs i d)) k ≡ Equal → ⊥) → found order key rs k ≡ None
    none_equal [] k none = refl
    none_equal (r ∷ rs) k none =
        cond-false _ _ _ (not_equal _ (none 0 r (omega arith))) ∙ none_equal rs k (λ i d h. none (suc i) d (omega arith))

    -- nothing is found under a key that no record has
    pub found_none : (rs : List R) (k : K) → ((i : ℕ) (d : R) → i < length rs → key (get_or rs i d) ≡ k → ⊥) → found order key rs k ≡ None
    found_none rs k none = none_equal rs k (λ i d h e. none i d h (same _ _ e))

    first_equal : (rs : List R) (k : K) (i : ℕ) (d : R) → i < length rs → order (key (get_or rs i d)) k ≡ Equal → ((j : ℕ) → j < i → order (key (get_or rs j d)) k ≡ Equal → ⊥) → found order key rs k ≡ Some (get_or rs i d)
    first_equal [] k i d h e none = absurd (omega arith)
    first_equal (r ∷ rs) k zero d h e none = cond-true _ _ _ (ap is_eq e)
    first_equal (r ∷ rs) k (suc i) d h e none =
        cond-false _ _ _ (not_equal _ (none 0 (omega arith))) ∙ first_equal rs k i d (omega arith) e (λ j l. none (suc j) (omega arith))

    -- the record at a place is found under its key, where the keys rise
    pub found_at : (rs : List R) (k : K) (i : ℕ) (d : R) → Ascending order key rs → i < length rs → key (get_or rs i d) ≡ k → found order key rs k ≡ Some (get_or rs i d)
    found_at rs k i d asc h is =
        first_equal rs k i d h (ap (λ x. order x k) is ∙ itself k)
        (λ j l e. let less = ap (order (key (get_or rs j d))) (sym is) ∙ asc j i d l h in cc)
