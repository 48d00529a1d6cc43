-- What the library's search and its test of neighbours say of records that rise by their keys. Assumes nothing.
use Rattle.std.proofs.Common.{◌≡◌, ℕ, zero, suc, ◌+◌, ◌<◌, Bool, true, false, List, [], ◌∷◌, length, get_or, Ok, Err, Result, Ordering, Equal, sym, refl, ap, ◌∙◌, ⊎_elim, arith}
use Rattle.std.proofs.lemmas.Bool.{and_from, and_left, and_right, cases_lt}
use Rattle.std.proofs.lemmas.List.Sorted.{searchable_from_sorted}
use Rattle.std.specs.Cmp.{IsTotalOrder}
use Rattle.std.specs.List.{AllAdjacentBelow, IsAllAdjacentAnswer}
use Rattle.std.specs.List.Sorted.{IsSortedBy, IsBinarySearchResult, IsSearchInRange}
use Rattle.std.specs.Ordering.{is_lt, ordering_reverse}
use Rattle.std.specs.Result.{result_ok}
use Rattle.table_drive.specs.Order.{rises, Located}
use Rattle.table_drive.proofs.Ascending.{Ascending}

module _ {R K : Type 0} (order : K → K → Ordering) (key : R → K) where
  neighbours_rise : (rs : List R) → AllAdjacentBelow (λ x y. true ≡ is_lt (order (key x) (key y))) rs (length rs) → rises order key rs ≡ true
  neighbours_rise [] h = refl
  neighbours_rise (r ∷ []) h = refl
  neighbours_rise (r ∷ s ∷ rs) h =
      and_from _ _ (sym (h 0 r (omega arith)))
      (neighbours_rise (s ∷ rs) (λ k d l. let e : suc k + 1 ≡ suc (k + 1) = omega arith in h (suc k) d (omega arith) ∙ ap (λ j. is_lt (order (key (get_or (s ∷ rs) k d)) (key (get_or (r ∷ s ∷ rs) j d)))) e))

  neighbours_fall : (rs : List R) (k : ℕ) → k + 1 < length rs → ((d : R) → false ≡ is_lt (order (key (get_or rs k d)) (key (get_or rs (k + 1) d)))) → rises order key rs ≡ false
  neighbours_fall [] k h e = absurd (omega arith)
  neighbours_fall (r ∷ []) k h e = absurd (omega arith)
  neighbours_fall (r ∷ s ∷ rs) zero h e = and_left _ _ (sym (e r))
  neighbours_fall (r ∷ s ∷ rs) (suc k) h e =
      and_right _ _ (neighbours_fall (s ∷ rs) k (omega arith) (λ d. let f : suc k + 1 ≡ suc (k + 1) = omega arith in e d ∙ ap (λ j. is_lt (order (key (get_or (s ∷ rs) k d)) (key (get_or (r ∷ s ∷ rs) j d)))) f))

  -- the answer on neighbours is whether the records rise
  pub told : (rs : List R) (b : Bool) → IsAllAdjacentAnswer (λ x y q. q ≡ is_lt (order (key x) (key y))) rs b → b ≡ rises order key rs
  told rs true h = sym (neighbours_rise rs h)
  told rs false h = sym (neighbours_fall rs h.0 h.1 h.2)

  module _ (total : IsTotalOrder order) (itself : (x : K) → order x x ≡ Equal) (same : (x y : K) → order x y ≡ Equal → x ≡ y) where
    sorted : (rs : List R) → Ascending order key rs → IsSortedBy (λ x y. is_lt (order (key x) (key y))) rs
    sorted rs asc k d low h = ap is_lt (total.antisymm _ _ ∙ ap ordering_reverse (asc k (k + 1) d (omega arith) h))

    -- the search answers the place of the record with the key, or an error where no record has it
    pub located : (rs : List R) (k : K) (r : Result ℕ ℕ) → Ascending order key rs → IsSearchInRange r (length rs) → IsBinarySearchResult (λ y. order (key y) k) rs r → Located order key rs k (result_ok r)
    located rs k (Ok i) asc within at = (within, λ d. same _ _ (at d))
    located rs k (Err i) asc within at = λ j d h e.
        let split = at (searchable_from_sorted total key rs k (sorted rs asc)) in
        let equal = ap (λ x. order x k) e ∙ itself k in
        ⊎_elim
        (λ (low : j < i). let less = split.0 j d (omega arith) low in cc)
        (λ high. let greater = split.1 j d (omega arith) h in cc)
        (cases_lt j i)
