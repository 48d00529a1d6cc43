-- Records in the order of their keys, for any key. Assumes nothing.
use Rattle.std.specs.Prelude.{◌≡◌, ℕ, ◌<◌, Bool, true, cond, ◌&&◌, List, [], ◌∷◌, length, Some, None, Option, MatchOption, ◌≢◌, slice_index_or}
use Rattle.std.specs.declared.cmp.Ordering.{Ordering}
use Rattle.std.specs.Ordering.{is_eq, is_lt}

module _ {R K : Type 0} (order : K → K → Ordering) (key : R → K) where
  -- the records rise strictly: each key lies below the next one
  abbrev pub rises : List R → Bool
  rises [] = true
  rises (r ∷ []) = true
  rises (r ∷ s ∷ rs) = is_lt (order (key r) (key s)) && rises (s ∷ rs)

  -- the record with this key, or none
  abbrev pub found : List R → K → Option R
  found [] k = None
  found (r ∷ rs) k = cond (is_eq (order (key r) k)) (Some r) (found rs k)

  -- the place of the record with this key, or none where no record has it
  abbrev pub Located : List R → K → Option ℕ → Type 0
  Located rs k place =
      MatchOption place ((i : ℕ) (d : R) → i < length rs → key (slice_index_or rs i d) ≢ k)
      (λ i. (i < length rs) × ((d : R) → key (slice_index_or rs i d) ≡ k))
