-- The cells by their values: each is sound, and one takes a value. Assumes nothing.
use Rattle.std.proofs.Common.{◌≡◌, ℕ, zero, suc, ◌-◌, true, List, [], ◌∷◌, length, get_or, set, ℤ, pos, Some, refl, arith}
use mathlib.Core.Path.{fun_ext}
use Rattle.std.proofs.lemmas.List.{get_or-set_same, get_or-set_other}
use Rattle.std.proofs.lemmas.Bool.{and_parts, and_from, cases_eq}
use Rattle.std.proofs.lemmas.Bool.Decides.{nat_tests}
use Rattle.drive.specs.Meaning.{sound_at, put}
use Rattle.drive.specs.Width.{within}
use Rattle.bench_drive.specs.Cells.{low_limit, high_limit, place, bench_cells, all_within}

-- a value at a place, or 0 where there is none, lies within the limits
within_at : (vs : List ℤ) (k : ℕ) → all_within vs ≡ true → within low_limit high_limit (get_or vs k (pos 0)) ≡ true
within_at [] k h = refl
within_at (v ∷ vs) zero h = (and_parts _ _ h).0
within_at (v ∷ vs) (suc k) h = within_at vs k (and_parts _ _ h).1

-- a value within the limits may be put at any place
pub within_set : (vs : List ℤ) (k : ℕ) (v : ℤ) → within low_limit high_limit v ≡ true → all_within vs ≡ true → all_within (set vs k v) ≡ true
within_set [] k v new h = refl
within_set (x ∷ xs) zero v new h = and_from _ _ new (and_parts _ _ h).1
within_set (x ∷ xs) (suc k) v new h = and_from _ _ (and_parts _ _ h).0 (within_set xs k v new (and_parts _ _ h).1)

pub cells_sound : (vs : List ℤ) → all_within vs ≡ true → (g n : ℕ) → sound_at g n (bench_cells vs g n) ≡ true
cells_sound vs h g n = let w = within_at vs (n - 1) h in grind (arith, nat_tests)

-- one value put in its place is one cell that takes it
pub cells_set : (vs : List ℤ) (g n p : ℕ) (v : ℤ) → length vs ≡ 8 → Some p ≡ place g n → bench_cells (set vs p v) ≡ put (bench_cells vs) g n v
cells_set vs g n p v len found =
    fun_ext (λ h. fun_ext (λ k. grind (arith, nat_tests, get_or-set_same, get_or-set_other, cases_eq k n, cases_eq h g)))
