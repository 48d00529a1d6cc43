-- The fan's one cell takes a value. Assumes nothing.
use Rattle.std.proofs.Common.{◌≡◌, ℕ, ◌≤◌, T, ℤ, pos, negsuc, nat_abs, ◌≤ℤ◌, Some, refl, subst, arith, w16, Fits}
use lib.Signed.{non_neg}
use Rattle.std.proofs.lemmas.Int.{ints}
use Rattle.std.proofs.lemmas.Bool.Decides.{nat_tests}
use Rattle.drive.specs.Meaning.{put}
use Rattle.drive.specs.declared.cell.Cell.{Cell}
use Rattle.fan_drive.specs.Fan.{fan_cells, step_cell}

-- the cell takes a value, and there is no other
pub cell_set : (old v : ℤ) (g n : ℕ) (c : Cell) → Some c ≡ fan_cells old g n → (h k : ℕ) → fan_cells v h k ≡ put (fan_cells old) g n v h k
cell_set old v g n c found h k = grind (arith, nat_tests)

-- a step from 1 to 20000 as an unsigned number
pub record Step (v : ℤ) : Type 0 where
  pub sign : T (non_neg v)
  pub fits : Fits w16 (nat_abs v)
  pub low : 1 ≤ nat_abs v
  pub high : nat_abs v ≤ 20000
  pub same : pos (nat_abs v) ≡ v

step : (v : ℤ) → pos 1 ≤ℤ v → v ≤ℤ pos 20000 → Step v
step (pos n) low high =
    record { sign = tt; fits = record { fits = omega (arith, ints) }; low = omega (arith, ints); high = omega (arith, ints); same = refl }
step (negsuc n) low high = absurd (omega (arith, ints))

-- what the cell takes is such a step
pub taken_step : (old v : ℤ) (g n : ℕ) (c : Cell) → Some c ≡ fan_cells old g n → (c.low ≤ℤ v) × (v ≤ℤ c.high) → Step v
taken_step old v g n c found fits =
    let is : c ≡ step_cell old = grind (arith, nat_tests) in
    step v (subst (λ d. d.low ≤ℤ v) is fits.0) (subst (λ d. v ≤ℤ d.high) is fits.1)
