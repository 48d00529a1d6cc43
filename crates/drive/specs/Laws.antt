-- What holds of every drive over time. Assumes nothing.
use Rattle.std.specs.Prelude.{◌≡◌, ℕ, zero, suc, ℤ, pos, ◌≤ℤ◌}
use Rattle.drive.specs.Command.{target}
use Rattle.drive.specs.Meaning.{Meaning}

-- so many steps, one after the other
abbrev pub Steps : {S : Type 0} → (S → S → Type 0) → ℕ → S → S → Type 0
Steps step zero first last = last ≡ first
Steps {S} step (suc n) first last = (before : S) × Steps step n first before × step before last

-- however many ticks there were: each cell and the command stay, no fault is lost,
-- and the speed goes past no bound that the speed at the start, the reference under run and 0 keep to
pub record HoweverManyTicks (before after : Meaning) : Type 0 where
  pub cells : (g n : ℕ) → after.cells g n ≡ before.cells g n
  pub command : after.command ≡ before.command
  pub fault : after.fault ≡ 0 → before.fault ≡ 0
  pub not_above : (bound : ℤ) → before.speed ≤ℤ bound → target before.command ≤ℤ bound → pos 0 ≤ℤ bound → after.speed ≤ℤ bound
  pub not_below : (bound : ℤ) → bound ≤ℤ before.speed → bound ≤ℤ target before.command → bound ≤ℤ pos 0 → bound ≤ℤ after.speed
