-- The first entry for a tick, looked for from the front. Assumes nothing.
use Rattle.std.proofs.Common.{◌≡◌, ℕ, ◌+◌, ◌<◌, List, length, get_or, drop, Some, ◌∙◌}
use Rattle.std.proofs.lemmas.List.{at_drop_more}
use Rattle.std.proofs.lemmas.Bool.{cond-true, cond-false, eq-eqb, ne_eqb}
use Rattle.bench_drive.specs.Plan.{unused, planned}
use Rattle.bench_drive.specs.declared.plan.PlanEntry.{PlanEntry}

module _ (es : List PlanEntry) (i t : ℕ) (within : i < length es) where
  -- the entry at hand is for the tick
  pub planned_here : (get_or es i unused).tick ≡ t → planned (drop i es) t ≡ Some (get_or es i unused)
  planned_here is = at_drop_more (λ l. planned l t) es i unused within ∙ cond-true _ _ _ (eq-eqb _ _ is)

  -- it is for another
  pub planned_later : ((get_or es i unused).tick ≡ t → ⊥) → planned (drop i es) t ≡ planned (drop (i + 1) es) t
  planned_later other = at_drop_more (λ l. planned l t) es i unused within ∙ cond-false _ _ _ (ne_eqb _ _ other)
