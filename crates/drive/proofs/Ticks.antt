-- What one tick keeps, any number of ticks keeps. Assumes nothing.
use Rattle.std.proofs.Common.{◌≡◌, ℕ, refl, ap, ◌∙◌, subst, ◌≤ℤ◌, sym, arith}
use Rattle.std.proofs.lemmas.Int.{ints, clamps}
use Rattle.drive.specs.Command.{target}
use Rattle.drive.specs.Laws.{HoweverManyTicks}
use Rattle.drive.specs.Meaning.{Meaning, Ticked}

pub no_tick : (m : Meaning) → HoweverManyTicks m m
no_tick m = record {
  cells = λ g n. refl;
  command = refl;
  fault = λ h. h;
  not_above = λ bound s t z. s;
  not_below = λ bound s t z. s;
}

stays : (f g : ℕ) → ((f ≡ 0 → ⊥) → (g ≡ 0 → ⊥)) → g ≡ 0 → f ≡ 0
stays f g h zero = grind (arith, h)

pub one_more : (first before after : Meaning) → HoweverManyTicks first before → Ticked before after → HoweverManyTicks first after
one_more first before after h t =
    let same : target before.command ≡ target first.command = ap target h.command in
    record {
      cells = λ g n. ap (λ cells. cells g n) t.cells ∙ h.cells g n;
      command = t.command ∙ h.command;
      fault = λ none. h.fault (stays before.fault after.fault t.fault none);
      not_above = λ bound a b c. let now = h.not_above bound a b c in let goal : target before.command ≤ℤ bound = subst (λ r. r ≤ℤ bound) (sym same) b in omega (arith, ints, clamps, t.speed.high);
      not_below = λ bound a b c. let now = h.not_below bound a b c in let goal : bound ≤ℤ target before.command = subst (λ r. bound ≤ℤ r) (sym same) b in omega (arith, ints, clamps, t.speed.low);
    }
