use Rattle.std.proofs.Common.{◌∙◌, nat_eq, rules, tests}
use Rattle.std.proofs.lemmas.Iterator.{YieldsList-from_slice}
use Rattle.std.proofs.lemmas.Iterator.Search.{find_from_yields_List}
use Rattle.bench_drive.proofs.plan.planned.Goals as goal

pub returns-clause-value : goal.returns-clause-value
returns-clause-value c =
    c.copied.ensures
    ∙ find_from_yields_List (λ e. nat_eq e.tick c.args.tick) _ _ _ c.find.ensures.ran (YieldsList-from_slice c.args.plan.now cc) (λ x b q k. search (rules, tests))
