use Rattle.std.proofs.Common.{rules, ◌≡◌, ℕ, ◌+◌, ◌<◌, ◌%◌, List, [], ◌∷◌, ◌∙◌, arith, fold, sum, lit<}
use Rattle.std.proofs.lemmas.List.Sums.{sum_by-cons}
use Rattle.std.proofs.Math.Nat.{mod-add-mod}
use Rattle.frame.proofs.check.check_byte.Goals as goal

-- sums taken modulo 256 byte by byte come to the whole sum modulo 256
fold_sum : (sum_before : ℕ) (bytes : List ℕ) → sum_before < 256 → fold (λ s b. (s + b) % 256) sum_before bytes ≡ (sum_before + sum bytes) % 256
fold_sum s [] small = omega arith
fold_sum s (b ∷ bytes) small =
    fold_sum ((s + b) % 256) bytes (omega arith) ∙ omega (arith, mod-add-mod (s + b) 256 (sum bytes), sum_by-cons (λ x. x) b bytes)

pub returns : goal.returns
returns c =
    let folded : c.fold.result ≡ fold (λ s b. (s + b) % 256) 0 c.args.bytes.now = search rules in
    folded ∙ fold_sum 0 c.args.bytes.now (lit< tt) ∙ omega arith
