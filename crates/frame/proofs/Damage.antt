-- An accepted telegram in which one byte was changed is refused. Assumes nothing.
use Rattle.std.proofs.Common.{◌≡◌, ℕ, ◌+◌, ◌-◌, ◌<◌, ◌≤◌, cond, ◌⊎◌, List, length, get_or, take, drop, set, Ok, Err, Result, sym, ap, ◌∙◌, ⊎_elim, arith}
use lib.Seq.{take-set-lt}
use Rattle.std.specs.List.{between}
use Rattle.std.proofs.lemmas.List.{length-set, get_or-set_same, get_or-set_other, take-set-le, drop-set-add}
use Rattle.std.proofs.lemmas.List.Edits.{length-between, get_or-between}
use Rattle.std.proofs.lemmas.List.Sums.{sum_by-set}
use Rattle.std.proofs.lemmas.Bool.{false_from_ne_true, cond-true, cond-false, ne_eqb, cases_lt}
use Rattle.std.proofs.lemmas.Bool.Decides.{nat_tests}
use Rattle.frame.specs.Check.{check_byte}
use Rattle.frame.specs.Telegram.{Fields}
use Rattle.frame.specs.Reader.{reading, checked, is_long, is_short}
use Rattle.frame.specs.Laws.{ChangedIsRefused, summed_or_check_byte}
use Rattle.frame.specs.declared.refusal.Refusal.{Refusal}
use Rattle.frame.specs.declared.refusal.Refusal.TheVariants.{NoLayout, WrongCheckByte}
use Rattle.frame.proofs.Shape.{Long, Short, long_facts, short_facts, long_test, short_test, long_not_short}
use Rattle.frame.proofs.Exact.{Way, short, long, way}

no_layout : (xs : List ℕ) → (Short xs → ⊥) → (Long xs → ⊥) → reading xs ≡ Err NoLayout
no_layout xs s l = cond-false _ _ _ (false_from_ne_true (is_short xs) (λ t. s (short_facts xs t))) ∙ cond-false _ _ _ (false_from_ne_true (is_long xs) (λ t. l (long_facts xs t)))

module _ (bytes : List ℕ) (k v : ℕ) (within : k < length bytes) (byte : get_or bytes k 0 < 256) (small : v < 256) (other : v ≡ get_or bytes k 0 → ⊥) where
  abbrev changed : List ℕ
  changed = set bytes k v

  here : get_or changed k 0 ≡ v
  here = get_or-set_same bytes k v 0 within

  elsewhere : (j : ℕ) → (j ≡ k → ⊥) → get_or changed j 0 ≡ get_or bytes j 0
  elsewhere j ne = get_or-set_other bytes k j v 0 ne

  -- the byte at k is another one
  differs : (j : ℕ) → get_or changed j 0 ≡ get_or bytes j 0 → k ≡ j → ⊥
  differs j e at = other (sym here ∙ ap (λ i. get_or changed i 0) at ∙ e ∙ ap (λ i. get_or bytes i 0) (sym at))

  same_length : length changed ≡ length bytes
  same_length = length-set bytes k v

  module _ (start end : ℕ) (from : start ≤ k) (last : end < length bytes) (right : check_byte (between start end bytes) ≡ get_or bytes end 0) where
    -- the part that is summed, with the byte changed
    summed : between start end changed ≡ take (end - start) (set (drop start bytes) (k - start) v)
    summed =
        let e : start + (k - start) ≡ k = omega arith in
        ap (take (end - start)) (ap (λ j. drop start (set bytes j v)) (sym e) ∙ drop-set-add start bytes (k - start) v)

    -- a changed byte changes the sum
    sum_wrong : k < end → check_byte (between start end changed) ≡ get_or changed end 0 → ⊥
    sum_wrong before e =
        let i : k - start < end - start = omega arith in
        let is : between start end changed ≡ set (between start end bytes) (k - start) v = summed ∙ take-set-lt (end - start) (drop start bytes) (k - start) v i in
        let size : length (between start end bytes) ≡ end - start = length-between bytes start end (omega arith) in
        let old : get_or (between start end bytes) (k - start) 0 ≡ get_or bytes k 0 = get_or-between bytes start end (k - start) 0 (omega arith) ∙ ap (λ j. get_or bytes j 0) (omega arith) in
        let moved = sum_by-set (λ x. x) (between start end bytes) (k - start) v 0 (omega arith) in
        let fcs = elsewhere end (omega arith) in
        let now : check_byte (set (between start end bytes) (k - start) v) ≡ get_or bytes end 0 = ap check_byte (sym is) ∙ e ∙ fcs in
        omega (arith, old, moved, now, right, byte, small, other)

    -- a changed FCS is not the sum
    check_wrong : k ≡ end → check_byte (between start end changed) ≡ get_or changed end 0 → ⊥
    check_wrong at e =
        let is : between start end changed ≡ between start end bytes = summed ∙ take-set-le (end - start) (drop start bytes) (k - start) v (omega arith) in
        let fcs : get_or changed end 0 ≡ v = ap (λ j. get_or changed j 0) (sym at) ∙ here in
        let was : get_or bytes k 0 ≡ get_or bytes end 0 = ap (λ j. get_or bytes j 0) at in
        other (sym fcs ∙ sym e ∙ ap check_byte is ∙ right ∙ sym was)

    refused : k ≤ end → checked changed start end ≡ Err WrongCheckByte
    refused upto = cond-false _ _ _ (ne_eqb _ _ (⊎_elim (λ before. sum_wrong before) (λ after. check_wrong (omega arith)) (cases_lt k end)))

  short_kept : Short bytes → 1 ≤ k → k ≤ 4 → Short changed
  short_kept s lo hi = record { size = same_length ∙ s.size; start = elsewhere 0 (omega arith) ∙ s.start; end = elsewhere 5 (omega arith) ∙ s.end }

  short_lost : Short bytes → (k ≡ 0) ⊎ (k ≡ 5) → reading changed ≡ Err NoLayout
  short_lost s at =
      no_layout changed
      (λ t. ⊎_elim (differs 0 (t.start ∙ sym s.start)) (differs 5 (t.end ∙ sym s.end)) at)
      (λ t. omega (arith, same_length, s.size, t.size, t.least))

  long_kept : Long bytes → 4 ≤ k → k ≤ get_or bytes 1 0 + 4 → Long changed
  long_kept l lo hi =
      let le = elsewhere 1 (omega arith) in
      record {
        start = elsewhere 0 (omega arith) ∙ l.start;
        again = elsewhere 2 (omega arith) ∙ l.again ∙ sym le;
        start_2 = elsewhere 3 (omega arith) ∙ l.start_2;
        least = rw le l.least;
        most = rw le l.most;
        size = same_length ∙ l.size ∙ ap (λ n. n + 6) (sym le);
        end = ap (λ n. get_or changed (n + 5) 0) le ∙ elsewhere (get_or bytes 1 0 + 5) (omega arith) ∙ l.end;
      }

  long_unlike : Long bytes → Long changed → (k < 4) ⊎ (k ≡ get_or bytes 1 0 + 5) → ⊥
  long_unlike l t at =
      let not_0 : k ≡ 0 → ⊥ = differs 0 (t.start ∙ sym l.start) in
      let not_1 : k ≡ 1 → ⊥ = λ e. differs 1 (sym t.again ∙ elsewhere 2 (omega arith) ∙ l.again) e in
      let not_2 : k ≡ 2 → ⊥ = λ e. differs 2 (t.again ∙ elsewhere 1 (omega arith) ∙ sym l.again) e in
      let not_3 : k ≡ 3 → ⊥ = differs 3 (t.start_2 ∙ sym l.start_2) in
      let not_end : k ≡ get_or bytes 1 0 + 5 → ⊥ = λ e. differs (get_or bytes 1 0 + 5) (ap (λ n. get_or changed (n + 5) 0) (sym (elsewhere 1 (omega arith))) ∙ t.end ∙ sym l.end) e in
      ⊎_elim (λ before. omega (arith, not_0, not_1, not_2, not_3)) not_end at

  long_lost : Long bytes → (k < 4) ⊎ (k ≡ get_or bytes 1 0 + 5) → reading changed ≡ Err NoLayout
  long_lost l at = no_layout changed (λ t. omega (arith, same_length, l.size, l.least, t.size)) (λ t. long_unlike l t at)

  -- what is shown of each byte, under the name that the law has for it
  by_place : (f : Fields) (r : Result Fields Refusal) → ((f.place ≤ k + 3) → (k + 2 ≤ length bytes) → r ≡ Err WrongCheckByte) → ((k + 3 < f.place) ⊎ (length bytes < k + 2) → r ≡ Err NoLayout) → r ≡ Err (cond (summed_or_check_byte bytes f k) WrongCheckByte NoLayout)
  by_place f r guarded bare = grind (arith, nat_tests)

  damaged : (f : Fields) → Way bytes f → reading changed ≡ Err (cond (summed_or_check_byte bytes f k) WrongCheckByte NoLayout)
  damaged f (short s c e) =
      let place : f.place ≡ 4 = ap (λ g. g.place) e in
      by_place f (reading changed)
      (λ from upto.
      cond-true _ _ _ (short_test changed (short_kept s (omega arith) (omega (arith, s.size))))
      ∙ refused 1 4 (omega arith) (omega (arith, s.size)) c (omega (arith, s.size)))
      (λ at. short_lost s (grind (arith, s.size)))
  damaged f (long l c e) =
      let place : f.place ≡ 7 = ap (λ g. g.place) e in
      by_place f (reading changed)
      (λ from upto.
      let kept = long_kept l (omega arith) (omega (arith, l.size)) in
      let le : get_or changed 1 0 ≡ get_or bytes 1 0 = elsewhere 1 (omega arith) in
      cond-false _ _ _ (long_not_short changed kept)
      ∙ cond-true _ _ _ (long_test changed kept)
      ∙ ap (λ n. checked changed 4 (n + 4)) le
      ∙ refused 4 (get_or bytes 1 0 + 4) (omega arith) (omega (arith, l.size)) c (omega (arith, l.size)))
      (λ at. long_lost l (grind (arith, l.size)))

pub changed_refused : (bytes : List ℕ) (r : Result Fields Refusal) → ((k : ℕ) → get_or bytes k 0 < 256) → r ≡ reading bytes → ChangedIsRefused bytes r
changed_refused bytes (Ok f) bound e = λ k v within small other. damaged bytes k v within (bound k) small other f (way bytes f (sym e))
changed_refused bytes (Err r) bound e = tt
