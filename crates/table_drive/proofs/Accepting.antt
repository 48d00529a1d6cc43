-- A list of cells is judged cell by cell. Assumes nothing.
use Rattle.std.proofs.Common.{◌≡◌, ℕ, ◌+◌, ◌-◌, ◌<◌, ◌≤◌, Bool, true, ◌&&◌, List, [], ◌∷◌, length, get_or, drop, sym, refl, ap, ◌∙◌, arith}
use Rattle.std.proofs.lemmas.List.{at_drop_more, drop_more, length-drop}
use Rattle.std.specs.Ordering.{is_lt}
use Rattle.drive.specs.Cell.{is_sound}
use Rattle.drive.specs.declared.cell.Cell.{Cell}
use Rattle.drive.specs.declared.key.Key.{Key}
use Rattle.table_drive.specs.Acceptance.{cells_rise, all_sound}
use Rattle.table_drive.specs.Key.{by_key, key_of}

-- one cell more
pub sound_more : (cs : List Cell) (i : ℕ) (d : Cell) (r : Bool) → i < length cs → r ≡ is_sound (get_or cs i d) → (r && all_sound (drop (i + 1) cs)) ≡ all_sound (drop i cs)
sound_more cs i d r h e = ap (λ b. b && all_sound (drop (i + 1) cs)) e ∙ sym (at_drop_more all_sound cs i d h)

-- one pair of neighbours more
pub rise_more : (cs : List Cell) (i : ℕ) (d e : Cell) (y z : Key) (b : Bool) → 1 ≤ i → i < length cs → y ≡ key_of (get_or cs (i - 1) d) → z ≡ key_of (get_or cs i e) → b ≡ is_lt (by_key y z) → (b && cells_rise (drop i cs)) ≡ cells_rise (drop (i - 1) cs)
rise_more cs i d e y z b low h first second told =
    let is : b ≡ is_lt (by_key (key_of (get_or cs (i - 1) d)) (key_of (get_or cs i e))) =
    told ∙ ap (λ k. is_lt (by_key k z)) first ∙ ap (λ k. is_lt (by_key (key_of (get_or cs (i - 1) d)) k)) second in
    let next : drop i cs ≡ get_or cs i e ∷ drop (i + 1) cs = drop_more cs i e h in
    let at : (i - 1) + 1 ≡ i = omega arith in
    let both : drop (i - 1) cs ≡ get_or cs (i - 1) d ∷ (get_or cs i e ∷ drop (i + 1) cs) =
    drop_more cs (i - 1) d (omega arith) ∙ ap (λ k. get_or cs (i - 1) d ∷ drop k cs) at ∙ ap (λ l. get_or cs (i - 1) d ∷ l) next in
    ap (λ l. b && cells_rise l) next ∙ ap (λ p. p && cells_rise (get_or cs i e ∷ drop (i + 1) cs)) is ∙ ap cells_rise (sym both)

short_rises : (cs : List Cell) → length cs ≤ 1 → cells_rise cs ≡ true
short_rises [] h = refl
short_rises (c ∷ []) h = refl
short_rises (c ∷ d ∷ cs) h = absurd (omega arith)

-- no pair is left
pub rise_end : (cs : List Cell) (i : ℕ) → length cs ≤ i → cells_rise (drop (i - 1) cs) ≡ true
rise_end cs i h = short_rises (drop (i - 1) cs) (simp length-drop (omega arith))
