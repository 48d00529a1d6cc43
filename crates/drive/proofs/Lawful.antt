-- What a drive's maker owes of its cells, from their being sound. Assumes nothing.
use Rattle.std.proofs.Common.{◌≡◌, ℕ, true, ◌&&◌, eqb, ◌⊎◌, Some, None, Option, refl, arith}
use Rattle.std.proofs.lemmas.Bool.{and_parts}
use Rattle.std.proofs.lemmas.Bool.Decides.{nat_tests}
use Rattle.drive.specs.Cell.{is_sound, has_valid_key}
use Rattle.drive.specs.Meaning.{Meaning, CellsLawful, Outside, sound_at}
use Rattle.drive.specs.declared.cell.Cell.{Cell}

inside : (c : Cell) (g n : ℕ) → (eqb c.key.group g && eqb c.key.number n) ≡ true → has_valid_key c ≡ true → Outside g ⊎ Outside n → ⊥
inside c g n at named out = grind (arith, nat_tests)

nothing_outside : (g n : ℕ) (o : Option Cell) → sound_at g n o ≡ true → Outside g ⊎ Outside n → o ≡ None
nothing_outside g n None h out = refl
nothing_outside g n (Some c) h out =
    let p = and_parts (eqb c.key.group g && eqb c.key.number n) (is_sound c) h in
    absurd (inside c g n p.0 (and_parts _ _ p.1).0 out)

-- sound cells, each under its own group and number, are lawful
pub cells_lawful : (m : Meaning) → ((g n : ℕ) → sound_at g n (m.cells g n) ≡ true) → CellsLawful m
cells_lawful m h = record { sound = h; nothing = λ g n out. nothing_outside g n (m.cells g n) (h g n) out }
