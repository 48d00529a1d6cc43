-- The cells in use are those of the accepted list. Assumes nothing.
use Rattle.std.proofs.Common.{◌≡◌, ℕ, ◌<◌, Bool, true, false, ◌&&◌, eqb, List, [], ◌∷◌, length, get_or, is_ok, Some, None, Ok, Err, Option, Result, sym, refl, ap, ◌∙◌, subst, ⊎_elim, arith}
use Rattle.std.proofs.lemmas.Bool.{cond-true, cond-false, cases_Bool, and_parts, and_from, eq-eqb}
use Rattle.std.proofs.lemmas.Bool.Decides.{nat_tests}
use Rattle.std.specs.Cmp.{Equal-is}
use Rattle.std.specs.List.Sorted.{IsBinarySearchResult, IsSearchInRange}
use Rattle.std.specs.Option.{ok_or}
use Rattle.std.specs.Ordering.{is_eq}
use Rattle.std.specs.Result.{result_ok}
use Rattle.drive.specs.Cell.{is_sound}
use Rattle.drive.specs.Meaning.{sound_at}
use Rattle.drive.specs.declared.cell.Cell.{Cell}
use Rattle.drive.specs.declared.error.ChangeError.TheVariants.{NoCell}
use Rattle.drive.specs.declared.key.Key.{Key}
use Rattle.table_drive.specs.Acceptance.{acceptance, cells_rise, all_sound}
use Rattle.table_drive.specs.Key.{key, key_of, by_key}
use Rattle.table_drive.specs.Laws.{FindsItsCellsAndNothingElse, NothingElseFound}
use Rattle.table_drive.specs.Table.{cells_in_use, cells_of, cells_after, Placed}
use Rattle.table_drive.specs.declared.refusal.ListRefusal.{ListRefusal}
use Rattle.table_drive.proofs.Ascending.{ascends}
use Rattle.table_drive.proofs.Finding.{in_list, found_none, found_at}
use Rattle.table_drive.proofs.KeyOrder.{trans, itself, same, total, derived, derived_is}
use Rattle.table_drive.proofs.Searching.{located}

-- an accepted list rises
pub accepted_rises : (list : List Cell) (u : Unit {0}) → Ok u ≡ acceptance list → cells_rise list ≡ true
accepted_rises list u e = grind (arith, nat_tests)

-- in use by the answer
pub in_use_after : (r : Result Unit ListRefusal) (list : List Cell) (b : Bool) → b ≡ is_ok r → cells_in_use b list ≡ cells_after r list
in_use_after (Ok u) list b e = rw e
in_use_after (Err x) list b e = rw e

-- what is found has the key that it was looked for by
found_key : (list : List Cell) (g n : ℕ) (c : Cell) → cells_of list g n ≡ Some c → key_of c ≡ key g n
found_key [] g n c f = cc
found_key (d ∷ ds) g n c f =
    ⊎_elim
    (λ (e : is_eq (by_key (key_of d) (key g n)) ≡ true).
    let is : Some d ≡ Some c = sym (cond-true _ _ _ e) ∙ f in
    let this : d ≡ c = cc in
    ap key_of (sym this) ∙ same _ _ ((Equal-is _).0 e))
    (λ (e : is_eq (by_key (key_of d) (key g n)) ≡ false). found_key ds g n c (sym (cond-false _ _ _ e) ∙ f))
    (cases_Bool (is_eq (by_key (key_of d) (key g n))))

nothing_else : (list : List Cell) → NothingElseFound list (cells_of list)
nothing_else list g n c f =
    let k = found_key list g n c f in
    (ap (λ q. q.group) k, ap (λ q. q.number) k, in_list by_key key_of list (key g n) c f)

pub finds : (r : Result Unit ListRefusal) (list : List Cell) (b : Bool) → b ≡ is_ok r → r ≡ acceptance list → FindsItsCellsAndNothingElse r list (cells_in_use b list)
finds (Ok u) list b e is = rw e (
  λ i d h. found_at by_key key_of same itself list _ i d (ascends by_key key_of trans list (accepted_rises list u is)) h refl,
  λ g n c f. nothing_else list g n c f,
)
finds (Err x) list b e is = rw e (λ g n. refl)

-- where the library's search looks, once the list is accepted
pub placed : (b : Bool) (list : List Cell) (k : Key) (r : Result ℕ ℕ) → b ≡ true → (b ≡ true → cells_rise list ≡ true) → IsSearchInRange r (length list) → IsBinarySearchResult (λ c. derived (key_of c) k) list r → Placed b list k (result_ok r)
placed true list k r used rise within found =
    located by_key key_of total itself same list k r (ascends by_key key_of trans list (rise used)) within
    (subst (λ order. IsBinarySearchResult (λ c. order (key_of c) k) list r) derived_is found)
placed false list k r used rise within found = cc

-- no place, no cell in use
pub placed_none : (b : Bool) (list : List Cell) (k : Key) → Placed b list k None → cells_in_use b list k.group k.number ≡ None
placed_none true list k none = found_none by_key key_of same itself list k none
placed_none false list k none = refl

-- a place: the list is accepted, and the record there is the cell in use
pub record PlacedAt (b : Bool) (list : List Cell) (k : Key) (i : ℕ) : Type 0 where
  pub accepted : b ≡ true
  pub within : i < length list
  pub named : (d : Cell) → key_of (get_or list i d) ≡ k
  pub used : (d : Cell) → cells_in_use b list k.group k.number ≡ Some (get_or list i d)

pub placed_some : (b : Bool) (list : List Cell) (k : Key) (i : ℕ) → (b ≡ true → cells_rise list ≡ true) → Placed b list k (Some i) → PlacedAt b list k i
placed_some true list k i rise at = record {
  accepted = refl;
  within = at.0;
  named = at.1;
  used = λ d. found_at by_key key_of same itself list k i d (ascends by_key key_of trans list (rise refl)) at.0 (at.1 d);
}
placed_some false list k i rise at = cc

-- and where a place was asked for, and there is one
pub placed_ok : (b : Bool) (list : List Cell) (k : Key) (place : Option ℕ) (i : ℕ) → (b ≡ true → cells_rise list ≡ true) → Placed b list k place → Ok i ≡ ok_or place NoCell → PlacedAt b list k i
placed_ok b list k place i rise at is = let some : place ≡ Some i = grind (arith, is) in placed_some b list k i rise (subst (Placed b list k) some at)

key_named : (c : Cell) (g n : ℕ) → key_of c ≡ key g n → (eqb c.key.group g && eqb c.key.number n) ≡ true
key_named c g n e = and_from _ _ (eq-eqb _ _ (ap (λ k. k.group) e)) (eq-eqb _ _ (ap (λ k. k.number) e))

sound_found : (list : List Cell) (g n : ℕ) → all_sound list ≡ true → sound_at g n (cells_of list g n) ≡ true
sound_found [] g n h = refl
sound_found (c ∷ cs) g n h =
    let p = and_parts (is_sound c) (all_sound cs) h in
    ⊎_elim
    (λ (e : is_eq (by_key (key_of c) (key g n)) ≡ true).
    ap (sound_at g n) (cond-true _ (Some c) (cells_of cs g n) e) ∙ and_from _ _ (key_named c g n (same _ _ ((Equal-is _).0 e))) p.0)
    (λ (e : is_eq (by_key (key_of c) (key g n)) ≡ false).
    ap (sound_at g n) (cond-false _ (Some c) (cells_of cs g n) e) ∙ sound_found cs g n p.1)
    (cases_Bool (is_eq (by_key (key_of c) (key g n))))

-- the cells in use are sound, each under its own group and number
pub sound_in_use : (b : Bool) (list : List Cell) → (b ≡ true → all_sound list ≡ true) → (g n : ℕ) → sound_at g n (cells_in_use b list g n) ≡ true
sound_in_use true list h g n = sound_found list g n (h refl)
sound_in_use false list h g n = refl
