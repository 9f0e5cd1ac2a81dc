-- Laws of the walk from a record to the next one: where a table's pointer pages are whole, it goes along
-- the data pages that they list.
use Rattle.std.specs.Prelude.{◌≡◌, ◌<◌, ◌≤◌, ◌+◌, ◌-◌, ◌⊎◌, ℕ, zero, suc, Bool, List, [], ◌∷◌, Option, None, Some, length, drop}
use Rattle.std.proofs.Common.{refl, sym, ap, subst, ◌∙◌, arith, add-one, inl, inr, get_or, cond}
use Rattle.std.proofs.lemmas.Bool.{eq-eqb, ne_eqb}
use Rattle.std.proofs.lemmas.List.{drop_all, drop_more}
use Rattle.mg_base.specs.declared.numbers.PageNo.{PageNo}
use Rattle.mg_base.specs.declared.numbers.RecId.{RecId}
use Rattle.mg_image.specs.Form.{Pages}
use Rattle.mg_image.specs.Tables.{Has, IsOnce}
use Rattle.mg_heap.specs.Places.{FindsPlace}
use Rattle.mg_heap.specs.PlacesLaws.{none_there, place_there}
use Rattle.mg_heap.specs.Reading.{sequence_in}
use Rattle.mg_heap.specs.Table.{IsTable}
use Rattle.mg_heap.specs.Walk.{AreEmpty, GivesAt, GivesFrom, GivesNext, IsNext, IsNextIn, behind}

-- a number that a list has at a place is one of the list
pub has_at : (ns : List ℕ) (place : ℕ) → place < length ns → Has ns (get_or ns place 0)
has_at [] place inside = absurd (omega (arith, inside))
has_at (n ∷ ns) zero inside = inl refl
has_at (n ∷ ns) (suc place) inside = inr (has_at ns place (omega (arith, inside)))

-- where no number stands twice, those behind a number are those behind its place
pub behind_place : (ns : List ℕ) (place : ℕ) → IsOnce ns → place < length ns
    → behind ns (get_or ns place 0) ≡ drop (suc place) ns
behind_place [] place once inside = absurd (omega (arith, inside))
behind_place (n ∷ ns) zero once inside =
    ap (λ (c : Bool). cond c ns (behind ns n)) (eq-eqb n n refl)
behind_place (n ∷ ns) (suc place) once inside =
    ap (λ (c : Bool). cond c ns (behind ns (get_or ns place 0))) (ne_eqb n (get_or ns place 0)
    (λ same. once.0 (subst (Has ns) (sym same) (has_at ns place (omega (arith, inside))))))
    ∙ behind_place ns place once.1 (omega (arith, inside))

module _ (pages : Pages) (owner : ℕ) (pointers data_pages : List ℕ)
    (table : IsTable pages owner pointers data_pages) where
  opens : (place : ℕ) (page : PageNo) → FindsPlace pages owner place (Some page)
      → drop place data_pages ≡ page.0 ∷ drop (place + 1) data_pages
  opens place page it =
      let there = place_there pages owner pointers data_pages table place page it in
      drop_more data_pages place 0 there.0
      ∙ ap (λ (n : ℕ). n ∷ drop (place + 1) data_pages) there.1

  -- on the page of a place
  given_at : (place : ℕ) (found : Option RecId) → GivesAt pages owner place found
      → IsNextIn pages (drop place data_pages) 0 found
  given_at place None it = subst (λ (ns : List ℕ). IsNextIn pages ns 0 None)
      (sym (drop_all place data_pages (none_there pages owner pointers data_pages table place it))) refl
  given_at place (Some x) (page, it, first) = subst (λ (ns : List ℕ). IsNextIn pages ns 0 (Some x))
      (sym (opens place page it)) (inl (x, refl, first))

  -- behind empty ones
  pub behind_empty : (count start : ℕ) (found : Option RecId) → AreEmpty pages owner start (count + start)
      → IsNextIn pages (drop (count + start) data_pages) 0 found
      → IsNextIn pages (drop start data_pages) 0 found
  behind_empty zero start found empty later =
      subst (λ (k : ℕ). IsNextIn pages (drop k data_pages) 0 found) (nothing start) later
    where
      nothing : (k : ℕ) → 0 + k ≡ k
      nothing k = omega arith
  behind_empty (suc count) start found empty later =
      let here = empty start (omega arith) (omega arith) in
      subst (λ (ns : List ℕ). IsNextIn pages ns 0 found) (sym (opens start here.page here.found))
      (inr (
        here.none,
        behind_empty count (start + 1) found
            (λ place from before. empty place (omega (arith, from)) (omega (arith, before)))
            (subst (λ (k : ℕ). IsNextIn pages (drop k data_pages) 0 found) (further count start) later),
      ))
    where
      further : (k l : ℕ) → suc k + l ≡ k + (l + 1)
      further k l = omega arith

  pub given_from : (start : ℕ) (found : Option RecId) → GivesFrom pages owner start found
      → IsNextIn pages (drop start data_pages) 0 found
  given_from start found it = behind_empty (it.place - start) start found
      (subst (AreEmpty pages owner start) there it.empty)
      (subst (λ (k : ℕ). IsNextIn pages (drop k data_pages) 0 found) there
      (given_at it.place found it.gives))
    where
      there : it.place ≡ (it.place - start) + start
      there = let from = it.from in omega (arith, from)

  -- In a table that lists no data page twice the record that is given behind another is the next one in
  -- the order of the list.
  pub gives_in_table : (after found : Option RecId) → IsOnce data_pages
      → GivesNext pages owner after found → IsNext pages data_pages after found
  gives_in_table None found once gives = given_from 0 found gives
  gives_in_table (Some x) found once (inl here) = inl here
  gives_in_table (Some x) found once (inr (none, behind_it)) =
      let there = place_there pages owner pointers data_pages table (sequence_in (pages x.page.0)) x.page
      behind_it.listed in
      inr (
        none,
        subst (λ (ns : List ℕ). IsNextIn pages ns 0 found)
            (sym (ap (behind data_pages) (sym there.1)
            ∙ (behind_place data_pages (sequence_in (pages x.page.0)) once there.0
            ∙ ap (λ (k : ℕ). drop k data_pages) (sym (add-one (sequence_in (pages x.page.0)))))))
            (given_from (sequence_in (pages x.page.0) + 1) found behind_it.gives),
      )
