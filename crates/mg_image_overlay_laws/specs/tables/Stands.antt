-- Stands with one name, one first page: their pages are the same; stands with two names have none in common.
use Rattle.mg_base.specs.declared.numbers.PageNo.{PageNo}
use Rattle.mg_image.specs.Form.{Pages}
use Rattle.mg_image.specs.Sound.{HasTablePages}
use Rattle.mg_image.specs.Tables.{EachStand, Has, HasStand, IsOnce, PointerChain, Stand, entries_in, has, pages_of, table_at, tree_pages}
use Rattle.mg_image_overlay_laws.specs.pages.Growth.{has_back, has_either, has_front}
use Rattle.mg_image_overlay_laws.specs.pages.Kinds.{pointers_of}
use Rattle.mg_image_overlay_laws.specs.pages.Reach.{has_it, once_apart, once_back}
use Rattle.mg_model.specs.declared.table.Table.{Table}
use Rattle.mg_image_overlay_laws.specs.tables.OneChain.{link_once}
use Rattle.mg_pointer.specs.PointerPage.{next_in}
use Rattle.std.proofs.Common.{Bool, List, Some, [], ap, false, inl, inr, refl, subst, sym, true, ℕ, ◌++◌, ◌∙◌, ◌∷◌, ◌≡◌, ◌≢◌, ◌⊎◌}
use Rattle.std.specs.List.{flat_map}
use Rattle.std.specs.Prelude.{if◌then◌else◌}

-- each of these stands has it, so one of them does
pub stand_has : (P : Stand → Type 0) (stands : List Stand) (s : Stand) → EachStand P stands
    → HasStand stands s → P s
stand_has P [] s each is = absurd is
stand_has P (x ∷ stands) s each (inl e) = subst P (sym e) each.0
stand_has P (x ∷ stands) s each (inr more) = stand_has P stands s each.1 more

pub stand_pages : (stands : List Stand) (s : Stand) (m : ℕ) → HasStand stands s → Has (pages_of s) m
    → Has (flat_map pages_of stands) m
stand_pages [] s m is there = absurd is
stand_pages (x ∷ stands) s m (inl e) there = has_front (pages_of x) (flat_map pages_of stands) m
    (subst (λ (y : Stand). Has (pages_of y) m) e there)
stand_pages (x ∷ stands) s m (inr more) there = has_back (pages_of x) (flat_map pages_of stands) m
    (stand_pages stands s m more there)

-- two stands with two names share no page
pub stands_apart : (stands : List Stand) → IsOnce (flat_map pages_of stands) → (a b : Stand) (m : ℕ)
    → HasStand stands a → HasStand stands b → a.table.name ≢ b.table.name → Has (pages_of a) m
    → Has (pages_of b) m → ⊥
stands_apart [] once a b m is also ne here_ there = absurd is
stands_apart (x ∷ stands) once a b m (inl e) (inl k) ne here_ there =
    ne (ap (λ (s : Stand). s.table.name) (e ∙ sym k))
stands_apart (x ∷ stands) once a b m (inl e) (inr more) ne here_ there =
    once_apart (pages_of x) (flat_map pages_of stands) m once
    (subst (λ (y : Stand). Has (pages_of y) m) e here_) (stand_pages stands b m more there)
stands_apart (x ∷ stands) once a b m (inr more) (inl k) ne here_ there =
    once_apart (pages_of x) (flat_map pages_of stands) m once
    (subst (λ (y : Stand). Has (pages_of y) m) k there) (stand_pages stands a m more here_)
stands_apart (x ∷ stands) once a b m (inr more) (inr others) ne here_ there =
    stands_apart stands (once_back (pages_of x) (flat_map pages_of stands) once) a b m more others ne here_
    there

pub pointer_page : (s : Stand) (m : ℕ) → Has s.pointers m → Has (pages_of s) m
pointer_page s m is = has_front (s.pointers ++ s.data_pages) (tree_pages s.trees) m
    (has_front s.pointers s.data_pages m is)

-- whose pointer page it is, and whose data page
pub pointer_stand : (stands : List Stand) (m : ℕ) → Has (pointers_of stands) m
    → (s : Stand) × HasStand stands s × Has s.pointers m
pointer_stand [] m is = absurd is
pointer_stand (x ∷ stands) m is = at (has_either x.pointers (pointers_of stands) m is)
    (λ more. pointer_stand stands m more)
  where
    at : Has x.pointers m ⊎ Has (pointers_of stands) m
        → (Has (pointers_of stands) m → (s : Stand) × HasStand stands s × Has s.pointers m)
        → (s : Stand) × HasStand (x ∷ stands) s × Has s.pointers m
    at (inl first) more = (x, inl refl, first)
    at (inr rest) more = let (s, in_rest, there) = more rest in (s, inr in_rest, there)

pub data_stand : (stands : List Stand) (m : ℕ) (table : Table) → table_at stands m ≡ Some table
    → (s : Stand) × HasStand stands s × Has s.data_pages m
data_stand [] m table is = absurd cc
data_stand (x ∷ stands) m table is = at (has x.data_pages m) refl is
    (λ more. data_stand stands m table more)
  where
    at : (c : Bool) → has x.data_pages m ≡ c
        → (if c then Some x.table else table_at stands m) ≡ Some table
        → (table_at stands m ≡ Some table → (s : Stand) × HasStand stands s × Has s.data_pages m)
        → (s : Stand) × HasStand (x ∷ stands) s × Has s.data_pages m
    at true in_it is_ more = (x, inl refl, has_it x.data_pages m in_it)
    at false out is_ more = let (s, in_rest, there) = more is_ in (s, inr in_rest, there)

-- Two stands of one name have the same pages of pointers and of data.
pub record IsTwin (a b : Stand) : Type 0 where
  pub name : b.table.name ≡ a.table.name
  pub pointers : b.pointers ≡ a.pointers
  pub data_pages : b.data_pages ≡ a.data_pages

pub twin_of : (in_primary : Bool) (size : ℕ) (pages : Pages) (a b : Stand)
    → HasTablePages in_primary size pages a → HasTablePages in_primary size pages b
    → b.table.name ≡ a.table.name → b.table.pointer ≡ a.table.pointer → IsTwin a b
twin_of in_primary size pages a b first second name pointer = record {
  name = name;
  pointers = chains;
  data_pages = second.entries ∙ (ap (entries_in pages) chains ∙ sym first.entries);
}
  where
    chains : b.pointers ≡ a.pointers
    chains = link_once (λ n. next_in (pages n)) a.table.pointer.0 b.pointers a.pointers
        (subst (λ (k : PageNo). PointerChain pages k.0 b.pointers) pointer second.chain) first.chain
