-- Layouts with other index trees: tables, owners and the pages of tables stay.
use Rattle.std.proofs.Common.{◌≡◌, ◌⊎◌, inl, inr, refl, ap, ℕ, List, [], ◌∷◌, ◌++◌, Option, Some}
use Rattle.std.specs.Prelude.{if◌then◌else◌, map}
use Rattle.mg_image.specs.Tables.{Has, Layout, Stand, has, stands_of, table_at}
use Rattle.mg_image_overlay_laws.specs.pages.Growth.{has_back, has_either, has_front}
use Rattle.mg_image_overlay_laws.specs.kept.KeptImages.{AreFrontStands, all_trees}
use Rattle.mg_image_overlay_laws.specs.pages.Kinds.{pointers_of}
use Rattle.mg_image_overlay_laws.specs.pages.Reach.{front_has}
use Rattle.mg_model.specs.declared.table.Table.{Table}
use Rattle.mg_entry_overlay_laws.specs.Retreed.{Trees, held_pages, retree, retreed}

pub tables_same : (ss : List Stand) (ts : List Trees)
    → map (λ (s : Stand). s.table) (retree ss ts) ≡ map (λ (s : Stand). s.table) ss
tables_same [] ts = refl
tables_same (s ∷ ss) [] = ap (λ (xs : List Table). s.table ∷ xs) (tables_same ss [])
tables_same (s ∷ ss) (t ∷ ts) = ap (λ (xs : List Table). s.table ∷ xs) (tables_same ss ts)

pub owner_same : (ss : List Stand) (ts : List Trees) (n : ℕ) → table_at (retree ss ts) n ≡ table_at ss n
owner_same [] ts n = refl
owner_same (s ∷ ss) [] n =
    ap (λ (x : Option Table). if has s.data_pages n then Some s.table else x) (owner_same ss [] n)
owner_same (s ∷ ss) (t ∷ ts) n =
    ap (λ (x : Option Table). if has s.data_pages n then Some s.table else x) (owner_same ss ts n)

pub held_same : (ss : List Stand) (ts : List Trees) → held_pages (retree ss ts) ≡ held_pages ss
held_same [] ts = refl
held_same (s ∷ ss) [] = ap (λ (ns : List ℕ). (s.pointers ++ s.data_pages) ++ ns) (held_same ss [])
held_same (s ∷ ss) (t ∷ ts) = ap (λ (ns : List ℕ). (s.pointers ++ s.data_pages) ++ ns) (held_same ss ts)

-- with the trees that they have they are the same
pub retree_self : (ss : List Stand) → retree ss (all_trees ss) ≡ ss
retree_self [] = refl
retree_self (s ∷ ss) = ap (λ (others : List Stand). s ∷ others) (retree_self ss)

-- ---- stands behind others

pub fronts_retreed : (is ps : List Stand) (a b : List Trees) → AreFrontStands is ps
    → AreFrontStands (retree is a) (retree ps b)
fronts_retreed [] [] a b fronts = tt
fronts_retreed [] (p ∷ ps) a b fronts = absurd fronts
fronts_retreed (i ∷ is) [] a b fronts = absurd fronts
fronts_retreed (i ∷ is) (p ∷ ps) [] [] fronts = (
  record { table = fronts.0.table; pointers = fronts.0.pointers; data_pages = fronts.0.data_pages },
  fronts_retreed is ps [] [] fronts.1,
)
fronts_retreed (i ∷ is) (p ∷ ps) [] (b ∷ bs) fronts = (
  record { table = fronts.0.table; pointers = fronts.0.pointers; data_pages = fronts.0.data_pages },
  fronts_retreed is ps [] bs fronts.1,
)
fronts_retreed (i ∷ is) (p ∷ ps) (a ∷ others) [] fronts = (
  record { table = fronts.0.table; pointers = fronts.0.pointers; data_pages = fronts.0.data_pages },
  fronts_retreed is ps others [] fronts.1,
)
fronts_retreed (i ∷ is) (p ∷ ps) (a ∷ others) (b ∷ bs) fronts = (
  record { table = fronts.0.table; pointers = fronts.0.pointers; data_pages = fronts.0.data_pages },
  fronts_retreed is ps others bs fronts.1,
)

pub pointers_same : (ss : List Stand) (ts : List Trees) → pointers_of (retree ss ts) ≡ pointers_of ss
pointers_same [] ts = refl
pointers_same (s ∷ ss) [] = ap (λ (ns : List ℕ). s.pointers ++ ns) (pointers_same ss [])
pointers_same (s ∷ ss) (t ∷ ts) = ap (λ (ns : List ℕ). s.pointers ++ ns) (pointers_same ss ts)

pub pointer_held : (ss : List Stand) (m : ℕ) → Has (pointers_of ss) m → Has (held_pages ss) m
pointer_held [] m is = is
pointer_held (s ∷ ss) m is = at (has_either s.pointers (pointers_of ss) m is) (pointer_held ss m)
  where
    at : Has s.pointers m ⊎ Has (pointers_of ss) m → (Has (pointers_of ss) m → Has (held_pages ss) m)
        → Has (held_pages (s ∷ ss)) m
    at (inl a) more = has_front (s.pointers ++ s.data_pages) (held_pages ss) m (has_front s.pointers s.data_pages m a)
    at (inr b) more = has_back (s.pointers ++ s.data_pages) (held_pages ss) m (more b)

-- the pointer pages of tables that are behind others are held by those
pub front_held : (ss os : List Stand) → AreFrontStands ss os → (m : ℕ) → Has (pointers_of ss) m → Has (held_pages os) m
front_held [] os fronts m is = absurd is
front_held (a ∷ ss) [] fronts m is = absurd fronts
front_held (a ∷ ss) (b ∷ os) fronts m is =
    at (has_either a.pointers (pointers_of ss) m is) (front_held ss os fronts.1 m)
  where
    at : Has a.pointers m ⊎ Has (pointers_of ss) m → (Has (pointers_of ss) m → Has (held_pages os) m)
        → Has (held_pages (b ∷ os)) m
    at (inl first_) more = has_front (b.pointers ++ b.data_pages) (held_pages os) m
        (has_front b.pointers b.data_pages m (front_has a.pointers b.pointers m fronts.0.pointers first_))
    at (inr rest_) more = has_back (b.pointers ++ b.data_pages) (held_pages os) m (more rest_)

abbrev pub first_of : List Trees → Trees
first_of [] = []
first_of (t ∷ ts) = t

abbrev pub rest_of : List Trees → List Trees
rest_of [] = []
rest_of (t ∷ ts) = ts

pub as_retreed : (layout : Layout) (ts : List Trees)
    → stands_of (retreed layout (first_of ts) (rest_of ts)) ≡ retree (stands_of layout) ts
as_retreed layout [] = refl
as_retreed layout (t ∷ ts) = refl
