-- The pages of all tables are there where a new one is made: those of the others are left, and each says whose it is.
use Rattle.std.proofs.Common.{◌≡◌, ◌≢◌, ◌⊎◌, inl, inr, refl, sym, ap, ◌∙◌, subst, ◌+◌, ◌≤◌, arith, ℕ, zero, suc, Bool, true, false, List, [], ◌∷◌, ◌++◌, Some}
use Rattle.std.specs.List.{flat_map}
use Rattle.std.specs.Prelude.{if◌then◌else◌, map}
use Rattle.std.specs.Cmp.Lexicographic.{slice_cmp}
use Rattle.std.specs.Ordering.{nat_cmp}
use Rattle.std.specs.declared.cmp.Ordering.{Ordering}
use Rattle.std.specs.declared.cmp.Ordering.TheVariants.{Less, Equal, Greater}
use Rattle.mg_base.specs.Checks.{PassesAll}
use Rattle.mg_base.specs.declared.numbers.RecId.{RecId}
use Rattle.mg_base.specs.declared.transaction.TxState.{TxState}
use Rattle.mg_value.specs.declared.shape.Shape.{Shape}
use Rattle.mg_model.specs.declared.table.Index.{Index}
use Rattle.mg_model.specs.declared.table.Table.{Table}
use Rattle.mg_model.specs.Changes.{by_order}
use Rattle.mg_pointer.specs.PointerPage.{next_in, pointer_checks}
use Rattle.mg_pointer.specs.PointerPageLaws.{new_page_empty, new_page_next, new_page_passes}
use Rattle.mg_image.specs.Catalog.{catalog_table}
use Rattle.mg_image.specs.Form.{Form, Pages, Row}
use Rattle.mg_image.specs.Indexes.{AreTrees, EachPage, IsFoundIn}
use Rattle.mg_image.specs.Inventory.{is_used, last_sequence, tip_page}
use Rattle.mg_image.specs.KeptPageLaws.{table_pages_kept}
use Rattle.mg_image.specs.Reached.{linked_pages, tips_below, tips_of}
use Rattle.mg_image.specs.Records.{Reading}
use Rattle.mg_image.specs.Sound.{HasTablePages, IsSoundBy, IsTablePointer}
use Rattle.mg_image.specs.Tables.{EachStand, Has, IsOnce, Layout, LinkChain, Stand, ended, entries_in, goes, has, pages_of, stands_of, table_at as page_table, tree_pages}
use Rattle.mg_image_overlay_laws.specs.pages.Growth.{has_back, has_front}
use Rattle.mg_image_overlay_laws.specs.pages.Kinds.{HasNoSequences, linked_is, stands_linked}
use Rattle.mg_image_overlay_laws.specs.pages.Reach.{data_there, has_it, once_apart, once_back, once_front, page_there}
use Rattle.mg_image_overlay_laws.specs.tables.TableOwners.{IsOneOf}
use Rattle.mg_header.specs.HeaderPage.{header_in}
use Rattle.mg_space.specs.TakingLaws.{page_sizes}
use Rattle.mg_image_overlay_laws.specs.tables.StandOwners.{IsOwned, OwnersKeepStandsApart, first_pages, stand_owned}
use Rattle.mg_tie_laws.specs.Others.{IsLeft, IsOther}
use Rattle.mg_engine_change_laws.specs.tables.Joined.{layout_with, stands_with}
use Rattle.mg_engine_change_laws.specs.tables.JoinedBatch.{HasPages}
use Rattle.mg_engine_change_laws.specs.tables.JoinedSound.{each_stand_with}
use Rattle.mg_engine_step_laws.specs.commits.ListShows.{TipsStay}
use Rattle.mg_image_overlay_laws.specs.tables.OneTable.{stands_in}
use Rattle.mg_engine_change_laws.specs.tables.StandMade.{LeavesPages, LeftPagesAreThere, stand_at}
use Rattle.mg_image_overlay_laws.specs.pages.Trees.{HasRoots, found_still, trees_still}

-- ---- lists of stands

-- of each stand something holds, where it does by its pages
each_pages : (P Q : Stand → Type 0) (ss all : List Stand) → ((m : ℕ) → Has (flat_map pages_of ss) m
    → Has (flat_map pages_of all) m) → ((s : Stand) → ((m : ℕ) → Has (pages_of s) m → Has (flat_map pages_of all) m)
    → P s → Q s) → EachStand P ss → EachStand Q ss
each_pages P Q [] all within gives each = tt
each_pages P Q (s ∷ ss) all within gives each = (
  gives s (λ m is. within m (has_front (pages_of s) (flat_map pages_of ss) m is)) each.0,
  each_pages P Q ss all (λ m is. within m (has_back (pages_of s) (flat_map pages_of ss) m is)) gives each.1,
)

each_once : (ss : List Stand) → IsOnce (flat_map pages_of ss) → EachStand (λ s. IsOnce (pages_of s)) ss
each_once [] once = tt
each_once (s ∷ ss) once = (
  once_front (pages_of s) (flat_map pages_of ss) once,
  each_once ss (once_back (pages_of s) (flat_map pages_of ss) once),
)

-- ---- first pages

-- each table has its first page among its own
pub has_first : (in_primary : Bool) (size : ℕ) (pages : Pages) (s : Stand) → HasTablePages in_primary size pages s
    → Has (pages_of s) s.table.pointer.0
has_first in_primary size pages s its = has_front (s.pointers ++ s.data_pages) (tree_pages s.trees) s.table.pointer.0
    (has_front s.pointers s.data_pages s.table.pointer.0 (of s.table.pointer.0 s.pointers its.first its.chain))
  where
    of : (first : ℕ) (ns : List ℕ) → first ≢ 0 → LinkChain (λ n. next_in (pages n)) first ns → Has ns first
    of first ns some ended = absurd (some refl)
    of first ns some (goes n ms other more) = inl refl

firsts_there : (in_primary : Bool) (size : ℕ) (pages : Pages) (ss : List Stand)
    → EachStand (HasTablePages in_primary size pages) ss → (m : ℕ) → Has (first_pages ss) m
    → Has (flat_map pages_of ss) m
firsts_there in_primary size pages [] each m is = is
firsts_there in_primary size pages (s ∷ ss) each m (inl e) = has_front (pages_of s) (flat_map pages_of ss) m
    (subst (Has (pages_of s)) (sym e) (has_first in_primary size pages s each.0))
firsts_there in_primary size pages (s ∷ ss) each m (inr more) = has_back (pages_of s) (flat_map pages_of ss) m
    (firsts_there in_primary size pages ss each.1 m more)

firsts_once : (in_primary : Bool) (size : ℕ) (pages : Pages) (ss : List Stand)
    → EachStand (HasTablePages in_primary size pages) ss → IsOnce (flat_map pages_of ss) → IsOnce (first_pages ss)
firsts_once in_primary size pages [] each once = tt
firsts_once in_primary size pages (s ∷ ss) each once = (
  λ is. once_apart (pages_of s) (flat_map pages_of ss) s.table.pointer.0 once
      (has_first in_primary size pages s each.0) (firsts_there in_primary size pages ss each.1 s.table.pointer.0 is),
  firsts_once in_primary size pages ss each.1 (once_back (pages_of s) (flat_map pages_of ss) once),
)

-- a table more has another first page
first_among : (s : Stand) (ss : List Stand) (m : ℕ) → Has (first_pages (stands_with s ss)) m
    → (m ≡ s.table.pointer.0) ⊎ Has (first_pages ss) m
first_among s [] m (inl e) = inl e
first_among s [] m (inr none) = absurd none
first_among s (u ∷ us) m is = at (slice_cmp nat_cmp s.table.name u.table.name) (first_among s us m) is
  where
    at : (o : Ordering) → (Has (first_pages (stands_with s us)) m → (m ≡ s.table.pointer.0) ⊎ Has (first_pages us) m)
        → Has (first_pages (by_order o (s ∷ u ∷ us) (s ∷ u ∷ us) (u ∷ stands_with s us))) m
        → (m ≡ s.table.pointer.0) ⊎ Has (first_pages (u ∷ us)) m
    at Less more (inl e) = inl e
    at Less more (inr there) = inr there
    at Equal more (inl e) = inl e
    at Equal more (inr there) = inr there
    at Greater more (inl e) = inr (inl e)
    at Greater more (inr there) = by (more there)
      where
        by : (m ≡ s.table.pointer.0) ⊎ Has (first_pages us) m → (m ≡ s.table.pointer.0) ⊎ Has (first_pages (u ∷ us)) m
        by (inl e) = inl e
        by (inr deeper) = inr (inr deeper)

firsts_with : (s : Stand) (ss : List Stand) → IsOnce (first_pages ss)
    → (Has (first_pages ss) s.table.pointer.0 → ⊥) → IsOnce (first_pages (stands_with s ss))
firsts_with s [] once none = ((λ is. is), tt)
firsts_with s (u ∷ us) once none =
    at (slice_cmp nat_cmp s.table.name u.table.name) (firsts_with s us once.1 (λ is. none (inr is)))
  where
    at : (o : Ordering) → IsOnce (first_pages (stands_with s us))
        → IsOnce (first_pages (by_order o (s ∷ u ∷ us) (s ∷ u ∷ us) (u ∷ stands_with s us)))
    at Less more = (none, once)
    at Equal more = (none, once)
    at Greater more = ((λ is. by (first_among s us u.table.pointer.0 is)), more)
      where
        by : (u.table.pointer.0 ≡ s.table.pointer.0) ⊎ Has (first_pages us) u.table.pointer.0 → ⊥
        by (inl e) = none (inl (sym e))
        by (inr there) = once.0 there

-- ---- trees

roots_of : (size : ℕ) (pages : Pages) (owner : ℕ) (indexes : List Index) (trees : List (List (List ℕ)))
    → AreTrees size pages owner indexes trees → HasRoots indexes
roots_of size pages owner [] trees are = tt
roots_of size pages owner (index ∷ indexes) [] are = absurd are
roots_of size pages owner (index ∷ indexes) (levels ∷ trees) are =
    (are.0.rooted, roots_of size pages owner indexes trees are.1)

-- where the pages of tables stay, what is found in their indexes is found still
found_in : (in_primary : Bool) (size : ℕ) (old new : Pages)
    → ((m : ℕ) → is_used size old m ≡ true → is_used size new m ≡ true)
    → (ss : List Stand) → EachStand (HasTablePages in_primary size old) ss
    → ((m : ℕ) → Has (flat_map pages_of ss) m → new m ≡ old m) → (n : ℕ) (table : Table) (p : RecId) (row : Row)
    → page_table ss n ≡ Some table → IsFoundIn old table.indexes p row → IsFoundIn new table.indexes p row
found_in in_primary size old new used [] each same n table p row is found = absurd cc
found_in in_primary size old new used (s ∷ ss) each same n table p row is found = at (has s.data_pages n) is
    (λ more. found_in in_primary size old new used ss each.1
    (λ m there. same m (has_back (pages_of s) (flat_map pages_of ss) m there)) n table p row more found)
  where
    here : IsFoundIn old s.table.indexes p row → IsFoundIn new s.table.indexes p row
    here = found_still size old new s.table.pointer.0 used s.table.indexes s.trees
        (roots_of size old s.table.pointer.0 s.table.indexes s.trees each.0.trees)
        (λ m there. same m (has_front (pages_of s) (flat_map pages_of ss) m
        (has_back (s.pointers ++ s.data_pages) (tree_pages s.trees) m there))) each.0.trees p row

    at : (b : Bool) → (if b then Some s.table else page_table ss n) ≡ Some table
        → (page_table ss n ≡ Some table → IsFoundIn new table.indexes p row) → IsFoundIn new table.indexes p row
    at true some more = let one : s.table ≡ table = cc in
        subst (λ (x : Table). IsFoundIn new x.indexes p row) one
        (here (subst (λ (x : Table). IsFoundIn old x.indexes p row) (sym one) found))
    at false some more = more some

-- ---- pages of transactions

tips_same : (size : ℕ) (old new : Pages) → TipsStay size old new → (n : ℕ) → n ≤ last_sequence size new + 1
    → tips_below size new n ≡ tips_below size old n
tips_same size old new stay zero below = refl
tips_same size old new stay (suc n) below =
    let within : n ≤ last_sequence size new = omega (arith, below) in
    ap (λ (page : ℕ). page ∷ tips_below size new n) (stay n within).0
    ∙ ap (λ (ns : List ℕ). tip_page size old n ∷ ns) (tips_same size old new stay n (omega (arith, below)))

-- ---- the whole

module _ (form : Form) (none : HasNoSequences form) (apart_law : OwnersKeepStandsApart form) (size : ℕ)
    (state later : ℕ → TxState) (old new : Pages) (a c : Layout) (r rc : Reading) (name : List ℕ) (shape : Shape)
    (page : ℕ) (sound : IsSoundBy form size state old a r) (after : IsSoundBy form size later new c rc)
    (leaves : LeavesPages size old new a.catalog.table.pointer.0 page) where
  abbrev owner : ℕ
  owner = a.catalog.table.pointer.0

  abbrev stand : Stand
  stand = stand_at name shape page

  -- the catalog is the same
  cat_is : c.catalog.table ≡ a.catalog.table
  cat_is = after.catalog ∙ (ap (λ (bytes : List ℕ). catalog_table (header_in bytes).catalog.0) leaves.header
      ∙ sym sound.catalog)

  -- ---- the tables that were there

  stands_once : IsOnce (flat_map pages_of (stands_of a))
  stands_once = once_back (tips_of size old) (flat_map pages_of (stands_of a))
      (once_front (tips_of size old ++ flat_map pages_of (stands_of a)) a.sequences sound.once)

  tables_once : IsOnce (flat_map pages_of a.tables)
  tables_once = once_back (pages_of a.catalog) (flat_map pages_of a.tables) stands_once

  linked : (m : ℕ) → Has (flat_map pages_of a.tables) m → Has (linked_pages size old a) m
  linked m is = stands_linked size old a m (has_back (pages_of a.catalog) (flat_map pages_of a.tables) m is)

  -- each page is of another owner than the catalog
  each_other : (s : Stand) → ((m : ℕ) → Has (pages_of s) m → Has (flat_map pages_of a.tables) m)
      → HasTablePages form.in_primary size old s → (m : ℕ) → Has (pages_of s) m
      → IsOther size old a.catalog.table.pointer.0 m
  each_other s within its m is = record {
    used = (linked_is form size state old a r none sound m (linked m (within m is))).used;
    kind = (linked_is form size state old a r none sound m (linked m (within m is))).kind;
    owned = λ same. once_apart (pages_of a.catalog) (flat_map pages_of a.tables) a.catalog.table.pointer.0 stands_once
        (has_first form.in_primary size old a.catalog sound.tables.0)
        (subst (Has (flat_map pages_of a.tables))
        (sym (stand_owned form.in_primary size old s its m is).told ∙ same)
        (within s.table.pointer.0 (has_first form.in_primary size old s its)));
  }

  other_tables : EachStand (λ s. (m : ℕ) → Has (pages_of s) m → IsOther size old a.catalog.table.pointer.0 m) a.tables
  other_tables = each_pages (HasTablePages form.in_primary size old)
      (λ s. (m : ℕ) → Has (pages_of s) m → IsOther size old a.catalog.table.pointer.0 m) a.tables a.tables
      (λ m is. is) each_other sound.tables.1

  -- so it is as it was
  other_of : (ss : List Stand)
      → EachStand (λ s. (m : ℕ) → Has (pages_of s) m → IsOther size old a.catalog.table.pointer.0 m) ss → (m : ℕ)
      → Has (flat_map pages_of ss) m → IsOther size old a.catalog.table.pointer.0 m
  other_of [] each m is = absurd is
  other_of (s ∷ ss) each m is = at (either (pages_of s) is) (other_of ss each.1 m)
    where
      either : (ns : List ℕ) → Has (ns ++ flat_map pages_of ss) m → Has ns m ⊎ Has (flat_map pages_of ss) m
      either [] has_ = inr has_
      either (n ∷ ns) (inl e) = inl (inl e)
      either (n ∷ ns) (inr more) = by (either ns more)
        where
          by : Has ns m ⊎ Has (flat_map pages_of ss) m → Has (n ∷ ns) m ⊎ Has (flat_map pages_of ss) m
          by (inl there) = inl (inr there)
          by (inr there) = inr there

      at : Has (pages_of s) m ⊎ Has (flat_map pages_of ss) m
          → (Has (flat_map pages_of ss) m → IsOther size old a.catalog.table.pointer.0 m)
          → IsOther size old a.catalog.table.pointer.0 m
      at (inl here_) more = each.0 m here_
      at (inr there) more = more there

  table_page : (m : ℕ) → Has (flat_map pages_of a.tables) m → IsLeft size old new a.catalog.table.pointer.0 m
  table_page m is = leaves.left m (other_of a.tables other_tables m is)

  tables_there : EachStand (HasTablePages form.in_primary size new) a.tables
  tables_there = each_pages (HasTablePages form.in_primary size old) (HasTablePages form.in_primary size new) a.tables
      a.tables (λ m is. is) (λ s within its. kept s its (λ m is. (table_page m (within m is)).same)) sound.tables.1
    where
      kept : (s : Stand) → HasTablePages form.in_primary size old s
          → ((m : ℕ) → Has (pages_of s) m → new m ≡ old m) → HasTablePages form.in_primary size new s
      kept s its same = table_pages_kept form.in_primary size old new s (record {
        pointers = λ n is. same n (has_front (s.pointers ++ s.data_pages) (tree_pages s.trees) n
            (has_front s.pointers s.data_pages n is));
        data_pages = λ n is. same n (data_there s n is);
        used = leaves.used;
        trees = trees_still size old new s.table.pointer.0 leaves.used s.table.indexes s.trees
            (roots_of size old s.table.pointer.0 s.table.indexes s.trees its.trees)
            (λ n is. same n (has_back (s.pointers ++ s.data_pages) (tree_pages s.trees) n is)) its.trees;
      }) its

  -- ---- the new one

  page_pointer : IsTablePointer size new page 0 page
  page_pointer = record {
    below = leaves.below;
    used = leaves.other.used;
    fields = subst (λ (bytes : List ℕ). PassesAll (pointer_checks bytes page page 0)) (sym leaves.made)
        (new_page_passes size page page 0 (omega (arith, (page_sizes size sound.header.lawful_size).0))
        (omega (arith, leaves.below)) (omega (arith, leaves.below)) (omega arith));
  }

  stand_there : HasTablePages form.in_primary size new (stand_at name shape page)
  stand_there = record {
    first = leaves.some;
    chain = goes page [] leaves.some chain_end;
    entries = sym empty;
    pointers = (page_pointer, tt);
    data_pages = tt;
    trees = tt;
  }
    where
      next_none : next_in (new page) ≡ 0
      next_none = ap next_in leaves.made ∙ new_page_next size page page 0

      chain_end : LinkChain (λ n. next_in (new n)) (next_in (new page)) []
      chain_end = subst (λ (k : ℕ). LinkChain (λ n. next_in (new n)) k []) (sym next_none) ended

      empty : entries_in new (page ∷ []) ≡ []
      empty = rw (leaves.made, new_page_empty size page page 0) refl

  -- ---- none is twice

  stands_there : EachStand (HasTablePages form.in_primary size new) (stands_of (layout_with a c stand))
  stands_there = (
    after.tables.0,
    each_stand_with (HasTablePages form.in_primary size new) stand a.tables stand_there
        tables_there,
  )

  all_once : EachStand (λ s. IsOnce (pages_of s)) (stands_of (layout_with a c stand))
  all_once = (
    once_front (pages_of c.catalog) (flat_map pages_of c.tables)
        (once_back (tips_of size new) (flat_map pages_of (stands_of c))
        (once_front (tips_of size new ++ flat_map pages_of (stands_of c)) c.sequences after.once)),
    each_stand_with (λ s. IsOnce (pages_of s)) stand a.tables ((λ is. is), tt) (each_once a.tables tables_once),
  )

  not_first : Has (first_pages a.tables) page → ⊥
  not_first is =
      let there = linked page (firsts_there form.in_primary size old a.tables sound.tables.1 page is) in
      let both : true ≡ false = sym (linked_is form size state old a r none sound page there).used ∙ leaves.was_free
      in absurd cc

  firsts : IsOnce (first_pages (stands_of (layout_with a c stand)))
  firsts = (
    λ is. by (first_among stand a.tables c.catalog.table.pointer.0 is),
    firsts_with stand a.tables (firsts_once form.in_primary size old a.tables sound.tables.1 tables_once) not_first,
  )
    where
      first_is : c.catalog.table.pointer.0 ≡ a.catalog.table.pointer.0
      first_is = ap (λ (x : Table). x.pointer.0) cat_is

      page_owned : IsOwned new page page
      page_owned = stand_owned form.in_primary size new (stand_at name shape page) stand_there page (inl refl)

      by : (c.catalog.table.pointer.0 ≡ page) ⊎ Has (first_pages a.tables) c.catalog.table.pointer.0 → ⊥
      by (inl same) = leaves.other.owned (page_owned.told ∙ (sym same ∙ first_is))
      by (inr there) = once_apart (pages_of a.catalog) (flat_map pages_of a.tables) a.catalog.table.pointer.0 stands_once
          (has_first form.in_primary size old a.catalog sound.tables.0)
          (firsts_there form.in_primary size old a.tables sound.tables.1 a.catalog.table.pointer.0
          (subst (Has (first_pages a.tables)) first_is there))

  no_sequences : c.sequences ≡ []
  no_sequences = at c.sequences after.sequences
    where
      at : (ns : List ℕ) → EachPage (λ n. form.sequence_page (new n) n) ns → ns ≡ []
      at [] each = refl
      at (n ∷ ns) each = absurd (none (new n) n each.0)

  whole_once : IsOnce (linked_pages size new (layout_with a c stand))
  whole_once = apart_law size new (layout_with a c stand) after.transactions
      (once_front (tips_of size new) (flat_map pages_of (stands_of c))
      (once_front (tips_of size new ++ flat_map pages_of (stands_of c)) c.sequences after.once))
      no_sequences stands_there all_once firsts

  -- ---- data pages

  apart_from_catalog : (n : ℕ) (table : Table) → page_table a.tables n ≡ Some table → has c.catalog.data_pages n ≡ false
  apart_from_catalog n table is = at (has c.catalog.data_pages n) refl
    where
      at : (b : Bool) → has c.catalog.data_pages n ≡ b → has c.catalog.data_pages n ≡ false
      at false off = off
      at true on = absurd ((table_page n (page_there a.tables n table is)).other.owned
          ((stand_owned form.in_primary size new c.catalog after.tables.0 n
          (data_there c.catalog n (has_it c.catalog.data_pages n on))).told
          ∙ ap (λ (x : Table). x.pointer.0) cat_is))

  pub pages_are_there : HasPages form size old new a c (stand_at name shape page)
  pages_are_there = record {
    tables_pages = tables_there;
    stand_pages = stand_there;
    empty = refl;
    once = whole_once;
    left = λ n table is. (table_page n (page_there a.tables n table is)).same;
    apart = apart_from_catalog;
    found = λ p table row is. found_in form.in_primary size old new leaves.used a.tables sound.tables.1
        (λ m there. (table_page m there).same) p.page.0 table p row is;
  }

pub left_pages_are_there : (form : Form) → HasNoSequences form → OwnersKeepStandsApart form → LeftPagesAreThere form
left_pages_are_there form none apart size state later old new a c r rc name shape page sound after leaves =
    pages_are_there form none apart size state later old new a c r rc name shape page sound after leaves
