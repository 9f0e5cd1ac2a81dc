-- The tables that are left stand as they did where pages change on data pages of the catalog alone.
use Rattle.std.proofs.Common.{◌≡◌, inl, inr, refl, sym, ap, ◌∙◌, subst, ℕ, Bool, true, false, List, [], ◌∷◌, ◌++◌, Some}
use Rattle.std.specs.Prelude.{if◌then◌else◌}
use Rattle.std.specs.List.{flat_map}
use Rattle.mg_base.specs.declared.transaction.TxState.{TxState}
use Rattle.mg_value.specs.declared.value.Value.{Value}
use Rattle.mg_model.specs.declared.table.Table.{Table}
use Rattle.mg_model.specs.Catalog.{table_key}
use Rattle.mg_image.specs.Form.{Form, Pages}
use Rattle.mg_image.specs.Indexes.{AreTrees}
use Rattle.mg_image.specs.KeptPageLaws.{table_pages_kept}
use Rattle.mg_image.specs.Reached.{linked_pages, tips_of}
use Rattle.mg_image.specs.Records.{Reading}
use Rattle.mg_image.specs.Sound.{HasTablePages, IsSoundBy, facts_by}
use Rattle.mg_image.specs.Tables.{EachStand, Has, IsOnce, Layout, Stand, has, pages_of, stands_of, table_at, tree_pages}
use Rattle.mg_image_overlay_laws.specs.pages.Growth.{has_back, has_front}
use Rattle.mg_image_overlay_laws.specs.pages.Reach.{data_there, has_it, once_apart, once_back, once_front, page_there}
use Rattle.mg_engine_step_laws.specs.tables_back.Taken.{LeavesTables, TakesBack, TakesRows, layout_left, stands_left}

-- ---- a list without some of its numbers

data IsPart : List ℕ → List ℕ → Type 0 where
  ended : IsPart [] []
  kept : (n : ℕ) (ms ns : List ℕ) → IsPart ms ns → IsPart (n ∷ ms) (n ∷ ns)
  out : (n : ℕ) (ms ns : List ℕ) → IsPart ms ns → IsPart ms (n ∷ ns)

part_has : (ms ns : List ℕ) → IsPart ms ns → (n : ℕ) → Has ms n → Has ns n
part_has ms ns ended n is = is
part_has ms ns (kept m js ks part) n (inl same) = inl same
part_has ms ns (kept m js ks part) n (inr more) = inr (part_has js ks part n more)
part_has ms ns (out m js ks part) n is = inr (part_has js ks part n is)

part_once : (ms ns : List ℕ) → IsPart ms ns → IsOnce ns → IsOnce ms
part_once ms ns ended once = tt
part_once ms ns (kept m js ks part) once = ((λ is. once.0 (part_has js ks part m is)), part_once js ks part once.1)
part_once ms ns (out m js ks part) once = part_once js ks part once.1

part_self : (ns : List ℕ) → IsPart ns ns
part_self [] = ended
part_self (n ∷ ns) = kept n ns ns (part_self ns)

part_behind : (xs ms ns : List ℕ) → IsPart ms ns → IsPart (xs ++ ms) (xs ++ ns)
part_behind [] ms ns part = part
part_behind (x ∷ xs) ms ns part = kept x (xs ++ ms) (xs ++ ns) (part_behind xs ms ns part)

part_front : (ms ns xs : List ℕ) → IsPart ms ns → IsPart (ms ++ xs) (ns ++ xs)
part_front ms ns xs ended = part_self xs
part_front ms ns xs (kept m js ks part) = kept m (js ++ xs) (ks ++ xs) (part_front js ks xs part)
part_front ms ns xs (out m js ks part) = out m (js ++ xs) (ks ++ xs) (part_front js ks xs part)

part_out : (xs ms ns : List ℕ) → IsPart ms ns → IsPart ms (xs ++ ns)
part_out [] ms ns part = part
part_out (x ∷ xs) ms ns part = out x ms (xs ++ ns) (part_out xs ms ns part)

-- ---- stands

stands_part : (gone : Value → Bool) (ss : List Stand)
    → IsPart (flat_map pages_of (stands_left gone ss)) (flat_map pages_of ss)
stands_part gone [] = ended
stands_part gone (s ∷ ss) = at (gone (table_key s.table.name)) (stands_part gone ss)
  where
    at : (b : Bool) → IsPart (flat_map pages_of (stands_left gone ss)) (flat_map pages_of ss)
        → IsPart (flat_map pages_of (if b then stands_left gone ss else s ∷ stands_left gone ss))
        (pages_of s ++ flat_map pages_of ss)
    at true part = part_out (pages_of s) (flat_map pages_of (stands_left gone ss)) (flat_map pages_of ss) part
    at false part = part_behind (pages_of s) (flat_map pages_of (stands_left gone ss)) (flat_map pages_of ss) part

each_stand_left : (gone : Value → Bool) (P : Stand → Type 0) (ss : List Stand) → EachStand P ss
    → EachStand P (stands_left gone ss)
each_stand_left gone P [] each = tt
each_stand_left gone P (s ∷ ss) each = at (gone (table_key s.table.name)) (each_stand_left gone P ss each.1)
  where
    at : (b : Bool) → EachStand P (stands_left gone ss)
        → EachStand P (if b then stands_left gone ss else s ∷ stands_left gone ss)
    at true more = more
    at false more = (each.0, more)

-- a page of a table that is left was one of that table's
left_was : (gone : Value → Bool) (ss : List Stand) → IsOnce (flat_map pages_of ss) → (n : ℕ) (table : Table)
    → table_at (stands_left gone ss) n ≡ Some table → table_at ss n ≡ Some table
left_was gone [] once n table is = is
left_was gone (s ∷ ss) once n table is = at (gone (table_key s.table.name)) is
    (left_was gone ss (once_back (pages_of s) (flat_map pages_of ss) once) n table)
  where
    at : (b : Bool) → table_at (if b then stands_left gone ss else s ∷ stands_left gone ss) n ≡ Some table
        → (table_at (stands_left gone ss) n ≡ Some table → table_at ss n ≡ Some table)
        → (if has s.data_pages n then Some s.table else table_at ss n) ≡ Some table
    at true is_ more = by (has s.data_pages n) refl
      where
        by : (d : Bool) → has s.data_pages n ≡ d → (if d then Some s.table else table_at ss n) ≡ Some table
        by true here = absurd (once_apart (pages_of s) (flat_map pages_of ss) n once
            (data_there s n (has_it s.data_pages n here)) (page_there ss n table (more is_)))
        by false out_ = more is_
    at false is_ more = by (has s.data_pages n) is_
      where
        by : (d : Bool) → (if d then Some s.table else table_at (stands_left gone ss) n) ≡ Some table
            → (if d then Some s.table else table_at ss n) ≡ Some table
        by true here = here
        by false out_ = more out_

each_both : (P Q : Stand → Type 0) (ss : List Stand) → EachStand P ss → EachStand Q ss → EachStand (λ s. P s × Q s) ss
each_both P Q [] first second = tt
each_both P Q (s ∷ ss) first second = ((first.0, second.0), each_both P Q ss first.1 second.1)

each_gives : (P Q : Stand → Type 0) (ss : List Stand)
    → ((s : Stand) → ((m : ℕ) → Has (pages_of s) m → Has (flat_map pages_of ss) m) → P s → Q s) → EachStand P ss
    → EachStand Q ss
each_gives P Q [] gives each = tt
each_gives P Q (s ∷ ss) gives each = (
  gives s (λ m is. has_front (pages_of s) (flat_map pages_of ss) m is) each.0,
  each_gives P Q ss
      (λ u within. gives u (λ m is. has_back (pages_of s) (flat_map pages_of ss) m (within m is))) each.1,
)

-- ---- the law

module _ (form : Form) (size : ℕ) (now : ℕ → TxState) (t : ℕ) (old new : Pages) (a c : Layout) (r rc : Reading)
    (gone : Value → Bool) (before : IsSoundBy form size now old a r) (leaves : LeavesTables size old new a c)
    (rows : TakesRows t a (facts_by now old a) r rc gone) where
  stands_once : IsOnce (flat_map pages_of (stands_of a))
  stands_once = once_back (tips_of size old) (flat_map pages_of (stands_of a))
      (once_front (tips_of size old ++ flat_map pages_of (stands_of a)) a.sequences before.once)

  tables_once : IsOnce (flat_map pages_of a.tables)
  tables_once = once_back (pages_of a.catalog) (flat_map pages_of a.tables) stands_once

  -- a page of a table is none of the catalog's
  off : (m : ℕ) → Has (flat_map pages_of a.tables) m → has a.catalog.data_pages m ≡ false
  off m is = at (has a.catalog.data_pages m) refl
    where
      at : (b : Bool) → has a.catalog.data_pages m ≡ b → has a.catalog.data_pages m ≡ false
      at true here = absurd (once_apart (pages_of a.catalog) (flat_map pages_of a.tables) m stands_once
          (data_there a.catalog m (has_it a.catalog.data_pages m here)) is)
      at false out_ = out_

  stands : (n : ℕ) (table : Table) → table_at (stands_left gone a.tables) n ≡ Some table
      → table_at a.tables n ≡ Some table
  stands n table is = left_was gone a.tables tables_once n table is

  same : (n : ℕ) → has c.catalog.data_pages n ≡ has a.catalog.data_pages n
  same n = ap (λ (s : Stand). has s.data_pages n) leaves.catalog

  its_off : (n : ℕ) (table : Table) → table_at (stands_left gone a.tables) n ≡ Some table
      → has a.catalog.data_pages n ≡ false
  its_off n table is = off n (page_there a.tables n table (stands n table is))

  tables_there : EachStand (HasTablePages form.in_primary size new) a.tables
  tables_there = each_gives
      (λ s. HasTablePages form.in_primary size old s
      × AreTrees size new s.table.pointer.0 s.table.indexes s.trees)
      (HasTablePages form.in_primary size new) a.tables kept_of
      (each_both (HasTablePages form.in_primary size old)
      (λ s. AreTrees size new s.table.pointer.0 s.table.indexes s.trees) a.tables before.tables.1
      leaves.trees.trees.1)
    where
      kept_of : (s : Stand) → ((m : ℕ) → Has (pages_of s) m → Has (flat_map pages_of a.tables) m)
          → HasTablePages form.in_primary size old s × AreTrees size new s.table.pointer.0 s.table.indexes s.trees
          → HasTablePages form.in_primary size new s
      kept_of s within its = table_pages_kept form.in_primary size old new s (record {
        pointers = λ n is. leaves.left n (off n (within n
            (has_front (s.pointers ++ s.data_pages) (tree_pages s.trees) n (has_front s.pointers s.data_pages n is))));
        data_pages = λ n is. leaves.left n (off n (within n (data_there s n is)));
        used = leaves.used;
        trees = its.1;
      }) its.0

  once : IsOnce (linked_pages size new (layout_left gone a c))
  once = part_once (linked_pages size new (layout_left gone a c)) (linked_pages size old a)
      (subst (λ (tips : List ℕ). IsPart (tips ++ (pages_of c.catalog ++ flat_map pages_of (stands_left gone a.tables))
      ++ c.sequences) (linked_pages size old a)) (sym leaves.tips)
      (subst (λ (s : Stand). IsPart (tips_of size old ++ (pages_of s ++ flat_map pages_of (stands_left gone a.tables))
      ++ c.sequences) (linked_pages size old a)) (sym leaves.catalog)
      (subst (λ (ns : List ℕ). IsPart (tips_of size old
      ++ (pages_of a.catalog ++ flat_map pages_of (stands_left gone a.tables)) ++ ns) (linked_pages size old a))
      (sym leaves.sequences)
      (part_front (tips_of size old ++ (pages_of a.catalog ++ flat_map pages_of (stands_left gone a.tables)))
      (tips_of size old ++ (pages_of a.catalog ++ flat_map pages_of a.tables)) a.sequences
      (part_behind (tips_of size old) (pages_of a.catalog ++ flat_map pages_of (stands_left gone a.tables))
      (pages_of a.catalog ++ flat_map pages_of a.tables)
      (part_behind (pages_of a.catalog) (flat_map pages_of (stands_left gone a.tables)) (flat_map pages_of a.tables)
      (stands_part gone a.tables))))))) before.once

  pub takes_back : TakesBack form size now t old new a c r rc gone
  takes_back = record {
    header = leaves.header;
    tables_pages = each_stand_left gone (HasTablePages form.in_primary size new) a.tables tables_there;
    once = once;
    stands = stands;
    left = λ n table is. leaves.left n (its_off n table is);
    apart = λ n table is. same n ∙ its_off n table is;
    same = same;
    each = λ p on. rows.each p (sym (same p.page.0) ∙ on);
    whole = rows.whole;
    found = leaves.trees.found;
  }
