-- A stand of a layout is replaced by one with a page more: the layout, and what an image owes for it.
use Rattle.std.proofs.Common.{◌≡◌, ◌≢◌, ◌⊎◌, inl, inr, ap, sym, subst, ◌∙◌, refl, arith, ℕ, Bool, true, false, List, [], ◌∷◌, ◌++◌, Option, None, Some}
use Rattle.std.specs.List.{flat_map}
use Rattle.std.specs.Prelude.{if◌then◌else◌, map}
use Rattle.mg_base.specs.Fields.{byte}
use Rattle.mg_base.specs.declared.transaction.TxState.{TxState}
use Rattle.mg_image.specs.Form.{Form, Pages}
use Rattle.mg_image.specs.Indexes.{AreTrees, EachPage}
use Rattle.mg_image.specs.Inventory.{is_used}
use Rattle.mg_image.specs.Reached.{linked_pages, tips_of}
use Rattle.mg_image.specs.Records.{Reading, newest_of, slot_cell}
use Rattle.mg_image.specs.Sound.{HasTablePages, IsSoundBy}
use Rattle.mg_image.specs.Tables.{EachStand, Has, IsOnce, Layout, Stand, has, pages_of, stands_of, table_at, tree_pages}
use Rattle.mg_image_overlay_laws.specs.pages.DataSound.{KeepsTrees}
use Rattle.mg_image_overlay_laws.specs.pages.Grow.{IsWith, each_joined, with_back, with_front}
use Rattle.mg_image_overlay_laws.specs.pages.Growth.{has_back, has_front}
use Rattle.mg_image_overlay_laws.specs.pages.Kinds.{HasNoSequences, stands_linked}
use Rattle.mg_image_overlay_laws.specs.kept.Rest.{TreesStay}
use Rattle.mg_image_overlay_laws.specs.pages.Reach.{data_there, has_it, once_back, once_front, page_there}
use Rattle.mg_model.specs.declared.table.Table.{Table}
use Rattle.mg_image_overlay_laws.specs.pages.GrowPages.{in_mid, off_first, off_last, stands_still, trees_mid}
use Rattle.mg_slots.specs.DataPage.{cell_of}
use Rattle.mg_image_overlay_laws.specs.pages.ExtendSound.{Extends}
use Rattle.mg_image_overlay_laws.specs.pages.PointerPage.{ChangesPointer, data_five, header_stays, inventory_still, lengths_stay, no_sequences, tip_stays, trees_kept, used_on}

-- a layout with these stands, the catalog's first
abbrev pub relaid : Layout → List Stand → Layout
relaid layout [] = layout
relaid layout (catalog ∷ tables) = record {
  catalog = catalog;
  tables = tables;
  sequences = layout.sequences;
}

pub stands_relaid : (layout : Layout) (before after : List Stand) (stand : Stand)
    → stands_of (relaid layout (before ++ (stand ∷ after))) ≡ before ++ (stand ∷ after)
stands_relaid layout [] after stand = refl
stands_relaid layout (first ∷ before) after stand = refl

pub sequences_relaid : (layout : Layout) (before after : List Stand) (stand : Stand)
    → (relaid layout (before ++ (stand ∷ after))).sequences ≡ layout.sequences
sequences_relaid layout [] after stand = refl
sequences_relaid layout (first ∷ before) after stand = refl

-- A stand has a page more than another one of the same table.
pub record HasMore (n : ℕ) (stand more : Stand) : Type 0 where
  pub table : more.table ≡ stand.table
  pub trees : more.trees ≡ stand.trees
  pub pages : IsWith n (pages_of stand) (pages_of more)
  pub owners : (m : ℕ) → m ≢ n → has more.data_pages m ≡ has stand.data_pages m
  pub pointers : (m : ℕ) → Has more.pointers m → (m ≡ n) ⊎ Has stand.pointers m

catalog_same : (layout : Layout) (before after : List Stand) (stand more : Stand)
    → stands_of layout ≡ before ++ (stand ∷ after) → more.table ≡ stand.table
    → (relaid layout (before ++ (more ∷ after))).catalog.table ≡ layout.catalog.table
catalog_same layout [] after stand more is same =
    let head : layout.catalog ≡ stand = cc in same ∙ ap (λ (s : Stand). s.table) (sym head)
catalog_same layout (first ∷ before) after stand more is same =
    let head : layout.catalog ≡ first = cc in ap (λ (s : Stand). s.table) (sym head)

map_same : (before after : List Stand) (stand more : Stand) → more.table ≡ stand.table
    → map (λ (s : Stand). s.table) (before ++ (more ∷ after))
    ≡ map (λ (s : Stand). s.table) (before ++ (stand ∷ after))
map_same [] after stand more same = ap (λ (t : Table). t ∷ map (λ (s : Stand). s.table) after) same
map_same (first ∷ before) after stand more same =
    ap (λ (ts : List Table). first.table ∷ ts) (map_same before after stand more same)

tables_same : (layout : Layout) (before after : List Stand) (stand more : Stand)
    → stands_of layout ≡ before ++ (stand ∷ after) → more.table ≡ stand.table
    → map (λ (s : Stand). s.table) (relaid layout (before ++ (more ∷ after))).tables
    ≡ map (λ (s : Stand). s.table) layout.tables
tables_same layout [] after stand more is same =
    let tail : layout.tables ≡ after = cc in ap (map (λ (s : Stand). s.table)) (sym tail)
tables_same layout (first ∷ before) after stand more is same =
    let tail : layout.tables ≡ before ++ (stand ∷ after) = cc in
    map_same before after stand more same ∙ ap (map (λ (s : Stand). s.table)) (sym tail)

stands_with : (n : ℕ) (before after : List Stand) (stand more : Stand)
    → IsWith n (pages_of stand) (pages_of more)
    → IsWith n (flat_map pages_of (before ++ (stand ∷ after))) (flat_map pages_of (before ++ (more ∷ after)))
stands_with n [] after stand more is =
    with_back n (pages_of stand) (pages_of more) (flat_map pages_of after) is
stands_with n (first ∷ before) after stand more is =
    with_front n (pages_of first) (flat_map pages_of (before ++ (stand ∷ after)))
    (flat_map pages_of (before ++ (more ∷ after))) (stands_with n before after stand more is)

owner_same : (n : ℕ) (before after : List Stand) (stand more : Stand) → HasMore n stand more → (m : ℕ)
    → m ≢ n → table_at (before ++ (more ∷ after)) m ≡ table_at (before ++ (stand ∷ after)) m
owner_same n [] after stand more is m ne =
    ap (λ (c : Bool). if c then Some more.table else table_at after m) (is.owners m ne)
    ∙ ap (λ (t : Table). if has stand.data_pages m then Some t else table_at after m) is.table
owner_same n (first ∷ before) after stand more is m ne =
    ap (λ (t : Option Table). if has first.data_pages m then Some first.table else t)
    (owner_same n before after stand more is m ne)

-- whose page it is that a table has
owner_of : (n : ℕ) (before after : List Stand) (stand more : Stand) (table : Table)
    → table_at (before ++ (more ∷ after)) n ≡ Some table
    → Has more.data_pages n ⊎ Has (flat_map pages_of (before ++ (stand ∷ after))) n
owner_of n [] after stand more table is = at (has more.data_pages n) refl is
  where
    at : (c : Bool) → has more.data_pages n ≡ c
        → (if c then Some more.table else table_at after n) ≡ Some table
        → Has more.data_pages n ⊎ Has (flat_map pages_of (stand ∷ after)) n
    at true here is_ = inl (has_it more.data_pages n here)
    at false out is_ = inr (has_back (pages_of stand) (flat_map pages_of after) n
        (page_there after n table is_))
owner_of n (first ∷ before) after stand more table is =
    at (has first.data_pages n) refl is (owner_of n before after stand more table)
  where
    by : Has more.data_pages n ⊎ Has (flat_map pages_of (before ++ (stand ∷ after))) n
        → Has more.data_pages n ⊎ Has (flat_map pages_of (first ∷ (before ++ (stand ∷ after)))) n
    by (inl here) = inl here
    by (inr there) = inr (has_back (pages_of first) (flat_map pages_of (before ++ (stand ∷ after))) n there)

    at : (c : Bool) → has first.data_pages n ≡ c
        → (if c then Some first.table else table_at (before ++ (more ∷ after)) n) ≡ Some table
        → (table_at (before ++ (more ∷ after)) n ≡ Some table
        → Has more.data_pages n ⊎ Has (flat_map pages_of (before ++ (stand ∷ after))) n)
        → Has more.data_pages n ⊎ Has (flat_map pages_of (first ∷ (before ++ (stand ∷ after)))) n
    at true here is_ rest = inr (has_front (pages_of first)
        (flat_map pages_of (before ++ (stand ∷ after))) n
        (data_there first n (has_it first.data_pages n here)))
    at false out is_ rest = by (rest is_)

module _ (form : Form) (size : ℕ) (state : ℕ → TxState) (old new : Pages) (q n : ℕ) (layout : Layout)
    (r : Reading) (none : HasNoSequences form) (trees : TreesStay form size)
    (sound : IsSoundBy form size state old layout r) (change : ChangesPointer old new q)
    (before after : List Stand) (stand more : Stand)
    (is : stands_of layout ≡ before ++ (stand ∷ after)) (has_more : HasMore n stand more)
    (q_there : Has stand.pointers q) (off : Has (linked_pages size old layout) n → ⊥)
    (empty : Has more.data_pages n → (Has stand.data_pages n → ⊥) → (slot : ℕ)
    → cell_of (new n) slot ≡ None)
    (its : AreTrees size new stand.table.pointer.0 stand.table.indexes stand.trees
    → HasTablePages form.in_primary size old stand → HasTablePages form.in_primary size new more) where
  abbrev pub layout_after : Layout
  layout_after = relaid layout (before ++ (more ∷ after))

  once : IsOnce (flat_map pages_of (before ++ (stand ∷ after)))
  once = subst (λ (ss : List Stand). IsOnce (flat_map pages_of ss)) is
      (once_back (tips_of size old) (flat_map pages_of (stands_of layout))
      (once_front (tips_of size old ++ flat_map pages_of (stands_of layout)) layout.sequences sound.once))

  its_pointer : Has (pages_of stand) q
  its_pointer = has_front (stand.pointers ++ stand.data_pages) (tree_pages stand.trees) q
      (has_front stand.pointers stand.data_pages q q_there)

  keeps : KeepsTrees old new size layout
  keeps = trees_kept form size state old new q layout r none trees sound change

  parts : EachStand (HasTablePages form.in_primary size old) before
      × HasTablePages form.in_primary size old stand
      × EachStand (HasTablePages form.in_primary size old) after
  parts = trees_mid (HasTablePages form.in_primary size old) before after stand
      (subst (EachStand (HasTablePages form.in_primary size old)) is sound.tables)

  tree_parts : EachStand (λ s. AreTrees size new s.table.pointer.0 s.table.indexes s.trees) before
      × AreTrees size new stand.table.pointer.0 stand.table.indexes stand.trees
      × EachStand (λ s. AreTrees size new s.table.pointer.0 s.table.indexes s.trees) after
  tree_parts = trees_mid (λ s. AreTrees size new s.table.pointer.0 s.table.indexes s.trees) before after
      stand (subst (EachStand (λ s. AreTrees size new s.table.pointer.0 s.table.indexes s.trees)) is
      keeps.trees)

  used_ : (m : ℕ) → is_used size old m ≡ true → is_used size new m ≡ true
  used_ = used_on form size state old new q layout r none trees sound change

  tables_now : EachStand (HasTablePages form.in_primary size new) (before ++ (more ∷ after))
  tables_now = each_joined (HasTablePages form.in_primary size new) before after more
      (stands_still form.in_primary size old new used_ before
      (λ m there. change.others m (off_first before after stand q m once its_pointer there))
      tree_parts.0 parts.0) (its tree_parts.1 parts.1)
      (stands_still form.in_primary size old new used_ after
      (λ m there. change.others m (off_last before after stand q m once its_pointer there))
      tree_parts.2 parts.2)

  pub extends : Extends form size old new layout layout_after n
  extends = record {
    header_page = header_stays form size state old new q layout r none trees sound change;
    tips = tip_stays form size state old new q layout r none trees sound change;
    used = used_;
    lengths = lengths_stay form size state old new q layout r none trees sound change;
    inventory = inventory_still form size state old new q layout r none trees sound change;
    tables = subst (EachStand (HasTablePages form.in_primary size new))
        (sym (stands_relaid layout before after more)) tables_now;
    catalog = catalog_same layout before after stand more is has_more.table;
    names = tables_same layout before after stand more is has_more.table;
    sequences = no_sequences form size state old new q layout r none trees sound change
        layout_after.sequences (subst (λ (ns : List ℕ). EachPage (λ m. form.sequence_page (old m) m) ns)
        (sym (sequences_relaid layout before after more)) sound.sequences);
    linked = subst (λ (ss : List Stand). IsWith n (linked_pages size old layout)
        (tips_of size old ++ flat_map pages_of ss ++ layout_after.sequences))
        (sym (stands_relaid layout before after more))
        (subst (λ (ns : List ℕ). IsWith n (linked_pages size old layout)
        (tips_of size old ++ flat_map pages_of (before ++ (more ∷ after)) ++ ns))
        (sym (sequences_relaid layout before after more))
        (with_back n (tips_of size old ++ flat_map pages_of (stands_of layout))
        (tips_of size old ++ flat_map pages_of (before ++ (more ∷ after))) layout.sequences
        (with_front n (tips_of size old) (flat_map pages_of (stands_of layout))
        (flat_map pages_of (before ++ (more ∷ after)))
        (subst (λ (ss : List Stand). IsWith n (flat_map pages_of ss)
        (flat_map pages_of (before ++ (more ∷ after)))) (sym is)
        (stands_with n before after stand more has_more.pages)))));
    not_linked = off;
    no_table = no_table (table_at (stands_of layout) n) refl;
    others = λ m ne. ap (λ (ss : List Stand). table_at ss m) (stands_relaid layout before after more)
        ∙ (owner_same n before after stand more has_more m ne
        ∙ ap (λ (ss : List Stand). table_at ss m) (sym is));
    cells = λ x table of. ap (λ (page : List ℕ). slot_cell (cell_of page x.slot))
        (change.others x.page.0 (λ e. not_pointer x.page.0 table of e));
    no_record = λ table of x on. ap (newest_of x) (ap (λ (m : ℕ). slot_cell (cell_of (new m) x.slot)) on
        ∙ ap slot_cell (no_cell table of x.slot));
    found = keeps.found;
  }
    where
      no_table : (t : Option Table) → table_at (stands_of layout) n ≡ t
          → table_at (stands_of layout) n ≡ None
      no_table None is_ = is_
      no_table (Some table) is_ = absurd (off (stands_linked size old layout n
          (page_there (stands_of layout) n table is_)))

      not_linked_ : Has (flat_map pages_of (before ++ (stand ∷ after))) n → ⊥
      not_linked_ there = off (stands_linked size old layout n
          (subst (λ (ss : List Stand). Has (flat_map pages_of ss) n) (sym is) there))

      no_cell : (table : Table) → table_at (stands_of layout_after) n ≡ Some table → (slot : ℕ)
          → cell_of (new n) slot ≡ None
      no_cell table of = at (owner_of n before after stand more table
          (subst (λ (ss : List Stand). table_at ss n ≡ Some table)
          (stands_relaid layout before after more) of))
        where
          at : Has more.data_pages n ⊎ Has (flat_map pages_of (before ++ (stand ∷ after))) n
              → (slot : ℕ) → cell_of (new n) slot ≡ None
          at (inl here) = empty here (λ there. not_linked_ (in_mid before after stand n
              (data_there stand n there)))
          at (inr there) = absurd (not_linked_ there)

      not_pointer : (m : ℕ) (table : Table) → table_at (stands_of layout) m ≡ Some table → m ≢ q
      not_pointer m table of e =
          let five : byte (old m) 0 ≡ 5 =
          data_five form.in_primary size old (stands_of layout) sound.tables m table of in
          let four : byte (old m) 0 ≡ 4 = ap (λ (k : ℕ). byte (old k) 0) e ∙ change.kind in
          omega (arith, five, four)
