-- Whose table it is, by the names that the catalog's rows give.
use Rattle.mg_base.specs.declared.transaction.TxState.{TxState}
use Rattle.mg_base.specs.declared.transaction.TxState.TheVariants.{Active, Dead, Limbo}
use Rattle.mg_image_overlay_laws.specs.tables.Growing.{IsTableOf}
use Rattle.mg_image_overlay_laws.specs.kept.Knowing.{its_pages}
use Rattle.mg_image.specs.Form.{Form, Pages}
use Rattle.mg_image.specs.Reached.{tips_of}
use Rattle.mg_image.specs.ReadingLaws.{RowsAreOne}
use Rattle.mg_image.specs.Records.{Reading}
use Rattle.mg_image.specs.Sound.{HasTablePages, IsSoundBy}
use Rattle.mg_image.specs.Tables.{EachStand, Has, HasStand, IsOnce, Layout, PointerChain, Stand, entries_in, pages_of, stands_of, table_at}
use Rattle.mg_image_overlay_laws.specs.pages.Kinds.{HasNoSequences}
use Rattle.mg_image_overlay_laws.specs.kept.KeptImages.{IsKept}
use Rattle.mg_image_overlay_laws.specs.pages.Reach.{data_there, once_back, once_front}
use Rattle.mg_model.specs.History.{Entries}
use Rattle.mg_model.specs.declared.opening.Opening.{Opening}
use Rattle.mg_model.specs.declared.table.Table.{Table}
use Rattle.mg_image_overlay_laws.specs.names.Fewer.{twin, with_it}
use Rattle.mg_image_overlay_laws.specs.tables.Stands.{IsTwin, data_stand, pointer_page, pointer_stand, stand_has, stands_apart}
use Rattle.mg_image_overlay_laws.specs.tables.OneChain.{link_once}
use Rattle.mg_overlay_laws.specs.Overlays.{left_state}
use Rattle.mg_image_overlay_laws.specs.names.NotThere.{IsNotThere}
use Rattle.mg_image_overlay_laws.specs.names.Whose.{IsTableFor}
use Rattle.mg_pointer.specs.PointerPage.{next_in}
use Rattle.std.proofs.Common.{Bool, List, None, Option, Some, [], ap, inl, inr, refl, subst, sym, ℕ, ◌++◌, ◌∙◌, ◌∷◌, ◌≡◌, ◌≢◌, ◌⊎◌}
use Rattle.std.proofs.lemmas.Bool.{eq-eqb}
use Rattle.std.specs.List.{flat_map}

-- no table of a layout has this name
abbrev pub HasNoName : Layout → List ℕ → Type 0
HasNoName layout name = EachStand (λ s. s.table.name ≢ name) (stands_of layout)

-- under each choice of transactions a table stands in the layout of the image, or one transaction, which has
-- made it, counts as dead, and no table of the layout has its name
abbrev pub IsNamedFor : Form → ℕ → ℕ → (ℕ → TxState) → Pages → Table → Type 0
IsNamedFor form size by state pages table = (chosen : ℕ → Bool) (layout : Layout) (r : Reading)
    → IsSoundBy form size (left_state chosen state) pages layout r
    → IsTableOf layout table
    ⊎ ((left_state chosen state by ≡ Dead) × HasNoName layout table.name)

-- where an image is what it has to be under every choice, no page of a table that one transaction has made is
-- a page of the layout where the transaction counts as dead
abbrev pub NamesTellTables : Form → Type 0
NamesTellTables form = (size by : ℕ) (o : Opening) (h : Entries) (state : ℕ → TxState) (pages : Pages)
    (table : Table) → state by ≡ Active
    → ((chosen : ℕ → Bool) → IsKept form size o h (left_state chosen state) pages pages)
    → IsNamedFor form size by state pages table → IsTableFor form size by state pages table

stand_its : (first rest : List Stand) (stand : Stand) → HasStand (first ++ (stand ∷ rest)) stand
stand_its [] rest stand = inl refl
stand_its (x ∷ first) rest stand = inr (stand_its first rest stand)

module _ (form : Form) (one : RowsAreOne form.coding) (none : HasNoSequences form) (size by : ℕ)
    (o : Opening) (h : Entries) (state : ℕ → TxState) (pages : Pages) (table : Table)
    (active : state by ≡ Active)
    (kept : (chosen : ℕ → Bool) → IsKept form size o h (left_state chosen state) pages pages)
    (named : IsNamedFor form size by state pages table) (chosen : ℕ → Bool) (layout : Layout) (r : Reading)
    (sound : IsSoundBy form size (left_state chosen state) pages layout r)
    (dead : left_state chosen state by ≡ Dead) (no_name : HasNoName layout table.name) where
  abbrev more : IsKept form size o h (left_state (with_it by chosen) state) pages pages
  more = kept (with_it by chosen)

  its : IsTableOf more.layout table
  its = at (named (with_it by chosen) more.layout more.reading more.sound)
    where
      at : IsTableOf more.layout table
          ⊎ ((left_state (with_it by chosen) state by ≡ Dead) × HasNoName more.layout table.name)
          → IsTableOf more.layout table
      at (inl there) = there
      at (inr (gone, none_)) =
          let limbo : left_state (with_it by chosen) state by ≡ Limbo =
          rw (eq-eqb by by refl, active) refl in
          let both : Limbo ≡ Dead = sym limbo ∙ gone in absurd cc

  has_ : HasTablePages form.in_primary size pages its.stand
  has_ = its_pages form size (left_state (with_it by chosen) state) pages more.layout more.reading more.sound
      table its

  stands_once : IsOnce (flat_map pages_of (stands_of more.layout))
  stands_once = once_back (tips_of size pages) (flat_map pages_of (stands_of more.layout))
      (once_front (tips_of size pages ++ flat_map pages_of (stands_of more.layout)) more.layout.sequences
      more.sound.once)

  its_there : HasStand (stands_of more.layout) its.stand
  its_there = subst (λ (ss : List Stand). HasStand ss its.stand) (sym its.is_)
      (stand_its its.before its.after its.stand)

  same_pointers : (ns : List ℕ) → PointerChain pages table.pointer.0 ns → ns ≡ its.stand.pointers
  same_pointers ns chain = link_once (λ n. next_in (pages n)) table.pointer.0 ns its.stand.pointers chain
      (subst (λ (t : Table). PointerChain pages t.pointer.0 its.stand.pointers) its.table_is has_.chain)

  -- a stand of the layout shares no page with the table
  apart : (x : Stand) → HasStand (stands_of layout) x → (m : ℕ)
      → Has x.pointers m ⊎ Has x.data_pages m → Has (pages_of its.stand) m → ⊥
  apart x there m in_x in_its =
      let (y, in_more, twin_) = twin form one size by state pages chosen active dead layout more.layout r
      more.reading sound more.sound x there in
      stands_apart (stands_of more.layout) stands_once y its.stand m in_more its_there
      (λ same. stand_has (λ s. s.table.name ≢ table.name) (stands_of layout) x no_name there
      (sym twin_.name ∙ (same ∙ ap (λ (t : Table). t.name) its.table_is))) (of y twin_ in_x) in_its
    where
      of : (y : Stand) → IsTwin x y → Has x.pointers m ⊎ Has x.data_pages m → Has (pages_of y) m
      of y twin_ (inl pointer) = pointer_page y m
          (subst (λ (ns : List ℕ). Has ns m) (sym twin_.pointers) pointer)
      of y twin_ (inr data_) = data_there y m
          (subst (λ (ns : List ℕ). Has ns m) (sym twin_.data_pages) data_)

  pub not_there : IsNotThere by (left_state chosen state) pages layout table
  not_there = record {
    dead = dead;
    out = record {
      pointers = λ ns chain m there linked. no_pointer m
          (subst (λ (ks : List ℕ). Has ks m) (same_pointers ns chain) there)
          (pointer_stand (stands_of layout) m linked);
      data_pages = λ ns chain m there. no_data m (subst (λ (ks : List ℕ). Has ks m)
          (ap (entries_in pages) (same_pointers ns chain) ∙ sym has_.entries) there)
          (table_at (stands_of layout) m) refl;
    };
  }
    where
      no_pointer : (m : ℕ) → Has its.stand.pointers m
          → (s : Stand) × HasStand (stands_of layout) s × Has s.pointers m → ⊥
      no_pointer m there (s, in_layout, is) =
          apart s in_layout m (inl is) (pointer_page its.stand m there)

      no_data : (m : ℕ) → Has its.stand.data_pages m → (t : Option Table)
          → table_at (stands_of layout) m ≡ t → table_at (stands_of layout) m ≡ None
      no_data m there None is = is
      no_data m there (Some other) is =
          let (s, in_layout, also) = data_stand (stands_of layout) m other is in
          absurd (apart s in_layout m (inr also) (data_there its.stand m there))

pub names_tell_tables : (form : Form) → RowsAreOne form.coding → HasNoSequences form → NamesTellTables form
names_tell_tables form one none size by o h state pages table active kept named chosen layout r sound =
    at (named chosen layout r sound)
  where
    at : IsTableOf layout table
        ⊎ ((left_state chosen state by ≡ Dead) × HasNoName layout table.name)
        → IsTableOf layout table ⊎ IsNotThere by (left_state chosen state) pages layout table
    at (inl there) = inl there
    at (inr (dead, no_name)) = inr (not_there form one none size by o h state pages table active kept named
        chosen layout r sound dead no_name)
