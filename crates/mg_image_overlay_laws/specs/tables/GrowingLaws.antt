-- A table that grows within a batch: the pool is sound with its table grown, and what an image has to be
-- that has a set of the batch's pages is kept.
use Rattle.std.proofs.Common.{◌≡◌, ◌≢◌, ◌⊎◌, inl, inr, ap, sym, subst, ◌∙◌, refl, arith, ℕ, ◌+◌, true, List, [], ◌∷◌, ◌++◌, length, Option, None, Some}
use Rattle.std.proofs.lemmas.Bool.{cases_eq}
use Rattle.std.specs.List.{flat_map}
use Rattle.mg_base.specs.Fields.{byte}
use Rattle.mg_base.specs.declared.numbers.RecId.{RecId}
use Rattle.mg_base.specs.declared.transaction.TxState.{TxState}
use Rattle.mg_careful.specs.CarefulWrite.{PageSet}
use Rattle.mg_careful.specs.Precedence.{Orders}
use Rattle.mg_model.specs.declared.opening.Opening.{Opening}
use Rattle.mg_model.specs.declared.table.Table.{Table}
use Rattle.mg_model.specs.History.{Entries}
use Rattle.mg_image.specs.Form.{Form, Pages}
use Rattle.mg_image.specs.Reached.{linked_pages, tips_of}
use Rattle.mg_image.specs.Records.{Reading}
use Rattle.mg_image.specs.Sound.{IsSoundBy}
use Rattle.mg_image.specs.Tables.{Has, IsOnce, Layout, Stand, pages_of, stands_of, table_at}
use Rattle.mg_image_overlay_laws.specs.pages.Frame.{frame_sound}
use Rattle.mg_image_overlay_laws.specs.pages.Growth.{grown, has_back}
use Rattle.mg_image_overlay_laws.specs.pages.Kinds.{HasNoSequences, stands_linked}
use Rattle.mg_image_overlay_laws.specs.kept.Rest.{TreesStay}
use Rattle.mg_image_overlay_laws.specs.kept.KeptImages.{IsKept}
use Rattle.mg_image_overlay_laws.specs.pages.Reach.{once_back, once_front, page_there}
use Rattle.mg_image_overlay_laws.specs.tables.OneLayout.{StandsOneWay}
use Rattle.mg_overlay_laws.specs.Views.{partly}
use Rattle.mg_image_overlay_laws.specs.pages.GrowPages.{once_mid}
use Rattle.mg_image_overlay_laws.specs.pages.EntryPage.{EntersPage, entry_makes}
use Rattle.mg_image_overlay_laws.specs.pages.Extended.{extends, relaid, stands_relaid}
use Rattle.mg_image_overlay_laws.specs.pages.ExtendEvery.{OrdersPage, extend_views}
use Rattle.mg_image_overlay_laws.specs.pages.ExtendSound.{Extends, extend_sound}
use Rattle.mg_image_overlay_laws.specs.pages.ExtendStep.{HasLast, MakesMore}
use Rattle.mg_image_overlay_laws.specs.pages.LinkPage.{LinksPage, length_last, link_makes, longer}
use Rattle.mg_image_overlay_laws.specs.pages.PointerPage.{ChangesPointer, data_five, used_on}
use Rattle.mg_image_overlay_laws.specs.pages.TakePart.{OccupiesPage, keeps_linked, off, stays as linked_stays, taken_whole, used_still}
use Rattle.mg_image_overlay_laws.specs.pages.Entries.{StaysFound, found_with}
use Rattle.mg_image_overlay_laws.specs.tables.Growing.{EndsAt, Grows, HasGrown, IsTableOf, TableEnd, enters, entered_end, linked_end, links, stays}

-- ---- layouts

pub grown_self : (layout : Layout) (r : Reading) → HasGrown layout layout r
grown_self layout r = record {
  catalog = refl;
  names = refl;
  stays = λ m table is. is;
  new = λ m table is. inl is;
}

pub grown_more : (a b c : Layout) (r : Reading) → HasGrown a b r → HasGrown b c r → HasGrown a c r
grown_more a b c r first second = record {
  catalog = second.catalog ∙ first.catalog;
  names = second.names ∙ first.names;
  stays = λ m table is. second.stays m table (first.stays m table is);
  new = λ m table is. at m table (second.new m table is);
}
  where
    at : (m : ℕ) (table : Table)
        → (table_at (stands_of b) m ≡ Some table) ⊎ ((p : RecId) → p.page.0 ≡ m → r p ≡ [])
        → (table_at (stands_of a) m ≡ Some table) ⊎ ((p : RecId) → p.page.0 ≡ m → r p ≡ [])
    at m table (inl there) = first.new m table there
    at m table (inr none) = inr none

-- a table's last pointer page, as the law on one page takes it
abbrev pub last_of_end : (layout : Layout) (table : Table) (end : TableEnd) → EndsAt layout table end
    → HasLast layout table.pointer.0 end.place end.pointers end.last
last_of_end layout table end ends = record {
  before = ends.before;
  stand = ends.stand;
  after = ends.after;
  front = ends.front;
  is_ = ends.is_;
  pointers_are = ends.pointers_are;
  count_is = ends.count_is;
  place_is = ends.place_is;
  owner_is = ap (λ (t : Table). t.pointer.0) ends.table_is;
}

pub table_of_end : (layout : Layout) (table : Table) (end : TableEnd) → EndsAt layout table end
    → IsTableOf layout table
table_of_end layout table end ends = record {
  before = ends.before;
  stand = ends.stand;
  after = ends.after;
  is_ = ends.is_;
  table_is = ends.table_is;
}

-- ---- one page

-- What is known of a pool's view: it is sound, and the table ends so.
pub record StandsTo (form : Form) (size : ℕ) (state : ℕ → TxState) (old new : Pages) (from : Layout)
    (r : Reading) (table : Table) (end : TableEnd) : Type 0 where
  pub layout : Layout
  pub sound : IsSoundBy form size state new layout r
  pub ends : EndsAt layout table end
  pub grown : HasGrown from layout r
  pub header : new 0 ≡ old 0
  pub found : StaysFound table old new
  -- a data page of a table is as it was
  pub data_same : (m : ℕ) (t : Table) → table_at (stands_of from) m ≡ Some t → new m ≡ old m

module _ (form : Form) (one : StandsOneWay form) (none : HasNoSequences form) (size : ℕ)
    (trees : TreesStay form size) (state : ℕ → TxState) (table : Table) where
  -- a page is occupied: nothing that is linked changes
  module _ (view taken : Pages) (i n : ℕ) (takes : OccupiesPage size view taken i n) (layout : Layout)
      (r : Reading) (sound : IsSoundBy form size state view layout r) where
    pub taken_sound : IsSoundBy form size state taken layout r
    taken_sound = frame_sound form size state view taken layout r sound
        (keeps_linked form size state view taken view taken i n none trees takes layout r sound
        (λ m is. is) (taken_whole view taken i n takes.others))

    pub taken_off : Has (linked_pages size taken layout) n → ⊥
    taken_off = off form size state view taken view taken i n none trees takes layout r sound (λ m is. is)
        (taken_whole view taken i n takes.others)

  -- and then the pointer page names it
  module _ (view taken next : Pages) (end : TableEnd) (i n : ℕ) (takes : OccupiesPage size view taken i n)
      (change : ChangesPointer taken next end.last)
      (makes : MakesMore form.in_primary size taken next table.pointer.0 end.place end.pointers end.last n)
      (layout : Layout) (r : Reading) (sound : IsSoundBy form size state view layout r)
      (ends : EndsAt layout table end) where
    abbrev mid_sound : IsSoundBy form size state taken layout r
    mid_sound = taken_sound view taken i n takes layout r sound

    abbrev layout_next : Layout
    layout_next = relaid layout (ends.before ++ (makes.more ends.stand ∷ ends.after))

    stands_once : IsOnce (flat_map pages_of (ends.before ++ (ends.stand ∷ ends.after)))
    stands_once = subst (λ (ss : List Stand). IsOnce (flat_map pages_of ss)) ends.is_
        (once_back (tips_of size taken) (flat_map pages_of (stands_of layout))
        (once_front (tips_of size taken ++ flat_map pages_of (stands_of layout)) layout.sequences
        mid_sound.once))

    last_there : Has ends.stand.pointers end.last
    last_there = subst (λ (ns : List ℕ). Has ns end.last) (sym ends.pointers_are)
        (has_back ends.front (end.last ∷ []) end.last (inl refl))

    pool_extends : Extends form size taken next layout layout_next n
    pool_extends = extends form size state taken next end.last n layout r none trees mid_sound change
        ends.before ends.after ends.stand (makes.more ends.stand) ends.is_ (makes.has_more ends.stand)
        last_there (taken_off view taken i n takes layout r sound) (makes.empty ends.stand)
        (makes.its taken next (record {
          lays = record { was = refl; is = refl; others = change.others };
          page = refl;
          used = takes.bit;
        }) (used_on form size state taken next end.last layout r none trees mid_sound change)
        ends.stand ends.front ends.pointers_are ends.count_is ends.place_is
        (ap (λ (t : Table). t.pointer.0) ends.table_is)
        (once_mid ends.before ends.after ends.stand stands_once))

    pub named_sound : IsSoundBy form size state next layout_next r
    named_sound = extend_sound form size state taken next layout layout_next r n mid_sound pool_extends

    pub named_grown : HasGrown layout layout_next r
    named_grown = record {
      catalog = pool_extends.catalog;
      names = pool_extends.names;
      stays = λ m t is. kept m t is (cases_eq m n);
      new = λ m t is. new m t is (cases_eq m n);
    }
      where
        kept : (m : ℕ) (t : Table) → table_at (stands_of layout) m ≡ Some t → (m ≡ n) ⊎ (m ≢ n)
            → table_at (stands_of layout_next) m ≡ Some t
        kept m t is (inl same) =
            let both : Some t ≡ None = sym is ∙ (ap (table_at (stands_of layout)) same
            ∙ pool_extends.no_table) in absurd cc
        kept m t is (inr ne) = pool_extends.others m ne ∙ is

        new : (m : ℕ) (t : Table) → table_at (stands_of layout_next) m ≡ Some t → (m ≡ n) ⊎ (m ≢ n)
            → (table_at (stands_of layout) m ≡ Some t) ⊎ ((p : RecId) → p.page.0 ≡ m → r p ≡ [])
        new m t is (inl same) = inr (λ p on. sound.records.outside p
            (ap (table_at (stands_of layout)) (on ∙ same) ∙ pool_extends.no_table))
        new m t is (inr ne) = inl (sym (pool_extends.others m ne) ∙ is)

    pub named_header : next 0 ≡ view 0
    named_header = pool_extends.header_page ∙ takes.others 0 takes.off_header.0 takes.off_header.1

    its : IsTableOf layout table
    its = table_of_end layout table end ends

    named_found : StaysFound table view next
    named_found p row found = found_with form size state taken next layout r table mid_sound its
        (used_on form size state taken next end.last layout r none trees mid_sound change)
        (λ m is seven. change.others m (λ e.
        let four : byte (taken m) 0 ≡ 4 = ap (λ (k : ℕ). byte (taken k) 0) e ∙ change.kind in
        omega (arith, seven, four))) p row (found_with form size state view taken layout r table sound its
        (used_still form size state view taken view taken i n none trees takes layout r sound (λ m is. is)
        (taken_whole view taken i n takes.others))
        (λ m is seven. linked_stays form size state view taken view taken i n none trees takes layout r
        sound (λ m is. is) (taken_whole view taken i n takes.others) m is) p row found)

    named_data : (m : ℕ) (t : Table) → table_at (stands_of layout) m ≡ Some t → next m ≡ view m
    named_data m t is = change.others m off_last
        ∙ linked_stays form size state view taken view taken i n none trees takes layout r sound (λ k is_. is_)
        (taken_whole view taken i n takes.others) m (stands_linked size view layout m
        (page_there (stands_of layout) m t is))
      where
        off_last : m ≢ end.last
        off_last e =
            let five : byte (taken m) 0 ≡ 5 =
            data_five form.in_primary size taken (stands_of layout) mid_sound.tables m t is in
            let four : byte (taken m) 0 ≡ 4 = ap (λ (k : ℕ). byte (taken k) 0) e ∙ change.kind in
            omega (arith, five, four)

    pub named_to : (final : TableEnd) → EndsAt layout_next table final
        → StandsTo form size state view next layout r table final
    named_to final ends_next = record {
      layout = layout_next;
      sound = named_sound;
      ends = ends_next;
      grown = named_grown;
      header = named_header;
      found = named_found;
      data_same = named_data;
    }

    -- what an image has to be that has a set of the batch's pages
    module _ (o : Opening) (h : Entries) (orders : Orders) (set_ : PageSet) (image : Pages)
        (apart : n ≢ end.last) (with_bits : set_ end.last ≡ true → set_ i ≡ true)
        (with_page : set_ end.last ≡ true → set_ n ≡ true) where
      pub named_part : IsKept form size o h state view (partly set_ view image)
          → IsKept form size o h state next (partly set_ next image)
      named_part = extend_views form size o h state view taken next orders set_ image table.pointer.0
          end.place end.pointers i end.last n none trees takes change apart makes with_bits
          (λ in_set. rw (with_page in_set) refl)
          (λ other s so. subst (λ (y : Layout). HasLast y table.pointer.0 end.place end.pointers end.last)
          (one size state taken layout other r s mid_sound so).0 (last_of_end layout table end ends))

  -- ---- one step, with what it makes

  module _ (view taken next : Pages) (end : TableEnd) (i n : ℕ) (takes : OccupiesPage size view taken i n)
      (layout : Layout) (r : Reading) (sound : IsSoundBy form size state view layout r)
      (ends : EndsAt layout table end) where
    pub links_to : LinksPage size taken next table.pointer.0 end.pointers end.last n
        → StandsTo form size state view next layout r table (linked_end end n)
    unfolding link_makes
    links_to names = named_to view taken next end i n takes names.change
        (link_makes form.in_primary size taken next table.pointer.0 end.place end.pointers end.last n names)
        layout r sound ends (linked_end end n) (record {
          before = ends.before;
          stand = longer n ends.stand;
          after = ends.after;
          front = ends.stand.pointers;
          is_ = stands_relaid layout ends.before ends.after (longer n ends.stand);
          table_is = ends.table_is;
          pointers_are = refl;
          count_is = ap length ends.pointers_are ∙ (length_last ends.front end.last
              ∙ ap (λ (k : ℕ). k + 1) ends.count_is);
          place_is = ends.place_is;
        })

    pub enters_to : EntersPage form.in_primary size taken next table.pointer.0 end.place end.last n
        → StandsTo form size state view next layout r table (entered_end end)
    unfolding entry_makes
    enters_to names = named_to view taken next end i n takes names.change
        (entry_makes form.in_primary size taken next table.pointer.0 end.place end.pointers end.last n names)
        layout r sound ends (entered_end end) (record {
          before = ends.before;
          stand = grown ends.stand n;
          after = ends.after;
          front = ends.front;
          is_ = stands_relaid layout ends.before ends.after (grown ends.stand n);
          table_is = ends.table_is;
          pointers_are = ends.pointers_are;
          count_is = ends.count_is;
          place_is = length_last ends.stand.data_pages n ∙ ap (λ (k : ℕ). k + 1) ends.place_is;
        })

    module _ (o : Opening) (h : Entries) (orders : Orders) (batch : ℕ → Option (List ℕ))
        (set_ : PageSet) (image : Pages) (order : OrdersPage orders batch i end.last n)
        (in_batch : batch n ≢ None)
        (together : (a b : ℕ) → orders a b ≡ true → batch a ≢ None → set_ b ≡ true → set_ a ≡ true)
        (kept : IsKept form size o h state view (partly set_ view image)) where
      pub links_part : LinksPage size taken next table.pointer.0 end.pointers end.last n
          → IsKept form size o h state next (partly set_ next image)
      links_part names = named_part view taken next end i n takes names.change
          (link_makes form.in_primary size taken next table.pointer.0 end.place end.pointers end.last n names)
          layout r sound ends o h orders set_ image names.apart
          (λ in_set. together i end.last order.bits order.bits_in in_set)
          (λ in_set. together n end.last order.page in_batch in_set) kept

      pub enters_part : EntersPage form.in_primary size taken next table.pointer.0 end.place end.last n
          → IsKept form size o h state next (partly set_ next image)
      enters_part names = named_part view taken next end i n takes names.change
          (entry_makes form.in_primary size taken next table.pointer.0 end.place end.pointers end.last n
          names) layout r sound ends o h orders set_ image names.apart
          (λ in_set. together i end.last order.bits order.bits_in in_set)
          (λ in_set. together n end.last order.page in_batch in_set) kept

  -- ---- the row

  -- one step, and then the rest
  then_to : (view next last : Pages) (layout : Layout) (r : Reading) (end final : TableEnd)
      → (first : StandsTo form size state view next layout r table end)
      → StandsTo form size state next last first.layout r table final
      → StandsTo form size state view last layout r table final
  then_to view next last layout r end final first rest = record {
    layout = rest.layout;
    sound = rest.sound;
    ends = rest.ends;
    grown = grown_more layout first.layout rest.layout r first.grown rest.grown;
    header = rest.header ∙ first.header;
    found = λ p row is. rest.found p row (first.found p row is);
    data_same = λ m t is. rest.data_same m t (first.grown.stays m t is) ∙ first.data_same m t is;
  }

  pub grows_pool : (orders : Orders) (batch : ℕ → Option (List ℕ)) (view last : Pages)
      (end final : TableEnd)
      → Grows form.in_primary size table.pointer.0 orders batch view end last final
      → (layout : Layout) (r : Reading) → IsSoundBy form size state view layout r
      → EndsAt layout table end → StandsTo form size state view last layout r table final
  grows_pool orders batch view last end final (stays v e) layout r sound ends = record {
    layout = layout;
    sound = sound;
    ends = ends;
    grown = grown_self layout r;
    header = refl;
    found = λ p row is. is;
    data_same = λ m t is. refl;
  }
  grows_pool orders batch view last end final (links v taken next l e f i n takes names order in_batch more)
      layout r sound ends =
      let first = links_to view taken next end i n takes layout r sound ends names in
      then_to view next last layout r (linked_end end n) final first
      (grows_pool orders batch next last (linked_end end n) final more first.layout r first.sound first.ends)
  grows_pool orders batch view last end final (enters v taken next l e f i n takes names order in_batch more)
      layout r sound ends =
      let first = enters_to view taken next end i n takes layout r sound ends names in
      then_to view next last layout r (entered_end end) final first
      (grows_pool orders batch next last (entered_end end) final more first.layout r first.sound first.ends)

  pub grows_part : (o : Opening) (h : Entries) (orders : Orders) (batch : ℕ → Option (List ℕ))
      (set_ : PageSet) (image : Pages)
      → ((a b : ℕ) → orders a b ≡ true → batch a ≢ None → set_ b ≡ true → set_ a ≡ true)
      → (view last : Pages) (end final : TableEnd)
      → Grows form.in_primary size table.pointer.0 orders batch view end last final
      → (layout : Layout) (r : Reading) → IsSoundBy form size state view layout r
      → EndsAt layout table end
      → IsKept form size o h state view (partly set_ view image)
      → IsKept form size o h state last (partly set_ last image)
  grows_part o h orders batch set_ image together view last end final (stays v e) layout r sound ends kept =
      kept
  grows_part o h orders batch set_ image together view last end final
      (links v taken next l e f i n takes names order in_batch more) layout r sound ends kept =
      let first = links_to view taken next end i n takes layout r sound ends names in
      grows_part o h orders batch set_ image together next last (linked_end end n) final more first.layout r
      first.sound first.ends (links_part view taken next end i n takes layout r sound ends o h orders batch
      set_ image order in_batch together kept names)
  grows_part o h orders batch set_ image together view last end final
      (enters v taken next l e f i n takes names order in_batch more) layout r sound ends kept =
      let first = enters_to view taken next end i n takes layout r sound ends names in
      grows_part o h orders batch set_ image together next last (entered_end end) final more first.layout r
      first.sound first.ends (enters_part view taken next end i n takes layout r sound ends o h orders batch
      set_ image order in_batch together kept names)

  -- on the pool's own image
  pub grows_whole : (o : Opening) (h : Entries) (orders : Orders) (batch : ℕ → Option (List ℕ))
      (view last : Pages) (end final : TableEnd)
      → Grows form.in_primary size table.pointer.0 orders batch view end last final
      → (layout : Layout) (r : Reading) → IsSoundBy form size state view layout r
      → EndsAt layout table end → IsKept form size o h state view view
      → IsKept form size o h state last last
  grows_whole o h orders batch view last end final row layout r sound ends kept =
      grows_part o h orders batch (λ n. true) view (λ a b ordered in_batch in_set. refl) view last end final
      row layout r sound ends kept
