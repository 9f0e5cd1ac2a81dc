-- What is read of pages after a version is pushed, or a record gets its first one, and what becomes of the
-- bits there.
use Rattle.std.proofs.Common.{◌≡◌, ◌≢◌, ◌⊎◌, ◌<◌, ◌≤◌, inl, inr, refl, sym, ap, ◌∙◌, subst, arith, ◌-◌, ◌/◌, ◌%◌, ℕ, false, List, [], ◌∷◌, Option, None, Some}
use Rattle.std.proofs.lemmas.Bool.{cases_eq, cases_lt, eq-eqb, le-ltb, lt-ltb, ne_eqb}
use Rattle.mg_base.specs.declared.numbers.RecId.{RecId}
use Rattle.mg_base.specs.declared.transaction.TxState.{TxState}
use Rattle.mg_base.specs.declared.transaction.TxState.TheVariants.{Committed, Dead}
use Rattle.mg_careful.specs.Precedence.{Orders}
use Rattle.mg_header.specs.HeaderPage.{header_in}
use Rattle.mg_tip.specs.TipPage.{places, state_in}
use Rattle.mg_version.specs.declared.cell.Cell.{Cell}
use Rattle.mg_version.specs.declared.cell.Cell.TheVariants as cells
use Rattle.mg_version.specs.declared.cell.Link.{Link}
use Rattle.mg_version.specs.declared.cell.Version.{Version}
use Rattle.mg_model.specs.declared.opening.Opening.{Opening}
use Rattle.mg_model.specs.declared.table.Table.{Table}
use Rattle.mg_model.specs.History.{Entries}
use Rattle.mg_image.specs.declared.entry.Entry.{Entry}
use Rattle.mg_image.specs.Form.{Form, Pages}
use Rattle.mg_image.specs.Inventory.{bits_state, last_sequence, next_of, settled, state_at}
use Rattle.mg_image.specs.ReadingLaws.{RowsAreOne, chain_opens}
use Rattle.mg_image.specs.Records.{Chain, Reading, Stands, cells_of, ended, goes, newest_of}
use Rattle.mg_image.specs.Sound.{IsSoundBy}
use Rattle.mg_image.specs.Tables.{Layout, stands_of, table_at}
use Rattle.mg_image_overlay_laws.specs.records.Skips.{chain_cell}
use Rattle.mg_image_overlay_laws.specs.pages.Kinds.{HasNoSequences}
use Rattle.mg_image_overlay_laws.specs.kept.Rest.{div_grows}
use Rattle.mg_image_overlay_laws.specs.pages.Trees.{data_leaves, trees_stay}
use Rattle.mg_image_overlay_laws.specs.kept.KeptImages.{IsBehind, IsKept}
use Rattle.mg_image_overlay_laws.specs.tables.OneLayout.{sound_once}
use Rattle.mg_image_overlay_laws.specs.records.AddPart.{AddsPages}
use Rattle.mg_image_overlay_laws.specs.records.PushPart.{PushesPages}
use Rattle.mg_image_overlay_laws.specs.tables.Growing.{EndsAt, Grows, IsTableOf, TableEnd}
use Rattle.mg_image_overlay_laws.specs.tables.GrowingLaws.{StandsTo, grows_part, grows_pool, table_of_end}
use Rattle.mg_image_overlay_laws.specs.kept.Knowing.{put_still}
use Rattle.mg_image_overlay_laws.specs.records.Chains.{HasItsRow, each_standing, read_beside, read_here, rows_were}
use Rattle.mg_image_overlay_laws.specs.pages.DataKept.{IsDataChanged, KeepsBits, bits_more, data_more, data_self}
use Rattle.mg_image_overlay_laws.specs.tables.LayoutStays.{chain_stays, layout_stays, page_leaves}
use Rattle.mg_engine_step_laws.specs.writes.Writes.{ReadsAfter}

-- ---- what stands in a cell

-- a version of a record stands in a cell that has it
pub stands_version : (form : Form) (size : ℕ) (state : ℕ → TxState) (pages : Pages) (layout : Layout)
    (r : Reading) → IsSoundBy form size state pages layout r → (q x : RecId) → Stands (r q) x
    → (w : Version) × (cells_of pages x ≡ Some (cells.Version w))
stands_version form size state pages layout r sound q x there = at (table_at (stands_of layout) q.page.0) refl
  where
    at : (t : Option Table) → table_at (stands_of layout) q.page.0 ≡ t
        → (w : Version) × (cells_of pages x ≡ Some (cells.Version w))
    at None none = absurd (subst (λ (es : List Entry). Stands es x) (sound.records.outside q none) there)
    at (Some table) of = chain_cell (cells_of pages) (newest_of q (cells_of pages q)) (r q) x
        (sound.records.reads q table of) there

-- so none stands where an anchor is, or nothing
pub off_anchor : (form : Form) (size : ℕ) (state : ℕ → TxState) (pages : Pages) (layout : Layout)
    (r : Reading) → IsSoundBy form size state pages layout r → (p : RecId) (l : Link)
    → cells_of pages p ≡ Some (cells.Anchor l) → (q x : RecId) → Stands (r q) x → x ≢ p
off_anchor form size state pages layout r sound p l slot q x there same =
    let it = stands_version form size state pages layout r sound q x there in
    let both : Some (cells.Anchor l) ≡ Some (cells.Version it.0) =
    sym slot ∙ (ap (cells_of pages) (sym same) ∙ it.1) in absurd cc

pub off_blank : (form : Form) (size : ℕ) (state : ℕ → TxState) (pages : Pages) (layout : Layout)
    (r : Reading) → IsSoundBy form size state pages layout r → (p : RecId)
    → cells_of pages p ≡ None → (q x : RecId) → Stands (r q) x → x ≢ p
off_blank form size state pages layout r sound p blank q x there same =
    let it = stands_version form size state pages layout r sound q x there in
    let both : None ≡ Some (cells.Version it.0) = sym blank ∙ (ap (cells_of pages) (sym same) ∙ it.1) in
    absurd cc

-- ---- bits

-- pages of which others are behind, with the same next number, have their bits
pub behind_bits : (size : ℕ) (new old : Pages) (of_new of_old : Layout)
    → IsBehind size new old of_new of_old → next_of new ≡ next_of old → KeepsBits size old new
unfolding state_at
behind_bits size new old of_new of_old behind next = record { bits = λ t. by t (cases_eq t 0); next = next }
  where
    same_bits : (t : ℕ) → t < next_of old → bits_state size new t ≡ bits_state size old t
    same_bits t below =
        let within : t / places size ≤ last_sequence size old =
        div_grows t (next_of old - 1) (places size) (omega (arith, below)) in
        let tips = behind.tips (t / places size) within in
        ap (λ (page : List ℕ). state_in page (t % places size)) (sym tips.1)

    some : (t : ℕ) → t ≢ 0 → (t < next_of old) ⊎ (next_of old ≤ t)
        → state_at size new t ≡ state_at size old t
    some t some_ (inl below) =
        let also : t < next_of new = omega (arith, below, next) in
        let here : state_at size new t ≡ settled (bits_state size new t) =
        rw (ne_eqb t 0 some_, lt-ltb t (next_of new) also) refl in
        let there : state_at size old t ≡ settled (bits_state size old t) =
        rw (ne_eqb t 0 some_, lt-ltb t (next_of old) below) refl in
        here ∙ (ap settled (same_bits t below) ∙ sym there)
    some t some_ (inr past) =
        let also : next_of new ≤ t = omega (arith, past, next) in
        let here : state_at size new t ≡ Dead = rw (ne_eqb t 0 some_, le-ltb t (next_of new) also) refl in
        let there : state_at size old t ≡ Dead = rw (ne_eqb t 0 some_, le-ltb t (next_of old) past) refl in
        here ∙ sym there

    by : (t : ℕ) → (t ≡ 0) ⊎ (t ≢ 0) → state_at size new t ≡ state_at size old t
    by t (inl zero) =
        let here : state_at size new t ≡ Committed = rw (eq-eqb t 0 zero) refl in
        let there : state_at size old t ≡ Committed = rw (eq-eqb t 0 zero) refl in here ∙ sym there
    by t (inr some_) = some t some_ (cases_lt t (next_of old))

-- ---- a table grows

module _ (form : Form) (one : RowsAreOne form.coding) (none : HasNoSequences form) (size : ℕ)
    (state : ℕ → TxState) (pool grown : Pages) (layout : Layout) (r : Reading)
    (sound : IsSoundBy form size state pool layout r) (table : Table) (orders : Orders)
    (batch : ℕ → Option (List ℕ)) (end final : TableEnd)
    (row : Grows form.in_primary size table.pointer.0 orders batch pool end grown final)
    (ends : EndsAt layout table end) where
  pub grown_to : StandsTo form size state pool grown layout r table final
  grown_to = grows_pool form (sound_once form one none) none size (trees_stay form size) state table orders
      batch pool grown end final row layout r sound ends

  pub grown_of : IsTableOf grown_to.layout table
  grown_of = table_of_end grown_to.layout table final grown_to.ends

  pub grown_bits : (o : Opening) (h : Entries) → IsKept form size o h state pool pool
      → KeepsBits size pool grown
  grown_bits o h kept =
      let part : IsKept form size o h state grown pool = grows_part form (sound_once form one none) none size
      (trees_stay form size) state table o h orders batch (λ n. false) pool
      (λ a b ordered in_batch in_set. absurd cc) pool grown end final row layout r sound ends kept in
      behind_bits size grown pool part.of_pool part.layout part.behind
      (ap (λ (page : List ℕ). (header_in page).next.0) grown_to.header)

  -- ---- a version is pushed

  module _ (mid changed : Pages) (p : RecId) (n : Entry) (l link : Link)
      (pushes : PushesPages form.in_primary grown mid changed n.at p n.version l link) where
    pushed_mid : IsSoundBy form size state mid grown_to.layout r
    pushed_mid = put_still form size state grown grown_to.layout r grown_to.sound table grown_of mid n.at
        n.version (data_leaves form size n.at.page.0 none (trees_stay form size)) pushes.put_page pushes.put
        pushes.free pushes.apart

    pushed_data : IsDataChanged form size grown changed grown_to.layout
    pushed_data = data_more form size state grown grown_to.layout r grown_to.sound mid changed p.page.0
        (data_more form size state grown grown_to.layout r grown_to.sound grown mid n.at.page.0
        (data_self form size state grown grown_to.layout r grown_to.sound) pushes.put_page) pushes.slot_page

    pub push_bits : (o : Opening) (h : Entries) → IsKept form size o h state pool pool
        → KeepsBits size pool changed
    push_bits o h kept = bits_more size pool grown changed (grown_bits o h kept) pushed_data.bits

    module _ (of : table_at (stands_of layout) p.page.0 ≡ Some table)
        (other : table ≢ layout.catalog.table) (its_row : HasItsRow form.coding table n) (c : Layout)
        (s : Reading) (second : IsSoundBy form size state changed c s) where
      of_grown : table_at (stands_of grown_to.layout) p.page.0 ≡ Some table
      of_grown = grown_to.grown.stays p.page.0 table of

      pushed_sound : IsSoundBy form size state changed grown_to.layout s
      pushed_sound = subst (λ (x : Layout). IsSoundBy form size state changed x s) (sym (layout_stays form one none
          size state mid changed grown_to.layout c r s pushed_mid second
          (data_more form size state mid grown_to.layout r pushed_mid mid changed p.page.0
          (data_self form size state mid grown_to.layout r pushed_mid) pushes.slot_page)
          (page_leaves state mid changed grown_to.layout p.page.0 table pushes.slot_page.others of_grown
          (λ same. other (same ∙ grown_to.grown.catalog))))) second

      still : (q x : RecId) → Stands (r q) x → cells_of changed x ≡ cells_of mid x
      still q x there = pushes.turn.others x
          (off_anchor form size state mid grown_to.layout r pushed_mid p l pushes.slot q x there)

      cell_there : cells_of changed n.at ≡ Some (cells.Version n.version)
      cell_there = pushes.turn.others n.at (λ same.
          let both : Some (cells.Anchor l) ≡ Some (cells.Version n.version) =
          sym pushes.slot ∙ (ap (cells_of mid) (sym same) ∙ pushes.put.here) in absurd cc)
          ∙ pushes.put.here

      behind_there : Chain (cells_of changed) n.version.back (r p)
      behind_there = subst (λ (k : Option Link). Chain (cells_of changed) k (r p)) (sym pushes.back)
          (chain_stays (cells_of mid) (cells_of changed) (Some l) (r p)
          (subst (λ (x : Option Cell). Chain (cells_of mid) (newest_of p x) (r p)) pushes.slot
          (pushed_mid.records.reads p table of_grown))
          (each_standing (λ x. cells_of changed x ≡ cells_of mid x) (r p) (λ x there. still p x there)))

      pub push_reads : ReadsAfter form size state pool changed layout r p (n ∷ r p)
      push_reads = record {
        layout = grown_to.layout;
        reading = s;
        sound = pushed_sound;
        grown = grown_to.grown;
        here = read_here form one size state mid changed grown_to.layout r s pushed_mid pushed_sound p table
            of_grown (n ∷ r p) (subst (λ (x : Option Cell). Chain (cells_of changed) (newest_of p x) (n ∷ r p))
            (sym pushes.turn.here)
            (goes link n (r p) pushes.leads.0 cell_there pushes.leads.1 behind_there)) (
              its_row,
              rows_were form one size state mid changed grown_to.layout r s pushed_mid pushed_sound p
                  table of_grown,
            );
        others = λ q ne. read_beside form one size state mid changed grown_to.layout r s pushed_mid
            pushed_sound q (ap (newest_of q) (pushes.turn.others q ne)) (λ x there. still q x there);
      }

  -- ---- a record gets its first version

  module _ (mid changed : Pages) (p : RecId) (n : Entry) (link : Link)
      (adds : AddsPages form.in_primary grown mid changed n.at p n.version link) where
    added_mid : IsSoundBy form size state mid grown_to.layout r
    added_mid = put_still form size state grown grown_to.layout r grown_to.sound table grown_of mid n.at
        n.version (data_leaves form size n.at.page.0 none (trees_stay form size)) adds.put_page adds.put
        adds.free adds.apart

    added_data : IsDataChanged form size grown changed grown_to.layout
    added_data = data_more form size state grown grown_to.layout r grown_to.sound mid changed p.page.0
        (data_more form size state grown grown_to.layout r grown_to.sound grown mid n.at.page.0
        (data_self form size state grown grown_to.layout r grown_to.sound) adds.put_page) adds.slot_page

    pub first_bits : (o : Opening) (h : Entries) → IsKept form size o h state pool pool
        → KeepsBits size pool changed
    first_bits o h kept = bits_more size pool grown changed (grown_bits o h kept) added_data.bits

    module _ (of : table_at (stands_of layout) p.page.0 ≡ Some table)
        (other : table ≢ layout.catalog.table) (its_row : HasItsRow form.coding table n) (c : Layout)
        (s : Reading) (second : IsSoundBy form size state changed c s) where
      first_of : table_at (stands_of grown_to.layout) p.page.0 ≡ Some table
      first_of = grown_to.grown.stays p.page.0 table of

      first_sound : IsSoundBy form size state changed grown_to.layout s
      first_sound = subst (λ (x : Layout). IsSoundBy form size state changed x s) (sym (layout_stays form one none
          size state mid changed grown_to.layout c r s added_mid second
          (data_more form size state mid grown_to.layout r added_mid mid changed p.page.0
          (data_self form size state mid grown_to.layout r added_mid) adds.slot_page)
          (page_leaves state mid changed grown_to.layout p.page.0 table adds.slot_page.others first_of
          (λ same. other (same ∙ grown_to.grown.catalog))))) second

      first_still : (q x : RecId) → Stands (r q) x → cells_of changed x ≡ cells_of mid x
      first_still q x there = adds.turn.others x
          (off_blank form size state mid grown_to.layout r added_mid p adds.blank q x there)

      first_cell : cells_of changed n.at ≡ Some (cells.Version n.version)
      first_cell = adds.turn.others n.at (λ same.
          let both : None ≡ Some (cells.Version n.version) =
          sym adds.blank ∙ (ap (cells_of mid) (sym same) ∙ adds.put.here) in absurd cc)
          ∙ adds.put.here

      -- nothing was read there
      pub first_empty : r p ≡ []
      first_empty = at (r p) (subst (λ (x : Option Cell). Chain (cells_of mid) (newest_of p x) (r p)) adds.blank
          (added_mid.records.reads p table first_of))
        where
          at : (es : List Entry) → Chain (cells_of mid) None es → es ≡ []
          at [] chain = refl
          at (e ∷ es) chain = absurd (chain_opens (cells_of mid) None (e ∷ es) chain)

      pub first_reads : ReadsAfter form size state pool changed layout r p (n ∷ [])
      first_reads = record {
        layout = grown_to.layout;
        reading = s;
        sound = first_sound;
        grown = grown_to.grown;
        here = read_here form one size state mid changed grown_to.layout r s added_mid first_sound p table
            first_of (n ∷ []) (subst (λ (x : Option Cell). Chain (cells_of changed) (newest_of p x) (n ∷ []))
            (sym adds.turn.here) (goes link n [] adds.leads.0 first_cell adds.leads.1
            (subst (λ (k : Option Link). Chain (cells_of changed) k []) (sym adds.back) ended)))
            (its_row, tt);
        others = λ q ne. read_beside form one size state mid changed grown_to.layout r s added_mid
            first_sound q (ap (newest_of q) (adds.turn.others q ne)) (λ x there. first_still q x there);
      }
