-- A record gets its first version by a transaction, from the pool's change to every overlay.
use Rattle.std.proofs.Common.{◌≡◌, ◌≢◌, inl, inr, refl, sym, ap, ◌∙◌, subst, ℕ, Bool, true, false, List, [], ◌∷◌, Option, None, Some}
use Rattle.mg_base.specs.declared.numbers.RecId.{RecId}
use Rattle.mg_base.specs.declared.transaction.TxState.{TxState}
use Rattle.mg_base.specs.declared.transaction.TxState.TheVariants.{Active, Limbo, Dead}
use Rattle.mg_careful.specs.Precedence.{Orders}
use Rattle.mg_careful.specs.CarefulWrite.{Cache, PageSet}
use Rattle.mg_version.specs.declared.cell.Cell.TheVariants as cells
use Rattle.mg_version.specs.declared.cell.Link.{Link}
use Rattle.mg_version.specs.declared.cell.Version.{Version}
use Rattle.mg_model.specs.declared.opening.Opening.{Opening}
use Rattle.mg_model.specs.declared.table.Table.{Table}
use Rattle.mg_model.specs.Answers.{is_committed}
use Rattle.mg_model.specs.History.{Entries, Entry as Event}
use Rattle.mg_image.specs.declared.entry.Entry.{Entry}
use Rattle.mg_image.specs.Form.{Coding, Form, Pages}
use Rattle.mg_image.specs.Indexes.{IsFoundIn}
use Rattle.mg_image.specs.RecordRules.{AreRecords, Facts, IsVersion, TakesKey, committed_in, table_in}
use Rattle.mg_image.specs.Records.{Cells, Chain, Changes as CellChanges, Reading, Stands, cells_of, ended, goes, key_of, newest_of, record_key, shown, writer}
use Rattle.mg_image.specs.Sound.{IsSoundBy, facts_by}
use Rattle.mg_image.specs.StepLaws.{put_reading, step_sound}
use Rattle.mg_image.specs.Tables.{Layout, stands_of}
use Rattle.mg_image_overlay_laws.specs.records.Skips.{chain_cell}
use Rattle.mg_image_overlay_laws.specs.pages.Kinds.{HasNoSequences}
use Rattle.mg_image_overlay_laws.specs.records.Push.{free_empty}
use Rattle.mg_image_overlay_laws.specs.kept.Rest.{LeavesRests}
use Rattle.mg_image_overlay_laws.specs.pages.Trees.{data_leaves, trees_stay}
use Rattle.mg_image_overlay_laws.specs.transactions.CommitLaws.{LeavesOthers}
use Rattle.mg_image_overlay_laws.specs.transactions.EndLaws.{longer_for}
use Rattle.mg_image_overlay_laws.specs.kept.KeptImages.{IsKept, keeping}
use Rattle.mg_image_overlay_laws.specs.pages.Reach.{IsEntered, entered_with, table_in_image}
use Rattle.mg_overlay_laws.specs.BatchLaws.{change_keeps}
use Rattle.mg_overlay_laws.specs.Overlays.{ChangesCache, EveryOverlay, KeepsNeeds, LaysBatch, NeedsAllDirty, laid, left_state}
use Rattle.mg_overlay_laws.specs.Views.{LaysPage}
use Rattle.mg_image_overlay_laws.specs.records.AddPart.{AddsPages, FindsPlace, IsPutThere, OrdersAdd, add_part, put_in}
use Rattle.mg_image_overlay_laws.specs.records.OwnWrites.{AreOwn, WritesRow, own_kept}

-- ---- the records, with the writer in limbo

module _ (coding : Coding) (f : Facts) (old new : Cells) (r : Reading) (p : RecId) (table : Table)
    (n : Entry) (link : Link) (are : AreRecords coding f old r) (of : table_in f p ≡ Some table)
    (blank : old p ≡ None) (change : CellChanges old new p (Some (cells.Anchor link)))
    (cell : old n.at ≡ Some (cells.Version n.version))
    (leads : (n.at ≡ link.rec) × (n.version.tx ≡ link.tx)) (back : n.version.back ≡ None)
    (unread : (q : RecId) → Stands (r q) n.at → ⊥)
    (lawful : IsVersion coding f table (key_of table n.row) n)
    (free : (q : RecId) → q ≢ p → table_in f q ≡ Some table → TakesKey f (r q)
    → record_key table (r q) ≡ key_of table n.row → ⊥) where
  added_records : AreRecords coding f new (put_reading r p (n ∷ []))
  added_records = step_sound coding f old new r p (Some (cells.Anchor link)) p table (n ∷ []) are change
      (record {
        of_table = of;
        reads = rw change.here (goes link n [] leads.0 (change.others n.at not_slot ∙ cell) leads.1
            (subst (λ (k : Option Link). Chain new k []) (sym back) ended));
        slot = λ ne. absurd (ne refl);
        out = out;
        lawful = record { once = ((λ none. none), tt); each = (lawful, tt); backs = tt };
        apart = apart;
        keys = λ q ne of_q takes takes_q same. free q ne of_q takes_q (sym same);
      })
    where
      not_slot : n.at ≢ p
      not_slot same =
          let both : Some (cells.Version n.version) ≡ None = sym cell ∙ (ap old same ∙ blank) in absurd cc

      out : (q : RecId) → q ≢ p → Stands (r q) p → ⊥
      out q ne there = by (table_in f q) refl
        where
          by : (t : Option Table) → table_in f q ≡ t → ⊥
          by None none = subst (λ (fs : List Entry). Stands fs p) (are.outside q none) there
          by (Some other) of_q = at (chain_cell old (newest_of q (old q)) (r q) p (are.reads q other of_q)
              there)
            where
              at : (w : Version) × (old p ≡ Some (cells.Version w)) → ⊥
              at (w, is) = let both : None ≡ Some (cells.Version w) = sym blank ∙ is in absurd cc

      apart : (q y : RecId) → q ≢ p → Stands (n ∷ []) y → Stands (r q) y → ⊥
      apart q y ne (inl at) also = unread q (subst (Stands (r q)) (sym at) also)
      apart q y ne (inr none) also = none

-- ---- whole: on the pool's own image, with the writer in limbo

module _ (form : Form) (size : ℕ) (o : Opening) (h : Entries) (event : Event) (by : ℕ)
    (state : ℕ → TxState) (pool mid changed : Pages) (p : RecId) (table : Table) (n : Entry)
    (link : Link) (adds : AddsPages form.in_primary pool mid changed n.at p n.version link)
    (finds : (layout : Layout) (r : Reading) → IsSoundBy form size state pool layout r
    → FindsPlace form.coding (facts_by state pool layout) p table n)
    (rest_put : LeavesRests form size n.at.page.0) (rest_slot : LeavesRests form size p.page.0)
    (limbo : state (writer n) ≡ Limbo)
    (entered : IsEntered (λ m. mid m ≡ mid m) mid n.at.page.0 table.pointer.0)
    (slot_entered : IsEntered (λ m. mid m ≡ mid m) mid p.page.0 table.pointer.0)
    (brings : LeavesOthers o h event by)
    (writes : (kept : IsKept form size o h state mid mid)
    → WritesRow form size o h event state mid changed p table n kept) where
  pub add_whole : IsKept form size o h state pool pool → IsKept form size o (event ∷ h) state changed changed
  add_whole start = done put.kept put.finds_now (put.unread refl)
    where
      lays : LaysPage pool mid pool mid n.at.page.0
      lays = record { was = refl; is = refl; others = adds.put_page.others }

      put : IsPutThere form size o h state pool mid changed p table n link adds finds rest_put rest_slot
          true mid
      put = put_in form size o h state pool mid changed p table n link adds finds rest_put rest_slot pool
          start mid lays

      done : (kept : IsKept form size o h state mid mid)
          → FindsPlace form.coding (facts_by state mid kept.of_pool) p table n
          → ((q : RecId) → Stands (kept.reading q) n.at → ⊥)
          → IsKept form size o (event ∷ h) state changed changed
      done kept finds_now unread = own_kept form size o h event state mid changed p.page.0 p table (writer n)
          (key_of table n.row) (n ∷ []) kept row.after (record {
            page = adds.slot_page;
            rest = rest_slot state mid changed kept.layout kept.reading kept.sound adds.slot_page;
            records = added_records form.coding (facts_by state mid kept.layout) (cells_of mid)
                (cells_of changed) kept.reading p table n link kept.sound.records is_of adds.blank adds.turn
                adds.put.here adds.leads adds.back unread lawful row.free;
            writes = record {
              of = is_of;
              was = subst (AreOwn (facts_by state mid kept.layout) table (writer n) (key_of table n.row))
                  (sym empty) (record { keyed = tt; its = λ e older first in_limbo. absurd (none first) });
              is_ = record {
                keyed = (refl, tt);
                its = λ e older first in_limbo. let head : n ≡ e = cc in ap writer (sym head);
              };
              shows = off ∙ sym (ap (shown (committed_in (facts_by state mid kept.layout))) empty);
              free = row.free;
            };
            turns = row.turns;
            rows = brings.rows;
            after_are = row.after_are;
            no_catalog = row.no_catalog;
            stands = (row.may, tt);
            found = λ e older first in_limbo alive.
                let head : n ≡ e = cc in
                subst (λ (x : Entry). IsFoundIn changed table.indexes p x.row) head
                (row.found (ap (λ (x : Entry). x.version.deleted) head ∙ alive));
          })
        where
          row : WritesRow form size o h event state mid changed p table n kept
          row = writes kept

          there : (k : ℕ) → IsEntered (λ m. mid m ≡ mid m) mid k table.pointer.0
              → (facts_by state mid kept.of_pool).table_of k ≡ Some table
              → (facts_by state mid kept.layout).table_of k ≡ Some table
          there k entered_ of = table_in_image form.in_primary size mid mid (stands_of kept.layout)
              (stands_of kept.of_pool) kept.behind.stands kept.sound.tables k table entered_ of

          is_of : table_in (facts_by state mid kept.layout) p ≡ Some table
          is_of = there p.page.0 slot_entered finds_now.of

          lawful : IsVersion form.coding (facts_by state mid kept.layout) table (key_of table n.row) n
          lawful = record {
            placed = there n.at.page.0 entered finds_now.lawful.placed;
            drawn = finds_now.lawful.drawn;
            dead = finds_now.lawful.dead;
            format = finds_now.lawful.format;
            spelled = finds_now.lawful.spelled;
            storable = finds_now.lawful.storable;
            erased = finds_now.lawful.erased;
            keyed = finds_now.lawful.keyed;
          }

          empty : kept.reading p ≡ []
          empty = free_empty form.coding (facts_by state mid kept.layout) (cells_of mid) kept.reading p
              kept.sound.records adds.blank

          none : {e : Entry} {older : List Entry} → [] ≡ e ∷ older → ⊥
          none is = absurd cc

          off : shown (committed_in (facts_by state mid kept.layout)) (n ∷ []) ≡ None
          off = let counts : is_committed (state (writer n)) ≡ false = ap is_committed limbo in
              rw counts refl

-- ---- the batch

-- a record gets its first version by an active transaction: every overlay is kept, for the history
-- with that write
abbrev pub AddKeeps : Form → Type 0
AddKeeps form = (size : ℕ) (o : Opening) (h : Entries) (event : Event) (by : ℕ)
    (state : ℕ → TxState) (old new : Cache) (mid : Pages) (gone : PageSet)
    (batch : ℕ → Option (List ℕ)) (orders : Orders) (needs now : ℕ → PageSet) (p : RecId)
    (table : Table) (n : Entry) (link : Link)
    → ChangesCache old new gone batch orders → state by ≡ Active → writer n ≡ by
    → KeepsNeeds old gone needs now → NeedsAllDirty new now by
    -- the pages, their orders, and the place
    → AddsPages form.in_primary old.pool mid new.pool n.at p n.version link
    → batch n.at.page.0 ≢ None → ((m : ℕ) → batch m ≡ None → mid m ≡ new.pool m)
    → OrdersAdd orders mid table n.at p
    → ((chosen : ℕ → Bool) (layout : Layout) (r : Reading)
    → IsSoundBy form size (left_state chosen state) old.pool layout r
    → FindsPlace form.coding (facts_by (left_state chosen state) old.pool layout) p table n)
    -- the history, and the statement
    → LeavesOthers o h event by
    → ((chosen : ℕ → Bool) → chosen by ≡ true
    → (kept : IsKept form size o h (left_state chosen state) mid mid)
    → WritesRow form size o h event (left_state chosen state) mid new.pool p table n kept)
    → EveryOverlay (keeping form size o h) state old needs
    → EveryOverlay (keeping form size o (event ∷ h)) state new now

pub add_every : (form : Form) → HasNoSequences form → AddKeeps form
add_every form none size o h event by state old new mid gone batch orders needs now p table n link changes
    active is_by left all adds in_batch left_by_batch ordered finds brings writes every =
    change_keeps (keeping form size o h) (keeping form size o (event ∷ h)) state by old new gone batch
    orders needs now changes active left all (record { part = part; whole = whole }) every
  where
    rest_put : LeavesRests form size n.at.page.0
    rest_put = data_leaves form size n.at.page.0 none (trees_stay form size)

    rest_slot : LeavesRests form size p.page.0
    rest_slot = data_leaves form size p.page.0 none (trees_stay form size)

    part : (chosen : ℕ → Bool) (set_ : PageSet) (image : Pages) → chosen by ≡ false
        → LaysBatch old.pool new.pool batch orders set_ image
        → IsKept form size o h (left_state chosen state) old.pool old.pool
        → IsKept form size o h (left_state chosen state) old.pool image
        → IsKept form size o (event ∷ h) (left_state chosen state) new.pool (laid batch set_ image)
    part chosen set_ image out lays of_pool was = longer_for form size o h event by
        (left_state chosen state) new.pool (laid batch set_ image) brings not_limbo
        (add_part form size o h (left_state chosen state) old.pool mid new.pool p table n link adds
        (finds chosen) rest_put rest_slot dead batch orders set_ image in_batch left_by_batch ordered lays
        was)
      where
        dead : left_state chosen state (writer n) ≡ Dead
        dead = rw (is_by, out, active) refl

        not_limbo : left_state chosen state by ≢ Limbo
        not_limbo is =
            let gone_ : left_state chosen state by ≡ Dead = rw (out, active) refl in
            let both : Dead ≡ Limbo = sym gone_ ∙ is in absurd cc

    whole : (chosen : ℕ → Bool) → chosen by ≡ true
        → IsKept form size o h (left_state chosen state) old.pool old.pool
        → IsKept form size o (event ∷ h) (left_state chosen state) new.pool new.pool
    whole chosen is start = add_whole form size o h event by (left_state chosen state) old.pool mid
        new.pool p table n link adds (finds chosen) rest_put rest_slot limbo
        (entered_with (λ m. orders m p.page.0 ≡ true) (λ m. mid m ≡ mid m) mid n.at.page.0
        table.pointer.0 (λ m before. refl) ordered.pointers)
        (entered_with (λ m. orders m p.page.0 ≡ true) (λ m. mid m ≡ mid m) mid p.page.0
        table.pointer.0 (λ m before. refl) ordered.slot_pointers) brings (writes chosen is) start
      where
        limbo : left_state chosen state (writer n) ≡ Limbo
        limbo = rw (is_by, is, active) refl
