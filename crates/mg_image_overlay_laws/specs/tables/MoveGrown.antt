-- A transaction's own version is replaced by one in another cell, in a table that gets pages in the same
-- batch: from the pool's change to every overlay.
use Rattle.std.proofs.Common.{◌≡◌, ◌≢◌, ◌⊎◌, inl, inr, refl, sym, ap, ◌∙◌, subst, ℕ, Bool, true, false, List, ◌∷◌, Option, None, Some}
use Rattle.std.proofs.lemmas.Bool.{cases_eq}
use Rattle.mg_base.specs.declared.numbers.RecId.{RecId}
use Rattle.mg_base.specs.declared.transaction.TxState.{TxState}
use Rattle.mg_base.specs.declared.transaction.TxState.TheVariants.{Active, Limbo, Dead}
use Rattle.mg_careful.specs.Precedence.{Orders}
use Rattle.mg_careful.specs.CarefulWrite.{Cache, PageSet}
use Rattle.mg_version.specs.declared.cell.Link.{Link}
use Rattle.mg_version.specs.declared.cell.Version.{Version}
use Rattle.mg_model.specs.declared.opening.Opening.{Opening}
use Rattle.mg_model.specs.declared.table.Table.{Table}
use Rattle.mg_model.specs.History.{Entries, Entry as Event}
use Rattle.mg_image.specs.declared.entry.Entry.{Entry}
use Rattle.mg_image.specs.Form.{Form, Pages}
use Rattle.mg_image.specs.ReadingLaws.{RowsAreOne}
use Rattle.mg_image.specs.Records.{Reading, Stands, record_key, writer}
use Rattle.mg_image.specs.Sound.{IsSoundBy, facts_by}
use Rattle.mg_image.specs.Tables.{Layout, stands_of, table_at}
use Rattle.mg_image_overlay_laws.specs.pages.Kinds.{HasNoSequences}
use Rattle.mg_image_overlay_laws.specs.kept.Rest.{LeavesRests}
use Rattle.mg_image_overlay_laws.specs.pages.Trees.{data_leaves, trees_stay}
use Rattle.mg_image_overlay_laws.specs.transactions.CommitLaws.{LeavesOthers}
use Rattle.mg_image_overlay_laws.specs.transactions.EndLaws.{longer_for}
use Rattle.mg_image_overlay_laws.specs.kept.KeptImages.{IsKept, keeping}
use Rattle.mg_image_overlay_laws.specs.pages.Reach.{IsEntered}
use Rattle.mg_image_overlay_laws.specs.tables.OneLayout.{sound_once}
use Rattle.mg_overlay_laws.specs.BatchLaws.{change_keeps}
use Rattle.mg_overlay_laws.specs.Overlays.{ChangesCache, EveryOverlay, KeepsNeeds, LaysBatch, NeedsAllDirty, laid, left_state}
use Rattle.mg_overlay_laws.specs.Views.{first_view, last_view, ordered_same}
use Rattle.mg_image_overlay_laws.specs.records.MoveEvery.{moved_whole}
use Rattle.mg_image_overlay_laws.specs.records.MovePart.{IsPlaced, MovesPages, OrdersMove, move_put_in, move_views}
use Rattle.mg_image_overlay_laws.specs.records.OwnVersion.{FindsNewest, FindsOwn, RewritesRow}
use Rattle.mg_image_overlay_laws.specs.pages.Entries.{StaysFound, found_beside}
use Rattle.mg_image_overlay_laws.specs.tables.Growing.{EndsAt, Grows, IsTableOf, MayBeWritten, TableEnd}
use Rattle.mg_image_overlay_laws.specs.tables.GrowingLaws.{StandsTo, grows_part, grows_pool, grows_whole, table_of_end}
use Rattle.mg_image_overlay_laws.specs.kept.Knowing.{entered_of, lawful_there, pointers_keep, put_still, rewrites_there}

-- ---- on one image

module _ (form : Form) (one : RowsAreOne form.coding) (none : HasNoSequences form) (size : ℕ)
    (o : Opening) (h : Entries) (state : ℕ → TxState) (orders : Orders)
    (batch : ℕ → Option (List ℕ)) (pool grown mid turned changed : Pages) (end final : TableEnd)
    (p x : RecId) (table : Table) (v : Version) (n : Entry) (l link : Link)
    (row : Grows form.in_primary size table.pointer.0 orders batch pool end grown final)
    (moves : MovesPages form.in_primary grown mid turned changed p x v n l link)
    (ordered : OrdersMove orders mid table n p x v)
    (finds : (layout : Layout) (r : Reading) → IsSoundBy form size state pool layout r
    → EndsAt layout table end)
    (is_there : (layout : Layout) (r : Reading) → IsSoundBy form size state pool layout r
    → FindsNewest (facts_by state pool layout) r p table x v)
    (may : (layout : Layout) (r : Reading) → IsSoundBy form size state pool layout r
    → MayBeWritten form.coding (facts_by state pool layout) table (record_key table (r p)) n)
  where
    rest_put : LeavesRests form size n.at.page.0
    rest_put = data_leaves form size n.at.page.0 none (trees_stay form size)

    rest_slot : LeavesRests form size p.page.0
    rest_slot = data_leaves form size p.page.0 none (trees_stay form size)

    rest_free : LeavesRests form size x.page.0
    rest_free = data_leaves form size x.page.0 none (trees_stay form size)

    module _ (layout : Layout) (r : Reading) (sound : IsSoundBy form size state pool layout r) where
      to : StandsTo form size state pool grown layout r table final
      to = grows_pool form (sound_once form one none) none size (trees_stay form size) state table orders
          batch pool grown end final row layout r sound (finds layout r sound)

      its : IsTableOf to.layout table
      its = table_of_end to.layout table final to.ends

      placed : (m : ℕ) → IsEntered (λ k. orders k p.page.0 ≡ true) mid m table.pointer.0
          → table_at (stands_of to.layout) m ≡ Some table
      placed m entered = entered_of form size state grown to.layout r to.sound table its
          (λ k. orders k p.page.0 ≡ true) mid (pointers_keep form size state grown to.layout r to.sound table
          its mid n.at.page.0 moves.put_page.others moves.put_page.kind) m entered

      own_to : FindsOwn form.coding (facts_by state grown to.layout) r p table x v n
      own_to = record {
        found = record {
          of = to.grown.stays p.page.0 table was.of;
          newest = was.newest;
          older = was.older;
          first = was.first;
          at = was.at;
          version = was.version;
        };
        lawful = lawful_there form.coding state pool grown layout to.layout table (record_key table (r p)) n
            to.header (may layout r sound) (placed n.at.page.0 ordered.pointers);
      }
        where
          was : FindsNewest (facts_by state pool layout) r p table x v
          was = is_there layout r sound

      pub finds_grown : (other : Layout) (s : Reading) → IsSoundBy form size state grown other s
          → FindsOwn form.coding (facts_by state grown other) s p table x v n
      finds_grown other s so =
          let same = sound_once form one none size state grown to.layout other r s to.sound so in
          subst (λ (y : Reading). FindsOwn form.coding (facts_by state grown other) y p table x v n) same.1
          (subst (λ (y : Layout). FindsOwn form.coding (facts_by state grown y) r p table x v n) same.0
          own_to)

      mid_sound : IsSoundBy form size state mid to.layout r
      mid_sound = put_still form size state grown to.layout r to.sound table its mid n.at n.version rest_put
          moves.put_page moves.put moves.free moves.apart

      found : StaysFound table pool turned
      found k stored is = found_beside form size state mid turned p.page.0 to.layout r table mid_sound its
          moves.slot_page k stored (found_beside form size state grown mid n.at.page.0 to.layout r table
          to.sound its moves.put_page k stored (to.found k stored is))

    grown_whole : (start : IsKept form size o h state pool pool) → IsKept form size o h state grown grown
    grown_whole start = grows_whole form (sound_once form one none) none size (trees_stay form size) state
        table o h orders batch pool grown end final row start.layout start.reading start.sound
        (finds start.layout start.reading start.sound) start

    pub moved_part : state v.tx.0 ≡ Dead → (start : IsKept form size o h state pool pool)
        → batch n.at.page.0 ≢ None → batch p.page.0 ≢ None
        → ((m : ℕ) → batch m ≡ None → mid m ≡ changed m) → (set_ : PageSet) (image : Pages)
        → LaysBatch pool changed batch orders set_ image → IsKept form size o h state pool image
        → IsKept form size o h state changed (laid batch set_ image)
    moved_part dead start cell_in slot_in left set_ image lays was =
        subst (IsKept form size o h state changed) (last_view pool changed batch orders set_ image lays)
        (move_views form one none size o h state grown mid turned changed p x table v n l link moves
        (finds_grown start.layout start.reading start.sound) rest_put rest_slot rest_free dead
        (grown_whole start) orders set_ image
        (λ in_set. with_cell in_set (cases_eq n.at.page.0 p.page.0))
        (λ in_set. with_slot in_set (cases_eq x.page.0 p.page.0))
        (λ m before in_set. ordered_same pool changed batch orders set_ image mid lays left m p.page.0
        before in_set) ordered
        (grows_part form (sound_once form one none) none size (trees_stay form size) state table o h orders
        batch set_ image lays.together pool grown end final row start.layout start.reading start.sound
        (finds start.layout start.reading start.sound)
        (subst (IsKept form size o h state pool)
        (sym (first_view pool changed batch orders set_ image lays)) was)))
      where
        with_cell : set_ p.page.0 ≡ true → (n.at.page.0 ≡ p.page.0) ⊎ (n.at.page.0 ≢ p.page.0)
            → set_ n.at.page.0 ≡ true
        with_cell in_set (inl same) = ap set_ same ∙ in_set
        with_cell in_set (inr two) = lays.together n.at.page.0 p.page.0 (ordered.cell two) cell_in in_set

        with_slot : set_ x.page.0 ≡ true → (x.page.0 ≡ p.page.0) ⊎ (x.page.0 ≢ p.page.0)
            → set_ p.page.0 ≡ true
        with_slot in_set (inl same) = ap set_ (sym same) ∙ in_set
        with_slot in_set (inr two) = lays.together p.page.0 x.page.0 (ordered.freed two) slot_in in_set

    pub moved_grown_whole : (event : Event) (by : ℕ) → state (writer n) ≡ Limbo → LeavesOthers o h event by
        → (start : IsKept form size o h state pool pool)
        → RewritesRow form size o h event state pool pool p table n start
        → IsKept form size o (event ∷ h) state changed changed
    moved_grown_whole event by limbo brings start knows = done put.kept put.finds_now (put.unread refl)
      where
        grown_finds : (other : Layout) (s : Reading) → IsSoundBy form size state grown other s
            → FindsOwn form.coding (facts_by state grown other) s p table x v n
        grown_finds = finds_grown start.layout start.reading start.sound

        put : IsPlaced form one none size o h state grown mid turned changed p x table v n l link moves
            grown_finds rest_put rest_slot rest_free true mid
        put = move_put_in form one none size o h state grown mid turned changed p x table v n l link moves
            grown_finds rest_put rest_slot rest_free grown (grown_whole start) mid
            (record { was = refl; is = refl; others = moves.put_page.others })

        done : (kept : IsKept form size o h state mid mid)
            → FindsOwn form.coding (facts_by state mid kept.of_pool) kept.in_pool p table x v n
            → ((q : RecId) → Stands (kept.reading q) n.at → ⊥)
            → IsKept form size o (event ∷ h) state changed changed
        done kept finds_now unread = moved_whole form size o h event by state grown mid turned changed p x
            table v n l link moves rest_slot rest_free limbo brings kept found_here unread
            (rewrites_there form (sound_once form one none) size o h event state pool mid table p n start
            (to start.layout start.reading start.sound).layout
            (mid_sound start.layout start.reading start.sound)
            (to start.layout start.reading start.sound).grown kept turned
            (found start.layout start.reading start.sound) knows)
          where
            -- the pool's image stands in one way
            same : (kept.of_pool ≡ kept.layout) × (kept.in_pool ≡ kept.reading)
            same = sound_once form one none size state mid kept.of_pool kept.layout kept.in_pool kept.reading
                kept.pool_sound kept.sound

            found_here : FindsOwn form.coding (facts_by state mid kept.layout) kept.reading p table x v n
            found_here = subst (λ (s : Reading). FindsOwn form.coding (facts_by state mid kept.layout) s p
                table x v n) same.1 (subst (λ (y : Layout). FindsOwn form.coding (facts_by state mid y)
                kept.in_pool p table x v n) same.0 finds_now)

-- ---- the batch

-- an active transaction replaces its own version of a record by one in another cell, in a table that gets
-- pages in the same batch: every overlay is kept, for the history with that write
abbrev pub MoveGrownKeeps : Form → Type 0
MoveGrownKeeps form = (size : ℕ) (o : Opening) (h : Entries) (event : Event) (by : ℕ)
    (state : ℕ → TxState) (old new : Cache) (grown mid turned : Pages) (gone : PageSet)
    (batch : ℕ → Option (List ℕ)) (orders : Orders) (needs now : ℕ → PageSet) (end final : TableEnd)
    (p x : RecId) (table : Table) (v : Version) (n : Entry) (l link : Link)
    → ChangesCache old new gone batch orders → state by ≡ Active → writer n ≡ by
    → KeepsNeeds old gone needs now → NeedsAllDirty new now by
    -- the pages, and their orders
    → Grows form.in_primary size table.pointer.0 orders batch old.pool end grown final
    → MovesPages form.in_primary grown mid turned new.pool p x v n l link
    → batch n.at.page.0 ≢ None → batch p.page.0 ≢ None
    → ((m : ℕ) → batch m ≡ None → mid m ≡ new.pool m)
    → OrdersMove orders mid table n p x v
    -- the table, the record, and the version
    → ((chosen : ℕ → Bool) (layout : Layout) (r : Reading)
    → IsSoundBy form size (left_state chosen state) old.pool layout r → EndsAt layout table end)
    → ((chosen : ℕ → Bool) (layout : Layout) (r : Reading)
    → IsSoundBy form size (left_state chosen state) old.pool layout r
    → FindsNewest (facts_by (left_state chosen state) old.pool layout) r p table x v)
    → ((chosen : ℕ → Bool) (layout : Layout) (r : Reading)
    → IsSoundBy form size (left_state chosen state) old.pool layout r
    → MayBeWritten form.coding (facts_by (left_state chosen state) old.pool layout) table
    (record_key table (r p)) n)
    -- the history, and the statement
    → LeavesOthers o h event by
    → ((chosen : ℕ → Bool) → chosen by ≡ true
    → (kept : IsKept form size o h (left_state chosen state) old.pool old.pool)
    → RewritesRow form size o h event (left_state chosen state) old.pool old.pool p table n kept)
    → EveryOverlay (keeping form size o h) state old needs
    → EveryOverlay (keeping form size o (event ∷ h)) state new now

pub move_grown_every : (form : Form) → RowsAreOne form.coding → HasNoSequences form → MoveGrownKeeps form
move_grown_every form one none size o h event by state old new grown mid turned gone batch orders needs now
    end final p x table v n l link changes active is_by left all row moves cell_in slot_in left_by_batch
    ordered finds is_there may brings knows every =
    change_keeps (keeping form size o h) (keeping form size o (event ∷ h)) state by old new gone batch
    orders needs now changes active left all (record { part = part; whole = whole }) every
  where
    part : (chosen : ℕ → Bool) (set_ : PageSet) (image : Pages) → chosen by ≡ false
        → LaysBatch old.pool new.pool batch orders set_ image
        → IsKept form size o h (left_state chosen state) old.pool old.pool
        → IsKept form size o h (left_state chosen state) old.pool image
        → IsKept form size o (event ∷ h) (left_state chosen state) new.pool (laid batch set_ image)
    part chosen set_ image out lays of_pool was = longer_for form size o h event by
        (left_state chosen state) new.pool (laid batch set_ image) brings not_limbo
        (moved_part form one none size o h (left_state chosen state) orders batch old.pool grown mid turned
        new.pool end final p x table v n l link row moves ordered (finds chosen) (is_there chosen)
        (may chosen) dead of_pool cell_in slot_in left_by_batch set_ image lays was)
      where
        dead : left_state chosen state v.tx.0 ≡ Dead
        dead =
            let writers : v.tx.0 ≡ by = ap (λ t. t.0) (sym moves.tx) ∙ is_by in
            rw (writers, out, active) refl

        not_limbo : left_state chosen state by ≢ Limbo
        not_limbo is =
            let gone_ : left_state chosen state by ≡ Dead = rw (out, active) refl in
            let both : Dead ≡ Limbo = sym gone_ ∙ is in absurd cc

    whole : (chosen : ℕ → Bool) → chosen by ≡ true
        → IsKept form size o h (left_state chosen state) old.pool old.pool
        → IsKept form size o (event ∷ h) (left_state chosen state) new.pool new.pool
    whole chosen is start = moved_grown_whole form one none size o h (left_state chosen state) orders batch
        old.pool grown mid turned new.pool end final p x table v n l link row moves ordered (finds chosen)
        (is_there chosen) (may chosen) event by limbo brings start (knows chosen is start)
      where
        limbo : left_state chosen state (writer n) ≡ Limbo
        limbo = rw (is_by, is, active) refl
