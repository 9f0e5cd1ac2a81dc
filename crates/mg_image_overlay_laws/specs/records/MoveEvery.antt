-- A transaction replaces its own version of a record by one in another cell, from the pool's change to
-- every overlay.
use Rattle.std.proofs.Common.{◌≡◌, ◌≢◌, inl, inr, ap, sym, subst, ◌∙◌, refl, ℕ, Bool, true, false, List, ◌∷◌, Option, None, Some}
use Rattle.mg_base.specs.declared.numbers.RecId.{RecId}
use Rattle.mg_base.specs.declared.transaction.TxState.{TxState}
use Rattle.mg_base.specs.declared.transaction.TxState.TheVariants.{Active, Committed, Dead, Limbo}
use Rattle.mg_careful.specs.CarefulWrite.{Cache, PageSet, Pages}
use Rattle.mg_careful.specs.Precedence.{Orders}
use Rattle.mg_value.specs.declared.value.Value.{Value}
use Rattle.mg_version.specs.declared.cell.Cell.TheVariants as cells
use Rattle.mg_version.specs.declared.cell.Link.{Link}
use Rattle.mg_version.specs.declared.cell.Version.{Version}
use Rattle.mg_model.specs.declared.opening.Opening.{Opening}
use Rattle.mg_model.specs.declared.table.Table.{Table}
use Rattle.mg_model.specs.History.{Entries, Entry as Event}
use Rattle.mg_image.specs.declared.entry.Entry.{Entry}
use Rattle.mg_image.specs.Catalog.{MayStandIn}
use Rattle.mg_image.specs.FactLaws.{each_has}
use Rattle.mg_image.specs.Form.{Form}
use Rattle.mg_image.specs.Indexes.{IsFoundIn}
use Rattle.mg_image.specs.ReadingLaws.{RowsAreOne}
use Rattle.mg_image.specs.RecordRules.{AreRecords, Each, Facts, IsVersion, TakesKey, committed_in}
use Rattle.mg_image.specs.Records.{Chain, Reading, Stands, cells_of, key_of, record_key, shown, writer}
use Rattle.mg_image.specs.Sound.{IsSoundBy, facts_by}
use Rattle.mg_image.specs.StepLaws.{chain_stays, put_reading}
use Rattle.mg_image.specs.Tables.{Layout}
use Rattle.mg_image_overlay_laws.specs.pages.Kinds.{HasNoSequences}
use Rattle.mg_image_overlay_laws.specs.kept.Rest.{LeavesRests}
use Rattle.mg_image_overlay_laws.specs.pages.Trees.{data_leaves, trees_stay}
use Rattle.mg_image_overlay_laws.specs.transactions.CommitLaws.{LeavesOthers}
use Rattle.mg_image_overlay_laws.specs.transactions.EndLaws.{longer_for}
use Rattle.mg_image_overlay_laws.specs.kept.KeptImages.{IsKept, keeping}
use Rattle.mg_image_overlay_laws.specs.tables.OneLayout.{sound_once}
use Rattle.mg_overlay_laws.specs.BatchLaws.{change_keeps}
use Rattle.mg_overlay_laws.specs.Overlays.{ChangesCache, EveryOverlay, KeepsNeeds, LaysBatch, NeedsAllDirty, laid, left_state}
use Rattle.mg_image_overlay_laws.specs.records.FreePart.{IsTurned, free_in}
use Rattle.mg_image_overlay_laws.specs.records.MovePart.{IsPlaced, MovesPages, OrdersMove, move_part, move_put_in}
use Rattle.mg_image_overlay_laws.specs.records.MoveRecords.{move_sound}
use Rattle.mg_image_overlay_laws.specs.records.OwnThere.{behind, none_reads, older_off, older_settled, stood}
use Rattle.mg_image_overlay_laws.specs.records.OwnVersion.{FindsNewest, FindsOwn, RewritesRow, stands_as}
use Rattle.mg_image_overlay_laws.specs.records.Overwrite.{not_committed}
use Rattle.mg_image_overlay_laws.specs.records.TakeOut.{slot_off}
use Rattle.mg_image_overlay_laws.specs.records.OwnWrites.{WritesKept, own_in_pool, own_kept, own_reading}

-- ---- whole: on the pool's own image, with the writer in limbo

-- the slot is turned, and the old cell freed, where the new one was put
module _ (form : Form) (size : ℕ) (o : Opening) (h : Entries) (event : Event) (by : ℕ)
    (state : ℕ → TxState) (pool placed turned changed : Pages) (p x : RecId) (table : Table)
    (v : Version) (n : Entry) (l link : Link)
    (moves : MovesPages form.in_primary pool placed turned changed p x v n l link)
    (rest_slot : LeavesRests form size p.page.0) (rest_free : LeavesRests form size x.page.0)
    (limbo : state (writer n) ≡ Limbo) (brings : LeavesOthers o h event by)
    (kept : IsKept form size o h state placed placed)
    (own_found : FindsOwn form.coding (facts_by state placed kept.layout) kept.reading p table x v n)
    (unread : (q : RecId) → Stands (kept.reading q) n.at → ⊥)
    (row : RewritesRow form size o h event state placed turned p table n kept) where
  abbrev g : Facts
  g = facts_by state placed kept.layout

  abbrev found : FindsNewest g kept.reading p table x v
  found = own_found.found

  open_n : state (writer n) ≢ Committed
  open_n is = let both : Limbo ≡ Committed = sym limbo ∙ is in absurd cc

  writer_was : writer found.newest ≡ writer n
  writer_was = ap (λ (w : Version). w.tx.0) found.version ∙ ap (λ t. t.0) (sym moves.tx)

  settled : Each (λ e. state (writer e) ≡ Committed) found.older
  settled = older_settled form size state placed kept.layout kept.reading kept.sound p table x v l found
      moves.slot

  behind_ : Chain (cells_of placed) v.back found.older
  behind_ = behind form size state placed kept.layout kept.reading kept.sound p table x v l found moves.slot

  records : AreRecords form.coding g (cells_of turned) (put_reading kept.reading p (n ∷ found.older))
  records = move_sound form.coding g (cells_of placed) (cells_of turned) kept.reading p table l link n
      found.newest found.older found.older kept.sound.records (record {
        of = found.of;
        first = found.first;
        slot = moves.slot;
        change = moves.turn;
        cell = moves.put.here;
        leads = moves.leads;
        chain = subst (λ (k : Option Link). Chain (cells_of turned) k found.older) (sym moves.back)
            (chain_stays (cells_of placed) (cells_of turned) p (Some (cells.Anchor link)) moves.turn v.back
            found.older behind_ (slot_off (cells_of placed) p l moves.slot v.back found.older behind_));
        writers = sym writer_was;
        open_ = open_n;
        unread = unread;
        lawful = subst (λ (k : Value). IsVersion form.coding g table k n) (sym own_found.lawful.keyed)
            own_found.lawful;
        behind = inl (refl, own_found.lawful.keyed);
      })

  keyed : Each (λ e. key_of table e.row ≡ key_of table n.row) (kept.reading p)
  keyed = each_has (IsVersion form.coding g table (record_key table (kept.reading p)))
      (λ e. key_of table e.row ≡ key_of table n.row) (λ e is. is.keyed ∙ sym own_found.lawful.keyed)
      (kept.reading p) (kept.sound.records.each p table found.of).each

  shows : shown (committed_in g) (n ∷ found.older) ≡ shown (committed_in g) (kept.reading p)
  shows =
      let off : committed_in g (writer n) ≡ false = not_committed (state (writer n)) open_n in
      let was_off : committed_in g (writer found.newest) ≡ false = ap (committed_in g) writer_was ∙ off in
      let new_ : shown (committed_in g) (n ∷ found.older) ≡ shown (committed_in g) found.older =
      rw off refl in
      let old_ : shown (committed_in g) (found.newest ∷ found.older)
      ≡ shown (committed_in g) found.older = rw was_off refl in
      new_ ∙ (sym old_ ∙ ap (shown (committed_in g)) (sym found.first))

  taken : TakesKey g (kept.reading p)
  taken = subst (TakesKey g) (sym found.first) (inr (ap state writer_was ∙ limbo))

  may : Each (MayStandIn g kept.reading kept.layout.catalog.table table) (found.newest ∷ found.older)
  may = subst (Each (MayStandIn g kept.reading kept.layout.catalog.table table)) found.first
      (kept.sound.own_tables p table found.of)

  writes : WritesKept form size o h event state placed turned p.page.0 p table (writer n)
      (key_of table n.row) (n ∷ found.older) kept row.after
  writes = record {
    page = moves.slot_page;
    rest = rest_slot state placed turned kept.layout kept.reading kept.sound moves.slot_page;
    records = records;
    writes = record {
      of = found.of;
      was = record {
        keyed = keyed;
        its = λ e es first in_limbo.
            let heads : found.newest ∷ found.older ≡ e ∷ es = sym found.first ∙ first in
            let head : found.newest ≡ e = cc in ap writer (sym head) ∙ writer_was;
      };
      is_ = record {
        keyed = (refl, (subst (Each (λ e. key_of table e.row ≡ key_of table n.row)) found.first keyed).1);
        its = λ e es first in_limbo. let head : n ≡ e = cc in ap writer (sym head);
      };
      shows = shows;
      free = λ q ne of takes same. ne (kept.sound.records.keys q p table of found.of takes taken
          (same ∙ own_found.lawful.keyed));
    };
    turns = record { here = row.turns.here; others = row.turns.others };
    rows = brings.rows;
    after_are = row.after_are;
    no_catalog = row.no_catalog;
    stands = (
      stands_as g kept.reading kept.layout.catalog.table table found.newest n writer_was may.0,
      may.1,
    );
    found = λ e es first in_limbo alive.
        let head : n ≡ e = cc in
        subst (λ (y : Entry). IsFoundIn turned table.indexes p y.row) head
        (row.found (ap (λ (y : Entry). y.version.deleted) head ∙ alive));
  }

  off : Stands (n ∷ found.older) x → ⊥
  off (inl same) = unread p (subst (Stands (kept.reading p)) (sym same)
      (stood form size state placed kept.layout kept.reading kept.sound p table x v l found moves.slot))
  off (inr there) = older_off form size state placed kept.layout kept.reading kept.sound p table x v l found
      moves.slot there

  none_left : (q : RecId) → Stands (put_reading kept.reading p (n ∷ found.older) q) x → ⊥
  none_left = none_reads form size state placed kept.layout kept.reading kept.sound p table x v l found
      moves.slot (n ∷ found.older) off

  turned_is : IsTurned form size o (event ∷ h) state turned x true turned
  turned_is = record {
    kept = own_kept form size o h event state placed turned p.page.0 p table (writer n) (key_of table n.row)
        (n ∷ found.older) kept row.after writes;
    pool_unread = subst (λ (r : Reading). (q : RecId) → Stands (r q) x → ⊥)
        (sym (own_in_pool form size o h event state placed turned p.page.0 p table (writer n)
        (key_of table n.row) (n ∷ found.older) kept row.after writes)) none_left;
    unread = λ is. subst (λ (r : Reading). (q : RecId) → Stands (r q) x → ⊥)
        (sym (own_reading form size o h event state placed turned p.page.0 p table (writer n)
        (key_of table n.row) (n ∷ found.older) kept row.after writes)) none_left;
  }

  pub moved_whole : IsKept form size o (event ∷ h) state changed changed
  moved_whole = free_in form size o (event ∷ h) state turned changed x v moves.frees rest_free true turned
      turned_is refl changed (record { was = refl; is = refl; others = moves.frees.page.others })

-- ---- the batch

-- an active transaction replaces its own version of a record by one in another cell: every overlay is
-- kept, for the history with that write
abbrev pub MoveKeeps : Form → Type 0
MoveKeeps form = (size : ℕ) (o : Opening) (h : Entries) (event : Event) (by : ℕ)
    (state : ℕ → TxState) (old new : Cache) (placed turned : Pages) (gone : PageSet)
    (batch : ℕ → Option (List ℕ)) (orders : Orders) (needs now : ℕ → PageSet) (p x : RecId)
    (table : Table) (v : Version) (n : Entry) (l link : Link)
    → ChangesCache old new gone batch orders → state by ≡ Active → writer n ≡ by
    → KeepsNeeds old gone needs now → NeedsAllDirty new now by
    -- the pages, their orders, and the record
    → MovesPages form.in_primary old.pool placed turned new.pool p x v n l link
    → batch n.at.page.0 ≢ None → batch p.page.0 ≢ None
    → ((m : ℕ) → batch m ≡ None → placed m ≡ new.pool m)
    → OrdersMove orders placed table n p x v
    → ((chosen : ℕ → Bool) (layout : Layout) (r : Reading)
    → IsSoundBy form size (left_state chosen state) old.pool layout r
    → FindsOwn form.coding (facts_by (left_state chosen state) old.pool layout) r p table x v n)
    -- the history, and the statement
    → LeavesOthers o h event by
    → ((chosen : ℕ → Bool) → chosen by ≡ true
    → (kept : IsKept form size o h (left_state chosen state) placed placed)
    → RewritesRow form size o h event (left_state chosen state) placed turned p table n kept)
    → EveryOverlay (keeping form size o h) state old needs
    → EveryOverlay (keeping form size o (event ∷ h)) state new now

pub move_every : (form : Form) → RowsAreOne form.coding → HasNoSequences form → MoveKeeps form
move_every form one none size o h event by state old new placed turned gone batch orders needs now p x table v
    n l link changes active is_by left all moves cell_in slot_in left_by_batch ordered finds brings knows
    every =
    change_keeps (keeping form size o h) (keeping form size o (event ∷ h)) state by old new gone batch
    orders needs now changes active left all (record { part = part; whole = whole }) every
  where
    rest_put : LeavesRests form size n.at.page.0
    rest_put = data_leaves form size n.at.page.0 none (trees_stay form size)

    rest_slot : LeavesRests form size p.page.0
    rest_slot = data_leaves form size p.page.0 none (trees_stay form size)

    rest_free : LeavesRests form size x.page.0
    rest_free = data_leaves form size x.page.0 none (trees_stay form size)

    part : (chosen : ℕ → Bool) (set_ : PageSet) (image : Pages) → chosen by ≡ false
        → LaysBatch old.pool new.pool batch orders set_ image
        → IsKept form size o h (left_state chosen state) old.pool old.pool
        → IsKept form size o h (left_state chosen state) old.pool image
        → IsKept form size o (event ∷ h) (left_state chosen state) new.pool (laid batch set_ image)
    part chosen set_ image out lays of_pool was = longer_for form size o h event by
        (left_state chosen state) new.pool (laid batch set_ image) brings not_limbo_
        (move_part form one none size o h (left_state chosen state) old.pool placed turned new.pool p x table
        v n l link moves (finds chosen) rest_put rest_slot rest_free dead of_pool batch orders set_ image
        cell_in slot_in left_by_batch ordered lays was)
      where
        dead : left_state chosen state v.tx.0 ≡ Dead
        dead =
            let writers : v.tx.0 ≡ by = ap (λ t. t.0) (sym moves.tx) ∙ is_by in
            rw (writers, out, active) refl

        not_limbo_ : left_state chosen state by ≢ Limbo
        not_limbo_ is =
            let gone_ : left_state chosen state by ≡ Dead = rw (out, active) refl in
            let both : Dead ≡ Limbo = sym gone_ ∙ is in absurd cc

    whole : (chosen : ℕ → Bool) → chosen by ≡ true
        → IsKept form size o h (left_state chosen state) old.pool old.pool
        → IsKept form size o (event ∷ h) (left_state chosen state) new.pool new.pool
    whole chosen is start = done put.kept put.finds_now (put.unread refl)
      where
        limbo : left_state chosen state (writer n) ≡ Limbo
        limbo = rw (is_by, is, active) refl

        put : IsPlaced form one none size o h (left_state chosen state) old.pool placed turned new.pool p x
            table v n l link moves (finds chosen) rest_put rest_slot rest_free true placed
        put = move_put_in form one none size o h (left_state chosen state) old.pool placed turned new.pool p x
            table v n l link moves (finds chosen) rest_put rest_slot rest_free old.pool start placed
            (record { was = refl; is = refl; others = moves.put_page.others })

        done : (kept : IsKept form size o h (left_state chosen state) placed placed)
            → FindsOwn form.coding (facts_by (left_state chosen state) placed kept.of_pool) kept.in_pool p
            table x v n → ((q : RecId) → Stands (kept.reading q) n.at → ⊥)
            → IsKept form size o (event ∷ h) (left_state chosen state) new.pool new.pool
        done kept finds_now unread = moved_whole form size o h event by (left_state chosen state) old.pool
            placed turned new.pool p x table v n l link moves rest_slot rest_free limbo brings kept found_here
            unread (knows chosen is kept)
          where
            -- the pool's image stands in one way
            same : (kept.of_pool ≡ kept.layout) × (kept.in_pool ≡ kept.reading)
            same = sound_once form one none size (left_state chosen state) placed kept.of_pool kept.layout
                kept.in_pool kept.reading kept.pool_sound kept.sound

            found_here : FindsOwn form.coding (facts_by (left_state chosen state) placed kept.layout)
                kept.reading p table x v n
            found_here = subst (λ (r : Reading). FindsOwn form.coding
                (facts_by (left_state chosen state) placed kept.layout) r p table x v n) same.1
                (subst (λ (y : Layout). FindsOwn form.coding (facts_by (left_state chosen state) placed y)
                kept.in_pool p table x v n) same.0 finds_now)
