-- A record's newest version is taken out, from the pool's change to every overlay: by its transaction,
-- which takes it back, or by nobody's work, where its transaction is dead.
use Rattle.std.proofs.Common.{◌≡◌, ◌≢◌, inr, ap, sym, subst, ◌∙◌, refl, ℕ, Bool, true, false, List, [], ◌∷◌, Option, None}
use Rattle.std.specs.Prelude.{unwrap_or}
use Rattle.mg_base.specs.declared.numbers.RecId.{RecId}
use Rattle.mg_base.specs.declared.transaction.TxState.{TxState}
use Rattle.mg_base.specs.declared.transaction.TxState.TheVariants.{Active, Committed, Dead, Limbo}
use Rattle.mg_careful.specs.CarefulWrite.{Cache, PageSet, Pages}
use Rattle.mg_careful.specs.Precedence.{Orders}
use Rattle.mg_value.specs.declared.value.Value.{Value}
use Rattle.mg_version.specs.declared.cell.Link.{Link}
use Rattle.mg_version.specs.declared.cell.Version.{Version}
use Rattle.mg_model.specs.declared.opening.Opening.{Opening}
use Rattle.mg_model.specs.declared.table.Table.{Table}
use Rattle.mg_model.specs.History.{Entries, Entry as Event}
use Rattle.mg_model.specs.Machine.{own}
use Rattle.mg_image.specs.declared.entry.Entry.{Entry}
use Rattle.mg_image.specs.Catalog.{MayStandIn}
use Rattle.mg_image.specs.FactLaws.{each_has}
use Rattle.mg_image.specs.Form.{Form}
use Rattle.mg_image.specs.Held.{Changes}
use Rattle.mg_image.specs.Histories.{newest_at}
use Rattle.mg_image.specs.ReadingLaws.{RowsAreOne}
use Rattle.mg_image.specs.RecordRules.{AreRecords, Each, Facts, IsVersion, TakesKey, committed_in}
use Rattle.mg_image.specs.Records.{Chain, Reading, Stands, cells_of, key_of, record_key, shown, writer}
use Rattle.mg_image.specs.Sound.{IsSoundBy, facts_by}
use Rattle.mg_image.specs.StepLaws.{chain_stays, put_reading}
use Rattle.mg_image.specs.Tables.{Layout}
use Rattle.mg_image_overlay_laws.specs.pages.Kinds.{HasNoSequences}
use Rattle.mg_image_overlay_laws.specs.kept.Rest.{LeavesRests}
use Rattle.mg_image_overlay_laws.specs.pages.Trees.{data_leaves, trees_stay}
use Rattle.mg_image_overlay_laws.specs.transactions.CommitLaws.{LeavesOthers}
use Rattle.mg_image_overlay_laws.specs.transactions.EndLaws.{longer_for}
use Rattle.mg_image_overlay_laws.specs.kept.KeptImages.{IsKept, keeping}
use Rattle.mg_overlay_laws.specs.BatchLaws.{change_keeps, change_keeps_always}
use Rattle.mg_overlay_laws.specs.Overlays.{ChangesCache, EveryOverlay, KeepsLaidAlways, KeepsNeeds, LaysBatch, NeedsAllDirty, laid, left_by, left_state}
use Rattle.mg_image_overlay_laws.specs.records.BackPart.{OrdersTakeOut, TakesOutPages, take_out_part}
use Rattle.mg_image_overlay_laws.specs.records.FreePart.{IsTurned, free_in}
use Rattle.mg_image_overlay_laws.specs.records.OwnThere.{behind, newest_writer, none_reads, older_off, older_settled}
use Rattle.mg_image_overlay_laws.specs.records.OwnVersion.{FindsNewest}
use Rattle.mg_image_overlay_laws.specs.records.Overwrite.{not_committed}
use Rattle.mg_image_overlay_laws.specs.records.TakeOut.{back_cell, back_leads, drop_sound, slot_off}
use Rattle.mg_image_overlay_laws.specs.records.OwnWrites.{ChangesOwn, limbo_change, own_in_pool, own_kept, own_reading, WritesKept}

-- What a statement knows of a version that its transaction takes back, as the pool has all versions: the
-- record's key, and that the writer's changes, without one at that key, are those of the longer history.
pub record TakesBackRow (form : Form) (size : ℕ) (o : Opening) (h : Entries) (event : Event)
    (state : ℕ → TxState) (pages : Pages) (p : RecId) (table : Table) (t : ℕ) (key : Value)
    (kept : IsKept form size o h state pages pages) : Type 0 where
  pub keyed : record_key table (kept.reading p) ≡ key
  pub after : Changes
  pub turns : ChangesOwn (facts_by state pages kept.layout) table t key [] kept.changes after
  pub after_are : (u : ℕ) (name : List ℕ) (k : Value) → state u ≡ Limbo
      → after u name k ≡ newest_at (own o (event ∷ h) u) name k
  pub no_catalog : table ≢ kept.layout.catalog.table

-- ---- whole: on the pool's own image, with the writer in limbo

module _ (form : Form) (one : RowsAreOne form.coding) (none : HasNoSequences form) (size : ℕ)
    (o : Opening) (h : Entries) (event : Event) (by : ℕ) (state : ℕ → TxState)
    (pool mid changed : Pages) (p x : RecId) (table : Table) (v : Version) (l : Link) (key : Value)
    (takes : TakesOutPages form.in_primary pool mid changed p x v l)
    (finds : (layout : Layout) (r : Reading) → IsSoundBy form size state pool layout r
    → FindsNewest (facts_by state pool layout) r p table x v)
    (rest_slot : LeavesRests form size p.page.0) (rest_free : LeavesRests form size x.page.0)
    (limbo : state v.tx.0 ≡ Limbo) (brings : LeavesOthers o h event by)
    (kept : IsKept form size o h state pool pool)
    (row : TakesBackRow form size o h event state pool p table v.tx.0 key kept) where
  abbrev g : Facts
  g = facts_by state pool kept.layout

  found : FindsNewest g kept.reading p table x v
  found = finds kept.layout kept.reading kept.sound

  limbo_newest : state (writer found.newest) ≡ Limbo
  limbo_newest = ap state (newest_writer form size state pool kept.layout kept.reading kept.sound p table x
      v l found takes.slot) ∙ limbo

  open_ : state (writer found.newest) ≢ Committed
  open_ is = let both : Limbo ≡ Committed = sym limbo_newest ∙ is in absurd cc

  settled : Each (λ e. state (writer e) ≡ Committed) found.older
  settled = older_settled form size state pool kept.layout kept.reading kept.sound p table x v l found
      takes.slot

  behind_ : Chain (cells_of pool) v.back found.older
  behind_ = behind form size state pool kept.layout kept.reading kept.sound p table x v l found takes.slot

  records : AreRecords form.coding g (cells_of mid) (put_reading kept.reading p found.older)
  records = drop_sound form.coding g (cells_of pool) (cells_of mid) kept.reading p table l
      (back_cell v.back) kept.sound.records found.of takes.slot takes.turn found.newest found.older
      found.first open_ (subst (λ (k : _). Chain (cells_of mid) k found.older) (sym (back_leads p v.back))
      (chain_stays (cells_of pool) (cells_of mid) p (back_cell v.back) takes.turn v.back found.older behind_
      (slot_off (cells_of pool) p l takes.slot v.back found.older behind_)))

  keyed : Each (λ e. key_of table e.row ≡ key) (kept.reading p)
  keyed = each_has (IsVersion form.coding g table (record_key table (kept.reading p)))
      (λ e. key_of table e.row ≡ key) (λ e is. is.keyed ∙ row.keyed) (kept.reading p)
      (kept.sound.records.each p table found.of).each

  not_limbo : (e : Entry) (es : List Entry) → found.older ≡ e ∷ es → state (writer e) ≡ Limbo → ⊥
  not_limbo e es first in_limbo =
      let committed : state (writer e) ≡ Committed =
      (subst (Each (λ d. state (writer d) ≡ Committed)) first settled).0 in
      let both : Limbo ≡ Committed = sym in_limbo ∙ committed in absurd cc

  shows : shown (committed_in g) found.older ≡ shown (committed_in g) (kept.reading p)
  shows =
      let off : committed_in g (writer found.newest) ≡ false =
      not_committed (state (writer found.newest)) open_ in
      let dropped : shown (committed_in g) (found.newest ∷ found.older)
      ≡ shown (committed_in g) found.older = rw off refl in
      sym dropped ∙ ap (shown (committed_in g)) (sym found.first)

  taken : TakesKey g (kept.reading p)
  taken = subst (TakesKey g) (sym found.first) (inr limbo_newest)

  no_change : (es : List Entry) → Each (λ e. state (writer e) ≡ Committed) es
      → limbo_change g table es ≡ None
  no_change [] all = refl
  no_change (e ∷ es) all = let committed : state (writer e) ≡ Committed = all.0 in rw committed refl

  writes : WritesKept form size o h event state pool mid p.page.0 p table v.tx.0 key found.older kept
      row.after
  writes = record {
    page = takes.slot_page;
    rest = rest_slot state pool mid kept.layout kept.reading kept.sound takes.slot_page;
    records = records;
    writes = record {
      of = found.of;
      was = record {
        keyed = keyed;
        its = λ e es first in_limbo.
            let heads : found.newest ∷ found.older ≡ e ∷ es = sym found.first ∙ first in
            let head : found.newest ≡ e = cc in
            ap writer (sym head) ∙ newest_writer form size state pool kept.layout kept.reading kept.sound p
            table x v l found takes.slot;
      };
      is_ = record {
        keyed = (subst (Each (λ e. key_of table e.row ≡ key)) found.first keyed).1;
        its = λ e es first in_limbo. absurd (not_limbo e es first in_limbo);
      };
      shows = shows;
      free = λ q ne of takes_ same. ne (kept.sound.records.keys q p table of found.of takes_ taken
          (same ∙ sym row.keyed));
    };
    turns = record {
      here = row.turns.here ∙ sym (no_change found.older settled);
      others = row.turns.others;
    };
    rows = brings.rows;
    after_are = row.after_are;
    no_catalog = row.no_catalog;
    stands = (subst (Each (MayStandIn g kept.reading kept.layout.catalog.table table)) found.first
        (kept.sound.own_tables p table found.of)).1;
    found = λ e es first in_limbo alive. absurd (not_limbo e es first in_limbo);
  }

  abbrev turned_kept : IsKept form size o (event ∷ h) state mid mid
  turned_kept = own_kept form size o h event state pool mid p.page.0 p table v.tx.0 key found.older kept
      row.after writes

  none_left : (q : RecId) → Stands (put_reading kept.reading p found.older q) x → ⊥
  none_left = none_reads form size state pool kept.layout kept.reading kept.sound p table x v l found
      takes.slot found.older (older_off form size state pool kept.layout kept.reading kept.sound p table x v
      l found takes.slot)

  turned : IsTurned form size o (event ∷ h) state mid x true mid
  turned = record {
    kept = turned_kept;
    pool_unread = subst (λ (r : Reading). (q : RecId) → Stands (r q) x → ⊥)
        (sym (own_in_pool form size o h event state pool mid p.page.0 p table v.tx.0 key found.older kept
        row.after writes)) none_left;
    unread = λ is. subst (λ (r : Reading). (q : RecId) → Stands (r q) x → ⊥)
        (sym (own_reading form size o h event state pool mid p.page.0 p table v.tx.0 key found.older kept
        row.after writes)) none_left;
  }

  pub take_back_whole : IsKept form size o (event ∷ h) state changed changed
  take_back_whole = free_in form size o (event ∷ h) state mid changed x v takes.frees rest_free true mid
      turned refl changed (record { was = refl; is = refl; others = takes.frees.page.others })

-- ---- the batches

-- the pages that a batch leaves are as they were
pub left_alone : (old new : Cache) (gone : PageSet) (batch : ℕ → Option (List ℕ)) (orders : Orders)
    → ChangesCache old new gone batch orders → (m : ℕ) → batch m ≡ None → old.pool m ≡ new.pool m
left_alone old new gone batch orders changes m is =
    sym (changes.pool m ∙ ap (λ (c : Option (List ℕ)). unwrap_or c (old.pool m)) is)

-- an active transaction takes back its version of a record: every overlay is kept, for the history with
-- that entry
abbrev pub TakeBackKeeps : Form → Type 0
TakeBackKeeps form = (size : ℕ) (o : Opening) (h : Entries) (event : Event) (by : ℕ)
    (state : ℕ → TxState) (old new : Cache) (mid : Pages) (gone : PageSet)
    (batch : ℕ → Option (List ℕ)) (orders : Orders) (needs now : ℕ → PageSet) (p x : RecId)
    (table : Table) (v : Version) (l : Link) (key : Value)
    → ChangesCache old new gone batch orders → state by ≡ Active → v.tx.0 ≡ by
    → KeepsNeeds old gone needs now → NeedsAllDirty new now by
    -- the pages, their orders, and the record
    → TakesOutPages form.in_primary old.pool mid new.pool p x v l → batch p.page.0 ≢ None
    → OrdersTakeOut orders old.pool table x p v
    → ((chosen : ℕ → Bool) (layout : Layout) (r : Reading)
    → IsSoundBy form size (left_state chosen state) old.pool layout r
    → FindsNewest (facts_by (left_state chosen state) old.pool layout) r p table x v)
    -- the history, and the statement
    → LeavesOthers o h event by
    → ((chosen : ℕ → Bool) → chosen by ≡ true
    → (kept : IsKept form size o h (left_state chosen state) old.pool old.pool)
    → TakesBackRow form size o h event (left_state chosen state) old.pool p table v.tx.0 key kept)
    → EveryOverlay (keeping form size o h) state old needs
    → EveryOverlay (keeping form size o (event ∷ h)) state new now

-- a dead transaction's version is taken out of a record, by nobody's work
abbrev pub DeadOutKeeps : Form → Type 0
DeadOutKeeps form = (size : ℕ) (o : Opening) (h : Entries)
    (state : ℕ → TxState) (old new : Cache) (mid : Pages) (gone : PageSet)
    (batch : ℕ → Option (List ℕ)) (orders : Orders) (needs now : ℕ → PageSet) (p x : RecId)
    (table : Table) (v : Version) (l : Link)
    → ChangesCache old new gone batch orders → state v.tx.0 ≡ Dead → KeepsNeeds old gone needs now
    → TakesOutPages form.in_primary old.pool mid new.pool p x v l → batch p.page.0 ≢ None
    → OrdersTakeOut orders old.pool table x p v
    → ((chosen : ℕ → Bool) (layout : Layout) (r : Reading)
    → IsSoundBy form size (left_state chosen state) old.pool layout r
    → FindsNewest (facts_by (left_state chosen state) old.pool layout) r p table x v)
    → EveryOverlay (keeping form size o h) state old needs
    → EveryOverlay (keeping form size o h) state new now

pub take_back_every : (form : Form) → RowsAreOne form.coding → HasNoSequences form → TakeBackKeeps form
take_back_every form one none size o h event by state old new mid gone batch orders needs now p x table v l
    key changes active is_by left all takes in_batch ordered finds brings knows every =
    change_keeps (keeping form size o h) (keeping form size o (event ∷ h)) state by old new gone batch
    orders needs now changes active left all (record { part = part; whole = whole }) every
  where
    rest_slot : LeavesRests form size p.page.0
    rest_slot = data_leaves form size p.page.0 none (trees_stay form size)

    rest_free : LeavesRests form size x.page.0
    rest_free = data_leaves form size x.page.0 none (trees_stay form size)

    part : (chosen : ℕ → Bool) (set_ : PageSet) (image : Pages) → chosen by ≡ false
        → LaysBatch old.pool new.pool batch orders set_ image
        → IsKept form size o h (left_state chosen state) old.pool old.pool
        → IsKept form size o h (left_state chosen state) old.pool image
        → IsKept form size o (event ∷ h) (left_state chosen state) new.pool (laid batch set_ image)
    part chosen set_ image out lays of_pool was = longer_for form size o h event by
        (left_state chosen state) new.pool (laid batch set_ image) brings not_limbo_
        (take_out_part form one none size o h (left_state chosen state) old.pool mid new.pool p x table v l
        takes (finds chosen) rest_slot rest_free dead of_pool batch orders set_ image in_batch
        (left_alone old new gone batch orders changes) ordered lays was)
      where
        dead : left_state chosen state v.tx.0 ≡ Dead
        dead = rw (is_by, out, active) refl

        not_limbo_ : left_state chosen state by ≢ Limbo
        not_limbo_ is =
            let gone_ : left_state chosen state by ≡ Dead = rw (out, active) refl in
            let both : Dead ≡ Limbo = sym gone_ ∙ is in absurd cc

    whole : (chosen : ℕ → Bool) → chosen by ≡ true
        → IsKept form size o h (left_state chosen state) old.pool old.pool
        → IsKept form size o (event ∷ h) (left_state chosen state) new.pool new.pool
    whole chosen is start = take_back_whole form one none size o h event by (left_state chosen state)
        old.pool mid new.pool p x table v l key takes (finds chosen) rest_slot rest_free limbo brings start
        (knows chosen is start)
      where
        limbo : left_state chosen state v.tx.0 ≡ Limbo
        limbo = rw (is_by, is, active) refl

pub dead_out_every : (form : Form) → RowsAreOne form.coding → HasNoSequences form → DeadOutKeeps form
dead_out_every form one none size o h state old new mid gone batch orders needs now p x table v l changes
    dead left takes in_batch ordered finds every =
    change_keeps_always (keeping form size o h) (keeping form size o h) state old new gone batch orders
    needs now changes left part every
  where
    left_dead : (b : Bool) → left_by b Dead ≡ Dead
    left_dead true = refl
    left_dead false = refl

    part : KeepsLaidAlways (keeping form size o h) (keeping form size o h) state old.pool new.pool batch orders
    part chosen set_ image lays of_pool kept =
        take_out_part form one none size o h (left_state chosen state) old.pool mid new.pool p x table v l
        takes (finds chosen) (data_leaves form size p.page.0 none (trees_stay form size))
        (data_leaves form size x.page.0 none (trees_stay form size))
        (ap (left_by (chosen v.tx.0)) dead ∙ left_dead (chosen v.tx.0)) of_pool batch orders set_ image
        in_batch (left_alone old new gone batch orders changes) ordered lays kept
