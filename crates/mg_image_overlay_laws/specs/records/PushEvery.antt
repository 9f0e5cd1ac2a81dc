-- A push of a version by a transaction, from the pool's change to every overlay.
use Rattle.mg_model.specs.Answers.{is_committed}
use Rattle.mg_image.specs.FactLaws.{each_has}
use Rattle.mg_image_overlay_laws.specs.records.OwnWrites.{WritesRow, own_kept}
use Rattle.mg_image_overlay_laws.specs.pages.Trees.{data_leaves, trees_stay}
use Rattle.mg_image_overlay_laws.specs.pages.Kinds.{HasNoSequences}
use Rattle.mg_base.specs.declared.numbers.RecId.{RecId}
use Rattle.mg_base.specs.declared.transaction.TxState.{TxState}
use Rattle.mg_base.specs.declared.transaction.TxState.TheVariants.{Active, Committed, Dead, Limbo}
use Rattle.mg_careful.specs.CarefulWrite.{Cache, PageSet}
use Rattle.mg_careful.specs.Precedence.{Orders}
use Rattle.mg_image.specs.Form.{Form, Pages}
use Rattle.mg_image.specs.Indexes.{IsFoundIn}
use Rattle.mg_image.specs.RecordRules.{Each, IsVersion, committed_in}
use Rattle.mg_image.specs.Records.{Reading, Stands, cells_of, key_of, record_key, shown, writer}
use Rattle.mg_image.specs.Sound.{IsSoundBy, facts_by}
use Rattle.mg_image.specs.Tables.{Layout}
use Rattle.mg_image.specs.declared.entry.Entry.{Entry}
use Rattle.mg_image_overlay_laws.specs.records.PushWhole.{PushesWhole, pushed_records}
use Rattle.mg_image_overlay_laws.specs.kept.Rest.{LeavesRests}
use Rattle.mg_image_overlay_laws.specs.transactions.CommitLaws.{LeavesOthers, longer_kept}
use Rattle.mg_image_overlay_laws.specs.kept.KeptImages.{IsKept, keeping}
use Rattle.mg_image_overlay_laws.specs.pages.Reach.{IsEntered, entered_with}
use Rattle.mg_model.specs.History.{Entries, Entry as Event}
use Rattle.mg_model.specs.Machine.{own}
use Rattle.mg_model.specs.declared.opening.Opening.{Opening}
use Rattle.mg_model.specs.declared.table.Table.{Table}
use Rattle.mg_overlay_laws.specs.BatchLaws.{change_keeps}
use Rattle.mg_overlay_laws.specs.Overlays.{ChangesCache, EveryOverlay, KeepsNeeds, LaysBatch, NeedsAllDirty, laid, left_state}
use Rattle.mg_overlay_laws.specs.Views.{LaysPage}
use Rattle.mg_image_overlay_laws.specs.records.PushPart.{FindsRecord, IsPut, OrdersPush, PushesPages, finds_there, newest_leads, push_part, put_in}
use Rattle.mg_version.specs.declared.cell.Link.{Link}
use Rattle.std.proofs.Common.{Bool, List, None, Option, ap, false, inl, inr, refl, subst, sym, true, ℕ, ◌∙◌, ◌∷◌, ◌≡◌, ◌≢◌, ◌⊎◌}
use Rattle.std.proofs.lemmas.Bool.{cases_eq}

-- ---- whole: on the pool's own image, with the writer in limbo

module _ (form : Form) (size : ℕ) (o : Opening) (h : Entries) (event : Event) (by : ℕ)
    (state : ℕ → TxState) (pool mid changed : Pages) (p : RecId) (table : Table) (n : Entry)
    (l link : Link)
    (pushes : PushesPages form.in_primary pool mid changed n.at p n.version l link)
    (finds : (layout : Layout) (r : Reading) → IsSoundBy form size state pool layout r
    → FindsRecord form.coding (facts_by state pool layout) r p table n)
    (rest_put : LeavesRests form size n.at.page.0) (rest_slot : LeavesRests form size p.page.0)
    (limbo : state (writer n) ≡ Limbo)
    (entered : IsEntered (λ m. mid m ≡ mid m) mid n.at.page.0 table.pointer.0)
    (brings : LeavesOthers o h event by)
    (writes : (kept : IsKept form size o h state mid mid)
    → WritesRow form size o h event state mid changed p table n kept) where
  pub push_whole : IsKept form size o h state pool pool
      → IsKept form size o (event ∷ h) state changed changed
  push_whole start = done put.kept put.finds_now (put.unread refl)
    where
      lays : LaysPage pool mid pool mid n.at.page.0
      lays = record { was = refl; is = refl; others = pushes.put_page.others }

      put : IsPut form size o h state pool mid changed p table n l link pushes finds rest_put rest_slot
          true mid
      put = put_in form size o h state pool mid changed p table n l link pushes finds rest_put rest_slot
          pool start mid lays

      done : (kept : IsKept form size o h state mid mid)
          → FindsRecord form.coding (facts_by state mid kept.of_pool) kept.in_pool p table n
          → ((q : RecId) → Stands (kept.reading q) n.at → ⊥)
          → IsKept form size o (event ∷ h) state changed changed
      done kept finds_now unread = own_kept form size o h event state mid changed p.page.0 p table (writer n)
          (key_of table n.row) (n ∷ kept.reading p) kept row.after (record {
            page = pushes.slot_page;
            rest = rest_slot state mid changed kept.layout kept.reading kept.sound pushes.slot_page;
            records = pushed_records form.coding (facts_by state mid kept.layout) (cells_of mid)
                (cells_of changed) kept.reading p table n found.newest found.older l l link
                kept.sound.records over;
            writes = record {
              of = found.of;
              was = record { keyed = keyed; its = λ e older first in_limbo. absurd (settled e older first in_limbo) };
              is_ = record {
                keyed = (refl, keyed);
                its = λ e older first in_limbo. let head : n ≡ e = cc in ap writer (sym head);
              };
              shows = off;
              free = row.free;
            };
            turns = record { here = row.turns.here; others = row.turns.others };
            rows = brings.rows;
            after_are = row.after_are;
            no_catalog = row.no_catalog;
            stands = (row.may, kept.sound.own_tables p table found.of);
            found = λ e older first in_limbo alive.
                let head : n ≡ e = cc in
                subst (λ (x : Entry). IsFoundIn changed table.indexes p x.row) head
                (row.found (ap (λ (x : Entry). x.version.deleted) head ∙ alive));
          })
        where
          row : WritesRow form size o h event state mid changed p table n kept
          row = writes kept

          found : FindsRecord form.coding (facts_by state mid kept.layout) kept.reading p table n
          found = finds_there form size o h state mid mid kept p table n l finds_now pushes.slot refl refl
              entered

          behind : (found.newest.at ≡ l.rec) × (found.newest.version.tx ≡ l.tx)
          behind = newest_leads form size state mid kept.layout kept.reading kept.sound p table n l found
              pushes.slot

          over : PushesWhole form.coding (facts_by state mid kept.layout) (cells_of mid)
              (cells_of changed) kept.reading p table n found.newest found.older l l link
          over = record {
            of = found.of;
            first = found.first;
            settled = found.settled;
            limbo = limbo;
            slot = pushes.slot;
            change = pushes.turn;
            cell = pushes.put.here;
            leads = pushes.leads;
            back = pushes.back;
            behind = behind;
            unread = unread;
            lawful = found.lawful;
            free = λ q ne of takes same. row.free q ne of takes (sym same ∙ sym found.lawful.keyed);
          }

          keyed : Each (λ e. key_of table e.row ≡ key_of table n.row) (kept.reading p)
          keyed = each_has (IsVersion form.coding (facts_by state mid kept.layout) table
              (record_key table (kept.reading p))) (λ e. key_of table e.row ≡ key_of table n.row)
              (λ e is. is.keyed ∙ sym found.lawful.keyed) (kept.reading p)
              (kept.sound.records.each p table found.of).each

          -- the record's newest version was committed
          settled : (e : Entry) (older : List Entry) → kept.reading p ≡ e ∷ older
              → state (writer e) ≡ Limbo → ⊥
          settled e older first in_limbo =
              let heads : e ∷ older ≡ found.newest ∷ found.older = sym first ∙ found.first in
              let head : e ≡ found.newest = cc in
              let both : Limbo ≡ Committed = sym in_limbo ∙ (ap (λ (x : Entry). state (writer x)) head
              ∙ found.settled) in absurd cc

          off : shown (committed_in (facts_by state mid kept.layout)) (n ∷ kept.reading p)
              ≡ shown (committed_in (facts_by state mid kept.layout)) (kept.reading p)
          off = let counts : is_committed (state (writer n)) ≡ false = ap is_committed limbo in
              rw counts refl

-- ---- the batch

-- a version is pushed over a committed one by an active transaction: every overlay is kept, for the
-- history with that write
abbrev pub PushKeeps : Form → Type 0
PushKeeps form = (size : ℕ) (o : Opening) (h : Entries) (event : Event) (by : ℕ)
    (state : ℕ → TxState) (old new : Cache) (mid : Pages) (gone : PageSet)
    (batch : ℕ → Option (List ℕ)) (orders : Orders) (needs now : ℕ → PageSet) (p : RecId)
    (table : Table) (n : Entry) (l link : Link)
    → ChangesCache old new gone batch orders → state by ≡ Active → writer n ≡ by
    → KeepsNeeds old gone needs now
    → NeedsAllDirty new now by
    -- the pages, their orders, and the record
    → PushesPages form.in_primary old.pool mid new.pool n.at p n.version l link
    → batch n.at.page.0 ≢ None → ((m : ℕ) → batch m ≡ None → mid m ≡ new.pool m)
    → OrdersPush orders mid table n.at p
    → ((chosen : ℕ → Bool) (layout : Layout) (r : Reading)
    → IsSoundBy form size (left_state chosen state) old.pool layout r
    → FindsRecord form.coding (facts_by (left_state chosen state) old.pool layout) r p table n)
    -- the history, and the statement
    → LeavesOthers o h event by
    → ((chosen : ℕ → Bool) → chosen by ≡ true
    → (kept : IsKept form size o h (left_state chosen state) mid mid)
    → WritesRow form size o h event (left_state chosen state) mid new.pool p table n kept)
    → EveryOverlay (keeping form size o h) state old needs
    → EveryOverlay (keeping form size o (event ∷ h)) state new now

pub push_every : (form : Form) → HasNoSequences form → PushKeeps form
push_every form none size o h event by state old new mid gone batch orders needs now p table n l link
    changes active is_by left all pushes in_batch left_by_batch ordered finds brings writes every =
    change_keeps (keeping form size o h) (keeping form size o (event ∷ h)) state by old new gone batch
    orders needs now changes active left all (record { part = part; whole = whole }) every
  where
    rest_put : LeavesRests form size n.at.page.0
    rest_put = data_leaves form size n.at.page.0 none (trees_stay form size)

    rest_slot : LeavesRests form size p.page.0
    rest_slot = data_leaves form size p.page.0 none (trees_stay form size)

    part : (chosen : ℕ → Bool) (set_ : PageSet) (image : Pages) → chosen by ≡ false
        → LaysBatch old.pool new.pool batch orders set_ image
        → IsKept form size o h (left_state chosen state) old.pool old.pool
        → IsKept form size o h (left_state chosen state) old.pool image
        → IsKept form size o (event ∷ h) (left_state chosen state) new.pool (laid batch set_ image)
    part chosen set_ image out lays of_pool was = longer_kept form size o h event
        (left_state chosen state) new.pool (laid batch set_ image) brings.rows quiet
        (push_part form size o h (left_state chosen state) old.pool mid new.pool p table n l link pushes
        (finds chosen) rest_put rest_slot dead batch orders set_ image in_batch left_by_batch ordered lays
        was)
      where
        dead : left_state chosen state (writer n) ≡ Dead
        dead = rw (is_by, out, active) refl

        quiet : (u : ℕ) → left_state chosen state u ≡ Limbo → own o (event ∷ h) u ≡ own o h u
        quiet u is = at (cases_eq u by)
          where
            at : (u ≡ by) ⊎ (u ≢ by) → own o (event ∷ h) u ≡ own o h u
            at (inl e) =
                let gone_ : left_state chosen state u ≡ Dead = rw (e, out, active) refl in
                let both : Limbo ≡ Dead = sym is ∙ gone_ in absurd cc
            at (inr ne) = brings.others u ne

    whole : (chosen : ℕ → Bool) → chosen by ≡ true
        → IsKept form size o h (left_state chosen state) old.pool old.pool
        → IsKept form size o (event ∷ h) (left_state chosen state) new.pool new.pool
    whole chosen is start = push_whole form size o h event by (left_state chosen state) old.pool mid
        new.pool p table n l link pushes (finds chosen) rest_put rest_slot limbo
        (entered_with (λ m. orders m p.page.0 ≡ true) (λ m. mid m ≡ mid m) mid n.at.page.0
        table.pointer.0 (λ m before. refl) ordered.pointers) brings (writes chosen is) start
      where
        limbo : left_state chosen state (writer n) ≡ Limbo
        limbo = rw (is_by, is, active) refl
