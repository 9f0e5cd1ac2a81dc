-- A version is pushed over a committed one in a table that may be the writer's own, and gets pages in the
-- same batch.
use Rattle.mg_base.specs.declared.numbers.RecId.{RecId}
use Rattle.mg_base.specs.declared.transaction.TxState.{TxState}
use Rattle.mg_base.specs.declared.transaction.TxState.TheVariants.{Active, Dead}
use Rattle.mg_careful.specs.CarefulWrite.{Cache, PageSet}
use Rattle.mg_careful.specs.Precedence.{Orders}
use Rattle.mg_image_overlay_laws.specs.tables.Growing.{EndsAt, FindsSettled, Grows, MayBeWritten, TableEnd}
use Rattle.mg_image_overlay_laws.specs.tables.PushGrown.{pushed_part, pushed_whole}
use Rattle.mg_image.specs.Form.{Form, Pages}
use Rattle.mg_image.specs.ReadingLaws.{RowsAreOne}
use Rattle.mg_image.specs.Records.{Reading, record_key, writer}
use Rattle.mg_image.specs.Sound.{IsSoundBy, facts_by}
use Rattle.mg_image.specs.Tables.{Layout}
use Rattle.mg_image.specs.declared.entry.Entry.{Entry}
use Rattle.mg_image_overlay_laws.specs.pages.Kinds.{HasNoSequences}
use Rattle.mg_image_overlay_laws.specs.transactions.CommitLaws.{LeavesOthers}
use Rattle.mg_image_overlay_laws.specs.kept.KeptImages.{IsKept, keeping}
use Rattle.mg_model.specs.History.{Entries}
use Rattle.mg_model.specs.declared.opening.Opening.{Opening}
use Rattle.mg_model.specs.declared.table.Table.{Table}
use Rattle.mg_overlay_laws.specs.Overlays.{ChangesCache, EveryOverlay, KeepsNeeds, NeedsAllDirty, left_state}
use Rattle.mg_image_overlay_laws.specs.tables.OutSteps.{data_out, grown_out}
use Rattle.mg_image_overlay_laws.specs.tables.OwnBatch.{writes_for}
use Rattle.mg_image_overlay_laws.specs.names.NotThere.{HasNoneOf}
use Rattle.mg_image_overlay_laws.specs.records.OwnWrites.{WritesRow}
use Rattle.mg_image_overlay_laws.specs.records.PushPart.{OrdersPush, PushesPages}
use Rattle.mg_version.specs.declared.cell.Link.{Link}
use Rattle.std.proofs.Common.{Bool, List, None, Option, [], ap, inl, inr, refl, true, ℕ, ◌∙◌, ◌∷◌, ◌≡◌, ◌≢◌, ◌⊎◌}
use Rattle.mg_model.specs.History.{Entry as Event}

-- the table stands in a layout, its pages end so, the record's newest version is committed, and the new
-- one may be written
abbrev pub PushThere : Form → Pages → RecId → Table → TableEnd → Entry → (ℕ → TxState) → Layout → Reading
    → Type 0
PushThere form pool p table end n s layout r =
    EndsAt layout table end × FindsSettled (facts_by s pool layout) r p table
    × MayBeWritten form.coding (facts_by s pool layout) table (record_key table (r p)) n

-- a version is pushed by an active transaction, in a table that is there or the writer's own, and may get
-- pages in the same batch: every overlay is kept, for the history with that write
abbrev pub PushKeepsFor : Form → Type 0
PushKeepsFor form = (size : ℕ) (o : Opening) (h : Entries) (event : Event) (by : ℕ)
    (state : ℕ → TxState) (old new : Cache) (grown mid : Pages) (gone : PageSet)
    (batch : ℕ → Option (List ℕ)) (orders : Orders) (needs now : ℕ → PageSet) (end final : TableEnd)
    (p : RecId) (table : Table) (n : Entry) (l link : Link)
    → ChangesCache old new gone batch orders → state by ≡ Active → writer n ≡ by
    → KeepsNeeds old gone needs now → NeedsAllDirty new now by
    -- the pages, and their orders
    → Grows form.in_primary size table.pointer.0 orders batch old.pool end grown final
    → PushesPages form.in_primary grown mid new.pool n.at p n.version l link
    → batch n.at.page.0 ≢ None → ((m : ℕ) → batch m ≡ None → mid m ≡ new.pool m)
    → OrdersPush orders mid table n.at p
    -- whose table it is, the record, and the version
    → ((chosen : ℕ → Bool) (layout : Layout) (r : Reading)
    → IsSoundBy form size (left_state chosen state) old.pool layout r
    → PushThere form old.pool p table end n (left_state chosen state) layout r
    ⊎ ((left_state chosen state by ≡ Dead)
    × HasNoneOf layout end.last (n.at.page.0 ∷ p.page.0 ∷ [])))
    -- the history, and the statement
    → LeavesOthers o h event by
    → ((chosen : ℕ → Bool) → chosen by ≡ true
    → (kept : IsKept form size o h (left_state chosen state) old.pool old.pool)
    → WritesRow form size o h event (left_state chosen state) old.pool old.pool p table n kept)
    → EveryOverlay (keeping form size o h) state old needs
    → EveryOverlay (keeping form size o (event ∷ h)) state new now

pub push_for_every : (form : Form) → RowsAreOne form.coding → HasNoSequences form → PushKeepsFor form
push_for_every form one none size o h event by state old new grown mid gone batch orders needs now end final
    p table n l link changes active is_by left all row pushes in_batch left_by_batch ordered finds brings
    knows every =
    writes_for form one none size o h event by state old new gone batch orders needs now (PushThere form old.pool p table end n)
    (λ layout. HasNoneOf layout end.last (n.at.page.0 ∷ p.page.0 ∷ [])) changes active left all brings
    (record {
      finds = finds;
      part = λ chosen set_ image dead of_pool there lays was.
          pushed_part form one none size o h (left_state chosen state) orders batch old.pool grown mid
          new.pool end final p table n l link row pushes ordered (λ y s so. (there y s so).0)
          (λ y s so. (there y s so).1) (λ y s so. (there y s so).2) of_pool.layout of_pool.reading
          of_pool.sound (ap (left_state chosen state) is_by ∙ dead) in_batch left_by_batch set_ image lays
          was;
      beyond = λ chosen set_ image layout r out at.
          data_out form one none size o h (left_state chosen state) set_ image layout r mid new.pool
          p.page.0 pushes.slot_page (out.data_pages p.page.0 (inr (inl refl)))
          (data_out form one none size o h (left_state chosen state) set_ image layout r grown mid
          n.at.page.0 pushes.put_page (out.data_pages n.at.page.0 (inl refl))
          (grown_out form one none size o h (left_state chosen state) set_ image layout r table.pointer.0
          orders batch old.pool grown end final row out.pointer at));
      whole = λ chosen is limbo start there.
          pushed_whole form one none size o h (left_state chosen state) orders batch old.pool grown mid
          new.pool end final p table n l link row pushes ordered (λ y s so. (there y s so).0)
          (λ y s so. (there y s so).1) (λ y s so. (there y s so).2) event by
          (ap (left_state chosen state) is_by ∙ limbo) brings start (knows chosen is start);
    }) every
