-- A version is taken back by its transaction, in a table that may be that transaction's own.
use Rattle.mg_base.specs.declared.numbers.RecId.{RecId}
use Rattle.mg_base.specs.declared.transaction.TxState.{TxState}
use Rattle.mg_base.specs.declared.transaction.TxState.TheVariants.{Active, Dead}
use Rattle.mg_careful.specs.CarefulWrite.{Cache, PageSet}
use Rattle.mg_careful.specs.Precedence.{Orders}
use Rattle.mg_image.specs.Form.{Form, Pages}
use Rattle.mg_image.specs.ReadingLaws.{RowsAreOne}
use Rattle.mg_image.specs.Records.{Reading}
use Rattle.mg_image.specs.Sound.{IsSoundBy, facts_by}
use Rattle.mg_image.specs.Tables.{Layout}
use Rattle.mg_image_overlay_laws.specs.pages.Kinds.{HasNoSequences}
use Rattle.mg_image_overlay_laws.specs.pages.Trees.{data_leaves, trees_stay}
use Rattle.mg_image_overlay_laws.specs.transactions.CommitLaws.{LeavesOthers}
use Rattle.mg_image_overlay_laws.specs.kept.KeptImages.{IsKept, keeping}
use Rattle.mg_model.specs.History.{Entries}
use Rattle.mg_model.specs.declared.opening.Opening.{Opening}
use Rattle.mg_model.specs.declared.table.Table.{Table}
use Rattle.mg_overlay_laws.specs.Overlays.{ChangesCache, EveryOverlay, KeepsNeeds, NeedsAllDirty, left_state}
use Rattle.mg_image_overlay_laws.specs.records.BackEvery.{TakesBackRow, left_alone, take_back_whole}
use Rattle.mg_image_overlay_laws.specs.records.BackPart.{OrdersTakeOut, TakesOutPages, take_out_part}
use Rattle.mg_image_overlay_laws.specs.records.OwnVersion.{FindsNewest}
use Rattle.mg_image_overlay_laws.specs.tables.OutSteps.{data_out}
use Rattle.mg_image_overlay_laws.specs.tables.OwnBatch.{writes_for}
use Rattle.mg_image_overlay_laws.specs.names.NotThere.{HasNoData}
use Rattle.mg_value.specs.declared.value.Value.{Value}
use Rattle.mg_version.specs.declared.cell.Link.{Link}
use Rattle.mg_version.specs.declared.cell.Version.{Version}
use Rattle.std.proofs.Common.{Bool, List, None, Option, [], ap, inl, inr, refl, true, ℕ, ◌∙◌, ◌∷◌, ◌≡◌, ◌≢◌, ◌⊎◌}
use Rattle.mg_model.specs.History.{Entry as Event}

-- an active transaction takes back its version of a record, in a table that is there or its own: every
-- overlay is kept, for the history with that entry
abbrev pub TakeBackKeepsFor : Form → Type 0
TakeBackKeepsFor form = (size : ℕ) (o : Opening) (h : Entries) (event : Event) (by : ℕ)
    (state : ℕ → TxState) (old new : Cache) (mid : Pages) (gone : PageSet)
    (batch : ℕ → Option (List ℕ)) (orders : Orders) (needs now : ℕ → PageSet) (p x : RecId)
    (table : Table) (v : Version) (l : Link) (key : Value)
    → ChangesCache old new gone batch orders → state by ≡ Active → v.tx.0 ≡ by
    → KeepsNeeds old gone needs now → NeedsAllDirty new now by
    -- the pages, and their orders
    → TakesOutPages form.in_primary old.pool mid new.pool p x v l → batch p.page.0 ≢ None
    → OrdersTakeOut orders old.pool table x p v
    -- whose table it is, and the record
    → ((chosen : ℕ → Bool) (layout : Layout) (r : Reading)
    → IsSoundBy form size (left_state chosen state) old.pool layout r
    → FindsNewest (facts_by (left_state chosen state) old.pool layout) r p table x v
    ⊎ ((left_state chosen state by ≡ Dead) × HasNoData layout (p.page.0 ∷ x.page.0 ∷ [])))
    -- the history, and the statement
    → LeavesOthers o h event by
    → ((chosen : ℕ → Bool) → chosen by ≡ true
    → (kept : IsKept form size o h (left_state chosen state) old.pool old.pool)
    → TakesBackRow form size o h event (left_state chosen state) old.pool p table v.tx.0 key kept)
    → EveryOverlay (keeping form size o h) state old needs
    → EveryOverlay (keeping form size o (event ∷ h)) state new now

pub take_back_for_every : (form : Form) → RowsAreOne form.coding → HasNoSequences form
    → TakeBackKeepsFor form
take_back_for_every form one none size o h event by state old new mid gone batch orders needs now p x table
    v l key changes active is_by left all takes in_batch ordered finds brings knows every =
    writes_for form one none size o h event by state old new gone batch orders needs now
    (λ s layout r. FindsNewest (facts_by s old.pool layout) r p table x v)
    (λ layout. HasNoData layout (p.page.0 ∷ x.page.0 ∷ [])) changes active left all brings (record {
      finds = finds;
      part = λ chosen set_ image dead of_pool there lays was.
          take_out_part form one none size o h (left_state chosen state) old.pool mid new.pool p x table v l
          takes there (data_leaves form size p.page.0 none (trees_stay form size))
          (data_leaves form size x.page.0 none (trees_stay form size))
          (ap (left_state chosen state) is_by ∙ dead) of_pool batch orders set_ image in_batch
          (left_alone old new gone batch orders changes) ordered lays was;
      beyond = λ chosen set_ image layout r out at.
          data_out form one none size o h (left_state chosen state) set_ image layout r mid new.pool
          x.page.0 takes.frees.page (out x.page.0 (inr (inl refl)))
          (data_out form one none size o h (left_state chosen state) set_ image layout r old.pool mid
          p.page.0 takes.slot_page (out p.page.0 (inl refl)) at);
      whole = λ chosen is limbo start there.
          take_back_whole form one none size o h event by (left_state chosen state) old.pool mid new.pool p
          x table v l key takes there (data_leaves form size p.page.0 none (trees_stay form size))
          (data_leaves form size x.page.0 none (trees_stay form size))
          (ap (left_state chosen state) is_by ∙ limbo) brings start (knows chosen is start);
    }) every
