-- A version is replaced in its cell by one of its transaction, in a table that may be the writer's own.
use Rattle.mg_base.specs.declared.numbers.RecId.{RecId}
use Rattle.mg_base.specs.declared.transaction.TxState.{TxState}
use Rattle.mg_base.specs.declared.transaction.TxState.TheVariants.{Active, Dead}
use Rattle.mg_careful.specs.CarefulWrite.{Cache, PageSet}
use Rattle.mg_careful.specs.Precedence.{Orders}
use Rattle.mg_image.specs.Form.{Form}
use Rattle.mg_image.specs.ReadingLaws.{RowsAreOne}
use Rattle.mg_image.specs.Records.{Reading, writer}
use Rattle.mg_image.specs.Sound.{IsSoundBy, facts_by}
use Rattle.mg_image.specs.Tables.{Layout}
use Rattle.mg_image.specs.declared.entry.Entry.{Entry}
use Rattle.mg_image_overlay_laws.specs.pages.Kinds.{HasNoSequences}
use Rattle.mg_image_overlay_laws.specs.pages.Trees.{data_leaves, trees_stay}
use Rattle.mg_image_overlay_laws.specs.transactions.CommitLaws.{LeavesOthers}
use Rattle.mg_image_overlay_laws.specs.kept.KeptImages.{IsKept, keeping}
use Rattle.mg_model.specs.History.{Entries}
use Rattle.mg_model.specs.declared.opening.Opening.{Opening}
use Rattle.mg_model.specs.declared.table.Table.{Table}
use Rattle.mg_overlay_laws.specs.Overlays.{ChangesCache, EveryOverlay, KeepsNeeds, NeedsAllDirty, left_state}
use Rattle.mg_image_overlay_laws.specs.records.OwnVersion.{FindsOwn, RewritesRow}
use Rattle.mg_image_overlay_laws.specs.records.ReplaceEvery.{replace_whole}
use Rattle.mg_image_overlay_laws.specs.records.ReplacePart.{ReplacesPage, replace_part}
use Rattle.mg_image_overlay_laws.specs.tables.OutSteps.{data_out}
use Rattle.mg_image_overlay_laws.specs.tables.OwnBatch.{writes_for}
use Rattle.mg_image_overlay_laws.specs.names.NotThere.{HasNoData}
use Rattle.mg_version.specs.declared.cell.Version.{Version}
use Rattle.std.proofs.Common.{Bool, List, Option, [], ap, inl, refl, true, ℕ, ◌∙◌, ◌∷◌, ◌≡◌, ◌⊎◌}
use Rattle.mg_model.specs.History.{Entry as Event}

-- an active transaction replaces its own version of a record in its place, in a table that is there or its
-- own: every overlay is kept, for the history with that write
abbrev pub ReplaceKeepsFor : Form → Type 0
ReplaceKeepsFor form = (size : ℕ) (o : Opening) (h : Entries) (event : Event) (by : ℕ)
    (state : ℕ → TxState) (old new : Cache) (gone : PageSet)
    (batch : ℕ → Option (List ℕ)) (orders : Orders) (needs now : ℕ → PageSet) (p : RecId)
    (table : Table) (v : Version) (n : Entry)
    → ChangesCache old new gone batch orders → state by ≡ Active → writer n ≡ by
    → KeepsNeeds old gone needs now → NeedsAllDirty new now by
    -- the page
    → ReplacesPage form.in_primary old.pool new.pool v n
    -- whose table it is, and the record
    → ((chosen : ℕ → Bool) (layout : Layout) (r : Reading)
    → IsSoundBy form size (left_state chosen state) old.pool layout r
    → FindsOwn form.coding (facts_by (left_state chosen state) old.pool layout) r p table n.at v n
    ⊎ ((left_state chosen state by ≡ Dead) × HasNoData layout (n.at.page.0 ∷ [])))
    -- the history, and the statement
    → LeavesOthers o h event by
    → ((chosen : ℕ → Bool) → chosen by ≡ true
    → (kept : IsKept form size o h (left_state chosen state) old.pool old.pool)
    → RewritesRow form size o h event (left_state chosen state) old.pool new.pool p table n kept)
    → EveryOverlay (keeping form size o h) state old needs
    → EveryOverlay (keeping form size o (event ∷ h)) state new now

pub replace_for_every : (form : Form) → RowsAreOne form.coding → HasNoSequences form
    → ReplaceKeepsFor form
replace_for_every form one none size o h event by state old new gone batch orders needs now p table v n
    changes active is_by left all replaces finds brings writes every =
    writes_for form one none size o h event by state old new gone batch orders needs now
    (λ s layout r. FindsOwn form.coding (facts_by s old.pool layout) r p table n.at v n)
    (λ layout. HasNoData layout (n.at.page.0 ∷ [])) changes active left all brings (record {
      finds = finds;
      part = λ chosen set_ image dead of_pool there lays was.
          replace_part form one size o h (left_state chosen state) old.pool new.pool p table v n replaces
          there (data_leaves form size n.at.page.0 none (trees_stay form size))
          (ap (left_state chosen state) is_by ∙ dead) batch orders set_ image lays was;
      beyond = λ chosen set_ image layout r out at.
          data_out form one none size o h (left_state chosen state) set_ image layout r old.pool new.pool
          n.at.page.0 replaces.page (out n.at.page.0 (inl refl)) at;
      whole = λ chosen is limbo start there.
          replace_whole form one size o h event by (left_state chosen state) old.pool new.pool p table v n
          replaces there (data_leaves form size n.at.page.0 none (trees_stay form size))
          (ap (left_state chosen state) is_by ∙ limbo) brings start (writes chosen is start);
    }) every
