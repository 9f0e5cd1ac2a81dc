-- Of a record that the pool shows no row of, an overlay shows none.
use Rattle.std.proofs.Common.{◌≡◌, ◌⊎◌, inl, inr, sym, ◌∙◌, subst, ℕ, List, None, Some}
use Rattle.std.proofs.Math.Path.{fun_ext}
use Rattle.mg_base.specs.declared.numbers.RecId.{RecId}
use Rattle.mg_base.specs.declared.transaction.TxState.{TxState}
use Rattle.mg_value.specs.declared.value.Value.{Value}
use Rattle.mg_model.specs.declared.opening.Opening.{Opening}
use Rattle.mg_model.specs.declared.table.Table.{Table}
use Rattle.mg_model.specs.History.{Entries}
use Rattle.mg_image.specs.Form.{Form, Pages}
use Rattle.mg_image.specs.Held.{HasTable, IsHeld}
use Rattle.mg_image.specs.ReadingLaws.{RowsAreOne}
use Rattle.mg_image.specs.RecordRules.{Facts, committed_in, table_in}
use Rattle.mg_image.specs.Records.{Reading, cells_of, shown}
use Rattle.mg_image.specs.Sound.{facts_by}
use Rattle.mg_image.specs.Tables.{Layout}
use Rattle.mg_image_overlay_laws.specs.records.Gone.{gone_shows_none}
use Rattle.mg_image_overlay_laws.specs.pages.Kinds.{HasNoSequences}
use Rattle.mg_image_overlay_laws.specs.tables.TableOwners.{one_of_name, owned}
use Rattle.mg_image_overlay_laws.specs.kept.KeptImages.{IsKept}
use Rattle.mg_image_overlay_laws.specs.tables.OneLayout.{sound_once}
use Rattle.mg_image_overlay_laws.specs.records.OwnVersion.{in_pool_too}

module _ (form : Form) (one : RowsAreOne form.coding) (none : HasNoSequences form) (size : ℕ)
    (o : Opening) (h : Entries) (state : ℕ → TxState) (pool image : Pages)
    (of_pool : IsKept form size o h state pool pool) (kept : IsKept form size o h state pool image) where
  abbrev f : Facts
  f = facts_by state pool kept.of_pool

  abbrev g : Facts
  g = facts_by state image kept.layout

  -- the pool's image stands in one way, so it holds the rows that the overlay holds
  pool_held : IsHeld f (committed_in f) kept.in_pool kept.rows
  pool_held = subst (IsHeld f (committed_in f) kept.in_pool) rows_are
      (subst (λ (r : Reading). IsHeld f (committed_in f) r of_pool.rows) same.1
      (subst (λ (l : Layout). IsHeld (facts_by state pool l) (committed_in (facts_by state pool l))
      of_pool.reading of_pool.rows) same.0 of_pool.held))
    where
      same : (of_pool.layout ≡ kept.of_pool) × (of_pool.reading ≡ kept.in_pool)
      same = sound_once form one none size state pool of_pool.layout kept.of_pool of_pool.reading
          kept.in_pool of_pool.sound kept.pool_sound

      rows_are : of_pool.rows ≡ kept.rows
      rows_are = fun_ext (λ (name : List ℕ). fun_ext (λ (key : Value).
          of_pool.rows_are name key ∙ sym (kept.rows_are name key)))

  pub overlay_shows_none : (p : RecId) (table : Table) → table_in g p ≡ Some table
      → shown (committed_in f) (kept.in_pool p) ≡ None → shown (committed_in g) (kept.reading p) ≡ None
  overlay_shows_none p table of hidden = by ((owned form size state image kept.layout kept.reading
      kept.sound kept.rows kept.changes kept.held kept.changed).own p table of)
    where
      by : HasTable kept.rows table.name ⊎ (shown (committed_in g) (kept.reading p) ≡ None)
          → shown (committed_in g) (kept.reading p) ≡ None
      by (inl has) = gone_shows_none form.coding f g (cells_of pool) (cells_of image) kept.in_pool
          kept.reading kept.rows kept.sound.records kept.fronts (record {
            tables = λ q other is. in_pool_too form size o h state pool image kept q.page.0 other is;
            names = one_of_name form size state pool kept.of_pool kept.in_pool kept.pool_sound;
          }) pool_held kept.held p table of has hidden
      by (inr nothing) = nothing
