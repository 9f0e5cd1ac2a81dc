-- What is known of the records on an engine's pages, where each active transaction counts as in limbo.
use Rattle.std.specs.Prelude.{ℕ}
use Rattle.mg_base.specs.declared.transaction.TxState.{TxState}
use Rattle.mg_directory.specs.Candidates.{ByTable, Kept, by_table}
use Rattle.mg_image.specs.Form.{Pages, packed_form}
use Rattle.mg_model.specs.Openings.{everyone}
use Rattle.mg_noted_laws.specs.Noted.{HasNoted}
use Rattle.mg_overlay_laws.specs.Overlays.{left_state}
use Rattle.mg_engine_meaning_laws.specs.LoneRows.{HasLoneRows}

-- Each directory is complete, and rows of the catalog of transactions from a number on stand alone in their records.
pub record KnowsRecords (from size : ℕ) (state : ℕ → TxState) (pages : Pages) (dirs : ByTable) : Type 0 where
  pub noted : HasNoted packed_form size (left_state everyone state) pages dirs
  pub lone : HasLoneRows from size state pages

-- the same of the directories that an engine keeps
abbrev pub KnowsIts : ℕ → ℕ → (ℕ → TxState) → Pages → Kept → Type 0
KnowsIts from size state pages kept = KnowsRecords from size state pages (by_table kept.dirs)
