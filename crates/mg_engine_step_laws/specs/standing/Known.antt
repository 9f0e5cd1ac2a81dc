-- What the pages and the memory of an engine that stands for a history are to one who reads them.
use Rattle.std.proofs.Common.{◌≡◌, inl, inr, refl, ap, ◌∙◌, ℕ, true, List, Option}
use Rattle.std.specs.Prelude.{map}
use Rattle.std.proofs.Math.Path.{fun_ext}
use Rattle.mg_base.specs.declared.numbers.RecId.{RecId}
use Rattle.mg_base.specs.declared.transaction.TxState.{TxState}
use Rattle.mg_base.specs.declared.transaction.TxState.TheVariants.{Active, Committed, Dead, Limbo}
use Rattle.mg_value.specs.declared.value.Value.{Value}
use Rattle.mg_model.specs.declared.opening.Opening.{Opening}
use Rattle.mg_model.specs.declared.table.Table.{Table}
use Rattle.mg_model.specs.Answers.{is_active}
use Rattle.mg_model.specs.History.{Entries}
use Rattle.mg_model.specs.Machine.{state_of}
use Rattle.mg_model.specs.Openings.{everyone}
use Rattle.mg_chain.specs.Views.{BaseIsTold}
use Rattle.mg_image.specs.Catalog.{IsSameTable}
use Rattle.mg_image.specs.Form.{Pages, packed_coding, packed_form}
use Rattle.mg_image.specs.RecordRules.{AreRecords, Facts}
use Rattle.mg_image.specs.Records.{cells_of}
use Rattle.mg_image.specs.Sound.{facts_by}
use Rattle.mg_image.specs.Tables.{Layout}
use Rattle.mg_image_overlay_laws.specs.records.Fronts.{is_dead}
use Rattle.mg_image_overlay_laws.specs.tables.TableOwners.{IsOneOf}
use Rattle.mg_overlay_laws.specs.Overlays.{left_by, left_state}
use Rattle.mg_image_overlay_laws.specs.tables.Growing.{IsTableOf}
use Rattle.mg_seek.specs.Histories.{BasesSeeAll, DieAlike}
use Rattle.mg_engine_step_laws.specs.standing.BasedLaws.{tests_all}
use Rattle.mg_engine_step_laws.specs.standing.Standing.{Remembers, ShowsHistory, Standing}
use Rattle.mg_image_overlay_laws.specs.tables.OneTable.{stands_in}
use Rattle.mg_engine_step_laws.specs.writes.Writes.{IsSilentAt}

-- ---- definitions

-- An engine stands for a history, and its pages are known: memory is what the history says, and the pages
-- show it.
pub record KnowsPages (size : ℕ) (o : Opening) (h : Entries) (s : Standing) (pages : Pages) : Type 0
  where
    pub memory : Remembers o h s
    pub shows : ShowsHistory packed_form size o h s pages

-- the facts by which its pages are read
abbrev pub facts_shown : (size : ℕ) (o : Opening) (h : Entries) (s : Standing) (pages : Pages)
    → KnowsPages size o h s pages → Facts
facts_shown size o h s pages knows = facts_by (left_state everyone s.state) pages knows.shows.layout

-- A table is one of those that stand on the pages, the catalog among them, but for its indexes.
pub record IsShown (layout : Layout) (table : Table) : Type 0 where
  pub its : Table
  pub stands : IsTableOf layout its
  pub same : IsSameTable its table

-- the record that speaks for a key, none where none does
abbrev pub speaker_of : (size : ℕ) (o : Opening) (h : Entries) (s : Standing) (pages : Pages)
    → KnowsPages size o h s pages → List ℕ → Value → Option RecId
speaker_of size o h s pages knows = knows.shows.versions.speaker

-- no version of a key counts on its pages
abbrev pub IsSilent : (size : ℕ) (o : Opening) (h : Entries) (s : Standing) (pages : Pages)
    → KnowsPages size o h s pages → List ℕ → Value → Type 0
IsSilent size o h s pages knows name key = IsSilentAt packed_form size o h s pages knows.shows name key

-- ---- what the laws on reading ask

module _ (size : ℕ) (o : Opening) (h : Entries) (s : Standing) (pages : Pages)
    (knows : KnowsPages size o h s pages) where
  pub states_are : s.state ≡ state_of o h
  states_are = fun_ext knows.memory.state

  pub lawful_shown : AreRecords packed_coding (facts_shown size o h s pages knows) (cells_of pages)
      knows.shows.reading
  lawful_shown = knows.shows.sound.records

  pub die_alike : DieAlike o h (facts_shown size o h s pages knows)
  die_alike u = left_dead (s.state u) ∙ ap is_dead (knows.memory.state u)
    where
      left_dead : (x : TxState) → is_dead (left_by true x) ≡ is_dead x
      left_dead Active = refl
      left_dead Limbo = refl
      left_dead Dead = refl
      left_dead Committed = refl

  pub bases_see_all : BasesSeeAll o h s.live
  bases_see_all u seen = tests_all o h s.live u knows.memory.live knows.memory.based seen

  module _ (t : ℕ) (active : state_of o h t ≡ Active) where
    pub base_is_told : BaseIsTold o h s.live t
    base_is_told u = knows.memory.live.base t u active

    pub is_at_work : is_active (state_of o h t) ≡ true
    is_at_work = ap is_active active

-- ---- tables

-- a table that a transaction sees is shown
pub seen_is_shown : (layout : Layout) (table : Table)
    → IsOneOf (map (λ stand. stand.table) layout.tables) table → IsShown layout table
seen_is_shown layout table is = record {
  its = table;
  stands = stands_in layout table (inr is);
  same = record { name = refl; shape = refl; pointer = refl };
}

-- and so is the catalog
pub catalog_is_shown : (layout : Layout) → IsShown layout layout.catalog.table
catalog_is_shown layout = record {
  its = layout.catalog.table;
  stands = stands_in layout layout.catalog.table (inl refl);
  same = record { name = refl; shape = refl; pointer = refl };
}
