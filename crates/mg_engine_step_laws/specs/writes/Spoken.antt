-- What the memory and the pages of an engine say of a writer and of the record that speaks for a key.
use Rattle.mg_base.specs.declared.numbers.RecId.{RecId}
use Rattle.mg_base.specs.declared.transaction.TxState.TheVariants.{Active, Dead}
use Rattle.mg_image_overlay_laws.specs.tables.Growing.{IsTableOf}
use Rattle.mg_image.specs.Form.{Form, Pages}
use Rattle.mg_image.specs.Inventory.{next_of}
use Rattle.mg_image.specs.RecordRules.{Facts}
use Rattle.mg_image.specs.Records.{record_key}
use Rattle.mg_image.specs.Sound.{facts_by}
use Rattle.mg_image.specs.Tables.{stands_of, table_at}
use Rattle.mg_model.specs.History.{Entries}
use Rattle.mg_model.specs.Legal.{IsLegal, MayBegin}
use Rattle.mg_model.specs.NumberLaws.{drawn_from_state}
use Rattle.mg_model.specs.Openings.{everyone}
use Rattle.mg_model.specs.declared.opening.Opening.{Opening}
use Rattle.mg_model.specs.declared.table.Table.{Table}
use Rattle.mg_overlay_laws.specs.Overlays.{left_state}
use Rattle.mg_engine_step_laws.specs.standing.Standing.{Remembers, ShowsHistory, Standing}
use Rattle.mg_engine_step_laws.specs.standing.Versions.{IsRecordOf, SpeaksFor}
use Rattle.mg_image_overlay_laws.specs.tables.OneTable.{one_table, table_at_stands}
use Rattle.mg_value.specs.declared.value.Value.{Value}
use Rattle.std.proofs.Common.{List, Some, ap, subst, sym, ℕ, ◌<◌, ◌∙◌, ◌≡◌}

-- the number of an active transaction is drawn on the pages
pub was_drawn : (form : Form) (size : ℕ) (o : Opening) (h : Entries) (s : Standing) (pages : Pages) → MayBegin o
    → IsLegal o h → Remembers o h s → ShowsHistory form size o h s pages → (t : ℕ) → s.state t ≡ Active
    → t < next_of pages
was_drawn form size o h s pages opening legal memory shows t active =
    subst (λ (n : ℕ). t < n) (sym (shows.next ∙ memory.next)) (drawn_from_state o opening h legal t
    (λ dead. let both : Active ≡ Dead = sym active ∙ (memory.state t ∙ dead) in absurd cc))

-- the record that speaks for a key of a table stands on a page of the table, and has the key
module _ (form : Form) (size : ℕ) (o : Opening) (h : Entries) (s : Standing) (pages : Pages)
    (shows : ShowsHistory form size o h s pages) (name : List ℕ) (key : Value) (rec : RecId)
    (table : Table) (stands : IsTableOf shows.layout table) (named : table.name ≡ name)
    (spoken : shows.versions.speaker name key ≡ Some rec) where
  abbrev f : Facts
  f = facts_by (left_state everyone s.state) pages shows.layout

  its : IsRecordOf f shows.reading name key rec
  its = (subst (SpeaksFor o h f shows.reading name key) spoken (shows.versions.speaks name key)).0

  same : its.table ≡ table
  same = one_table form size (left_state everyone s.state) pages shows.layout shows.reading shows.sound its.table
      table (table_at_stands shows.layout rec.page.0 its.table its.of_table) stands (its.named ∙ sym named)

  pub spoken_of : table_at (stands_of shows.layout) rec.page.0 ≡ Some table
  spoken_of = its.of_table ∙ ap Some same

  pub spoken_key : record_key table (shows.reading rec) ≡ key
  spoken_key = ap (λ (t : Table). record_key t (shows.reading rec)) (sym same) ∙ its.keyed
