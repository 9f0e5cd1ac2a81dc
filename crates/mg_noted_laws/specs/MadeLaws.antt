-- A directory that was made of a table's records, each under the key that was read of it, is complete.
use Rattle.std.proofs.Common.{◌≡◌, ◌≢◌, ◌∙◌, ap, refl, subst, sym, ℕ, Bool, true, false, List, [], ◌∷◌, Option, None, Some, get_or}
use Rattle.mg_base.specs.declared.numbers.PageNo.{PageNo}
use Rattle.mg_base.specs.declared.numbers.RecId.{RecId}
use Rattle.mg_base.specs.declared.transaction.TxState.{TxState}
use Rattle.mg_directory.specs.Candidates.{ByKey, IsCandidate}
use Rattle.mg_heap.specs.Listed.{IsRecordOf}
use Rattle.mg_heap.specs.ListedLaws.{page_of_record, record_of_page}
use Rattle.mg_heap.specs.Stands.{TablesAreWalked}
use Rattle.mg_heap.specs.Walk.{is_primary}
use Rattle.mg_image.specs.Catalog.{IsSameTable}
use Rattle.mg_image.specs.Form.{Pages, Row, packed_form}
use Rattle.mg_image.specs.RecordRules.{table_in}
use Rattle.mg_image.specs.Records.{Chain, Reading, cells_of, goes, newest_of}
use Rattle.mg_image.specs.Sound.{IsSoundBy, facts_by}
use Rattle.mg_image.specs.Tables.{Has, Layout}
use Rattle.mg_image.specs.declared.entry.Entry.{Entry}
use Rattle.mg_image_overlay_laws.specs.tables.Growing.{IsTableOf}
use Rattle.mg_image_overlay_laws.specs.kept.Knowing.{its_pages, of_table}
use Rattle.mg_image_overlay_laws.specs.tables.OneTable.{its_data, table_at_stands}
use Rattle.mg_model.specs.declared.table.Table.{Table}
use Rattle.mg_noting.specs.Building.{IsUnderItsKey}
use Rattle.mg_noting.specs.Making.{IsBuiltOf}
use Rattle.mg_rowcode.specs.Faults.{DecodesTo}
use Rattle.mg_seek.specs.AmongLaws.{newest_primary}
use Rattle.mg_seek.specs.CandidateLaws.{its_record}
use Rattle.mg_seek.specs.Readings.{KeysOfReadings}
use Rattle.mg_seek.specs.Rows.{GivesRow, IsKeyFound}
use Rattle.mg_seek.specs.TableRecords.{AreTableRecords, IsAmong}
use Rattle.mg_seek.specs.Views.{IsKeyOf}
use Rattle.mg_seek.specs.declared.walk.Placed.{Placed}
use Rattle.mg_slots.specs.DataPage.{cell_of}
use Rattle.mg_snap.specs.Live.{State}
use Rattle.mg_sortkey.specs.KeyBytes.{key_bytes}
use Rattle.mg_value.specs.declared.shape.Column.{Column}
use Rattle.mg_value.specs.declared.shape.Shape.{Shape}
use Rattle.mg_value.specs.declared.value.Value.{Value}
use Rattle.mg_value.specs.declared.value.Value.TheVariants.{Null}
use Rattle.mg_version.specs.declared.cell.Link.{Link}
use Rattle.mg_version.specs.declared.cell.Version.{Version}
use Rattle.mg_noted_laws.specs.EnoughLaws.{columns_alike}
use Rattle.mg_noted_laws.specs.Noted.{IsNoted}
use Rattle.mg_noted_laws.specs.SpeakingLaws.{built_noted}

-- ---- keys that are read alike

row_alike : (its table : Table) → IsSameTable its table → (v : Version) (row : Row) → GivesRow table v row
    → GivesRow its v row
row_alike its table same v row given = record {
  coded = subst (λ (columns : List Column). DecodesTo columns v.format v.body row)
      (columns_alike its table same v.deleted) given.coded;
  storable = given.storable;
}

key_alike : (state : ℕ → TxState) (live : State) (view : Pages) (its table : Table) → IsSameTable its table
    → (rec : RecId) (key : Option Value) → IsKeyOf state live view table rec key
    → IsKeyOf state live view its rec key
key_alike state live view its table same rec key is =
    record { newest = is.newest; first = is.first; gives = at is.newest is.gives }
  where
    at : (newest : Option Placed) → IsKeyFound table newest key → IsKeyFound its newest key
    at None none = none
    at (Some placed) (row, given, some) = (
      row,
      row_alike its table same placed.version row given,
      some ∙ ap (λ (s : Shape). Some (get_or row s.key Null)) (sym same.shape),
    )

-- ---- a record that has versions

-- a link leads to the versions that are read, where there are some
link_there : (view : Pages) (link : Option Link) (e : Entry) (es : List Entry)
    → Chain (cells_of view) link (e ∷ es) → (l : Link) × (link ≡ Some l)
link_there view link e es (goes l d rest at cell by more) = (l, refl)

primary_by : (view : Pages) (rec : RecId) (es : List Entry) → es ≢ []
    → Chain (cells_of view) (newest_of rec (cells_of view rec)) es
    → is_primary (cell_of (view rec.page.0) rec.slot) ≡ true
primary_by view rec [] some chain = absurd (some refl)
primary_by view rec (e ∷ es) some chain =
    let it = link_there view (newest_of rec (cells_of view rec)) e es chain in newest_primary view rec it.0 it.1

module _ (of_readings : KeysOfReadings) (walked : TablesAreWalked) (size : ℕ) (counts : ℕ → TxState) (pages : Pages)
    (layout : Layout) (r : Reading) (sound : IsSoundBy packed_form size counts pages layout r) where
  -- it is a record of the table that begins where its own does
  its_own : (its : Table) (of : IsTableOf layout its) (p : RecId) (other : Table)
      → table_in (facts_by counts pages layout) p ≡ Some other → other.pointer.0 ≡ its.pointer.0 → r p ≢ []
      → IsRecordOf pages its.pointer.0 p
  its_own its of p other in_ first some =
      let of_other : IsTableOf layout other = table_at_stands layout p.page.0 other in_ in
      subst (λ (n : ℕ). IsRecordOf pages n p) (ap (λ (x : Table). x.pointer.0) of_other.table_is ∙ first)
      (record_of_page walked packed_form.in_primary size pages of_other.stand
      (its_pages packed_form size counts pages layout r sound other of_other) p
      ((its_data packed_form size counts pages layout r sound other of_other p.page.0).0 in_)
      (primary_by pages p (r p) some (sound.records.reads p other in_)))

  -- and so its table is that one
  its_table : (its : Table) (of : IsTableOf layout its) (p : RecId) (other : Table)
      → table_in (facts_by counts pages layout) p ≡ Some other → IsRecordOf pages its.pointer.0 p → other ≡ its
  its_table its of p other in_ is =
      let there : Has of.stand.data_pages p.page.0 =
      page_of_record pages of.stand.table.pointer.0 of.stand.pointers of.stand.data_pages
      (walked packed_form.in_primary size pages of.stand
      (its_pages packed_form size counts pages layout r sound its of)) p
      (subst (λ (n : ℕ). IsRecordOf pages n p) (sym (ap (λ (x : Table). x.pointer.0) of.table_is)) is) in
      let both : Some other ≡ Some its =
      sym in_ ∙ of_table packed_form size counts pages layout r sound its of p.page.0 there in
      cc

  -- So the directory is complete: also where the table is given under another list of indexes.
  pub built_in_layout : (its table : Table) → IsTableOf layout its → IsSameTable its table → (state : ℕ → TxState)
      (live : State) (dir : ByKey) → IsBuiltOf state live pages table dir
      → IsNoted (facts_by counts pages layout) r table.pointer.0 dir
  built_in_layout its table of same state live dir built =
      subst (λ (p : PageNo). IsNoted (facts_by counts pages layout) r p.0 dir) same.pointer
      (built_noted of_readings state live pages its built.records (facts_by counts pages layout) r dir sound.records
      (λ p other in_ first some.
      let is : IsRecordOf pages its.pointer.0 p = its_own its of p other in_ first some in
      (its_table its of p other in_ is, its_record pages its.pointer.0 built.records are p is))
      (λ p among. under p (built.built p among)))
    where
      are : AreTableRecords pages its.pointer.0 built.records
      are = subst (λ (p : PageNo). AreTableRecords pages p.0 built.records) (sym same.pointer) built.of_table

      under : (p : RecId) → IsUnderItsKey state live pages table dir p
          → (key : Option Value) × IsKeyOf state live pages its p key
          × ((k : Value) → key ≡ Some k → IsCandidate (dir (key_bytes k)) p)
      under p is = (is.key, key_alike state live pages its table same p is.key is.read, is.has)
