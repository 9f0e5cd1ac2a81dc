-- The candidates of a complete directory are enough to tell who speaks for a key, where the table stands in a layout.
use Rattle.std.proofs.Common.{◌≡◌, ◌∙◌, inl, inr, ap, refl, subst, sym, ℕ, Bool, true, false, List, [], ◌∷◌, Some, get_or}
use Rattle.mg_base.specs.declared.numbers.PageNo.{PageNo}
use Rattle.mg_base.specs.declared.numbers.RecId.{RecId}
use Rattle.mg_base.specs.declared.transaction.TxState.{TxState}
use Rattle.mg_directory.specs.Candidates.{ByKey, IsCandidate}
use Rattle.mg_heap.specs.Listed.{IsRecordOf}
use Rattle.mg_heap.specs.ListedLaws.{record_of_page}
use Rattle.mg_heap.specs.Stands.{TablesAreWalked}
use Rattle.mg_image.specs.Catalog.{IsSameTable}
use Rattle.mg_image.specs.Form.{Pages, packed_coding, packed_form}
use Rattle.mg_image.specs.RecordRules.{AreRecords, Facts, columns_for, table_in}
use Rattle.mg_image.specs.Records.{Reading, cells_of}
use Rattle.mg_image.specs.Sound.{HasTablePages, IsSoundBy, facts_by}
use Rattle.mg_image.specs.Tables.{Has, Layout, Stand}
use Rattle.mg_image_overlay_laws.specs.tables.Growing.{IsTableOf}
use Rattle.mg_image_overlay_laws.specs.kept.Knowing.{its_pages, of_table}
use Rattle.mg_model.specs.declared.table.Table.{Table}
use Rattle.mg_rowcode.specs.Faults.{DecodesTo}
use Rattle.mg_sortkey.specs.KeyBytes.{key_bytes}
use Rattle.mg_snap.specs.Live.{State}
use Rattle.mg_value.specs.declared.shape.Column.{Column}
use Rattle.mg_value.specs.declared.shape.Shape.{Shape}
use Rattle.mg_value.specs.declared.value.Value.{Value}
use Rattle.mg_value.specs.declared.value.Value.TheVariants.{Null}
use Rattle.mg_seek.specs.AmongLaws.{page_among}
use Rattle.mg_seek.specs.CandidateLaws.{primary_among}
use Rattle.mg_seek.specs.Candidates.{AreEnough}
use Rattle.mg_seek.specs.Readings.{SpeakersOfReadings}
use Rattle.mg_seek.specs.Speaking.{Speaks}
use Rattle.mg_seek.specs.TableRecords.{AreTableRecords, IsAmong, records_in}
use Rattle.mg_noted_laws.specs.Noted.{IsNoted}
use Rattle.mg_noted_laws.specs.SpeakingLaws.{speaks_noted}

candidate_among : (recs : List RecId) (p : RecId) → IsCandidate recs p → IsAmong recs p
candidate_among [] p there = absurd there
candidate_among (q ∷ recs) p (inl same) = inl same
candidate_among (q ∷ recs) p (inr later) = inr (candidate_among recs p later)

pub enough_by_directory : SpeakersOfReadings → TablesAreWalked → (state : ℕ → TxState) (live : State) (view : Pages)
    (key : Value) (f : Facts) (r : Reading) (dir : ByKey) (in_primary : Bool) (size : ℕ) (stand : Stand)
    → AreRecords packed_coding f (cells_of view) r → HasTablePages in_primary size view stand
    → ((p : RecId) → Has stand.data_pages p.page.0 → table_in f p ≡ Some stand.table)
    → IsNoted f r stand.table.pointer.0 dir → AreEnough state live view stand.table key (dir (key_bytes key))
enough_by_directory of_readings walked state live view key f r dir in_primary size stand lawful has its noted = record {
  records = records_in view stand.data_pages;
  of_table = record {
    pointers = stand.pointers;
    data_pages = stand.data_pages;
    table = walked in_primary size view stand has;
    are = refl;
  };
  told = λ p among. record_of_page walked in_primary size view stand has p (page_among view stand.data_pages p among)
      (primary_among view stand.data_pages p among);
  whole = λ p among speaks. candidate_among (dir (key_bytes key)) p
      (speaks_noted of_readings state live view stand.table key p f r dir
      (record { lawful = lawful; of_table = its p (page_among view stand.data_pages p among) }) noted speaks);
}

-- ---- for a table that stands but for its indexes

pub columns_alike : (its table : Table) → IsSameTable its table → (deleted : Bool)
    → columns_for table deleted ≡ columns_for its deleted
columns_alike its table same false =
    ap (λ (s : Shape). columns_for (record its { shape = s }) false) (sym same.shape)
columns_alike its table same true =
    ap (λ (s : Shape). columns_for (record its { shape = s }) true) (sym same.shape)

-- who speaks in it speaks in the one that stands
speaks_alike : (state : ℕ → TxState) (live : State) (view : Pages) (its table : Table) → IsSameTable its table
    → (key : Value) (rec : RecId) → Speaks state live view table key rec → Speaks state live view its key rec
speaks_alike state live view its table same key rec speaks = record {
  newest = speaks.newest;
  living = speaks.living;
  stays = speaks.stays;
  row = speaks.row;
  given = record {
    coded = subst (λ (columns : List Column). DecodesTo columns speaks.newest.version.format
        speaks.newest.version.body speaks.row) (columns_alike its table same speaks.newest.version.deleted)
        speaks.given.coded;
    storable = speaks.given.storable;
  };
  keyed = ap (λ (s : Shape). get_or speaks.row s.key Null) same.shape ∙ speaks.keyed;
}

enough_alike : (state : ℕ → TxState) (live : State) (view : Pages) (its table : Table) → IsSameTable its table
    → (key : Value) (candidates : List RecId) → AreEnough state live view its key candidates
    → AreEnough state live view table key candidates
enough_alike state live view its table same key candidates enough = record {
  records = enough.records;
  of_table = subst (λ (p : PageNo). AreTableRecords view p.0 enough.records) same.pointer enough.of_table;
  told = λ p among. subst (λ (n : PageNo). IsRecordOf view n.0 p) same.pointer (enough.told p among);
  whole = λ p among speaks. enough.whole p among (speaks_alike state live view its table same key p speaks);
}

-- So they are for a table that stands in a layout under which the pages are sound.
pub enough_in_layout : SpeakersOfReadings → TablesAreWalked → (size : ℕ) (counts : ℕ → TxState) (pages : Pages)
    (layout : Layout) (r : Reading) → IsSoundBy packed_form size counts pages layout r → (its table : Table)
    → IsTableOf layout its → IsSameTable its table → (state : ℕ → TxState) (live : State) (key : Value) (dir : ByKey)
    → IsNoted (facts_by counts pages layout) r table.pointer.0 dir
    → AreEnough state live pages table key (dir (key_bytes key))
enough_in_layout of_readings walked size counts pages layout r sound its table of same state live key dir noted =
    enough_alike state live pages its table same key (dir (key_bytes key))
    (subst (λ (x : Table). AreEnough state live pages x key (dir (key_bytes key))) of.table_is
    (enough_by_directory of_readings walked state live pages key (facts_by counts pages layout) r dir
    packed_form.in_primary size of.stand sound.records
    (its_pages packed_form size counts pages layout r sound its of)
    (λ p is. of_table packed_form size counts pages layout r sound its of p.page.0 is ∙ ap Some (sym of.table_is))
    (subst (λ (n : ℕ). IsNoted (facts_by counts pages layout) r n dir) (sym first) noted)))
  where
    first : of.stand.table.pointer.0 ≡ table.pointer.0
    first = ap (λ (x : Table). x.pointer.0) of.table_is ∙ ap (λ (p : PageNo). p.0) same.pointer
