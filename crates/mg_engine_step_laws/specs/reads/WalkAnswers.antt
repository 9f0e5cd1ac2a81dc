-- A walk over the records of a table comes to the rows of a view.
use Rattle.std.proofs.Common.{◌≡◌, refl, sym, ap, ◌∙◌, subst, ℕ, Bool, List, [], ◌∷◌, Option, None, Some}
use Rattle.std.specs.Prelude.{IsPermutation}
use Rattle.mg_base.specs.declared.numbers.RecId.{RecId}
use Rattle.mg_base.specs.declared.numbers.PageNo.{PageNo}
use Rattle.mg_base.specs.declared.transaction.TxState.{TxState}
use Rattle.mg_model.specs.declared.table.Index.{Index}
use Rattle.mg_model.specs.declared.table.Table.{Table}
use Rattle.mg_model.specs.Changes.{KeyedRows, rows_of}
use Rattle.mg_model.specs.Machine.{state_of, view}
use Rattle.mg_model.specs.Openings.{everyone}
use Rattle.mg_chain.specs.Chains.{takes_version}
use Rattle.mg_heap.specs.Walk.{GivesNext}
use Rattle.mg_image.specs.Form.{Row}
use Rattle.mg_image.specs.RecordRules.{Facts}
use Rattle.mg_image.specs.Records.{Reading, shown}
use Rattle.mg_image.specs.Sound.{facts_by}
use Rattle.mg_image.specs.Tables.{Has}
use Rattle.mg_overlay_laws.specs.Overlays.{left_state}
use Rattle.mg_seek.specs.declared.views.Visit.{Visit}
use Rattle.mg_seek.specs.Readings.{RowsOfReadings}
use Rattle.mg_seek.specs.TableRecords.{records_in}
use Rattle.mg_seek.specs.Views.{IsRowSeen, IsVisit}
use Rattle.mg_seek.specs.Walks.{ComesTo, WalksInOrder, WalksShowViews, keyed, records_behind, rows_shown}
use Rattle.mg_engine_step_laws.specs.reads.KeyAnswers.{has_speaker}
use Rattle.mg_engine_step_laws.specs.standing.Known.{base_is_told, die_alike, is_at_work, lawful_shown, speaker_of, states_are}
use Rattle.mg_engine_step_laws.specs.tables_back.OtherIndexes.{as_first, as_other, row_seen_on}
use Rattle.mg_engine_step_laws.specs.tables.TablePages.{data_once, data_there, table_there}
use Rattle.mg_engine_step_laws.specs.reads.WalkPlaces.{in_turn, stands_at}
use Rattle.mg_engine_step_laws.specs.reads.Walking.{VisitsNext, WalksBegin, WalksGoOn, rec_of}

-- ---- rows

module _ (table : Table) (indexes : List Index) (counts : ℕ → Bool) (r : Reading) where
  rows_same : (recs : List RecId)
      → rows_shown counts (record table { indexes = indexes }) r recs ≡ rows_shown counts table r recs
  rows_same [] = refl
  rows_same (rec ∷ recs) = at (shown counts (r rec)) (rows_same recs)
    where
      at : (row : Option Row)
          → rows_shown counts (record table { indexes = indexes }) r recs ≡ rows_shown counts table r recs
          → keyed (record table { indexes = indexes }) row
          (rows_shown counts (record table { indexes = indexes }) r recs)
          ≡ keyed table row (rows_shown counts table r recs)
      at None same = same
      at (Some row) same = ap (λ (rows : KeyedRows). keyed table (Some row) rows) same

pub walks_begin : WalksShowViews → WalksBegin
walks_begin views size o h s pages knows table t shown_ active = (
  rows_shown (takes_version s.state s.live t) table knows.shows.reading
      (records_in pages shown_.stands.stand.data_pages),
  record {
    layout = knows.shows.layout;
    reading = knows.shows.reading;
    sound = knows.shows.sound;
    shown = shown_;
    stands = tt;
    are = refl;
  },
  subst (λ (state : ℕ → TxState). IsPermutation (rows_shown (takes_version state s.live t) table
      knows.shows.reading (records_in pages shown_.stands.stand.data_pages))
      (rows_of (view o h t) table.name)) (sym (states_are size o h s pages knows))
      (subst (λ (rows : KeyedRows). IsPermutation rows (rows_of (view o h t) table.name))
      (rows_same table shown_.its.indexes (takes_version (state_of o h) s.live t) knows.shows.reading
      (records_in pages shown_.stands.stand.data_pages))
      (as_first shown_.its table shown_.same (λ x. IsPermutation
      (rows_shown (takes_version (state_of o h) s.live t) x knows.shows.reading
      (records_in pages shown_.stands.stand.data_pages)) (rows_of (view o h t) x.name))
      (views o h s.live t pages shown_.its shown_.stands.stand.data_pages
      (facts_by (left_state everyone s.state) pages knows.shows.layout) knows.shows.reading
      (λ key. speaker_of size o h s pages knows shown_.its.name key)
      (lawful_shown size o h s pages knows) (die_alike size o h s pages knows)
      (data_once size (left_state everyone s.state) pages knows.shows.layout knows.shows.reading
      knows.shows.sound shown_.its shown_.stands)
      (data_there size (left_state everyone s.state) pages knows.shows.layout knows.shows.reading
      knows.shows.sound shown_.its shown_.stands)
      (λ key. has_speaker size o h s pages knows shown_.its shown_.stands key)
      (is_at_work size o h s pages knows t active) (base_is_told size o h s pages knows t active)))),
)

pub walks_go_on : WalksInOrder → RowsOfReadings → WalksGoOn
walks_go_on order rows_are size s pages table t after found rows come is = at found is
  where
    its : Table
    its = come.shown.its

    data_pages : List ℕ
    data_pages = come.shown.stands.stand.data_pages

    counts : ℕ → Bool
    counts = takes_version s.state s.live t.0

    next : (x : Option RecId) → GivesNext pages table.pointer.0 (rec_of after) x
        → ComesTo pages data_pages x (records_behind pages data_pages (rec_of after))
    next x gives = order pages its.pointer.0 come.shown.stands.stand.pointers data_pages (rec_of after) x
        (table_there size (left_state everyone s.state) pages come.layout come.reading come.sound its
        come.shown.stands) (data_once size (left_state everyone s.state) pages come.layout come.reading
        come.sound its come.shown.stands) (stands_at data_pages after come.stands)
        (subst (λ (n : ℕ). GivesNext pages n (rec_of after) x)
        (ap (λ (k : PageNo). k.0) (sym come.shown.same.pointer)) gives)

    at : (x : Option Visit) → IsVisit s.state s.live t pages table (rec_of after) x
        → VisitsNext size s pages t.0 table x rows
    at None gives = come.are ∙ ap (rows_shown counts table come.reading) (next None gives)
    at (Some visit) (gives, seen) =
        let there = next (Some visit.rec) gives in (
          rows_shown counts table come.reading (records_behind pages data_pages (Some visit.rec)),
          come.are ∙ (ap (rows_shown counts table come.reading) there.0 ∙ ap (λ (row : Option Row).
              keyed table row (rows_shown counts table come.reading
              (records_behind pages data_pages (Some visit.rec)))) (sym (row_is there.1))),
          record {
            layout = come.layout;
            reading = come.reading;
            sound = come.sound;
            shown = come.shown;
            stands = in_turn size (left_state everyone s.state) pages come.layout come.reading come.sound its
                come.shown.stands visit.rec.page.0 there.1;
            are = refl;
          },
        )
      where
        facts : Facts
        facts = facts_by (left_state everyone s.state) pages come.layout

        row_is : Has data_pages visit.rec.page.0 → visit.row ≡ shown counts (come.reading visit.rec)
        row_is there = rows_are s.state s.live t pages its visit.rec visit.row facts come.reading
            (record {
              lawful = come.sound.records;
              of_table = (data_there size (left_state everyone s.state) pages come.layout come.reading
                  come.sound its come.shown.stands visit.rec.page.0).1 there;
            })
            (as_other its table come.shown.same (λ x. IsRowSeen s.state s.live t pages x visit.rec visit.row)
            (row_seen_on table its.indexes s.state s.live pages t visit.rec visit.row seen))
