-- What stands at a key before it is written, by the versions of the record that speaks for it.
use Rattle.std.proofs.Common.{◌≡◌, ◌≢◌, ◌==◌, get_or, ℕ, Bool, true, false, List, [], ◌∷◌, Option, None, Some, refl, sym, ap, ◌∙◌, subst}
use Rattle.std.specs.Prelude.{if◌then◌else◌, slice_get}
use Rattle.std.specs.Str.{bytes_eq}
use Rattle.std.proofs.lemmas.Bool.{eqb-true, false≢true}
use Rattle.mg_base.specs.declared.numbers.RecId.{RecId}
use Rattle.mg_base.specs.declared.numbers.TxNo.{TxNo}
use Rattle.mg_base.specs.declared.transaction.TxState.{TxState}
use Rattle.mg_base.specs.declared.transaction.TxState.TheVariants.{Active, Committed, Dead, Limbo}
use Rattle.mg_value.specs.declared.shape.Column.{Column}
use Rattle.mg_value.specs.declared.shape.Shape.{Shape}
use Rattle.mg_value.specs.declared.value.Value.{Value}
use Rattle.mg_value.specs.declared.value.Value.TheVariants.{Null}
use Rattle.mg_model.specs.declared.change.Change.{Change}
use Rattle.mg_model.specs.declared.opening.Opening.{Opening}
use Rattle.mg_model.specs.declared.table.Table.{Table}
use Rattle.mg_model.specs.Catalog.{catalog_name}
use Rattle.mg_model.specs.Changes.{has_change, is_at, row_at, same_name}
use Rattle.mg_model.specs.History.{Entries}
use Rattle.mg_model.specs.Machine.{own, state_of}
use Rattle.mg_model.specs.Openings.{everyone}
use Rattle.mg_generation_laws.specs.Generations.{generation, is_newest_by, newest_row}
use Rattle.mg_generation_laws.specs.Kept.{StandFor}
use Rattle.mg_engine_step_laws.specs.standing.Known.{IsShown, KnowsPages, facts_shown}
use Rattle.mg_engine_step_laws.specs.standing.OwnChains.{IsOwnTold, own_told}
use Rattle.mg_image.specs.declared.entry.Entry.{Entry}
use Rattle.mg_image.specs.Form.{Pages, Row, packed_coding, packed_form}
use Rattle.mg_image.specs.Held.{told_row}
use Rattle.mg_image.specs.RecordRules.{Each, EachBack, Facts, IsVersion, columns_for, erased_from}
use Rattle.mg_image.specs.Records.{Chain, Reading, cells_of, newest_of, record_key, shown, writer}
use Rattle.mg_image_overlay_laws.specs.records.Fronts.{is_dead}
use Rattle.mg_overlay_laws.specs.Overlays.{left_by, left_state}
use Rattle.mg_chain.specs.Chains.{takes_version}
use Rattle.mg_chain.specs.Views.{first_entry}
use Rattle.mg_row_writes.specs.Befores.{IsBeforeBy, IsBeforeIn, IsBeforeOf, IsWas, OwnBefore, before_other}
use Rattle.mg_row_writes.specs.declared.before.Before.{Before}
use Rattle.mg_seek.specs.Histories.{told_all, told_given, told_versions}
use Rattle.mg_seek.specs.Readings.{PlacesOfReadings, RowsOfReadings, placed_if}
use Rattle.mg_seek.specs.Rows.{GivesRow, IsRowOr}
use Rattle.mg_engine_step_laws.specs.tables_back.OtherIndexes.{as_other, row_seen_on}
use Rattle.mg_snap.specs.Live.{State}
use Rattle.mg_version.specs.declared.cell.Link.{Link}
use Rattle.mg_seek.specs.Versions.{FirstAt, IsFirst, is_it, is_older, placed, wants}
use Rattle.mg_seek.specs.Views.{IsRowSeen}
use Rattle.mg_seek.specs.declared.walk.Placed.{Placed}
use Rattle.mg_seek.specs.declared.whose.Wanted.TheVariants.{Any, SeenBy}
use Rattle.mg_engine_step_laws.specs.standing.Standing.{Standing}
use Rattle.mg_engine_step_laws.specs.standing.Versions.{IsRecordOf, SpeaksFor}
use Rattle.mg_image_overlay_laws.specs.tables.OneTable.{one_table, table_at_stands}
use Rattle.mg_undo.specs.Machine.{was_given, was_in}
use Rattle.mg_undo.specs.declared.changes.Was.TheVariants as wases
use Rattle.mg_version.specs.declared.cell.Version.{Version}
use Rattle.mg_engine_meaning_laws.specs.Formers.{IsOfKind, MayReturn}
use Rattle.mg_engine_meaning_laws.specs.PlainTables.{AreFirst}
use Rattle.mg_rowcode.specs.Faults.{DecodesTo}
use Rattle.mg_engine_change_laws.specs.rows.CodeLaws.{first_fits, for_first, index_is}
use Rattle.mg_engine_change_laws.specs.rows.ReturnLaws.{kind_at}
use Rattle.mg_engine_change_laws.specs.rows.Befores.{BeforesAreTold}

-- ---- own changes as what is kept of them

none_was : (cs : List Change) (name : List ℕ) (key : Value) → has_change cs name key ≡ false
    → was_in cs name key ≡ wases.Untouched
none_was [] name key none = refl
none_was (c ∷ cs) name key none = at (is_at c name key) none (none_was cs name key)
  where
    at : (b : Bool) → (if b then true else has_change cs name key) ≡ false
        → (has_change cs name key ≡ false → was_in cs name key ≡ wases.Untouched)
        → (if b then was_given c.row else was_in cs name key) ≡ wases.Untouched
    at true is more = absurd (false≢true (sym is))
    at false is more = more is

some_was : (cs : List Change) (name : List ℕ) (key : Value) → has_change cs name key ≡ true
    → was_in cs name key ≡ was_given (row_at cs name key)
some_was [] name key has = absurd (false≢true has)
some_was (c ∷ cs) name key has = at (is_at c name key) has (some_was cs name key)
  where
    at : (b : Bool) → (if b then true else has_change cs name key) ≡ true
        → (has_change cs name key ≡ true → was_in cs name key ≡ was_given (row_at cs name key))
        → (if b then was_given c.row else was_in cs name key)
        ≡ was_given (if b then c.row else row_at cs name key)
    at true is more = refl
    at false is more = more is

-- ---- the newest version

first_same : (view : Pages) (t : TxNo) (state : ℕ → TxState) (live : State) (rec : RecId) (p : Placed)
    → takes_version state live t.0 p.version.tx.0 ≡ true → IsFirst view (wants state live Any) rec (Some p)
    → IsFirst view (wants state live (SeenBy t)) rec (Some p)
first_same view t state live rec p takes first = at (newest_of rec (cells_of view rec)) first
  where
    at : (l : Option Link) → FirstAt (cells_of view) (wants state live Any) l (Some p)
        → FirstAt (cells_of view) (wants state live (SeenBy t)) l (Some p)
    at l (is_it m v meets is) = is_it m v meets takes
    at l (is_older m v found meets is more) = absurd (false≢true (sym is))

module _ (places : PlacesOfReadings) (rows : RowsOfReadings) (size : ℕ) (o : Opening) (h : Entries) (s : Standing)
    (pages : Pages) (knows : KnowsPages size o h s pages) (t : TxNo) (table : Table) (key : Value)
    (active : state_of o h t.0 ≡ Active) (there : IsShown knows.shows.layout table)
    (other : same_name table.name catalog_name ≡ false) (plain_columns : AreFirst table.shape.columns) where
  abbrev f : Facts
  f = facts_shown size o h s pages knows

  abbrev r : Reading
  r = knows.shows.reading

  its_state : s.state t.0 ≡ Active
  its_state = knows.memory.state t.0 ∙ active

  alive_if : (x : TxState) → x ≢ Dead → is_dead (left_by true x) ≡ false
  alive_if Active ne = refl
  alive_if Limbo ne = refl
  alive_if Committed ne = refl
  alive_if Dead ne = absurd (ne refl)

  -- a committed one is another
  not_its : (u : ℕ) → f.state u ≡ Committed → (u == t.0) ≡ false
  not_its u committed = at (u == t.0) refl
    where
      at : (b : Bool) → (u == t.0) ≡ b → (u == t.0) ≡ false
      at false is = is
      at true is =
          let same : u ≡ t.0 = eqb-true u t.0 is in
          let limbo : f.state u ≡ Limbo = ap (λ (n : ℕ). left_by true (s.state n)) same ∙ ap (left_by true) its_state in
          let both : Committed ≡ Limbo = sym committed ∙ limbo in absurd cc

  -- ---- one record

  module _ (rec : RecId) (its : IsRecordOf f knows.shows.reading table.name key rec)
      (stand : StandFor o h table.name key (told_versions f.state its.table (knows.shows.reading rec))) where
    -- the layout's own table has the name and the columns
    own_table : its.table ≡ there.its
    own_table = one_table packed_form size (left_state everyone s.state) pages knows.shows.layout r knows.shows.sound
        its.table there.its (table_at_stands knows.shows.layout rec.page.0 its.table its.of_table) there.stands
        (its.named ∙ sym there.same.name)

    chain_read : Chain (cells_of pages) (newest_of rec (cells_of pages rec)) (knows.shows.reading rec)
    chain_read = knows.shows.sound.records.reads rec its.table its.of_table

    backs : EachBack (λ e. f.state (writer e) ≡ Committed) (knows.shows.reading rec)
    backs = (knows.shows.sound.records.each rec its.table its.of_table).backs

    told : IsOwnTold o h t.0 table.name key (told_versions f.state its.table (knows.shows.reading rec))
    told = own_told o h t.0 table.name key (told_versions f.state its.table (knows.shows.reading rec)) active stand

    -- another one's, or none: its own changes have none at the key
    untouched : is_newest_by t.0 (told_versions f.state its.table (knows.shows.reading rec)) ≡ false
        → wases.Untouched ≡ was_in (own o h t.0) table.name key
    untouched none = sym (none_was (own o h t.0) table.name key (told.has_ ∙ none))

    committed_first : (es : List Entry) → Each (λ e. f.state (writer e) ≡ Committed) es
        → is_newest_by t.0 (told_all its.table es) ≡ false
    committed_first [] each = refl
    committed_first (e ∷ es) each = not_its (writer e) each.0

    not_newest : (e : Entry) (older : List Entry) → knows.shows.reading rec ≡ e ∷ older → (writer e == t.0) ≡ false
        → is_newest_by t.0 (told_versions f.state its.table (knows.shows.reading rec)) ≡ false
    not_newest e older is off = ap (λ (es : List Entry). is_newest_by t.0 (told_versions f.state its.table es)) is
        ∙ at (is_dead (f.state (writer e)))
      where
        at : (b : Bool) → is_newest_by t.0 (told_all its.table (if b then older else e ∷ older)) ≡ false
        at true = committed_first older (subst (EachBack (λ d. f.state (writer d) ≡ Committed)) is backs)
        at false = off

    module _ (e : Entry) (older : List Entry) (is : knows.shows.reading rec ≡ e ∷ older)
        (mine : (writer e == t.0) ≡ true) where
      writer_is : writer e ≡ t.0
      writer_is = eqb-true (writer e) t.0 mine

      stays : is_dead (f.state (writer e)) ≡ false
      stays = ap (λ (n : ℕ). is_dead (left_by true (s.state n))) writer_is
          ∙ ap (λ (x : TxState). is_dead (left_by true x)) its_state

      chain_is : told_versions f.state its.table (knows.shows.reading rec)
          ≡ generation (writer e) (told_given its.table e) ∷ told_all its.table older
      chain_is = ap (told_versions f.state its.table) is
          ∙ ap (λ (b : Bool). told_all its.table (if b then older else e ∷ older)) stays

      newest : is_newest_by t.0 (told_versions f.state its.table (knows.shows.reading rec)) ≡ true
      newest = ap (is_newest_by t.0) chain_is ∙ mine

      own_was : was_in (own o h t.0) table.name key ≡ was_given (told_given its.table e)
      own_was = some_was (own o h t.0) table.name key (told.has_ ∙ newest)
          ∙ ap was_given (told.gives newest ∙ ap newest_row chain_is)

      name_is : its.table.name ≡ table.name
      name_is = its.named

      plain_row : (row : Row) → told_row its.table row ≡ row
      plain_row row = let off : bytes_eq its.table.name catalog_name ≡ false =
          ap (λ (n : List ℕ). bytes_eq n catalog_name) name_is ∙ other in rw off refl

      takes : takes_version s.state s.live t.0 (writer e) ≡ true
      takes = rw mine refl

      -- the row that its version gives is the one that is read
      row_is : IsFirst pages (wants s.state s.live Any) rec (Some (placed e.at e.version)) → (row : Row)
          → e.version.deleted ≡ false → GivesRow table e.version row → row ≡ e.row
      row_is first row kept gives =
          let both : Some row ≡ Some e.row = rows s.state s.live t pages its.table rec (Some row) f
          knows.shows.reading (record { lawful = knows.shows.sound.records; of_table = its.of_table }) seen
          ∙ (ap (shown (takes_version s.state s.live t.0)) is ∙ rw (takes, kept) refl) in cc
        where
          seen_here : IsRowSeen s.state s.live t pages table rec (Some row)
          seen_here = record {
            found = Some (placed e.at e.version);
            first = first_same pages t s.state s.live rec (placed e.at e.version) takes first;
            gives = subst (λ (d : Bool). IsRowOr d table e.version (Some row)) (sym kept) (row, refl, gives);
          }

          seen : IsRowSeen s.state s.live t pages its.table rec (Some row)
          seen = subst (λ (x : Table). IsRowSeen s.state s.live t pages x rec (Some row)) (sym own_table)
              (as_other there.its table there.same (λ (x : Table). IsRowSeen s.state s.live t pages x rec (Some row))
              (row_seen_on table there.its.indexes s.state s.live pages t rec (Some row) seen_here))

      -- what was is what its version gave
      own_before : (b : Before) → IsFirst pages (wants s.state s.live Any) rec (Some (placed e.at e.version))
          → OwnBefore table rec e.version b → b.was ≡ was_in (own o h t.0) table.name key
      own_before b first own_ = at e.version.deleted refl own_.was ∙ sym own_was
        where
          at : (d : Bool) → e.version.deleted ≡ d → IsWas d table e.version b.was
              → b.was ≡ was_given (told_given its.table e)
          at true gone was = was ∙ sym (ap was_given (gone_row gone))
            where
              gone_row : e.version.deleted ≡ true → told_given its.table e ≡ None
              gone_row is_ = rw is_ refl
          at false kept (row, was, gives) = was ∙ (ap (λ (x : Row). wases.Row x) (row_is first row kept gives)
              ∙ sym (ap was_given (kept_row kept)))
            where
              kept_row : e.version.deleted ≡ false → told_given its.table e ≡ Some e.row
              kept_row is_ = let on : told_given its.table e ≡ Some (told_row its.table e.row) = rw is_ refl in
                  on ∙ ap Some (plain_row e.row)

      -- and it may come back
      its_version : IsVersion packed_coding f its.table (record_key its.table (knows.shows.reading rec)) e
      its_version = (subst (Each (IsVersion packed_coding f its.table (record_key its.table (knows.shows.reading rec)))) is
          (knows.shows.sound.records.each rec its.table its.of_table).each).0

      its_shape : its.table.shape ≡ table.shape
      its_shape = ap (λ (x : Table). x.shape) own_table ∙ there.same.shape

      key_there : get_or e.row table.shape.key Null ≡ key
      key_there = ap (λ (x : Shape). get_or e.row x.key Null) (sym its_shape) ∙ (its_version.keyed ∙ its.keyed)

      columns_same : (gone : Bool) → columns_for its.table gone ≡ columns_for table gone
      columns_same true = ap (λ (x : Shape). erased_from x.key 0 x.columns) its_shape
      columns_same false = ap (λ (x : Shape). x.columns) its_shape

      decoded : (gone : Bool) → e.version.deleted ≡ gone → DecodesTo (columns_for table gone) 1 e.version.body e.row
      decoded gone d = subst (λ (cs : List Column). DecodesTo cs 1 e.version.body e.row) (columns_same gone) (subst (λ (b : Bool). DecodesTo (columns_for its.table b) 1 e.version.body e.row) d
          (subst (λ (n : ℕ). DecodesTo (columns_for its.table e.version.deleted) n e.version.body e.row)
          its_version.format its_version.spelled))

      own_returns : (b : Before) → IsFirst pages (wants s.state s.live Any) rec (Some (placed e.at e.version))
          → OwnBefore table rec e.version b → MayReturn table.shape key b.was
      own_returns b first own_ = at e.version.deleted refl own_.was
        where
          at : (d : Bool) → e.version.deleted ≡ d → IsWas d table e.version b.was → MayReturn table.shape key b.was
          at true gone was = subst (MayReturn table.shape key) (sym was)
              (subst (IsOfKind (slice_get table.shape.columns table.shape.key)) key_there
              (kind_at table.shape.key 0 table.shape.columns e.row table.shape.key
              (first_fits (columns_for table true) e.version.body e.row (for_first table true plain_columns)
              (decoded true gone))))
          at false kept (row, was, gives) = subst (MayReturn table.shape key)
              (sym (was ∙ ap (λ (x : Row). wases.Row x) (row_is first row kept gives))) (
                sym (index_is e.row table.shape.key) ∙ key_there,
                first_fits (columns_for table false) e.version.body e.row (for_first table false plain_columns)
                    (decoded false kept),
              )

    -- ---- whose it is

    returned_before : (b : Before) → IsBeforeIn s.state s.live t.0 pages table rec b → MayReturn table.shape key b.was
    returned_before b before = at (knows.shows.reading rec) refl
      where
        found_is : before.newest ≡ placed_if (first_entry (wants s.state s.live Any) (knows.shows.reading rec))
        found_is = places (cells_of pages) (wants s.state s.live Any) (newest_of rec (cells_of pages rec))
            before.newest (knows.shows.reading rec) before.first chain_read

        untouched_returns : b.was ≡ wases.Untouched → MayReturn table.shape key b.was
        untouched_returns none = subst (MayReturn table.shape key) (sym none) tt

        by : (e : Entry) (older : List Entry) → knows.shows.reading rec ≡ e ∷ older
            → IsFirst pages (wants s.state s.live Any) rec (Some (placed e.at e.version))
            → (mine : Bool) → (writer e == t.0) ≡ mine → IsBeforeBy mine s.state table rec e.version b
            → MayReturn table.shape key b.was
        by e older is first true mine own_ = own_returns e older is mine b first own_
        by e older is first false off other_ = untouched_returns (ap (λ (x : Before). x.was) other_)

        at : (es : List Entry) → knows.shows.reading rec ≡ es → MayReturn table.shape key b.was
        at [] is = untouched_returns (ap (λ (x : Before). x.was)
            (subst (λ (n : Option Placed). IsBeforeOf s.state t.0 table rec n b)
            (found_is ∙ ap (λ (es : List Entry). placed_if (first_entry (wants s.state s.live Any) es)) is) before.is))
        at (e ∷ older) is = by e older is
            (subst (IsFirst pages (wants s.state s.live Any) rec) newest before.first) (writer e == t.0) refl
            (subst (λ (n : Option Placed). IsBeforeOf s.state t.0 table rec n b) newest before.is)
          where
            newest : before.newest ≡ Some (placed e.at e.version)
            newest = found_is ∙ ap (λ (es : List Entry). placed_if (first_entry (wants s.state s.live Any) es)) is

    told_before : (b : Before) → IsBeforeIn s.state s.live t.0 pages table rec b
        → b.was ≡ was_in (own o h t.0) table.name key
    told_before b before = at (knows.shows.reading rec) refl
      where
        found_is : before.newest ≡ placed_if (first_entry (wants s.state s.live Any) (knows.shows.reading rec))
        found_is = places (cells_of pages) (wants s.state s.live Any) (newest_of rec (cells_of pages rec))
            before.newest (knows.shows.reading rec) before.first chain_read

        other_was : (v : Version) → b ≡ before_other s.state rec v.tx.0 → b.was ≡ wases.Untouched
        other_was v is = ap (λ (x : Before). x.was) is

        by : (e : Entry) (older : List Entry) → knows.shows.reading rec ≡ e ∷ older
            → IsFirst pages (wants s.state s.live Any) rec (Some (placed e.at e.version))
            → (mine : Bool) → (writer e == t.0) ≡ mine → IsBeforeBy mine s.state table rec e.version b
            → b.was ≡ was_in (own o h t.0) table.name key
        by e older is first true mine own_ = own_before e older is mine b first own_
        by e older is first false off other_ = other_was e.version other_ ∙ untouched (not_newest e older is off)

        at : (es : List Entry) → knows.shows.reading rec ≡ es → b.was ≡ was_in (own o h t.0) table.name key
        at [] is = ap (λ (x : Before). x.was) (subst (λ (n : Option Placed). IsBeforeOf s.state t.0 table rec n b)
            (found_is ∙ ap (λ (es : List Entry). placed_if (first_entry (wants s.state s.live Any) es)) is) before.is)
            ∙ untouched (ap (λ (es : List Entry). is_newest_by t.0 (told_versions f.state its.table es)) is)
        at (e ∷ older) is = by e older is
            (subst (IsFirst pages (wants s.state s.live Any) rec) newest before.first) (writer e == t.0) refl
            (subst (λ (n : Option Placed). IsBeforeOf s.state t.0 table rec n b) newest before.is)
          where
            newest : before.newest ≡ Some (placed e.at e.version)
            newest = found_is ∙ ap (λ (es : List Entry). placed_if (first_entry (wants s.state s.live Any) es)) is

-- by the record that speaks, or none does
pub befores_are_told : PlacesOfReadings → RowsOfReadings → BeforesAreTold
befores_are_told places rows size o h s pages knows t table key None before active there other first (stand, silent) is = (
  ap (λ (x : Before). x.was) is ∙ sym (none_was (own o h t.0) table.name key
      ((own_told o h t.0 table.name key [] active stand).has_)),
  subst (MayReturn table.shape key) (sym (ap (λ (x : Before). x.was) is)) tt,
)
befores_are_told places rows size o h s pages knows t table key (Some rec) before active there other first spoken is =
    let its : SpeaksFor o h (facts_shown size o h s pages knows) knows.shows.reading table.name key (Some rec) =
    subst (SpeaksFor o h (facts_shown size o h s pages knows) knows.shows.reading table.name key) spoken
    (knows.shows.versions.speaks table.name key) in (
      told_before places rows size o h s pages knows t table key active there other first rec its.0 its.1 before is,
      returned_before places rows size o h s pages knows t table key active there other first rec its.0 its.1 before is,
    )
