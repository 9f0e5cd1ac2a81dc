-- Each outcome of the core's calls that take a transaction back over tables gives what a keeper of records owes.
use Rattle.std.proofs.Common.{◌∷◌, [], ℕ, Bool, Err, List, None, Ok, Some, ap, false, not, refl, subst, sym, true}
use Rattle.std.specs.Prelude.{if◌then◌else◌}
use Rattle.mg_base.specs.Disk.{Meaning}
use Rattle.mg_base.specs.declared.numbers.TxNo.{TxNo}
use Rattle.mg_model.specs.Catalog.{table_key}
use Rattle.mg_model.specs.declared.answer.Answer.TheVariants.{Fine}
use Rattle.mg_model.specs.declared.change.Point.{Point}
use Rattle.mg_model.specs.declared.change.Point.TheVariants.{LastMark, SavepointNamed}
use Rattle.mg_model.specs.declared.refusal.Refusal.{Refusal}
use Rattle.mg_model.specs.declared.table.Table.{Table}
use Rattle.mg_undo.specs.Undo.{State as Undo}
use Rattle.mg_undo.specs.Machine.{going_to}
use Rattle.mg_undo.specs.Whole.{is_one_of}
use Rattle.mg_value.specs.declared.value.Value.{Value}
use Rattle.mg_works.specs.Works.{AllMayBeGiven, AreApart, Working, tables_left, unasked, with_undo, with_work, without_written}
use Rattle.mg_works.specs.WorksLaws.{with_apart}
use Rattle.mg_core.specs.Cores.{IsCore}
use Rattle.mg_core.specs.declared.parts.Core.{Core}
use Rattle.mg_taking_back.specs.Taking.{HasBegun, MayReach}
use Rattle.mg_engine_meaning_laws.specs.Frames.{GivesEvent}
use Rattle.mg_engine_meaning_laws.specs.Meaning.{Places}
use Rattle.mg_engine_change_laws.specs.backs.Known.{KnownOfBacks}
use Rattle.mg_engine_change_laws.specs.memory.Notes.{AreCounts}
use Rattle.mg_engine_change_laws.specs.backs.Outcomes.{GivenUpApart, back_event}
use Rattle.mg_engine_change_laws.specs.backs.StepsLaws.{back_by, back_nowhere, forgotten_apart, not_back, not_begun, not_undone, set_apart, short_begun, stopped_given, undone_by}
use Rattle.mg_table_takings.specs.Takings.{FailsTablesFrom, FailsTablesTo, TakesTablesTo, rows_unknown, tables_not_begun, tables_not_copied, tables_not_taken, tables_stopped, works_left}
use Rattle.mg_engine_change_laws.specs.tables_back.EngineOver.{EnginesGoOver, OthersWalkOver}
use Rattle.mg_engine_change_laws.specs.tables_back.OverOutcomes.{MarksGiveOver, RefusalsGiveOver, SavepointsGiveOver}
use Rattle.mg_engine_change_laws.specs.tables_back.OverStopped.{stops_over}
use Rattle.mg_engine_change_laws.specs.tables_back.RowsGiven.{GivenApart}
use Rattle.mg_engine_step_laws.specs.tables_back.TablesBack.{RowsGoOn}
use Rattle.mg_space.specs.declared.links.FireLinks.{FireLinks}
use Rattle.mg_engine_change_laws.specs.tables_back.UndoneOver.{new_is, taken_back_gives}

-- ---- it is refused

module _ {D P : Type 0} (m : Meaning D) (places : Places P) (known : KnownOfBacks D P m) (apart_law : GivenApart)
    (go_on : RowsGoOn D FireLinks m)
    (old new : Core D) (t : TxNo) (point : Point) (refusal : Refusal) (core : IsCore m old) (counted : AreCounts old)
    (apart : AreApart old.works) where
  from_begun : (begun : Core D) (undo : Undo) → HasBegun old begun t.0 undo → MayReach undo point
      → FailsTablesFrom m begun new t.0 (going_to undo point) refusal → GivenUpApart m places old new t point refusal
  from_begun begun undo has_begun reaches (rows_unknown is gives_up) =
      short_begun m places known old new t core apart point refusal begun has_begun.continues has_begun.ended is gives_up
  from_begun begun undo has_begun reaches (tables_stopped keys stopped rows stops gives_up) =
      stopped_given m places known old new t core apart counted point refusal begun stopped undo has_begun
      (stops_over m known apart_law go_on old begun stopped t point undo refusal core has_begun reaches keys stops) gives_up

  pub refused_over : FailsTablesTo m old new t.0 point refusal → GivenUpApart m places old new t point refusal
  refused_over (tables_not_begun refused) = not_begun m places known old new t core apart point refusal refused
  refused_over (tables_not_copied begun continues ended is gives_up) =
      short_begun m places known old new t core apart point refusal begun continues ended is gives_up
  refused_over (tables_not_taken begun undo has_begun reaches fails) = from_begun begun undo has_begun reaches fails

pub refusals_give_over : {D P : Type 0} (m : Meaning D) → KnownOfBacks D P m → GivenApart
    → RowsGoOn D FireLinks m → RefusalsGiveOver D P m
refusals_give_over m known apart_law go_on places old new t point refusal core counted apart fails =
    refused_over m places known apart_law go_on old new t point refusal core counted apart fails

-- ---- each session has one active transaction at most

-- of lawful tables those that are left are lawful
left_lawful : (keys : List Value) (tables : List Table) → AllMayBeGiven tables → AllMayBeGiven (tables_left keys tables)
left_lawful keys [] all = tt
left_lawful keys (table ∷ tables) all = at (not (is_one_of keys (table_key table.name))) (left_lawful keys tables all.1)
  where
    at : (b : Bool) → AllMayBeGiven (tables_left keys tables)
        → AllMayBeGiven (if b then table ∷ tables_left keys tables else tables_left keys tables)
    at true more = (all.0, more)
    at false more = more

left_apart : (t : ℕ) (end : Undo) (keys : List Value) (works : List Working) → AreApart works
    → AreApart (works_left t end keys (with_work t unasked works))
left_apart t end keys works apart = forgotten_apart t
    (with_work t (without_written keys) (with_work t (with_undo end) (with_work t unasked works)))
    (with_apart t (without_written keys) (λ w. refl) (λ w. refl) (λ w is. record {
      session_below = is.session_below;
      lawful = is.lawful;
      written_lawful = left_lawful keys w.written is.written_lawful;
    }) (with_work t (with_undo end) (with_work t unasked works)) (set_apart t end works apart))

-- ---- the laws

module _ {D P : Type 0} (m : Meaning D) (places : Places P) (known : KnownOfBacks D P m) (goes_over : EnginesGoOver D m)
    (walk_over : OthersWalkOver D m) (old new : Core D) (t : TxNo) (point : Point) (core : IsCore m old)
    (apart : AreApart old.works) (takes : TakesTablesTo m old new t.0 point) where
  gives : GivesEvent m places old new (back_event t point) Fine None (Some t.0) (Some t.0) None None
  gives = taken_back_gives m places known.notes goes_over walk_over old new t point core takes

  apart_now : AreApart new.works
  apart_now = subst AreApart (sym (ap (λ (c : Core D). c.works)
      (new_is m places known.notes goes_over walk_over old new t point core takes)))
      (left_apart t.0 takes.takes.end takes.takes.keys old.works apart)

pub marks_give_over : {D P : Type 0} (m : Meaning D) → KnownOfBacks D P m → RefusalsGiveOver D P m → EnginesGoOver D m
    → OthersWalkOver D m → MarksGiveOver D P m
marks_give_over m known refused goes_over walk_over places old new t (Ok x) core counted apart takes =
    undone_by m places old new t x (gives m places known goes_over walk_over old new t LastMark core apart takes)
    (apart_now m places known goes_over walk_over old new t LastMark core apart takes)
marks_give_over m known refused goes_over walk_over places old new t (Err refusal) core counted apart fails =
    not_undone m places old new t refusal (refused places old new t LastMark refusal core counted apart fails)

pub savepoints_give_over : {D P : Type 0} (m : Meaning D) → KnownOfBacks D P m → RefusalsGiveOver D P m
    → EnginesGoOver D m → OthersWalkOver D m → SavepointsGiveOver D P m
savepoints_give_over m known refused goes_over walk_over places old new t name (Ok true) core counted apart (there, takes) =
    back_by m places known old new t name core takes.has_begun.continues there
    (gives m places known goes_over walk_over old new t (SavepointNamed name) core apart takes)
    (apart_now m places known goes_over walk_over old new t (SavepointNamed name) core apart takes)
savepoints_give_over m known refused goes_over walk_over places old new t name (Ok false) core counted apart
    (gone, continues, same) = back_nowhere m places known old new t name core apart gone continues same
savepoints_give_over m known refused goes_over walk_over places old new t name (Err refusal) core counted apart fails =
    not_back m places old new t name refusal
    (refused places old new t (SavepointNamed name) refusal core counted apart fails)
