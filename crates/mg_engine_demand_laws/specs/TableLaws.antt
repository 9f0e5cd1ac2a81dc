-- A table that is made takes its engine several steps on.
use Rattle.std.specs.Prelude.{◌≡◌, ◌≢◌, ◌⊎◌, ℕ, true, false, List, [], ◌∷◌, Option, None, Some}
use Rattle.std.proofs.Common.{inl, inr, refl, sym, ap, ◌∙◌}
use Rattle.std.proofs.lemmas.Bool.{cases_eq}
use Rattle.mg_base.specs.Disk.{Meaning}
use Rattle.mg_base.specs.declared.numbers.TxNo.{TxNo}
use Rattle.mg_core.specs.declared.parts.Core.{Core}
use Rattle.mg_engine_demand_laws.specs.Bearing.{asks}
use Rattle.mg_engine_demand_laws.specs.Laying.{moved_to}
use Rattle.mg_engine_demand_laws.specs.LayingLaws.{one_step}
use Rattle.mg_engine_demand_laws.specs.Making.{GrowthsGo, MakingsGo}
use Rattle.mg_engine_demand_laws.specs.Runs.{GoesOn, Moment, TellsFewer, goes, stays, tells}
use Rattle.mg_image.specs.Tables.{Layout}
use Rattle.mg_model.specs.Answers.{is_active, is_committed}
use Rattle.mg_model.specs.declared.table.Table.{Table}
use Rattle.mg_table_making.specs.Creating.{PutsTable}
use Rattle.mg_table_making.specs.Keeping.{kept_each, works_made}
use Rattle.mg_txlist.specs.TxList.{said}
use Rattle.mg_txlist.specs.declared.list.TxList.{TxList}
use Rattle.mg_undo.specs.declared.changes.Was.TheVariants.{Untouched}
use Rattle.mg_value.specs.declared.shape.Shape.{Shape}
use Rattle.mg_value.specs.declared.value.Value.{Value}
use Rattle.mg_works.specs.Works.{Working, unasked, with_change, with_work, without_tables, work_of}
use Rattle.mg_works.specs.WorksLaws.{with_its, with_none, with_others}
use Rattle.mg_engine_demand_laws.specs.CallLaws.{none_asks, same_asks}
use Rattle.mg_engine_demand_laws.specs.Calls.{laying_at}
use Rattle.mg_engine_demand_laws.specs.Moments.{asked_by, fates_of, moment_of, session_by}
use Rattle.mg_engine_demand_laws.specs.TableCalls.{KnowsGrowths, TablesGo, none_yet, one_more}

-- ---- memory

-- the works of others, where changes of keys are kept
each_others : (t owner : ℕ) (keys : List Value) (works : List Working) (u : ℕ) → u ≢ t
    → work_of (kept_each t owner keys works) u ≡ work_of works u
each_others t owner [] works u other = refl
each_others t owner (key ∷ keys) works u other =
    each_others t owner keys (with_work t (with_change owner key Untouched) works) u other
    ∙ with_others t (with_change owner key Untouched) (λ w. refl) (λ w. refl) works u other

made_others : (t owner : ℕ) (keys : List Value) (works : List Working) (u : ℕ) → u ≢ t
    → work_of (works_made t owner keys works) u ≡ work_of works u
made_others t owner keys works u other =
    with_others t without_tables (λ w. refl) (λ w. refl) (with_work t unasked (kept_each t owner keys works)) u other
    ∙ (with_others t unasked (λ w. refl) (λ w. refl) (kept_each t owner keys works) u other
    ∙ each_others t owner keys works u other)

made_unasked : (t : ℕ) (works : List Working) (found : Option Working) → work_of works t ≡ found
    → asked_by (work_of (with_work t without_tables (with_work t unasked works)) t) ≡ false
made_unasked t works None found = ap asked_by (with_none t without_tables (λ w. refl) (λ w. refl)
    (with_work t unasked works) t (with_none t unasked (λ w. refl) (λ w. refl) works t found))
made_unasked t works (Some w) found = ap asked_by (with_its t without_tables (λ x. refl) (λ x. refl)
    (with_work t unasked works) (unasked w) (with_its t unasked (λ x. refl) (λ x. refl) works w found))

module _ {D : Type 0} (m : Meaning D) (old new : Core D) (t : TxNo) (name : List ℕ) (shape : Shape) (keys : List Value)
    (layout : Layout) (puts : PutsTable m old new t name shape keys) where
  works_are : new.works ≡ works_made t.0 old.catalog.pointer.0 keys old.works
  works_are = ap (λ (c : Core D). c.works) puts.same

  list_is : new.list ≡ old.list
  list_is = ap (λ (c : Core D). c.list) puts.same

  others_are : (u : ℕ) → u ≢ t.0 → work_of new.works u ≡ work_of old.works u
  others_are u other = ap (λ (ws : List Working). work_of ws u) works_are
      ∙ made_others t.0 old.catalog.pointer.0 keys old.works u other

  unasked_now : asked_by (work_of new.works t.0) ≡ false
  unasked_now = ap (λ (ws : List Working). asked_by (work_of ws t.0)) works_are
      ∙ made_unasked t.0 (kept_each t.0 old.catalog.pointer.0 keys old.works)
      (work_of (kept_each t.0 old.catalog.pointer.0 keys old.works) t.0) refl

  asks_then : (u : ℕ) → asks (fates_of new) u ≡ true → (u ≡ t.0) ⊎ (u ≢ t.0)
      → (asks (fates_of old) u ≡ true) × ((fates_of new).session u ≡ (fates_of old).session u)
  asks_then u asked (inl same) = absurd (none_asks (is_active (said new.list u)) (work_of new.works u)
      (ap (λ (k : ℕ). asked_by (work_of new.works k)) same ∙ unasked_now) asked)
  asks_then u asked (inr other) = (
    sym (same_asks (said new.list u) (said old.list u) (work_of new.works u) (work_of old.works u)
        (ap (λ (l : TxList). said l u) list_is) (others_are u other)) ∙ asked,
    ap session_by (others_are u other),
  )

  tells_made : TellsFewer (fates_of old) (fates_of new) layout layout
  tells_made = record {
    committed = λ u. ap (λ (l : TxList). is_committed (said l u)) list_is;
    asking = λ u asked. asks_then u asked (cases_eq u t.0);
    active = λ u active. sym (ap (λ (l : TxList). said l u) list_is) ∙ active;
    tables = λ other its. its;
  }

-- ---- steps

-- one run after another
pub followed : {D : Type 0} (m : Meaning D) (first mid last : Moment D) → GoesOn m first mid → GoesOn m mid last
    → GoesOn m first last
followed m first mid last (stays at) more = more
followed m first mid last (goes one two three step on) more =
    goes one two last step (followed m two three last on more)

growths_follow : (D : Type 0) (m : Meaning D) → GrowthsGo D m → (t : ℕ) (table catalog : Table) (name : List ℕ)
    (shape : Shape) → catalog.pointer.0 ≡ table.pointer.0 → (count : ℕ) (first last : Moment D)
    → KnowsGrowths m t table catalog name shape count first last → GoesOn m first last
growths_follow D m law t table catalog name shape begins count first last (none_yet at) = stays at
growths_follow D m law t table catalog name shape begins count first last
    (one_more less one mid store j later before gets told held may) =
    followed m one mid (moved_to mid store j later)
    (growths_follow D m law t table catalog name shape begins less one mid before)
    (law mid store j later t table catalog name shape gets begins told held may)

pub tables_go : (D : Type 0) (m : Meaning D) → GrowthsGo D m → MakingsGo D m → TablesGo D m
tables_go D m growth making old new t name shape keys table i j layout later puts begins held knows =
    goes (moment_of old i layout) (laying_at old new i layout) (moment_of new j later)
    (tells (moment_of old i layout) (fates_of new) layout (tells_made m old new t name shape keys layout puts))
    (followed m (laying_at old new i layout) (moved_to (laying_at old new i layout) puts.makes.grown knows.image knows.first)
    (moment_of new j later)
    (growths_follow D m growth t.0 table old.catalog name shape begins puts.makes.count (laying_at old new i layout)
    (moved_to (laying_at old new i layout) puts.makes.grown knows.image knows.first) knows.growths)
    (one_step m (moved_to (laying_at old new i layout) puts.makes.grown knows.image knows.first) (moment_of new j later)
    (making (moved_to (laying_at old new i layout) puts.makes.grown knows.image knows.first) new.store j later knows.reading
    t.0 table old.catalog name shape puts.makes.makes begins knows.told held knows.writes knows.stood)))
