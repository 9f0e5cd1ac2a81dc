-- Tables and walks over the core of an engine, which is its value.
use Rattle.std.proofs.Common.{◌≡◌, inl, inr, ◌<◌, ◌^◌, ◌==◌, cond, ℕ, Bool, true, false, List, [], ◌∷◌, Option, Some, Result, Ok, Err, refl, sym, ap, subst}
use Rattle.mg_base.specs.Disk.{Meaning}
use Rattle.mg_base.specs.declared.numbers.TxNo.{TxNo}
use Rattle.mg_model.specs.declared.refusal.Refusal.{Refusal}
use Rattle.mg_model.specs.declared.table.Table.{Table}
use Rattle.mg_model.specs.Changes.{KeyedRows, same_name}
use Rattle.mg_records.specs.Keeping.{MeetsNoDamage}
use Rattle.mg_records.specs.declared.found.Found.{Found}
use Rattle.mg_records.specs.Reading.{FindsFitting}
use Rattle.mg_works.specs.Works.{AllMayBeGiven, AreApart, MayBeGiven, Working, given_by, given_in, given_to, with_table, work_of}
use Rattle.mg_works.specs.WorksLaws.{with_apart}
use Rattle.mg_core.specs.declared.parts.Core.{Core}
use Rattle.mg_core.specs.declared.scanning.Place.{Place}
use Rattle.mg_core.specs.Scanning.{Scans}
use Rattle.mg_core.specs.Tables.{AnswersTable, RefusesName, by_call, by_fault, by_lack, by_memory}
use Rattle.mg_engine_meaning_laws.specs.Meaning.{means}
use Rattle.mg_engine_meaning_laws.specs.Reads.{AreRanked, GivesTable, IsInRank, TablesGoOn, VisitsGoOn, VisitsRecord}
use Rattle.mg_no_damage_laws.specs.Walks.{IsShortPlace, VisitsMeetNone}
use Rattle.mg_engine.specs.Engines.{IsEngine}
use Rattle.mg_engine.specs.Places.{places as core_places}

-- ---- each session has one active transaction at most

pub table_apart : {D : Type 0} (m : Meaning D) (old new : Core D) (t : TxNo) (name : List ℕ)
    (result : Result Table Refusal) → AnswersTable m old new t name result → AreApart old.works
    → AreApart new.works
table_apart {D} m old new t name (Ok table) (inl again) apart =
    subst AreApart (sym (ap (λ (c : Core D). c.works) again.same)) apart
table_apart {D} m old new t name (Ok table) (inr finds) apart =
    subst AreApart (sym (ap (λ (c : Core D). c.works) finds.same))
    (with_apart t.0 (with_table table) (λ w. refl) (λ w. refl)
    (λ w is. record {
      session_below = is.session_below;
      lawful = (finds.may, is.lawful);
      written_lawful = is.written_lawful;
    }) old.works apart)
table_apart {D} m old new t name (Err refusal) refuses apart = at refusal refuses
  where
    at : (r : Refusal) → RefusesName m old new t name r → AreApart new.works
    at r (by_call of refused same) = subst AreApart (sym (ap (λ (c : Core D). c.works) same)) apart
    at r (by_lack is) = subst AreApart (sym (ap (λ (c : Core D). c.works) is.same)) apart
    at r (by_fault of is) = subst AreApart (sym (ap (λ (c : Core D). c.works) is.same)) apart
    at r (by_memory is) = subst AreApart (sym (ap (λ (c : Core D). c.works) is.same)) apart

pub scans_apart : {D : Type 0} (m : Meaning D) (old new : Core D) (t : TxNo) (table : Table)
    (after : Option Place) (result : Result (Option (Found Place)) Refusal)
    → Scans m old new t table after result → AreApart old.works → AreApart new.works
scans_apart {D} m old new t table after (Ok found) is apart =
    subst AreApart (sym (ap (λ (c : Core D). c.works) is.same)) apart
scans_apart {D} m old new t table after (Err refusal) (inl (refuses, same)) apart =
    subst AreApart (sym (ap (λ (c : Core D). c.works) same)) apart
scans_apart {D} m old new t table after (Err refusal) (inr is) apart =
    subst AreApart (sym (ap (λ (c : Core D). c.works) is.same)) apart

-- ---- the row that a visit gives may stand in the table

pub scans_fit : {D : Type 0} (m : Meaning D) (old new : Core D) (t : TxNo) (table : Table)
    (after : Option Place) (result : Result (Option (Found Place)) Refusal)
    → Scans m old new t table after result → FindsFitting table.shape result
scans_fit m old new t table after (Ok found) is = is.fits
scans_fit m old new t table after (Err refusal) is = tt

-- what was visited is handed on
pub still_scans : {D : Type 0} (m : Meaning D) (old new : Core D) (t : TxNo) (table : Table) (after : Option Place)
    (result visited : Result (Option (Found Place)) Refusal) → result ≡ visited
    → Scans m old new t table after visited → Scans m old new t table after result
still_scans {D} m old new t table after result visited same =
    subst (λ (r : Result (Option (Found Place)) Refusal). Scans m old new t table after r) (sym same)

-- ---- a table that was given may be given

among_given : (tables : List Table) (name : List ℕ) (table : Table) → AllMayBeGiven tables
    → given_in tables name ≡ Some table → MayBeGiven table
among_given [] name table all is = absurd cc
among_given (first ∷ tables) name table all is =
    at (same_name name first.name) is (λ more. among_given tables name table all.1 more)
  where
    at : (b : Bool) → cond b (Some first) (given_in tables name) ≡ Some table
        → (given_in tables name ≡ Some table → MayBeGiven table) → MayBeGiven table
    at true some more = let it : first ≡ table = cc in subst MayBeGiven it all.0
    at false later more = more later

given_lawful : (works : List Working) (t : ℕ) (name : List ℕ) (table : Table) → AreApart works
    → given_to works t name ≡ Some table → MayBeGiven table
given_lawful [] t name table apart is = absurd cc
given_lawful (w ∷ works) t name table apart is =
    at (w.number == t) is (λ more. given_lawful works t name table apart.3 more)
  where
    at : (b : Bool) → given_by (cond b (Some w) (work_of works t)) name ≡ Some table
        → (given_to works t name ≡ Some table → MayBeGiven table) → MayBeGiven table
    at true its more = among_given w.tables name table apart.2.lawful its
    at false later more = more later

pub may_scan : {D : Type 0} (m : Meaning D) (inside old : Core D) → inside ≡ old → IsEngine m inside → (t : ℕ)
    (name : List ℕ) (table : Table) → given_to old.works t name ≡ Some table → MayBeGiven table
may_scan {D} m inside old same is t name table given = given_lawful inside.works t name table is.apart
    (subst (λ (c : Core D). given_to c.works t name ≡ Some table) (sym same) given)

-- ---- the laws

pub places_ranked : AreRanked core_places
places_ranked = record { rec = λ place. refl; sequence = λ place. refl; rank = λ place. refl }

module _ {D : Type 0} (m : Meaning D) (inside old new : Core D) (same : inside ≡ old)
    (is : IsEngine m inside) (damage : inside.damage < 2 ^ 64) (shortages : inside.shortages < 2 ^ 64) where
  pub tables_as : TablesGoOn D Place m → (t : TxNo) (name : List ℕ) (result : Result Table Refusal)
      → AnswersTable m inside new t name result → GivesTable m core_places old new t.0 name result
  tables_as law t name result answers = subst (λ (c : Core D). GivesTable m core_places c new t.0 name result) same
      (law core_places inside new t name result is.lawful (record { damage = damage; shortages = shortages })
      answers)

  pub visits_as : VisitsGoOn D m → (t : TxNo) (table : Table) (passed after : Option Place)
      (result : Result (Option (Found Place)) Refusal) → passed ≡ after → IsInRank result
      → Scans m inside new t table passed result → VisitsRecord m core_places old new t.0 table after result
  visits_as law t table passed after result is_it in_rank scans = subst
      (λ (c : Core D). VisitsRecord m core_places c new t.0 table after result) same
      (subst (λ (place : Option Place). VisitsRecord m core_places inside new t.0 table place result) is_it
      (law core_places inside new t table passed result places_ranked
      (record { damage = damage; shortages = shortages }) in_rank scans))

-- a visit of a walk to which rows are to come finds no page damaged
pub visits_undamaged : {D : Type 0} (m : Meaning D) (inside old new : Core D) → inside ≡ old → VisitsMeetNone D m
    → (t : TxNo) (table : Table) (passed after : Option Place) (result : Result (Option (Found Place)) Refusal)
    → passed ≡ after → IsShortPlace passed → Scans m inside new t table passed result
    → (rows : KeyedRows) → (means m core_places).to_come old t.0 table after rows
    → MeetsNoDamage (means m core_places) old new
visits_undamaged {D} m inside old new same law t table passed after result is_it short scans rows comes =
    law core_places old new t table after rows result places_ranked (subst IsShortPlace is_it short) comes
    (subst (λ (place : Option Place). Scans m old new t table place result) is_it
    (subst (λ (c : Core D). Scans m c new t table passed result) same scans))
