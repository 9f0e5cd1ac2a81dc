-- The engine's collection of a record at a place.
use Rattle.std.proofs.Common.{◌≡◌, ◌<◌, ◌^◌, Bool, Some, Result, Ok, Err, ap, inl, inr, subst, sym}
use Rattle.std.specs.Prelude.{IfOk}
use Rattle.mg_base.specs.Disk.{Meaning}
use Rattle.mg_base.specs.declared.numbers.RecId.{RecId}
use Rattle.mg_base.specs.declared.numbers.TxNo.{TxNo}
use Rattle.mg_collecting_damage_laws.specs.Undamaged.{CollectionsMissNone}
use Rattle.mg_core.specs.declared.parts.Core.{Core}
use Rattle.mg_core.specs.declared.scanning.Place.{Place}
use Rattle.mg_core_collecting.specs.Places.{CollectsPlace}
use Rattle.mg_engine.specs.Engines.{IsEngine}
use Rattle.mg_engine.specs.Places.{places}
use Rattle.mg_engine_collecting_laws.specs.PlaceLeaves.{CollectionsLeave}
use Rattle.mg_engine_collecting_laws.specs.PlaceStays.{CollectionsAreNobodys, IsNobodysEvent}
use Rattle.mg_engine_collecting_laws.specs.Versions.{collecting}
use Rattle.mg_engine_meaning_laws.specs.Meaning.{means, means_with_room}
use Rattle.mg_model.specs.History.{Entries}
use Rattle.mg_model.specs.declared.opening.Opening.{Opening}
use Rattle.mg_model.specs.declared.refusal.Refusal.{Refusal}
use Rattle.mg_model.specs.declared.table.Table.{Table}
use Rattle.mg_records.specs.Asking.{TakesNoPage}
use Rattle.mg_records.specs.Keeping.{refusal_in}
use Rattle.mg_tending.specs.Collecting.{Collects}
use Rattle.mg_works.specs.Works.{AreApart, given_to}

-- each session has one active transaction at most
pub collected_apart : {D : Type 0} (m : Meaning D) (old new : Core D) (t : TxNo) (table : Table) (rec : RecId)
    (result : Result Bool Refusal) → CollectsPlace m old new t table rec result → AreApart old.works → AreApart new.works
collected_apart {D} m old new t table rec (Ok gone) is apart =
    subst AreApart (sym (ap (λ (c : Core D). c.works) is.same)) apart
collected_apart {D} m old new t table rec (Err refusal) (inl (refuses, same)) apart =
    subst AreApart (sym (ap (λ (c : Core D). c.works) same)) apart
collected_apart {D} m old new t table rec (Err refusal) (inr is) apart =
    subst AreApart (sym (ap (λ (c : Core D). c.works) is.same)) apart

module _ {D : Type 0} (m : Meaning D) (inside old new : Core D) (same : inside ≡ old) (is : IsEngine m inside) (t : TxNo)
    (table : Table) (place : Place) (given : given_to old.works t.0 table.name ≡ Some table) where
  pub given_as : given_to inside.works t.0 table.name ≡ Some table
  given_as = subst (λ (c : Core D). given_to c.works t.0 table.name ≡ Some table) (sym same) given

  -- a collection is nobody's event
  pub nobodys_as : inside.damage < 2 ^ 64 → inside.shortages < 2 ^ 64 → CollectionsAreNobodys D Place m
      → (result : Result Bool Refusal) → CollectsPlace m inside new t table place.rec result
      → IsNobodysEvent m places old new result
  nobodys_as damage shortages law result collects =
      subst (λ (c : Core D). IsNobodysEvent m places c new result) same
      (law places inside new t table place.rec result is.lawful (record { damage = damage; shortages = shortages })
      given_as collects)

  -- what it leaves is what remains
  pub collects_as : CollectionsLeave D Place m → (result : Result Bool Refusal)
      → CollectsPlace m inside new t table place.rec result
      → IfOk result (λ gone. Collects (means_with_room m places) (collecting m places) old new table place gone)
  collects_as law (Ok gone) goes = subst
      (λ (c : Core D). Collects (means_with_room m places) (collecting m places) c new table place gone) same (record {
        record_left = λ o h stands. it.record_left o h stands.stands;
        other_left = it.other_left;
      })
    where
      it : Collects (means m places) (collecting m places) inside new table place gone
      it = law places inside new t table place gone is.lawful given_as goes
  collects_as law (Err refusal) fails = tt

  -- and no page is wanting
  pub unpaged_as : CollectionsMissNone D m → (result : Result Bool Refusal)
      → CollectsPlace m inside new t table place.rec result → (o : Opening) (h : Entries)
      → (means_with_room m places).stands old o h → TakesNoPage (refusal_in result)
  unpaged_as law result collects o h stands = law inside new t table place.rec result is.lawful given_as collects o h
      (subst (λ (c : Core D). (means m places).stands c o h) (sym same) stands.stands)
