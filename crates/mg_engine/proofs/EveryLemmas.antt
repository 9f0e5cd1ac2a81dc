-- The engine's collection of every record.
use Rattle.std.proofs.Common.{◌≡◌, ◌<◌, ◌^◌, Result, Ok, Err, ap, inl, inr, subst, sym}
use Rattle.std.specs.Prelude.{OnOk}
use Rattle.mg_base.specs.Disk.{Meaning}
use Rattle.mg_collecting_damage_laws.specs.Undamaged.{EveryMissesNone}
use Rattle.mg_core.specs.declared.parts.Core.{Core}
use Rattle.mg_core.specs.declared.scanning.Place.{Place}
use Rattle.mg_core_collecting.specs.Every.{CollectsEvery}
use Rattle.mg_engine.specs.Engines.{IsEngine}
use Rattle.mg_engine.specs.Places.{places}
use Rattle.mg_engine_collecting_laws.specs.EveryLeaves.{EveryLeaves}
use Rattle.mg_engine_collecting_laws.specs.EverySo.{EveryIsNobodys}
use Rattle.mg_engine_collecting_laws.specs.PlaceStays.{IsNobodysEvent}
use Rattle.mg_engine_collecting_laws.specs.Versions.{collecting}
use Rattle.mg_engine_meaning_laws.specs.Meaning.{means, means_with_room}
use Rattle.mg_model.specs.History.{Entries}
use Rattle.mg_model.specs.declared.opening.Opening.{Opening}
use Rattle.mg_model.specs.declared.refusal.Refusal.{Refusal}
use Rattle.mg_records.specs.Asking.{TakesNoPage}
use Rattle.mg_records.specs.Keeping.{refusal_in}
use Rattle.mg_tending.specs.Collecting.{CollectsEach}
use Rattle.mg_works.specs.Works.{AreApart}

-- each session has one active transaction at most
pub every_apart : {D : Type 0} (m : Meaning D) (old new : Core D) (result : Result (Unit {0}) Refusal)
    → CollectsEvery m old new result → AreApart old.works → AreApart new.works
every_apart {D} m old new (Ok done) is apart = subst AreApart (sym (ap (λ (c : Core D). c.works) is.same)) apart
every_apart {D} m old new (Err refusal) (inl (refuses, same)) apart =
    subst AreApart (sym (ap (λ (c : Core D). c.works) same)) apart
every_apart {D} m old new (Err refusal) (inr is) apart =
    subst AreApart (sym (ap (λ (c : Core D). c.works) is.same)) apart

module _ {D : Type 0} (m : Meaning D) (inside old new : Core D) (same : inside ≡ old) (is : IsEngine m inside) where
  -- it is nobody's event
  pub every_nobodys : inside.damage < 2 ^ 64 → inside.shortages < 2 ^ 64 → EveryIsNobodys D Place m
      → (result : Result (Unit {0}) Refusal) → CollectsEvery m inside new result
      → IsNobodysEvent m places old new result
  every_nobodys damage shortages law result collects =
      subst (λ (c : Core D). IsNobodysEvent m places c new result) same
      (law places inside new result is.lawful (record { damage = damage; shortages = shortages }) collects)

  -- what it leaves is what remains
  pub every_collected : EveryLeaves D Place m → (result : Result (Unit {0}) Refusal)
      → CollectsEvery m inside new result
      → OnOk result (CollectsEach (means_with_room m places) (collecting m places) old new)
  every_collected law (Ok done) goes = subst
      (λ (c : Core D). CollectsEach (means_with_room m places) (collecting m places) c new) same
      (λ o h stands. law places inside new is.lawful goes o h stands.stands)
  every_collected law (Err refusal) fails = tt

  -- and no page is wanting
  pub every_unpaged : EveryMissesNone D m → (result : Result (Unit {0}) Refusal)
      → CollectsEvery m inside new result → (o : Opening) (h : Entries)
      → (means_with_room m places).stands old o h → TakesNoPage (refusal_in result)
  every_unpaged law result collects o h stands = law inside new result is.lawful collects o h
      (subst (λ (c : Core D). (means m places).stands c o h) (sym same) stands.stands)
