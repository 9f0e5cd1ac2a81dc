-- A write of a row: what the laws say of it.
use Rattle.std.proofs.Common.{◌≡◌, ◌≤◌, ◌<◌, ◌==◌, ◌+◌, ◌^◌, [], ◌∷◌, None, Some, Result, ap, ◌∙◌, subst}
use Rattle.std.specs.Prelude.{if◌then◌else◌}
use Rattle.mg_base.specs.Disk.{Meaning}
use Rattle.mg_base.specs.declared.numbers.TxNo.{TxNo}
use Rattle.mg_core.specs.declared.parts.Core.{Core}
use Rattle.mg_core.specs.declared.scanning.Place.{Place}
use Rattle.mg_model.specs.declared.refusal.Refusal.{Refusal}
use Rattle.mg_model.specs.declared.table.Table.{Table}
use Rattle.mg_records.specs.Adding.{fine_or}
use Rattle.mg_records.specs.Keeping.{refusal_in}
use Rattle.mg_records.specs.Writing.{FitsShape, event_of}
use Rattle.mg_records.specs.declared.write.Write.{Write}
use Rattle.mg_records.specs.declared.write.Write.TheVariants as writes
use Rattle.mg_value.specs.declared.shape.Kind.TheVariants as kinds
use Rattle.mg_works.specs.Works.{MayBeGiven, given_to}
use Rattle.mg_engine.specs.Changing.{ChangesGoOn, GivesWrite, WritesFirst}
use Rattle.mg_engine.specs.Engines.{IsEngine}
use Rattle.mg_engine_meaning_laws.specs.Frames.{GivesEvent}
use Rattle.mg_engine_meaning_laws.specs.Counts.{HasCounts}
use Rattle.mg_engine_meaning_laws.specs.Meaning.{Places}

-- ---- the laws

module _ {D : Type 0} (m : Meaning D) (places : Places Place) (inside old new : Core D) (same : inside ≡ old)
    (is : IsEngine m inside) (damage : inside.damage < 2 ^ 64) (shortages : inside.shortages < 2 ^ 64) (t : TxNo)
    (table : Table) (write : Write) (given : given_to old.works t.0 table.name ≡ Some table)
    (fits : FitsShape table.shape write) where
  counted : HasCounts inside
  counted = record { damage = damage; shortages = shortages }

  given_inside : given_to inside.works t.0 table.name ≡ Some table
  given_inside = ap (λ (c : Core D). given_to c.works t.0 table.name) same ∙ given

  pub changes_as : MayBeGiven table → ChangesGoOn D m → (result : Result (Unit {0}) Refusal)
      → WritesFirst m inside new t table write result → GivesWrite m places inside new t table write result
  changes_as may law result changes = law places inside new t table write result is.lawful counted is.apart may
      given_inside fits changes

  pub gives_as : (result : Result (Unit {0}) Refusal) → GivesWrite m places inside new t table write result
      → GivesEvent m places old new (event_of t table.name write) (fine_or result) (refusal_in result) None
      (Some t.0) None None
  gives_as result it = subst (λ (c : Core D). GivesEvent m places c new (event_of t table.name write) (fine_or result)
      (refusal_in result) None (Some t.0) None None) same it.gives
