-- A table is made: what the laws say of it.
use Rattle.std.proofs.Common.{◌≡◌, ◌≢◌, ◌<◌, ◌^◌, ℕ, List, length, Result, Ok, Err, subst, sym, arith}
use Rattle.std.specs.Prelude.{MatchResult}
use Rattle.mg_base.specs.Disk.{Meaning}
use Rattle.mg_base.specs.declared.numbers.TxNo.{TxNo}
use Rattle.mg_core.specs.declared.parts.Core.{Core}
use Rattle.mg_model.specs.Catalog.{catalog_name}
use Rattle.mg_model.specs.declared.refusal.Refusal.{Refusal}
use Rattle.mg_records.specs.Keeping.{MeetsNoDamage, refusal_in}
use Rattle.mg_records.specs.Room.{TakesFew, pages_of_table}
use Rattle.mg_records.specs.Writing.{FitsPages, IsNewShape}
use Rattle.mg_table_making.specs.Creating.{CreatesTable, FailsCreation}
use Rattle.mg_value.specs.Names.{IsName}
use Rattle.mg_value.specs.declared.shape.Shape.{Shape}
use Rattle.mg_works.specs.Works.{AreApart}
use Rattle.mg_engine.specs.Engines.{IsEngine}
use Rattle.mg_engine_change_laws.specs.tables.MakingSteps.{CreationsKeepApart, GivesTable, MayHave, RefusalsKeepApart, TablesAreMade, TablesAreRefused}
use Rattle.mg_engine_meaning_laws.specs.Meaning.{Places, means}
use Rattle.mg_engine_change_laws.specs.memory.Notes.{AreCounts}
use Rattle.mg_no_damage_laws.specs.FewPagesCalls.{CreationsTakeFew}
use Rattle.mg_no_damage_laws.specs.Creations.{CreationsMeetNone}
use Rattle.mg_engine.proofs.ToldLemmas.{room_as, undamaged_as}

module _ {D P : Type 0} (m : Meaning D) (places : Places P) (inside old new : Core D) (same : inside ≡ old)
    (is : IsEngine m inside) (damage : inside.damage < 2 ^ 64) (shortages : inside.shortages < 2 ^ 64) (t : TxNo)
    (name : List ℕ) (shape : Shape) (named : IsName name) (other : name ≢ catalog_name)
    (new_shape : IsNewShape shape) (fits : FitsPages (means m places) old shape) where
  counted : AreCounts inside
  counted = record { damage = omega (arith, damage); shortages = omega (arith, shortages) }

  may : MayHave m places inside name shape
  may = record {
    named = named;
    other = other;
    new = new_shape;
    fits = subst (λ (c : Core D). FitsPages (means m places) c shape) (sym same) fits;
  }

  pub makes_as : TablesAreMade D P m → TablesAreRefused D P m → (result : Result (Unit {0}) Refusal)
      → MatchResult result (λ _. CreatesTable m inside new t name shape) (FailsCreation m inside new t name shape)
      → GivesTable m places old new t name shape (refusal_in result)
  makes_as made refused (Ok x) created = subst (λ (c : Core D). GivesTable m places c new t name shape
      (refusal_in {T = Unit {0}} (Ok x))) same (made places inside new t name shape is.lawful may created)
  makes_as made refused (Err refusal) failed = subst (λ (c : Core D). GivesTable m places c new t name shape
      (refusal_in {T = Unit {0}} (Err refusal))) same
      (refused places inside new t name shape refusal is.lawful counted failed)

  pub makes_apart : CreationsKeepApart D P m → RefusalsKeepApart D P m → (result : Result (Unit {0}) Refusal)
      → MatchResult result (λ _. CreatesTable m inside new t name shape) (FailsCreation m inside new t name shape)
      → AreApart new.works
  makes_apart made refused (Ok x) created = made places inside new t name shape is.lawful may is.apart created
  makes_apart made refused (Err refusal) failed =
      refused places inside new t name shape refusal is.lawful counted is.apart failed

  pub makes_undamaged : CreationsMeetNone D P m → (result : Result (Unit {0}) Refusal)
      → MatchResult result (λ _. CreatesTable m inside new t name shape) (FailsCreation m inside new t name shape)
      → MeetsNoDamage (means m places) old new
  makes_undamaged law result creates = undamaged_as m places inside old new same
      (law places inside new t name shape result is.lawful may creates)

  pub makes_room : CreationsTakeFew D P m → (result : Result (Unit {0}) Refusal)
      → MatchResult result (λ _. CreatesTable m inside new t name shape) (FailsCreation m inside new t name shape)
      → TakesFew (means m places) old new (refusal_in result) (pages_of_table (length shape.columns))
  makes_room law result creates = room_as m places inside old new same (refusal_in result)
      (pages_of_table (length shape.columns)) (law places inside new t name shape result is.lawful may creates)
