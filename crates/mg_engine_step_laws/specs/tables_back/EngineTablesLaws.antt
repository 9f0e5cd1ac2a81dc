-- An engine whose transaction takes back tables that it had made.
use Rattle.std.proofs.Common.{◌≡◌, subst, sym, ◌∙◌, [], ◌∷◌, ℕ, List, Some}
use Rattle.mg_base.specs.Disk.{Meaning}
use Rattle.mg_base.specs.Image.{Image}
use Rattle.mg_value.specs.declared.value.Value.{Value}
use Rattle.mg_engine_step_laws.specs.standing.Following.{FollowsEntry, StandsOn}
use Rattle.mg_engine_step_laws.specs.writes.GoesOn.{HasGoneOn}
use Rattle.mg_engine_step_laws.specs.standing.Standing.{ShowsHistory, Standing, Stands}
use Rattle.mg_engine_step_laws.specs.backs.Again.{AreTaken}
use Rattle.mg_engine_step_laws.specs.backs.Midway.{GoesBack, IsMidway, MidwaysEnd}
use Rattle.mg_engine_step_laws.specs.backs.Shown.{ShowsMidway}
use Rattle.mg_grown_catalog_laws.specs.Grown.{CatalogGrows}
use Rattle.mg_image.specs.Form.{packed_form}
use Rattle.mg_lasting_laws.specs.Crashes.{HoldsAcknowledged, LeavesSince}
use Rattle.mg_lasting_laws.specs.Lasting.{LastsOn}
use Rattle.mg_model.specs.History.{Entries, Entry}
use Rattle.mg_model.specs.Laws.{OpeningsBegin}
use Rattle.mg_model.specs.Legal.{IsLawful}
use Rattle.mg_model.specs.declared.change.Change.{Change}
use Rattle.mg_model.specs.declared.change.Point.{Point}
use Rattle.mg_model.specs.declared.opening.Opening.{Opening}
use Rattle.mg_model.specs.declared.table.Table.{Table}
use Rattle.mg_pool.specs.Pool.{IsPool, shown}
use Rattle.mg_pool.specs.declared.pool.Pool.{Pool}
use Rattle.mg_pool_overlay_laws.specs.Needs.{Asked, Sessions}
use Rattle.mg_engine_step_laws.specs.tables_back.EngineTables.{EnginesTakeTables}
use Rattle.mg_engine_step_laws.specs.tables_back.TablesBack.{AreRowsLeft, TablesGoBack, TakesEachRow}

module _ (D L : Type 0) (m : Meaning D) (begins : OpeningsBegin) (on : StandsOn packed_form)
    (ends : MidwaysEnd packed_form D L m) (go_back : TablesGoBack D L m) (o : Opening)
    (h : Entries) (e : Entry) (point : Point) (s new : Standing) (start before after : Pool D L) (k i j : Image)
    (asked : Asked) (session : Sessions) (t : ℕ) (whole left : List Change) (keys : List Value)
    (stands : Stands packed_form before.geometry.size o h s (Some (shown start.dirty k)))
    (size_is : start.dirty.size ≡ before.geometry.size) (grows : CatalogGrows o h) (lawful : IsLawful o h e)
    (goes : GoesBack o h e point s asked t) (taken : AreTaken o h e t whole) (rows : AreRowsLeft o h e t left keys)
    (follows : FollowsEntry o h e s new) (number : new.number t ≡ s.number t)
    (fewer : (name : List ℕ) (table : Table) → new.table t name ≡ Some table → s.table t name ≡ Some table)
    (midway : IsMidway m packed_form before.geometry.size o h e t left s start before i asked session)
    (shows : ShowsMidway packed_form before.geometry.size o h e t whole left s (shown start.dirty k) stands.shows
    (shown before.dirty i)) (takes : TakesEachRow m s t keys before after i j) (is_pool : IsPool m after)
    (held : m.held after.disk ≡ Some j) (same_size : after.geometry.size ≡ before.geometry.size) where
  gone : IsMidway m packed_form before.geometry.size o h e t [] s start after j asked session
      × ((new : Standing) → FollowsEntry o h e s new → new.number t ≡ s.number t
      → ((name : List ℕ) (table : Table) → new.table t name ≡ Some table → s.table t name ≡ Some table)
      → ShowsHistory packed_form before.geometry.size o (e ∷ h) new (shown after.dirty j))
  gone = go_back o h e point s start before after i j asked session t whole left keys (shown start.dirty k) stands.shows
      (begins o stands.opening) (lawful, stands.legal) grows stands.memory goes taken rows midway shows takes

  both : LastsOn m packed_form o (e ∷ h) after asked session
      × LeavesSince m start.disk after.disk (HoldsAcknowledged packed_form after.geometry.size o h)
  both = ends o h e point s start after j asked session t stands.memory goes is_pool held
      (subst (λ (n : ℕ). IsMidway m packed_form n o h e t [] s start after j asked session) (sym same_size) gone.0)

  pub tables_gone : HasGoneOn m packed_form before.geometry.size o h e new start after j asked session
  tables_gone = record {
    stands = on before.geometry.size o h e s new (Some (shown start.dirty k)) (Some (shown after.dirty j)) stands lawful
        follows (gone.1 new follows number fewer);
    lasts = both.0;
    leaves = subst (λ (n : ℕ). LeavesSince m start.disk after.disk (HoldsAcknowledged packed_form n o h))
        (same_size ∙ sym size_is) both.1;
  }

pub engines_take_tables : (D L : Type 0) (m : Meaning D) → OpeningsBegin → StandsOn packed_form
    → MidwaysEnd packed_form D L m → TablesGoBack D L m → EnginesTakeTables D L m
engines_take_tables D L m begins on ends go_back o h e point s new start before after k i j asked session t whole left keys
    stands size_is grows lawful goes taken rows follows number fewer midway shows takes is_pool held same_size =
    tables_gone D L m begins on ends go_back o h e point s new start before after k i j asked session t whole left keys
    stands size_is grows lawful goes taken rows follows number fewer midway shows takes is_pool held same_size
