-- A table that was given to an active transaction: it stands on the pages, and is not the catalog.
use Rattle.std.proofs.Common.{◌≡◌, ◌≢◌, cond, inl, ℕ, Bool, true, false, List, None, Some, refl, sym, ap, ◌∙◌}
use Rattle.std.proofs.lemmas.Bool.{false≢true}
use Rattle.mg_base.specs.Disk.{Meaning}
use Rattle.mg_base.specs.declared.numbers.TxNo.{TxNo}
use Rattle.mg_base.specs.declared.transaction.TxState.TheVariants.{Active}
use Rattle.mg_core.specs.Cores.{Continues}
use Rattle.mg_core.specs.declared.parts.Core.{Core}
use Rattle.mg_core.specs.declared.scanning.Place.{Place}
use Rattle.mg_engine_change_laws.specs.keys.WrittenLaws.{first_named}
use Rattle.mg_engine_meaning_laws.specs.LawfulLaws.{memory_of, tables_are_seen}
use Rattle.mg_engine_meaning_laws.specs.Meaning.{Places}
use Rattle.mg_engine_meaning_laws.specs.Standings.{ShowsIt, StandsFor, standing_of}
use Rattle.mg_engine_step_laws.specs.standing.Known.{IsShown, seen_is_shown}
use Rattle.mg_model.specs.Answers.{catalog_of, told}
use Rattle.mg_model.specs.Catalog.{catalog_name, shape_said, table_key}
use Rattle.mg_model.specs.Changes.{same_name}
use Rattle.mg_model.specs.History.{Entries}
use Rattle.mg_model.specs.Machine.{state_of}
use Rattle.mg_model.specs.ReadLaws.{same_name_itself}
use Rattle.mg_model.specs.declared.opening.Opening.{Opening}
use Rattle.mg_model.specs.declared.table.Table.{Table}
use Rattle.mg_pool.specs.Pool.{shown}
use Rattle.mg_works.specs.Works.{given_to}

module _ {D : Type 0} (m : Meaning D) (places : Places Place) (old : Core D) (t : TxNo) (table : Table)
    (given : given_to old.works t.0 table.name ≡ Some table) (o : Opening) (h : Entries) (stands : StandsFor m old o h)
    (continues : Continues old t.0) where
  pub its_active : state_of o h t.0 ≡ Active
  its_active = sym ((memory_of m old o h stands).state t.0) ∙ continues.1

  -- the history tells it under its name
  pub given_no_catalog : same_name table.name catalog_name ≡ false
  given_no_catalog = at (same_name table.name catalog_name) refl
      (tables_are_seen m places old o h t.0 table.name table stands its_active given).1
    where
      at : (b : Bool) → same_name table.name catalog_name ≡ b
          → cond b None (shape_said (catalog_of (told o h) t.0) table.name
          (catalog_of (told o h) t.0 (table_key table.name))) ≡ Some table.shape
          → same_name table.name catalog_name ≡ false
      at true is some = absurd cc
      at false is some = is

  module _ (shows : ShowsIt m old o h (standing_of old stands.numbers stands.tables)) where
    pub given_there : IsShown shows.stands.shows.layout table
    given_there = seen_is_shown shows.stands.shows.layout table
        ((shows.stands.shows.tables t.0 continues.1).seen table.name table (stands.given t.0 table.name table given))

    -- so it begins elsewhere
    pub given_begins_elsewhere : table.pointer.0 ≢ old.catalog.pointer.0
    given_begins_elsewhere same = false≢true (sym given_no_catalog ∙ (ap (λ (n : List ℕ). same_name n catalog_name) named
        ∙ same_name_itself catalog_name))
      where
        named : table.name ≡ catalog_name
        named = first_named old.store.geometry.size _
            (shown old.store.dirty shows.image) shows.stands.shows.layout shows.stands.shows.reading
            shows.stands.shows.sound catalog_name old.catalog.pointer.0 table (inl (
              ap (λ (x : Table). x.name) shows.stands.shows.sound.catalog,
              ap (λ (x : Table). x.pointer.0) shows.stands.shows.sound.catalog ∙ sym shows.catalog,
            )) given_there same
