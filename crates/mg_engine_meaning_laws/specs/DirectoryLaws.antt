-- The directories of an engine that stands for a history: their candidates are enough, and one that is made of a table
-- that stands is complete, too.
use Rattle.std.proofs.Common.{◌≡◌, ◌≢◌, ◌∙◌, ◌⊎◌, inl, inr, refl, subst, sym, ℕ, true, List, Option, None, Some}
use Rattle.mg_base.specs.Disk.{Meaning}
use Rattle.mg_base.specs.declared.geometry.Geometry.{Geometry}
use Rattle.mg_base.specs.declared.numbers.RecId.{RecId}
use Rattle.mg_core.specs.Noting.{MakesDirectory}
use Rattle.mg_core.specs.Writing.{KnowsKey}
use Rattle.mg_core.specs.declared.parts.Core.{Core}
use Rattle.mg_directory.specs.Candidates.{ByKey, Kept, at_key, by_table}
use Rattle.mg_engine_step_laws.specs.standing.Known.{IsShown}
use Rattle.mg_engine_step_laws.specs.standing.Standing.{Standing, Stands}
use Rattle.mg_heap.specs.Stands.{TablesAreWalked}
use Rattle.mg_image.specs.Form.{Pages, packed_form}
use Rattle.mg_image.specs.Sound.{facts_by}
use Rattle.mg_image_overlay_laws.specs.tables.OneLayout.{StandsOneWay}
use Rattle.mg_model.specs.History.{Entries}
use Rattle.mg_model.specs.Laws.{OpeningsBegin}
use Rattle.mg_model.specs.Openings.{everyone}
use Rattle.mg_model.specs.declared.opening.Opening.{Opening}
use Rattle.mg_model.specs.declared.table.Table.{Table}
use Rattle.mg_engine_step_laws.specs.writes.Batches.{ReadsLast}
use Rattle.mg_noted_laws.specs.ComingLaws.{noted_by}
use Rattle.mg_noted_laws.specs.EnoughLaws.{enough_in_layout}
use Rattle.mg_noted_laws.specs.MadeLaws.{built_in_layout}
use Rattle.mg_noted_laws.specs.Noted.{AreNoted, IsNoted}
use Rattle.mg_noting.specs.Making.{IsBuiltOf}
use Rattle.mg_noting.specs.MakingLaws.{was_or_is_made}
use Rattle.mg_overlay_laws.specs.Overlays.{left_state}
use Rattle.mg_pool.specs.Dirty.{DirtyPages}
use Rattle.mg_pool.specs.Pool.{shown}
use Rattle.mg_seek.specs.Candidates.{AreEnough}
use Rattle.mg_seek.specs.Readings.{KeysOfReadings, SpeakersOfReadings}
use Rattle.mg_sortkey.specs.KeyBytes.{key_bytes}
use Rattle.mg_txlist.specs.TxList.{said}
use Rattle.mg_value.specs.declared.value.Value.{Value}
use Rattle.mg_space.specs.declared.links.FireLinks.{FireLinks}
use Rattle.mg_engine_meaning_laws.specs.KnownRecords.{KnowsIts}
use Rattle.mg_engine_meaning_laws.specs.Meaning.{Places}
use Rattle.mg_engine_meaning_laws.specs.ReadLaws.{reads_stand}
use Rattle.mg_engine_meaning_laws.specs.Standings.{Numbers, ShowsIt, StandsFor, StandsWhile, Tables, standing_of}

module _ {D : Type 0} (m : Meaning D) (old : Core D) (o : Opening) (h : Entries) (numbers : Numbers) (tables : Tables)
    (shows : ShowsIt m old o h (standing_of old numbers tables)) (walked : TablesAreWalked) (table : Table)
    (there : IsShown shows.stands.shows.layout table) where
  abbrev pages : Pages
  pages = shown old.store.dirty shows.image

  -- the candidates that they have for a key of the table are enough
  pub knows_key : SpeakersOfReadings → (key : Value) → KnowsKey old table key (shown old.store.dirty shows.image)
  knows_key of_readings key candidates is = at (by_table old.directories.dirs table.pointer.0) refl is
    where
      at : (found : Option ByKey) → by_table old.directories.dirs table.pointer.0 ≡ found
          → at_key found (key_bytes key) ≡ Some candidates
          → AreEnough (said old.list) old.live (shown old.store.dirty shows.image) table key candidates
      at None its some = let none : None ≡ Some candidates = some in absurd cc
      at (Some dir) its some =
          let one : dir (key_bytes key) ≡ candidates = cc in
          subst (AreEnough (said old.list) old.live (shown old.store.dirty shows.image) table key) one
          (enough_in_layout of_readings walked old.store.geometry.size (left_state everyone (said old.list))
          (shown old.store.dirty shows.image) shows.stands.shows.layout shows.stands.shows.reading
          shows.stands.shows.sound there.its table there.stands there.same (said old.list) old.live key dir
          (shows.known.noted shows.stands.shows.layout shows.stands.shows.reading shows.stands.shows.sound
          table.pointer.0 dir its))

  -- once one may have been made, all are complete
  module _ (of_readings : KeysOfReadings) (one_way : StandsOneWay packed_form) (new : Core D)
      (makes : MakesDirectory m old new table) (told : m.tells old.store.disk ≡ true) where
    each_noted : AreNoted (facts_by (left_state everyone (said old.list)) (shown old.store.dirty shows.image)
        shows.stands.shows.layout) shows.stands.shows.reading (by_table new.directories.dirs)
    each_noted first dir is = at (was_or_is_made (said old.list) old.live (shown old.store.dirty shows.image) table
        old.directories new.directories (makes.makes shows.image (record { told = told; held = shows.held })) first dir is)
      where
        at : (by_table old.directories.dirs first ≡ Some dir) ⊎ ((first ≡ table.pointer.0)
            × IsBuiltOf (said old.list) old.live (shown old.store.dirty shows.image) table dir)
            → IsNoted (facts_by (left_state everyone (said old.list)) (shown old.store.dirty shows.image)
            shows.stands.shows.layout) shows.stands.shows.reading first dir
        at (inl was) = shows.known.noted shows.stands.shows.layout shows.stands.shows.reading shows.stands.shows.sound
            first dir was
        at (inr (same, built)) = subst (λ (n : ℕ). IsNoted (facts_by (left_state everyone (said old.list))
            (shown old.store.dirty shows.image) shows.stands.shows.layout) shows.stands.shows.reading n dir)
            (sym same)
            (built_in_layout of_readings walked old.store.geometry.size (left_state everyone (said old.list))
            (shown old.store.dirty shows.image) shows.stands.shows.layout shows.stands.shows.reading
            shows.stands.shows.sound there.its table there.stands there.same (said old.list) old.live dir built)

    pub known_made : KnowsIts o.next.0 old.store.geometry.size (said old.list) (shown old.store.dirty shows.image)
        new.directories
    known_made = record {
      noted = noted_by packed_form one_way old.store.geometry.size (left_state everyone (said old.list))
          (shown old.store.dirty shows.image) (by_table new.directories.dirs) shows.stands.shows.layout
          shows.stands.shows.reading shows.stands.shows.sound each_noted;
      lone = shows.known.lone;
    }

    -- the catalog has none, unless that is the table
    pub no_directory_made : table.pointer.0 ≢ old.catalog.pointer.0
        → by_table new.directories.dirs old.catalog.pointer.0 ≡ None
    no_directory_made off = at (by_table new.directories.dirs old.catalog.pointer.0) refl
      where
        at : (found : Option ByKey) → by_table new.directories.dirs old.catalog.pointer.0 ≡ found
            → by_table new.directories.dirs old.catalog.pointer.0 ≡ None
        at None is = is
        at (Some dir) is = by (was_or_is_made (said old.list) old.live (shown old.store.dirty shows.image) table
            old.directories new.directories (makes.makes shows.image (record { told = told; held = shows.held }))
            old.catalog.pointer.0 dir is)
          where
            by : (by_table old.directories.dirs old.catalog.pointer.0 ≡ Some dir)
                ⊎ ((old.catalog.pointer.0 ≡ table.pointer.0)
                × IsBuiltOf (said old.list) old.live (shown old.store.dirty shows.image) table dir)
                → by_table new.directories.dirs old.catalog.pointer.0 ≡ None
            by (inl was) = let both : None ≡ Some dir = sym shows.no_directory ∙ was in absurd cc
            by (inr (same, built)) = absurd (off (sym same))

-- ---- so the engine stands for the history

-- with other directories that are complete
pub directories_stand : {D : Type 0} (m : Meaning D) (core : Core D) (kept : Kept) (o : Opening) (h : Entries)
    → (stands : StandsFor m core o h)
    → ((shows : ShowsIt m core o h (standing_of core stands.numbers stands.tables))
    → KnowsIts o.next.0 core.store.geometry.size (said core.list) (shown core.store.dirty shows.image) kept
    × (by_table kept.dirs core.catalog.pointer.0 ≡ None))
    → StandsFor m (record core { directories = kept }) o h
directories_stand m core kept o h stands known = record {
  tells = stands.tells;
  grows = stands.grows;
  bases = stands.bases;
  numbers = stands.numbers;
  tables = stands.tables;
  given = stands.given;
  kept = stands.kept;
  stands = by core.store.offline stands.stands;
}
  where
    by : (off : Option ℕ)
        → StandsWhile m core o h (standing_of core stands.numbers stands.tables) off
        → StandsWhile m (record core { directories = kept }) o h
        (standing_of (record core { directories = kept }) stands.numbers stands.tables) off
    by None shows = record {
      image = shows.image;
      held = shows.held;
      stands = shows.stands;
      lasts = shows.lasts;
      tips = shows.tips;
      catalog = shows.catalog;
      plain_tables = shows.plain_tables;
      no_directory = (known shows).1;
      known = (known shows).0;
    }
    by (Some faults) keeps = record { stands = keeps.stands; left = keeps.left }

-- once the directory of a table that it shows, and that is not the catalog, may have been made
pub made_stands : {D P : Type 0} (m : Meaning D) → Places P → OpeningsBegin → ReadsLast D FireLinks m packed_form
    → TablesAreWalked → KeysOfReadings → StandsOneWay packed_form → (old new : Core D) (table : Table)
    → MakesDirectory m old new table → table.pointer.0 ≢ old.catalog.pointer.0 → (o : Opening) (h : Entries) (stands : StandsFor m old o h)
    → ((shows : ShowsIt m old o h (standing_of old stands.numbers stands.tables))
    → IsShown shows.stands.shows.layout table)
    → StandsFor m new o h
made_stands {D} m places begin last walked of_readings one_way old new table makes off o h stands there =
    subst (λ (c : Core D). StandsFor m c o h) (sym makes.same)
    (reads_stand m places begin last (record old { directories = new.directories }) new.store makes.keeps old.damage
    old.shortages o h
    (directories_stand m old new.directories o h stands (λ shows. (
      known_made m old o h stands.numbers stands.tables shows walked table (there shows) of_readings one_way new makes
          stands.tells,
      no_directory_made m old o h stands.numbers stands.tables shows walked table (there shows) of_readings one_way new
          makes stands.tells off,
    ))))
