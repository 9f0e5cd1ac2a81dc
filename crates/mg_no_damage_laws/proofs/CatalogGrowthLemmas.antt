-- The catalog gets few data pages for a new table, at an engine that stands for a history.
use Rattle.std.proofs.Common.{◌≡◌, ◌∙◌, ℕ, true, List, Some, sym, ap}
use Rattle.mg_base.specs.Disk.{MayLeave, Meaning}
use Rattle.mg_base.specs.Image.{Image}
use Rattle.mg_base.specs.declared.numbers.TxNo.{TxNo}
use Rattle.mg_core.specs.Cores.{Continues, IsCore}
use Rattle.mg_core.specs.declared.parts.Core.{Core}
use Rattle.mg_engine_change_laws.specs.tables.MakingSteps.{MayHave}
use Rattle.mg_engine_change_laws.specs.memory.Notes.{HasRead}
use Rattle.mg_engine_meaning_laws.specs.Meaning.{Places}
use Rattle.mg_engine_meaning_laws.specs.Standings.{StandsFor}
use Rattle.mg_engine_meaning_laws.specs.StepLaws.{shows_of}
use Rattle.mg_model.specs.History.{Entries}
use Rattle.mg_model.specs.declared.opening.Opening.{Opening}
use Rattle.mg_overlay_laws.specs.Overlays.{left_state, nobody}
use Rattle.mg_pool.specs.declared.pool.Pool.{Pool}
use Rattle.mg_space.specs.declared.links.FireLinks.{FireLinks}
use Rattle.mg_table_batch.specs.Making.{GrowsAsWanted}
use Rattle.mg_table_making.specs.Creating.{MayBeMade}
use Rattle.mg_table_making.specs.Keys.{keys_made}
use Rattle.mg_txlist.specs.TxList.{said}
use Rattle.mg_value.specs.declared.shape.Shape.{Shape}
use Rattle.mg_no_damage_laws.specs.CatalogGrowth.{CreationsGrowFew, HasGrown}
use Rattle.mg_no_damage_laws.specs.Reading.{Reads}
use Rattle.mg_no_damage_laws.proofs.CreationLemmas.{MakingParts, all_on, begun_on, dead, its_catalog, kept, may_free, sound_free}
use Rattle.mg_no_damage_laws.proofs.MakeLemmas.{has_grown}

module _ {D P : Type 0} (m : Meaning D) (parts : MakingParts m) (laws : Reads m)
    (holds : (disk : D) → m.tells disk ≡ true → (image : Image) × (m.held disk ≡ Some image) × MayLeave m disk image)
    (places : Places P) (old free : Core D) (t : TxNo) (name : List ℕ) (shape : Shape) (core : IsCore m old)
    (may : MayHave m places old name shape) (made : MayBeMade m old free t name shape) (o : Opening) (h : Entries)
    (stands : StandsFor m old o h) (told : m.tells old.store.disk ≡ true) where
  abbrev continues : Continues old t.0
  continues = made.has_begun.continues

  had : HasRead m old free t.0
  had = all_on m parts old free t core o h stands told continues (keys_made old.catalog.shape name shape) made.begun
      free (begun_on m parts.counts_now old core t made.begun made.wait made.has_begun) made.are_free

  -- once the keys of the table are free the cache shows a sound image still, in which the maker counts as dead
  grown_few : (count : ℕ) (grown : Pool D FireLinks)
      → GrowsAsWanted m free.catalog t.0 name shape count free.store grown
      → HasGrown m grown free.catalog t.0 name shape count
  grown_few count grown grows = has_grown m laws holds free.store (shows_of m old o h stands continues.0).image
      (left_state nobody (said old.list)) (kept m parts old free t core o h stands told continues).of_pool
      (kept m parts old free t core o h stands told continues).in_pool
      (sound_free m parts old free t core o h stands told continues places name shape may free had) free.catalog
      (its_catalog m parts old free t core o h stands told continues
      ∙ sym (ap (λ (c : Core D). c.catalog) had.same)) t.0
      (dead m parts old free t core o h stands told continues) name shape
      (may_free m parts old free t core o h stands told continues places name shape may free had) count grown grows

pub creations_grow : {D P : Type 0} (m : Meaning D) → MakingParts m → Reads m
    → ((disk : D) → m.tells disk ≡ true → (image : Image) × (m.held disk ≡ Some image) × MayLeave m disk image)
    → CreationsGrowFew D P m
creations_grow m parts laws holds places old free t name shape core may made o h stands told count grown grows =
    grown_few m parts laws holds places old free t name shape core may made o h stands told count grown grows
