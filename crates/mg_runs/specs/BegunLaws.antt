-- An engine that was opened stands for the history that begins with what its disk held, and has the pages free that
-- this promises.
use Rattle.std.proofs.Common.{◌≡◌, ◌≢◌, ◌≤◌, ◌+◌, ℕ, true, false, [], length, Some, refl, sym, ap, ◌∙◌, subst, arith}
use Rattle.mg_base.specs.Disk.{Meaning}
use Rattle.mg_base.specs.Geometry.{is_page_size}
use Rattle.mg_base.specs.Image.{Image, page_at}
use Rattle.mg_base.specs.declared.geometry.Geometry.{Geometry}
use Rattle.mg_base.specs.declared.transaction.TxState.{TxState}
use Rattle.mg_base.specs.declared.transaction.TxState.TheVariants.{Active, Committed, Dead, Limbo}
use Rattle.mg_core.specs.declared.parts.Core.{Core}
use Rattle.mg_engine_meaning_laws.specs.FreePages.{CoreHasFree}
use Rattle.mg_engine_meaning_laws.specs.LawfulLaws.{opening_of}
use Rattle.mg_engine_meaning_laws.specs.NewBegins.{NewBegin}
use Rattle.mg_engine_meaning_laws.specs.OpenedLaws.{settled_on_opened}
use Rattle.mg_engine_meaning_laws.specs.Openings.{BeginsWith, IsOpenedOver, IsSettledOn, IsSoundImage, new_history}
use Rattle.mg_engine_meaning_laws.specs.Standings.{StandsFor}
use Rattle.mg_format.specs.Format.{HasNew, IsMade, IsUnmadeImage}
use Rattle.mg_image.specs.Form.{Pages}
use Rattle.mg_image.specs.Sound.{HasInventory}
use Rattle.mg_model.specs.Answers.{is_active}
use Rattle.mg_model.specs.Machine.{opening_state}
use Rattle.mg_model.specs.declared.opening.Opening.{Opening}
use Rattle.mg_new_database_laws.specs.FreeLaws.{new_has_free}
use Rattle.mg_new_database_laws.specs.NewRoom.{HasNewRoom}
use Rattle.mg_new_database_laws.specs.Soundness.{HasWholePages}
use Rattle.mg_pool.specs.Pool.{shown}
use Rattle.mg_space.specs.FreePages.{HasFree, TellsFree}
use Rattle.mg_space.specs.RegionLaws.{sound_regions}
use Rattle.mg_space.specs.View.{Tells}
use Rattle.mg_space.specs.ViewLaws.{CountsNow}
use Rattle.mg_survey.specs.Survey.{limit_of}
use Rattle.mg_runs.specs.Entry.{IsOpeningOf, TellsWholePages, geometry_at, of_new, of_sound}
use Rattle.mg_runs.specs.Laws.{BeginsRun, RunsBegin}
use Rattle.mg_runs.specs.OpeningLaws.{is_sound, size_over, sized_over}

-- ---- free pages

-- fewer are free, too
fewer : (g : Geometry) (pages : Pages) (many few : ℕ) → few ≤ many → HasFree g pages many → HasFree g pages few
fewer g pages many few less has = record {
  page = has.page;
  free = λ i inside. has.free i (omega (arith, inside, less));
  apart = λ i j a b same. has.apart i j (omega (arith, a, less)) (omega (arith, b, less)) same;
}

-- by a geometry of this size and this limit as many are free
by_parts : (g : Geometry) (size limit : ℕ) (pages : Pages) (count : ℕ) → g.size ≡ size → g.limit ≡ limit
    → HasFree (record { size = size; limit = limit }) pages count → HasFree g pages count
by_parts g size limit pages count size_is limit_is has =
    subst (λ (most : ℕ). HasFree (record { size = g.size; limit = most }) pages count) (sym limit_is)
    (subst (λ (s : ℕ). HasFree (record { size = s; limit = limit }) pages count) (sym size_is) has)

-- A disk holds what a history may begin with, and by a page limit as many pages are free as that promises.
record HoldsRoom {D : Type 0} (m : Meaning D) (disk : D) (size limit : ℕ) (o : Opening) : Type 0 where
  image : Image
  tells : Tells m disk image
  begins : BeginsWith size image o
  room : HasFree (record { size = size; limit = limit }) (page_at size image) o.free

one_image : (a b : Image) → Some a ≡ Some b → a ≡ b
one_image a b same = cc

-- ---- an engine that was opened

module _ {D : Type 0} (m : Meaning D) (disk : D) (limit : ℕ) (core : Core D) (size : ℕ) (image : Image)
    (opened : IsOpenedOver m disk limit core) (sized : m.size disk ≡ Some size) where
  same_size : core.store.geometry.size ≡ size
  same_size = size_over m disk limit core size image opened sized

  -- a database was made on its disk
  has_made : IsSettledOn m disk image → IsUnmadeImage size image → HasNew m core.store.disk core.store.geometry.size
  has_made on unmade = opened.made image on.tells (subst (λ (n : ℕ). IsUnmadeImage n image) (sym same_size) unmade)

  new_whole : TellsWholePages m size → (now : Image) → Tells m core.store.disk now → HasWholePages size now
  new_whole whole now tells = whole.held core.store.disk now (sized_over m disk limit core size image opened sized) tells

  -- or the disk holds what it held
  still : CountsNow m → IsSettledOn m disk image → (o : Opening) → BeginsWith size image o
      → IsSettledOn m core.store.disk image
  still counts on o it = settled_on_opened m counts disk limit core image opened on
      (subst (λ (n : ℕ). IsSoundImage n image) (sym same_size) (is_sound size image o it))

  -- ---- the history

  -- the engine stands for the history of a new database
  stands_new : (free : ℕ) → IsSettledOn m disk image → TellsWholePages m size → IsUnmadeImage size image
      → StandsFor m core (new_history free) []
  stands_new free on whole unmade = opened.begins_new free image has.image on.tells
      (subst (λ (n : ℕ). IsUnmadeImage n image) (sym same_size) unmade) has.tells
      (subst (λ (n : ℕ). HasWholePages n has.image) (sym same_size) (new_whole whole has.image has.tells))
    where
      has : HasNew m core.store.disk core.store.geometry.size
      has = has_made on unmade

  -- or for the one that begins with a sound image
  stands_sound : CountsNow m → IsSettledOn m disk image → (o : Opening) → BeginsWith size image o
      → StandsFor m core o []
  stands_sound counts on o it = opened.stands image o (still counts on o it)
      (subst (λ (n : ℕ). BeginsWith n image o) (sym same_size) it)

  pub stands_over : CountsNow m → IsSettledOn m disk image → TellsWholePages m size → (o : Opening)
      → IsOpeningOf size limit image o → StandsFor m core o []
  stands_over counts on whole _ (of_new free unmade room) = stands_new free on whole unmade
  stands_over counts on whole _ (of_sound o it has) = stands_sound counts on o it

  -- ---- the pages that are promised

  -- a new database has them free
  holds_new : NewBegin → is_page_size size ≡ true → IsSettledOn m disk image → TellsWholePages m size → (free : ℕ)
      → IsUnmadeImage size image → HasNewRoom size (limit_of limit (length image)) free
      → HoldsRoom m core.store.disk size (limit_of limit (length image)) (new_history free)
  holds_new new_begin lawful on whole free unmade room = record {
    image = has.image;
    tells = has.tells;
    begins = new_begin free size has.image lawful is_made (new_whole whole has.image has.tells);
    room = new_has_free size (limit_of limit (length image)) free has.image lawful is_made room;
  }
    where
      has : HasNew m core.store.disk core.store.geometry.size
      has = has_made on unmade

      is_made : IsMade size has.image
      is_made = subst (λ (n : ℕ). IsMade n has.image) same_size has.made

  -- or a sound image has
  holds_sound : CountsNow m → IsSettledOn m disk image → (o : Opening) → BeginsWith size image o
      → HasFree (geometry_at size limit image) (page_at size image) o.free
      → HoldsRoom m core.store.disk size (limit_of limit (length image)) o
  holds_sound counts on o it has = record {
    image = image;
    tells = (still counts on o it).tells;
    begins = it;
    room = has;
  }

  holds_over : CountsNow m → NewBegin → is_page_size size ≡ true → IsSettledOn m disk image → TellsWholePages m size
      → (o : Opening) → IsOpeningOf size limit image o
      → HoldsRoom m core.store.disk size (limit_of limit (length image)) o
  holds_over counts new_begin lawful on whole _ (of_new free unmade room) =
      holds_new new_begin lawful on whole free unmade room
  holds_over counts new_begin lawful on whole _ (of_sound o it has) = holds_sound counts on o it has

  -- and the engine shows that image: its inventory pages are lawful, and of the free pages it has any lower number
  room_over : m.held disk ≡ Some image → (o : Opening)
      → HoldsRoom m core.store.disk size (limit_of limit (length image)) o → (count : ℕ) → count ≤ o.free
      → CoreHasFree m core count
  room_over held o holds count within now tells =
      subst (λ (pages : Pages). TellsFree core.store.geometry pages count) (sym shows_it) tells_free
    where
      shows_it : shown core.store.dirty now ≡ page_at size holds.image
      shows_it = opened.shows now tells ∙ (ap (λ (n : ℕ). page_at n now) same_size
          ∙ ap (λ (c : Image). page_at size c) (one_image now holds.image (sym tells.held ∙ holds.tells.held)))

      tells_free : TellsFree core.store.geometry (page_at size holds.image) count
      tells_free = record {
        regions = sound_regions core.store.geometry (page_at size holds.image) opened.core_is.geometry
            (λ n. holds.begins.sound.sound.header.whole n ∙ sym same_size)
            (subst (λ (n : ℕ). HasInventory n (page_at size holds.image)) (sym same_size)
            holds.begins.sound.sound.inventory);
        free = by_parts core.store.geometry size (limit_of limit (length image)) (page_at size holds.image) count
            same_size (opened.limit_is image held)
            (fewer (geometry_at size limit image) (page_at size holds.image) o.free count within holds.room);
      }

not_active : (s : TxState) → s ≢ Active → is_active s ≡ false
not_active Active not_ = absurd (not_ refl)
not_active Limbo not_ = refl
not_active Dead not_ = refl
not_active Committed not_ = refl

pub runs_begin : {D : Type 0} (m : Meaning D) → CountsNow m → NewBegin → RunsBegin m
runs_begin {D} m counts new_begin disk limit core size image o opened entry = by
    (stands_over m disk limit core size image opened entry.sized counts entry.settled entry.whole o entry.opening)
    (holds_over m disk limit core size image opened entry.sized counts new_begin entry.lawful entry.settled entry.whole
    o entry.opening)
  where
    by : StandsFor m core o [] → HoldsRoom m core.store.disk size (limit_of limit (length image)) o
        → BeginsRun m core size o
    by stands holds = record {
      size_is = size_over m disk limit core size image opened entry.sized;
      stands = stands;
      room = room_over m disk limit core size image opened entry.sized entry.settled.tells.held o holds;
      idle = λ t. not_active (opening_state o t) ((opening_of m core o [] stands).ended t);
    }
