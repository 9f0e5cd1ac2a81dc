-- What an opening leaves of a disk.
use Rattle.std.proofs.Common.{◌≡◌, inl, ℕ, true, List, [], Some, refl, sym, ap, arith, ◌∙◌, subst}
use Rattle.mg_base.specs.Disk.{MayLeave, Meaning}
use Rattle.mg_base.specs.Geometry.{is_page_size}
use Rattle.mg_base.specs.Image.{Image}
use Rattle.mg_base.specs.Moments.{LeavesOnly, goes_on, started}
use Rattle.mg_base.specs.declared.geometry.Geometry.{Geometry}
use Rattle.mg_core.specs.Opening.{Opens}
use Rattle.mg_core.specs.declared.parts.Core.{Core}
use Rattle.mg_database.specs.Preparing.{BecomesReady, made, there}
use Rattle.mg_format.specs.Format.{HasNew, IsMade, IsUnmadeImage, LeavesNew}
use Rattle.mg_image.specs.Form.{packed_form}
use Rattle.mg_lasting_laws.specs.StartingLaws.{StartsOn}
use Rattle.mg_model.specs.Laws.{OpeningsBegin}
use Rattle.mg_engine_meaning_laws.specs.Standings.{StandsFor}
use Rattle.mg_new_database_laws.specs.Soundness.{HasWholePages}
use Rattle.mg_pool.specs.Pool.{IsPool, KeepsContent}
use Rattle.mg_pool.specs.declared.pool.Pool.{Pool}
use Rattle.mg_space.specs.View.{KeepsStore, Tells}
use Rattle.mg_space.specs.ViewLaws.{CountsNow, content_on}
use Rattle.mg_space.specs.declared.links.FireLinks.{FireLinks}
use Rattle.mg_engine_step_laws.specs.standing.StartLaws.{StandsFirst}
use Rattle.mg_survey.specs.Survey.{IsSameDisk}
use Rattle.mg_txlist.specs.Laws.{LoadedSays}
use Rattle.mg_works.specs.Works.{Working, has_session}
use Rattle.mg_engine_meaning_laws.specs.BlankLaws.{header_is_made}
use Rattle.mg_engine_meaning_laws.specs.AgreeLaws.{HistoriesAgree}
use Rattle.mg_engine_meaning_laws.specs.OpeningLaws.{as_shown, begins_standing, catalog_tested, header_read}
use Rattle.mg_engine_meaning_laws.specs.NewBegins.{NewBegin}
use Rattle.mg_engine_meaning_laws.specs.Openings.{IsOpenedOver, IsSettledOn, IsSoundImage, new_history}

-- ---- what a disk leaves

module _ {D : Type 0} (m : Meaning D) (counts : CountsNow m) where
  -- a disk that was not written leaves what it might have left
  pub content_leaves : (P : Image → Type 0) (old new : D) → m.tells old ≡ true → KeepsContent m old new
      → ((c : Image) → MayLeave m old c → P c) → LeavesOnly m old new P
  content_leaves P old new told keeps was = goes_on m old old new P (started m old P was) (keeps.time told)
      (λ c may. was c (keeps.crash told c may))

  -- nothing is pending on a disk that was not written, where nothing was
  pub settled_still : (old new : D) (image : Image) → KeepsContent m old new → IsSettledOn m old image
      → IsSettledOn m new image
  settled_still old new image keeps on = record {
    tells = record { told = keeps.tells ∙ on.tells.told; held = keeps.held ∙ on.tells.held };
    only = λ c may. on.only c (keeps.crash on.tells.told c may);
  }

  pub new_still : (old new : D) (size : ℕ) → KeepsContent m old new → HasNew m old size → HasNew m new size
  new_still old new size keeps has = record {
    image = has.image;
    tells = record { told = keeps.tells ∙ has.tells.told; held = keeps.held ∙ has.tells.held };
    made = has.made;
    settled = λ c may. has.settled c (keeps.crash has.tells.told c may);
  }

  -- ---- a disk that was prepared

  module _ (disk mid : D) (size : ℕ) (ready : BecomesReady m disk mid size) where
    pub ready_unwritten : (image : Image) → m.held disk ≡ Some image → (IsUnmadeImage size image → ⊥)
        → KeepsContent m disk mid
    ready_unwritten image held not_ = at ready
      where
        at : BecomesReady m disk mid size → KeepsContent m disk mid
        at (there keeps no_new) = keeps
        at (made was done) = absurd (not_ (was image held))

    pub ready_made : (image : Image) → Tells m disk image → IsUnmadeImage size image → HasNew m mid size
    ready_made image tells is = at ready
      where
        at : BecomesReady m disk mid size → HasNew m mid size
        at (there keeps no_new) = absurd (no_new image tells.held is)
        at (made was done) = (done image tells).made

    ready_leaves : (image : Image) → Tells m disk image → LeavesOnly m disk mid (LeavesNew m disk size)
    ready_leaves image tells = at ready
      where
        at : BecomesReady m disk mid size → LeavesOnly m disk mid (LeavesNew m disk size)
        at (there keeps no_new) = content_leaves (LeavesNew m disk size) disk mid tells.told keeps (λ c may. inl may)
        at (made was done) = (done image tells).crash

    ready_tells : (image : Image) → Tells m disk image → m.tells mid ≡ true
    ready_tells image tells = at ready
      where
        at : BecomesReady m disk mid size → m.tells mid ≡ true
        at (there keeps no_new) = keeps.tells ∙ tells.told
        at (made was done) = (done image tells).made.tells.told

    -- what a crash leaves then is among it
    ready_may : (image : Image) (c : Image) → Tells m disk image → MayLeave m mid c → LeavesNew m disk size c
    ready_may image c tells may = (ready_leaves image tells).each c
        (counts mid (m.moment disk) c (ready_tells image tells) (ready_leaves image tells).later may)

    -- and pages were read
    pub read_leaves : (image : Image) (new : D) → Tells m disk image → KeepsContent m mid new
        → LeavesOnly m disk new (LeavesNew m disk size)
    read_leaves image new tells keeps = goes_on m disk mid new (LeavesNew m disk size) (ready_leaves image tells)
        (keeps.time (ready_tells image tells))
        (λ c may. ready_may image c tells (keeps.crash (ready_tells image tells) c may))

-- a disk that was prepared, and then read
pub ready_same : {D : Type 0} (m : Meaning D) (disk : D) (before after : Pool D FireLinks) → IsSameDisk m disk before.disk
    → IsPool m before → KeepsStore m before after → IsSameDisk m disk after.disk
ready_same m disk before after same pool keeps = record {
  size = λ n known. let told : Some n ≡ Some before.geometry.size = sym (same.size n known) ∙ pool.size in
      keeps.pool.size ∙ (ap (λ (g : Geometry). Some g.size) keeps.geometry ∙ sym told);
  tells = keeps.disk.tells ∙ same.tells;
  most_writes = keeps.disk.most_writes ∙ same.most_writes;
}

-- ---- an engine

module _ {D : Type 0} (m : Meaning D) (counts : CountsNow m) (stands_first : StandsFirst packed_form)
    (starts : StartsOn D FireLinks m packed_form) (loaded : LoadedSays) (begin : OpeningsBegin) (agree : HistoriesAgree)
    (new_begin : NewBegin) where
  module _ (disk : D) (limit : ℕ) (core : Core D) (opens : Opens m disk limit core) where
    abbrev size : ℕ
    size = core.store.geometry.size

    ready : BecomesReady m disk opens.before.disk size
    ready = subst (λ (g : Geometry). BecomesReady m disk opens.before.disk g.size) (sym opens.keeps.geometry)
        opens.prepared.disk_is

    kept : (image : Image) → m.held disk ≡ Some image → (IsUnmadeImage size image → ⊥)
        → KeepsContent m disk core.store.disk
    kept image held not_ = content_on m counts disk opens.before.disk core.store.disk
        (ready_unwritten m counts disk opens.before.disk size ready image held not_) opens.keeps.disk

    new_on : (image : Image) → Tells m disk image → IsUnmadeImage size image → HasNew m core.store.disk size
    new_on image tells is = new_still m counts opens.before.disk core.store.disk size opens.keeps.disk
        (ready_made m counts disk opens.before.disk size ready image tells is)

    -- the disk holds the new database, and its history begins with that
    new_stands : (free : ℕ) (now : Image) → HasNew m core.store.disk size → Tells m core.store.disk now
        → HasWholePages size now → StandsFor m core (new_history free) []
    new_stands free now has tells whole =
        let same : has.image ≡ now = some_image has.image now (sym has.tells.held ∙ tells.held) in
        begins_standing m disk limit core opens stands_first starts loaded begin agree now (new_history free)
        (record { tells = tells; only = λ c may. has.settled c may ∙ same })
        (new_begin free size now lawful (subst (IsMade size) same has.made) whole)
      where
        lawful : is_page_size size ≡ true
        lawful = subst (λ (g : Geometry). is_page_size g.size ≡ true) (sym opens.keeps.geometry)
            opens.prepared.geometry.size

        some_image : (a b : Image) → Some a ≡ Some b → a ≡ b
        some_image a b e = cc

    pub opened_over : IsOpenedOver m disk limit core
    opened_over = record {
      core_is = opens.idle.core_is;
      free = λ session. ap (λ (works : List Working). has_session works session) opens.idle.works;
      online = opens.idle.online;
      steady = opens.steady ∙ opens.prepared.steady;
      none_failed = opens.none_failed ∙ opens.prepared.none_failed;
      undamaged = opens.idle.damage;
      same = ready_same m disk opens.before core.store opens.prepared.same opens.prepared.pool opens.keeps;
      size_is = opens.idle.core_is.pool.size;
      limit_is = λ image held. ap (λ (g : Geometry). g.limit) opens.keeps.geometry
          ∙ opens.prepared.limit_is image held;
      shows = λ image tells. sym (as_shown m disk limit core opens image tells);
      header_is = λ image tells. header_read m disk limit core opens image tells;
      stands = λ image o on it. begins_standing m disk limit core opens stands_first starts loaded begin agree image o
          on it;
      unwritten = kept;
      pointers = opens.pointers;
      data_pages = opens.data_pages;
      tested = λ image tells. catalog_tested m disk limit core opens image tells;
      reads = opens.reads;
      made = new_on;
      begins_new = λ free image now tells is then_ whole. new_stands free now (new_on image tells is) then_ whole;
      crash = λ image tells. read_leaves m counts disk opens.before.disk size ready image core.store.disk tells
          opens.keeps.disk;
    }

-- a disk with a sound image on which nothing is pending stays so while it is opened
pub settled_on_opened : {D : Type 0} (m : Meaning D) (counts : CountsNow m) (disk : D) (limit : ℕ) (core : Core D)
    (image : Image) → IsOpenedOver m disk limit core → IsSettledOn m disk image
    → IsSoundImage core.store.geometry.size image → IsSettledOn m core.store.disk image
settled_on_opened m counts disk limit core image opened on sound = settled_still m counts disk core.store.disk image
    (opened.unwritten image on.tells.held (λ is. header_is_made core.store.geometry.size core.store.geometry.size
    image sound.sound.header refl is)) on
