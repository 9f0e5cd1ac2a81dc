-- An engine over a disk that was opened stands for the history that begins with the disk's image.
use Rattle.std.proofs.Common.{◌≡◌, ℕ, List, [], None, Some, Ok, refl, sym, ap, ◌∙◌, subst}
use Rattle.std.proofs.Math.Path.{fun_ext}
use Rattle.mg_base.specs.Disk.{Meaning}
use Rattle.mg_base.specs.Image.{Image, page_at}
use Rattle.mg_base.specs.declared.geometry.Geometry.{Geometry}
use Rattle.mg_base.specs.declared.numbers.PageNo.{PageNo}
use Rattle.mg_base.specs.declared.transaction.TxState.{TxState}
use Rattle.mg_core.specs.Opening.{Opens}
use Rattle.mg_core.specs.declared.parts.Core.{Core}
use Rattle.mg_database.specs.Loading.{SaysPages}
use Rattle.mg_database.specs.Tested.{IsTested}
use Rattle.mg_directory.specs.Candidates.{Kept, by_table}
use Rattle.mg_engine_meaning_laws.specs.LoneRows.{HasLoneRows}
use Rattle.mg_engine_meaning_laws.specs.LoneRowsLaws.{lone_first}
use Rattle.mg_engine_meaning_laws.specs.PlainTables.{EachIsPlain, HasPlainTables}
use Rattle.mg_engine_meaning_laws.specs.Standings.{AreSeen, KeepsWritten, ShowsIt, StandsFor, StandsWhile, standing_of}
use Rattle.mg_header.specs.HeaderPage.{reading}
use Rattle.mg_header.specs.declared.header.Header.{Header}
use Rattle.mg_image.specs.Form.{Pages, packed_form}
use Rattle.mg_image.specs.Inventory.{header_of, next_of, state_at}
use Rattle.mg_image.specs.Opening.{IsOpened}
use Rattle.mg_lasting_laws.specs.Lasting.{LastsOn}
use Rattle.mg_lasting_laws.specs.PoolLaws.{needs_are}
use Rattle.mg_lasting_laws.specs.StartLaws.{bits_at_start}
use Rattle.mg_lasting_laws.specs.StartingLaws.{StartsOn}
use Rattle.mg_model.specs.Answers.{is_open}
use Rattle.mg_model.specs.Laws.{OpeningsBegin}
use Rattle.mg_model.specs.Machine.{opening_state}
use Rattle.mg_model.specs.declared.opening.Opening.{Opening}
use Rattle.mg_model.specs.Openings.{everyone}
use Rattle.mg_noted_laws.specs.ComingLaws.{none_has}
use Rattle.mg_noted_laws.specs.Noted.{HasDirectories}
use Rattle.mg_overlay_laws.specs.Overlays.{left_state}
use Rattle.mg_pool.specs.Dirty.{DirtyPages}
use Rattle.mg_pool.specs.Pool.{shown}
use Rattle.mg_space.specs.View.{Tells}
use Rattle.mg_space.specs.declared.links.FireLinks.{FireLinks}
use Rattle.mg_engine_step_laws.specs.standing.BareLaws.{bare_by}
use Rattle.mg_engine_step_laws.specs.standing.Following.{IsFirst}
use Rattle.mg_engine_step_laws.specs.standing.StartLaws.{StandsFirst}
use Rattle.mg_txlist.specs.Laws.{LoadedSays}
use Rattle.mg_txlist.specs.TxList.{next_said, said}
use Rattle.mg_waits.specs.Waits.{edges_in}
use Rattle.mg_works.specs.Works.{Working, given_to}
use Rattle.mg_engine_meaning_laws.specs.Standings.{asked_in, sessions_in}
use Rattle.mg_engine_meaning_laws.specs.BasesLaws.{first_bases}
use Rattle.mg_engine_meaning_laws.specs.Openings.{BeginsWith, IsSettledOn}
use Rattle.mg_engine_meaning_laws.specs.TipLaws.{tips_shown}
use Rattle.mg_engine_meaning_laws.specs.AgreeLaws.{HistoriesAgree}
use Rattle.mg_engine_step_laws.specs.standing.Standing.{Stands}

module _ {D : Type 0} (m : Meaning D) (disk : D) (limit : ℕ) (core : Core D) (opens : Opens m disk limit core)
    (image : Image) (tells : Tells m core.store.disk image) where
  abbrev size : ℕ
  size = core.store.geometry.size

  abbrev pages : Pages
  pages = shown core.store.dirty image

  pub dirty_size : core.store.dirty.size ≡ size
  dirty_size = opens.idle.core_is.pool.page_size

  -- no page is dirty: the cache shows the disk's pages
  pub as_shown : page_at size image ≡ pages
  as_shown = ap (λ (n : ℕ). page_at n image) (sym dirty_size)
      ∙ fun_ext (λ p. sym ((needs_are core.store.dirty core.store.graph image (asked_in core.works)
      (sessions_in core.works)).clean p (opens.idle.clean p)))

  before_tells : Tells m opens.before.disk image
  before_tells = record {
    told = sym opens.keeps.disk.tells ∙ tells.told;
    held = sym opens.keeps.disk.held ∙ tells.held;
  }

  pub says : SaysPages size pages core.list core.catalog.pointer core.markers opens.pointers opens.data_pages
  says = subst (λ (g : Geometry). SaysPages g.size pages core.list core.catalog.pointer core.markers
      opens.pointers opens.data_pages) (sym opens.keeps.geometry)
      (subst (λ (d : DirtyPages). SaysPages opens.before.geometry.size (shown d image) core.list
      core.catalog.pointer core.markers opens.pointers opens.data_pages) (sym opens.keeps.dirty)
      (opens.says image before_tells))

  -- the pages of the catalog are as wanted, on the disk
  pub catalog_tested : IsTested (page_at size image) (header_of (page_at size image)).catalog.0 opens.pointers
      opens.data_pages
  catalog_tested = subst (λ (ps : Pages). IsTested ps (header_of ps).catalog.0 opens.pointers opens.data_pages)
      (sym as_shown)
      (subst (λ (p : PageNo). IsTested pages p.0 opens.pointers opens.data_pages) says.catalog_is says.tested)

  pub header_read : (header : Header) × (reading (page_at size image 0) size ≡ Ok header)
  header_read = (
    says.head.header,
    ap (λ (ps : Pages). reading (ps 0) size) as_shown ∙ says.head.reads,
  )

module _ {D : Type 0} (m : Meaning D) (disk : D) (limit : ℕ) (core : Core D) (opens : Opens m disk limit core)
    (stands_first : StandsFirst packed_form) (starts : StartsOn D FireLinks m packed_form)
    (loaded : LoadedSays) (begin : OpeningsBegin) (agree : HistoriesAgree) (image : Image) (o : Opening)
    (on : IsSettledOn m core.store.disk image) (it : BeginsWith core.store.geometry.size image o) where
  abbrev its_size : ℕ
  its_size = core.store.geometry.size

  abbrev its_pages : Pages
  its_pages = shown core.store.dirty image

  its_head : SaysPages its_size its_pages core.list core.catalog.pointer core.markers opens.pointers
      opens.data_pages
  its_head = says m disk limit core opens image on.tells

  opened_is : IsOpened packed_form its_size its_pages it.opened
  opened_is = subst (λ (ps : Pages). IsOpened packed_form its_size ps it.opened)
      (as_shown m disk limit core opens image on.tells) it.sound

  list_says : (next_said core.list ≡ next_of its_pages)
      × ((t : ℕ) → said core.list t ≡ state_at its_size its_pages t)
  list_says = loaded its_size its_pages core.list opens.idle.core_is.list opens.idle.core_is.size
      opens.idle.undrawn its_head.head

  next_is : next_said core.list ≡ o.next.0
  next_is = list_says.0 ∙ (sym opened_is.next ∙ it.begins.next)

  state_is : (t : ℕ) → said core.list t ≡ opening_state o t
  state_is t = list_says.1 t
      ∙ bits_at_start packed_form its_size o its_pages it.opened opened_is it.begins (begin o it.whole) t

  memory : IsFirst o (standing_of core (λ t name. 0) (λ t name. None))
  memory = record {
    limit = sym it.limit;
    next = next_is;
    state = state_is;
    live_next = opens.idle.undecided.next ∙ next_is;
    unended = λ t. opens.idle.undecided.unended t ∙ ap is_open (state_is t);
    no_bases = opens.idle.undecided.no_bases;
    waits = λ t. ap (λ (waits : List (ℕ × ℕ)). edges_in waits t) opens.idle.waits;
  }

  lasts : LastsOn m packed_form o [] core.store (asked_in core.works) (sessions_in core.works)
  lasts = starts o core.store image it.opened (asked_in core.works) (sessions_in core.works) on.tells.held
      opens.idle.clean on.only
      (subst (λ (n : ℕ). IsOpened packed_form n (page_at n image) it.opened) (sym (dirty_size m disk limit core opens image on.tells)) it.sound)
      it.begins it.whole

  same_states : state_at its_size its_pages ≡ said core.list
  same_states = fun_ext (λ t. sym (list_says.1 t))

  each_plain : EachIsPlain its_size (said core.list) its_pages
  each_plain = subst (λ (x : ℕ → TxState). EachIsPlain its_size x its_pages) same_states
      (subst (λ (ps : Pages). EachIsPlain its_size (state_at its_size ps) ps)
      (as_shown m disk limit core opens image on.tells) it.plain_tables)

  stands : Stands packed_form its_size o [] (standing_of core (λ t name. 0) (λ t name. None)) (Some its_pages)
  stands = stands_first its_size o (standing_of core (λ t name. 0) (λ t name. None)) its_pages it.opened opened_is
      it.begins it.whole memory
      (λ layout r sound. bare_by layout (λ its there. (each_plain everyone layout r sound its there).no_index))

  plain_tables : HasPlainTables its_size (said core.list) its_pages
  plain_tables = record {
    each = each_plain;
    agree = agree its_size o [] (standing_of core (λ t name. 0) (λ t name. None)) its_pages
        (record { memory = stands.memory; shows = stands.shows }) (begin o it.whole) stands.legal it.grows;
  }

  shows : ShowsIt m core o [] (standing_of core (λ t name. 0) (λ t name. None))
  shows = record {
    image = image;
    held = on.tells.held;
    stands = stands;
    lasts = lasts;
    tips = tips_shown its_size its_pages core.list opens.idle.core_is.size its_head.head;
    catalog = ap (λ (p : PageNo). p.0) its_head.catalog_is;
    plain_tables = plain_tables;
    no_directory = ap (λ (k : Kept). by_table k.dirs core.catalog.pointer.0) opens.idle.directories;
    known = record {
      noted = subst (HasDirectories its_size (said core.list) its_pages) (sym opens.idle.directories)
          (none_has packed_form its_size (left_state everyone (said core.list)) its_pages (by_table [])
          (λ first. refl));
      lone = subst (λ (from : ℕ). HasLoneRows from its_size (said core.list) its_pages)
          (sym opened_is.next ∙ it.begins.next) (lone_first its_size (said core.list) its_pages);
    };
  }

  given : AreSeen core.works (λ t name. None)
  given t name table is =
      let none : None ≡ Some table = sym (ap (λ (works : List Working). given_to works t name) opens.idle.works) ∙ is in
      absurd cc

  kept : KeepsWritten core.catalog.pointer.0 core.works (λ t name. None)
  kept = subst (λ (works : List Working). KeepsWritten core.catalog.pointer.0 works (λ t name. None))
      (sym opens.idle.works) (record { seen = λ t table is. absurd is; told = λ t. tt })

  pub begins_standing : StandsFor m core o []
  begins_standing = record {
    tells = on.tells.told;
    grows = it.grows;
    bases = first_bases o it.whole;
    numbers = λ t name. 0;
    tables = λ t name. None;
    given = given;
    kept = kept;
    stands = subst (StandsWhile m core o [] (standing_of core (λ t name. 0) (λ t name. None)))
        (sym opens.idle.online) shows;
  }
