-- The catalog gets a data page: every overlay is kept, the pages show the history, and all walks go on.
use Rattle.std.proofs.Common.{◌≡◌, ◌⊎◌, inl, inr, refl, sym, ap, subst, ◌∙◌, ℕ, Bool, true, List, [], Option, None, Some}
use Rattle.mg_base.specs.Disk.{Meaning}
use Rattle.mg_base.specs.Image.{Image}
use Rattle.mg_base.specs.declared.geometry.Geometry.{Geometry}
use Rattle.mg_base.specs.declared.numbers.PageNo.{PageNo}
use Rattle.mg_base.specs.declared.numbers.RecId.{RecId}
use Rattle.mg_base.specs.declared.numbers.TxNo.{TxNo}
use Rattle.mg_base.specs.declared.transaction.TxState.{TxState}
use Rattle.mg_base.specs.declared.transaction.TxState.TheVariants.{Active}
use Rattle.mg_tie_laws.specs.Rows.{ForEach}
use Rattle.mg_engine_step_laws.specs.commits.ListShows.{BehindKeepsTips, ListsStay, TipsStayOn}
use Rattle.mg_engine_step_laws.specs.standing.Bare.{IsBare}
use Rattle.mg_engine_step_laws.specs.standing.BareLaws.{bare_grown, bare_has_found}
use Rattle.mg_engine_step_laws.specs.writes.Batches.{RowsLastStill}
use Rattle.mg_engine_step_laws.specs.writes.Reads.{grown_bits, grown_to}
use Rattle.mg_engine_step_laws.specs.standing.Standing.{ShowsHistory, Standing, Stands}
use Rattle.mg_engine_step_laws.specs.standing.StandingLaws.{IsChainOf}
use Rattle.mg_engine_step_laws.specs.standing.Versions.{HaveVersions, SpeaksFor}
use Rattle.mg_engine_step_laws.specs.reads.Walking.{AreToCome}
use Rattle.mg_engine_step_laws.specs.writes.WritesLaws.{finds_on}
use Rattle.mg_engine_step_laws.specs.writes.Caches.{kept_from, kept_now, pool_now, row_changed}
use Rattle.mg_engine_step_laws.specs.writes.Knowing.{WasChanged}
use Rattle.mg_engine_step_laws.specs.tables.SameRecords.{catalog_stands, same_catalog}
use Rattle.mg_engine_step_laws.specs.writes.SpotLaws.{versions_on}
use Rattle.mg_engine_step_laws.specs.writes.WrittenTablePagesLaws.{then_keeps, to as grown_layout}
use Rattle.mg_engine_step_laws.specs.writes.GoesOnLaws.{pool_is_kept}
use Rattle.mg_generation_laws.specs.Generations.{Generation}
use Rattle.mg_generation_laws.specs.Kept.{IsErasedForAll}
use Rattle.mg_heap.specs.Room.{GivesRoom}
use Rattle.mg_tie_laws.specs.Batches.{within_self}
use Rattle.mg_tie_laws.specs.RoomTies.{GrowsSome, end_of, ends_there, room_grows}
use Rattle.mg_tie_laws.specs.SpotTies.{spot_row_keeps}
use Rattle.mg_image.specs.Form.{Pages, packed_coding, packed_form}
use Rattle.mg_image.specs.ReadingLaws.{RowsAreOne}
use Rattle.mg_image.specs.RecordRules.{Facts, table_in}
use Rattle.mg_image.specs.Records.{Reading}
use Rattle.mg_image.specs.Sound.{facts_by}
use Rattle.mg_image.specs.Tables.{Layout, stands_of, table_at as page_table}
use Rattle.mg_image_overlay_laws.specs.pages.Kinds.{HasNoSequences}
use Rattle.mg_image_overlay_laws.specs.kept.KeptImages.{IsKept, AreFrontStands}
use Rattle.mg_lasting_laws.specs.Crashes.{HoldsAcknowledged, LeavesSince}
use Rattle.mg_lasting_laws.specs.Lasting.{LastsOn}
use Rattle.mg_lasting_laws.specs.PoolLaws.{HoldsOne}
use Rattle.mg_model.specs.declared.opening.Opening.{Opening}
use Rattle.mg_model.specs.declared.table.Table.{Table}
use Rattle.mg_model.specs.Catalog.{catalog_name}
use Rattle.mg_model.specs.History.{Entries}
use Rattle.mg_model.specs.Laws.{OpeningsBegin}
use Rattle.mg_model.specs.Openings.{everyone}
use Rattle.mg_overlay_laws.specs.Overlays.{left_state}
use Rattle.mg_pool.specs.Batch.{Changed, content_in, lists}
use Rattle.mg_pool.specs.Pool.{IsPool, shown}
use Rattle.mg_pool.specs.declared.pool.Pool.{Pool}
use Rattle.mg_pool_overlay_laws.specs.Needs.{Asked, Sessions}
use Rattle.mg_space.specs.Taking.{IsGeometry}
use Rattle.mg_space.specs.View.{Tells, viewed}
use Rattle.mg_space.specs.declared.links.FireLinks.{FireLinks}
use Rattle.mg_tie_laws.specs.Changed.{KeptIn, changed_fresh, fresh}
use Rattle.mg_table_batch.specs.Making.{Grows as GetsPage}
use Rattle.mg_image_overlay_laws.specs.pages.DataKept.{KeepsBits, data_self}
use Rattle.mg_image_overlay_laws.specs.tables.Growing.{EndsAt, Grows, IsTableOf, TableEnd}
use Rattle.mg_image_overlay_laws.specs.tables.GrowingLaws.{StandsTo}
use Rattle.mg_image_overlay_laws.specs.tables.OneLayout.{sound_once}
use Rattle.mg_value.specs.declared.value.Value.{Value}
use Rattle.mg_txlist.specs.TxList.{said}
use Rattle.mg_txlist.specs.declared.list.TxList.{TxList}
use Rattle.mg_core.specs.declared.parts.Core.{Core}
use Rattle.mg_engine_meaning_laws.specs.PlainTables.{HasPlainTables}
use Rattle.mg_engine_meaning_laws.specs.Standings.{HasTips, ShowsIt, StandsFor, StandsWhile, asked_in, sessions_in, standing_of}
use Rattle.mg_engine_meaning_laws.specs.StepLaws.{as_standing, shows_of}
use Rattle.mg_engine_change_laws.specs.keys.Clearing.{StaysFor}
use Rattle.mg_directory.specs.Candidates.{by_table}
use Rattle.mg_engine_change_laws.specs.memory.RecordChanges.{grown_keeps}
use Rattle.mg_image_overlay_laws.specs.tables.OneLayout.{StandsOneWay}
use Rattle.mg_engine_meaning_laws.specs.KnownRecords.{KnowsIts}
use Rattle.mg_engine_change_laws.specs.rows.Laid.{StaysOver, bare_standing}
use Rattle.mg_engine_change_laws.specs.rows.PlainLaws.{grown_keeps_plain}
use Rattle.mg_engine_change_laws.specs.rows.TipLaws.{growth_keeps_tips}
use Rattle.mg_engine_change_laws.specs.rows.Tips.{KeepsTips}
use Rattle.mg_engine_change_laws.specs.rows.WalkLaws.{others_walk_on}
use Rattle.mg_engine_change_laws.specs.rows.Walks.{OthersWalkOn}
use Rattle.mg_engine_change_laws.specs.tables.Growth.{GrowthsStay}
use Rattle.mg_engine_change_laws.specs.tables.Silent.{IsSilentIn, IsSilentOn}

none_in : HasNoSequences packed_form
none_in page n is = is

-- ---- the pages

module _ (one : RowsAreOne packed_coding) (one_way : StandsOneWay packed_form) (begins : OpeningsBegin) (on : TipsStayOn) (behind : BehindKeepsTips)
    (lists_stay : ListsStay) {D : Type 0} (m : Meaning D) (still : RowsLastStill D FireLinks m packed_form)
    (o : Opening) (h : Entries) (s : Standing) (before after : Pool D FireLinks) (i j : Image) (batch : Changed)
    (list : TxList) (asked : Asked) (session : Sessions)
    (stands : Stands packed_form before.geometry.size o h s (Some (shown before.dirty i))) (t : ℕ) (n : PageNo)
    (lasts : LastsOn m packed_form o h before asked session) (was : WasChanged m before after i j batch)
    (gives : GivesRoom before i fresh batch stands.shows.layout.catalog.table.pointer.0 before.geometry.size n)
    (active : s.state t ≡ Active) (plain : HasPlainTables before.geometry.size s.state (shown before.dirty i))
    (kept_each : (chosen : ℕ → Bool) → IsKept packed_form before.geometry.size o h (left_state chosen s.state)
    (shown before.dirty i) (shown before.dirty i))
    (tips : HasTips list before.geometry.size (shown before.dirty i)) where
  abbrev size : ℕ
  size = before.geometry.size

  abbrev pool : Pages
  pool = shown before.dirty i

  abbrev later : Pages
  later = shown after.dirty j

  abbrev state : ℕ → TxState
  state = left_state everyone s.state

  abbrev shows : ShowsHistory packed_form before.geometry.size o h s (shown before.dirty i)
  shows = stands.shows

  abbrev cat : Table
  cat = stands.shows.layout.catalog.table

  its : IsTableOf stands.shows.layout stands.shows.layout.catalog.table
  its = catalog_stands stands.shows.layout

  everywhere : ForEach packed_form before.geometry.size s.state (shown before.dirty i)
      (λ st layout r. IsTableOf layout stands.shows.layout.catalog.table)
  everywhere chosen layout r sound = subst (IsTableOf layout)
      (same_catalog packed_form size (left_state chosen s.state) state pool layout shows.layout r shows.reading sound
      shows.sound) (catalog_stands layout)

  kept : KeptIn packed_form before.geometry.size o h s.state asked session after j
  kept = spot_row_keeps packed_form one none_in D FireLinks m before after i j batch asked session o h s.state
      stands.shows.layout.catalog.table before.geometry.size n was.changes gives everywhere
      (kept_now m packed_form o h s before after i j batch asked session stands.memory was lasts)

  abbrev end : TableEnd
  end = end_of gives.pointers gives.data_pages

  more : GrowsSome packed_form.in_primary before.geometry.size stands.shows.layout.catalog.table.pointer.0
      (lists batch.orders) (content_in batch.pages) (shown before.dirty i) (end_of gives.pointers gives.data_pages)
      (viewed before i batch)
  more = room_grows packed_form before i state shows.layout shows.reading fresh batch cat before.geometry.size n
      (lists batch.orders) (content_in batch.pages) was.changes.geometry shows.sound its (within_self batch) gives

  grows : Grows packed_form.in_primary before.geometry.size stands.shows.layout.catalog.table.pointer.0
      (lists batch.orders) (content_in batch.pages) (shown before.dirty i) (end_of gives.pointers gives.data_pages)
      (shown after.dirty j) more.final
  grows = subst (λ (pages : Pages). Grows packed_form.in_primary size cat.pointer.0 (lists batch.orders)
      (content_in batch.pages) pool end pages more.final)
      (sym (changed_fresh m before after i j batch asked session was.changes).pool) more.grows

  ends : EndsAt stands.shows.layout stands.shows.layout.catalog.table (end_of gives.pointers gives.data_pages)
  ends = ends_there packed_form size state pool shows.layout shows.reading shows.sound cat its gives.pointers
      gives.data_pages gives.table

  stood : StandsTo packed_form before.geometry.size (left_state everyone s.state) (shown before.dirty i)
      (shown after.dirty j) stands.shows.layout stands.shows.reading stands.shows.layout.catalog.table more.final
  stood = grown_to packed_form one none_in size state pool later shows.layout shows.reading shows.sound cat
      (lists batch.orders) (content_in batch.pages) end more.final grows ends

  kept_bits : KeepsBits before.geometry.size (shown before.dirty i) (shown after.dirty j)
  kept_bits = grown_bits packed_form one none_in size state pool later shows.layout shows.reading shows.sound cat
      (lists batch.orders) (content_in batch.pages) end more.final grows ends o h
      (pool_now m packed_form o h s before after i j batch asked session stands.memory was lasts)

  cache : LastsOn m packed_form o h after asked session
      × LeavesSince m before.disk after.disk (HoldsAcknowledged packed_form before.dirty.size o h)
  cache = still o h before after i j batch asked session (begins o stands.opening) stands.legal lasts
      (row_changed m packed_form o h s before after i j batch asked session stands.memory was lasts h kept_bits kept)

  keeps_tips : KeepsTips before.geometry.size (shown before.dirty i) (shown after.dirty j)
  keeps_tips = growth_keeps_tips on behind packed_form one none_in size o h state pool later shows.layout shows.reading
      cat (lists batch.orders) (content_in batch.pages) end more.final (kept_each everyone) shows.sound grows ends

  bare_on : IsBare stood.layout
  bare_on = bare_grown shows.layout stood.layout shows.reading stood.grown shows.bare

  stands_now : Stands packed_form before.geometry.size o h s (Some (shown after.dirty j))
  stands_now = record {
    opening = stands.opening;
    legal = stands.legal;
    memory = stands.memory;
    shows = record {
      layout = stood.layout;
      reading = shows.reading;
      sound = stood.sound;
      next = kept_bits.next ∙ shows.next;
      versions = versions_on packed_form size o h s pool later shows stood.layout stood.grown;
      tables = λ u is. finds_on o h s shows.layout stood.layout shows.reading u stood.grown (shows.tables u is);
      found = bare_has_found packed_form before.geometry.size state later stood.layout shows.reading stood.sound bare_on
          s.state s.live;
      bare = bare_on;
    };
  }

  fronts : AreFrontStands (stands_of stands.shows.layout) (stands_of stood.layout)
  fronts = then_keeps packed_form one none_in size o h state pool later shows.layout shows.reading cat
      (lists batch.orders) (content_in batch.pages) end more.final (kept_each everyone) shows.sound grows ends later
      (data_self packed_form size state later (grown_layout packed_form one none_in size o h state pool later
      shows.layout shows.reading cat (lists batch.orders) (content_in batch.pages) end more.final
      (kept_each everyone) shows.sound grows ends).layout shows.reading (grown_layout packed_form one none_in size o h
      state pool later shows.layout shows.reading cat (lists batch.orders) (content_in batch.pages) end more.final
      (kept_each everyone) shows.sound grows ends).sound)
      (record { now = stood.layout; reading = shows.reading; sound = stood.sound; grown = stood.grown })

  abbrev at : RecId
  at = record { page = n; slot = 0 }

  others : OthersWalkOn before.geometry.size s (shown before.dirty i) (shown after.dirty j) t
  others = others_walk_on one size s pool later shows.layout shows.reading at (shows.reading at) shows.sound
      (record {
        layout = stood.layout;
        reading = shows.reading;
        sound = stood.sound;
        grown = stood.grown;
        here = refl;
        others = λ q ne. refl;
      }) fronts t active (λ counts off. refl)

  -- ---- keys for which nobody speaks

  abbrev f : Facts
  f = facts_by (left_state everyone s.state) (shown before.dirty i) stands.shows.layout

  abbrev g : Facts
  g = facts_by (left_state everyone s.state) (shown after.dirty j) stood.layout

  speaks_back : (name : List ℕ) (key : Value) (speaker : Option RecId)
      → SpeaksFor o h g stands.shows.reading name key speaker → SpeaksFor o h f stands.shows.reading name key speaker
  speaks_back name key None none = none
  speaks_back name key (Some p) (it, versions) = (
    record {
      table = it.table;
      of_table = at (stood.grown.new p.page.0 it.table it.of_table);
      named = it.named;
      some = it.some;
      keyed = it.keyed;
    },
    versions,
  )
    where
      at : (page_table (stands_of stands.shows.layout) p.page.0 ≡ Some it.table)
          ⊎ ((q : RecId) → q.page.0 ≡ p.page.0 → stands.shows.reading q ≡ []) → table_in f p ≡ Some it.table
      at (inl was_) = was_
      at (inr none) = absurd (it.some (none p refl))

  versions_back : HaveVersions o h g stands.shows.reading → HaveVersions o h f stands.shows.reading
  versions_back versions = record {
    speaker = versions.speaker;
    speaks = λ name key. speaks_back name key (versions.speaker name key) (versions.speaks name key);
    others = λ p table of. versions.others p table (stood.grown.stays p.page.0 table of);
  }

  chain_back : (key : Value) (speaker : Option RecId) (chain : List Generation)
      → IsChainOf g stands.shows.reading catalog_name key speaker chain
      → IsChainOf f stands.shows.reading catalog_name key speaker chain
  chain_back key None chain is = is
  chain_back key (Some p) chain (it, is) = at (stood.grown.new p.page.0 it.table it.of_table)
    where
      at : (page_table (stands_of stands.shows.layout) p.page.0 ≡ Some it.table)
          ⊎ ((q : RecId) → q.page.0 ≡ p.page.0 → stands.shows.reading q ≡ [])
          → IsChainOf f stands.shows.reading catalog_name key (Some p) chain
      at (inl was_) = (
        record { table = it.table; of_table = was_; named = it.named; some = it.some; keyed = it.keyed },
        is,
      )
      at (inr none) = absurd (it.some (none p refl))

  -- they stay so
  pub silent_stays : (key : Value) → IsSilentOn before.geometry.size o h s.state (shown before.dirty i) key
      → IsSilentOn before.geometry.size o h s.state (shown after.dirty j) key
  unfolding versions_back
  silent_stays key silent c q sound =
      let same : (stood.layout ≡ c) × (stands.shows.reading ≡ q) = sound_once packed_form one none_in
      before.geometry.size (left_state everyone s.state) (shown after.dirty j) stood.layout c stands.shows.reading q
      stood.sound sound in
      subst (λ (x : Reading). ((versions : HaveVersions o h (facts_by (left_state everyone s.state) (shown after.dirty j) c) x)
      → (chain : List Generation)
      → IsChainOf (facts_by (left_state everyone s.state) (shown after.dirty j) c) x catalog_name key
      (versions.speaker catalog_name key) chain → (chain ≡ []) ⊎ IsErasedForAll o h chain)) same.1 (subst (λ (l : Layout). ((versions : HaveVersions o h (facts_by (left_state everyone s.state) (shown after.dirty j) l) stands.shows.reading)
      → (chain : List Generation)
      → IsChainOf (facts_by (left_state everyone s.state) (shown after.dirty j) l) stands.shows.reading catalog_name key
      (versions.speaker catalog_name key) chain → (chain ≡ []) ⊎ IsErasedForAll o h chain)) same.0
      (λ versions chain is. silent stands.shows.layout stands.shows.reading stands.shows.sound (versions_back versions)
      chain (chain_back key (versions.speaker catalog_name key) chain is)))

  pub page_stays : after.geometry ≡ before.geometry → m.held after.disk ≡ Some j
      → StaysFor m o h s list before after (shown before.dirty i) asked session t
  page_stays geometry held = record {
    image = j;
    held = held;
    keeps = keeps_tips;
    lasts = cache.0;
    leaves = cache.1;
    others = others;
    stands = subst (λ (g : Geometry). Stands packed_form g.size o h s (Some (shown after.dirty j))) (sym geometry)
        stands_now;
    tips = subst (λ (g : Geometry). HasTips list g.size (shown after.dirty j)) (sym geometry)
        (lists_stay list list size pool later refl refl keeps_tips.next keeps_tips.tips tips);
    plain = subst (λ (g : Geometry). HasPlainTables g.size s.state (shown after.dirty j)) (sym geometry)
        (grown_keeps_plain one size o h s.state pool later shows.layout stood.layout shows.reading at shows.sound
        stood.sound stood.grown kept_each plain);
    known = grown_keeps one_way size s.state pool later shows.layout stood.layout shows.reading shows.sound stood.sound
        stood.grown.stays;
  }

-- ---- the engine

module _ (one : RowsAreOne packed_coding) (one_way : StandsOneWay packed_form) (begins : OpeningsBegin) (on : TipsStayOn) (behind : BehindKeepsTips)
    (lists_stay : ListsStay) {D : Type 0} (m : Meaning D) (holds : HoldsOne D m)
    (still : RowsLastStill D FireLinks m packed_form) (old : Core D) (store : Pool D FireLinks) (t : TxNo) (o : Opening)
    (h : Entries) (pool : IsPool m old.store) (geometry : IsGeometry old.store.geometry)
    (online : old.store.offline ≡ None) (active : said old.list t.0 ≡ Active)
    (grows : GetsPage m old.store store old.catalog.pointer.0) (stands : StandsFor m old o h) where
  shows_it : ShowsIt m old o h (standing_of old stands.numbers stands.tables)
  shows_it = shows_of m old o h stands online

  abbrev s : Standing
  s = standing_of old stands.numbers stands.tables

  told_now : Tells m old.store.disk shows_it.image
  told_now = record { told = stands.tells; held = shows_it.held }

  told_after : m.tells store.disk ≡ true
  told_after = ap m.tells (grows.changed.changes.enters.disk ∙ grows.changed.changes.puts.disk)
      ∙ (grows.changed.changes.written.tells ∙ (grows.keeps.disk.tells ∙ stands.tells))

  was : (j : Image) → m.held store.disk ≡ Some j → WasChanged m old.store store shows_it.image j grows.batch
  was j held = record {
    pool = pool;
    changes = record {
      ready = grows.ready;
      geometry = geometry;
      keeps = grows.keeps;
      frame = grows.changed.frame;
      tells = told_now;
      held = held;
    };
    crash = grows.changed.crash;
    tells = told_after;
  }

  kept_pool : KeptIn packed_form old.store.geometry.size o h (said old.list) (asked_in old.works)
      (sessions_in old.works) old.store shows_it.image
  kept_pool = kept_from m packed_form o h s old.store shows_it.image (asked_in old.works) (sessions_in old.works)
      shows_it.stands.memory pool shows_it.held shows_it.lasts

  -- the catalog begins where the header says
  catalog_is : old.catalog.pointer.0 ≡ shows_it.stands.shows.layout.catalog.table.pointer.0
  catalog_is = shows_it.catalog ∙ sym (ap (λ (x : Table). x.pointer.0) shows_it.stands.shows.sound.catalog)

  store_geometry : store.geometry ≡ old.store.geometry
  store_geometry = grows.changed.geometry ∙ grows.keeps.geometry

  stays : StaysFor m o h (standing_of old stands.numbers stands.tables) old.list old.store store
      (shown old.store.dirty shows_it.image) (asked_in old.works) (sessions_in old.works) t.0
  stays =
      let (j, held, left) = holds store.disk told_after in
      let (n, gives) = grows.filled shows_it.image told_now in
      page_stays one one_way begins on behind lists_stay m still o h s old.store store shows_it.image j grows.batch old.list
      (asked_in old.works) (sessions_in old.works) shows_it.stands t.0 n shows_it.lasts (was j held)
      (subst (λ (owner : ℕ). GivesRoom old.store shows_it.image fresh grows.batch owner old.store.geometry.size n)
      catalog_is gives) active shows_it.plain_tables
      (λ chosen. pool_is_kept packed_form D FireLinks old.store.geometry.size o h (said old.list)
      (asked_in old.works) (sessions_in old.works) old.store shows_it.image chosen kept_pool)
      shows_it.tips store_geometry held

  shows_now : ShowsIt m (record old { store = store }) o h (standing_of old stands.numbers stands.tables)
  shows_now = record {
    image = stays.image;
    held = stays.held;
    stands = stays.stands;
    lasts = stays.lasts;
    tips = stays.tips;
    catalog = shows_it.catalog ∙ sym stays.keeps.catalog;
    plain_tables = stays.plain;
    no_directory = shows_it.no_directory;
    known = subst (λ (g : Geometry). KnowsIts o.next.0 g.size (said old.list) (shown store.dirty stays.image)
        old.directories) (sym store_geometry) (stays.known o.next.0 (by_table old.directories.dirs) shows_it.known);
  }

  pub growth_silent : (key : Value) → IsSilentIn m old o h key → IsSilentIn m (record old { store = store }) o h key
  growth_silent key silent k held =
      let (n, gives) = grows.filled shows_it.image told_now in
      subst (λ (g : Geometry). IsSilentOn g.size o h (said old.list) (shown store.dirty k) key) (sym store_geometry)
      (silent_stays one one_way begins on behind lists_stay m still o h s old.store store shows_it.image k grows.batch old.list
      (asked_in old.works) (sessions_in old.works) shows_it.stands t.0 n shows_it.lasts (was k held)
      (subst (λ (owner : ℕ). GivesRoom old.store shows_it.image fresh grows.batch owner old.store.geometry.size n)
      catalog_is gives) active shows_it.plain_tables
      (λ chosen. pool_is_kept packed_form D FireLinks old.store.geometry.size o h (said old.list)
      (asked_in old.works) (sessions_in old.works) old.store shows_it.image chosen kept_pool)
      shows_it.tips key (silent shows_it.image shows_it.held))

  pub growth_stays : StaysOver m old store o h t.0
  growth_stays = record {
    stands = record {
      tells = told_after;
      grows = stands.grows;
      bases = stands.bases;
      numbers = stands.numbers;
      tables = stands.tables;
      given = stands.given;
      kept = stands.kept;
      stands = subst (λ (off : Option ℕ). StandsWhile m (record old { store = store }) o h
          (standing_of old stands.numbers stands.tables) off) (sym grows.changed.online.1) shows_now;
    };
    leaves = stays.leaves;
    walks = λ i held u ne also x from rows next. (
      stays.image,
      stays.held,
      as_standing store.geometry.size s (bare_standing old) (shown store.dirty stays.image) u x from rows refl refl
          (subst (λ (g : Geometry). AreToCome g.size s (shown store.dirty stays.image) u x from rows)
          (sym store_geometry) (stays.others u ne also x from rows (as_standing old.store.geometry.size
          (bare_standing old) s (shown old.store.dirty shows_it.image) u x from rows refl refl
          (subst (λ (k : Image). AreToCome old.store.geometry.size (bare_standing old) (shown old.store.dirty k) u x
          from rows) (same_image i held) next)))),
    );
  }
    where
      same_image : (i : Image) → m.held old.store.disk ≡ Some i → i ≡ shows_it.image
      same_image i held = let both : Some i ≡ Some shows_it.image = sym held ∙ shows_it.held in cc

pub growths_stay : RowsAreOne packed_coding → StandsOneWay packed_form → OpeningsBegin → TipsStayOn → BehindKeepsTips → ListsStay → {D : Type 0}
    (m : Meaning D) → HoldsOne D m → RowsLastStill D FireLinks m packed_form → GrowthsStay D m
growths_stay one one_way begins on behind lists_stay m holds still old store t o h pool geometry online active grows stands = (
  growth_stays one one_way begins on behind lists_stay m holds still old store t o h pool geometry online active grows stands,
  growth_silent one one_way begins on behind lists_stay m holds still old store t o h pool geometry online active grows stands,
)
