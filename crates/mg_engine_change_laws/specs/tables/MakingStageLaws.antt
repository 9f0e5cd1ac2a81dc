-- A table's making up to the batch: the keys of its rows are free, and the catalog gets the pages that it needs.
use Rattle.std.proofs.Common.{◌≡◌, ◌⊎◌, inl, inr, refl, sym, ap, ◌∙◌, subst, ℕ, Bool, List, [], ◌∷◌, map, None, Some}
use Rattle.mg_base.specs.Disk.{Meaning}
use Rattle.mg_base.specs.Image.{Image}
use Rattle.mg_base.specs.declared.geometry.Geometry.{Geometry}
use Rattle.mg_base.specs.declared.numbers.TxNo.{TxNo}
use Rattle.mg_base.specs.declared.transaction.TxState.TheVariants.{Active}
use Rattle.mg_value.specs.declared.shape.Shape.{Shape}
use Rattle.mg_value.specs.declared.value.Value.{Value}
use Rattle.mg_generation_laws.specs.Generations.{Generation}
use Rattle.mg_generation_laws.specs.Kept.{IsErasedForAll}
use Rattle.mg_model.specs.declared.opening.Opening.{Opening}
use Rattle.mg_model.specs.declared.table.Table.{Table}
use Rattle.mg_model.specs.Catalog.{catalog_name}
use Rattle.mg_model.specs.Changes.{Cells}
use Rattle.mg_model.specs.History.{Entries}
use Rattle.mg_model.specs.Laws.{OpeningsBegin}
use Rattle.mg_model.specs.Openings.{everyone}
use Rattle.mg_image.specs.Form.{Pages, packed_coding, packed_form}
use Rattle.mg_image.specs.ReadingLaws.{RowsAreOne}
use Rattle.mg_image.specs.Records.{Reading}
use Rattle.mg_image.specs.Sound.{facts_by}
use Rattle.mg_image.specs.Tables.{Layout}
use Rattle.mg_overlay_laws.specs.Overlays.{left_state}
use Rattle.mg_pool.specs.Dirty.{DirtyPages}
use Rattle.mg_pool.specs.Pool.{IsPool, shown}
use Rattle.mg_pool.specs.declared.pool.Pool.{Pool}
use Rattle.mg_row_writes.specs.Finding.{IsRowAt}
use Rattle.mg_row_writes.specs.declared.finding.RowAt.{RowAt}
use Rattle.mg_seek.specs.Speaking.{IsSpeaker}
use Rattle.mg_space.specs.Taking.{IsGeometry}
use Rattle.mg_space.specs.View.{KeepsStore}
use Rattle.mg_space.specs.ViewLaws.{CountsNow, keeps_itself}
use Rattle.mg_space.specs.declared.links.FireLinks.{FireLinks}
use Rattle.mg_table_batch.specs.Making.{Grows, GrowsAsWanted, gets_one, has_enough}
use Rattle.mg_table_making.specs.Creating.{MayBeMade}
use Rattle.mg_table_making.specs.Keys.{AreFreeKeys, IsFreeKey, free_more, free_none, keys_made}
use Rattle.mg_image_overlay_laws.specs.tables.OneLayout.{sound_once}
use Rattle.mg_image_overlay_laws.specs.tables.OneTable.{stands_in}
use Rattle.mg_tie_laws.specs.Ties.{IsOneOf}
use Rattle.mg_txlist.specs.TxList.{said}
use Rattle.mg_core.specs.declared.parts.Core.{Core}
use Rattle.mg_core.specs.Cores.{IsCore}
use Rattle.mg_core.specs.Writing.{HasBegun, IsOfKey, ReadsRow}
use Rattle.mg_engine_step_laws.specs.reads.AnswersLaws.{SpeakersAreTold}
use Rattle.mg_engine_step_laws.specs.writes.Batches.{ReadsLast}
use Rattle.mg_engine_step_laws.specs.standing.Known.{IsShown}
use Rattle.mg_engine_step_laws.specs.standing.Standing.{Standing}
use Rattle.mg_engine_step_laws.specs.standing.StandingLaws.{IsChainOf}
use Rattle.mg_engine_step_laws.specs.standing.Versions.{HaveVersions}
use Rattle.mg_engine_meaning_laws.specs.Meaning.{Places}
use Rattle.mg_engine_meaning_laws.specs.Standings.{ShowsIt, StandsFor, standing_of}
use Rattle.mg_engine_meaning_laws.specs.StepLaws.{shows_of}
use Rattle.mg_engine_change_laws.specs.memory.StageLaws.{over_so, reads_so, so_then}
use Rattle.mg_engine_change_laws.specs.rows.MadeLaws.{own_on}
use Rattle.mg_engine_change_laws.specs.memory.Notes.{HasRead}
use Rattle.mg_engine_change_laws.specs.rows.StopLaws.{ended_read, reads_on, told_before}
use Rattle.mg_engine_change_laws.specs.tables.Growth.{GrowthsStay}
use Rattle.mg_engine_change_laws.specs.tables.Silent.{IsSilentIn, IsSilentOn}
use Rattle.mg_engine_change_laws.specs.tables.MakingStages.{HasCome}

-- ---- lists

-- of each key something holds
abbrev pub EachKey : (Value → Type 0) → List Value → Type 0
EachKey P [] = Unit {0}
EachKey P (key ∷ keys) = P key × EachKey P keys

pub key_of_row : (P : Value → Type 0) (f : Cells → Value) (rows : List Cells) → EachKey P (map f rows) → (row : Cells)
    → IsOneOf rows row → P (f row)
key_of_row P f [] each row is = absurd is
key_of_row P f (first ∷ rows) each row (inl same) = subst (λ (x : Cells). P (f x)) (sym same) each.0
key_of_row P f (first ∷ rows) each row (inr more) = key_of_row P f rows each.1 row more

each_as : (P Q : Value → Type 0) → ((key : Value) → P key → Q key) → (keys : List Value) → EachKey P keys
    → EachKey Q keys
each_as P Q gives [] each = tt
each_as P Q gives (key ∷ keys) each = (gives key each.0, each_as P Q gives keys each.1)

-- ---- pages that were only read

pub silent_read : {D : Type 0} (m : Meaning D) (old : Core D) (store : Pool D FireLinks) → KeepsStore m old.store store
    → (o : Opening) (h : Entries) (key : Value) → IsSilentIn m old o h key
    → IsSilentIn m (record old { store = store }) o h key
silent_read m old store keeps o h key silent image held =
    subst (λ (g : Geometry). IsSilentOn g.size o h (said old.list) (shown store.dirty image) key) (sym keeps.geometry)
    (subst (λ (d : DirtyPages). IsSilentOn old.store.geometry.size o h (said old.list) (shown d image) key)
    (sym keeps.dirty) (silent image (sym keeps.disk.held ∙ held)))

-- ---- the keys are free

module _ (one : RowsAreOne packed_coding) (speakers : SpeakersAreTold) {D : Type 0} (m : Meaning D)
    (counts_now : CountsNow m) (old : Core D) (core : IsCore m old) (t : TxNo) where
  begun_since : (begun : Core D) (wait : Bool) → HasBegun old begun t wait → HasRead m old begun t.0
  begun_since begun wait has = ended_read m old begun t.0 core.pool has.ended

  key_since : (mid read : Core D) (table : Table) (key : Value) (found : RowAt) → HasRead m old mid t.0
      → ReadsRow m mid read t table key found → HasRead m old read t.0
  key_since mid read table key found since reads = reads_on m counts_now old mid read t.0 since reads.reads

  keys_since : (keys : List Value) (mid free : Core D) → HasRead m old mid t.0 → AreFreeKeys m t keys mid free
      → HasRead m old free t.0
  keys_since keys mid free since (free_none same) = since
  keys_since keys mid free since (free_more key later from looked to its more) = keys_since later looked free
      (key_since mid looked mid.catalog key its.found since its.reads) more

  -- nobody speaks for a key
  module _ (online : old.store.offline ≡ None) (o : Opening) (h : Entries) (stands : StandsFor m old o h) where
    shows : ShowsIt m old o h (standing_of old stands.numbers stands.tables)
    shows = shows_of m old o h stands online

    abbrev s : Standing
    s = standing_of old stands.numbers stands.tables

    abbrev pages : Pages
    pages = shown old.store.dirty shows.image

    abbrev size : ℕ
    size = old.store.geometry.size

    catalog_there : IsShown shows.stands.shows.layout old.catalog
    catalog_there = record {
      its = shows.stands.shows.layout.catalog.table;
      stands = stands_in shows.stands.shows.layout shows.stands.shows.layout.catalog.table (inl refl);
      same = record {
        name = ap (λ (x : Table). x.name) shows.stands.shows.sound.catalog ∙ sym core.catalog.named;
        shape = ap (λ (x : Table). x.shape) shows.stands.shows.sound.catalog ∙ sym core.catalog.shape;
        pointer = ap (λ (x : Table). x.pointer) shows.stands.shows.sound.catalog
            ∙ ap (λ (n : ℕ). record { 0 = n }) (sym shows.catalog);
      };
    }

    spoken_silent : (key : Value) → IsSpeaker (said old.list) old.live (shown old.store.dirty shows.image) old.catalog key None
        → IsSilentOn old.store.geometry.size o h (said old.list) (shown old.store.dirty shows.image) key
    spoken_silent key spoken a r sound =
        let same : (shows.stands.shows.layout ≡ a) × (shows.stands.shows.reading ≡ r) = sound_once packed_form one
        (λ page n is. is) old.store.geometry.size (left_state everyone (said old.list))
        (shown old.store.dirty shows.image) shows.stands.shows.layout a shows.stands.shows.reading r
        shows.stands.shows.sound sound in
        subst (λ (x : Reading). ((versions : HaveVersions o h (facts_by (left_state everyone (said old.list))
        (shown old.store.dirty shows.image) a) x) → (chain : List Generation)
        → IsChainOf (facts_by (left_state everyone (said old.list)) (shown old.store.dirty shows.image) a) x catalog_name
        key (versions.speaker catalog_name key) chain → (chain ≡ []) ⊎ IsErasedForAll o h chain)) same.1
        (subst (λ (l : Layout). ((versions : HaveVersions o h (facts_by (left_state everyone (said old.list))
        (shown old.store.dirty shows.image) l) shows.stands.shows.reading) → (chain : List Generation)
        → IsChainOf (facts_by (left_state everyone (said old.list)) (shown old.store.dirty shows.image) l)
        shows.stands.shows.reading catalog_name key (versions.speaker catalog_name key) chain
        → (chain ≡ []) ⊎ IsErasedForAll o h chain)) same.0 its)
      where
        its : (versions : HaveVersions o h (facts_by (left_state everyone (said old.list))
            (shown old.store.dirty shows.image) shows.stands.shows.layout) shows.stands.shows.reading)
            → (chain : List Generation)
            → IsChainOf (facts_by (left_state everyone (said old.list)) (shown old.store.dirty shows.image)
            shows.stands.shows.layout) shows.stands.shows.reading catalog_name key (versions.speaker catalog_name key) chain
            → (chain ≡ []) ⊎ IsErasedForAll o h chain
        its versions chain is = (speakers old.store.geometry.size o h s (shown old.store.dirty shows.image)
            (record {
              memory = shows.stands.memory;
              shows = record {
                layout = shows.stands.shows.layout;
                reading = shows.stands.shows.reading;
                sound = shows.stands.shows.sound;
                next = shows.stands.shows.next;
                versions = versions;
                tables = shows.stands.shows.tables;
                found = shows.stands.shows.found;
                bare = shows.stands.shows.bare;
              };
            }) old.catalog key None catalog_there spoken).1 chain
            (subst (λ (n : List ℕ). IsChainOf (facts_by (left_state everyone (said old.list))
            (shown old.store.dirty shows.image) shows.stands.shows.layout) shows.stands.shows.reading n key
            (versions.speaker n key) chain) (sym core.catalog.named) is)

    -- the key was read
    key_silent : (mid read : Core D) (key : Value) → HasRead m old mid t.0 → IsFreeKey m mid read t key
        → IsSilentIn m old o h key
    key_silent mid read key since free image held = subst
        (λ (i : Image). IsSilentOn old.store.geometry.size o h (said old.list) (shown old.store.dirty i) key)
        (sym same) (spoken_silent key (subst (IsSpeaker (said old.list) old.live (shown old.store.dirty shows.image)
        old.catalog key) free.none at_key.spoken))
      where
        same : image ≡ shows.image
        same = let both : Some image ≡ Some shows.image = sym held ∙ shows.held in cc

        at_key : IsRowAt (said old.list) old.live t (shown old.store.dirty shows.image) old.catalog key free.found
        at_key = told_before m old mid t.0 since
            (λ (c : Core D) (view : Pages). IsOfKey c t c.catalog key free.found view) free.reads.told shows.image
            (record { told = stands.tells; held = shows.held })

    keys_silent : (keys : List Value) (mid free : Core D) → HasRead m old mid t.0 → AreFreeKeys m t keys mid free
        → EachKey (IsSilentIn m old o h) keys
    keys_silent keys mid free since (free_none same) = tt
    keys_silent keys mid free since (free_more key later from looked to its more) = (
      key_silent mid looked key since its,
      keys_silent later looked free (key_since mid looked mid.catalog key its.found since its.reads) more,
    )

  -- ---- the call may go on

  module _ (name : List ℕ) (shape : Shape) (free : Core D) (may : MayBeMade m old free t name shape) where
    pub online : old.store.offline ≡ None
    online = may.has_begun.continues.0

    pub began : HasRead m old may.begun t.0
    began = begun_since may.begun may.wait may.has_begun

    pub since : HasRead m old free t.0
    since = keys_since (keys_made old.catalog.shape name shape) may.begun free began may.are_free

    pub all_silent : (o : Opening) (h : Entries) → StandsFor m old o h
        → EachKey (IsSilentIn m old o h) (keys_made old.catalog.shape name shape)
    all_silent o h stands = keys_silent online o h stands (keys_made old.catalog.shape name shape) may.begun free began
        may.are_free

-- ---- the catalog gets pages

module _ {D P : Type 0} (m : Meaning D) (places : Places P) (begin : OpeningsBegin)
    (last : ReadsLast D FireLinks m packed_form) (grow : GrowthsStay D m) (old : Core D) (t : TxNo)
    (active : said old.list t.0 ≡ Active) where
  -- pages were only read
  pub read_come : (store now : Pool D FireLinks) → HasCome m places old store t.0 → KeepsStore m store now
      → HasCome m places old now t.0
  read_come store now come keeps = record {
    so = so_then m places old (record old { store = store }) (record old { store = now }) t.0 come.so
        (reads_so m places begin last (record old { store = store }) now old.damage old.shortages t.0 keeps);
    up = keeps.offline ∙ come.up;
    pool = keeps.pool;
    geometry = subst IsGeometry (sym keeps.geometry) come.geometry;
    silent = λ o h stands key silent. silent_read m (record old { store = store }) now keeps o h key
        (come.silent o h stands key silent);
  }

  -- the catalog got one
  grown_come : (store now : Pool D FireLinks) → HasCome m places old store t.0
      → Grows m store now old.catalog.pointer.0 → HasCome m places old now t.0
  grown_come store now come grows = record {
    so = so_then m places old (record old { store = store }) (record old { store = now }) t.0 come.so
        (over_so m places (record old { store = store }) now t.0 come.up (own_on m store now _ grows)
        (λ o h stands. (grow (record old { store = store }) now t o h come.pool come.geometry come.up active grows
        stands).0));
    up = grows.changed.online.1;
    pool = grows.changed.pool;
    geometry = subst IsGeometry (sym (grows.changed.geometry ∙ grows.keeps.geometry)) come.geometry;
    silent = λ o h stands key silent. (grow (record old { store = store }) now t o h come.pool come.geometry come.up
        active grows (come.so.stands o h stands)).1 key (come.silent o h stands key silent);
  }

  module _ (name : List ℕ) (shape : Shape) where
    pub all_come : (count : ℕ) (store now : Pool D FireLinks) → HasCome m places old store t.0
        → GrowsAsWanted m old.catalog t.0 name shape count store now → HasCome m places old now t.0
    all_come count store now come (has_enough same) = come
    all_come count store now come (gets_one n first mid last_ more gets) =
        let before : HasCome m places old mid t.0 = all_come n store mid come more in
        grown_come gets.ready now (read_come mid gets.ready before gets.wants.keeps) gets.grows

  -- from the beginning
  pub come_self : IsPool m old.store → IsGeometry old.store.geometry → old.store.offline ≡ None
      → HasCome m places old old.store t.0
  come_self pool geometry up = record {
    so = reads_so m places begin last old old.store old.damage old.shortages t.0 (keeps_itself m old.store pool);
    up = up;
    pool = pool;
    geometry = geometry;
    silent = λ o h stands key silent. silent;
  }
