-- A record is collected at a place without damage, by an engine that stands for a history.
use Rattle.std.proofs.Common.{◌≡◌, ◌≢◌, ◌∙◌, inl, inr, refl, sym, ap, subst, ℕ, Bool, true, List, [], ◌∷◌, Option, None, Some, Ok, Err}
use Rattle.mg_base.specs.Disk.{Meaning}
use Rattle.mg_base.specs.Image.{Image}
use Rattle.mg_base.specs.declared.damage.Damaged.{Damaged}
use Rattle.mg_base.specs.declared.geometry.Geometry.{Geometry}
use Rattle.mg_base.specs.declared.numbers.RecId.{RecId}
use Rattle.mg_base.specs.declared.transaction.TxState.{TxState}
use Rattle.mg_base.specs.declared.transaction.TxState.TheVariants.{Active}
use Rattle.mg_chain.specs.Chains.{newest_link, starts}
use Rattle.mg_chain.specs.Dropping.{RefusesDrop, drop_leads, drop_newer, drop_older, lead_frees, lead_memory, lead_puts}
use Rattle.mg_chain.specs.Refusals.{IsChainDamage, primary, version}
use Rattle.mg_chain.specs.WritingRefusals.{RefusesBackOut, RefusesSwing, back_newest, back_takes, out_memory, out_reaches, out_swings, swing_frees, swing_turns}
use Rattle.mg_collecting.specs.Steps.{FailsStep, Steps, not_dropped, not_read, not_taken_out}
use Rattle.mg_core.specs.Cores.{IsCore}
use Rattle.mg_core.specs.Refusing.{CountsFault}
use Rattle.mg_core.specs.declared.parts.Core.{Core}
use Rattle.mg_core_collecting.specs.Places.{FailsSettled, IsSettled, RefusesLook, not_collected, not_looked, not_told}
use Rattle.mg_engine_change_laws.specs.rows.Plain.{WritesKeepPlain}
use Rattle.mg_engine_collecting_laws.specs.CoreStays.{HasInNamed, shows_then}
use Rattle.mg_engine_collecting_laws.specs.PlaceNamed.{core_behind, named_behind, record_there}
use Rattle.mg_engine_collecting_laws.specs.RunStays.{steps_on}
use Rattle.mg_engine_collecting_laws.specs.StepStays.{StepStays}
use Rattle.mg_engine_meaning_laws.specs.Meaning.{Places}
use Rattle.mg_engine_meaning_laws.specs.ReadLaws.{reads_stand}
use Rattle.mg_engine_meaning_laws.specs.Standings.{ShowsIt, StandsFor, asked_in, sessions_in, standing_of}
use Rattle.mg_engine_meaning_laws.specs.StepLaws.{shows_of}
use Rattle.mg_engine_step_laws.specs.writes.Batches.{ReadsLast, RowsLastStill}
use Rattle.mg_engine_step_laws.specs.commits.ListShows.{ListsStay, TipsStayOn}
use Rattle.mg_engine_step_laws.specs.standing.Standing.{ShowsHistory, Standing}
use Rattle.mg_generation_laws.specs.Laws.{CoveredMayGo, ErasedMayGo}
use Rattle.mg_heap.specs.Listed.{IsRecordOf, RefusesRecordOf}
use Rattle.mg_heap.specs.Stands.{TablesAreWalked}
use Rattle.mg_heap.specs.Walk.{RefusesWalk}
use Rattle.mg_image.specs.Form.{Pages, packed_coding, packed_form}
use Rattle.mg_image.specs.ReadingLaws.{Opens, RowsAreOne, chain_opens}
use Rattle.mg_image.specs.Records.{Chain, Reading, cells_of}
use Rattle.mg_image.specs.Sound.{IsSoundBy, facts_by}
use Rattle.mg_image.specs.Tables.{Layout, stands_of, table_at}
use Rattle.mg_image.specs.declared.entry.Entry.{Entry}
use Rattle.mg_image_overlay_laws.specs.tables.Growing.{IsTableOf}
use Rattle.mg_image_overlay_laws.specs.tables.OneLayout.{StandsOneWay}
use Rattle.mg_image_overlay_laws.specs.tables.OneTable.{stands_in}
use Rattle.mg_lasting_laws.specs.PoolLaws.{HoldsOne}
use Rattle.mg_model.specs.History.{Entries}
use Rattle.mg_model.specs.Laws.{OpeningsBegin}
use Rattle.mg_model.specs.Openings.{everyone}
use Rattle.mg_model.specs.declared.opening.Opening.{Opening}
use Rattle.mg_model.specs.declared.refusal.Refusal.TheVariants.{DatabaseFull}
use Rattle.mg_model.specs.declared.table.Table.{Table}
use Rattle.mg_no_damage_laws.specs.Batches.{VersionsAreTakenOut}
use Rattle.mg_no_damage_laws.specs.CoreSpendingLaws.{refused_by, told_full}
use Rattle.mg_no_damage_laws.specs.OwnLaws.{own}
use Rattle.mg_no_damage_laws.specs.Reading.{Reads}
use Rattle.mg_no_damage_laws.specs.Records.{ChainsAreWhole, VersionsAreThere}
use Rattle.mg_no_damage_laws.specs.Sees.{StandsOn, no_batch}
use Rattle.mg_no_damage_laws.specs.Sound.{SoundRecordsAreLawful, SoundTablesStand}
use Rattle.mg_no_damage_laws.specs.StageLaws.{own_there}
use Rattle.mg_no_damage_laws.specs.Tables.{WalksAreWhole}
use Rattle.mg_no_damage_laws.specs.Writes.{IsRecordOf as IsRecordRead}
use Rattle.mg_overlay_laws.specs.Overlays.{left_state}
use Rattle.mg_pool.specs.Batch.{Changed}
use Rattle.mg_pool.specs.Pool.{shown}
use Rattle.mg_pool.specs.declared.fault.PoolFault.TheVariants as pool_faults
use Rattle.mg_pool.specs.declared.pool.Pool.{Pool}
use Rattle.mg_batches.specs.Batches.{FailsOwn, not_changed, not_filled, nothing_yet}
use Rattle.mg_space.specs.Taking.{IsGeometry}
use Rattle.mg_space.specs.View.{KeepsStore, Tells}
use Rattle.mg_space.specs.ViewLaws.{tells_on}
use Rattle.mg_space.specs.declared.fault.SpaceFault.{SpaceFault}
use Rattle.mg_space.specs.declared.fault.SpaceFault.TheVariants as faults
use Rattle.mg_space.specs.declared.links.FireLinks.{FireLinks}
use Rattle.mg_txlist.specs.TxList.{said}
use Rattle.mg_version.specs.declared.cell.Link.{Link}
use Rattle.mg_works.specs.Works.{given_to}
use Rattle.mg_collecting_damage_laws.specs.Undamaged.{CollectionsMeetNone, CollectionsMissNone}
use Rattle.mg_collecting_damage_laws.proofs.DropLemmas.{drop_filled, drop_lawful, lawful_now, shown_now}

-- what is counted of a fault that tells no damage
pub not_counted : (fault : SpaceFault) (damage now shortages later : ℕ) → ((it : Damaged) → fault ≢ faults.Damaged it)
    → ((n : ℕ) → fault ≢ faults.Pool (pool_faults.Absent n)) → CountsFault fault damage now shortages later
    → now ≡ damage
not_counted (faults.Full limit) damage now shortages later none there counts = counts.0
not_counted (faults.Damaged it) damage now shortages later none there counts = absurd (none it refl)
not_counted (faults.Pool (pool_faults.DiskRead n)) damage now shortages later none there counts = counts.0
not_counted (faults.Pool (pool_faults.DiskWrite n)) damage now shortages later none there counts = counts.0
not_counted (faults.Pool (pool_faults.Offline n)) damage now shortages later none there counts = counts.0
not_counted (faults.Pool (pool_faults.Absent n)) damage now shortages later none there counts = absurd (there n refl)
not_counted (faults.Pool pool_faults.Memory) damage now shortages later none there counts = counts.0

-- the laws on what is read and what is filled
pub record PlaceParts {D : Type 0} (m : Meaning D) : Type 0 where
  pub one : RowsAreOne packed_coding
  pub one_way : StandsOneWay packed_form
  pub on : TipsStayOn
  pub lists : ListsStay
  pub keep_plain : WritesKeepPlain
  pub covered : CoveredMayGo
  pub erased : ErasedMayGo
  pub begins : OpeningsBegin
  pub walked : TablesAreWalked
  pub last : RowsLastStill D FireLinks m packed_form
  pub reads_last : ReadsLast D FireLinks m packed_form
  pub holds : HoldsOne D m
  pub records : SoundRecordsAreLawful
  pub tables_stand : SoundTablesStand
  pub whole : WalksAreWhole m
  pub versions : VersionsAreThere m
  pub chains : ChainsAreWhole m
  pub out : VersionsAreTakenOut m
  pub reads : Reads m

-- no walk is asked about here
abbrev nowhere : Places (Unit {0})
nowhere = record {
  rec = λ place. record { page = record { 0 = 0 }; slot = 0 };
  sequence = λ place. 0;
  rank = λ place. 0;
}

-- ---- over a sound image

module _ {D : Type 0} (m : Meaning D) (laws : PlaceParts m) (image : Image) (state : ℕ → TxState) (layout : Layout)
    (r : Reading) (a : Pool D FireLinks) (tells : Tells m a.disk image) (geometry : IsGeometry a.geometry)
    (sound : IsSoundBy packed_form a.geometry.size state (shown a.dirty image) layout r) where
  abbrev pages : Pages
  pages = shown a.dirty image

  -- ---- whether a slot is a record of a table

  module _ (table : Table) (its : IsTableOf layout table) where
    pub record_told : (n : Pool D FireLinks) → KeepsStore m a n → (rec : RecId) (it : Damaged)
        → RefusesRecordOf m n [] pages table.pointer.0 rec (faults.Damaged it) → ⊥
    record_told n keeps rec it (is, broken) = laws.whole n image no_batch (facts_by state (shown n.dirty image) layout) r
        its.stand table (record {
          sees = lawful_now m a n image keeps laws.records tells state layout r sound;
          stands = shown_now m a n image keeps
              (λ ps. StandsOn n.geometry.size ps (facts_by state ps layout) its.stand table)
              (subst (λ (g : Geometry). StandsOn g.size pages (facts_by state pages layout) its.stand table)
              (sym keeps.geometry) (laws.tables_stand a.geometry.size state pages layout r sound table table its
              (record { name = refl; shape = refl; pointer = refl })));
        }) it (shown_now m a n image keeps
        (λ ps. RefusesWalk m n [] ps table.pointer.0 (faults.Damaged it)) (inl (record {
          pointers = broken.pointers;
          page = broken.page;
          leads = broken.leads;
          some = broken.some;
          refused = broken.refused;
        })))

  -- ---- its versions

  module _ (rec : RecId) (table : Table) (of : table_at (stands_of layout) rec.page.0 ≡ Some table) where
    chain_read : (n : Pool D FireLinks) → KeepsStore m a n → (it : Damaged) → IsChainDamage m n [] pages rec it → ⊥
    chain_read n keeps it damaged = laws.chains n image no_batch (facts_by state (shown n.dirty image) layout) r
        (lawful_now m a n image keeps laws.records tells state layout r sound) rec table of it
        (shown_now m a n image keeps (λ ps. IsChainDamage m n [] ps rec it) damaged)

    pub looked : (n : Pool D FireLinks) → KeepsStore m a n → (it : Damaged)
        → RefusesLook m n pages rec (faults.Damaged it) → ⊥
    looked n keeps it (inl refused) = chain_read n keeps it (primary it refused)
    looked n keeps it (inr (link, leads, refused)) =
        chain_read n keeps it (version 0 rec.page.0 link it (starts link leads) refused)

    -- a slot that leads to a version is a record's
    its_record : (link : Link) → newest_link pages rec ≡ Some link → IsRecordRead layout r rec table
    its_record link leads = by (r rec) refl (chain_opens (cells_of pages) (Some link) (r rec)
        (subst (λ (l : Option Link). Chain (cells_of pages) l (r rec)) leads (sound.records.reads rec table of)))
      where
        by : (es : List Entry) → r rec ≡ es → Opens (cells_of pages) (Some link) es → IsRecordRead layout r rec table
        by [] are opens = absurd opens
        by (e ∷ es) are opens = record { of = of; newest = e; older = es; are = are }

    pub step_made : (n : Pool D FireLinks) (it : Damaged) → FailsStep m rec a n (faults.Damaged it) → ⊥
    step_made n it (not_read fails) = chain_read n fails.keeps it (fails.why image tells)
    step_made n it (not_dropped holder newer followed fails) = own m a n _ _ it image tells
        (λ keeps refused. drop_filled m laws.reads laws.versions laws.records image state layout r rec table of a n tells
        keeps sound holder.0 newer (followed image tells) it refused)
        (λ batch filled. drop_lawful a image batch newer filled.0 filled.1) fails
    step_made n it (not_taken_out link leads fails) = laws.out a n image state layout r
        (record { tells = tells; geometry = geometry; sound = sound }) rec table (its_record link (leads image tells)) it
        fails

-- a page that was to be read is not one that is absent
pub step_there : {D : Type 0} (m : Meaning D) (rec : RecId) (a n : Pool D FireLinks) (k : ℕ)
    → FailsStep m rec a n (faults.Pool (pool_faults.Absent k)) → ⊥
step_there m rec a n k (not_read fails) = absurd fails.own
step_there m rec a n k (not_dropped holder newer followed fails) = own_there m a n _ _ k fails
step_there m rec a n k (not_taken_out link leads fails) = own_there m a n _ _ k fails

-- nor is one told to be wanting: a version is dropped in place, and another one taken out
drop_full : {D : Type 0} (m : Meaning D) (old new : Pool D FireLinks) (image : Image) (batch : Changed) (holder : ℕ)
    (newer : Link) (limit : ℕ) → RefusesDrop m old new image batch holder newer (faults.Full limit) → ⊥
drop_full m old new image batch holder newer limit (drop_newer refused) = absurd refused
drop_full m old new image batch holder newer limit (drop_older v gone meets back refused) = absurd refused
drop_full m old new image batch holder newer limit (drop_leads v older gone ready meets back behind keeps
    (lead_memory is)) = absurd cc
drop_full m old new image batch holder newer limit (drop_leads v older gone ready meets back behind keeps
    (lead_puts refused)) = absurd refused
drop_full m old new image batch holder newer limit (drop_leads v older gone ready meets back behind keeps
    (lead_frees put puts refused)) = absurd refused

swing_full : {D : Type 0} (m : Meaning D) (old new : Pool D FireLinks) (image : Image) (batch : Changed) (rec left : RecId)
    (to : Option Link) (limit : ℕ) → RefusesSwing m old new image batch rec left to (faults.Full limit) → ⊥
swing_full m old new image batch rec left to limit (swing_turns refused) = absurd refused
swing_full m old new image batch rec left to limit (swing_frees turned turns refused) = absurd refused

out_full : {D : Type 0} (m : Meaning D) (old new : Pool D FireLinks) (image : Image) (batch : Changed) (rec : RecId)
    (limit : ℕ) → RefusesBackOut m old new image batch rec (faults.Full limit) → ⊥
out_full m old new image batch rec limit (back_newest refused) = absurd refused
out_full m old new image batch rec limit (back_takes newest owner was ready has keeps (out_memory is)) = absurd cc
out_full m old new image batch rec limit (back_takes newest owner was ready has keeps (out_reaches refused)) =
    absurd refused
out_full m old new image batch rec limit (back_takes newest owner was ready has keeps (out_swings mid kept refused)) =
    swing_full m mid new image batch rec newest.rec was.back limit refused

own_full : {D : Type 0} (m : Meaning D) (a n : Pool D FireLinks) (fills : Image → Changed → Type 0)
    (refuses : Image → SpaceFault → Type 0) (image : Image) (limit : ℕ) → Tells m a.disk image
    → (refuses image (faults.Full limit) → ⊥) → FailsOwn m a n fills refuses (faults.Full limit) → ⊥
own_full m a n fills refuses image limit tells none (not_filled keeps alone told why) = none (why image tells)
own_full m a n fills refuses image limit tells none (not_changed batch ready keeps online filled fails) = absurd fails

pub step_full : {D : Type 0} (m : Meaning D) (rec : RecId) (a n : Pool D FireLinks) (image : Image) (limit : ℕ)
    → Tells m a.disk image → FailsStep m rec a n (faults.Full limit) → ⊥
step_full m rec a n image limit tells (not_read fails) = absurd fails.own
step_full m rec a n image limit tells (not_dropped holder newer followed fails) = own_full m a n _ _ image limit tells
    (λ refused. drop_full m a n image nothing_yet holder.0 newer limit refused) fails
step_full m rec a n image limit tells (not_taken_out link leads fails) = own_full m a n _ _ image limit tells
    (λ refused. out_full m a n image nothing_yet rec limit refused) fails

-- ---- the engine

module _ {D : Type 0} (m : Meaning D) (laws : PlaceParts m) (old : Core D) (core : IsCore m old) (t : ℕ)
    (table : Table) (rec : RecId) (given : given_to old.works t table.name ≡ Some table)
    (up : old.store.offline ≡ None) (active : said old.list t ≡ Active) (o : Opening) (h : Entries)
    (stands : StandsFor m old o h) where
  abbrev s : Standing
  s = standing_of old stands.numbers stands.tables

  abbrev shows : ShowsIt m old o h (standing_of old stands.numbers stands.tables)
  shows = shows_of m old o h stands up

  abbrev state : ℕ → TxState
  state = left_state everyone (said old.list)

  abbrev was : Pages
  was = shown old.store.dirty (shows_of m old o h stands up).image

  abbrev history : ShowsHistory packed_form old.store.geometry.size o h
      (standing_of old stands.numbers stands.tables)
      (shown old.store.dirty (shows_of m old o h stands up).image)
  history = (shows_of m old o h stands up).stands.shows

  tells : Tells m old.store.disk shows.image
  tells = record { told = stands.tells; held = shows.held }

  of_table : IsTableOf history.layout table
  of_table = stands_in history.layout table (inr ((history.tables t active).seen table.name table
      (stands.given t table.name table given)))

  placed : IsRecordOf was table.pointer.0 rec → table_at (stands_of history.layout) rec.page.0 ≡ Some table
  placed is = record_there laws.walked m old core up t table rec given o h stands is

  -- ---- behind steps

  module _ (ready : Pool D FireLinks) (keeps : KeepsStore m old.store ready)
      (is_record : (image : Image) → Tells m old.store.disk image
      → IsRecordOf (shown old.store.dirty image) table.pointer.0 rec)
      (settled : (image : Image) → Tells m old.store.disk image
      → IsSettled (shown old.store.dirty image) (said old.list) rec) (some : Bool) (now : Pool D FireLinks)
      (steps : Steps m (said old.list) old.live rec ready some now) where
    abbrev mid : Core D
    mid = record old { store = ready }

    mid_up : ready.offline ≡ None
    mid_up = keeps.offline ∙ up

    stands_mid : StandsFor m (record old { store = ready }) o h
    stands_mid = reads_stand m nowhere laws.begins laws.reads_last old ready keeps old.damage old.shortages o h stands

    named : HasInNamed m (record old { store = ready }) (keeps.offline ∙ up) rec
    named = named_behind m old core ready keeps laws.walked up t table rec given is_record settled

    abbrev then_ : StepStays m o h (standing_of mid stands_mid.numbers stands_mid.tables) mid.list ready now
        (shown ready.dirty (shows_of m mid o h stands_mid (keeps.offline ∙ up)).image) (asked_in mid.works)
        (sessions_in mid.works) rec (named o h stands_mid).0
    then_ = shows_then laws.one laws.one_way laws.on laws.lists laws.keep_plain laws.covered laws.erased laws.begins m
        laws.last laws.reads_last laws.holds mid (core_behind m old core ready keeps) (keeps.offline ∙ up) rec named some
        now steps o h stands_mid

    told : m.tells now.disk ≡ true
    told = (steps_on m (said old.list) old.live rec ready mid_up some now steps).goes.time.tells
        ∙ (keeps.disk.tells ∙ stands.tells)

    geometry_now : IsGeometry now.geometry
    geometry_now = subst IsGeometry
        (sym ((steps_on m (said old.list) old.live rec ready mid_up some now steps).goes.geometry ∙ keeps.geometry))
        core.geometry

    pub none_behind : (after : Pool D FireLinks) (it : Damaged) → FailsStep m rec now after (faults.Damaged it) → ⊥
    none_behind after it fails = step_made m laws then_.image state then_.shows.stands.shows.layout
        then_.shows.stands.shows.reading now (record { told = told; held = then_.held }) geometry_now
        then_.shows.stands.shows.sound rec (named o h stands_mid).0 then_.shows.here.of after it fails

    pub none_full : (after : Pool D FireLinks) (limit : ℕ) → FailsStep m rec now after (faults.Full limit) → ⊥
    none_full after limit fails =
        step_full m rec now after then_.image limit (record { told = told; held = then_.held }) fails

  -- ---- the call

  pub no_damage : (store : Pool D FireLinks) (it : Damaged)
      → FailsSettled m old.store store (said old.list) old.live table rec (faults.Damaged it) → ⊥
  no_damage store it (not_told fails) = record_told m laws shows.image state history.layout history.reading old.store
      tells core.geometry history.sound table of_table store fails.keeps rec it (fails.why shows.image tells)
  no_damage store it (not_looked ready keeps online is_record fails) = looked m laws shows.image state history.layout
      history.reading ready (tells_on m old.store ready shows.image keeps tells)
      (subst IsGeometry (sym keeps.geometry) core.geometry)
      (subst (λ (g : Geometry). IsSoundBy packed_form g.size state (shown ready.dirty shows.image) history.layout
      history.reading) (sym keeps.geometry) (shown_now m old.store ready shows.image keeps
      (λ ps. IsSoundBy packed_form old.store.geometry.size state ps history.layout history.reading) history.sound)) rec
      table (placed (is_record shows.image tells)) store fails.keeps it
      (fails.why shows.image (tells_on m old.store ready shows.image keeps tells))
  no_damage store it (not_collected ready keeps online is_record settled fails) = none_behind ready keeps is_record
      settled fails.some fails.now fails.steps store it fails.fails

  pub none_absent : (store : Pool D FireLinks) (k : ℕ)
      → FailsSettled m old.store store (said old.list) old.live table rec (faults.Pool (pool_faults.Absent k)) → ⊥
  none_absent store k (not_told fails) = absurd fails.own
  none_absent store k (not_looked ready keeps online is_record fails) = absurd fails.own
  none_absent store k (not_collected ready keeps online is_record settled fails) =
      step_there m rec fails.now store k fails.fails

  pub no_want : (store : Pool D FireLinks) (limit : ℕ)
      → FailsSettled m old.store store (said old.list) old.live table rec (faults.Full limit) → ⊥
  no_want store limit (not_told fails) = absurd fails.own
  no_want store limit (not_looked ready keeps online is_record fails) = absurd fails.own
  no_want store limit (not_collected ready keeps online is_record settled fails) = none_full ready keeps is_record settled
      fails.some fails.now fails.steps store limit fails.fails

-- ---- the laws

pub collections_meet_none : (D : Type 0) (m : Meaning D) → PlaceParts m → CollectionsMeetNone D m
collections_meet_none D m laws old new t table rec (Ok gone) core given is o h stands _ =
    ap (λ (c : Core D). c.damage) is.same
collections_meet_none D m laws old new t table rec (Err refusal) core given (inl (refuses, same)) o h stands _ =
    ap (λ (c : Core D). c.damage) same
collections_meet_none D m laws old new t table rec (Err refusal) core given (inr is) o h stands _ =
    not_counted is.fault old.damage new.damage old.shortages new.shortages
    (λ it same. no_damage m laws old core t.0 table rec given is.continues.0 is.continues.1 o h stands new.store it
    (subst (FailsSettled m old.store new.store (said old.list) old.live table rec) same is.fails))
    (λ k same. none_absent m laws old core t.0 table rec given is.continues.0 is.continues.1 o h stands new.store k
    (subst (FailsSettled m old.store new.store (said old.list) old.live table rec) same is.fails)) is.counts

pub collections_miss_none : (D : Type 0) (m : Meaning D) → PlaceParts m → CollectionsMissNone D m
collections_miss_none D m laws old new t table rec (Ok gone) core given is o h stands limit full = absurd cc
collections_miss_none D m laws old new t table rec (Err refusal) core given (inl (refuses, same)) o h stands limit full =
    refused_by old.store.offline (said old.list t.0) refusal refuses limit (named limit full)
  where
    named : (limit : ℕ) → Some refusal ≡ Some (DatabaseFull limit) → refusal ≡ DatabaseFull limit
    named limit same = cc
collections_miss_none D m laws old new t table rec (Err refusal) core given (inr is) o h stands limit full =
    no_want m laws old core t.0 table rec given is.continues.0 is.continues.1 o h stands new.store told.0
    (subst (FailsSettled m old.store new.store (said old.list) old.live table rec) told.1 is.fails)
  where
    named : (limit : ℕ) → Some refusal ≡ Some (DatabaseFull limit) → refusal ≡ DatabaseFull limit
    named limit same = cc

    told : (most : ℕ) × (is.fault ≡ faults.Full most)
    told = told_full is.fault refusal limit is.is (named limit full)
