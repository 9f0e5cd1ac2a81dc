-- A key is taken back without damage: the record that spoke for it at first is found, and its newest version is the
-- transaction's own.
use Rattle.std.proofs.Common.{◌≡◌, ◌≢◌, ◌⊎◌, ◌+◌, ◌++◌, ◌≤◌, length, zero, suc, ap, refl, sym, subst, ◌∙◌, ℕ, Bool, true, false, List, [], ◌∷◌, Option, None, Some}
use Rattle.std.proofs.Math.Path.{fun_ext}
use Rattle.std.proofs.lemmas.Bool.{eqb-true, false≢true, ne_eqb}
use Rattle.std.specs.Prelude.{if◌then◌else◌, map, slice_get}
use Rattle.mg_base.specs.Disk.{Meaning}
use Rattle.mg_base.specs.Image.{Image}
use Rattle.mg_base.specs.declared.damage.Damaged.{Damaged}
use Rattle.mg_base.specs.declared.geometry.Geometry.{Geometry}
use Rattle.mg_base.specs.declared.numbers.PageNo.{PageNo}
use Rattle.mg_base.specs.declared.numbers.RecId.{RecId}
use Rattle.mg_base.specs.declared.numbers.TxNo.{TxNo}
use Rattle.mg_base.specs.declared.transaction.TxState.{TxState}
use Rattle.mg_base.specs.declared.transaction.TxState.TheVariants.{Active, Committed, Dead, Limbo}
use Rattle.mg_chain.specs.Chains.{newest_link}
use Rattle.mg_chain.specs.Refusals.{RefusesChain}
use Rattle.mg_engine_change_laws.specs.keys.Found.{HasNewest}
use Rattle.mg_engine_change_laws.specs.keys.FoundLaws.{changes_are_there}
use Rattle.mg_engine_change_laws.specs.keys.Takings.{KnowsCache}
use Rattle.mg_engine_change_laws.specs.keys.TakingSteps.{StandsMidway}
use Rattle.mg_engine_change_laws.specs.keys.Written.{KeptTablesAreNamed, KeptTablesStand}
use Rattle.mg_engine_change_laws.specs.keys.WrittenLaws.{one_in}
use Rattle.mg_engine_meaning_laws.specs.Formers.{IsOfKind, MayReturn}
use Rattle.mg_engine_meaning_laws.specs.Standings.{KeepsWritten, written_kept}
use Rattle.mg_engine_step_laws.specs.standing.BasedLaws.{tests_all}
use Rattle.mg_engine_step_laws.specs.standing.Known.{IsShown}
use Rattle.mg_engine_step_laws.specs.tables_back.OtherIndexes.{as_other, speaker_on}
use Rattle.mg_engine_step_laws.specs.standing.Standing.{FindsTables, Remembers, ShowsHistory, Standing}
use Rattle.mg_engine_step_laws.specs.tables.TablePages.{data_there, table_there}
use Rattle.mg_engine_step_laws.specs.standing.Versions.{SpeaksFor, told_version}
use Rattle.mg_engine_step_laws.specs.standing.OwnChains.{own_told}
use Rattle.mg_generation_laws.specs.Generations.{is_newest_by}
use Rattle.mg_generation_laws.specs.Kept.{IsErasedForAll, StandFor}
use Rattle.mg_image.specs.Form.{Pages, Row, packed_form}
use Rattle.mg_image.specs.Histories.{newest_at, row_change}
use Rattle.mg_image.specs.RecordRules.{Each, EachBack, Facts, table_in}
use Rattle.mg_image.specs.Records.{Chain, Reading, cells_of, record_key, writer}
use Rattle.mg_image.specs.Sound.{IsSoundBy, facts_by}
use Rattle.mg_image.specs.Tables.{stands_of, table_at}
use Rattle.mg_image.specs.declared.entry.Entry.{Entry as Read}
use Rattle.mg_image_overlay_laws.specs.records.Fronts.{is_dead}
use Rattle.mg_model.specs.Changes.{has_change}
use Rattle.mg_model.specs.History.{Entries, Entry}
use Rattle.mg_model.specs.Machine.{own, state_of}
use Rattle.mg_model.specs.Openings.{everyone}
use Rattle.mg_model.specs.declared.change.Change.{Change}
use Rattle.mg_model.specs.declared.opening.Opening.{Opening}
use Rattle.mg_model.specs.declared.table.Table.{Table}
use Rattle.mg_image_overlay_laws.specs.tables.TableOwners.{IsOneOf}
use Rattle.mg_no_damage_laws.proofs.FitLemmas.{keys_fit, rows_fit, stored_short, write_keys_short}
use Rattle.mg_no_damage_laws.proofs.KeyedLemmas.{tables_are_keyed}
use Rattle.mg_no_damage_laws.proofs.SilentLemmas.{others_silent}
use Rattle.mg_no_damage_laws.specs.Keyed.{IsKeyAt, IsKeyed}
use Rattle.mg_no_damage_laws.specs.Keys.{WaysAreRead}
use Rattle.mg_no_damage_laws.specs.Sees.{no_batch}
use Rattle.mg_no_damage_laws.specs.Sound.{SoundRecordsAreLawful, SoundTablesStand}
use Rattle.mg_no_damage_laws.specs.Tables.{SeesTable, TablesAreRead}
use Rattle.mg_no_damage_laws.specs.Batches.{ShowsSound, VersionsAreReplaced, VersionsAreTakenOut}
use Rattle.mg_no_damage_laws.specs.Writes.{IsRecordOf}
use Rattle.mg_overlay_laws.specs.Overlays.{left_by, left_state}
use Rattle.mg_pool.specs.Batch.{Changed}
use Rattle.mg_pool.specs.Dirty.{DirtyPages}
use Rattle.mg_pool.specs.Pool.{shown}
use Rattle.mg_pool.specs.declared.fault.PoolFault.TheVariants as pool_faults
use Rattle.mg_pool.specs.declared.pool.Pool.{Pool}
use Rattle.mg_pool_overlay_laws.specs.Needs.{Asked, Sessions}
use Rattle.mg_records.specs.Writing.{FitsShape, IsOfColumn}
use Rattle.mg_records.specs.declared.write.Write.{Write}
use Rattle.mg_records.specs.declared.write.Write.TheVariants as writes
use Rattle.mg_row_writes.specs.Storing.{IsStored, MayBeStored}
use Rattle.mg_batches.specs.Batches.{FailsOwn, not_changed, not_filled}
use Rattle.mg_row_writes.specs.Changing.{FailsReplacing, FailsTakingOut}
use Rattle.mg_seek.specs.Histories.{HasSpeaker, SpeakersStand, told_versions, versions_spoken}
use Rattle.mg_seek.specs.Readings.{PlacesOfReadings}
use Rattle.mg_seek.specs.Speaking.{IsSpeaker, RefusesTableRows}
use Rattle.mg_seek.specs.Versions.{wants}
use Rattle.mg_seek.specs.declared.whose.Wanted.TheVariants.{Any, Living}
use Rattle.mg_space.specs.Taking.{IsGeometry}
use Rattle.mg_space.specs.TakingLaws.{page_sizes}
use Rattle.mg_space.specs.View.{KeepsStore}
use Rattle.mg_space.specs.ViewLaws.{tells_on}
use Rattle.mg_space.specs.declared.fault.SpaceFault.{SpaceFault}
use Rattle.mg_space.specs.declared.fault.SpaceFault.TheVariants as faults
use Rattle.mg_space.specs.declared.links.FireLinks.{FireLinks}
use Rattle.mg_image_overlay_laws.specs.tables.OneTable.{one_table, table_at_stands}
use Rattle.mg_taking_back.specs.Formers.{MayComeBack}
use Rattle.mg_engine_change_laws.specs.entries.BackEntries.{HasEnteredBack, KeysEnterMidway}
use Rattle.mg_engine_change_laws.specs.entries.EnteredAllLaws.{no_more}
use Rattle.mg_engine_step_laws.specs.backs.Midway.{GoesBack}
use Rattle.mg_entries.specs.Entries.{FailsAll, FailsEntry, LaysAll, no_index}
use Rattle.mg_entry_tie_laws.specs.IndexPlaces.{HasRoot}
use Rattle.mg_entry_tie_laws.specs.Laws.{InsertionsAreLawful, InsertionsMeetNone}
use Rattle.mg_image.specs.Indexes.{index_entry}
use Rattle.mg_model.specs.Legal.{IsLegal, MayBegin}
use Rattle.mg_model.specs.declared.change.Point.{Point}
use Rattle.mg_model.specs.declared.table.Index.{Index}
use Rattle.mg_no_damage_laws.specs.EntryBacks.{sound_entered, trees_entered}
use Rattle.mg_no_damage_laws.specs.EntryCalls.{TreesStand, entry_meets_none, root_there}
use Rattle.mg_no_damage_laws.specs.Inventory.{PagesAreTaken}
use Rattle.mg_row_writes.specs.Laying.{FailsEnterOwn, KeysMayBeLaid, not_entered, not_put_in}
use Rattle.mg_space.specs.RegionLaws.{sound_regions}
use Rattle.mg_taking_back.specs.Keys.{FailsKey, FailsPuttingBack, IsOwn, IsOwnAt, RefusesOwnAt, former, former_key_long, former_long, former_memory, former_not_put, former_unfit, key_not_put, key_unfit, key_unread, own_nobody, own_other, own_unread, own_unspoken}
use Rattle.mg_undo.specs.declared.changes.Was.{Was}
use Rattle.mg_undo.specs.declared.changes.Was.TheVariants as wases
use Rattle.mg_value.specs.declared.shape.Column.{Column}
use Rattle.mg_value.specs.declared.shape.Shape.{Shape}
use Rattle.mg_value.specs.declared.value.Value.{Value}
use Rattle.mg_version.specs.declared.cell.Version.{Version}
use Rattle.mg_works.specs.Works.{Working, work_of, written_by, written_to}
use Rattle.mg_no_damage_laws.specs.BackKeys.{KeysMeetNoDamage, KeysMissNoPage}

-- ---- a version in front

module _ (state : ℕ → TxState) (t : ℕ) (limbo : state t ≡ Limbo) where
  -- committed versions are not the transaction's
  none_older : (table : Table) (es : List Read) → Each (λ x. state (writer x) ≡ Committed) es
      → is_newest_by t (map (told_version table) es) ≡ false
  none_older table [] each = refl
  none_older table (x ∷ es) each = ne_eqb (writer x) t (λ same.
      let both : Limbo ≡ Committed = sym limbo ∙ (ap state (sym same) ∙ each.0) in absurd cc)

  -- so where the newest one that counts is its own, that is the newest of all
  pub own_first : (table : Table) (es : List Read) → EachBack (λ x. state (writer x) ≡ Committed) es
      → is_newest_by t (told_versions state table es) ≡ true
      → (d : Read) × (ds : List Read) × (es ≡ d ∷ ds) × (writer d ≡ t)
  own_first table [] backs is = absurd (false≢true is)
  own_first table (d ∷ ds) backs is = at (is_dead (state (writer d))) is
    where
      at : (b : Bool) → is_newest_by t (map (told_version table) (if b then ds else d ∷ ds)) ≡ true
          → (x : Read) × (xs : List Read) × (d ∷ ds ≡ x ∷ xs) × (writer x ≡ t)
      at true is_ = absurd (false≢true (sym (none_older table ds backs) ∙ is_))
      at false is_ = (d, ds, refl, eqb-true (writer d) t is_)

same_number : (a b : TxNo) → a.0 ≡ b.0 → a ≡ b
same_number a b same = λ k. record { 0 = same k }

-- who counts as in limbo is dead exactly where he was
pub left_dead : (x : TxState) → is_dead (left_by true x) ≡ is_dead x
left_dead Active = refl
left_dead Limbo = refl
left_dead Dead = refl
left_dead Committed = refl

-- ---- no page is wanting

pub own_missing : {D : Type 0} (m : Meaning D) (a b : Pool D FireLinks) (fills : Image → Changed → Type 0)
    (refuses : Image → SpaceFault → Type 0) (n : ℕ)
    → FailsOwn m a b fills refuses (faults.Pool (pool_faults.Absent n)) → ⊥
own_missing m a b fills refuses n (not_filled keeps alone told why) = alone
own_missing m a b fills refuses n (not_changed batch ready keeps online filled fails) = fails.left

-- where entries come first
then_missing : {D : Type 0} (m : Meaning D) (a b : Pool D FireLinks) (table : Table) (rec : RecId) (v : Version)
    (write : Write) (n : ℕ) → FailsEnterOwn m a b table rec write v (faults.Pool (pool_faults.Absent n)) → ⊥
then_missing m a b table rec v (writes.Insert row) n (not_entered fails) =
    own_missing m fails.mid b _ _ n fails.refused
then_missing m a b table rec v (writes.Change key row) n (not_entered fails) =
    own_missing m fails.mid b _ _ n fails.refused
then_missing m a b table rec v (writes.Erase key) n (not_entered never) = never
then_missing m a b table rec v write n (not_put_in entered enters fails) = own_missing m entered b _ _ n fails

putting_missing : {D : Type 0} (m : Meaning D) (a b : Pool D FireLinks) (t : ℕ) (table : Table) (rec : RecId)
    (write : Option Write) (n : ℕ)
    → FailsPuttingBack m a b t table rec write (faults.Pool (pool_faults.Absent n)) → ⊥
putting_missing m a b t table rec None n fails = own_missing m a b _ _ n fails
putting_missing m a b t table rec (Some write) n (former_unfit not_ is same) = absurd cc
putting_missing m a b t table rec (Some write) n (former_memory is same) = absurd cc
putting_missing m a b t table rec (Some write) n (former_long v stored not_ is same) = absurd cc
putting_missing m a b t table rec (Some write) n (former_key_long not_ is same) = absurd cc
putting_missing m a b t table rec (Some write) n (former_not_put v stored may short fails) =
    then_missing m a b table rec v write n fails

pub keys_miss_no_page : {D : Type 0} (m : Meaning D) → KeysMissNoPage D m
keys_miss_no_page m before after state live t table key was n (key_unfit not_ is same) = absurd cc
keys_miss_no_page m before after state live t table key was n (key_unread keeps reads told why) = reads
keys_miss_no_page m before after state live t table key was n (key_not_put rec ready keeps online own_ fails) =
    putting_missing m ready after t table rec (former key was) n fails

-- ---- what may come back

-- a table that is found for its first page is one that is kept
kept_one : (work : Option Working) (number : ℕ) (table : Table) → written_by work number ≡ Some table
    → IsOneOf (written_kept work) table
kept_one None number table is = absurd cc
kept_one (Some w) number table is = one_in w.written number table is

may_come : (shape : Shape) (key : Value) (was : Was) → MayReturn shape key was → MayComeBack shape key was
may_come shape key wases.Untouched returns = tt
may_come shape key wases.Deleted returns = tt
may_come shape key (wases.Row row) returns = returns.0

-- a column that never is NULL is one
key_column : (columns : List Column) (at : ℕ) (key : Value) → IsKeyAt columns at → IsOfKind (slice_get columns at) key
    → IsOfColumn (slice_get columns at) key
key_column [] at key is of = absurd is
key_column (c ∷ cs) zero key is of = of
key_column (c ∷ cs) (suc at) key is of = key_column cs at key is.1 of

former_fits : (shape : Shape) (key : Value) (was : Was) → IsKeyed shape → MayReturn shape key was → (write : Write)
    → former key was ≡ Some write → FitsShape shape write
former_fits shape key wases.Untouched keyed returns write is = absurd cc
former_fits shape key wases.Deleted keyed returns write is =
    let same : writes.Erase key ≡ write = cc in
    subst (FitsShape shape) same (key_column shape.columns shape.key key keyed returns)
former_fits shape key (wases.Row row) keyed returns write is =
    let same : writes.Insert row ≡ write = cc in subst (FitsShape shape) same returns.1

-- ---- a key

-- What is known of insertions: an entry meets no damage where the page inventory has none.
pub record EntriesMeetNone : Type 0 where
  pub lawful : InsertionsAreLawful
  pub none : InsertionsMeetNone
  pub taken : PagesAreTaken

module _ {D : Type 0} (m : Meaning D) (stand : KeptTablesStand) (named : KeptTablesAreNamed) (speak : SpeakersStand)
    (places : PlacesOfReadings) (lawful_of : SoundRecordsAreLawful) (tables_stand : SoundTablesStand)
    (read : TablesAreRead m) (ways : WaysAreRead m) (out : VersionsAreTakenOut m) (replaced : VersionsAreReplaced m)
    (enter : KeysEnterMidway D m) (entries : EntriesMeetNone)
    (size : ℕ) (o : Opening) (h : Entries) (e : Entry) (t : ℕ) (whole left : List Change) (s : Standing)
    (start before after : Pool D FireLinks) (begun : Pages) (first : ShowsHistory packed_form size o h s begun)
    (i : Image) (asked : Asked) (session : Sessions)
    (midway : StandsMidway m size o h e t whole left s start before begun first i asked session) (point : Point)
    (opening : MayBegin o) (legal : IsLegal o h) (memory : Remembers o h s) (goes : GoesBack o h e point s asked t)
    (catalog : ℕ) (works : List Working)
    (keeps : KeepsWritten catalog works s.table) (knows : KnowsCache m size s before i) (c : Change)
    (to_take : has_change left c.table c.key ≡ true) (changed : has_change (own o h t) c.table c.key ≡ true)
    (table : Table) (kept : written_to works t (s.number t c.table) ≡ Some table) where
  abbrev f : Facts
  f = facts_by (left_state everyone s.state) (shown before.dirty i) midway.pages.layout

  abbrev f0 : Facts
  f0 = facts_by (left_state everyone s.state) begun first.layout

  abbrev r : Reading
  r = midway.pages.reading

  active : s.state t ≡ Active
  active = goes.active

  active_told : state_of o h t ≡ Active
  active_told = sym (memory.state t) ∙ active

  in_limbo : left_state everyone s.state t ≡ Limbo
  in_limbo = ap (λ (x : TxState). left_by true x) active

  -- ---- the table

  finds_it : FindsTables o h s midway.pages.layout t
  finds_it = midway.pages.tables t active

  there : IsShown midway.pages.layout table
  there = stand o h s t midway.pages.layout catalog works finds_it keeps (s.number t c.table) table kept

  its_named : there.its.name ≡ c.table
  its_named = there.same.name ∙ named size o h s t (shown before.dirty i) midway.pages.layout midway.pages.reading
      catalog works midway.pages.sound finds_it keeps c.table c.key changed table kept

  changed_its : has_change (own o h t) there.its.name c.key ≡ true
  changed_its = ap (λ (n : List ℕ). has_change (own o h t) n c.key) its_named ∙ changed

  newest : HasNewest left c.table c.key
  newest = changes_are_there left c.table c.key to_take

  newest_its : newest_at left there.its.name c.key ≡ Some (row_change newest.row)
  newest_its = ap (λ (n : List ℕ). newest_at left n c.key) its_named ∙ newest.is_

  -- ---- the record that spoke for the key at first

  record SpokeAtFirst : Type 0 where
    p : RecId
    spoke : first.versions.speaker there.its.name c.key ≡ Some p
    of_its : table_in f p ≡ Some there.its
    keyed : record_key there.its (r p) ≡ c.key
    stands_for : StandFor o h there.its.name c.key (told_versions (left_state everyone s.state) there.its (r p))

  speaker_there : SpokeAtFirst
  speaker_there = at (first.versions.speaker there.its.name c.key) refl
      (first.versions.speaks there.its.name c.key)
    where
      at : (x : Option RecId) → first.versions.speaker there.its.name c.key ≡ x
          → SpeaksFor o h f0 first.reading there.its.name c.key x → SpokeAtFirst
      at None is stand_ = absurd (false≢true (sym (own_told o h t there.its.name c.key [] active_told stand_).has_
          ∙ changed_its))
      at (Some p) is (it, stand_) =
          let now_of : table_at (stands_of midway.pages.layout) p.page.0 ≡ Some it.table =
          midway.pages.stays p it.table it.of_table in
          let same_table : it.table ≡ there.its = one_table packed_form size (left_state everyone s.state)
          (shown before.dirty i) midway.pages.layout midway.pages.reading midway.pages.sound it.table there.its
          (table_at_stands midway.pages.layout p.page.0 it.table now_of) there.stands it.named in
          let same : r p ≡ first.reading p =
          midway.pages.not_yet there.its.name c.key (row_change newest.row) newest_its p is in record {
            p = p;
            spoke = is;
            of_its = now_of ∙ ap Some same_table;
            keyed = ap (record_key there.its) same
                ∙ (ap (λ (x : Table). record_key x (first.reading p)) (sym same_table) ∙ it.keyed);
            stands_for = subst (λ (es : List Read). StandFor o h there.its.name c.key
                (told_versions (left_state everyone s.state) there.its es)) (sym same)
                (subst (λ (x : Table). StandFor o h there.its.name c.key
                (told_versions (left_state everyone s.state) x (first.reading p))) same_table stand_);
          }

  -- its newest version is the transaction's own
  begins : (d : Read) × (ds : List Read) × (r speaker_there.p ≡ d ∷ ds) × (writer d ≡ t)
  begins = own_first (left_state everyone s.state) t in_limbo there.its (r speaker_there.p)
      (midway.pages.sound.records.each speaker_there.p there.its speaker_there.of_its).backs
      (sym (own_told o h t there.its.name c.key (told_versions (left_state everyone s.state) there.its
      (r speaker_there.p)) active_told speaker_there.stands_for).has_ ∙ changed_its)

  -- ---- it is the one that is found

  others : (rec : RecId) → table_in f rec ≡ Some there.its → record_key there.its (r rec) ≡ c.key
      → (told_versions (left_state everyone s.state) there.its (r rec) ≡ [])
      ⊎ IsErasedForAll o h (told_versions (left_state everyone s.state) there.its (r rec))
      ⊎ (Some speaker_there.p ≡ Some rec)
  others = others_silent size o h e t whole left s begun (shown before.dirty i) first midway.pages there.its c.key
      speaker_there.p speaker_there.spoke

  has_speaker : HasSpeaker o h f r there.its c.key (Some speaker_there.p)
  has_speaker = record {
    none = λ is. none_is is;
    some = some_is;
    others = others;
  }
    where
      none_is : Some speaker_there.p ≡ None → StandFor o h there.its.name c.key []
      none_is is = absurd cc

      some_is : (rec : RecId) → Some speaker_there.p ≡ Some rec → (table_in f rec ≡ Some there.its)
          × (record_key there.its (r rec) ≡ c.key)
          × StandFor o h there.its.name c.key (told_versions (left_state everyone s.state) there.its (r rec))
      some_is rec is =
          let same : speaker_there.p ≡ rec = cc in
          subst (λ (x : RecId). (table_in f x ≡ Some there.its) × (record_key there.its (r x) ≡ c.key)
          × StandFor o h there.its.name c.key (told_versions (left_state everyone s.state) there.its (r x))) same
          (speaker_there.of_its, speaker_there.keyed, speaker_there.stands_for)

  is_its : (x : Option RecId) → IsSpeaker s.state s.live (shown before.dirty i) table c.key x
      → IsSpeaker (state_of o h) s.live (shown before.dirty i) there.its c.key x
  is_its x spoken = subst (λ (state : ℕ → TxState). IsSpeaker state s.live (shown before.dirty i) there.its c.key x)
      (fun_ext memory.state) (as_other there.its table there.same
      (λ (y : Table). IsSpeaker s.state s.live (shown before.dirty i) y c.key x)
      (speaker_on table there.its.indexes s.state s.live (shown before.dirty i) c.key x spoken))

  stands_so : (x : Option RecId) → IsSpeaker s.state s.live (shown before.dirty i) table c.key x
      → StandFor o h there.its.name c.key (versions_spoken (left_state everyone s.state) there.its r x)
      × ((rec : RecId) → x ≡ Some rec → (table_in f rec ≡ Some there.its) × (Some speaker_there.p ≡ Some rec))
  stands_so x spoken = speak o h s.live (shown before.dirty i) there.its c.key there.stands.stand.pointers
      there.stands.stand.data_pages f r (Some speaker_there.p) x midway.pages.sound.records
      (λ u. left_dead (s.state u) ∙ ap is_dead (memory.state u))
      (table_there size (left_state everyone s.state) (shown before.dirty i) midway.pages.layout midway.pages.reading
      midway.pages.sound there.its there.stands)
      (data_there size (left_state everyone s.state) (shown before.dirty i) midway.pages.layout midway.pages.reading
      midway.pages.sound there.its there.stands) memory.live
      (λ u seen. tests_all o h s.live u memory.live memory.based seen) has_speaker (is_its x spoken)

  -- one is found
  none_found : IsSpeaker s.state s.live (shown before.dirty i) table c.key None → ⊥
  none_found spoken = false≢true (sym (own_told o h t there.its.name c.key [] active_told
      (stands_so None spoken).0).has_ ∙ changed_its)

  -- and it is that record
  it_is : (rec : RecId) → IsSpeaker s.state s.live (shown before.dirty i) table c.key (Some rec)
      → speaker_there.p ≡ rec
  it_is rec spoken = let both : Some speaker_there.p ≡ Some rec = ((stands_so (Some rec) spoken).1 rec refl).1 in cc

  -- ---- it is read

  module _ (store : Pool D FireLinks) (same : KeepsStore m before store) where
    sound_on : IsSoundBy packed_form store.geometry.size (left_state everyone s.state) (shown store.dirty i)
        midway.pages.layout midway.pages.reading
    sound_on = subst (λ (d : DirtyPages). IsSoundBy packed_form store.geometry.size (left_state everyone s.state)
        (shown d i) midway.pages.layout midway.pages.reading) (sym same.dirty)
        (subst (λ (n : ℕ). IsSoundBy packed_form n (left_state everyone s.state) (shown before.dirty i)
        midway.pages.layout midway.pages.reading)
        (sym (ap (λ (g : Geometry). g.size) same.geometry ∙ knows.size_is)) midway.pages.sound)

    abbrev f_on : Facts
    f_on = facts_by (left_state everyone s.state) (shown store.dirty i) midway.pages.layout

    sees : SeesTable m store i no_batch f_on r there.stands.stand table
    sees = record {
      sees = record {
        tells = tells_on m before store i same knows.tells;
        lawful = lawful_of store.geometry.size (left_state everyone s.state) (shown store.dirty i)
            midway.pages.layout midway.pages.reading sound_on;
      };
      stands = tables_stand store.geometry.size (left_state everyone s.state) (shown store.dirty i)
          midway.pages.layout midway.pages.reading sound_on there.its table there.stands there.same;
    }

    shows : ShowsSound m store i (left_state everyone s.state) midway.pages.layout midway.pages.reading
    shows = record {
      tells = tells_on m before store i same knows.tells;
      geometry = subst IsGeometry (sym same.geometry) knows.geometry;
      sound = sound_on;
    }

    as_now : (P : Pages → Type 0) → P (shown before.dirty i) → P (shown store.dirty i)
    as_now P holds = subst (λ (d : DirtyPages). P (shown d i)) (sym same.dirty) holds

    own_found : (it : Damaged)
        → RefusesOwnAt m store (shown before.dirty i) s.state s.live t table c.key (faults.Damaged it) → ⊥
    own_found it (own_unspoken refused) = read store i no_batch f_on r there.stands.stand table sees
        (wants s.state s.live Living) it (as_now (λ (view : Pages).
        RefusesTableRows m store [] view (wants s.state s.live Living) table (faults.Damaged it)) refused)
    own_found it (own_nobody spoken is) = none_found spoken
    own_found it (own_unread rec spoken refused) = ways store i f_on r there.stands.stand table sees s.state s.live
        c.key (Some rec) (as_now (λ (view : Pages). IsSpeaker s.state s.live view table c.key (Some rec)) spoken) it
        (as_now (λ (view : Pages). RefusesChain m store [] view rec (faults.Damaged it)) refused)
    own_found it (own_other rec found spoken is_first not_own is) =
        let (d, ds, are, by) = begins in
        not_own (subst (IsOwn t) (sym (places (cells_of (shown before.dirty i)) (wants s.state s.live Any)
        (newest_link (shown before.dirty i) rec) found (d ∷ ds) is_first
        (subst (Chain (cells_of (shown before.dirty i)) (newest_link (shown before.dirty i) rec))
        (ap r (sym (it_is rec spoken)) ∙ are) (midway.pages.sound.records.reads rec there.its
        (subst (λ (x : RecId). table_in f x ≡ Some there.its) (it_is rec spoken) speaker_there.of_its))))) by)

    -- ---- and changed

    -- what comes back fits a page
    may_store : (write : Write) (v : Version) → IsStored table t write v
        → MayBeStored store.geometry.size table.pointer.0 v
    may_store write v stored =
        let on = tables_stand store.geometry.size (left_state everyone s.state) (shown store.dirty i)
        midway.pages.layout midway.pages.reading sound_on there.its table there.stands there.same in record {
          some = subst (λ (p : PageNo). p.0 ≢ 0) on.same.pointer on.has.first;
          short = stored_short store.geometry.size table t write v stored
              (rows_fit store.geometry.size (map (λ stand. stand.table) midway.pages.layout.tables) table
              sound_on.names.all.fit (finds_it.seen table.name table (keeps.seen t table
              (kept_one (work_of works t) (s.number t c.table) table kept))))
              (page_sizes store.geometry.size shows.geometry.size).0;
        }

    -- and so do the keys of its row
    keys_short : (write : Write) → FitsShape table.shape write → KeysMayBeLaid store.geometry.size table write
    keys_short write fits = write_keys_short store.geometry.size table write fits
        (keys_fit store.geometry.size (map (λ stand. stand.table) midway.pages.layout.tables) table
        sound_on.names.all.fit (finds_it.seen table.name table (keeps.seen t table
        (kept_one (work_of works t) (s.number t c.table) table kept))))
        (page_sizes store.geometry.size shows.geometry.size).0

    its_record : IsRecordOf midway.pages.layout midway.pages.reading speaker_there.p there.its
    its_record = record {
      of = speaker_there.of_its;
      newest = begins.0;
      older = begins.1;
      are = begins.2;
    }

    -- the entries of a row come first
    module _ (up : store.offline ≡ None) (rec : RecId)
        (own_at : IsOwnAt s.state s.live t (shown before.dirty i) table c.key rec) (row : Row) (it : Damaged) where
      -- of some indexes they were laid
      module _ (indexes later : List Index) (parts : table.indexes ≡ indexes ++ later) (now : Pool D FireLinks)
          (laid : LaysAll m indexes rec row store now) where
        abbrev back : HasEnteredBack m size o h e t whole left s start store now begun first i asked session table c.key
            rec indexes row
        back = enter size o h e point t whole left s start before store now begun first i asked session opening legal memory
            goes catalog works keeps (s.number t c.table) table kept midway knows c.key rec own_at same up indexes later
            parts row laid

        sound_then : IsSoundBy packed_form now.geometry.size (left_state everyone s.state) (shown now.dirty back.enters.image)
            back.enters.then_.pages.layout back.enters.then_.pages.reading
        sound_then = sound_entered m size o h e t whole left s start store now begun first i asked session table c.key rec
            indexes row back

        shows_then : ShowsSound m now back.enters.image (left_state everyone s.state) back.enters.then_.pages.layout
            back.enters.then_.pages.reading
        shows_then = record {
          tells = back.enters.knows.tells;
          geometry = back.enters.knows.geometry;
          sound = sound_then;
        }

        -- the trees of the table stand
        trees_then : TreesStand m now table.indexes
        trees_then = trees_entered m size o h e t whole left s start store now begun first i asked session table c.key rec
            indexes row back

        abbrev record_then : IsRecordOf back.enters.then_.pages.layout back.enters.then_.pages.reading rec table
        record_then = record {
          of = back.is.of_table;
          newest = back.is.newest;
          older = back.is.older;
          are = back.is.read;
        }

        -- the next entry is not refused by damage, nor the version that comes then
        next_none : (index : Index) → HasRoot table.indexes index.root.0
            → FailsEntry m now after index.root.0 (index_entry index rec row) (faults.Damaged it) → ⊥
        next_none index has fails = entry_meets_none m entries.lawful entries.none entries.taken now after
            back.enters.image table.indexes index.root.0 (index_entry index rec row) it back.enters.knows.tells
            back.enters.knows.geometry (sound_regions now.geometry (shown now.dirty back.enters.image)
            back.enters.knows.geometry sound_then.header.whole sound_then.inventory) sound_then.header.whole trees_then has
            fails

        version_none : (write : Write) (v : Version) → IsStored table t write v
            → FailsReplacing m now after rec v (faults.Damaged it) → ⊥
        version_none write v stored fails = replaced now after back.enters.image (left_state everyone s.state)
            back.enters.then_.pages.layout back.enters.then_.pages.reading shows_then rec table record_then v
            (same_number back.is.newest.version.tx v.tx (back.is.own ∙ sym stored.its))
            (subst (λ (g : Geometry). length v.body + 42 ≤ g.size) (sym back.enters.geometry) (may_store write v stored).short)
            it fails

      all_none : FailsAll m table.indexes rec row store after (faults.Damaged it) → ⊥
      all_none fails = next_none fails.first (fails.index ∷ fails.later) fails.parts fails.mid fails.laid fails.index
          (subst (λ (xs : List Index). HasRoot xs fails.index.root.0) (sym fails.parts)
          (root_there fails.first fails.index fails.later)) fails.refused

    -- what comes back is a row, or a deletion, which has no entry
    replacing_none : store.offline ≡ None → (rec : RecId) → IsOwnAt s.state s.live t (shown before.dirty i) table c.key rec
        → (write : Write) (v : Version) → IsStored table t write v → (it : Damaged)
        → FailsEnterOwn m store after table rec write v (faults.Damaged it) → ⊥
    replacing_none up rec own_at (writes.Insert row) v stored it (not_entered fails) = all_none up rec own_at row it fails
    replacing_none up rec own_at (writes.Insert row) v stored it (not_put_in b enters fails) = version_none up rec own_at row
        it table.indexes [] (sym (no_more table.indexes)) b enters (writes.Insert row) v stored fails
    replacing_none up rec own_at (writes.Change key row) v stored it (not_entered fails) =
        all_none up rec own_at row it fails
    replacing_none up rec own_at (writes.Change key row) v stored it (not_put_in b enters fails) = version_none up rec own_at
        row it table.indexes [] (sym (no_more table.indexes)) b enters (writes.Change key row) v stored fails
    replacing_none up rec own_at (writes.Erase key) v stored it (not_entered never) = never
    replacing_none up rec own_at (writes.Erase key) v stored it (not_put_in b enters fails) = version_none up rec own_at [] it
        [] table.indexes refl store (no_index rec [] store) (writes.Erase key) v stored
        (subst (λ (p : Pool D FireLinks). FailsReplacing m p after rec v (faults.Damaged it)) enters fails)

    put_back : store.offline ≡ None → (rec : RecId) → IsOwnAt s.state s.live t (shown before.dirty i) table c.key rec
        → speaker_there.p ≡ rec → (write : Option Write)
        → ((w : Write) → write ≡ Some w → FitsShape table.shape w) → (it : Damaged)
        → FailsPuttingBack m store after t table rec write (faults.Damaged it) → ⊥
    put_back up rec own_at is None fits it fails = out store after i (left_state everyone s.state) midway.pages.layout
        midway.pages.reading shows speaker_there.p there.its its_record it
        (subst (λ (x : RecId). FailsTakingOut m store after x (faults.Damaged it)) (sym is) fails)
    put_back up rec own_at is (Some write) fits it (former_unfit not_ is_ same_) = not_ (fits write refl)
    put_back up rec own_at is (Some write) fits it (former_memory memory_ same_) = absurd cc
    put_back up rec own_at is (Some write) fits it (former_long v stored not_ is_ same_) = not_ (may_store write v stored)
    put_back up rec own_at is (Some write) fits it (former_key_long not_ is_ same_) =
        not_ (keys_short write (fits write refl))
    put_back up rec own_at is (Some write) fits it (former_not_put v stored may short fails) =
        replacing_none up rec own_at write v stored it fails

  -- the column of the key is there
  keyed : IsKeyed table.shape
  keyed = subst IsKeyed there.same.shape (tables_are_keyed size (left_state everyone s.state) (shown before.dirty i)
      midway.pages.layout midway.pages.reading midway.pages.sound there.its there.stands)

  pub key_taken : (was : Was) → MayReturn table.shape c.key was → (it : Damaged)
      → FailsKey m before after s.state s.live t table c.key was (faults.Damaged it) → ⊥
  key_taken was returns it (key_unfit not_ is same) = not_ (may_come table.shape c.key was returns)
  key_taken was returns it (key_unread same reads told why) = own_found after same it (why i knows.tells)
  key_taken was returns it (key_not_put rec ready same online own_ fails) =
      put_back ready same online.1 rec (own_ i knows.tells) (it_is rec (own_ i knows.tells).spoken) (former c.key was)
      (former_fits table.shape c.key was keyed returns) it fails

pub keys_meet_no_damage : {D : Type 0} (m : Meaning D) → KeptTablesStand → KeptTablesAreNamed → SpeakersStand
    → PlacesOfReadings → SoundRecordsAreLawful → SoundTablesStand → TablesAreRead m → WaysAreRead m
    → VersionsAreTakenOut m → VersionsAreReplaced m → KeysEnterMidway D m → EntriesMeetNone → KeysMeetNoDamage D m
keys_meet_no_damage m stand named speak places lawful_of tables_stand read ways out replaced enter entries size o h e t
    whole left s start before after begun first i asked session midway point opening legal memory goes catalog works keeps
    knows c to_take changed table kept was returns it fails = key_taken m stand named speak places lawful_of tables_stand
    read ways out replaced enter entries size o h e t whole left s start before after begun first i asked session midway
    point opening legal memory goes catalog works keeps knows c to_take changed table kept was returns it fails
