-- Each step of a collection leaves the engine with the same history: the pages show it as they did, its cache lasts with
-- it, whoever walks walks on, and a crash leaves what it left.
use Rattle.std.proofs.Common.{◌≡◌, ◌≢◌, ◌∙◌, refl, sym, ap, subst, ◌&&◌, ◌||◌, ◌==◌, ℕ, Bool, true, false, List, [], ◌∷◌, ◌++◌, None, Option, Some}
use Rattle.std.specs.Prelude.{if◌then◌else◌}
use Rattle.std.proofs.Math.Path.{fun_ext}
use Rattle.std.proofs.lemmas.Bool.{ne_eqb}
use Rattle.mg_base.specs.Disk.{Meaning}
use Rattle.mg_base.specs.Image.{Image}
use Rattle.mg_base.specs.declared.geometry.Geometry.{Geometry}
use Rattle.mg_base.specs.declared.numbers.RecId.{RecId}
use Rattle.mg_base.specs.declared.numbers.TxNo.{TxNo}
use Rattle.mg_base.specs.declared.transaction.TxState.{TxState}
use Rattle.mg_base.specs.declared.transaction.TxState.TheVariants.{Active, Limbo, Dead, Committed}
use Rattle.mg_chain.specs.Chains.{takes_version}
use Rattle.mg_chain.specs.Writing.{TakesOut}
use Rattle.mg_collect_tie_laws.specs.Chains.{IsNext}
use Rattle.mg_collect_tie_laws.specs.DropTies.{DropsPages, HasCommittedAt, drop_pages, next, put_view as dropped_put}
use Rattle.mg_collect_tie_laws.specs.TakeTies.{taken_pages, turned_view as taken_turned}
use Rattle.mg_collecting.specs.Steps.{CollectStep, DropsUnneeded, drops_unneeded, takes_dead, takes_erased}
use Rattle.mg_engine_change_laws.specs.memory.Directories.{StaysKnown}
use Rattle.mg_engine_change_laws.specs.memory.RecordChanges.{back_known}
use Rattle.mg_engine_change_laws.specs.rows.OwnerLaws.{committed_only}
use Rattle.mg_engine_change_laws.specs.rows.Plain.{WritesKeepPlain}
use Rattle.mg_engine_change_laws.specs.rows.TipLaws.{two_tips}
use Rattle.mg_engine_change_laws.specs.rows.Tips.{KeepsTips}
use Rattle.mg_engine_change_laws.specs.rows.WalkLaws.{same_walk_on, unseen}
use Rattle.mg_engine_change_laws.specs.rows.Walks.{OthersWalkOn}
use Rattle.mg_engine_meaning_laws.specs.PlainTables.{HasPlainTables}
use Rattle.mg_engine_meaning_laws.specs.Standings.{HasTips}
use Rattle.mg_engine_step_laws.specs.standing.Bare.{IsBare}
use Rattle.mg_engine_step_laws.specs.standing.BareLaws.{bare_grown, bare_has_found}
use Rattle.mg_engine_step_laws.specs.writes.Batches.{RowsLastStill}
use Rattle.mg_engine_step_laws.specs.writes.Caches.{kept_from, row_changed}
use Rattle.mg_engine_step_laws.specs.standing.Choices.{placed}
use Rattle.mg_engine_step_laws.specs.writes.GoesOnLaws.{pool_is_kept, taking_out_is_read}
use Rattle.mg_engine_step_laws.specs.writes.Knowing.{WasChanged}
use Rattle.mg_engine_step_laws.specs.commits.ListShows.{ListsStay, TipsStayOn}
use Rattle.mg_engine_step_laws.specs.standing.Standing.{ShowsHistory, Standing, Stands}
use Rattle.mg_engine_step_laws.specs.writes.Writes.{ReadsAfter}
use Rattle.mg_engine_step_laws.specs.writes.WritesLaws.{finds_on}
use Rattle.mg_engine_step_laws.specs.writes.WrittenTablePagesLaws.{taking_out_keeps_pages}
use Rattle.mg_generation_laws.specs.Kept.{IsSeenByAll}
use Rattle.mg_generation_laws.specs.Laws.{CoveredMayGo, ErasedMayGo}
use Rattle.mg_image.specs.Catalog.{IsNamed}
use Rattle.mg_image.specs.Form.{Pages, Row, packed_coding, packed_form}
use Rattle.mg_image.specs.ReadingLaws.{Opens, RowsAreOne, chain_opens}
use Rattle.mg_image.specs.RecordRules.{AreOnce, Each, EachBack, Facts, IsVersion, committed_in}
use Rattle.mg_image.specs.Records.{Chain, Reading, cells_of, ended, goes, newest_of, record_key, shown as shown_row, writer}
use Rattle.mg_image.specs.Sound.{IsSoundBy, facts_by}
use Rattle.mg_image.specs.Tables.{Layout, Stand, stands_of, table_at}
use Rattle.mg_image.specs.declared.entry.Entry.{Entry}
use Rattle.mg_image_overlay_laws.specs.records.BackPart.{TakesOutPages}
use Rattle.mg_image_overlay_laws.specs.pages.DataKept.{IsDataChanged, data_more, data_self}
use Rattle.mg_image_overlay_laws.specs.pages.DataPages.{ChangesData}
use Rattle.mg_image_overlay_laws.specs.records.Fronts.{is_dead}
use Rattle.mg_image_overlay_laws.specs.tables.Growing.{IsTableOf}
use Rattle.mg_image_overlay_laws.specs.kept.KeptImages.{AreFrontStands, IsKept, IsFrontOf}
use Rattle.mg_image_overlay_laws.specs.pages.Kinds.{HasNoSequences}
use Rattle.mg_image_overlay_laws.specs.tables.OneLayout.{StandsOneWay}
use Rattle.mg_image_overlay_laws.specs.tables.OneTable.{table_at_stands}
use Rattle.mg_image_overlay_laws.specs.records.OwnVersion.{FindsNewest}
use Rattle.mg_image_overlay_laws.specs.records.Skips.{skip_at, with_back}
use Rattle.mg_lasting_laws.specs.Crashes.{HoldsAcknowledged, LeavesSince}
use Rattle.mg_lasting_laws.specs.Lasting.{LastsOn}
use Rattle.mg_model.specs.Answers.{is_active, is_committed, told}
use Rattle.mg_model.specs.History.{Entries}
use Rattle.mg_model.specs.Laws.{OpeningsBegin}
use Rattle.mg_model.specs.Machine.{state_of}
use Rattle.mg_model.specs.Openings.{everyone}
use Rattle.mg_model.specs.declared.opening.Opening.{Opening}
use Rattle.mg_model.specs.declared.table.Table.{Table}
use Rattle.mg_noted_laws.specs.ChoiceTables.{stands_by_committed}
use Rattle.mg_overlay_laws.specs.Overlays.{left_by, left_state}
use Rattle.mg_pool.specs.Batch.{Changed}
use Rattle.mg_pool.specs.Pool.{IsPool, shown}
use Rattle.mg_pool.specs.declared.pool.Pool.{Pool}
use Rattle.mg_pool_overlay_laws.specs.Needs.{Asked, Sessions}
use Rattle.mg_batches.specs.Batches.{ChangesOwn}
use Rattle.mg_snap.specs.Live.{all_see, needed, sees}
use Rattle.mg_snap.specs.LiveLaws.{unneeded}
use Rattle.mg_space.specs.Taking.{IsGeometry}
use Rattle.mg_space.specs.View.{Tells}
use Rattle.mg_space.specs.declared.links.FireLinks.{FireLinks}
use Rattle.mg_tie_laws.specs.Changed.{ChangesFresh, KeptIn, fresh}
use Rattle.mg_tie_laws.specs.Newest.{newest_found, newest_placed}
use Rattle.mg_txlist.specs.declared.list.TxList.{TxList}
use Rattle.mg_version.specs.declared.cell.Cell.TheVariants as cells
use Rattle.mg_version.specs.declared.cell.Link.{Link}
use Rattle.mg_version.specs.declared.cell.Version.{Version}
use Rattle.mg_engine_collecting_laws.specs.DropReads.{IsDropped, drop_reads, dropped_of}
use Rattle.mg_engine_collecting_laws.specs.LeftVersions.{SaysTheSame, versions_left}
use Rattle.mg_engine_collecting_laws.specs.Remains.{saw_newer, seen_by_all}
use Rattle.mg_engine_collecting_laws.specs.StandStill.{StandStill, grown_still}
use Rattle.mg_engine_collecting_laws.specs.StepKeeps.{both_of, changes_of, committed_is, dead_is, finds_kept, step_keeps}
use Rattle.mg_engine_collecting_laws.specs.StepSays.{covered_says, dead_says, erased_says}

-- ---- where a collection is made

-- A record is one of a table that a committed row of the catalog names, and that is not the catalog: so the table stands
-- whichever transactions count.
pub record IsInNamed (size : ℕ) (state : ℕ → TxState) (pages : Pages) (layout : Layout) (r : Reading) (rec : RecId)
    (table : Table) : Type 0 where
  pub of : table_at (stands_of layout) rec.page.0 ≡ Some table
  pub no_catalog : table ≢ layout.catalog.table
  pub named : IsNamed (facts_by (left_state everyone state) pages layout) r layout.catalog.table table.name

-- Pages show a history, with the pages of transactions and plain tables, and the record is such a one.
pub record ShowsRecord (size : ℕ) (o : Opening) (h : Entries) (s : Standing) (list : TxList) (pages : Pages)
    (rec : RecId) (table : Table) : Type 0 where
  pub stands : Stands packed_form size o h s (Some pages)
  pub tips : HasTips list size pages
  pub plain : HasPlainTables size s.state pages
  pub here : IsInNamed size s.state pages stands.shows.layout stands.shows.reading rec table

-- A step was made: the pages show the history as they did, the cache lasts with it, a crash leaves what it left, whoever
-- works walks on, directories are complete still, tables stand where they stood, and the record is one of its table.
pub record StepStays {D : Type 0} (m : Meaning D) (o : Opening) (h : Entries) (s : Standing) (list : TxList)
    (before after : Pool D FireLinks) (was : Pages) (asked : Asked) (session : Sessions) (rec : RecId) (table : Table)
    : Type 0 where
  pub image : Image
  pub held : m.held after.disk ≡ Some image
  pub keeps : KeepsTips before.geometry.size was (shown after.dirty image)
  pub lasts : LastsOn m packed_form o h after asked session
  pub leaves : LeavesSince m before.disk after.disk (HoldsAcknowledged packed_form before.dirty.size o h)
  pub others : (t : ℕ) → OthersWalkOn before.geometry.size s was (shown after.dirty image) t
  pub known : StaysKnown before.geometry.size s.state was (shown after.dirty image)
  pub still : StandStill before.geometry.size s.state was (shown after.dirty image)
  pub shows : ShowsRecord after.geometry.size o h s list (shown after.dirty image) rec table

-- ---- lists of stands

front_of : (ns : List ℕ) → IsFrontOf ns ns
front_of [] = tt
front_of (n ∷ ns) = (refl, front_of ns)

fronts_of : (ss : List Stand) → AreFrontStands ss ss
fronts_of [] = tt
fronts_of (s ∷ ss) = (
  record { table = refl; pointers = front_of s.pointers; data_pages = front_of s.data_pages },
  fronts_of ss,
)

-- ---- states

left_committed : (x : TxState) → left_by true x ≡ Committed → x ≡ Committed
left_committed Active is = absurd cc
left_committed Limbo is = absurd cc
left_committed Dead is = absurd cc
left_committed Committed is = refl

committed_too : (x : TxState) → x ≡ Committed → is_committed x ≡ true
committed_too x is = ap is_committed is

active_too : (x : TxState) → is_active x ≡ true → x ≡ Active
active_too Active is = refl
active_too Limbo is = absurd cc
active_too Dead is = absurd cc
active_too Committed is = absurd cc

-- ---- rows that are shown

second_of : (a b : Bool) → a ≡ false → (a || b) ≡ true → b ≡ true
second_of true b off is = absurd cc
second_of false b off is = is

-- who takes the version that is dropped takes the one that stays
shown_dropped : (takes : ℕ → Bool) (front : List Entry) (back : Option Link) (a y : Entry) (rest : List Entry)
    → (takes (writer y) ≡ true → takes (writer a) ≡ true)
    → shown_row takes (front ++ with_back back a ∷ rest) ≡ shown_row takes (front ++ a ∷ y ∷ rest)
shown_dropped takes [] back a y rest also = by (takes (writer a)) refl (takes (writer y)) refl
  where
    by : (b : Bool) → takes (writer a) ≡ b → (c : Bool) → takes (writer y) ≡ c
        → shown_row takes (with_back back a ∷ rest) ≡ shown_row takes (a ∷ y ∷ rest)
    by true is c is_ = rw is refl
    by false is false is_ = rw (is, is_) refl
    by false is true is_ = let both : true ≡ false = sym (also is_) ∙ is in absurd cc
shown_dropped takes (e ∷ front) back a y rest also =
    ap (λ (row : Option Row). if takes (writer e) then (if e.version.deleted then None else Some e.row) else row)
    (shown_dropped takes front back a y rest also)

-- ---- one step

module _ (one : RowsAreOne packed_coding) (one_way : StandsOneWay packed_form) (on : TipsStayOn) (lists : ListsStay)
    (keep_plain : WritesKeepPlain) (covered : CoveredMayGo) (erased : ErasedMayGo) (begins : OpeningsBegin)
    {D : Type 0} (m : Meaning D) (last : RowsLastStill D FireLinks m packed_form) (o : Opening) (h : Entries)
    (s : Standing) (list : TxList) (before after : Pool D FireLinks) (i j : Image) (asked : Asked) (session : Sessions)
    (stands : Stands packed_form before.geometry.size o h s (Some (shown before.dirty i)))
    (lasts : LastsOn m packed_form o h before asked session) (pool_is : IsPool m before)
    (geometry : IsGeometry before.geometry) (tells : Tells m before.disk i) (told_later : Tells m after.disk j)
    (rec : RecId) (table : Table)
    (here : IsInNamed before.geometry.size s.state (shown before.dirty i) stands.shows.layout stands.shows.reading rec
    table)
    (plain : HasPlainTables before.geometry.size s.state (shown before.dirty i))
    (tips : HasTips list before.geometry.size (shown before.dirty i)) where
  abbrev size : ℕ
  size = before.geometry.size

  abbrev pool : Pages
  pool = shown before.dirty i

  abbrev later : Pages
  later = shown after.dirty j

  abbrev state : ℕ → TxState
  state = left_state everyone s.state

  abbrev shows : ShowsHistory packed_form size o h s pool
  shows = stands.shows

  abbrev f : Facts
  f = facts_by state pool shows.layout

  none_there : HasNoSequences packed_form
  none_there page n is = is

  state_is : (u : ℕ) → s.state u ≡ state_of o h u
  state_is = stands.memory.state

  -- ---- the table stands whoever counts

  there : IsTableOf shows.layout table
  there = table_at_stands shows.layout rec.page.0 table here.of

  placed_each : (chosen : ℕ → Bool) (layout : Layout) (r : Reading)
      → IsSoundBy packed_form size (left_state chosen s.state) pool layout r
      → table_at (stands_of layout) rec.page.0 ≡ Some table
  placed_each chosen layout q sound = placed packed_form one size s.state pool shows.layout shows.reading shows.sound
      chosen layout q sound table there
      (stands_by_committed one size s.state pool shows.layout shows.reading shows.sound chosen layout q sound
      (plain.agree everyone chosen shows.layout layout shows.reading q shows.sound sound) table there here.named.place here.named.row (record {
        of_table = here.named.shows.of_table;
        row_shown = ap (λ (c : ℕ → Bool). shown_row c (shows.reading here.named.place)) (fun_ext (committed_only f))
            ∙ here.named.shows.row_shown;
      }) here.named.keyed) rec.page.0 here.of

  kept_before : KeptIn packed_form size o h s.state asked session before i
  kept_before = kept_from m packed_form o h s before i asked session stands.memory pool_is tells.held lasts

  kept_each : (chosen : ℕ → Bool) → IsKept packed_form size o h (left_state chosen s.state) pool pool
  kept_each chosen = pool_is_kept packed_form D FireLinks size o h s.state asked session before i chosen kept_before

  once : AreOnce (shows.reading rec)
  once = (shows.sound.records.each rec table here.of).once

  reads_chain : Chain (cells_of pool) (newest_of rec (cells_of pool rec)) (shows.reading rec)
  reads_chain = shows.sound.records.reads rec table here.of

  -- ---- what is read after a step

  -- Two data pages are changed, one after the other; what is left of the record's versions says what they said, and
  -- shows whoever works what they showed.
  pub record StepReads (left : List Entry) : Type 0 where
    pub mid : Pages
    pub a : ℕ
    pub b : ℕ
    pub first : ChangesData packed_form.in_primary pool mid a
    pub second : ChangesData packed_form.in_primary mid later b
    pub reads : ReadsAfter packed_form size state pool later shows.layout shows.reading rec left
    pub fronts : AreFrontStands (stands_of shows.layout) (stands_of reads.layout)
    pub some : shows.reading rec ≢ []
    pub says : SaysTheSame o h state table (shows.reading rec) left
    pub shown_same : (u : ℕ) → s.state u ≡ Active → shown_row (takes_version s.state s.live u) left
        ≡ shown_row (takes_version s.state s.live u) (shows.reading rec)

  data_two : (mid : Pages) (a b : ℕ) → ChangesData packed_form.in_primary pool mid a
      → ChangesData packed_form.in_primary mid later b → IsDataChanged packed_form size pool later shows.layout
  data_two mid a b first second = data_more packed_form size state pool shows.layout shows.reading shows.sound mid later
      b (data_more packed_form size state pool shows.layout shows.reading shows.sound pool mid a
      (data_self packed_form size state pool shows.layout shows.reading shows.sound) first) second

  module _ (batch : Changed) (was : WasChanged m before after i j batch)
      (kept : KeptIn packed_form size o h s.state asked session after j) (same : after.geometry ≡ before.geometry)
      (left : List Entry) (it : StepReads left) where
    changed_data : IsDataChanged packed_form size pool later shows.layout
    changed_data = data_two it.mid it.a it.b it.first it.second

    cache : LastsOn m packed_form o h after asked session
        × LeavesSince m before.disk after.disk (HoldsAcknowledged packed_form before.dirty.size o h)
    cache = last o h before after i j batch asked session (begins o stands.opening) stands.legal lasts
        (row_changed m packed_form o h s before after i j batch asked session stands.memory was lasts h changed_data.bits kept)

    bare_on : IsBare it.reads.layout
    bare_on = bare_grown shows.layout it.reads.layout shows.reading it.reads.grown shows.bare

    abbrev stands_later : Stands packed_form size o h s (Some later)
    stands_later = record {
      opening = stands.opening;
      legal = stands.legal;
      memory = stands.memory;
      shows = record {
        layout = it.reads.layout;
        reading = it.reads.reading;
        sound = it.reads.sound;
        next = changed_data.bits.next ∙ shows.next;
        versions = versions_left packed_form size o h s pool later shows table rec left here.of it.some it.says
            it.reads;
        tables = λ u is. finds_on o h s shows.layout it.reads.layout shows.reading u it.reads.grown
            (shows.tables u is);
        found = bare_has_found packed_form size state later it.reads.layout it.reads.reading it.reads.sound bare_on s.state
            s.live;
        bare = bare_on;
      };
    }

    keeps_tips : KeepsTips size pool later
    keeps_tips = two_tips on packed_form size state pool shows.layout shows.reading shows.sound it.mid later it.a it.b
        it.first it.second

    named_later : IsNamed (facts_by state later it.reads.layout) it.reads.reading it.reads.layout.catalog.table
        table.name
    named_later = subst (λ (c : Table). IsNamed (facts_by state later it.reads.layout) it.reads.reading c table.name)
        (sym it.reads.grown.catalog) (record {
          place = here.named.place;
          row = here.named.row;
          shows = record {
            of_table = it.reads.grown.stays here.named.place.page.0 shows.layout.catalog.table
                here.named.shows.of_table;
            row_shown = ap (shown_row (committed_in f)) (it.reads.others here.named.place off)
                ∙ here.named.shows.row_shown;
          };
          keyed = here.named.keyed;
        })
      where
        off : here.named.place ≢ rec
        off at =
            let both : Some table ≡ Some shows.layout.catalog.table =
            sym here.of ∙ (ap (λ (q : RecId). table_at (stands_of shows.layout) q.page.0) (sym at)
            ∙ here.named.shows.of_table) in
            let one_table : table ≡ shows.layout.catalog.table = cc in here.no_catalog one_table

    abbrev here_later : IsInNamed size s.state later it.reads.layout it.reads.reading rec table
    here_later = record {
      of = it.reads.grown.stays rec.page.0 table here.of;
      no_catalog = λ is. here.no_catalog (is ∙ it.reads.grown.catalog);
      named = named_later;
    }

    pub stays : StepStays m o h s list before after pool asked session rec table
    stays = record {
      image = j;
      held = told_later.held;
      keeps = keeps_tips;
      lasts = cache.0;
      leaves = cache.1;
      others = λ t. same_walk_on one size s pool later shows.layout shows.reading rec left shows.sound it.reads it.fronts
          t (λ u ne works. it.shown_same u works);
      known = back_known one_way size s.state pool later shows.layout shows.reading shows.sound rec left it.reads table
          here.of here.no_catalog it.some it.says.keyed;
      still = grown_still one_way size s.state pool later shows.layout it.reads.layout shows.reading it.reads.reading
          shows.sound it.reads.sound it.reads.grown;
      shows = subst (λ (g : Geometry). ShowsRecord g.size o h s list later rec table) (sym same) (record {
        stands = stands_later;
        tips = lists list list size pool later refl refl keeps_tips.next keeps_tips.tips tips;
        plain = keep_plain size o h s.state pool later shows.layout shows.reading rec left table shows.sound it.reads
            here.of here.no_catalog kept_each plain;
        here = here_later;
      });
    }

  -- ---- the newest version is taken out

  module _ (batch : Changed) (changes : ChangesFresh m before after i j batch) (takes : TakesOut before i fresh batch rec)
      (kept : KeptIn packed_form size o h s.state asked session after j) where
    taken : TakesOutPages packed_form.in_primary pool
        (taken_turned packed_form none_there refl m before after i j batch asked session o h s.state rec table changes
        takes placed_each kept_before) later rec takes.newest.rec takes.was takes.newest
    taken = taken_pages packed_form none_there refl m before after i j batch asked session o h s.state rec table changes
        takes placed_each kept_before

    it_newest : FindsNewest f shows.reading rec table takes.newest.rec takes.was
    it_newest = newest_found packed_form size state pool shows.layout shows.reading shows.sound rec table here.of
        takes.newest takes.its.head.slot takes.was takes.its.meets.cell

    later_kept : IsKept packed_form size o h state later later
    later_kept = pool_is_kept packed_form D FireLinks size o h s.state asked session after j everyone kept

    out_reads : ReadsAfter packed_form size state pool later shows.layout shows.reading rec it_newest.older
    out_reads = (taking_out_is_read packed_form one none_there size state pool
        (taken_turned packed_form none_there refl m before after i j batch asked session o h s.state rec table changes
        takes placed_each kept_before) later shows.layout shows.reading table rec takes.newest.rec takes.was
        it_newest.newest it_newest.older takes.newest later_kept.layout later_kept.reading shows.sound taken
        it_newest.first it_newest.at it_newest.version here.of
        (newest_placed packed_form size state pool shows.layout shows.reading shows.sound rec table here.of takes.newest
        takes.its.head.slot) here.no_catalog later_kept.sound).0

    out_fronts : AreFrontStands (stands_of shows.layout) (stands_of out_reads.layout)
    out_fronts = taking_out_keeps_pages packed_form one none_there size state pool
        (taken_turned packed_form none_there refl m before after i j batch asked session o h s.state rec table changes
        takes placed_each kept_before) later shows.layout shows.reading rec takes.newest.rec takes.was takes.newest
        shows.sound taken (record {
          now = out_reads.layout;
          reading = out_reads.reading;
          sound = out_reads.sound;
          grown = out_reads.grown;
        })

    had : shows.reading rec ≢ []
    had none = let both : [] ≡ it_newest.newest ∷ it_newest.older = sym none ∙ it_newest.first in absurd cc

    backs : Each (λ e. state (writer e) ≡ Committed) it_newest.older
    backs = subst (EachBack (λ e. state (writer e) ≡ Committed)) it_newest.first
        (shows.sound.records.each rec table here.of).backs

    -- the versions behind have the record's key
    key_of_older : it_newest.older ≢ []
        → record_key table it_newest.older ≡ record_key table (it_newest.newest ∷ it_newest.older)
    key_of_older some = at it_newest.older refl some
      where
        key_is : record_key table (shows.reading rec) ≡ record_key table (it_newest.newest ∷ it_newest.older)
        key_is = ap (record_key table) it_newest.first

        each : Each (IsVersion packed_coding f table (record_key table (shows.reading rec)))
            (it_newest.newest ∷ it_newest.older)
        each = subst (Each (IsVersion packed_coding f table (record_key table (shows.reading rec)))) it_newest.first
            (shows.sound.records.each rec table here.of).each

        at : (es : List Entry) → it_newest.older ≡ es → es ≢ []
            → record_key table es ≡ record_key table (it_newest.newest ∷ it_newest.older)
        at [] is none = absurd (none refl)
        at (e ∷ es) is none = (subst (Each (IsVersion packed_coding f table (record_key table (shows.reading rec))))
            is each.1).0.keyed ∙ key_is

    out_step : SaysTheSame o h state table (it_newest.newest ∷ it_newest.older) it_newest.older
        → ((u : ℕ) → s.state u ≡ Active → shown_row (takes_version s.state s.live u) it_newest.older
        ≡ shown_row (takes_version s.state s.live u) (it_newest.newest ∷ it_newest.older))
        → StepReads it_newest.older
    out_step says same = record {
      mid = taken_turned packed_form none_there refl m before after i j batch asked session o h s.state rec table changes
          takes placed_each kept_before;
      a = rec.page.0;
      b = takes.newest.rec.page.0;
      first = taken.slot_page;
      second = taken.frees.page;
      reads = out_reads;
      fronts = out_fronts;
      some = had;
      says = subst (λ (es : List Entry). SaysTheSame o h state table es it_newest.older) (sym it_newest.first) says;
      shown_same = λ u works. same u works
          ∙ ap (shown_row (takes_version s.state s.live u)) (sym it_newest.first);
    }

    -- a dead transaction's
    dead_step : s.state takes.was.tx.0 ≡ Dead → StepReads it_newest.older
    dead_step dead = out_step
        (dead_says o h state table it_newest.newest it_newest.older (ap (λ (x : TxState). is_dead (left_by true x)) gone)
        backs key_of_older) unseen_row
      where
        gone : s.state (writer it_newest.newest) ≡ Dead
        gone = ap (λ (w : Version). s.state w.tx.0) it_newest.version ∙ dead

        unseen_row : (u : ℕ) → s.state u ≡ Active → shown_row (takes_version s.state s.live u) it_newest.older
            ≡ shown_row (takes_version s.state s.live u) (it_newest.newest ∷ it_newest.older)
        unseen_row u works = sym (ap (λ (x : Bool). if x
            then (if it_newest.newest.version.deleted then None else Some it_newest.newest.row)
            else shown_row (takes_version s.state s.live u) it_newest.older)
            (unseen s (writer it_newest.newest) u (ap is_committed gone) other_one))
          where
            other_one : u ≢ writer it_newest.newest
            other_one same = let both : Active ≡ Dead = sym works ∙ (ap s.state same ∙ gone) in absurd cc

    -- or a deletion that is alone
    erased_step : takes.was.back ≡ None → is_committed (s.state takes.was.tx.0) ≡ true
        → all_see s.live takes.was.tx.0 ≡ true → takes.was.deleted ≡ true → StepReads it_newest.older
    erased_step alone committed seen deleted = out_step (subst (λ (es : List Entry).
        SaysTheSame o h state table (it_newest.newest ∷ es) es) (sym none_behind)
        (erased_says o h state table erased it_newest.newest counts_ all_saw deleted_it)) hidden
      where
        behind_ : Chain (cells_of pool) it_newest.newest.version.back it_newest.older
        behind_ = by (newest_of rec (cells_of pool rec)) (it_newest.newest ∷ it_newest.older)
            (subst (Chain (cells_of pool) (newest_of rec (cells_of pool rec))) it_newest.first reads_chain) refl
          where
            by : (l : Option Link) (es : List Entry) → Chain (cells_of pool) l es
                → es ≡ it_newest.newest ∷ it_newest.older
                → Chain (cells_of pool) it_newest.newest.version.back it_newest.older
            by l es ended is = absurd cc
            by l es (goes n e fs at cell tx more) is =
                let head : e ≡ it_newest.newest = cc in let tail : fs ≡ it_newest.older = cc in
                subst (λ (gs : List Entry). Chain (cells_of pool) it_newest.newest.version.back gs) tail
                (subst (λ (d : Entry). Chain (cells_of pool) d.version.back fs) head more)

        none_behind : it_newest.older ≡ []
        none_behind = by it_newest.older (chain_opens (cells_of pool) None it_newest.older
            (subst (λ (l : Option Link). Chain (cells_of pool) l it_newest.older)
            (ap (λ (w : Version). w.back) it_newest.version ∙ alone) behind_))
          where
            by : (es : List Entry) → Opens (cells_of pool) None es → es ≡ []
            by [] opens = refl
            by (e ∷ es) opens = absurd opens

        was_committed : s.state (writer it_newest.newest) ≡ Committed
        was_committed = ap (λ (w : Version). s.state w.tx.0) it_newest.version
            ∙ committed_is (s.state takes.was.tx.0) committed

        counts_ : state (writer it_newest.newest) ≡ Committed
        counts_ = ap (left_by true) was_committed

        all_saw : IsSeenByAll o h (writer it_newest.newest)
        all_saw = seen_by_all covered erased o h table.name (record_key table []) s.live stands.memory.live
            (writer it_newest.newest)
            (committed_too (state_of o h (writer it_newest.newest))
            (sym (state_is (writer it_newest.newest)) ∙ was_committed))
            (ap (λ (w : Version). all_see s.live w.tx.0) it_newest.version ∙ seen)

        deleted_it : it_newest.newest.version.deleted ≡ true
        deleted_it = ap (λ (w : Version). w.deleted) it_newest.version ∙ deleted

        hidden : (u : ℕ) → s.state u ≡ Active → shown_row (takes_version s.state s.live u) it_newest.older
            ≡ shown_row (takes_version s.state s.live u) (it_newest.newest ∷ it_newest.older)
        hidden u works = ap (shown_row (takes_version s.state s.live u)) none_behind
            ∙ sym (ap (λ (es : List Entry). shown_row (takes_version s.state s.live u) (it_newest.newest ∷ es))
            none_behind ∙ by (takes_version s.state s.live u (writer it_newest.newest)) refl)
          where
            by : (b : Bool) → takes_version s.state s.live u (writer it_newest.newest) ≡ b
                → shown_row (takes_version s.state s.live u) (it_newest.newest ∷ []) ≡ None
            by true is = rw (is, deleted_it) refl
            by false is = rw is refl

  -- ---- a version is dropped

  module _ (newer gone : Link) (own : ChangesOwn m before after
      (λ image batch. DropsUnneeded before image s.state s.live rec newer gone batch)) where
    abbrev it_drops : DropsUnneeded before i s.state s.live rec newer gone own.batch
    it_drops = own.filled i tells

    finds : (chosen : ℕ → Bool) (layout : Layout) (r : Reading)
        → IsSoundBy packed_form size (left_state chosen s.state) pool layout r
        → HasCommittedAt (facts_by (left_state chosen s.state) pool layout) r rec newer.rec
    finds = finds_kept packed_form one none_there refl m before after i j asked session o h s.state s.live rec table
        geometry tells told_later placed_each kept_before newer gone own

    abbrev mid_pages : Pages
    mid_pages = dropped_put packed_form none_there refl m before after i j own.batch asked session o h s.state rec newer
        gone (changes_of packed_form one none_there refl m before after i j asked session o h s.state s.live rec table
        geometry tells told_later placed_each kept_before _ own) it_drops.drops finds kept_before

    drops : DropsPages packed_form.in_primary pool mid_pages later newer.rec gone.rec it_drops.drops.version
        it_drops.drops.older
    drops = drop_pages packed_form none_there refl m before after i j own.batch asked session o h s.state rec newer gone
        (changes_of packed_form one none_there refl m before after i j asked session o h s.state s.live rec table
        geometry tells told_later placed_each kept_before _ own) it_drops.drops finds kept_before

    behind_it : IsNext (cells_of pool) newer.rec gone.rec it_drops.drops.older (shows.reading rec)
    behind_it = next packed_form none_there refl m before after i j own.batch asked session o h s.state rec newer gone
        (changes_of packed_form one none_there refl m before after i j asked session o h s.state s.live rec table
        geometry tells told_later placed_each kept_before _ own) it_drops.drops finds kept_before everyone shows.layout
        shows.reading shows.sound

    dropped : IsDropped f (cells_of pool) newer.rec gone.rec it_drops.drops.older (shows.reading rec)
    dropped = dropped_of f (cells_of pool) newer.rec gone.rec it_drops.drops.older
        (newest_of rec (cells_of pool rec)) (shows.reading rec) reads_chain once
        (finds everyone shows.layout shows.reading shows.sound).committed behind_it

    one_version : (v w : Version) → Some (cells.Version v) ≡ Some (cells.Version w) → v ≡ w
    one_version v w is = cc

    kept_by : writer dropped.kept ≡ newer.tx.0
    kept_by = ap (λ (w : Version). w.tx.0) (one_version dropped.kept.version it_drops.drops.version
        (sym dropped.cell ∙ (ap (cells_of pool) dropped.at ∙ it_drops.drops.meets.cell)))
        ∙ ap (λ (n : TxNo). n.0) it_drops.drops.meets.by

    gone_by : writer dropped.gone ≡ gone.tx.0
    gone_by = ap (λ (w : Version). w.tx.0) dropped.version ∙ ap (λ (n : TxNo). n.0) it_drops.drops.behind.by

    kept_committed : s.state (writer dropped.kept) ≡ Committed
    kept_committed = ap s.state kept_by ∙ committed_is (s.state newer.tx.0) it_drops.kept

    gone_committed : s.state (writer dropped.gone) ≡ Committed
    gone_committed = ap s.state gone_by ∙ committed_is (s.state gone.tx.0) it_drops.dropped

    nobody : needed s.live (writer dropped.kept) (writer dropped.gone) ≡ false
    nobody = ap (λ (n : ℕ). needed s.live n (writer dropped.gone)) kept_by
        ∙ (ap (needed s.live newer.tx.0) gone_by ∙ it_drops.unneeded)

    says_too : SaysTheSame o h state table (dropped.front ++ dropped.kept ∷ dropped.gone ∷ dropped.rest)
        (dropped.front ++ with_back it_drops.drops.older.back dropped.kept ∷ dropped.rest)
    says_too = covered_says o h state table covered dropped.front it_drops.drops.older.back dropped.kept dropped.gone
        dropped.rest dropped.committed (sym (state_is (writer dropped.kept)) ∙ kept_committed)
        (sym (state_is (writer dropped.gone)) ∙ gone_committed)
        (saw_newer covered erased o h table.name (record_key table []) s.live stands.memory.live (writer dropped.kept)
        (writer dropped.gone) (committed_too (state_of o h (writer dropped.kept))
        (sym (state_is (writer dropped.kept)) ∙ kept_committed)) nobody)

    -- whoever works and takes the dropped one takes the one that stays
    takes_too : (u : ℕ) → s.state u ≡ Active → takes_version s.state s.live u (writer dropped.gone) ≡ true
        → takes_version s.state s.live u (writer dropped.kept) ≡ true
    takes_too u works takes =
        let other : (writer dropped.gone == u) ≡ false = ne_eqb (writer dropped.gone) u (λ same.
        let both : Committed ≡ Active = sym gone_committed ∙ (ap s.state same ∙ works) in absurd cc) in
        let both = both_of (is_committed (s.state (writer dropped.gone))) (sees s.live u (writer dropped.gone))
        (second_of (writer dropped.gone == u)
        (is_committed (s.state (writer dropped.gone)) && sees s.live u (writer dropped.gone)) other takes) in
        let saw : sees s.live u (writer dropped.kept) ≡ true = unneeded s.live u (writer dropped.kept)
        (writer dropped.gone) nobody (stands.memory.live.based u (sym (state_is u) ∙ works)) both.1 in
        either (writer dropped.kept == u) (is_committed (s.state (writer dropped.kept)))
        (sees s.live u (writer dropped.kept)) (committed_too (s.state (writer dropped.kept)) kept_committed) saw
      where
        either : (a b c : Bool) → b ≡ true → c ≡ true → (a || (b && c)) ≡ true
        either true b c is also = refl
        either false true true is also = refl
        either false true false is also = absurd cc
        either false false c is also = absurd cc

    abbrev left : List Entry
    left = skip_at newer.rec it_drops.drops.older.back (shows.reading rec)

    drop_step : StepReads left
    drop_step = record {
      mid = mid_pages;
      a = newer.rec.page.0;
      b = gone.rec.page.0;
      first = drops.put.page;
      second = drops.frees.page;
      reads = drop_reads packed_form none_there size state pool mid_pages later shows.layout shows.reading shows.sound
          rec newer.rec gone.rec table it_drops.drops.version it_drops.drops.older drops here.of
          (finds everyone shows.layout shows.reading shows.sound).committed behind_it;
      fronts = fronts_of (stands_of shows.layout);
      some = λ none. never_none dropped.front dropped.kept (dropped.gone ∷ dropped.rest) (sym dropped.are ∙ none);
      says = subst (λ (es : List Entry). SaysTheSame o h state table es left) (sym dropped.are)
          (subst (SaysTheSame o h state table (dropped.front ++ dropped.kept ∷ dropped.gone ∷ dropped.rest))
          (sym dropped.left) says_too);
      shown_same = λ u works. ap (shown_row (takes_version s.state s.live u)) dropped.left
          ∙ (shown_dropped (takes_version s.state s.live u) dropped.front it_drops.drops.older.back dropped.kept
          dropped.gone dropped.rest (takes_too u works)
          ∙ ap (shown_row (takes_version s.state s.live u)) (sym dropped.are));
    }
      where
        never_none : (front : List Entry) (a : Entry) (rest : List Entry) → front ++ a ∷ rest ≡ [] → ⊥
        never_none [] a rest none = absurd cc
        never_none (e ∷ front) a rest none = absurd cc

  -- ---- a step

  kept_after : CollectStep m s.state s.live rec before after
      → KeptIn packed_form size o h s.state asked session after j
  kept_after step = step_keeps packed_form one none_there refl D m before after i j asked session o h s.state s.live rec
      table geometry step tells told_later placed_each kept_before

  was_of : (fills : Image → Changed → Type 0) (own : ChangesOwn m before after fills)
      → WasChanged m before after i j own.batch
  was_of fills own = record {
    pool = pool_is;
    changes = record {
      ready = own.ready;
      geometry = geometry;
      keeps = own.keeps;
      frame = own.changed.frame;
      tells = tells;
      held = told_later.held;
    };
    crash = own.changed.crash;
    tells = told_later.told;
  }

  same_geometry : (fills : Image → Changed → Type 0) (own : ChangesOwn m before after fills)
      → after.geometry ≡ before.geometry
  same_geometry fills own = own.changed.geometry ∙ own.keeps.geometry

  pub step_stays : CollectStep m s.state s.live rec before after
      → StepStays m o h s list before after pool asked session rec table
  step_stays (takes_dead own) =
      let takes = own.filled i tells in
      stays own.batch (was_of _ own) (kept_after (takes_dead own)) (same_geometry _ own) _
      (dead_step own.batch (was_of _ own).changes takes.takes (kept_after (takes_dead own))
      (dead_is (s.state takes.takes.was.tx.0) takes.dead))
  step_stays (drops_unneeded newer gone own) =
      stays own.batch (was_of _ own) (kept_after (drops_unneeded newer gone own)) (same_geometry _ own) _
      (drop_step newer gone own)
  step_stays (takes_erased own) =
      let takes = own.filled i tells in
      let one_ = both_of takes.takes.was.deleted
      (is_committed (s.state takes.takes.was.tx.0) && all_see s.live takes.takes.was.tx.0) takes.erased in
      let two = both_of (is_committed (s.state takes.takes.was.tx.0)) (all_see s.live takes.takes.was.tx.0) one_.1 in
      stays own.batch (was_of _ own) (kept_after (takes_erased own)) (same_geometry _ own) _
      (erased_step own.batch (was_of _ own).changes takes.takes (kept_after (takes_erased own)) takes.alone two.0 two.1
      one_.0)
