-- A place for a record was taken in a table that a transaction may write into: the engine stands for the same history,
-- and no version of a key counts where none did.
use Rattle.std.proofs.Common.{◌≡◌, ◌⊎◌, inl, inr, refl, sym, ap, subst, ◌∙◌, ℕ, Bool, List, [], Option, None, Some}
use Rattle.mg_base.specs.Disk.{Meaning}
use Rattle.mg_base.specs.Image.{Image}
use Rattle.mg_base.specs.declared.geometry.Geometry.{Geometry}
use Rattle.mg_base.specs.declared.numbers.RecId.{RecId}
use Rattle.mg_base.specs.declared.transaction.TxState.{TxState}
use Rattle.mg_base.specs.declared.transaction.TxState.TheVariants.{Active}
use Rattle.mg_value.specs.declared.value.Value.{Value}
use Rattle.mg_chain.specs.Writing.{GivesSpot}
use Rattle.mg_tie_laws.specs.SpotRowTies.{HasSpotFor}
use Rattle.mg_engine_step_laws.specs.commits.ListShows.{BehindKeepsTips, ListsStay, TipsStayOn}
use Rattle.mg_engine_step_laws.specs.standing.Bare.{IsBare}
use Rattle.mg_engine_step_laws.specs.standing.BareLaws.{bare_grown, bare_has_found}
use Rattle.mg_engine_step_laws.specs.writes.Batches.{RowsLastStill}
use Rattle.mg_engine_step_laws.specs.writes.Reads.{grown_to}
use Rattle.mg_engine_step_laws.specs.writes.Writes.{IsSilentAt}
use Rattle.mg_engine_step_laws.specs.writes.WritesLaws.{finds_on}
use Rattle.mg_engine_step_laws.specs.writes.Knowing.{WasChanged}
use Rattle.mg_engine_step_laws.specs.writes.Rows.{HasPlace}
use Rattle.mg_engine_step_laws.specs.writes.SpotLaws.{bits, grown, spot, spot_stays}
use Rattle.mg_generation_laws.specs.Generations.{Generation}
use Rattle.mg_image_overlay_laws.specs.tables.Growing.{EndsAt, Grows, IsTableOf, TableEnd}
use Rattle.mg_image_overlay_laws.specs.tables.GrowingLaws.{StandsTo, table_of_end}
use Rattle.mg_tie_laws.specs.RoomTies.{GrowsSome, end_of, ends_there}
use Rattle.mg_image.specs.Form.{Pages, packed_coding, packed_form}
use Rattle.mg_image.specs.ReadingLaws.{RowsAreOne}
use Rattle.mg_image.specs.RecordRules.{Facts}
use Rattle.mg_image.specs.Records.{cells_of}
use Rattle.mg_image.specs.Sound.{facts_by}
use Rattle.mg_image.specs.Tables.{stands_of, table_at}
use Rattle.mg_image_overlay_laws.specs.pages.Kinds.{HasNoSequences}
use Rattle.mg_image_overlay_laws.specs.kept.KeptImages.{IsKept, AreFrontStands}
use Rattle.mg_lasting_laws.specs.Crashes.{HoldsAcknowledged, LeavesSince}
use Rattle.mg_lasting_laws.specs.Lasting.{LastsOn}
use Rattle.mg_model.specs.declared.opening.Opening.{Opening}
use Rattle.mg_model.specs.declared.table.Table.{Table}
use Rattle.mg_model.specs.History.{Entries}
use Rattle.mg_model.specs.Laws.{OpeningsBegin}
use Rattle.mg_model.specs.Openings.{everyone}
use Rattle.mg_overlay_laws.specs.Overlays.{left_state}
use Rattle.mg_image_overlay_laws.specs.names.Whose.{IsTableFor}
use Rattle.mg_pool.specs.Batch.{Changed, content_in, lists}
use Rattle.mg_pool.specs.Pool.{shown}
use Rattle.mg_pool.specs.declared.pool.Pool.{Pool}
use Rattle.mg_pool_overlay_laws.specs.Needs.{Asked, Sessions}
use Rattle.mg_seek.specs.Histories.{told_versions}
use Rattle.mg_space.specs.View.{viewed}
use Rattle.mg_space.specs.declared.links.FireLinks.{FireLinks}
use Rattle.mg_tie_laws.specs.Changed.{changed_fresh, fresh}
use Rattle.mg_engine_step_laws.specs.standing.StandingLaws.{IsChainOf}
use Rattle.mg_engine_step_laws.specs.standing.Standing.{ShowsHistory, Standing, Stands}
use Rattle.mg_engine_step_laws.specs.standing.Versions.{SpeaksFor, SpeaksOrSilent}
use Rattle.mg_image_overlay_laws.specs.pages.DataKept.{KeepsBits, data_self}
use Rattle.mg_txlist.specs.declared.list.TxList.{TxList}
use Rattle.mg_engine_meaning_laws.specs.PlainTables.{HasPlainTables}
use Rattle.mg_engine_meaning_laws.specs.Standings.{HasTips}
use Rattle.mg_engine_step_laws.specs.writes.WrittenTablePagesLaws.{then_keeps, to as grown_layout}
use Rattle.mg_image_overlay_laws.specs.tables.OneLayout.{StandsOneWay}
use Rattle.mg_engine_change_laws.specs.memory.Directories.{StaysKnown}
use Rattle.mg_engine_change_laws.specs.memory.RecordChanges.{grown_keeps}
use Rattle.mg_engine_change_laws.specs.rows.PlainLaws.{grown_keeps_plain}
use Rattle.mg_engine_change_laws.specs.rows.TipLaws.{growth_keeps_tips}
use Rattle.mg_engine_change_laws.specs.rows.Tips.{KeepsTips}
use Rattle.mg_engine_change_laws.specs.rows.WalkLaws.{others_walk_on}
use Rattle.mg_engine_change_laws.specs.rows.Walks.{OthersWalkOn}

-- ---- what is taken

-- Pages show a history, and have a free place of a table, where no version of a key counts.
pub record HasSpotOf (size : ℕ) (o : Opening) (h : Entries) (s : Standing) (list : TxList) (pages : Pages)
    (table : Table) (at : RecId) (name : List ℕ) (key : Value) : Type 0 where
  pub stands : Stands packed_form size o h s (Some pages)
  pub tips : HasTips list size pages
  pub plain : HasPlainTables size s.state pages
  pub its : IsTableOf stands.shows.layout table
  pub placed : table_at (stands_of stands.shows.layout) at.page.0 ≡ Some table
  pub blank : cells_of pages at ≡ None
  pub silent : IsSilentAt packed_form size o h s pages stands.shows name key

-- A place was taken: the cache, and its pages.
pub record HasTaken {D : Type 0} (m : Meaning D) (o : Opening) (h : Entries) (s : Standing) (list : TxList)
    (before after : Pool D FireLinks) (was : Pages) (asked : Asked) (session : Sessions) (table : Table) (at : RecId)
    (name : List ℕ) (key : Value) (t : ℕ) : Type 0 where
  pub image : Image
  pub held : m.held after.disk ≡ Some image
  pub keeps : KeepsTips before.geometry.size was (shown after.dirty image)
  pub lasts : LastsOn m packed_form o h after asked session
  pub leaves : LeavesSince m before.disk after.disk (HoldsAcknowledged packed_form before.dirty.size o h)
  pub others : OthersWalkOn before.geometry.size s was (shown after.dirty image) t
  pub known : StaysKnown before.geometry.size s.state was (shown after.dirty image)
  pub spot_of : HasSpotOf after.geometry.size o h s list (shown after.dirty image) table at name key

-- ---- it was taken

none_in : HasNoSequences packed_form
none_in page n is = is

module _ (one : RowsAreOne packed_coding) (one_way : StandsOneWay packed_form) (begins : OpeningsBegin) (on : TipsStayOn) (behind : BehindKeepsTips)
    (lists_stay : ListsStay) {D : Type 0} (m : Meaning D) (still : RowsLastStill D FireLinks m packed_form)
    (o : Opening) (h : Entries) (s : Standing) (before after : Pool D FireLinks) (i j : Image) (batch : Changed)
    (list : TxList) (asked : Asked) (session : Sessions)
    (stands : Stands packed_form before.geometry.size o h s (Some (shown before.dirty i))) (t : ℕ) (table : Table)
    (at : RecId) (lasts : LastsOn m packed_form o h before asked session)
    (was : WasChanged m before after i j batch) (gives : GivesSpot before i fresh batch table.pointer.0 at)
    (active : s.state t ≡ Active) (its : IsTableOf stands.shows.layout table)
    (whose : IsTableFor packed_form before.geometry.size t s.state (shown before.dirty i) table)
    (plain : HasPlainTables before.geometry.size s.state (shown before.dirty i))
    (kept_each : (chosen : ℕ → Bool) → IsKept packed_form before.geometry.size o h (left_state chosen s.state)
    (shown before.dirty i) (shown before.dirty i))
    (tips : HasTips list before.geometry.size (shown before.dirty i)) (name : List ℕ) (key : Value)
    (silent : IsSilentAt packed_form before.geometry.size o h s (shown before.dirty i) stands.shows name key) where
  abbrev size : ℕ
  size = before.geometry.size

  abbrev pool : Pages
  pool = shown before.dirty i

  abbrev later : Pages
  later = shown after.dirty j

  abbrev state : ℕ → TxState
  state = left_state everyone s.state

  abbrev shows : ShowsHistory packed_form size o h s pool
  shows = stands.shows

  place : HasPlace m packed_form size o h s before after j asked session table at
  place = spot_stays D FireLinks m packed_form one none_in begins still o h s before after i j batch asked session
      stands t table at lasts was gives active its whose

  abbrev end : TableEnd
  end = end_of gives.gives.pointers gives.gives.data_pages

  more : GrowsSome packed_form.in_primary size table.pointer.0 (lists batch.orders) (content_in batch.pages) pool
      (end_of gives.gives.pointers gives.gives.data_pages) (viewed before i batch)
  more = grown D FireLinks m packed_form one none_in begins still o h s before after i j batch asked session stands t
      table at lasts was gives active its whose

  grows : Grows packed_form.in_primary size table.pointer.0 (lists batch.orders) (content_in batch.pages) pool
      (end_of gives.gives.pointers gives.gives.data_pages) (shown after.dirty j) more.final
  grows = subst (λ (pages : Pages). Grows packed_form.in_primary size table.pointer.0 (lists batch.orders)
      (content_in batch.pages) pool end pages more.final)
      (sym (changed_fresh m before after i j batch asked session was.changes).pool) more.grows

  ends : EndsAt shows.layout table (end_of gives.gives.pointers gives.gives.data_pages)
  ends = ends_there packed_form size state pool shows.layout shows.reading shows.sound table its gives.gives.pointers
      gives.gives.data_pages gives.gives.table

  stood : StandsTo packed_form size state pool (shown after.dirty j) shows.layout shows.reading table more.final
  stood = grown_to packed_form one none_in size state pool later shows.layout shows.reading shows.sound table
      (lists batch.orders) (content_in batch.pages) end more.final grows ends

  there : HasSpotFor packed_form size after j asked session o h s.state table at
  there = spot D FireLinks m packed_form one none_in begins still o h s before after i j batch asked session stands t
      table at lasts was gives active its whose

  kept_bits : KeepsBits size pool (shown after.dirty j)
  kept_bits = bits D FireLinks m packed_form one none_in begins still o h s before after i j batch asked session
      stands t table at lasts was gives active its whose

  abbrev g : Facts
  g = facts_by (left_state everyone s.state) (shown after.dirty j) stood.layout

  speaks_on : (n : List ℕ) (k : Value) (speaker : Option RecId)
      → SpeaksFor o h (facts_by (left_state everyone s.state) pool shows.layout) shows.reading n k speaker
      → SpeaksFor o h g shows.reading n k speaker
  speaks_on n k None none = none
  speaks_on n k (Some p) (it, versions) = (
    record {
      table = it.table;
      of_table = stood.grown.stays p.page.0 it.table it.of_table;
      named = it.named;
      some = it.some;
      keyed = it.keyed;
    },
    versions,
  )

  others_on : (p : RecId) (x : Table) → table_at (stands_of stood.layout) p.page.0 ≡ Some x
      → SpeaksOrSilent o h g shows.reading shows.versions.speaker p x
  others_on p x of = by (stood.grown.new p.page.0 x of)
    where
      by : (table_at (stands_of shows.layout) p.page.0 ≡ Some x)
          ⊎ ((q : RecId) → q.page.0 ≡ p.page.0 → shows.reading q ≡ [])
          → SpeaksOrSilent o h g shows.reading shows.versions.speaker p x
      by (inl was_) = shows.versions.others p x was_
      by (inr none) = inl (ap (told_versions g.state x) (none p refl))

  -- who speaks for the key spoke for it
  chain_was : (speaker : Option RecId) (chain : List Generation) → IsChainOf g shows.reading name key speaker chain
      → IsChainOf (facts_by (left_state everyone s.state) pool shows.layout) shows.reading name key speaker chain
  chain_was None chain is = is
  chain_was (Some p) chain (it, is) = by (stood.grown.new p.page.0 it.table it.of_table)
    where
      by : (table_at (stands_of shows.layout) p.page.0 ≡ Some it.table)
          ⊎ ((q : RecId) → q.page.0 ≡ p.page.0 → shows.reading q ≡ [])
          → IsChainOf (facts_by (left_state everyone s.state) pool shows.layout) shows.reading name key (Some p) chain
      by (inl was_) = (
        record { table = it.table; of_table = was_; named = it.named; some = it.some; keyed = it.keyed },
        is,
      )
      by (inr none) = absurd (it.some (none p refl))

  pub keeps_tips : KeepsTips size pool (shown after.dirty j)
  keeps_tips = growth_keeps_tips on behind packed_form one none_in size o h state pool later shows.layout shows.reading
      table (lists batch.orders) (content_in batch.pages) end more.final (kept_each everyone) shows.sound grows ends

  bare_on : IsBare stood.layout
  bare_on = bare_grown shows.layout stood.layout shows.reading stood.grown shows.bare

  spot_now : HasSpotOf size o h s list (shown after.dirty j) table at name key
  spot_now = record {
    stands = record {
      opening = stands.opening;
      legal = stands.legal;
      memory = stands.memory;
      shows = record {
        layout = stood.layout;
        reading = shows.reading;
        sound = stood.sound;
        next = kept_bits.next ∙ shows.next;
        versions = record {
          speaker = shows.versions.speaker;
          speaks = λ n k. speaks_on n k (shows.versions.speaker n k) (shows.versions.speaks n k);
          others = others_on;
        };
        tables = λ u is. finds_on o h s shows.layout stood.layout shows.reading u stood.grown (shows.tables u is);
        found = bare_has_found packed_form size state later stood.layout shows.reading stood.sound bare_on s.state s.live;
        bare = bare_on;
      };
    };
    tips = lists_stay list list size pool later refl refl keeps_tips.next keeps_tips.tips tips;
    plain = grown_keeps_plain one size o h s.state pool later shows.layout stood.layout shows.reading at shows.sound
        stood.sound stood.grown kept_each plain;
    its = table_of_end stood.layout table more.final stood.ends;
    placed = there.placed everyone stood.layout shows.reading stood.sound
        (table_of_end stood.layout table more.final stood.ends);
    blank = there.blank;
    silent = λ chain of. silent chain (chain_was (shows.versions.speaker name key) chain of);
  }

  spot_fronts : AreFrontStands (stands_of shows.layout) (stands_of stood.layout)
  spot_fronts = then_keeps packed_form one none_in size o h state pool later shows.layout shows.reading table
      (lists batch.orders) (content_in batch.pages) end more.final (kept_each everyone) shows.sound grows ends later
      (data_self packed_form size state later (grown_layout packed_form one none_in size o h state pool later
      shows.layout shows.reading table (lists batch.orders) (content_in batch.pages) end more.final
      (kept_each everyone) shows.sound grows ends).layout shows.reading (grown_layout packed_form one none_in size o h
      state pool later shows.layout shows.reading table (lists batch.orders) (content_in batch.pages) end more.final
      (kept_each everyone) shows.sound grows ends).sound)
      (record { now = stood.layout; reading = shows.reading; sound = stood.sound; grown = stood.grown })

  spot_others : OthersWalkOn size s pool (shown after.dirty j) t
  spot_others = others_walk_on one size s pool later shows.layout shows.reading at (shows.reading at) shows.sound
      (record {
        layout = stood.layout;
        reading = shows.reading;
        sound = stood.sound;
        grown = stood.grown;
        here = refl;
        others = λ q ne. refl;
      }) spot_fronts t active (λ counts off. refl)

  pub spot_taken_by : after.geometry ≡ before.geometry → m.held after.disk ≡ Some j
      → HasTaken m o h s list before after (shown before.dirty i) asked session table at name key t
  spot_taken_by geometry held = record {
    image = j;
    held = held;
    keeps = keeps_tips;
    lasts = place.stays.lasts;
    leaves = place.stays.leaves;
    others = spot_others;
    known = grown_keeps one_way size s.state pool later shows.layout stood.layout shows.reading shows.sound stood.sound
        stood.grown.stays;
    spot_of = subst (λ (g_ : Geometry). HasSpotOf g_.size o h s list (shown after.dirty j) table at name key)
        (sym geometry) spot_now;
  }
