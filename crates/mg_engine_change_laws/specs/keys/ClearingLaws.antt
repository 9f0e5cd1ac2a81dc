-- A dead transaction's version is taken out of the record that speaks for a key: the engine stands for the same history,
-- the record speaks on, and its newest version is committed. The versions behind are committed; so the table is one that
-- a committed row of the catalog names, and stands whichever transactions count.
use Rattle.std.proofs.Common.{◌≡◌, ◌≢◌, inl, inr, refl, sym, ap, subst, ◌∙◌, not, cond, ℕ, Bool, true, false, List, [], ◌∷◌, None, Some}
use Rattle.std.specs.Prelude.{if◌then◌else◌, map}
use Rattle.std.proofs.Math.Path.{fun_ext}
use Rattle.std.proofs.lemmas.Bool.{false≢true}
use Rattle.mg_base.specs.Disk.{Meaning}
use Rattle.mg_base.specs.Image.{Image}
use Rattle.mg_base.specs.declared.geometry.Geometry.{Geometry}
use Rattle.mg_base.specs.declared.numbers.RecId.{RecId}
use Rattle.mg_base.specs.declared.numbers.TxNo.{TxNo}
use Rattle.mg_base.specs.declared.transaction.TxState.{TxState}
use Rattle.mg_base.specs.declared.transaction.TxState.TheVariants.{Active, Committed, Dead, Limbo}
use Rattle.mg_value.specs.declared.value.Value.{Value}
use Rattle.mg_chain.specs.Chains.{takes_version}
use Rattle.mg_chain.specs.Views.{first_entry, is_dead as is_dead_state}
use Rattle.mg_chain.specs.Writing.{TakesOut}
use Rattle.mg_tie_laws.specs.BackTies.{pages as out_pages}
use Rattle.mg_tie_laws.specs.Newest.{BeginsAt, begins, newest_found, newest_placed}
use Rattle.mg_tie_laws.specs.Rows.{ForEach}
use Rattle.mg_engine_step_laws.specs.writes.GoesOnLaws.{taking_out_is_read}
use Rattle.mg_engine_step_laws.specs.standing.Known.{bases_see_all}
use Rattle.mg_engine_step_laws.specs.commits.ListShows.{BehindKeepsTips, ListsStay, TipsStayOn}
use Rattle.mg_engine_step_laws.specs.standing.Standing.{ShowsHistory, Standing, Stands}
use Rattle.mg_engine_step_laws.specs.standing.Versions.{SpeaksOrSilent, told_version}
use Rattle.mg_engine_step_laws.specs.writes.Writes.{ReadsAfter}
use Rattle.mg_engine_step_laws.specs.writes.Caches.{kept_now}
use Rattle.mg_engine_step_laws.specs.standing.Choices.{placed}
use Rattle.mg_engine_step_laws.specs.writes.Knowing.{MayWriteInto, WasChanged}
use Rattle.mg_engine_step_laws.specs.writes.Rows.{DeadsGo, HasStayed}
use Rattle.mg_engine_step_laws.specs.writes.WrittenTablePagesLaws.{taking_out_keeps_pages}
use Rattle.mg_generation_laws.specs.Kept.{IsErasedForAll}
use Rattle.mg_image.specs.Catalog.{IsNamed, MayStandIn}
use Rattle.mg_image.specs.Held.{told_row}
use Rattle.mg_image.specs.Form.{Pages, packed_coding, packed_form}
use Rattle.mg_image.specs.ReadingLaws.{RowsAreOne}
use Rattle.mg_image.specs.RecordRules.{Each, EachBack, Facts, IsVersion}
use Rattle.mg_image.specs.Records.{Reading, cells_of, record_key, shown as shown_row, writer}
use Rattle.mg_image.specs.Sound.{facts_by}
use Rattle.mg_image.specs.Tables.{Layout, stands_of, table_at}
use Rattle.mg_image.specs.declared.entry.Entry.{Entry}
use Rattle.mg_image_overlay_laws.specs.records.Fronts.{is_dead}
use Rattle.mg_image_overlay_laws.specs.pages.Kinds.{HasNoSequences}
use Rattle.mg_image_overlay_laws.specs.kept.KeptImages.{AreFrontStands, IsKept}
use Rattle.mg_lasting_laws.specs.Lasting.{LastsOn}
use Rattle.mg_model.specs.Answers.{is_committed}
use Rattle.mg_model.specs.Catalog.{catalog_name}
use Rattle.mg_model.specs.History.{Entries}
use Rattle.mg_model.specs.Openings.{everyone}
use Rattle.mg_model.specs.declared.opening.Opening.{Opening}
use Rattle.mg_model.specs.declared.table.Table.{Table}
use Rattle.mg_overlay_laws.specs.Overlays.{left_by, left_state}
use Rattle.mg_pool.specs.Batch.{Changed}
use Rattle.mg_pool.specs.Pool.{shown}
use Rattle.mg_pool.specs.declared.pool.Pool.{Pool}
use Rattle.mg_pool_overlay_laws.specs.Needs.{Asked, Sessions}
use Rattle.mg_seek.specs.Histories.{told_given, told_versions}
use Rattle.mg_seek.specs.Readings.{SpeakIn, SpeakersOfReadings}
use Rattle.mg_seek.specs.Speaking.{Speaks, is_erased_for_all}
use Rattle.mg_seek.specs.Versions.{wants}
use Rattle.mg_seek.specs.declared.whose.Wanted.TheVariants.{Living}
use Rattle.mg_snap.specs.Live.{all_see}
use Rattle.mg_space.specs.View.{viewed}
use Rattle.mg_space.specs.declared.links.FireLinks.{FireLinks}
use Rattle.mg_tie_laws.specs.Changed.{KeptIn, fresh}
use Rattle.mg_image_overlay_laws.specs.records.BackPart.{TakesOutPages}
use Rattle.mg_image_overlay_laws.specs.pages.DataKept.{KeepsBits}
use Rattle.mg_image_overlay_laws.specs.tables.Growing.{IsTableOf}
use Rattle.mg_image_overlay_laws.specs.tables.OneLayout.{sound_once}
use Rattle.mg_image_overlay_laws.specs.records.OwnVersion.{FindsNewest}
use Rattle.mg_txlist.specs.declared.list.TxList.{TxList}
use Rattle.mg_version.specs.declared.cell.Cell.TheVariants as cells
use Rattle.mg_version.specs.declared.cell.Link.{Link}
use Rattle.mg_version.specs.declared.cell.Version.{Version}
use Rattle.mg_engine_meaning_laws.specs.PlainTables.{HasPlainTables}
use Rattle.mg_engine_meaning_laws.specs.Standings.{HasTips}
use Rattle.mg_noted_laws.specs.ChoiceTables.{stands_by_committed}
use Rattle.mg_engine_change_laws.specs.keys.Clearing.{HasCleared, HasSettled}
use Rattle.mg_engine_change_laws.specs.rows.OwnerLaws.{committed_only}
use Rattle.mg_engine_change_laws.specs.rows.Plain.{WritesKeepPlain}
use Rattle.mg_engine_change_laws.specs.rows.TipLaws.{taking_out_keeps_tips}
use Rattle.mg_engine_change_laws.specs.rows.Tips.{KeepsTips}
use Rattle.mg_engine_change_laws.specs.rows.WalkLaws.{same_walk_on, unseen}
use Rattle.mg_engine_change_laws.specs.memory.RecordChanges.{taken_keeps}
use Rattle.mg_image_overlay_laws.specs.tables.OneLayout.{StandsOneWay}
use Rattle.mg_engine_change_laws.specs.rows.Walks.{OthersWalkOn}

none_there : HasNoSequences packed_form
none_there page n is = is

-- who is committed where active ones count as in limbo is committed
left_committed : (x : TxState) → left_by true x ≡ Committed → x ≡ Committed
left_committed Active is = absurd cc
left_committed Limbo is = absurd cc
left_committed Dead is = absurd cc
left_committed Committed is = refl

-- a row that is none is that of a deletion
deleted_one : (table : Table) (e : Entry) → told_given table e ≡ None → e.version.deleted ≡ true
deleted_one table e none = at e.version.deleted refl
  where
    at : (b : Bool) → e.version.deleted ≡ b → e.version.deleted ≡ true
    at true is = is
    at false is = let both : None ≡ Some (told_row table e.row) = sym none
        ∙ ap (λ (d : Bool). if d then None else Some (told_row table e.row)) is in absurd cc

-- The versions behind begin with the one that lives.
pub record LivesBehind (older : List Entry) (lives : Entry) : Type 0 where
  pub head : Entry
  pub rest : List Entry
  pub is_ : older ≡ head ∷ rest
  pub same : head ≡ lives

module _ (one : RowsAreOne packed_coding) (one_way : StandsOneWay packed_form) (on : TipsStayOn) (behind : BehindKeepsTips) (lists_stay : ListsStay)
    (keep_plain : WritesKeepPlain) (speak : SpeakersOfReadings) {D : Type 0} (m : Meaning D)
    (deads : DeadsGo packed_form D FireLinks m) (o : Opening) (h : Entries) (s : Standing)
    (before after : Pool D FireLinks) (i j : Image) (batch : Changed) (list : TxList) (asked : Asked)
    (session : Sessions) (stands : Stands packed_form before.geometry.size o h s (Some (shown before.dirty i)))
    (t : ℕ) (its : Table) (rec : RecId) (key : Value) (lasts : LastsOn m packed_form o h before asked session)
    (was : WasChanged m before after i j batch) (takes : TakesOut before i fresh batch rec)
    (active : s.state t ≡ Active) (dead : s.state takes.newest.tx.0 ≡ Dead)
    (may : MayWriteInto packed_form before.geometry.size s.state (shown before.dirty i) stands.shows.layout
    stands.shows.reading t its)
    (off_catalog : its.name ≢ catalog_name) (plain : HasPlainTables before.geometry.size s.state (shown before.dirty i))
    (kept_each : (chosen : ℕ → Bool) → IsKept packed_form before.geometry.size o h (left_state chosen s.state)
    (shown before.dirty i) (shown before.dirty i))
    (tips : HasTips list before.geometry.size (shown before.dirty i))
    (of : table_at (stands_of stands.shows.layout) rec.page.0 ≡ Some its)
    (speaks : Speaks s.state s.live (shown before.dirty i) its key rec) where
  abbrev size : ℕ
  size = before.geometry.size

  abbrev pool : Pages
  pool = shown before.dirty i

  abbrev later : Pages
  later = shown after.dirty j

  abbrev state : ℕ → TxState
  state = left_state everyone s.state

  abbrev shows : ShowsHistory packed_form size o h s pool
  shows = stands.shows

  abbrev f : Facts
  f = facts_by (left_state everyone s.state) (shown before.dirty i) stands.shows.layout

  -- ---- the versions of the record

  it : FindsNewest (facts_by (left_state everyone s.state) (shown before.dirty i) stands.shows.layout)
      stands.shows.reading rec its takes.newest.rec takes.was
  it = newest_found packed_form size state pool shows.layout shows.reading shows.sound rec its of takes.newest
      takes.its.head.slot takes.was takes.its.meets.cell

  dead_was : s.state takes.was.tx.0 ≡ Dead
  dead_was = ap (λ (n : TxNo). s.state n.0) takes.its.meets.by ∙ dead

  dead_newest : s.state (writer it.newest) ≡ Dead
  dead_newest = ap (λ (w : Version). s.state w.tx.0) it.version ∙ dead_was

  backs : Each (λ e. f.state (writer e) ≡ Committed) it.older
  backs = subst (EachBack (λ e. f.state (writer e) ≡ Committed)) it.first (shows.sound.records.each rec its of).backs

  spoken_in : SpeakIn s.state s.live its key (stands.shows.reading rec)
  spoken_in = (speak s.state s.live pool its key rec f shows.reading
      (record { lawful = shows.sound.records; of_table = of })).0 speaks

  first_older : first_entry (wants s.state s.live Living) it.older ≡ Some spoken_in.newest
  first_older = sym (ap (first_entry (wants s.state s.live Living)) it.first
      ∙ ap (λ (x : TxState). cond (not (is_dead_state x)) (Some it.newest)
      (first_entry (wants s.state s.live Living) it.older)) dead_newest) ∙ spoken_in.first

  lives : LivesBehind it.older spoken_in.newest
  lives = at it.older refl backs first_older
    where
      at : (es : List Entry) → it.older ≡ es → Each (λ e. f.state (writer e) ≡ Committed) es
          → first_entry (wants s.state s.live Living) es ≡ Some spoken_in.newest
          → LivesBehind it.older spoken_in.newest
      at [] is each some = absurd cc
      at (e ∷ es) is each some =
          let found : Some e ≡ Some spoken_in.newest =
          sym (ap (λ (x : TxState). cond (not (is_dead_state x)) (Some e)
          (first_entry (wants s.state s.live Living) es))
          (left_committed (s.state (writer e)) each.0)) ∙ some in
          record { head = e; rest = es; is_ = is; same = cc }

  head_committed : f.state (writer lives.head) ≡ Committed
  head_committed = (subst (Each (λ e. f.state (writer e) ≡ Committed)) lives.is_ backs).0

  key_of_older : record_key its it.older ≡ key
  key_of_older = ap (record_key its) lives.is_ ∙ ((subst (Each (IsVersion packed_coding f its
      (record_key its (shows.reading rec)))) lives.is_ (subst (Each (IsVersion packed_coding f its
      (record_key its (shows.reading rec)))) it.first (shows.sound.records.each rec its of).each).1).0.keyed
      ∙ spoken_in.keyed)

  -- ---- the table

  named : IsNamed f stands.shows.reading stands.shows.layout.catalog.table its.name
  named = at (subst (Each (MayStandIn f shows.reading shows.layout.catalog.table its)) lives.is_
      (subst (Each (MayStandIn f shows.reading shows.layout.catalog.table its)) it.first
      (shows.sound.own_tables rec its of)).1).0
    where
      at : MayStandIn f shows.reading shows.layout.catalog.table its lives.head
          → IsNamed f shows.reading shows.layout.catalog.table its.name
      at (inl same) = absurd (off_catalog same)
      at (inr (inl is)) = is
      at (inr (inr (inl gone))) = let both : Committed ≡ Dead = sym head_committed ∙ gone in absurd cc
      at (inr (inr (inr made))) =
          let both : Limbo ≡ Committed = sym made.limbo.limbo ∙ (ap f.state made.its_own ∙ head_committed) in
          absurd cc

  each : ForEach packed_form before.geometry.size s.state (shown before.dirty i) (λ st layout r. IsTableOf layout its)
  each chosen layout q sound = stands_by_committed one size s.state pool shows.layout shows.reading shows.sound chosen
      layout q sound (plain.agree everyone chosen shows.layout layout shows.reading q shows.sound sound) its may.stands
      named.place named.row (record {
        of_table = named.shows.of_table;
        row_shown = ap (λ (c : ℕ → Bool). shown_row c (shows.reading named.place)) (fun_ext (committed_only f))
            ∙ named.shows.row_shown;
      }) named.keyed

  -- ---- it is taken out

  stayed : HasStayed m packed_form before.geometry.size o h s before after j asked session
  stayed = deads o h s before after i j batch asked session stands t its rec lasts was takes active dead_was each
      may.no_catalog of

  abbrev b : Layout
  b = stayed.stands.shows.layout

  abbrev q : Reading
  q = stayed.stands.shows.reading

  abbrev g : Facts
  g = facts_by (left_state everyone s.state) (shown after.dirty j) stayed.stands.shows.layout

  placed_here : ForEach packed_form before.geometry.size s.state (shown before.dirty i)
      (λ st layout r. IsTableOf layout its → table_at (stands_of layout) rec.page.0 ≡ Some its)
  placed_here chosen layout r sound there = placed packed_form one size s.state pool shows.layout shows.reading
      shows.sound chosen layout r sound its may.stands there rec.page.0 of

  every : KeptIn packed_form before.geometry.size o h s.state asked session before i
  every = kept_now m packed_form o h s before after i j batch asked session stands.memory was lasts

  taken : TakesOutPages packed_form.in_primary (shown before.dirty i) (viewed before i takes.taken.swings.turned)
      (shown after.dirty j) rec takes.newest.rec takes.was takes.newest
  taken = out_pages packed_form one none_there refl m before after i j batch asked session o h t s.state rec its
      was.changes takes active may.whose placed_here every

  reads : ReadsAfter packed_form before.geometry.size (left_state everyone s.state) (shown before.dirty i)
      (shown after.dirty j) stands.shows.layout stands.shows.reading rec it.older
      × KeepsBits before.geometry.size (shown before.dirty i) (shown after.dirty j)
  reads = taking_out_is_read packed_form one none_there size state pool (viewed before i takes.taken.swings.turned)
      later shows.layout shows.reading its rec takes.newest.rec takes.was it.newest it.older takes.newest b q
      shows.sound taken it.first it.at it.version of
      (newest_placed packed_form size state pool shows.layout shows.reading shows.sound rec its of takes.newest
      takes.its.head.slot)
      may.no_catalog stayed.stands.shows.sound

  same_after : (reads.0.layout ≡ stayed.stands.shows.layout) × (reads.0.reading ≡ stayed.stands.shows.reading)
  same_after = sound_once packed_form one none_there size state later reads.0.layout b reads.0.reading q
      reads.0.sound stayed.stands.shows.sound

  here_after : stayed.stands.shows.reading rec ≡ lives.head ∷ lives.rest
  here_after = ap (λ (x : Reading). x rec) (sym same_after.1) ∙ (reads.0.here ∙ lives.is_)

  of_after : table_at (stands_of stayed.stands.shows.layout) rec.page.0 ≡ Some its
  of_after = ap (λ (l : Layout). table_at (stands_of l) rec.page.0) (sym same_after.0)
      ∙ reads.0.grown.stays rec.page.0 its of

  -- ---- it speaks on

  told_after : told_versions g.state its (stayed.stands.shows.reading rec)
      ≡ told_version its lives.head ∷ map (told_version its) lives.rest
  told_after = ap (told_versions g.state its) here_after
      ∙ ap (λ (x : TxState). map (told_version its) (if is_dead x then lives.rest else lives.head ∷ lives.rest))
      head_committed

  not_erased : IsErasedForAll o h (told_versions g.state its (stayed.stands.shows.reading rec)) → ⊥
  not_erased erased = at (subst (IsErasedForAll o h) told_after erased)
    where
      at : IsErasedForAll o h (told_version its lives.head ∷ map (told_version its) lives.rest) → ⊥
      at (seen, none) =
          let gone : lives.head.version.deleted ≡ true = deleted_one its lives.head none in
          let all : all_see s.live (writer lives.head) ≡ true =
          bases_see_all size o h s pool (record { memory = stands.memory; shows = stands.shows })
          (writer lives.head) seen in
          let settled_ : s.state (writer lives.head) ≡ Committed =
          left_committed (s.state (writer lives.head)) head_committed in
          false≢true (sym spoken_in.stays ∙ (ap (λ (e : Entry). is_erased_for_all s.state s.live e.version)
          (sym lives.same) ∙ rw (gone, settled_, all) refl))

  speaks_after : stayed.stands.shows.versions.speaker its.name key ≡ Some rec
  speaks_after = at (stayed.stands.shows.versions.others rec its of_after)
    where
      key_after : record_key its (stayed.stands.shows.reading rec) ≡ key
      key_after = ap (record_key its) (here_after ∙ sym lives.is_) ∙ key_of_older

      at : SpeaksOrSilent o h g stayed.stands.shows.reading stayed.stands.shows.versions.speaker rec its
          → stayed.stands.shows.versions.speaker its.name key ≡ Some rec
      at (inl empty) =
          let both : told_version its lives.head ∷ map (told_version its) lives.rest ≡ [] = sym told_after ∙ empty in
          absurd cc
      at (inr (inl erased)) = absurd (not_erased erased)
      at (inr (inr spoken)) = ap (stayed.stands.shows.versions.speaker its.name) (sym key_after) ∙ spoken

  settled_after : (newest : Link) → cells_of (shown after.dirty j) rec ≡ Some (cells.Anchor newest)
      → s.state newest.tx.0 ≡ Committed
  settled_after newest slot =
      let it_ : BeginsAt (cells_of later) (q rec) newest =
      begins packed_form size state later b q stayed.stands.shows.sound rec its of_after newest slot in
      let both : lives.head ∷ lives.rest ≡ it_.newest ∷ it_.older = sym here_after ∙ it_.first in
      let same : lives.head ≡ it_.newest = cc in
      ap (λ (n : TxNo). s.state n.0) (sym it_.opens.2) ∙ (ap (λ (e : Entry). s.state (writer e)) (sym same)
      ∙ left_committed (s.state (writer lives.head)) head_committed)

  -- ---- what it leaves

  keeps_tips : KeepsTips before.geometry.size (shown before.dirty i) (shown after.dirty j)
  keeps_tips = taking_out_keeps_tips on behind packed_form one none_there size state pool
      (viewed before i takes.taken.swings.turned) later shows.layout shows.reading rec takes.newest.rec takes.was
      takes.newest shows.sound taken

  fronts : AreFrontStands (stands_of stands.shows.layout) (stands_of reads.0.layout)
  fronts = taking_out_keeps_pages packed_form one none_there size state pool
      (viewed before i takes.taken.swings.turned) later shows.layout shows.reading rec takes.newest.rec takes.was
      takes.newest shows.sound taken (record {
        now = reads.0.layout;
        reading = reads.0.reading;
        sound = reads.0.sound;
        grown = reads.0.grown;
      })

  others_on : OthersWalkOn before.geometry.size s (shown before.dirty i) (shown after.dirty j) t
  others_on = same_walk_on one size s pool later shows.layout shows.reading rec it.older shows.sound reads.0 fronts t
      same_shown
    where
      same_shown : (u : ℕ) → u ≢ t → s.state u ≡ Active → shown_row (takes_version s.state s.live u) it.older
          ≡ shown_row (takes_version s.state s.live u) (shows.reading rec)
      same_shown u apart also = sym (ap (shown_row (takes_version s.state s.live u)) it.first
          ∙ ap (λ (x : Bool). if x then (if it.newest.version.deleted then None else Some it.newest.row)
          else shown_row (takes_version s.state s.live u) it.older)
          (unseen s (writer it.newest) u (ap is_committed dead_newest) other_one))
        where
          other_one : u ≢ writer it.newest
          other_one same = let both : Active ≡ Dead = sym also ∙ (ap s.state same ∙ dead_newest) in absurd cc

  pub cleared : after.geometry ≡ before.geometry → m.held after.disk ≡ Some j
      → HasCleared m o h s list before after (shown before.dirty i) asked session rec its.name key t
  cleared geometry held = record {
    image = j;
    held = held;
    keeps = keeps_tips;
    lasts = stayed.lasts;
    leaves = stayed.leaves;
    others = others_on;
    known = taken_keeps one_way size s.state pool later shows.layout shows.reading shows.sound rec it.older reads.0
        it.newest it.first;
    settled_of = subst (λ (x : Geometry). HasSettled x.size o h s list (shown after.dirty j) rec its.name key)
        (sym geometry) (record {
          stands = stayed.stands;
          tips = lists_stay list list size pool later refl refl keeps_tips.next keeps_tips.tips tips;
          plain = keep_plain size o h s.state pool later shows.layout shows.reading rec it.older its shows.sound
              reads.0 of may.no_catalog kept_each plain;
          speaks = speaks_after;
          settled = settled_after;
        });
  }
