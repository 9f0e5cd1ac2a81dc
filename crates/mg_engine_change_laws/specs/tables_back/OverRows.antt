-- Taking back over tables stops at a row of the catalog: the ones before it have gone.
use Rattle.std.proofs.Common.{◌≡◌, ◌∙◌, ◌∷◌, ◌++◌, [], ℕ, List, ap, refl, subst, sym}
use Rattle.mg_base.specs.Disk.{Meaning}
use Rattle.mg_base.specs.declared.numbers.TxNo.{TxNo}
use Rattle.mg_model.specs.History.{Entries, Entry, entry}
use Rattle.mg_model.specs.Machine.{deeds_by, steps}
use Rattle.mg_model.specs.declared.answer.Answer.TheVariants.{Fine}
use Rattle.mg_model.specs.declared.change.Change.{Change}
use Rattle.mg_model.specs.declared.change.Point.{Point}
use Rattle.mg_model.specs.declared.opening.Opening.{Opening}
use Rattle.mg_model.specs.declared.refusal.Refusal.{Refusal}
use Rattle.mg_pool.specs.Pool.{shown}
use Rattle.mg_undo.specs.Machine.{first_of, going_to}
use Rattle.mg_undo.specs.Undo.{State as Undo, TakesBack as GivesAll}
use Rattle.mg_undo.specs.declared.changes.Change.{Change as Kept}
use Rattle.mg_value.specs.declared.value.Value.{Value}
use Rattle.mg_works.specs.Works.{unasked, with_work}
use Rattle.mg_core.specs.Cores.{IsCore}
use Rattle.mg_core.specs.declared.parts.Core.{Core}
use Rattle.mg_taking_back.specs.Taking.{HasBegun, MayReach, TakesChanges, not_asking}
use Rattle.mg_engine_meaning_laws.specs.Standings.{ShowsIt, StandsFor, asked_in, sessions_in, standing_of, undo_kept}
use Rattle.mg_engine_step_laws.specs.standing.Standing.{Standing}
use Rattle.mg_engine_change_laws.specs.backs.BackBegun.{goes, kept_begun, knows, midway, opening}
use Rattle.mg_engine_change_laws.specs.keys.Chains.{HasTaken, keys_taken}
use Rattle.mg_engine_change_laws.specs.keys.Keys.{HasTakenKeys}
use Rattle.mg_engine_change_laws.specs.backs.Known.{KnownOfBacks}
use Rattle.mg_engine_change_laws.specs.backs.Outcomes.{back_event}
use Rattle.mg_engine_change_laws.specs.memory.StageLaws.{own_left, own_tells}
use Rattle.mg_engine_change_laws.specs.given_up.Stopping.{StopsAs}
use Rattle.mg_engine_change_laws.specs.given_up.StopsAfter.{StopsAfter, begun_as}
use Rattle.mg_engine_change_laws.specs.backs.ToTake.{since_point}
use Rattle.mg_table_takings.specs.Keys.{others_of}
use Rattle.mg_table_takings.specs.Takings.{FailsRows, FailsTheRow, TakesOthers, TakesRows, later_row, no_row, one_row, row_stands}
use Rattle.mg_engine_change_laws.specs.tables_back.OverGiven.{each_of_table, others_are}
use Rattle.mg_engine_change_laws.specs.tables_back.RowsGiven.{GivenApart, of_catalog, of_others}
use Rattle.mg_base.specs.Image.{Image}
use Rattle.mg_core.specs.Cores.{IsCatalog}
use Rattle.mg_engine_change_laws.specs.tables_back.CoreRows.{HasTakenRows, KnowsStore}
use Rattle.mg_engine_change_laws.specs.tables_back.CoreRowsLaws.{cores_take_rows}
use Rattle.mg_engine_change_laws.specs.tables_back.EngineOver.{IsBackEntry}
use Rattle.mg_engine_change_laws.specs.tables_back.OverEvents.{back_over}
use Rattle.mg_engine_change_laws.specs.tables_back.RowsLost.{HasLost}
use Rattle.mg_engine_change_laws.specs.tables_back.RowsLostLaws.{rows_lost, rows_on}
use Rattle.mg_engine_change_laws.specs.keys.Takings.{KnowsCache}
use Rattle.mg_engine_step_laws.specs.backs.Midway.{LastsDead}
use Rattle.mg_engine_step_laws.specs.backs.MidwayLaws.{lasts_of}
use Rattle.mg_engine_step_laws.specs.backs.Again.{again}
use Rattle.mg_engine_step_laws.specs.tables_back.Outs.{RowsGone}
use Rattle.mg_engine_step_laws.specs.tables_back.TablesBack.{RowsGoOn}
use Rattle.mg_engine_step_laws.specs.tables_back.TablesBackLaws.{each_goes}
use Rattle.mg_image.specs.Form.{packed_form}
use Rattle.mg_model.specs.declared.table.Table.{Table}
use Rattle.mg_pool.specs.declared.pool.Pool.{Pool}
use Rattle.mg_space.specs.declared.links.FireLinks.{FireLinks}
use Rattle.mg_txlist.specs.TxList.{said}

pub known_store : {D : Type 0} {m : Meaning D} {size : ℕ} {s : Standing} {pool : Pool D FireLinks} {i : Image}
    → KnowsCache m size s pool i → KnowsStore m pool i
known_store knows =
    record { pool_is = knows.pool_is; geometry = knows.geometry; online = knows.online; tells = knows.tells }

-- ---- at which row it stops

-- Some rows are taken out, or none, and then one is not.
pub record StopsAmong {D : Type 0} (m : Meaning D) (t : ℕ) (refusal : Refusal) (mid stopped : Core D) : Type 0 where
  pub done : List Value
  pub at : Core D
  pub first : TakesRows m t done mid at
  pub key : Value
  pub fails : FailsTheRow m at stopped t key refusal

pub row_as : {D : Type 0} (m : Meaning D) (t : ℕ) (refusal : Refusal) (mid stopped : Core D) (key : Value)
    → FailsTheRow m mid stopped t key refusal → StopsAs m mid stopped refusal
row_as m t refusal mid stopped key fails = record {
  fault = fails.fault;
  left = own_left m mid.store stopped.store _ _ fails.fault fails.fails;
  told = own_tells m mid.store stopped.store _ _ fails.fault fails.fails;
  is = fails.is;
  names = fails.names;
  counts = fails.counts;
  same = fails.same;
}

pub stops_among : {D : Type 0} (m : Meaning D) (t : ℕ) (refusal : Refusal) (keys : List Value) (mid stopped : Core D)
    → FailsRows m t refusal keys mid stopped → StopsAmong m t refusal mid stopped
stops_among m t refusal all mid stopped (row_stands key keys begun end fails) =
    record { done = []; at = begun; first = no_row begun; key = key; fails = fails }
stops_among m t refusal all mid stopped (later_row key keys begun next end takes more) =
    let later = stops_among m t refusal keys next end more in record {
      done = key ∷ later.done;
      at = later.at;
      first = one_row key later.done begun next later.at takes later.first;
      key = later.key;
      fails = later.fails;
    }

-- the keys are those of the rows that were, the one at which it stops, and others
pub stops_parts : {D : Type 0} (m : Meaning D) (t : ℕ) (refusal : Refusal) (keys : List Value) (mid stopped : Core D)
    (fails : FailsRows m t refusal keys mid stopped) → (more : List Value)
    × (keys ≡ (stops_among m t refusal keys mid stopped fails).done
    ++ ((stops_among m t refusal keys mid stopped fails).key ∷ more))
unfolding stops_among
stops_parts m t refusal all mid stopped (row_stands key keys begun end fails) = (keys, refl)
stops_parts m t refusal all mid stopped (later_row key keys begun next end takes more) =
    let (others, parts) = stops_parts m t refusal keys next end more in
    (others, ap (λ (ks : List Value). key ∷ ks) parts)

module _ {D P : Type 0} (m : Meaning D) (known : KnownOfBacks D P m) (apart : GivenApart)
    (go_on : RowsGoOn D FireLinks m) (old begun stopped : Core D) (t : TxNo) (point : Point) (undo : Undo)
    (refusal : Refusal) (core : IsCore m old) (has_begun : HasBegun old begun t.0 undo) (reaches : MayReach undo point) where
  begun_is : not_asking t.0 begun ≡ begun_as old begun t.0
  begun_is = ap (λ (c : Core D). not_asking t.0 c) has_begun.ended.same

  abbrev page : ℕ
  page = old.catalog.pointer.0

  module _ (mid : Core D) (end : Undo)
      (others_ : TakesOthers m (not_asking t.0 begun) mid t.0 (going_to undo point) end) where
    takes_begun : TakesChanges m t.0 (begun_as old begun t.0) (others_of old.catalog.pointer.0 others_.given) mid
    takes_begun = subst (λ (c : Core D). TakesChanges m t.0 c (others_of c.catalog.pointer.0 others_.given) mid) begun_is
        others_.takes

    pub taken_mid : HasTaken m (begun_as old begun t.0) mid
    taken_mid = keys_taken m t.0 (begun_as old begun t.0) mid (others_of old.catalog.pointer.0 others_.given)
        has_begun.continues.0 core.pool takes_begun

    module _ (o : Opening) (h : Entries) (stands : StandsFor m old o h)
        (shows : ShowsIt m old o h (standing_of old stands.numbers stands.tables)) where
      abbrev e : Entry
      e = entry (back_event t point) Fine

      abbrev s : Standing
      s = standing_of old stands.numbers stands.tables

      abbrev size : ℕ
      size = old.store.geometry.size

      abbrev whole : List Change
      whole = since_point point (deeds_by t.0 (steps o h))

      abbrev firsts : List Change
      firsts = first_of (since_point point (deeds_by t.0 (steps o h)))

      is : IsBackEntry o h (entry (back_event t point) Fine) t.0 point
      is = back_over m old t point undo has_begun.continues has_begun.its o h stands known.notes reaches

      undo_is : undo ≡ s.undo t.0
      undo_is = sym has_begun.its.2 ∙ sym (ap undo_kept has_begun.its.1)

      gave : GivesAll (going_to (s.undo t.0) point) others_.given end
      gave = subst (λ (u : Undo). GivesAll (going_to u point) others_.given end) undo_is others_.steps

      pub has_taken : HasTakenKeys m old.store.geometry.size o h e t.0 whole whole (of_others firsts) (of_catalog firsts) s
          old.store old.store (shown old.store.dirty shows.image) shows.stands.shows shows.image
          (asked_in (with_work t.0 unasked old.works)) (sessions_in old.works) (begun_as old begun t.0) mid
      has_taken = known.takes_all (begun_as old begun t.0) (begun_as old begun t.0) mid s old.store.geometry.size o h e
          point t.0 whole whole (of_others firsts) (of_catalog firsts) old.store old.store
          (shown old.store.dirty shows.image) shows.stands.shows shows.image
          (asked_in (with_work t.0 unasked old.works)) (sessions_in old.works) refl refl
          (opening m known old begun t point undo core has_begun o h stands shows) shows.stands.legal
          shows.stands.memory (goes m known old begun t point undo core has_begun o h stands shows)
          (kept_begun m known old begun t point undo core has_begun o h stands shows)
          (each_of_table m known.what_was known.keys apart old t.0 point o h e stands shows has_begun.continues.1 is.back
          is.may others_.given end gave) (apart.all firsts whole (known.keys.first whole)) refl
          (subst (λ (cs : List Kept). TakesChanges m t.0 (begun_as old begun t.0) cs mid)
          (others_are m known.what_was known.keys apart old t.0 point o h e stands shows has_begun.continues.1 is.back
          is.may others_.given end gave) takes_begun)
          (midway m known old begun t point undo core has_begun o h stands shows)
          (knows m known old begun t point undo core has_begun o h stands shows) shows.catalog

      mid_catalog : mid.catalog ≡ old.catalog
      mid_catalog = ap (λ (c : Core D). c.catalog) has_taken.same

      lasts_taken : LastsDead m packed_form mid.store.geometry.size o h t.0 old.store mid.store
          (asked_in (with_work t.0 unasked old.works)) (sessions_in old.works)
      lasts_taken = subst (λ (n : ℕ). LastsDead m packed_form n o h t.0 old.store mid.store
          (asked_in (with_work t.0 unasked old.works)) (sessions_in old.works)) (sym has_taken.knows.size_is)
          (lasts_of m packed_form size o h e t.0 has_taken.rest s old.store mid.store has_taken.image
          (asked_in (with_work t.0 unasked old.works)) (sessions_in old.works) has_taken.midway.cache)

      pub rows_at : (done : List Value) (at_core : Core D) → TakesRows m t.0 done mid at_core
          → HasTakenRows m s t.0 done mid at_core has_taken.image
      rows_at done at_core first = cores_take_rows m known.holds go_on o h e point s old.store
          (asked_in (with_work t.0 unasked old.works)) (sessions_in old.works) t.0 done mid at_core has_taken.image
          (opening m known old begun t point undo core has_begun o h stands shows) shows.stands.legal
          shows.stands.memory (goes m known old begun t point undo core has_begun o h stands shows) lasts_taken
          (subst IsCatalog (sym mid_catalog) core.catalog)
          (sym (ap (λ (c : Core D). said c.list) has_taken.same)) (sym (ap (λ (c : Core D). c.live) has_taken.same))
          (known_store has_taken.knows) (ap (λ (x : Table). x.pointer.0) mid_catalog ∙ has_taken.catalog) first

      -- the rows under these keys have gone, where the transaction counts as dead
      pub gone_at : (done : List Value) (at_core : Core D) (first : TakesRows m t.0 done mid at_core)
          → RowsGone packed_form mid.store.geometry.size o (again t.0 has_taken.rest (entry (back_event t point) Fine ∷ h))
          (said old.list) t.0 done (shown mid.store.dirty has_taken.image)
          (shown at_core.store.dirty (rows_at done at_core first).image)
      gone_at done at_core first = (each_goes D FireLinks m known.rows_one (λ bytes n none. none) go_on o h e point s
          old.store (asked_in (with_work t.0 unasked old.works)) (sessions_in old.works) t.0 has_taken.rest
          (opening m known old begun t point undo core has_begun o h stands shows) shows.stands.legal
          shows.stands.memory (goes m known old begun t point undo core has_begun o h stands shows) done mid.store
          at_core.store has_taken.image (rows_at done at_core first).image (rows_at done at_core first).steps
          lasts_taken).1

      pub lost_at : (done : List Value) (at_core : Core D) → TakesRows m t.0 done mid at_core
          → (j : Image) × HasLost m mid.store.geometry.size o h t.0 s old.store mid at_core has_taken.image j
          (asked_in (with_work t.0 unasked old.works)) (sessions_in old.works)
      lost_at done at_core first = rows_lost m known.holds go_on known.one_way o h e point s old.store
          (asked_in (with_work t.0 unasked old.works)) (sessions_in old.works) t.0
          (opening m known old begun t point undo core has_begun o h stands shows) shows.stands.legal
          shows.stands.memory (goes m known old begun t point undo core has_begun o h stands shows) done mid at_core
          has_taken.image
          lasts_taken (subst IsCatalog (sym mid_catalog) core.catalog)
          (sym (ap (λ (c : Core D). said c.list) has_taken.same)) (sym (ap (λ (c : Core D). c.live) has_taken.same))
          (known_store has_taken.knows) (ap (λ (x : Table). x.pointer.0) mid_catalog ∙ has_taken.catalog) first

    pub at_rows : StopsAmong m t.0 refusal mid stopped → StopsAfter m old begun stopped t point refusal
    at_rows among = record {
      at = among.at;
      taken = rows_on m t.0 among.done (begun_as old begun t.0) mid among.at taken_mid among.first;
      stopping = row_as m t.0 refusal among.at stopped among.key among.fails;
      over = λ o h stands shows. record {
        keys = of_others (first_of (since_point point (deeds_by t.0 (steps o h))));
        more = of_catalog (first_of (since_point point (deeds_by t.0 (steps o h))));
        mid = mid;
        image = (lost_at o h stands shows among.done among.at among.first).0;
        taken = has_taken o h stands shows;
        lost = subst (λ (n : ℕ). HasLost m n o h t.0
            (standing_of old stands.numbers stands.tables) old.store mid among.at (has_taken o h stands shows).image
            (lost_at o h stands shows among.done among.at among.first).0 (asked_in (with_work t.0 unasked old.works))
            (sessions_in old.works)) (has_taken o h stands shows).knows.size_is
            (lost_at o h stands shows among.done among.at among.first).1;
      };
    }
