-- Taking back over tables stops: at a change of another table, or at the rows of the catalog.
use Rattle.std.proofs.Common.{◌≡◌, ◌∙◌, ◌∷◌, ◌++◌, ◌==◌, [], ℕ, Bool, List, ap, false, refl, subst, sym, true}
use Rattle.std.proofs.lemmas.List.{append_assoc}
use Rattle.std.specs.Prelude.{if◌then◌else◌, map}
use Rattle.mg_base.specs.Disk.{Meaning}
use Rattle.mg_base.specs.declared.numbers.TxNo.{TxNo}
use Rattle.mg_model.specs.History.{Entries, Entry, entry}
use Rattle.mg_model.specs.Machine.{deeds_by, own, steps}
use Rattle.mg_model.specs.declared.answer.Answer.TheVariants.{Fine}
use Rattle.mg_model.specs.declared.change.Change.{Change}
use Rattle.mg_model.specs.declared.change.Point.{Point}
use Rattle.mg_model.specs.declared.opening.Opening.{Opening}
use Rattle.mg_model.specs.declared.refusal.Refusal.{Refusal}
use Rattle.mg_pool.specs.Pool.{shown}
use Rattle.mg_undo.specs.Machine.{first_of, given_from, going_to}
use Rattle.mg_undo.specs.Undo.{State as Undo, TakesBack as GivesAll}
use Rattle.mg_undo.specs.declared.changes.Change.{Change as Kept}
use Rattle.mg_value.specs.declared.value.Value.{Value}
use Rattle.mg_works.specs.Works.{unasked, with_work}
use Rattle.mg_core.specs.Cores.{IsCore}
use Rattle.mg_core.specs.declared.parts.Core.{Core}
use Rattle.mg_taking_back.specs.Taking.{HasBegun, MayReach, TakesChanges, not_asking}
use Rattle.mg_engine_meaning_laws.specs.Standings.{ShowsIt, StandsFor, asked_in, sessions_in, standing_of, undo_kept}
use Rattle.mg_engine_step_laws.specs.standing.Standing.{Standing}
use Rattle.mg_engine_change_laws.specs.backs.BackBegun.{goes, kept_begun, knows, midway, opening}
use Rattle.mg_engine_change_laws.specs.keys.Chains.{HasTaken, keys_taken}
use Rattle.mg_engine_change_laws.specs.backs.Events.{may_go, takes_back}
use Rattle.mg_engine_change_laws.specs.keys.Keys.{HasTakenKeys, IsOfTable}
use Rattle.mg_engine_change_laws.specs.backs.Known.{KnownOfBacks}
use Rattle.mg_engine_change_laws.specs.backs.Memory.{MayGoTo}
use Rattle.mg_engine_change_laws.specs.backs.Outcomes.{back_event}
use Rattle.mg_engine_change_laws.specs.given_up.Stopped.{IsPart, each_front, part_of}
use Rattle.mg_engine_change_laws.specs.given_up.Stopping.{StopsFrom, enters_then, stops_as}
use Rattle.mg_engine_change_laws.specs.given_up.StopsAfter.{StopsAfter, begun_as}
use Rattle.mg_engine_change_laws.specs.backs.ToTake.{AreKeysOf, EachChange, since_point}
use Rattle.mg_table_takings.specs.Keys.{others_of}
use Rattle.mg_table_takings.specs.Takings.{StopsBoth, StopsOthers, stops_at_other, stops_at_rows}
use Rattle.mg_engine_change_laws.specs.tables_back.OverGiven.{each_of_table, others_are}
use Rattle.mg_engine_change_laws.specs.tables_back.RowsGiven.{GivenApart, of_catalog, of_others}
use Rattle.mg_engine_change_laws.specs.tables_back.OverRows.{at_rows, known_store, stops_among}
use Rattle.mg_engine_change_laws.specs.tables_back.RowsLostLaws.{nothing_lost}
use Rattle.mg_engine_step_laws.specs.backs.MidwayLaws.{lasts_of}
use Rattle.mg_engine_step_laws.specs.tables_back.TablesBack.{RowsGoOn}
use Rattle.mg_image.specs.Form.{packed_form}
use Rattle.mg_space.specs.declared.links.FireLinks.{FireLinks}

-- ---- lists

others_on : (page : ℕ) (given rest : List Kept) → others_of page (given ++ rest) ≡ others_of page given ++ others_of page rest
others_on page [] rest = refl
others_on page (c ∷ given) rest = at (c.table == page) (others_on page given rest)
  where
    at : (b : Bool) → others_of page (given ++ rest) ≡ others_of page given ++ others_of page rest
        → (if b then others_of page (given ++ rest) else c ∷ others_of page (given ++ rest))
        ≡ (if b then others_of page given else c ∷ others_of page given) ++ others_of page rest
    at true more = more
    at false more = ap (λ (cs : List Kept). c ∷ cs) more

-- those that are still to be taken back are all that are left
keys_on : (keys more rows all left : List Change) → all ≡ keys ++ more → AreKeysOf (all ++ rows) left
    → AreKeysOf (keys ++ (more ++ rows)) left
keys_on keys more rows all left parts are = subst (λ (cs : List Change). AreKeysOf cs left) (append_assoc keys more rows)
    (subst (λ (cs : List Change). AreKeysOf (cs ++ rows) left) parts are)

module _ {D P : Type 0} (m : Meaning D) (known : KnownOfBacks D P m) (apart : GivenApart)
    (go_on : RowsGoOn D FireLinks m) (old begun stopped : Core D) (t : TxNo) (point : Point) (undo : Undo)
    (refusal : Refusal) (core : IsCore m old) (has_begun : HasBegun old begun t.0 undo) (reaches : MayReach undo point) where
  abbrev page : ℕ
  page = old.catalog.pointer.0

  begun_is : not_asking t.0 begun ≡ begun_as old begun t.0
  begun_is = ap (λ (c : Core D). not_asking t.0 c) has_begun.ended.same

  -- ---- some changes of other tables are taken back, of all that are given

  module _ (given rest : List Kept) (end : Undo) (all : GivesAll (going_to undo point) (given ++ rest) end)
      (at_core : Core D)
      (takes : TakesChanges m t.0 (not_asking t.0 begun) (others_of (not_asking t.0 begun).catalog.pointer.0 given) at_core)
    where
      takes_begun : TakesChanges m t.0 (begun_as old begun t.0) (others_of old.catalog.pointer.0 given) at_core
      takes_begun = subst (λ (c : Core D). TakesChanges m t.0 c (others_of c.catalog.pointer.0 given) at_core) begun_is takes

      taken : HasTaken m (begun_as old begun t.0) at_core
      taken = keys_taken m t.0 (begun_as old begun t.0) at_core (others_of old.catalog.pointer.0 given)
          has_begun.continues.0 core.pool takes_begun

      module _ (o : Opening) (h : Entries) (stands : StandsFor m old o h)
          (shows : ShowsIt m old o h (standing_of old stands.numbers stands.tables)) where
        abbrev e : Entry
        e = entry (back_event t point) Fine

        abbrev s : Standing
        s = standing_of old stands.numbers stands.tables

        abbrev whole : List Change
        whole = since_point point (deeds_by t.0 (steps o h))

        abbrev firsts : List Change
        firsts = first_of (since_point point (deeds_by t.0 (steps o h)))

        abbrev told : Change → Kept
        told = given_from (stands.numbers t.0) (own o (entry (back_event t point) Fine ∷ h) t.0)

        may : MayGoTo point (deeds_by t.0 (steps o h))
        may = may_go m old t point undo has_begun.continues has_begun.its o h stands known.notes point reaches

        gave : GivesAll (going_to (s.undo t.0) point) (given ++ rest) end
        gave = subst (λ (u : Undo). GivesAll (going_to u point) (given ++ rest) end)
            (sym has_begun.its.2 ∙ sym (ap undo_kept has_begun.its.1)) all

        others : others_of page given ++ others_of page rest ≡ map told (of_others firsts)
        others = sym (others_on page given rest) ∙ others_are m known.what_was known.keys apart old t.0 point o h e stands
            shows has_begun.continues.1 (takes_back t point) may (given ++ rest) end gave

        part : IsPart told (of_others firsts) (others_of page given)
        part = part_of told (others_of page given) (others_of page rest) (of_others firsts) others

        of_tables : EachChange (IsOfTable o h t.0) (of_others firsts)
        of_tables = each_of_table m known.what_was known.keys apart old t.0 point o h e stands shows has_begun.continues.1
            (takes_back t point) may (given ++ rest) end gave

        has_taken : HasTakenKeys m old.store.geometry.size o h e t.0 whole whole part.keys (part.more ++ of_catalog firsts) s
            old.store old.store (shown old.store.dirty shows.image) shows.stands.shows shows.image
            (asked_in (with_work t.0 unasked old.works)) (sessions_in old.works) (begun_as old begun t.0) at_core
        has_taken = known.takes_all (begun_as old begun t.0) (begun_as old begun t.0) at_core s old.store.geometry.size o h e
            point t.0 whole whole part.keys (part.more ++ of_catalog firsts) old.store old.store
            (shown old.store.dirty shows.image) shows.stands.shows shows.image
            (asked_in (with_work t.0 unasked old.works)) (sessions_in old.works) refl refl
            (opening m known old begun t point undo core has_begun o h stands shows) shows.stands.legal
            shows.stands.memory (goes m known old begun t point undo core has_begun o h stands shows)
            (kept_begun m known old begun t point undo core has_begun o h stands shows)
            (each_front (IsOfTable o h t.0) part.keys part.more
            (subst (EachChange (IsOfTable o h t.0)) part.parts of_tables))
            (keys_on part.keys part.more (of_catalog firsts) (of_others firsts) whole part.parts
            (apart.all firsts whole (known.keys.first whole))) refl
            (subst (λ (cs : List Kept). TakesChanges m t.0 (begun_as old begun t.0) cs at_core) part.told takes_begun)
            (midway m known old begun t point undo core has_begun o h stands shows)
            (knows m known old begun t point undo core has_begun o h stands shows) shows.catalog

      -- entries were laid then, or none
      module _ (from : StopsFrom m at_core stopped t.0 refusal) where
        abbrev entered : Core D
        entered = record at_core { store = from.entered }

        has_entered : (o : Opening) (h : Entries) (stands : StandsFor m old o h)
            (shows : ShowsIt m old o h (standing_of old stands.numbers stands.tables))
            → HasTakenKeys m old.store.geometry.size o h (entry (back_event t point) Fine) t.0
            (since_point point (deeds_by t.0 (steps o h))) (since_point point (deeds_by t.0 (steps o h)))
            (part o h stands shows).keys
            ((part o h stands shows).more ++ of_catalog (first_of (since_point point (deeds_by t.0 (steps o h)))))
            (standing_of old stands.numbers stands.tables) old.store old.store (shown old.store.dirty shows.image)
            shows.stands.shows shows.image (asked_in (with_work t.0 unasked old.works)) (sessions_in old.works)
            (begun_as old begun t.0) entered
        has_entered o h stands shows = known.enters (begun_as old begun t.0) at_core from.entered
            (standing_of old stands.numbers stands.tables) old.store.geometry.size o h (entry (back_event t point) Fine)
            point t.0 (since_point point (deeds_by t.0 (steps o h))) (since_point point (deeds_by t.0 (steps o h)))
            (part o h stands shows).keys
            ((part o h stands shows).more ++ of_catalog (first_of (since_point point (deeds_by t.0 (steps o h)))))
            old.store old.store (shown old.store.dirty shows.image) shows.stands.shows shows.image
            (asked_in (with_work t.0 unasked old.works)) (sessions_in old.works) refl refl
            (opening m known old begun t point undo core has_begun o h stands shows) shows.stands.legal
            shows.stands.memory (goes m known old begun t point undo core has_begun o h stands shows)
            (kept_begun m known old begun t point undo core has_begun o h stands shows) core.catalog.none
            (has_taken o h stands shows) from.before_it

        -- and then a step is refused
        stops_so : StopsAfter m old begun stopped t point refusal
        stops_so = record {
          at = entered;
          taken = enters_then m known.counts_now (begun_as old begun t.0) at_core from.entered t.0 taken from.before_it;
          stopping = from.stopping;
          over = λ o h stands shows. record {
            keys = (part o h stands shows).keys;
            more = (part o h stands shows).more ++ of_catalog (first_of (since_point point (deeds_by t.0 (steps o h))));
            mid = entered;
            image = (has_entered o h stands shows).image;
            taken = has_entered o h stands shows;
            lost = nothing_lost m known.one_way old.store.geometry.size o h t.0
                (standing_of old stands.numbers stands.tables) old.store entered (has_entered o h stands shows).image
                (asked_in (with_work t.0 unasked old.works)) (sessions_in old.works)
                (lasts_of m packed_form old.store.geometry.size o h (entry (back_event t point) Fine) t.0
                (has_entered o h stands shows).rest (standing_of old stands.numbers stands.tables) old.store entered.store
                (has_entered o h stands shows).image (asked_in (with_work t.0 unasked old.works)) (sessions_in old.works)
                (has_entered o h stands shows).midway.cache) (known_store (has_entered o h stands shows).knows)
                (has_entered o h stands shows).knows.size_is;
          };
        }

  -- ---- where it stops

  -- at a change of another table
  at_other : StopsOthers m (not_asking t.0 begun) stopped t.0 (going_to undo point) refusal
      → StopsAfter m old begun stopped t point refusal
  at_other stops =
      let rest = known.to_end stops.left in
      let all = known.gives_on (going_to undo point) stops.left rest.1 stops.given rest.0 stops.steps rest.2 in
      let has = taken stops.given rest.0 rest.1 all stops.at stops.takes in
      stops_so stops.given rest.0 rest.1 all stops.at stops.takes (stops_as m known.counts_now stops.at stopped t.0
      stops.change refusal has.pool has.on.online stops.fails)

  pub stops_over : (keys : List Value) → StopsBoth m (not_asking t.0 begun) stopped t.0 (going_to undo point) keys refusal
      → StopsAfter m old begun stopped t point refusal
  stops_over keys (stops_at_other stops) = at_other stops
  stops_over keys (stops_at_rows mid end others_ fails) =
      at_rows m known apart go_on old begun stopped t point undo refusal core has_begun reaches mid end others_
      (stops_among m t.0 refusal keys mid stopped fails)
