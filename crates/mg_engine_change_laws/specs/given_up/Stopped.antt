-- A change is not taken back: which keys had been, over each history.
use Rattle.std.proofs.Common.{◌≡◌, ◌∙◌, ◌∷◌, ◌++◌, [], ℕ, List, ap, refl, subst, sym}
use Rattle.std.specs.Prelude.{map}
use Rattle.mg_base.specs.Disk.{Meaning}
use Rattle.mg_base.specs.declared.numbers.TxNo.{TxNo}
use Rattle.mg_core.specs.Cores.{IsCore}
use Rattle.mg_core.specs.declared.parts.Core.{Core}
use Rattle.mg_engine_change_laws.specs.backs.BackBegun.{goes, kept_begun, knows, midway, opening}
use Rattle.mg_engine_change_laws.specs.keys.Chains.{HasTaken, keys_taken}
use Rattle.mg_engine_change_laws.specs.backs.Events.{back_entry}
use Rattle.mg_engine_change_laws.specs.backs.Known.{KnownOfBacks}
use Rattle.mg_engine_change_laws.specs.backs.Outcomes.{LeavesTheCatalog, back_event}
use Rattle.mg_engine_change_laws.specs.tables_back.RowsLost.{HasLost}
use Rattle.mg_engine_change_laws.specs.tables_back.RowsLostLaws.{nothing_lost}
use Rattle.mg_engine_change_laws.specs.given_up.Stopping.{StopsFrom, enters_then, stops_as}
use Rattle.mg_engine_change_laws.specs.given_up.StopsAfter.{StopsAfter, begun_as}
use Rattle.mg_engine_meaning_laws.specs.Standings.{ShowsIt, StandsFor, asked_in, sessions_in, standing_of, undo_kept}
use Rattle.mg_engine_step_laws.specs.backs.MidwayLaws.{lasts_of}
use Rattle.mg_engine_step_laws.specs.standing.Standing.{Standing}
use Rattle.mg_engine_change_laws.specs.backs.EngineBacks.{IsBackEntry}
use Rattle.mg_engine_change_laws.specs.backs.Given.{AreGiven}
use Rattle.mg_engine_change_laws.specs.keys.Keys.{HasTakenKeys, IsOfTable}
use Rattle.mg_engine_change_laws.specs.backs.ToTake.{AreKeysOf, EachChange, since_point}
use Rattle.mg_image.specs.Form.{Pages, packed_form}
use Rattle.mg_model.specs.History.{Entries, Entry, entry}
use Rattle.mg_model.specs.Machine.{deeds_by, own, steps}
use Rattle.mg_model.specs.Openings.{everyone}
use Rattle.mg_model.specs.declared.answer.Answer.TheVariants.{Fine}
use Rattle.mg_model.specs.declared.change.Change.{Change}
use Rattle.mg_model.specs.declared.change.Point.{Point}
use Rattle.mg_model.specs.declared.opening.Opening.{Opening}
use Rattle.mg_model.specs.declared.refusal.Refusal.{Refusal}
use Rattle.mg_overlay_laws.specs.Overlays.{left_state}
use Rattle.mg_pool.specs.Pool.{shown}
use Rattle.mg_taking_back.specs.Taking.{HasBegun, MayReach, StopsTaking, TakesChanges, not_asking}
use Rattle.mg_undo.specs.Machine.{first_of, given_from, going_to}
use Rattle.mg_undo.specs.Undo.{TakesBack as GivesAll, State as Undo}
use Rattle.mg_undo.specs.declared.changes.Change.{Change as Kept}
use Rattle.mg_works.specs.Works.{unasked, with_work}

-- ---- lists of what is given

-- What is given is told by the first of these.
pub record IsPart (f : Change → Kept) (cs : List Change) (given : List Kept) : Type 0 where
  pub keys : List Change
  pub more : List Change
  pub parts : cs ≡ keys ++ more
  pub told : given ≡ map f keys

pub part_of : (f : Change → Kept) (given rest : List Kept) (cs : List Change) → given ++ rest ≡ map f cs → IsPart f cs given
part_of f [] rest cs is = record { keys = []; more = cs; parts = refl; told = refl }
part_of f (g ∷ given) rest [] is = absurd cc
part_of f (g ∷ given) rest (c ∷ cs) is =
    let head : g ≡ f c = cc in
    let tail : given ++ rest ≡ map f cs = cc in
    let its : IsPart f cs given = part_of f given rest cs tail in record {
      keys = c ∷ its.keys;
      more = its.more;
      parts = ap (λ (xs : List Change). c ∷ xs) its.parts;
      told = ap (λ (k : Kept). k ∷ given) head ∙ ap (λ (ks : List Kept). f c ∷ ks) its.told;
    }

pub each_front : (P : Change → Type 0) (keys more : List Change) → EachChange P (keys ++ more) → EachChange P keys
each_front P [] more each = tt
each_front P (c ∷ keys) more each = (each.0, each_front P keys more each.1)

-- ---- whatever the history is

module _ {D P : Type 0} (m : Meaning D) (known : KnownOfBacks D P m) (old begun stopped : Core D) (t : TxNo)
    (point : Point) (undo : Undo) (refusal : Refusal) (core : IsCore m old) (leaves : LeavesTheCatalog m old t.0 point)
    (has_begun : HasBegun old begun t.0 undo) (reaches : MayReach undo point)
    (stops : StopsTaking m (not_asking t.0 begun) stopped t.0 (going_to undo point) refusal) where
  begun_is : not_asking t.0 begun ≡ begun_as old begun t.0
  begun_is = ap (λ (c : Core D). not_asking t.0 c) has_begun.ended.same

  start_takes : TakesChanges m t.0 (begun_as old begun t.0) stops.given stops.at
  start_takes = subst (λ (c : Core D). TakesChanges m t.0 c stops.given stops.at) begun_is stops.takes

  taken : HasTaken m (begun_as old begun t.0) stops.at
  taken = keys_taken m t.0 (begun_as old begun t.0) stops.at stops.given has_begun.continues.0 core.pool start_takes

  from : StopsFrom m stops.at stopped t.0 refusal
  from = stops_as m known.counts_now stops.at stopped t.0 stops.change refusal taken.pool taken.on.online stops.fails

  -- once entries were laid, or none
  abbrev entered : Core D
  entered = record stops.at { store = from.entered }

  taken_then : HasTaken m (begun_as old begun t.0) entered
  taken_then = enters_then m known.counts_now (begun_as old begun t.0) stops.at from.entered t.0 taken from.before_it

  -- ---- over a history

  module _ (o : Opening) (h : Entries) (stands : StandsFor m old o h)
      (shows : ShowsIt m old o h (standing_of old stands.numbers stands.tables)) where
    abbrev e : Entry
    e = entry (back_event t point) Fine

    abbrev s : Standing
    s = standing_of old stands.numbers stands.tables

    abbrev size : ℕ
    size = old.store.geometry.size

    abbrev whole : List Change
    whole = since_point point (deeds_by t.0 (steps o h))

    abbrev pages : Pages
    pages = shown old.store.dirty shows.image

    is : IsBackEntry o h (entry (back_event t point) Fine) t.0 point
    is = back_entry m old t point undo has_begun.continues has_begun.its o h stands known.notes reaches
        (leaves o h stands)

    -- all that would be given
    rest : (given : List Kept) × (end : Undo) × GivesAll stops.left given end
    rest = known.to_end stops.left

    all_given : GivesAll (going_to (s.undo t.0) point) (stops.given ++ rest.0) rest.1
    all_given = subst (λ (u : Undo). GivesAll (going_to u point) (stops.given ++ rest.0) rest.1)
        (sym has_begun.its.2 ∙ sym (ap undo_kept has_begun.its.1))
        (known.gives_on (going_to undo point) stops.left rest.1 stops.given rest.0 stops.steps rest.2)

    are_given : AreGiven o h e t.0 (s.number t.0) whole (stops.given ++ rest.0)
    are_given = known.undo_gives size (left_state everyone s.state) pages shows.stands.shows.layout
        shows.stands.shows.reading shows.stands.shows.sound o h e point t.0 s (stops.given ++ rest.0) rest.1
        shows.stands.memory has_begun.continues.1 (shows.stands.shows.tables t.0 has_begun.continues.1) is.back is.may
        is.leaves all_given

    part : IsPart (given_from (s.number t.0) (own o (e ∷ h) t.0)) (first_of whole) stops.given
    part = part_of (given_from (s.number t.0) (own o (e ∷ h) t.0)) stops.given rest.0 (first_of whole) are_given.given_is

    has_taken : HasTakenKeys m size o h e t.0 whole whole part.keys part.more s old.store old.store pages
        shows.stands.shows shows.image (asked_in (with_work t.0 unasked old.works)) (sessions_in old.works)
        (begun_as old begun t.0) stops.at
    has_taken = known.takes_all (begun_as old begun t.0) (begun_as old begun t.0) stops.at s size o h e point t.0 whole
        whole part.keys part.more old.store old.store pages shows.stands.shows shows.image
        (asked_in (with_work t.0 unasked old.works)) (sessions_in old.works) refl refl
        (opening m known old begun t point undo core has_begun o h stands shows) shows.stands.legal shows.stands.memory
        (goes m known old begun t point undo core has_begun o h stands shows)
        (kept_begun m known old begun t point undo core has_begun o h stands shows)
        (each_front (IsOfTable o h t.0) part.keys part.more
        (subst (EachChange (IsOfTable o h t.0)) part.parts are_given.each))
        (subst (λ (cs : List Change). AreKeysOf cs whole) part.parts (known.keys.first whole)) refl
        (subst (λ (cs : List Kept). TakesChanges m t.0 (begun_as old begun t.0) cs stops.at) part.told start_takes)
        (midway m known old begun t point undo core has_begun o h stands shows)
        (knows m known old begun t point undo core has_begun o h stands shows) shows.catalog

    has_entered : HasTakenKeys m size o h e t.0 whole whole part.keys part.more s old.store old.store pages
        shows.stands.shows shows.image (asked_in (with_work t.0 unasked old.works)) (sessions_in old.works)
        (begun_as old begun t.0) entered
    has_entered = known.enters (begun_as old begun t.0) stops.at from.entered s size o h e point t.0 whole whole part.keys
        part.more old.store old.store pages shows.stands.shows shows.image (asked_in (with_work t.0 unasked old.works))
        (sessions_in old.works) refl refl (opening m known old begun t point undo core has_begun o h stands shows)
        shows.stands.legal shows.stands.memory (goes m known old begun t point undo core has_begun o h stands shows)
        (kept_begun m known old begun t point undo core has_begun o h stands shows) core.catalog.none has_taken
        from.before_it

    none_lost : HasLost m size o h t.0 s old.store entered entered has_entered.image has_entered.image
        (asked_in (with_work t.0 unasked old.works)) (sessions_in old.works)
    none_lost = nothing_lost m known.one_way size o h t.0 s old.store entered has_entered.image
        (asked_in (with_work t.0 unasked old.works)) (sessions_in old.works)
        (lasts_of m packed_form size o h e t.0 has_entered.rest s old.store entered.store has_entered.image
        (asked_in (with_work t.0 unasked old.works)) (sessions_in old.works) has_entered.midway.cache)
        (record {
          pool_is = has_entered.knows.pool_is;
          geometry = has_entered.knows.geometry;
          online = has_entered.knows.online;
          tells = has_entered.knows.tells;
        }) has_entered.knows.size_is

  -- ---- both

  pub stops_after : StopsAfter m old begun stopped t point refusal
  stops_after = record {
    at = entered;
    taken = taken_then;
    stopping = from.stopping;
    over = λ o h stands shows. record {
      keys = (part o h stands shows).keys;
      more = (part o h stands shows).more;
      mid = entered;
      image = (has_entered o h stands shows).image;
      taken = has_entered o h stands shows;
      lost = none_lost o h stands shows;
    };
  }
