-- A transaction is taken back to a point: the engine finds no page damaged, where no table goes.
use Rattle.std.proofs.Common.{◌≡◌, ◌++◌, ap, refl, sym, subst, ◌∙◌, ℕ, Bool, true, false, List, [], ◌∷◌, Ok, Err}
use Rattle.std.specs.Prelude.{map}
use Rattle.mg_engine_change_laws.specs.entries.BackEntries.{KeysEnterMidway}
use Rattle.mg_no_damage_laws.specs.BackTrees.{StandAll}
use Rattle.mg_no_damage_laws.specs.EntryBacks.{AllStandBack}
use Rattle.mg_base.specs.Disk.{Meaning}
use Rattle.mg_base.specs.declared.numbers.TxNo.{TxNo}
use Rattle.mg_core.specs.Cores.{IsCore}
use Rattle.mg_core.specs.declared.parts.Core.{Core}
use Rattle.mg_engine_change_laws.specs.tables_back.CatalogLaws.{leaves_the_catalog}
use Rattle.mg_engine_change_laws.specs.backs.EngineBacks.{IsBackEntry}
use Rattle.mg_engine_change_laws.specs.backs.Events.{back_entry}
use Rattle.mg_engine_change_laws.specs.backs.Given.{AreGiven}
use Rattle.mg_engine_change_laws.specs.backs.Known.{KnownOfBacks}
use Rattle.mg_engine_change_laws.specs.backs.Outcomes.{back_event}
use Rattle.mg_engine_change_laws.specs.given_up.StopsAfter.{begun_as}
use Rattle.mg_engine_change_laws.specs.backs.ToTake.{since_point}
use Rattle.mg_engine_meaning_laws.specs.Standings.{ShowsIt, StandsFor, standing_of, undo_kept}
use Rattle.mg_engine_meaning_laws.specs.StepLaws.{shows_of}
use Rattle.mg_engine_step_laws.specs.standing.Standing.{Standing}
use Rattle.mg_model.specs.History.{Entries, Entry, entry}
use Rattle.mg_model.specs.Machine.{deeds_by, own, steps}
use Rattle.mg_model.specs.Openings.{everyone}
use Rattle.mg_model.specs.declared.answer.Answer.TheVariants.{Fine}
use Rattle.mg_model.specs.declared.change.Change.{Change}
use Rattle.mg_model.specs.declared.change.Point.{Point}
use Rattle.mg_model.specs.declared.change.Point.TheVariants.{LastMark, SavepointNamed}
use Rattle.mg_model.specs.declared.opening.Opening.{Opening}
use Rattle.mg_model.specs.declared.refusal.Refusal.{Refusal}
use Rattle.mg_overlay_laws.specs.Overlays.{left_state}
use Rattle.mg_pool.specs.Pool.{shown}
use Rattle.mg_records.specs.TakingBack.{is_given_up}
use Rattle.mg_taking_back.specs.Tables.{TellsTables}
use Rattle.mg_taking_back.specs.Taking.{FailsBackTo, GivesUpBy, GivesUpIf, HasBegun, MayReach, StopsTaking, TakesBackTo, TakesChanges, back_not_begun, back_not_copied, back_stopped, not_asking, takes_none, takes_one}
use Rattle.mg_undo.specs.Machine.{first_of, given_from, going_to}
use Rattle.mg_undo.specs.Undo.{State as Undo, TakesBack as GivesAll}
use Rattle.mg_undo.specs.declared.changes.Change.{Change as Kept}
use Rattle.mg_no_damage_laws.proofs.NextLemmas.{change_stands, change_stays, given_next}
use Rattle.mg_no_damage_laws.specs.Backs.{MarksMeetNoDamage, SavepointsMeetNoDamage}
use Rattle.mg_no_damage_laws.specs.Stands.{DamageStands}
use Rattle.mg_no_damage_laws.specs.BackKeys.{KeysMeetNoDamage, KeysMissNoPage}

-- a transaction that is given up leaves the count
pub given_up_stays : {D : Type 0} (stopped new : Core D) (t : ℕ) (refusal : Refusal) → GivesUpBy stopped new t refusal
    → new.damage ≡ stopped.damage
given_up_stays {D} stopped new t refusal gives = at (is_given_up refusal) gives
  where
    at : (b : Bool) → GivesUpIf b stopped new t → new.damage ≡ stopped.damage
    at true rolled = ap (λ (c : Core D). c.damage) rolled.same
    at false same = ap (λ (c : Core D). c.damage) same

-- and so do changes that are taken back
pub taken_stays : {D : Type 0} (m : Meaning D) (t : ℕ) (old new : Core D) (given : List Kept)
    → TakesChanges m t old given new → new.damage ≡ old.damage
taken_stays m t old new given takes_none = refl
taken_stays {D} m t old new given (takes_one {given = rest} mid c one more) =
    taken_stays m t mid new rest more ∙ ap (λ (x : Core D). x.damage) one.same

module _ {D P : Type 0} (m : Meaning D) (known : KnownOfBacks D P m) (law : KeysMeetNoDamage D m)
    (missing : KeysMissNoPage D m) (old new : Core D) (t : TxNo) (core : IsCore m old) where
  -- ---- it stops at a change

  module _ (point : Point) (none : TellsTables old t.0 point false) (refusal : Refusal) (begun : Core D) (undo : Undo)
      (has_begun : HasBegun old begun t.0 undo) (reaches : MayReach undo point) (stopped : Core D)
      (stops : StopsTaking m (not_asking t.0 begun) stopped t.0 (going_to undo point) refusal) (o : Opening)
      (h : Entries) (stands : StandsFor m old o h) where
    abbrev e : Entry
    e = entry (back_event t point) Fine

    abbrev s : Standing
    s = standing_of old stands.numbers stands.tables

    abbrev whole : List Change
    whole = since_point point (deeds_by t.0 (steps o h))

    shows : ShowsIt m old o h (standing_of old stands.numbers stands.tables)
    shows = shows_of m old o h stands has_begun.continues.0

    back_so : IsBackEntry o h (entry (back_event t point) Fine) t.0 point
    back_so = back_entry m old t point undo has_begun.continues has_begun.its o h stands known.notes reaches
        (leaves_the_catalog m known old begun t point undo has_begun reaches none o h stands)

    -- all that would be given
    rest : (given : List Kept) × (end : Undo) × GivesAll stops.left given end
    rest = known.to_end stops.left

    next : (more : List Kept) × (rest.0 ≡ stops.change ∷ more)
    next = given_next stops.left rest.1 rest.0 stops.change stops.next rest.2

    all_given : GivesAll (going_to (s.undo t.0) point) (stops.given ++ rest.0) rest.1
    all_given = subst (λ (u : Undo). GivesAll (going_to u point) (stops.given ++ rest.0) rest.1)
        (sym has_begun.its.2 ∙ sym (ap undo_kept has_begun.its.1))
        (known.gives_on (going_to undo point) stops.left rest.1 stops.given rest.0 stops.steps rest.2)

    are_given : AreGiven o h e t.0 (s.number t.0) whole (stops.given ++ rest.0)
    are_given = known.undo_gives old.store.geometry.size (left_state everyone s.state)
        (shown old.store.dirty shows.image) shows.stands.shows.layout shows.stands.shows.reading
        shows.stands.shows.sound o h e point t.0 s (stops.given ++ rest.0) rest.1 shows.stands.memory
        has_begun.continues.1 (shows.stands.shows.tables t.0 has_begun.continues.1) back_so.back back_so.may back_so.leaves all_given

    told_is : stops.given ++ (stops.change ∷ next.0)
        ≡ map (given_from (stands.numbers t.0) (own o (entry (back_event t point) Fine ∷ h) t.0)) (first_of whole)
    told_is = ap (λ (ks : List Kept). stops.given ++ ks) (sym next.1) ∙ are_given.given_is

    takes : TakesChanges m t.0 (begun_as old begun t.0) stops.given stops.at
    takes = subst (λ (c : Core D). TakesChanges m t.0 c stops.given stops.at)
        (ap (λ (c : Core D). not_asking t.0 c) has_begun.ended.same) stops.takes

    stopped_stays : stopped.damage ≡ old.damage
    stopped_stays = change_stays m known law missing old begun stopped t point undo core has_begun o h stands shows
        (first_of whole) [] are_given.each are_given.keys stops.at stops.given next.0 stops.change told_is takes refusal
        stops.fails

  -- ---- each outcome

  begun_stays : (begun : Core D) (undo : Undo) → HasBegun old begun t.0 undo → begun.damage ≡ old.damage
  begun_stays begun undo has = ap (λ (c : Core D). c.damage) has.ended.same

  pub back_fails : (point : Point) → TellsTables old t.0 point false → (refusal : Refusal)
      → FailsBackTo m old new t.0 point refusal → DamageStands m old new
  back_fails point none refusal (back_not_begun refused) o h stands told =
      ap (λ (c : Core D). c.damage) refused.wait.same
  back_fails point none refusal (back_not_copied begun continues ended is gives) o h stands told =
      given_up_stays begun new t.0 refusal gives ∙ ap (λ (c : Core D). c.damage) ended.same
  back_fails point none refusal (back_stopped begun undo has_begun reaches fails) o h stands told =
      given_up_stays fails.stopped new t.0 refusal fails.gives_up
      ∙ stopped_stays point none refusal begun undo has_begun reaches fails.stopped fails.stops o h stands

  pub back_takes : (point : Point) → TakesBackTo m old new t.0 point → new.damage ≡ old.damage
  back_takes point takes = ap (λ (c : Core D). c.damage) takes.takes.same
      ∙ (taken_stays m t.0 (not_asking t.0 takes.begun) takes.takes.taken takes.takes.takes.given
      takes.takes.takes.takes ∙ begun_stays takes.begun takes.undo takes.has_begun)

pub marks_meet_no_damage : {D P : Type 0} (m : Meaning D) → KnownOfBacks D P m → KeysMeetNoDamage D m
    → KeysMissNoPage D m → MarksMeetNoDamage D m
marks_meet_no_damage m known law missing old new t (Ok x) core none takes o h stands told =
    back_takes m known law missing old new t core LastMark takes
marks_meet_no_damage m known law missing old new t (Err refusal) core none fails o h stands told =
    back_fails m known law missing old new t core LastMark none refusal fails o h stands told

pub savepoints_meet_no_damage : {D P : Type 0} (m : Meaning D) → KnownOfBacks D P m → KeysMeetNoDamage D m
    → KeysMissNoPage D m → SavepointsMeetNoDamage D m
savepoints_meet_no_damage m known law missing old new t name (Ok true) core none goes o h stands told =
    back_takes m known law missing old new t core (SavepointNamed name) goes.1
savepoints_meet_no_damage {D} m known law missing old new t name (Ok false) core none goes o h stands told =
    ap (λ (c : Core D). c.damage) goes.2
savepoints_meet_no_damage m known law missing old new t name (Err refusal) core none fails o h stands told =
    back_fails m known law missing old new t core (SavepointNamed name) none refusal fails o h stands told

-- ---- and the trees stand at each change

module _ {D P : Type 0} (m : Meaning D) (known : KnownOfBacks D P m) (law : KeysMeetNoDamage D m)
    (missing : KeysMissNoPage D m) (enter : KeysEnterMidway D m) (old begun : Core D) (t : TxNo) (point : Point)
    (undo : Undo) (core : IsCore m old) (none : TellsTables old t.0 point false) (has_begun : HasBegun old begun t.0 undo)
    (reaches : MayReach undo point) (o : Opening) (h : Entries) (stands : StandsFor m old o h) (given : List Kept)
    (end : Undo) (all : GivesAll (going_to undo point) given end) where
  abbrev standing_then : Standing
  standing_then = standing_of old stands.numbers stands.tables

  abbrev deeds_then : List Change
  deeds_then = since_point point (deeds_by t.0 (steps o h))

  shows_then : ShowsIt m old o h (standing_of old stands.numbers stands.tables)
  shows_then = shows_of m old o h stands has_begun.continues.0

  back_then : IsBackEntry o h (entry (back_event t point) Fine) t.0 point
  back_then = back_entry m old t point undo has_begun.continues has_begun.its o h stands known.notes reaches
      (leaves_the_catalog m known old begun t point undo has_begun reaches none o h stands)

  given_then : AreGiven o h (entry (back_event t point) Fine) t.0 (standing_then.number t.0) deeds_then given
  given_then = known.undo_gives old.store.geometry.size (left_state everyone standing_then.state)
      (shown old.store.dirty shows_then.image) shows_then.stands.shows.layout shows_then.stands.shows.reading
      shows_then.stands.shows.sound o h (entry (back_event t point) Fine) point t.0 standing_then given end
      shows_then.stands.memory
      has_begun.continues.1 (shows_then.stands.shows.tables t.0 has_begun.continues.1) back_then.back back_then.may
      back_then.leaves (subst (λ (u : Undo). GivesAll (going_to u point) given end)
      (sym has_begun.its.2 ∙ sym (ap undo_kept has_begun.its.1)) all)

  pub all_stand : StandAll m t.0 (not_asking t.0 begun) given
  all_stand front later c mid parts takes = change_stands m known law missing old begun mid t point undo core has_begun o h
      stands shows_then (first_of deeds_then) [] given_then.each given_then.keys mid front later c
      (sym parts ∙ given_then.given_is)
      (subst (λ (x : Core D). TakesChanges m t.0 x front mid)
      (ap (λ (x : Core D). not_asking t.0 x) has_begun.ended.same) takes) enter

pub all_stand_back : {D P : Type 0} (m : Meaning D) → KnownOfBacks D P m → KeysMeetNoDamage D m → KeysMissNoPage D m
    → KeysEnterMidway D m → AllStandBack D m
all_stand_back m known law missing enter old begun t point undo core none has_begun reaches o h stands given end all =
    all_stand m known law missing enter old begun t point undo core none has_begun reaches o h stands given end all
