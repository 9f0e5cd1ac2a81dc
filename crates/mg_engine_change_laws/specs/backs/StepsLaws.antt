-- Each outcome of the core's calls gives what a keeper of records owes.
use Rattle.std.proofs.Common.{◌≡◌, ◌⊎◌, ◌∙◌, ◌∷◌, ◌&&◌, ◌||◌, ◌==◌, [], ℕ, Bool, Err, List, None, Ok, Option, Some, ap, arith, false, inl, inr, refl, subst, sym, true}
use Rattle.std.proofs.lemmas.Bool.{false≢true}
use Rattle.std.specs.Prelude.{if◌then◌else◌, is_some}
use Rattle.mg_base.specs.Disk.{Meaning}
use Rattle.mg_base.specs.declared.numbers.TxNo.{TxNo}
use Rattle.mg_base.specs.declared.transaction.TxState.TheVariants.{Active}
use Rattle.mg_core.specs.Cores.{Continues, IsCore}
use Rattle.mg_core.specs.Events.{EndsWait, IsRefused, RollsBack}
use Rattle.mg_core.specs.RefusingLaws.{full_is}
use Rattle.mg_core.specs.Refusing.{IsRefusal}
use Rattle.mg_core.specs.declared.parts.Core.{Core}
use Rattle.mg_engine_change_laws.specs.tables_back.CatalogLaws.{leaves_the_catalog}
use Rattle.mg_engine_change_laws.specs.keys.Chains.{keys_taken}
use Rattle.mg_engine_change_laws.specs.given_up.FailedLaws.{failed_gives}
use Rattle.mg_engine_change_laws.specs.given_up.StoppedLaws.{given_up_gives}
use Rattle.mg_engine_change_laws.specs.backs.Known.{KnownOfBacks}
use Rattle.mg_engine_change_laws.specs.given_up.ShortLaws.{refused_given, rolled_short, short_given}
use Rattle.mg_engine_change_laws.specs.backs.Outcomes.{GivenUpApart, IsBack, IsUndone, MarksGive, SavepointsGive, back_event}
use Rattle.mg_engine_change_laws.specs.given_up.Stopped.{stops_after}
use Rattle.mg_engine_change_laws.specs.given_up.StopsAfter.{StopsAfter}
use Rattle.mg_engine_change_laws.specs.given_up.StopsAfterLaws.{stopped_is}
use Rattle.mg_engine_change_laws.specs.backs.UndoneLaws.{taken_back_gives}
use Rattle.mg_engine_meaning_laws.specs.StillLaws.{still_quiet}
use Rattle.mg_engine_meaning_laws.specs.FrameLaws.{commits_of, keeps_of, sessions_of, store_stands, tables_of, works_same}
use Rattle.mg_engine_meaning_laws.specs.Frames.{GivesEvent}
use Rattle.mg_engine_meaning_laws.specs.LawfulLaws.{memory_of}
use Rattle.mg_engine_meaning_laws.specs.Meaning.{Places}
use Rattle.mg_engine_meaning_laws.specs.Standings.{StandsFor, undo_kept}
use Rattle.mg_engine_change_laws.specs.memory.Stages.{FailsReady, TellsOf}
use Rattle.mg_engine_change_laws.specs.memory.Notes.{AreCounts}
use Rattle.mg_model.specs.Effects.{has_deed}
use Rattle.mg_model.specs.History.{Entries}
use Rattle.mg_model.specs.Machine.{deeds_by, has_point as has_point_in, is_point, state_of, steps}
use Rattle.mg_model.specs.declared.answer.Answer.TheVariants.{Fine}
use Rattle.mg_model.specs.declared.change.Point.{Point}
use Rattle.mg_model.specs.declared.change.Point.TheVariants.{LastMark, SavepointNamed}
use Rattle.mg_model.specs.declared.change.Step.{Step}
use Rattle.mg_model.specs.declared.opening.Opening.{Opening}
use Rattle.mg_model.specs.declared.refusal.Refusal.{Refusal}
use Rattle.mg_model.specs.declared.refusal.Refusal.TheVariants.{Memory}
use Rattle.mg_pool.specs.Pool.{IsPool}
use Rattle.mg_pool.specs.declared.pool.Pool.{Pool}
use Rattle.mg_records.specs.TakingBack.{is_given_up}
use Rattle.mg_space.specs.View.{KeepsStore}
use Rattle.mg_space.specs.declared.fault.SpaceFault.{SpaceFault}
use Rattle.mg_space.specs.declared.links.FireLinks.{FireLinks}
use Rattle.mg_taking_back.specs.Tables.{TellsTables}
use Rattle.mg_taking_back.specs.Taking.{FailsBackTo, FailsFrom, GivesUpBy, GivesUpIf, HasBegun, IsRolledBack, MayReach, TakesBackTo, back_not_begun, back_not_copied, back_stopped, not_asking, works_back}
use Rattle.mg_txlist.specs.TxList.{said}
use Rattle.mg_undo.specs.Machine.{going_to}
use Rattle.mg_undo.specs.Undo.{State as Undo, has_point}
use Rattle.mg_works.specs.Works.{AreApart, IsWork, Working, has_savepoint, unasked, with_undo, with_work, without_tables, work_of}
use Rattle.mg_works.specs.WorksLaws.{with_apart, without_apart}
use Rattle.mg_pool.specs.declared.fault.PoolFault.TheVariants as pool_faults
use Rattle.mg_space.specs.declared.fault.SpaceFault.TheVariants as faults

-- ---- each session has one active transaction at most

its_work : (w : Working) → IsWork w → IsWork (unasked w)
its_work w is = record { session_below = is.session_below; lawful = is.lawful; written_lawful = is.written_lawful }

pub set_apart : (t : ℕ) (end : Undo) (works : List Working) → AreApart works
    → AreApart (with_work t (with_undo end) (with_work t unasked works))
set_apart t end works apart = with_apart t (with_undo end) (λ w. refl) (λ w. refl)
    (λ w is. record { session_below = is.session_below; lawful = is.lawful; written_lawful = is.written_lawful })
    (with_work t unasked works) (with_apart t unasked (λ w. refl) (λ w. refl) its_work works apart)

pub forgotten_apart : (t : ℕ) (works : List Working) → AreApart works → AreApart (with_work t without_tables works)
forgotten_apart t works apart = with_apart t without_tables (λ w. refl) (λ w. refl)
    (λ w is. record { session_below = is.session_below; lawful = tt; written_lawful = is.written_lawful }) works apart

-- ---- which way a change was not taken back

-- where pages were read, and the cache was and is online, the transaction is given up
given_up_by : {D : Type 0} (m : Meaning D) (before after : Pool D FireLinks) (fault : SpaceFault) (refusal : Refusal)
    → before.offline ≡ None → after.offline ≡ None → IsRefusal fault refusal → TellsOf m before after fault
    → is_given_up refusal ≡ true
given_up_by m before after (faults.Full limit) refusal up also is told = ap is_given_up (full_is refusal is).1
given_up_by m before after (faults.Damaged it) refusal up also is told = ap is_given_up is
given_up_by m before after (faults.Pool (pool_faults.Absent pages)) refusal up also is told = ap is_given_up is
given_up_by m before after (faults.Pool (pool_faults.DiskRead n)) refusal up also is told = ap is_given_up is
given_up_by m before after (faults.Pool (pool_faults.DiskWrite n)) refusal up also is told =
    let both : None ≡ Some n = sym also ∙ told.0 in absurd cc
given_up_by m before after (faults.Pool (pool_faults.Offline n)) refusal up also is told =
    let both : None ≡ Some n = sym up ∙ told in absurd cc
given_up_by m before after (faults.Pool pool_faults.Memory) refusal up also is told = ap is_given_up is

-- ---- a call that fails

module _ {D P : Type 0} (m : Meaning D) (places : Places P) (known : KnownOfBacks D P m) (old new : Core D) (t : TxNo)
    (core : IsCore m old) (apart : AreApart old.works) where
  -- the event is refused
  pub not_begun : (point : Point) (refusal : Refusal) → IsRefused old new t.0 refusal
      → GivenUpApart m places old new t point refusal
  not_begun point refusal refused = record {
    gives = refused_given m places known old new t point refusal refused;
    apart = subst AreApart (sym (ap (λ (c : Core D). c.works) refused.wait.same)) apart;
  }

  -- memory is wanting
  short : (point : Point) → RollsBack old new t.0 → GivenUpApart m places old new t point Memory
  short point rolls = record {
    gives = short_given m places known old new t point core apart rolls;
    apart = subst AreApart (sym (ap (λ (c : Core D). c.works) rolls.same)) (without_apart old.works t.0 apart);
  }

  -- memory is wanting once the event has begun
  pub short_begun : (point : Point) (refusal : Refusal) (begun : Core D) → Continues old t.0 → EndsWait old begun t.0
      → refusal ≡ Memory → GivesUpBy begun new t.0 refusal → GivenUpApart m places old new t point refusal
  short_begun point refusal begun continues ended is gives_up =
      subst (λ (r : Refusal). GivenUpApart m places old new t point r) (sym is) (short point
      (rolled_short old begun new t.0 continues ended
      (subst (λ (r : Refusal). GivesUpBy begun new t.0 r) is gives_up)))

  -- a step is refused, after some keys
  module _ (counted : AreCounts old) (point : Point) (refusal : Refusal) (begun stopped : Core D) (undo : Undo)
      (has_begun : HasBegun old begun t.0 undo) (stops : StopsAfter m old begun stopped t point refusal)
      (gives_up : GivesUpBy stopped new t.0 refusal) where
    up : stops.at.store.offline ≡ None
    up = stops.taken.on.online

    stopped_apart : AreApart stopped.works
    stopped_apart = subst AreApart
        (sym (ap (λ (c : Core D). c.works) (stopped_is m old begun stopped t point refusal stops)))
        (with_apart t.0 unasked (λ w. refl) (λ w. refl) its_work old.works apart)

    gone : (keeps : KeepsStore m stops.at.store stopped.store) → is_given_up refusal ≡ true
        → IsRolledBack stopped new t.0 → GivenUpApart m places old new t point refusal
    gone keeps is rolled = record {
      gives = given_up_gives m places known old begun stopped new t point undo refusal core counted apart has_begun stops
          rolled is keeps;
      apart = subst AreApart (sym (ap (λ (c : Core D). c.works) rolled.same))
          (without_apart stopped.works t.0 stopped_apart);
    }

    still : FailsReady m stops.at.store stopped.store stops.stopping.fault → new ≡ stopped
        → GivenUpApart m places old new t point refusal
    still ready same = subst (λ (c : Core D). GivenUpApart m places old c t point refusal) (sym same) (record {
      gives = failed_gives m places known old begun stopped t point undo refusal core counted has_begun stops ready;
      apart = stopped_apart;
    })

    at : KeepsStore m stops.at.store stopped.store ⊎ FailsReady m stops.at.store stopped.store stops.stopping.fault
        → GivenUpApart m places old new t point refusal
    at (inl keeps) =
        let is : is_given_up refusal ≡ true =
        given_up_by m stops.at.store stopped.store stops.stopping.fault refusal up (keeps.offline ∙ up)
        stops.stopping.is stops.stopping.told in
        gone keeps is (subst (λ (b : Bool). GivesUpIf b stopped new t.0) is gives_up)
    at (inr ready) =
        let is : is_given_up refusal ≡ false =
        ap is_given_up (subst (λ (f : SpaceFault). IsRefusal f refusal) ready.is stops.stopping.is) in
        still ready (subst (λ (b : Bool). GivesUpIf b stopped new t.0) is gives_up)

    pub stopped_given : GivenUpApart m places old new t point refusal
    stopped_given = at stops.stopping.left

  -- so where no change is of the catalog
  module _ (counted : AreCounts old) (point : Point) (refusal : Refusal) (none : TellsTables old t.0 point false) where
    change_stopped : (begun : Core D) (undo : Undo) → HasBegun old begun t.0 undo → MayReach undo point
        → FailsFrom m begun new t.0 (going_to undo point) refusal → GivenUpApart m places old new t point refusal
    change_stopped begun undo has_begun reaches fails =
        stopped_given counted point refusal begun fails.stopped undo has_begun (stops_after m known old begun
        fails.stopped t point undo refusal core (leaves_the_catalog m known old begun t point undo has_begun reaches none)
        has_begun reaches fails.stops) fails.gives_up

    pub not_taken : FailsBackTo m old new t.0 point refusal → GivenUpApart m places old new t point refusal
    not_taken (back_not_begun refused) = not_begun point refusal refused
    not_taken (back_not_copied begun continues ended is gives_up) =
        short_begun point refusal begun continues ended is gives_up
    not_taken (back_stopped begun undo has_begun reaches fails) = change_stopped begun undo has_begun reaches fails

  -- ---- a call that succeeds

  pub taken_apart : (point : Point) → TakesBackTo m old new t.0 point → AreApart new.works
  taken_apart point takes = subst AreApart (sym (ap (λ (c : Core D). c.works) takes.takes.same
      ∙ ap (λ (ws : List Working). works_back t.0 takes.takes.end ws) its_works))
      (forgotten_apart t.0 (with_work t.0 (with_undo takes.takes.end) (with_work t.0 unasked old.works))
      (set_apart t.0 takes.takes.end old.works apart))
    where
      its_works : takes.takes.taken.works ≡ with_work t.0 unasked old.works
      its_works = ap (λ (c : Core D). c.works) (keys_taken m t.0 (not_asking t.0 takes.begun) takes.takes.taken
          takes.takes.takes.given (ap (λ (c : Core D). c.store.offline) takes.has_begun.ended.same
          ∙ takes.has_begun.continues.0)
          (subst (λ (c : Core D). IsPool m c.store) (sym takes.has_begun.ended.same) core.pool)
          takes.takes.takes.takes).same
          ∙ ap (λ (c : Core D). with_work t.0 unasked c.works) takes.has_begun.ended.same

  pub taken_gives : (point : Point) → TellsTables old t.0 point false → TakesBackTo m old new t.0 point
      → GivesEvent m places old new (back_event t point) Fine None (Some t.0) (Some t.0) None None
  taken_gives point none takes = taken_back_gives m places known old new t point core
      (leaves_the_catalog m known old takes.begun t point takes.undo takes.has_begun takes.reaches none) takes

-- ---- what the calls owe, by their ends

module _ {D P : Type 0} (m : Meaning D) (places : Places P) (old new : Core D) (t : TxNo) where
  pub undone_by : (x : Unit {0})
      → GivesEvent m places old new (back_event t LastMark) Fine None (Some t.0) (Some t.0) None None
      → AreApart new.works → IsUndone m places old new t (Ok x)
  undone_by x gives apart = record {
    undoes = gives.adds;
    leaves = gives.leaves;
    crash = gives.crash;
    sessions = gives.sessions;
    apart = apart;
  }

  pub not_undone : (refusal : Refusal) → GivenUpApart m places old new t LastMark refusal
      → IsUndone m places old new t (Err refusal)
  not_undone refusal both = record {
    undoes = both.gives.gives_up;
    leaves = both.gives.leaves;
    crash = both.gives.crash;
    sessions = both.gives.sessions;
    apart = both.apart;
  }

  pub not_back : (name : List ℕ) (refusal : Refusal) → GivenUpApart m places old new t (SavepointNamed name) refusal
      → IsBack m places old new t name (Err refusal)
  not_back name refusal both = record {
    goes = both.gives.gives_up;
    leaves = both.gives.leaves;
    crash = both.gives.crash;
    sessions = both.gives.sessions;
    apart = both.apart;
  }

-- whether the savepoint stands in the history
point_deeds : (t : ℕ) (point : Point) (all : List Step) → has_deed point (deeds_by t all) ≡ has_point_in t point all
point_deeds t point [] = refl
point_deeds t point (s ∷ all) = at (s.by.0 == t) (point_deeds t point all)
  where
    at : (b : Bool) → has_deed point (deeds_by t all) ≡ has_point_in t point all
        → has_deed point (if b then s.deed ∷ deeds_by t all else deeds_by t all)
        ≡ ((b && is_point point s.deed) || has_point_in t point all)
    at true more = ap (λ (c : Bool). is_point point s.deed || c) more
    at false more = more

module _ {D P : Type 0} (m : Meaning D) (known : KnownOfBacks D P m) (old : Core D) (t : TxNo) (name : List ℕ)
    (active : said old.list t.0 ≡ Active) (o : Opening) (h : Entries) (stands : StandsFor m old o h) where
  its_state : state_of o h t.0 ≡ Active
  its_state = sym ((memory_of m old o h stands).state t.0) ∙ active

  work_there : (work : Working) → work_of old.works t.0 ≡ Some work
      → has_savepoint (work_of old.works t.0) name ≡ has_point_in t.0 (SavepointNamed name) (steps o h)
  work_there work is = ap (λ (w : Option Working). has_savepoint w name) is
      ∙ (ap (λ (u : Undo). has_point u (Some name)) (sym (ap undo_kept is)
      ∙ ((memory_of m old o h stands).active t.0 its_state).undo)
      ∙ (known.notes.found (stands.numbers t.0) name (deeds_by t.0 (steps o h))
      ∙ point_deeds t.0 (SavepointNamed name) (steps o h)))

  point_there : IsCore m old
      → has_savepoint (work_of old.works t.0) name ≡ has_point_in t.0 (SavepointNamed name) (steps o h)
  point_there core = at (work_of old.works t.0) refl
    where
      at : (found : Option Working) → work_of old.works t.0 ≡ found
          → has_savepoint (work_of old.works t.0) name ≡ has_point_in t.0 (SavepointNamed name) (steps o h)
      at None is = absurd (false≢true (sym (ap is_some is) ∙ core.active.has_work t.0 active))
      at (Some work) is = work_there work is

module _ {D P : Type 0} (m : Meaning D) (places : Places P) (known : KnownOfBacks D P m) (old new : Core D) (t : TxNo)
    (name : List ℕ) (core : IsCore m old) where
  pub back_by : Continues old t.0 → has_savepoint (work_of old.works t.0) name ≡ true
      → GivesEvent m places old new (back_event t (SavepointNamed name)) Fine None (Some t.0) (Some t.0) None None
      → AreApart new.works → IsBack m places old new t name (Ok true)
  back_by continues there gives apart = record {
    goes = λ o h stands. let adds = gives.adds o h stands in (
      sym (point_there m known old t name continues.1 o h stands core) ∙ there,
      adds.0,
      adds.1,
    );
    leaves = gives.leaves;
    crash = gives.crash;
    sessions = gives.sessions;
    apart = apart;
  }

  -- without the savepoint nothing has changed
  pub back_nowhere : AreApart old.works → has_savepoint (work_of old.works t.0) name ≡ false → Continues old t.0
      → new ≡ old → IsBack m places old new t name (Ok false)
  back_nowhere apart gone continues same =
      subst (λ (c : Core D). IsBack m places old c t name (Ok false)) (sym same) (record {
        goes = λ o h stands. (
          sym ((memory_of m old o h stands).state t.0) ∙ continues.1,
          sym (point_there m known old t name continues.1 o h stands core) ∙ gone,
          stands,
        );
        leaves = record {
          keeps = keeps_of m places old old None (store_stands m old.store) (omega arith) (omega arith)
              (record { cause = tt; offline = rw continues.0 tt; down = refl });
          tables_stay = tables_of m places old old (Some t.0) (λ u its not_. refl);
          walks_stay = λ u table after rows not_ comes. comes;
          commits = commits_of m places old old (Some t.0) (λ u not_. refl) (λ u not_. refl)
              (λ u page not_ was none. none);
        };
        crash = still_quiet m places old;
        sessions = sessions_of m places old old t.0 (works_same old.works t.0);
        apart = apart;
      })

-- ---- the laws

pub marks_give : {D P : Type 0} (m : Meaning D) → KnownOfBacks D P m → MarksGive D P m
marks_give m known places old new t (Ok x) core counted apart none takes = undone_by m places old new t x
    (taken_gives m places known old new t core apart LastMark none takes)
    (taken_apart m places known old new t core apart LastMark takes)
marks_give m known places old new t (Err refusal) core counted apart none fails = not_undone m places old new t refusal
    (not_taken m places known old new t core apart counted LastMark refusal none fails)

pub savepoints_give : {D P : Type 0} (m : Meaning D) → KnownOfBacks D P m → SavepointsGive D P m
savepoints_give m known places old new t name (Ok true) core counted apart none (there, takes) =
    back_by m places known old new t name core takes.has_begun.continues there
    (taken_gives m places known old new t core apart (SavepointNamed name) none takes)
    (taken_apart m places known old new t core apart (SavepointNamed name) takes)
savepoints_give m known places old new t name (Ok false) core counted apart none (gone, continues, same) =
    back_nowhere m places known old new t name core apart gone continues same
savepoints_give m known places old new t name (Err refusal) core counted apart none fails =
    not_back m places old new t name refusal
    (not_taken m places known old new t core apart counted (SavepointNamed name) refusal none fails)
