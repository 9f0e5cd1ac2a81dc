-- The calls of an engine are steps of its runs.
use Rattle.std.specs.Prelude.{◌≡◌, ◌≢◌, ◌⊎◌, ◌&&◌, ℕ, Bool, true, false, List, [], ◌∷◌, ◌++◌, Option, None, Some, is_some, unwrap_or}
use Rattle.std.proofs.Common.{inl, inr, refl, sym, subst, ap, ◌∙◌, arith}
use Rattle.std.proofs.Math.Path.{fun_ext}
use Rattle.std.proofs.lemmas.Bool.{and_from, and_parts, both_ways, cases_eq}
use Rattle.mg_base.specs.Disk.{Meaning}
use Rattle.mg_base.specs.Image.{Image, page_at}
use Rattle.mg_base.specs.declared.numbers.RecId.{RecId}
use Rattle.mg_base.specs.declared.numbers.TxNo.{TxNo}
use Rattle.mg_base.specs.declared.transaction.TxState.{TxState}
use Rattle.mg_base.specs.declared.transaction.TxState.TheVariants.{Active, Dead}
use Rattle.mg_careful.specs.CarefulWrite.{Cache, PageSet, Pages}
use Rattle.mg_careful.specs.Graph.{PageGraph}
use Rattle.mg_core.specs.Beginning.{Begins}
use Rattle.mg_core.specs.Committing.{Asks}
use Rattle.mg_core.specs.Cores.{IsCore}
use Rattle.mg_core.specs.Ending.{Commits}
use Rattle.mg_core.specs.Events.{RollsBack}
use Rattle.mg_core.specs.Putting.{PutsRow, works_kept}
use Rattle.mg_core.specs.declared.parts.Core.{Core}
use Rattle.mg_engine_demand_laws.specs.Bearing.{Fates, asks}
use Rattle.mg_engine_demand_laws.specs.Fates.{AsksNow, HasCommitted, StoodBefore}
use Rattle.mg_engine_demand_laws.specs.Numbers.{CommitsIn, HasBegun}
use Rattle.mg_engine_demand_laws.specs.Laying.{LaysGo}
use Rattle.mg_engine_demand_laws.specs.Runs.{GoesBy, TellsFewer, asks_commit, commits, draws, goes, only_reads, tells, writes_pages}
use Rattle.mg_engine_demand_laws.specs.StoreLaws.{reads_told}
use Rattle.mg_image.specs.Records.{Reading}
use Rattle.mg_image.specs.Tables.{Layout}
use Rattle.mg_model.specs.Answers.{is_active, is_committed}
use Rattle.mg_model.specs.declared.event.Mode.{Mode}
use Rattle.mg_model.specs.declared.table.Table.{Table}
use Rattle.mg_pool.specs.Dirty.{DirtyPages, content_of, is_dirty, is_marked}
use Rattle.mg_pool.specs.Pool.{cache_of, shown}
use Rattle.mg_pool.specs.declared.pool.Pool.{Pool}
use Rattle.mg_records.specs.declared.write.Write.{Write}
use Rattle.mg_row_writes.specs.BareLaws.{bare_lays}
use Rattle.mg_space.specs.declared.links.FireLinks.{FireLinks}
use Rattle.mg_txlist.specs.TxList.{next_said, said}
use Rattle.mg_txlist.specs.declared.list.TxList.{TxList}
use Rattle.mg_undo.specs.declared.changes.Was.{Was}
use Rattle.mg_value.specs.declared.value.Value.{Value}
use Rattle.mg_works.specs.Works.{AreApart, Working, begun, has_asked, unasked, with_change, with_work, work_of}
use Rattle.mg_works.specs.WorksLaws.{more_its, more_others, with_its, with_none, with_others, without_others}
use Rattle.mg_demand_laws.specs.PoolTies.{cache_over}
use Rattle.mg_engine_demand_laws.specs.Calls.{AsksGo, BeginsGo, CommitsGo, IsSoundAt, MayCommit, PagesGo, ReadsGo, RollbacksGo, RowsGo, laying_at}
use Rattle.mg_engine_demand_laws.specs.Moments.{asked_by, fates_of, moment_of, session_by}
use Rattle.mg_engine_demand_laws.specs.WorkLaws.{next_dead, next_none, sessions_apart}

-- who asks, by the state and by the work
pub same_asks : (x y : TxState) (a b : Option Working) → x ≡ y → a ≡ b
    → (is_active x && asked_by a) ≡ (is_active y && asked_by b)
same_asks x y a b state work = ap (λ (s : TxState). is_active s && asked_by a) state
    ∙ ap (λ (w : Option Working). is_active y && asked_by w) work

pub none_asks : (x : Bool) (w : Option Working) → asked_by w ≡ false → (x && asked_by w) ≡ true → ⊥
none_asks true w is asked = both_ways (asked_by w) is asked
none_asks false w is asked = absurd cc

-- ---- a transaction begins

module _ {D : Type 0} (m : Meaning D) (old new : Core D) (session : ℕ) (mode : Mode) (t : ℕ) (core : IsCore m old)
    (begins : Begins m old new session mode t) where
  works_are : new.works ≡ old.works ++ begun t session mode ∷ []
  works_are = ap (λ (c : Core D). c.works) begins.same

  none : work_of old.works t ≡ None
  none = next_none m old t core begins.number

  others : (u : ℕ) → u ≢ t → work_of new.works u ≡ work_of old.works u
  others u other = ap (λ (ws : List Working). work_of ws u) works_are
      ∙ more_others old.works (begun t session mode) u other

  its : work_of new.works t ≡ Some (begun t session mode)
  its = ap (λ (ws : List Working). work_of ws t) works_are ∙ more_its old.works (begun t session mode) none

  has_begun : HasBegun (fates_of old) (fates_of new) (next_said old.list)
  has_begun = subst (HasBegun (fates_of old) (fates_of new)) begins.number (record {
    undrawn = ap is_committed (next_dead old.list t core.list.some begins.number);
    here = ap (said new.list) begins.number ∙ begins.adds.here;
    not_asked = ap asked_by its;
    others = λ u other. begins.adds.others u (λ same. other (same ∙ sym begins.number));
    asking = λ u other asked. (
      sym (same_asks (said new.list u) (said old.list u) (work_of new.works u) (work_of old.works u)
          (begins.adds.others u (λ same. other (same ∙ sym begins.number))) (others u other)) ∙ asked,
      ap session_by (others u other),
    );
  })

pub begins_go : (D : Type 0) (m : Meaning D) → BeginsGo D m
begins_go D m old new session mode t i j layout r state known core begins held =
    draws (moment_of old i layout) old.list new.list new.store j (fates_of new) r state (record {
      geometry = known.is.geometry;
      size = known.is.size;
      was = known.is.list;
      now = core.list;
      adds = begins.adds;
      draws = begins.draws;
      tells = known.tells;
      held = held;
      next = known.next;
    }) known.sound (has_begun m old new session mode t known.is begins)

-- ---- a commit is asked for

-- a cache is its four parts
cache_from : Pages → Pages → PageSet → (ℕ → ℕ → Bool) → Cache
cache_from disk pool dirty ordered = record { disk = disk; pool = pool; dirty = dirty; ordered = ordered }

-- where contents are as they were, the cache is
same_contents : (old new : DirtyPages) (graph : PageGraph) (i : Image) → new.size ≡ old.size
    → ((page : ℕ) → content_of new page ≡ content_of old page) → cache_of new graph i ≡ cache_of old graph i
unfolding cache_from
same_contents old new graph i size contents =
    ap (λ (n : ℕ). cache_from (page_at n i) (shown new i) (is_dirty new) (cache_of new graph i).ordered) size
    ∙ (ap (λ (x : Pages). cache_from (page_at old.size i) x (is_dirty new) (cache_of new graph i).ordered)
    (fun_ext (λ p. ap (λ (o : Option (List ℕ)). unwrap_or o (page_at new.size i p)) (contents p)
    ∙ ap (λ (n : ℕ). unwrap_or (content_of old p) (page_at n i p)) size))
    ∙ ap (λ (x : PageSet). cache_from (page_at old.size i) (shown old i) x (cache_of new graph i).ordered)
    (fun_ext (λ p. ap is_some (contents p))))

module _ {D : Type 0} (m : Meaning D) (old new : Core D) (t : ℕ) (i : Image) (apart : AreApart old.works)
    (asked : Asks old new t) where
  works_now : new.works ≡ with_work t has_asked old.works
  works_now = ap (λ (c : Core D). c.works) asked.same

  list_same : new.list ≡ old.list
  list_same = ap (λ (c : Core D). c.list) asked.same

  its_now : work_of new.works t ≡ Some (has_asked asked.of_session.work)
  its_now = ap (λ (ws : List Working). work_of ws t) works_now
      ∙ with_its t has_asked (λ w. refl) (λ w. refl) old.works asked.of_session.work asked.of_session.its

  others_now : (u : ℕ) → u ≢ t → work_of new.works u ≡ work_of old.works u
  others_now u other = ap (λ (ws : List Working). work_of ws u) works_now
      ∙ with_others t has_asked (λ w. refl) (λ w. refl) old.works u other

  session_now : (fates_of new).session t ≡ asked.session
  session_now = ap session_by its_now ∙ asked.of_session.session_is

  same_cache : cache_over new.store i ≡ cache_over old.store i
  same_cache = ap (λ (g : PageGraph). cache_of new.store.dirty g i) (ap (λ (s : Pool D FireLinks). s.graph) asked.store)
      ∙ same_contents old.store.dirty new.store.dirty old.store.graph i asked.marks.size asked.marks.contents

  other_session : (u : ℕ) → u ≢ t → (found : Option Working) → work_of old.works u ≡ found
      → (is_active (said new.list u) && asked_by (work_of new.works u)) ≡ true
      → session_by (work_of new.works u) ≢ (fates_of new).session t
  other_session u other None found asks_ same = none_asks (is_active (said new.list u)) (work_of new.works u)
      (ap asked_by (others_now u other ∙ found)) asks_
  other_session u other (Some w) found asks_ same = sessions_apart old.works apart t u asked.of_session.work w
      (λ e. other (sym e)) asked.of_session.its found
      (asked.of_session.session_is ∙ (sym session_now
      ∙ (sym same ∙ ap session_by (others_now u other ∙ found))))

  asks_now : AsksNow (cache_over old.store i) (is_marked old.store.dirty) (is_marked new.store.dirty) (fates_of old)
      (fates_of new) t
  asks_now = record {
    state = λ u. ap (λ (l : TxList). said l u) list_same;
    asked = and_from _ _ (ap (λ (l : TxList). is_active (said l t)) list_same
        ∙ ap is_active asked.of_session.continues.1) (ap asked_by its_now);
    others = λ u other. (
      same_asks (said new.list u) (said old.list u) (work_of new.works u) (work_of old.works u)
          (ap (λ (l : TxList). said l u) list_same) (others_now u other),
      ap session_by (others_now u other),
    );
    apart = λ u other asks_. other_session u other (work_of old.works u) refl asks_;
    marked = λ page. ap (is_marked new.store.dirty page) session_now ∙ asked.marks.marked page;
    other_marks = λ page who other. asked.marks.others page who (λ same. other (same ∙ sym session_now));
  }

pub asks_go : (D : Type 0) (m : Meaning D) → AsksGo D m
asks_go D m old new t i layout apart asked = asks_commit (moment_of old i layout) new.store (fates_of new) t asked.store
    (same_cache m old new t i apart asked) (asks_now m old new t i apart asked)

-- ---- pages

-- an engine whose store alone has changed tells the same of its transactions
pub pages_go : (D : Type 0) (m : Meaning D) → PagesGo D m
pages_go D m old new goal page i j layout one told held =
    subst (λ (f : Fates). GoesBy m (moment_of old i layout)
    (record { store = new.store; image = j; fates = f; layout = layout })) (sym (ap fates_of one.others))
    (writes_pages (moment_of old i layout) new.store j one.run told held)

-- fates by the list and the works
abbrev fates_by : TxList → List Working → Fates
fates_by l ws = record {
  state = said l;
  asked = λ t. asked_by (work_of ws t);
  session = λ t. session_by (work_of ws t);
}

pub reads_go : (D : Type 0) (m : Meaning D) → ReadsGo D m
reads_go D m old new i layout keeps list works =
    subst (λ (f : Fates). GoesBy m (moment_of old i layout)
    (record { store = new.store; image = i; fates = f; layout = layout }))
    (sym (ap (λ (l : TxList). fates_by l new.works) list ∙ ap (fates_by old.list) works))
    (only_reads (moment_of old i layout) new.store keeps)

-- ---- a commit

module _ {D : Type 0} (m : Meaning D) (old new : Core D) (t : ℕ) (i k j : Image) (layout : Layout) (r : Reading)
    (state : ℕ → TxState) (known : IsSoundAt m old i layout r state) (committed : Commits m old new t)
    (may : MayCommit m old new t i k committed) (held : m.held new.store.disk ≡ Some j) where
  others_left : (u : ℕ) → u ≢ t → work_of new.works u ≡ work_of old.works u
  others_left u other = ap (λ (ws : List Working). work_of ws u) (ap (λ (c : Core D). c.works) committed.same)
      ∙ without_others old.works t u other

  commits_in : CommitsIn m old.list new.list old.store new.store i k j t
  commits_in = record {
    commits = committed.bits;
    tells = known.tells;
    midway = may.midway;
    held = held;
    shows = may.shows;
    drawn = may.drawn;
    small = let most = known.is.list.most in let next = known.next in omega (arith, most, next);
  }

  has_committed : HasCommitted (is_marked old.store.dirty) (fates_of old) (fates_of new) t
  has_committed = record {
    asked = and_from _ _ (ap is_active committed.continues.1) may.asked;
    none_marked = may.none_marked;
    here = committed.ends.here;
    others = committed.ends.others;
    asking = λ u other. (
      same_asks (said new.list u) (said old.list u) (work_of new.works u) (work_of old.works u)
          (committed.ends.others u other) (others_left u other),
      ap session_by (others_left u other),
    );
  }

pub commits_go : (D : Type 0) (m : Meaning D) → CommitsGo D m
commits_go D m old new t i k j layout r state known committed may held =
    commits (moment_of old i layout) old.list new.list new.store k j t (fates_of new) r state
    (commits_in m old new t i k j layout r state known committed may held) known.sound
    (has_committed m old new t i k j layout r state known committed may held)

-- ---- a rollback

module _ {D : Type 0} (m : Meaning D) (old new : Core D) (t : ℕ) (layout later : Layout) (back : RollsBack old new t)
    (stood : StoodBefore layout later) where
  others_go_on : (u : ℕ) → u ≢ t → work_of new.works u ≡ work_of old.works u
  others_go_on u other = ap (λ (ws : List Working). work_of ws u) (ap (λ (c : Core D). c.works) back.same)
      ∙ without_others old.works t u other

  committed_as_before : (u : ℕ) → (u ≡ t) ⊎ (u ≢ t) → is_committed (said new.list u) ≡ is_committed (said old.list u)
  committed_as_before u (inl same) = ap is_committed (ap (said new.list) same ∙ back.ends.here)
      ∙ sym (ap is_committed (ap (said old.list) same ∙ back.continues.1))
  committed_as_before u (inr other) = ap is_committed (back.ends.others u other)

  asks_as_before : (u : ℕ) → asks (fates_of new) u ≡ true → (u ≡ t) ⊎ (u ≢ t)
      → (asks (fates_of old) u ≡ true) × ((fates_of new).session u ≡ (fates_of old).session u)
  asks_as_before u asked (inl same) =
      let dead : is_active (said new.list u) ≡ false = ap is_active (ap (said new.list) same ∙ back.ends.here) in
      absurd (both_ways _ dead (and_parts (is_active (said new.list u)) _ asked).0)
  asks_as_before u asked (inr other) = (
    sym (same_asks (said new.list u) (said old.list u) (work_of new.works u) (work_of old.works u)
        (back.ends.others u other) (others_go_on u other)) ∙ asked,
    ap session_by (others_go_on u other),
  )

  active_as_before : (u : ℕ) → said new.list u ≡ Active → (u ≡ t) ⊎ (u ≢ t) → said old.list u ≡ Active
  active_as_before u active (inl same) =
      let both : Active ≡ Dead = sym active ∙ (ap (said new.list) same ∙ back.ends.here) in absurd cc
  active_as_before u active (inr other) = sym (back.ends.others u other) ∙ active

  tells_fewer : TellsFewer (fates_of old) (fates_of new) layout later
  tells_fewer = record {
    committed = λ u. committed_as_before u (cases_eq u t);
    asking = λ u asked. asks_as_before u asked (cases_eq u t);
    active = λ u active. active_as_before u active (cases_eq u t);
    tables = stood;
  }

pub rollbacks_go : (D : Type 0) (m : Meaning D) → RollbacksGo D m
rollbacks_go D m old new t i layout later back stood =
    subst (λ (s : Pool D FireLinks). GoesBy m (moment_of old i layout)
    (record { store = s; image = i; fates = fates_of new; layout = later }))
    (sym (ap (λ (c : Core D). c.store) back.same))
    (tells (moment_of old i layout) (fates_of new) later (tells_fewer m old new t layout later back stood))

-- ---- a row is put

-- its commit is no longer asked for
kept_unasked : (works : List Working) (t owner : ℕ) (key : Value) (was : Was) (found : Option Working)
    → work_of works t ≡ found → asked_by (work_of (works_kept t owner key was works) t) ≡ false
kept_unasked works t owner key was None found = ap asked_by (with_none t unasked (λ w. refl) (λ w. refl)
    (with_work t (with_change owner key was) works) t
    (with_none t (with_change owner key was) (λ w. refl) (λ w. refl) works t found))
kept_unasked works t owner key was (Some w) found = ap asked_by (with_its t unasked (λ x. refl) (λ x. refl)
    (with_work t (with_change owner key was) works) (with_change owner key was w)
    (with_its t (with_change owner key was) (λ x. refl) (λ x. refl) works w found))

kept_others : (works : List Working) (t owner : ℕ) (key : Value) (was : Was) (u : ℕ) → u ≢ t
    → work_of (works_kept t owner key was works) u ≡ work_of works u
kept_others works t owner key was u other = with_others t unasked (λ w. refl) (λ w. refl)
    (with_work t (with_change owner key was) works) u other
    ∙ with_others t (with_change owner key was) (λ w. refl) (λ w. refl) works u other

module _ {D : Type 0} (m : Meaning D) (old new : Core D) (t : TxNo) (table : Table) (write : Write) (key : Value)
    (rec : Option RecId) (i j : Image) (layout later : Layout) (puts : PutsRow m old new t table write key rec) where
  abbrev read : Core D
  read = puts.read

  works_put : new.works ≡ works_kept t.0 table.pointer.0 key puts.before.was read.works
  works_put = ap (λ (c : Core D). c.works) puts.laid.same

  list_put : new.list ≡ read.list
  list_put = ap (λ (c : Core D). c.list) puts.laid.same

  others_put : (u : ℕ) → u ≢ t.0 → work_of new.works u ≡ work_of read.works u
  others_put u other = ap (λ (ws : List Working). work_of ws u) works_put
      ∙ kept_others read.works t.0 table.pointer.0 key puts.before.was u other

  unasked_put : asked_by (work_of new.works t.0) ≡ false
  unasked_put = ap (λ (ws : List Working). asked_by (work_of ws t.0)) works_put
      ∙ kept_unasked read.works t.0 table.pointer.0 key puts.before.was (work_of read.works t.0) refl

  asks_put : (u : ℕ) → asks (fates_of new) u ≡ true → (u ≡ t.0) ⊎ (u ≢ t.0)
      → (asks (fates_of read) u ≡ true) × ((fates_of new).session u ≡ (fates_of read).session u)
  asks_put u asked (inl same) = absurd (none_asks (is_active (said new.list u)) (work_of new.works u)
      (ap (λ (k : ℕ). asked_by (work_of new.works k)) same ∙ unasked_put) asked)
  asks_put u asked (inr other) = (
    sym (same_asks (said new.list u) (said read.list u) (work_of new.works u) (work_of read.works u)
        (ap (λ (l : TxList). said l u) list_put) (others_put u other)) ∙ asked,
    ap session_by (others_put u other),
  )

  tells_put : TellsFewer (fates_of read) (fates_of new) layout layout
  tells_put = record {
    committed = λ u. ap (λ (l : TxList). is_committed (said l u)) list_put;
    asking = λ u asked. asks_put u asked (cases_eq u t.0);
    active = λ u active. sym (ap (λ (l : TxList). said l u) list_put) ∙ active;
    tables = λ other its. its;
  }

pub rows_go : (D : Type 0) (m : Meaning D) → LaysGo D m → RowsGo D m
rows_go D m law old new t table write key rec i j layout later puts bare told held knows =
    goes (moment_of old i layout) (moment_of puts.read i layout) (moment_of new j later)
    (reads_go D m old puts.read i layout puts.has.reads.keeps
    (ap (λ (c : Core D). c.list) puts.has.reads.same) (ap (λ (c : Core D). c.works) puts.has.reads.same))
    (goes (moment_of puts.read i layout) (laying_at puts.read new i layout) (moment_of new j later)
    (tells (moment_of puts.read i layout) (fates_of new) layout
    (tells_put m old new t table write key rec i j layout later puts))
    (law (laying_at puts.read new i layout) new.store j later t.0 table puts.version puts.before.way
    (bare_lays m table bare puts.read.store new.store puts.before.way write puts.version puts.laid.lays)
    (reads_told m old.store puts.read.store i puts.has.reads.keeps told) held puts.has.stored.its knows))
