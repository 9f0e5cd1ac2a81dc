-- What an engine leaves of a record that it collects is what remains of it by the history that it stands for.
use Rattle.std.proofs.Common.{◌≡◌, ◌∙◌, refl, sym, ap, subst, ◌&&◌, ◌||◌, ℕ, Bool, true, false, arith, not, List, [], ◌∷◌, length, map, None, Option, Some, is_some, inl, inr}
use Rattle.std.specs.List.{list_any}
use Rattle.std.proofs.Math.Path.{fun_ext}
use Rattle.mg_base.specs.Disk.{MayLeave, Meaning}
use Rattle.mg_base.specs.Image.{Image}
use Rattle.mg_base.specs.declared.numbers.RecId.{RecId}
use Rattle.mg_base.specs.declared.numbers.TxNo.{TxNo}
use Rattle.mg_base.specs.declared.transaction.TxState.{TxState}
use Rattle.mg_base.specs.declared.transaction.TxState.TheVariants.{Active, Committed, Dead, Limbo}
use Rattle.mg_chain.specs.Bases.{StandsFor as BasesStandFor}
use Rattle.mg_chain.specs.Chains.{newest_link}
use Rattle.mg_chain.specs.Views.{is_dead}
use Rattle.mg_chain.specs.Writing.{leading_to, link_to}
use Rattle.mg_collecting.specs.Leaving.{AreLinked, HasInOrder, LeavesTold, first_link}
use Rattle.mg_collecting.specs.Remaining.{IsToldOf, from_committed, needed_behind, remaining, without_dead, without_erased, without_unneeded}
use Rattle.mg_core.specs.Cores.{IsCore}
use Rattle.mg_core.specs.declared.parts.Core.{Core}
use Rattle.mg_core_collecting.specs.Places.{CollectsOn, CollectsSettled, IsSettled, IsUnsettled, collects, no_record, nothing_settled}
use Rattle.mg_engine_meaning_laws.specs.Meaning.{Places, means}
use Rattle.mg_engine_meaning_laws.specs.Standings.{ShowsIt, StandsFor, standing_of}
use Rattle.mg_engine_meaning_laws.specs.StepLaws.{shows_of}
use Rattle.mg_engine_step_laws.specs.standing.Based.{AreBased, IsBased}
use Rattle.mg_engine_step_laws.specs.standing.Standing.{ShowsHistory}
use Rattle.mg_heap.specs.Stands.{TablesAreWalked}
use Rattle.mg_image.specs.Form.{Pages, packed_form}
use Rattle.mg_image.specs.ReadingLaws.{Opens, chain_opens}
use Rattle.mg_image.specs.RecordRules.{Each, EachBack}
use Rattle.mg_image.specs.Records.{Cells, Chain, cells_of, writer}
use Rattle.mg_image.specs.Tables.{stands_of, table_at}
use Rattle.mg_image.specs.declared.entry.Entry.{Entry}
use Rattle.mg_lasting_laws.specs.PoolLaws.{HoldsOne}
use Rattle.mg_model.specs.Answers.{is_committed, is_open, told}
use Rattle.mg_model.specs.History.{Entries}
use Rattle.mg_model.specs.Machine.{state_of}
use Rattle.mg_model.specs.Openings.{Each as EachOf, everyone}
use Rattle.mg_model.specs.declared.opening.Opening.{Opening}
use Rattle.mg_model.specs.declared.table.Table.{Table}
use Rattle.mg_overlay_laws.specs.Overlays.{left_by, left_state}
use Rattle.mg_pool.specs.Dirty.{DirtyPages}
use Rattle.mg_pool.specs.Pool.{shown}
use Rattle.mg_seek.specs.Speaking.{is_erased_for_all}
use Rattle.mg_snap.specs.Live.{Entered, State, all_see, base_sees, misses, needed, sees, wants_older}
use Rattle.mg_snap.specs.LiveLaws.{all_see_it, unneeded}
use Rattle.mg_space.specs.View.{KeepsStore, Tells}
use Rattle.mg_space.specs.ViewLaws.{tells_on}
use Rattle.mg_tending.specs.Collecting.{Collects, IsErased, IsLeft, IsMissed, IsSeenByEach, IsToldGone, Kept, LeavesOf, LeftBehind, LeftOfAll, LeftOfCommitted, Remains, UnlessErased, committed_newest, dead_newest, erased, is_missed, newest_committed, no_committed, no_more, none_behind, not_erased, not_missed, open_newest, several}
use Rattle.mg_txlist.specs.TxList.{said}
use Rattle.mg_version.specs.declared.cell.Cell.TheVariants as cells
use Rattle.mg_version.specs.declared.cell.Link.{Link}
use Rattle.mg_version.specs.declared.cell.Version.{Version}
use Rattle.mg_works.specs.Works.{given_to}
use Rattle.mg_engine_collecting_laws.specs.PlaceNamed.{record_there}
use Rattle.mg_engine_collecting_laws.specs.RunStays.{steps_on}
use Rattle.mg_engine_collecting_laws.specs.StepKeeps.{both_of, committed_is, dead_is}
use Rattle.mg_engine_collecting_laws.specs.Versions.{HasKept, collecting, kept_of}

-- so it is with each collection that was made, of a record of a table that was given to a transaction
abbrev pub CollectionsLeave : (D P : Type 0) → Meaning D → Type 0
CollectionsLeave D P m = (places : Places P) (old new : Core D) (t : TxNo) (table : Table) (place : P) (gone : Bool)
    → IsCore m old → given_to old.works t.0 table.name ≡ Some table
    → CollectsOn m old new t table (places.rec place) gone
    → Collects (means m places) (collecting m places) old new table place gone

-- ---- states and tests

not_both : (b : Bool) → b ≡ true → b ≡ false → ⊥
not_both b yes_ no_ = let both : true ≡ false = sym yes_ ∙ no_ in absurd cc

true_of_not : (b : Bool) → not b ≡ true → b ≡ false
true_of_not true is = absurd cc
true_of_not false is = refl

-- one that is neither committed nor dead is open
open_is : (s : TxState) → is_committed s ≡ false → is_dead s ≡ false → is_open s ≡ true
open_is Active is alive = refl
open_is Limbo is alive = refl
open_is Dead is alive = absurd cc
open_is Committed is alive = absurd cc

not_committed : (s : TxState) → is_committed s ≡ false → s ≡ Committed → ⊥
not_committed s no_ is = not_both (is_committed s) (ap is_committed is) no_

dead_uncommitted : (s : TxState) → is_dead s ≡ true → is_committed s ≡ false
dead_uncommitted Active is = absurd cc
dead_uncommitted Limbo is = absurd cc
dead_uncommitted Dead is = refl
dead_uncommitted Committed is = absurd cc

-- the newest version is of a committed transaction, or another one stands behind it
abbrev pub HaveSettled : (ℕ → TxState) → List Entry → Type 0
HaveSettled state [] = ⊥
HaveSettled state (e ∷ []) = is_committed (state (writer e)) ≡ true
HaveSettled state (e ∷ d ∷ es) = Unit {0}

module _ (o : Opening) (h : Entries) (live : State) (stands : BasesStandFor o h live) (based : AreBased o h live) where
  abbrev state : ℕ → TxState
  state = state_of o h

  -- who is active saw of committed ones those that its base sees
  saw_is : (t u : ℕ) → state t ≡ Active → is_committed (state u) ≡ true → (told o h).saw t u ≡ sees live t u
  saw_is t u works committed =
      sym (stands.base t u works) ∙ ap (λ (b : Bool). b && sees live t u) committed

  -- a base that wants the older one is of an active transaction that misses it
  wants_missed : (newer older : ℕ) → is_committed (state newer) ≡ true → is_committed (state older) ≡ true
      → (e : Entered) → IsBased o h live e → wants_older newer older e ≡ true → IsMissed o h newer older
  wants_missed newer older first second e is wants =
      let one = both_of (is_some e.base) (base_sees e.base older && not (base_sees e.base newer)) wants in
      let two = both_of (base_sees e.base older) (not (base_sees e.base newer)) one.1 in
      let its = is one.0 in (
        e.number,
        its.0,
        saw_is e.number older its.0 second ∙ (sym (its.1 older) ∙ two.0),
        saw_is e.number newer its.0 first
            ∙ (sym (its.1 newer) ∙ true_of_not (base_sees e.base newer) two.1),
      )

  some_missed : (newer older : ℕ) → is_committed (state newer) ≡ true → is_committed (state older) ≡ true
      → (es : List Entered) → EachOf (IsBased o h live) es → list_any (wants_older newer older) es ≡ true
      → IsMissed o h newer older
  some_missed newer older first second [] each is = absurd cc
  some_missed newer older first second (e ∷ es) each is =
      by (wants_older newer older e) refl is (some_missed newer older first second es each.1)
    where
      by : (b : Bool) → wants_older newer older e ≡ b → (b || list_any (wants_older newer older) es) ≡ true
          → (list_any (wants_older newer older) es ≡ true → IsMissed o h newer older) → IsMissed o h newer older
      by true wants is_ further = wants_missed newer older first second e each.0 wants
      by false wants is_ further = further is_

  missed : (newer older : ℕ) → is_committed (state newer) ≡ true → is_committed (state older) ≡ true
      → needed live newer older ≡ true → IsMissed o h newer older
  missed newer older first second is = some_missed newer older first second live.entered based is

  never_missed : (newer older : ℕ) → is_committed (state newer) ≡ true → is_committed (state older) ≡ true
      → needed live newer older ≡ false → IsMissed o h newer older → ⊥
  never_missed newer older first second none (t, works, saw, unseen) =
      not_both (sees live t newer)
      (unneeded live t newer older none (stands.based t works) (sym (saw_is t older works second) ∙ saw))
      (sym (saw_is t newer works first) ∙ unseen)

  -- all bases see one where each active transaction saw it, and only there
  seen_by_each : (by : ℕ) → is_committed (state by) ≡ true → all_see live by ≡ true → IsSeenByEach o h by
  seen_by_each by committed all t works = saw_is t by works committed ∙ all_see_it live t by all (stands.based t works)

  some_misses : (by : ℕ) → is_committed (state by) ≡ true → (es : List Entered) → EachOf (IsBased o h live) es
      → list_any (misses by) es ≡ true → IsSeenByEach o h by → ⊥
  some_misses by committed [] each is all = absurd cc
  some_misses by committed (e ∷ es) each is all =
      at (misses by e) refl is (λ further. some_misses by committed es each.1 further all)
    where
      one : misses by e ≡ true → ⊥
      one misses_it =
          let two = both_of (is_some e.base) (not (base_sees e.base by)) misses_it in
          let its = each.0 two.0 in
          not_both (base_sees e.base by)
          (its.1 by ∙ (sym (saw_is e.number by its.0 committed) ∙ all e.number its.0))
          (true_of_not (base_sees e.base by) two.1)

      at : (b : Bool) → misses by e ≡ b → (b || list_any (misses by) es) ≡ true
          → (list_any (misses by) es ≡ true → ⊥) → ⊥
      at true misses_it is_ further = one misses_it
      at false misses_it is_ further = further is_

  unseen : (by : ℕ) → is_committed (state by) ≡ true → all_see live by ≡ false → IsSeenByEach o h by → ⊥
  unseen by committed no_ = some_misses by committed live.entered based (negated (list_any (misses by) live.entered) no_)
    where
      negated : (b : Bool) → not b ≡ false → b ≡ true
      negated true is = refl
      negated false is = absurd cc

  -- ---- what remains

  -- these versions are of committed transactions
  abbrev AllCommitted : List Entry → Type 0
  AllCommitted es = Each (λ (e : Entry). is_committed (state (writer e)) ≡ true) es

  abbrev versions : List Entry → List Kept
  versions es = map kept_of es

  behind_left : (newer : ℕ) → is_committed (state newer) ≡ true → (es : List Entry) → AllCommitted es
      → LeftBehind o h newer (versions es) (versions (needed_behind state live newer es))
  behind_left newer first [] each = none_behind newer
  behind_left newer first (e ∷ es) each =
      by (needed live newer (writer e)) refl (behind_left (writer e) each.0 es each.1)
    where
      is_it : state (writer e) ≡ Committed
      is_it = committed_is (state (writer e)) each.0

      by : (b : Bool) → needed live newer (writer e) ≡ b
          → LeftBehind o h (writer e) (versions es) (versions (needed_behind state live (writer e) es))
          → LeftBehind o h newer (versions (e ∷ es)) (versions (needed_behind state live newer (e ∷ es)))
      by true need further = rw each.0 (rw need (is_missed newer (kept_of e) (versions es)
          (versions (needed_behind state live (writer e) es)) is_it
          (missed newer (writer e) first each.0 need) further))
      by false need further = rw each.0 (rw need (not_missed newer (kept_of e) (versions es)
          (versions (needed_behind state live (writer e) es)) is_it
          (never_missed newer (writer e) first each.0 need) further))

  committed_left : (es : List Entry) → AllCommitted es
      → LeftOfCommitted o h (versions es) (versions (from_committed state live es))
  committed_left [] each = no_committed
  committed_left (e ∷ es) each = rw each.0 (newest_committed (kept_of e) (versions es)
      (versions (needed_behind state live (writer e) es)) (committed_is (state (writer e)) each.0)
      (behind_left (writer e) each.0 es each.1))

  unneeded_left : (e : Entry) (es : List Entry) → is_committed (state (writer e)) ≡ true → AllCommitted es
      → without_unneeded state live (e ∷ es) ≡ from_committed state live (e ∷ es)
  unneeded_left e es is each = rw is refl

  -- behind a newest version that is gone the others are committed
  all_unneeded : (es : List Entry) → AllCommitted es → without_unneeded state live es ≡ from_committed state live es
  all_unneeded [] each = refl
  all_unneeded (e ∷ es) each = unneeded_left e es each.0 each.1

  all_left : (e : Entry) (es : List Entry) → AllCommitted es
      → LeftOfAll o h (versions (e ∷ es)) (versions (without_unneeded state live (without_dead state (e ∷ es))))
  all_left e es each = by (is_dead (state (writer e))) refl (is_committed (state (writer e))) refl
    where
      by : (b : Bool) → is_dead (state (writer e)) ≡ b → (c : Bool) → is_committed (state (writer e)) ≡ c
          → LeftOfAll o h (versions (e ∷ es)) (versions (without_unneeded state live (without_dead state (e ∷ es))))
      by true dead c is = rw dead (dead_newest (kept_of e) (versions es)
          (versions (without_unneeded state live es)) (dead_is (state (writer e)) dead)
          (subst (λ (fs : List Entry). LeftOfCommitted o h (versions es) (versions fs))
          (sym (all_unneeded es each)) (committed_left es each)))
      by false alive true is = rw alive (committed_newest (kept_of e) (versions es)
          (versions (without_unneeded state live (e ∷ es)))
          (subst (λ (fs : List Entry). LeftOfCommitted o h (versions (e ∷ es)) (versions fs))
          (sym (unneeded_left e es is each)) (committed_left (e ∷ es) (is, each))))
      by false alive false is = rw alive (rw is (open_newest (kept_of e) (versions es)
          (versions (from_committed state live es)) (open_is (state (writer e)) is alive) (committed_left es each)))

  unless_erased : (es : List Entry) → UnlessErased o h (versions es) (versions (without_erased state live es))
  unless_erased [] = no_more
  unless_erased (e ∷ []) = by (is_erased_for_all state live e.version) refl
    where
      never : is_erased_for_all state live e.version ≡ false → IsErased o h (kept_of e) → ⊥
      never no_ (erases, committed, seen) = at (all_see live (writer e)) refl
        where
          is : is_committed (state (writer e)) ≡ true
          is = ap is_committed committed

          at : (b : Bool) → all_see live (writer e) ≡ b → ⊥
          at false hidden = unseen (writer e) is hidden seen
          at true all = not_both (is_erased_for_all state live e.version) (rw (erases, is, all) refl) no_

      by : (b : Bool) → is_erased_for_all state live e.version ≡ b
          → UnlessErased o h (versions (e ∷ [])) (versions (without_erased state live (e ∷ [])))
      by false no_ = rw no_ (not_erased (kept_of e) (never no_))
      by true is =
          let one = both_of e.version.deleted (is_committed (state (writer e)) && all_see live (writer e)) is in
          let two = both_of (is_committed (state (writer e))) (all_see live (writer e)) one.1 in
          rw is (erased (kept_of e) (
            one.0,
            committed_is (state (writer e)) two.0,
            seen_by_each (writer e) two.0 two.1,
          ))
  unless_erased (e ∷ d ∷ es) = several (kept_of e) (kept_of d) (versions es)

  remains : (e : Entry) (es : List Entry) → AllCommitted es
      → Remains o h (versions (e ∷ es)) (versions (remaining state live (e ∷ es)))
  remains e es each = record {
    found = versions (without_unneeded state live (without_dead state (e ∷ es)));
    all = all_left e es each;
    unless = unless_erased (without_unneeded state live (without_dead state (e ∷ es)));
  }

  pub settled_left : (es : List Entry) → EachBack (λ (e : Entry). is_committed (state (writer e)) ≡ true) es
      → HaveSettled state es → IsLeft o h (versions es) (versions (remaining state live es))
  settled_left [] backs settled = absurd settled
  settled_left (e ∷ []) backs settled = (
    (λ is. remains e [] tt),
    (λ never. absurd (never (committed_is (state (writer e)) settled))),
  )
  settled_left (e ∷ d ∷ es) backs settled = remains e (d ∷ es) backs

  pub lone_left : (e : Entry) → is_committed (state (writer e)) ≡ false
      → IsLeft o h (versions (e ∷ [])) (versions (e ∷ []))
  lone_left e no_ = ((λ is. absurd (not_committed (state (writer e)) no_ is)), (λ never. refl))

-- ---- the versions of a reading

one_version : (v w : Version) → Some (cells.Version v) ≡ Some (cells.Version w) → v ≡ w
one_version v w is = cc

one_link : (l m : Link) → Some l ≡ Some m → l ≡ m
one_link l m is = cc

-- versions in order are by the same transactions as those of a reading
pub same_writers : (cells_ : Cells) (es rs : List Entry) → AreLinked cells_ es → Chain cells_ (first_link es) rs
    → map writer es ≡ map writer rs
same_writers cells_ [] rs linked chain = by rs (chain_opens cells_ None rs chain)
  where
    by : (rs : List Entry) → Opens cells_ None rs → map writer [] ≡ map writer rs
    by [] opens = refl
    by (d ∷ ds) opens = absurd opens
same_writers cells_ (e ∷ es) rs linked chain =
    by rs (chain_opens cells_ (Some (link_to e.at e.version.tx)) rs chain)
    (λ ds on. same_writers cells_ es ds linked.1 on)
  where
    by : (rs : List Entry) → Opens cells_ (Some (link_to e.at e.version.tx)) rs
        → ((ds : List Entry) → Chain cells_ (first_link es) ds → map writer es ≡ map writer ds)
        → map writer (e ∷ es) ≡ map writer rs
    by [] opens further = absurd opens
    by (d ∷ ds) opens further =
        let version : d.version ≡ leading_to e.version (first_link es) =
        one_version d.version (leading_to e.version (first_link es))
        (sym opens.1 ∙ (ap cells_ opens.0 ∙ linked.0)) in
        let by_it : writer e ≡ writer d = sym (ap (λ (n : TxNo). n.0) opens.2) in
        let rest : map writer es ≡ map writer ds =
        further ds (subst (λ (l : Option Link). Chain cells_ l ds) (ap (λ (w : Version). w.back) version) opens.3) in
        λ i. by_it i ∷ rest i

each_by : (P : ℕ → Type 0) (es rs : List Entry) → map writer es ≡ map writer rs
    → Each (λ (e : Entry). P (writer e)) rs → Each (λ (e : Entry). P (writer e)) es
each_by P [] rs same each = tt
each_by P (e ∷ es) [] same each = absurd cc
each_by P (e ∷ es) (d ∷ ds) same each =
    let first : writer e ≡ writer d = cc in let rest : map writer es ≡ map writer ds = cc in
    (subst P (sym first) each.0, each_by P es ds rest each.1)

pub back_by : (P : ℕ → Type 0) (es rs : List Entry) → map writer es ≡ map writer rs
    → EachBack (λ (e : Entry). P (writer e)) rs → EachBack (λ (e : Entry). P (writer e)) es
back_by P [] rs same each = tt
back_by P (e ∷ es) [] same each = absurd cc
back_by P (e ∷ es) (d ∷ ds) same each =
    let rest : map writer es ≡ map writer ds = cc in each_by P es ds rest each

each_of : (P Q : Entry → Type 0) → ((e : Entry) → P e → Q e) → (es : List Entry) → Each P es → Each Q es
each_of P Q f [] each = tt
each_of P Q f (e ∷ es) each = (f e each.0, each_of P Q f es each.1)

pub back_of : (P Q : Entry → Type 0) → ((e : Entry) → P e → Q e) → (es : List Entry) → EachBack P es → EachBack Q es
back_of P Q f [] each = tt
back_of P Q f (e ∷ es) each = each_of P Q f es each

pub left_committed : (x : TxState) → left_by true x ≡ Committed → is_committed x ≡ true
left_committed Active is = absurd cc
left_committed Limbo is = absurd cc
left_committed Dead is = absurd cc
left_committed Committed is = refl

kept_length : (es : List Entry) → length (map kept_of es) ≡ length es
kept_length [] = refl
kept_length (e ∷ es) = let rest = kept_length es in omega (arith, rest)

told_gone : (gone : Bool) (es left : List Entry) → IsToldOf gone es left
    → IsToldGone gone (map kept_of es) (map kept_of left)
told_gone true es left fewer =
    let one = kept_length es in let two = kept_length left in omega (arith, one, two, fewer)
told_gone false es left same = ap (λ (fs : List Entry). map kept_of fs) same

pub no_link : (es : List Entry) → first_link es ≡ None → es ≡ []
no_link [] is = refl
no_link (e ∷ es) is = absurd cc

none_of : {A : Type 0} (x : Option A) → is_some x ≡ false → x ≡ None
none_of None is = refl
none_of (Some x) is = absurd cc

neither : (a b : Bool) → (a || b) ≡ false → (a ≡ false) × (b ≡ false)
neither true b is = absurd cc
neither false b is = (refl, is)

-- ---- the call

module _ (walked : TablesAreWalked) {D P : Type 0} (m : Meaning D) (holds : HoldsOne D m) (places : Places P)
    (old new : Core D) (t : TxNo) (table : Table) (place : P) (gone : Bool) (is_core : IsCore m old)
    (given : given_to old.works t.0 table.name ≡ Some table)
    (is : CollectsOn m old new t table (places.rec place) gone) where
  abbrev rec : RecId
  rec = places.rec place

  -- pages were only read
  kept_still : KeepsStore m old.store new.store → (versions : List Kept)
      → (collecting m places).kept old place versions → (collecting m places).kept new place versions
  kept_still keeps versions kept image tells = subst (λ (d : DirtyPages). HasKept (shown d image) (places.rec place) versions)
      (sym keeps.dirty) (kept image (record {
        told = sym keeps.disk.tells ∙ tells.told;
        held = sym keeps.disk.held ∙ tells.held;
      }))

  other : ((collecting m places).has_record old table place → ⊥) → (gone ≡ false)
      × ((versions : List Kept) → (collecting m places).kept old place versions
      → (collecting m places).kept new place versions)
  other none = by is.collected
    where
      by : CollectsSettled m old.store new.store (said old.list) old.live table rec gone → (gone ≡ false)
          × ((versions : List Kept) → (collecting m places).kept old place versions
          → (collecting m places).kept new place versions)
      by (no_record not_ keeps online why) = (not_, kept_still keeps)
      by (nothing_settled not_ keeps online why) = (not_, kept_still keeps)
      by (collects ready keeps online is_record settled it) = absurd (none is_record)

  module _ (o : Opening) (h : Entries) (stands : StandsFor m old o h)
      (has : (collecting m places).has_record old table place) (versions : List Kept)
      (kept : (collecting m places).kept old place versions) where
    abbrev shows : ShowsIt m old o h (standing_of old stands.numbers stands.tables)
    shows = shows_of m old o h stands is.continues.0

    abbrev pages : Pages
    pages = shown old.store.dirty (shows_of m old o h stands is.continues.0).image

    abbrev history : ShowsHistory packed_form old.store.geometry.size o h
        (standing_of old stands.numbers stands.tables)
        (shown old.store.dirty (shows_of m old o h stands is.continues.0).image)
    history = (shows_of m old o h stands is.continues.0).stands.shows

    tells : Tells m old.store.disk shows.image
    tells = record { told = stands.tells; held = shows.held }

    its : HasKept pages rec versions
    its = kept shows.image tells

    state_is : (u : ℕ) → said old.list u ≡ state_of o h u
    state_is = shows.stands.memory.state

    states_are : said old.list ≡ state_of o h
    states_are = fun_ext shows.stands.memory.state

    -- all but the newest are of committed transactions
    backs : EachBack (λ (e : Entry). is_committed (state_of o h (writer e)) ≡ true) its.entries
    backs = back_by (λ n. is_committed (state_of o h n) ≡ true) its.entries (history.reading rec)
        (same_writers (cells_of pages) its.entries (history.reading rec) its.its.linked
        (subst (λ (l : Option Link). Chain (cells_of pages) l (history.reading rec)) its.its.slot
        (history.sound.records.reads rec table of)))
        (back_of (λ (e : Entry). left_state everyone (said old.list) (writer e) ≡ Committed)
        (λ (e : Entry). is_committed (state_of o h (writer e)) ≡ true)
        (λ e committed. ap is_committed (sym (state_is (writer e)))
        ∙ left_committed (said old.list (writer e)) committed) (history.reading rec)
        (history.sound.records.each rec table of).backs)
      where
        of : table_at (stands_of history.layout) rec.page.0 ≡ Some table
        of = record_there walked m old is_core is.continues.0 t.0 table rec given o h stands (has shows.image tells)

    -- what the link to the newest one says of them
    opened : (link : Link) → newest_link pages rec ≡ Some link → (e : Entry) × (es : List Entry)
        × (its.entries ≡ e ∷ es) × (link ≡ link_to e.at e.version.tx)
    opened link leads = by its.entries refl (sym its.its.slot ∙ leads)
      where
        by : (fs : List Entry) → its.entries ≡ fs → first_link fs ≡ Some link
            → (e : Entry) × (es : List Entry) × (its.entries ≡ e ∷ es) × (link ≡ link_to e.at e.version.tx)
        by [] are first = absurd cc
        by (e ∷ es) are first = (e, es, are, sym (one_link (link_to e.at e.version.tx) link first))

    -- where the newest one leads
    leads_on : (e : Entry) (es : List Entry) → its.entries ≡ e ∷ es → (v : Version)
        → cells_of pages e.at ≡ Some (cells.Version v) → v.back ≡ first_link es
    leads_on e es are v cell =
        let linked : AreLinked (cells_of pages) (e ∷ es) = subst (AreLinked (cells_of pages)) are its.its.linked in
        ap (λ (w : Version). w.back)
        (one_version v (leading_to e.version (first_link es)) (sym cell ∙ linked.0))

    -- a record that has something settled
    has_settled : IsSettled pages (said old.list) rec → HaveSettled (state_of o h) its.entries
    has_settled settled = by (opened settled.link settled.leads)
      where
        by : (e : Entry) × (es : List Entry) × (its.entries ≡ e ∷ es) × (settled.link ≡ link_to e.at e.version.tx)
            → HaveSettled (state_of o h) its.entries
        by (e, es, are, link) = subst (HaveSettled (state_of o h)) (sym are)
            (at es (leads_on e es are settled.version
            (ap (λ (l : Link). cells_of pages l.rec) (sym link) ∙ settled.meets.cell)))
          where
            first : (a b : Bool) → (a || b) ≡ true → b ≡ false → a ≡ true
            first true b either none = refl
            first false b either none = let both : true ≡ false = sym either ∙ none in absurd cc

            at : (fs : List Entry) → settled.version.back ≡ first_link fs → HaveSettled (state_of o h) (e ∷ fs)
            at [] back = ap is_committed (sym (state_is (writer e)))
                ∙ (ap (λ (l : Link). is_committed (said old.list l.tx.0)) (sym link)
                ∙ first (is_committed (said old.list settled.link.tx.0)) (is_some settled.version.back) settled.told
                (ap (λ (l : Option Link). is_some l) back))
            at (d ∷ fs) back = tt

    -- and one that has not
    none_settled : IsUnsettled pages (said old.list) rec → IsLeft o h versions versions
    none_settled (inl none) = subst (λ (vs : List Kept). IsLeft o h vs vs)
        (sym (its.are ∙ ap (λ (es : List Entry). map kept_of es) (no_link its.entries (sym its.its.slot ∙ none)))) refl
    none_settled (inr unsettled) = by (opened unsettled.link unsettled.leads)
      where
        by : (e : Entry) × (es : List Entry) × (its.entries ≡ e ∷ es) × (unsettled.link ≡ link_to e.at e.version.tx)
            → IsLeft o h versions versions
        by (e, es, are, link) = at es are (leads_on e es are unsettled.version
            (ap (λ (l : Link). cells_of pages l.rec) (sym link) ∙ unsettled.meets.cell))
          where
            two : (is_committed (said old.list unsettled.link.tx.0) ≡ false) × (is_some unsettled.version.back ≡ false)
            two = neither (is_committed (said old.list unsettled.link.tx.0)) (is_some unsettled.version.back)
                unsettled.told

            at : (fs : List Entry) → its.entries ≡ e ∷ fs → unsettled.version.back ≡ first_link fs
                → IsLeft o h versions versions
            at [] are_ back = subst (λ (vs : List Kept). IsLeft o h vs vs)
                (sym (its.are ∙ ap (λ (fs : List Entry). map kept_of fs) are_))
                (lone_left o h old.live shows.stands.memory.live shows.stands.memory.based e
                (ap is_committed (sym (state_is (writer e)))
                ∙ (ap (λ (l : Link). is_committed (said old.list l.tx.0)) (sym link) ∙ two.0)))
            at (d ∷ fs) are_ back = let both : false ≡ true = sym two.1 ∙ ap (λ (l : Option Link). is_some l) back in
                absurd cc

    its_left : LeavesOf (collecting m places) new o h place versions gone
    its_left = by is.collected
      where
        still : KeepsStore m old.store new.store → gone ≡ false → IsUnsettled pages (said old.list) rec
            → LeavesOf (collecting m places) new o h place versions gone
        still keeps not_ unsettled = record {
          left = versions;
          kept = kept_still keeps versions kept;
          is = none_settled unsettled;
          is_told = subst (λ (b : Bool). IsToldGone b versions versions) (sym not_) refl;
        }

        by : CollectsSettled m old.store new.store (said old.list) old.live table rec gone
            → LeavesOf (collecting m places) new o h place versions gone
        by (no_record not_ keeps online why) = absurd (why shows.image tells (has shows.image tells))
        by (nothing_settled not_ keeps online why) = still keeps not_ (why shows.image tells)
        by (collects ready keeps online is_record settled it) = record {
          left = map kept_of (remaining (said old.list) old.live its.entries);
          kept = λ image later. record {
            entries = remaining (said old.list) old.live its.entries;
            its = (leaves image later).leaves.its;
            are = refl;
          };
          is = subst (λ (vs : List Kept). IsLeft o h vs (map kept_of (remaining (said old.list) old.live its.entries)))
              (sym its.are) (subst (λ (state : ℕ → TxState). IsLeft o h (map kept_of its.entries)
              (map kept_of (remaining state old.live its.entries))) (sym states_are)
              (settled_left o h old.live shows.stands.memory.live shows.stands.memory.based its.entries backs
              (has_settled (settled shows.image tells))));
          is_told = subst (λ (vs : List Kept). IsToldGone gone vs
              (map kept_of (remaining (said old.list) old.live its.entries))) (sym its.are)
              (told_gone gone its.entries (remaining (said old.list) old.live its.entries) some_gone);
        }
          where
            tells_ready : Tells m ready.disk shows.image
            tells_ready = tells_on m old.store ready shows.image keeps tells

            its_ready : HasInOrder (cells_of (shown ready.dirty shows.image)) rec its.entries
            its_ready = subst (λ (d : DirtyPages). HasInOrder (cells_of (shown d shows.image)) rec its.entries)
                (sym keeps.dirty) its.its

            leaves : (image : Image) → Tells m new.store.disk image → LeavesTold (shown ready.dirty shows.image)
                (shown new.store.dirty image) rec its.entries (remaining (said old.list) old.live its.entries) gone
            leaves image later = it.collected.left shows.image image tells_ready later its.entries its_ready

            some_gone : IsToldOf gone its.entries (remaining (said old.list) old.live its.entries)
            some_gone = at (holds new.store.disk later_told)
              where
                later_told : m.tells new.store.disk ≡ true
                later_told = (steps_on m (said old.list) old.live rec ready (keeps.offline ∙ is.continues.0) gone new.store
                    it.collected.steps).goes.time.tells ∙ (keeps.disk.tells ∙ stands.tells)

                at : (image : Image) × (m.held new.store.disk ≡ Some image) × MayLeave m new.store.disk image
                    → IsToldOf gone its.entries (remaining (said old.list) old.live its.entries)
                at (image, held, left) = (leaves image (record { told = later_told; held = held })).told

  pub collects_so : Collects (means m places) (collecting m places) old new table place gone
  collects_so = record {
    record_left = λ o h stands has versions kept. its_left o h stands has versions kept;
    other_left = other;
  }

pub collections_leave : TablesAreWalked → (D P : Type 0) (m : Meaning D) → HoldsOne D m → CollectionsLeave D P m
collections_leave walked D P m holds places old new t table place gone core given is =
    collects_so walked m holds places old new t table place gone core given is
