-- A transaction that is taken back over tables that it has made takes at most as many pages as a row for each change of
-- another table, and none for the rows of the catalog.
use Rattle.std.proofs.Common.{◌≡◌, ◌≢◌, ◌∙◌, ◌++◌, ◌≤◌, ◌+◌, ◌*◌, ◌==◌, ℕ, Bool, true, false, List, [], ◌∷◌, length, Option, Some, None, Ok, Err, refl, sym, ap, subst, arith}
use Rattle.std.proofs.lemmas.Bool.{ne_eqb}
use Rattle.std.specs.Prelude.{if◌then◌else◌}
use Rattle.mg_base.specs.Disk.{Meaning}
use Rattle.mg_base.specs.declared.geometry.Geometry.{Geometry}
use Rattle.mg_base.specs.declared.numbers.TxNo.{TxNo}
use Rattle.mg_core.specs.Cores.{IsCore}
use Rattle.mg_core.specs.declared.parts.Core.{Core}
use Rattle.mg_space.specs.FreePages.{HasFree, HasRegions}
use Rattle.mg_engine_meaning_laws.specs.Standings.{StandsFor}
use Rattle.mg_model.specs.History.{Entries}
use Rattle.mg_model.specs.Machine.{steps}
use Rattle.mg_model.specs.declared.change.Point.{Point}
use Rattle.mg_model.specs.declared.change.Point.TheVariants.{LastMark, SavepointNamed}
use Rattle.mg_model.specs.declared.opening.Opening.{Opening}
use Rattle.mg_model.specs.declared.refusal.Refusal.{Refusal}
use Rattle.mg_model.specs.declared.refusal.Refusal.TheVariants as refusals
use Rattle.mg_pool.specs.Pool.{shown}
use Rattle.mg_pool.specs.declared.pool.Pool.{Pool}
use Rattle.mg_records.specs.Room.{pages_of_row, records_back}
use Rattle.mg_space.specs.Taking.{IsGeometry}
use Rattle.mg_space.specs.declared.links.FireLinks.{FireLinks}
use Rattle.mg_table_takings.specs.Keys.{others_of}
use Rattle.mg_table_takings.specs.Takings.{FailsRows, FailsTablesTo, FailsTheRow, StopsBoth, StopsOthers, TakesBoth, TakesOthers, TakesRows, TakesTablesTo, later_row, no_row, one_row, row_stands, rows_unknown, stops_at_other, stops_at_rows, tables_not_begun, tables_not_copied, tables_not_taken, tables_stopped}
use Rattle.mg_taking_back.specs.Taking.{Gives, HasBegun, MayReach, not_asking}
use Rattle.mg_txlist.specs.TxList.{said}
use Rattle.mg_undo.specs.Machine.{going_to}
use Rattle.mg_undo.specs.Undo.{State as Undo, TakesBack as GivesAll, take_back}
use Rattle.mg_undo.specs.declared.changes.Change.{Change}
use Rattle.mg_value.specs.declared.value.Value.{Value}
use Rattle.mg_no_damage_laws.specs.BackRoom.{all_over, as_rows, begins_other, given_then, given_up_store, none_taken, takes_over}
use Rattle.mg_no_damage_laws.specs.BackTrees.{StandAll}
use Rattle.mg_no_damage_laws.specs.EntryBacks.{OthersStandBack}
use Rattle.mg_no_damage_laws.specs.BackSpending.{changes_spend, stopping_takes}
use Rattle.mg_no_damage_laws.specs.CoreSpending.{IsNoWant, TakesPages}
use Rattle.mg_no_damage_laws.specs.CoreSpendingLaws.{told_full}
use Rattle.mg_free_page_laws.specs.FreeLaws.{fewer}
use Rattle.mg_no_damage_laws.specs.GivenCounts.{KnowsGiven, given_few, next_few}
use Rattle.mg_no_damage_laws.specs.FewPages.{CoreTakes}
use Rattle.mg_no_damage_laws.specs.FewPagesCalls.{MarksOverTakeFew, SavepointsOverTakeFew}
use Rattle.mg_no_damage_laws.specs.FewPagesLaws.{KnowsRoom}
use Rattle.mg_free_page_laws.specs.RowOutSpending.{failed_row_out, row_out_spend}
use Rattle.mg_free_page_laws.specs.Spending.{SpendsAtMost}
use Rattle.mg_free_page_laws.specs.SpendingLaws.{both_spend, more_spent, nothing_spent}

-- ---- what is given

others_on : (page : ℕ) (given rest : List Change)
    → others_of page (given ++ rest) ≡ others_of page given ++ others_of page rest
others_on page [] rest = refl
others_on page (c ∷ given) rest = at (c.table == page) (others_on page given rest)
  where
    at : (b : Bool) → others_of page (given ++ rest) ≡ others_of page given ++ others_of page rest
        → (if b then others_of page (given ++ rest) else c ∷ others_of page (given ++ rest))
        ≡ (if b then others_of page given else c ∷ others_of page given) ++ others_of page rest
    at true more = more
    at false more = ap (λ (cs : List Change). c ∷ cs) more

-- one of another table comes between others
others_then : (page : ℕ) (given more : List Change) (c : Change) → c.table ≢ page
    → others_of page (given ++ (c ∷ more)) ≡ others_of page given ++ (c ∷ others_of page more)
others_then page given more c ne = others_on page given (c ∷ more)
    ∙ ap (λ (xs : List Change). others_of page given ++ xs) (rw (ne_eqb c.table page ne) refl)

-- At most so many changes are given from a list on, also with the one that is given next.
pub record GivesFew (start : Undo) (most : ℕ) : Type 0 where
  pub all : (given : List Change) (end : Undo) → GivesAll start given end → length given ≤ most
  pub next : (given : List Change) (left : Undo) (change : Change) → Gives start given left
      → (take_back left).given ≡ Some change → length given + 1 ≤ most

-- those of other tables than one are no more
others_fewer : (page : ℕ) (given : List Change) → length (others_of page given) ≤ length given
others_fewer page [] = omega arith
others_fewer page (c ∷ given) = at (c.table == page) (others_fewer page given)
  where
    at : (b : Bool) → length (others_of page given) ≤ length given
        → length (if b then others_of page given else c ∷ others_of page given) ≤ length (c ∷ given)
    at true less = omega (arith, less)
    at false less = omega (arith, less)

-- want of memory is no want of pages
memory_no_want : (refusal : Refusal) → refusal ≡ refusals.Memory → IsNoWant refusal
memory_no_want refusal is limit full = let both : refusals.Memory ≡ refusals.DatabaseFull limit = sym is ∙ full in
    absurd cc

module _ {D : Type 0} (m : Meaning D) (knows : KnowsRoom m) where
  -- ---- calls one after another

  -- at most so many are at most more
  more_pages : (a b : Core D) (refusal : Option Refusal) (few many : ℕ) → few ≤ many → TakesPages m a b refusal few
      → TakesPages m a b refusal many
  more_pages a b refusal few many less it = record {
    spends = more_spent m a.store b.store few many less it.spends;
    enough = λ i shows. it.enough i (record {
      tells = shows.tells;
      regions = shows.regions;
      free = fewer a.store.geometry (shown a.store.dirty i) many few less shows.free;
    });
  }

  -- what is taken after so many pages were
  after_spent : (a b c : Core D) (refusal : Option Refusal) (first second : ℕ) → IsGeometry a.store.geometry
      → SpendsAtMost m a.store b.store first → TakesPages m b c refusal second
      → TakesPages m a c refusal (first + second)
  after_spent a b c refusal first second lawful spent it = record {
    spends = both_spend m knows.holds a.store b.store c.store first second spent it.spends;
    enough = λ i shows. let now = knows.holds b.store.disk (spent.tells shows.tells.told) in
        let took = spent.takes lawful i now.0 shows.tells now.1 in
        it.enough now.0 (record {
          tells = record { told = spent.tells shows.tells.told; held = now.1 };
          regions = subst (λ (g : Geometry). HasRegions g (shown b.store.dirty now.0)) (sym spent.geometry)
              (took.regions shows.regions);
          free = subst (λ (g : Geometry). HasFree g (shown b.store.dirty now.0) second) (sym spent.geometry)
              (took.left shows.regions second (fewer a.store.geometry (shown a.store.dirty i) (first + second)
              (second + first) (omega arith) shows.free));
        });
  }

  -- ---- all is taken back

  -- the trees stand at each change of other tables that would be given
  abbrev OthersStand : Core D → ℕ → Undo → Type 0
  OthersStand begun t start = (given : List Change) (end : Undo) → GivesAll start given end
      → StandAll m t begun (others_of begun.catalog.pointer.0 given)

  -- first the changes of other tables
  others_spend : (begun mid : Core D) (t : ℕ) (start end : Undo) (most : ℕ) → OthersStand begun t start → GivesFew start most
      → TakesOthers m begun mid t start end → SpendsAtMost m begun.store mid.store (pages_of_row * most)
  others_spend begun mid t start end most stand gives it =
      let few = others_fewer begun.catalog.pointer.0 it.given in
      let all = gives.all it.given end it.steps in
      more_spent m begun.store mid.store (pages_of_row * length (others_of begun.catalog.pointer.0 it.given)) (pages_of_row * most)
      (omega (arith, few, all))
      (changes_spend m knows.holds knows.batches knows.eighteen knows.there t begun mid
      (others_of begun.catalog.pointer.0 it.given) (stand it.given end it.steps) it.takes)

  -- then the rows of the catalog, one after another, by which no page is taken
  rows_spend : (t : ℕ) (keys : List Value) (old new : Core D) → TakesRows m t keys old new
      → SpendsAtMost m old.store new.store 0
  rows_spend t keys old new (no_row core) = nothing_spent m core.store core.store refl
  rows_spend t all old new (one_row key keys begun mid end takes more) =
      both_spend m knows.holds begun.store mid.store end.store 0 0
      (row_out_spend m knows.holds knows.batches (said begun.list) begun.live t begun.catalog begun.store mid.store key
      takes.takes) (rows_spend t keys mid end more)

  -- and so all
  all_spend : (begun taken : Core D) (t : ℕ) (start end : Undo) (keys : List Value) (most : ℕ) → OthersStand begun t start
      → GivesFew start most → TakesBoth m begun taken t start end keys → SpendsAtMost m begun.store taken.store (pages_of_row * most)
  all_spend begun taken t start end keys most stand gives it =
      more_spent m begun.store taken.store (pages_of_row * most + 0) (pages_of_row * most) (omega arith)
      (both_spend m knows.holds begun.store it.mid.store taken.store (pages_of_row * most) 0
      (others_spend begun it.mid t start end most stand gives it.others)
      (rows_spend t keys it.mid taken it.rows))

  -- ---- it stops

  -- at a change of another table
  other_stops : (known : KnowsGiven) (begun stopped : Core D) (t : ℕ) (start : Undo) (refusal : Refusal) (most : ℕ)
      → OthersStand begun t start → GivesFew start most → IsGeometry begun.store.geometry
      → StopsOthers m begun stopped t start refusal → TakesPages m begun stopped (Some refusal) (pages_of_row * most)
  other_stops known begun stopped t start refusal most stand gives lawful stops =
      let few = others_fewer begun.catalog.pointer.0 stops.given in
      let all = gives.next stops.given stops.left stops.change stops.steps stops.next in
      let (more, end, then_) = given_then known start stops.left stops.given stops.change stops.steps stops.next in
      more_pages begun stopped (Some refusal)
      (pages_of_row * (length (others_of begun.catalog.pointer.0 stops.given) + 1)) (pages_of_row * most)
      (omega (arith, few, all))
      (stopping_takes m knows.holds knows.batches knows.eighteen knows.there t begun stops.at stopped
      (others_of begun.catalog.pointer.0 stops.given) (others_of begun.catalog.pointer.0 more) stops.change refusal lawful
      (subst (λ (xs : List Change). StandAll m t begun xs)
      (others_then begun.catalog.pointer.0 stops.given more stops.change stops.other)
      (stand (stops.given ++ (stops.change ∷ more)) end then_)) stops.takes stops.fails)

  -- at a row
  row_stop : (mid stopped : Core D) (t : ℕ) (key : Value) (refusal : Refusal) → IsGeometry mid.store.geometry
      → FailsTheRow m mid stopped t key refusal → TakesPages m mid stopped (Some refusal) 0
  row_stop mid stopped t key refusal lawful fails =
      let it = failed_row_out m knows.holds knows.batches (said mid.list) mid.live t mid.catalog mid.store
      stopped.store key fails.fault fails.fails in record {
        spends = it.0;
        enough = λ i shows limit full. let is = told_full fails.fault refusal limit fails.is (cc full) in
            it.1 lawful i shows.tells shows.regions shows.free is.0 is.1;
      }

  -- no page was taken before
  rows_stop : (t : ℕ) (refusal : Refusal) (keys : List Value) (mid stopped : Core D) → IsGeometry mid.store.geometry
      → FailsRows m t refusal keys mid stopped → TakesPages m mid stopped (Some refusal) 0
  rows_stop t refusal all mid stopped lawful (row_stands key keys begun end fails) =
      row_stop begun end t key refusal lawful fails
  rows_stop t refusal all mid stopped lawful (later_row key keys begun next end takes more) =
      let spent = row_out_spend m knows.holds knows.batches (said begun.list) begun.live t begun.catalog begun.store
      next.store key takes.takes in
      after_spent begun next end (Some refusal) 0 0 lawful spent
      (rows_stop t refusal keys next end (subst IsGeometry (sym spent.geometry) lawful) more)

  both_stop : (known : KnowsGiven) (begun stopped : Core D) (t : ℕ) (start : Undo) (keys : List Value)
      (refusal : Refusal) (most : ℕ) → OthersStand begun t start → GivesFew start most → IsGeometry begun.store.geometry → StopsBoth m begun stopped t start keys refusal
      → TakesPages m begun stopped (Some refusal) (pages_of_row * most)
  both_stop known begun stopped t start keys refusal most stand gives lawful (stops_at_other stops) =
      other_stops known begun stopped t start refusal most stand gives lawful stops
  both_stop known begun stopped t start keys refusal most stand gives lawful (stops_at_rows mid end taken fails) =
      let spent = others_spend begun mid t start end most stand gives taken in
      more_pages begun stopped (Some refusal) (pages_of_row * most + 0) (pages_of_row * most) (omega arith)
      (after_spent begun mid stopped (Some refusal) (pages_of_row * most) 0 lawful spent
      (rows_stop t refusal keys mid stopped (subst IsGeometry (sym spent.geometry) lawful) fails))

-- ---- to a point

module _ {D : Type 0} (m : Meaning D) (knows : KnowsRoom m) (known : KnowsGiven) (old new : Core D) (t : TxNo)
    (core : IsCore m old) (o : Opening) (h : Entries) (stands : StandsFor m old o h) (point : Point)
    (stand : OthersStandBack D m) where
  -- no more are given than the records that are taken back
  few_given : (begun : Core D) (undo : Undo) → HasBegun old begun t.0 undo → MayReach undo point
      → GivesFew (going_to undo point) (records_back t.0 point (steps o h))
  few_given begun undo has_begun reaches = record {
    all = given_few m known old t point undo has_begun.continues has_begun.its reaches o h stands;
    next = next_few m known old t point undo has_begun.continues has_begun.its reaches o h stands;
  }

  -- as many for each of these as a row takes
  by_rows : (refusal : Option Refusal) → TakesPages m old new refusal (pages_of_row * records_back t.0 point (steps o h))
      → CoreTakes m old new refusal (pages_of_row * records_back t.0 point (steps o h))
  by_rows refusal it = as_rows m knows known old new t core o h stands point refusal
      (pages_of_row * records_back t.0 point (steps o h)) (omega arith) it

  -- all is taken back that is given, the rows of the catalog last
  over_takes : TakesTablesTo m old new t.0 point
      → CoreTakes m old new None (pages_of_row * records_back t.0 point (steps o h))
  over_takes back = by_rows None (all_over m old new (not_asking t.0 back.begun) back.takes.taken
      (ap (λ (c : Core D). c.store) back.has_begun.ended.same) (ap (λ (c : Core D). c.store) back.takes.same)
      (pages_of_row * records_back t.0 point (steps o h))
      (all_spend m knows (not_asking t.0 back.begun) back.takes.taken t.0 (going_to back.undo point) back.takes.end
      back.takes.keys (records_back t.0 point (steps o h))
      (stand old back.begun t point back.undo core back.has_begun back.reaches o h stands)
      (few_given back.begun back.undo back.has_begun back.reaches) back.takes.takes))

  -- it is not: nothing was changed; or some changes were taken back, and the next one not, or the rows not
  over_fails : (refusal : Refusal) → FailsTablesTo m old new t.0 point refusal
      → CoreTakes m old new (Some refusal) (pages_of_row * records_back t.0 point (steps o h))
  over_fails refusal (tables_not_begun refused) = none_taken m knows known old new t core o h stands point
      (Some refusal) (ap (λ (c : Core D). c.store) refused.wait.same)
      (begins_other old.store.offline (said old.list t.0) refusal refused.refuses)
  over_fails refusal (tables_not_copied begun continues ended is gives) =
      none_taken m knows known old new t core o h stands point (Some refusal)
      (given_up_store begun new t.0 refusal gives ∙ ap (λ (c : Core D). c.store) ended.same)
      (memory_no_want refusal is)
  over_fails refusal (tables_not_taken begun undo has_begun reaches (rows_unknown is gives)) =
      none_taken m knows known old new t core o h stands point (Some refusal)
      (given_up_store begun new t.0 refusal gives ∙ ap (λ (c : Core D). c.store) has_begun.ended.same)
      (memory_no_want refusal is)
  over_fails refusal (tables_not_taken begun undo has_begun reaches (tables_stopped keys stopped rows stops gives)) =
      by_rows (Some refusal) (takes_over m old new (not_asking t.0 begun) stopped
      (ap (λ (c : Core D). c.store) has_begun.ended.same) (given_up_store stopped new t.0 refusal gives) (Some refusal)
      (pages_of_row * records_back t.0 point (steps o h))
      (both_stop m knows known (not_asking t.0 begun) stopped t.0 (going_to undo point) keys refusal
      (records_back t.0 point (steps o h))
      (stand old begun t point undo core has_begun reaches o h stands)
      (few_given begun undo has_begun reaches)
      (subst (λ (pool : Pool D FireLinks). IsGeometry pool.geometry)
      (sym (ap (λ (c : Core D). c.store) has_begun.ended.same)) core.geometry) stops))

-- ---- each outcome

-- to the last mark
pub marks_over_take_few : {D : Type 0} (m : Meaning D) → KnowsRoom m → KnowsGiven → OthersStandBack D m
    → MarksOverTakeFew D m
marks_over_take_few m knows known stand old new t (Ok x) core back o h stands told =
    over_takes m knows known old new t core o h stands LastMark stand back
marks_over_take_few m knows known stand old new t (Err refusal) core fails o h stands told =
    over_fails m knows known old new t core o h stands LastMark stand refusal fails

-- to the last savepoint of a name
pub savepoints_over_take_few : {D : Type 0} (m : Meaning D) → KnowsRoom m → KnowsGiven → OthersStandBack D m
    → SavepointsOverTakeFew D m
savepoints_over_take_few m knows known stand old new t name (Ok true) core goes o h stands told =
    over_takes m knows known old new t core o h stands (SavepointNamed name) stand goes.1
savepoints_over_take_few {D} m knows known stand old new t name (Ok false) core goes o h stands told =
    none_taken m knows known old new t core o h stands (SavepointNamed name) None
    (ap (λ (c : Core D). c.store) goes.2) tt
savepoints_over_take_few m knows known stand old new t name (Err refusal) core fails o h stands told =
    over_fails m knows known old new t core o h stands (SavepointNamed name) stand refusal fails
