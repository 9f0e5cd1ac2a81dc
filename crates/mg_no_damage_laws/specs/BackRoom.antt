-- A transaction that is taken back to a point takes few pages: each record that it takes back takes at most as many as a
-- row, and there are no more of these than its history tells.
use Rattle.std.proofs.Common.{◌≡◌, ◌∙◌, List, ◌++◌, ◌∷◌, ◌≤◌, ◌+◌, ◌*◌, ℕ, Bool, true, false, length, Option, None, Some, Ok, Err, ap, subst, sym, arith}
use Rattle.mg_base.specs.Disk.{Meaning}
use Rattle.mg_base.specs.Image.{Image}
use Rattle.mg_base.specs.declared.numbers.TxNo.{TxNo}
use Rattle.mg_base.specs.declared.transaction.TxState.{TxState}
use Rattle.mg_core.specs.Cores.{IsCore, IsRefusedBy}
use Rattle.mg_core.specs.declared.parts.Core.{Core}
use Rattle.mg_space.specs.FreePages.{HasFree, HasRegions}
use Rattle.mg_engine_meaning_laws.specs.Standings.{StandsFor}
use Rattle.mg_model.specs.History.{Entries}
use Rattle.mg_model.specs.Machine.{steps}
use Rattle.mg_model.specs.declared.change.Point.{Point}
use Rattle.mg_model.specs.declared.change.Point.TheVariants.{LastMark, SavepointNamed}
use Rattle.mg_model.specs.declared.opening.Opening.{Opening}
use Rattle.mg_model.specs.declared.refusal.Refusal.{Refusal}
use Rattle.mg_pool.specs.Pool.{shown}
use Rattle.mg_pool.specs.declared.pool.Pool.{Pool}
use Rattle.mg_records.specs.Room.{pages_of_row, records_back}
use Rattle.mg_records.specs.TakingBack.{is_given_up}
use Rattle.mg_space.specs.Taking.{IsGeometry}
use Rattle.mg_space.specs.View.{Tells}
use Rattle.mg_space.specs.declared.links.FireLinks.{FireLinks}
use Rattle.mg_taking_back.specs.Taking.{FailsBackTo, Gives, GivesUpBy, GivesUpIf, TakesBackTo, back_not_begun, back_not_copied, back_stopped, not_asking}
use Rattle.mg_taking_back.specs.Tables.{TellsTables}
use Rattle.mg_txlist.specs.TxList.{said}
use Rattle.mg_undo.specs.Machine.{going_to}
use Rattle.mg_undo.specs.Undo.{State as Undo, TakesBack as GivesAll, take_back}
use Rattle.mg_undo.specs.declared.changes.Change.{Change as Kept}
use Rattle.mg_no_damage_laws.specs.EntryBacks.{AllStandBack}
use Rattle.mg_no_damage_laws.specs.BackSpending.{changes_spend, stopping_takes}
use Rattle.mg_no_damage_laws.specs.CoreSpending.{IsNoWant, ShowsFree, TakesPages}
use Rattle.mg_no_damage_laws.specs.GivenCounts.{KnowsGiven, given_few, next_few, next_first}
use Rattle.mg_no_damage_laws.specs.FewPages.{CoreTakes}
use Rattle.mg_no_damage_laws.specs.FewPagesCalls.{MarksTakeFew, SavepointsTakeFew}
use Rattle.mg_no_damage_laws.specs.FewPagesLaws.{KnowsRoom, WantsNone, room_more, room_of, room_same}
use Rattle.mg_free_page_laws.specs.Spending.{SpendsAtMost}

-- ---- where no page changes

-- a transaction that is given up changes no page
pub given_up_store : {D : Type 0} (stopped new : Core D) (t : ℕ) (refusal : Refusal) → GivesUpBy stopped new t refusal
    → new.store ≡ stopped.store
given_up_store {D} stopped new t refusal gives = at (is_given_up refusal) gives
  where
    at : (b : Bool) → GivesUpIf b stopped new t → new.store ≡ stopped.store
    at true rolled = ap (λ (c : Core D). c.store) rolled.same
    at false same = ap (λ (c : Core D). c.store) same

-- an event that is refused at once is not for want of pages
pub begins_other : (offline : Option ℕ) (state : TxState) (refusal : Refusal) → IsRefusedBy offline state refusal
    → IsNoWant refusal
begins_other offline state refusal is limit full = subst (λ (r : Refusal). IsRefusedBy offline state r) full is

-- what is taken from one engine to another is taken over the same caches
module _ {D : Type 0} (m : Meaning D) (old new begun taken : Core D) (first : begun.store ≡ old.store)
    (last : new.store ≡ taken.store) where
  spends_over : (most : ℕ) → SpendsAtMost m begun.store taken.store most → SpendsAtMost m old.store new.store most
  spends_over most it = subst (λ (pool : Pool D FireLinks). SpendsAtMost m pool new.store most) first
      (subst (λ (pool : Pool D FireLinks). SpendsAtMost m begun.store pool most) (sym last) it)

  shows_over : (i : Image) (count : ℕ) → ShowsFree m old i count → ShowsFree m begun i count
  shows_over i count shows = record {
    tells = subst (λ (pool : Pool D FireLinks). Tells m pool.disk i) (sym first) shows.tells;
    regions = subst (λ (pool : Pool D FireLinks). HasRegions pool.geometry (shown pool.dirty i)) (sym first)
        shows.regions;
    free = subst (λ (pool : Pool D FireLinks). HasFree pool.geometry (shown pool.dirty i) count) (sym first) shows.free;
  }

  pub takes_over : (refusal : Option Refusal) (most : ℕ) → TakesPages m begun taken refusal most
      → TakesPages m old new refusal most
  takes_over refusal most it = record {
    spends = spends_over most it.spends;
    enough = λ i shows. it.enough i (shows_over i most shows);
  }

  -- where the call is not refused
  pub all_over : (most : ℕ) → SpendsAtMost m begun.store taken.store most → TakesPages m old new None most
  all_over most it = record { spends = spends_over most it; enough = λ i shows limit full. absurd cc }

-- ---- numbers

pub rows_each : (count most : ℕ) → count ≤ most → pages_of_row * count ≤ pages_of_row * most
rows_each count most few = omega (arith, few)

none_of : (most : ℕ) → 0 ≤ most
none_of most = omega arith

-- ---- to a point

-- all that would be given, where something was and then comes the next
pub given_then : KnowsGiven → (start left : Undo) (given : List Kept) (change : Kept) → Gives start given left
    → (take_back left).given ≡ Some change
    → (more : List Kept) × (end : Undo) × GivesAll start (given ++ (change ∷ more)) end
given_then known start left given change steps next =
    let rest : (xs : List Kept) × (end : Undo) × GivesAll left xs end = known.to_end left in
    let first : (more : List Kept) × (rest.0 ≡ change ∷ more) =
    next_first left rest.1 rest.0 change next rest.2 in (
      first.0,
      rest.1,
      subst (λ (xs : List Kept). GivesAll start (given ++ xs) rest.1) first.1
          (known.gives_on start left rest.1 given rest.0 steps rest.2),
    )

module _ {D : Type 0} (m : Meaning D) (knows : KnowsRoom m) (known : KnowsGiven) (old new : Core D) (t : TxNo)
    (core : IsCore m old) (o : Opening) (h : Entries) (stands : StandsFor m old o h) (point : Point) where
  -- as many as may be taken back, if each takes as many as a row
  abbrev most : ℕ
  most = pages_of_row * records_back t.0 point (steps o h)

  pub as_rows : (refusal : Option Refusal) (few : ℕ) → few ≤ pages_of_row * records_back t.0 point (steps o h)
      → TakesPages m old new refusal few
      → CoreTakes m old new refusal (pages_of_row * records_back t.0 point (steps o h))
  as_rows refusal few less it = room_more m knows.holds old new core stands.tells refusal few most less
      (room_of m knows.holds old new core stands.tells refusal few it)

  -- a call that changes no page
  pub none_taken : (refusal : Option Refusal) → new.store ≡ old.store → WantsNone refusal
      → CoreTakes m old new refusal (pages_of_row * records_back t.0 point (steps o h))
  none_taken refusal same wants = room_more m knows.holds old new core stands.tells refusal 0 most (none_of most)
      (room_same m knows.holds old new core stands.tells refusal same wants)

  -- where no table goes, and the trees stand at each change
  module _ (stand : AllStandBack D m) (none : TellsTables old t.0 point false) where
    -- all is taken back that is given
    back_takes : TakesBackTo m old new t.0 point
        → CoreTakes m old new None (pages_of_row * records_back t.0 point (steps o h))
    back_takes back =
        let all = back.takes.takes in
        as_rows None (pages_of_row * length all.given) (rows_each (length all.given) (records_back t.0 point (steps o h))
        (given_few m known old t point back.undo back.has_begun.continues back.has_begun.its back.reaches o h stands
        all.given back.takes.end all.steps))
        (all_over m old new (not_asking t.0 back.begun) back.takes.taken
        (ap (λ (c : Core D). c.store) back.has_begun.ended.same) (ap (λ (c : Core D). c.store) back.takes.same)
        (pages_of_row * length all.given)
        (changes_spend m knows.holds knows.batches knows.eighteen knows.there t.0 (not_asking t.0 back.begun)
        back.takes.taken all.given (stand old back.begun t point back.undo core none back.has_begun back.reaches o h stands
        all.given back.takes.end all.steps) all.takes))

    -- it is not: nothing was changed; or some were taken back, and the next one not
    back_fails : (refusal : Refusal) → FailsBackTo m old new t.0 point refusal
        → CoreTakes m old new (Some refusal) (pages_of_row * records_back t.0 point (steps o h))
    back_fails refusal (back_not_begun refused) = none_taken (Some refusal)
        (ap (λ (c : Core D). c.store) refused.wait.same)
        (begins_other old.store.offline (said old.list t.0) refusal refused.refuses)
    back_fails refusal (back_not_copied begun continues ended is gives) = none_taken (Some refusal)
        (given_up_store begun new t.0 refusal gives ∙ ap (λ (c : Core D). c.store) ended.same)
        (λ limit full. absurd cc)
    back_fails refusal (back_stopped begun undo has_begun reaches fails) =
        let stops = fails.stops in
        let (more, end, all) = given_then known (going_to undo point) stops.left stops.given stops.change stops.steps
        stops.next in
        as_rows (Some refusal) (pages_of_row * (length stops.given + 1)) (rows_each (length stops.given + 1)
        (records_back t.0 point (steps o h)) (next_few m known old t point undo has_begun.continues has_begun.its reaches
        o h stands stops.given stops.left stops.change stops.steps stops.next))
        (takes_over m old new (not_asking t.0 begun) fails.stopped (ap (λ (c : Core D). c.store) has_begun.ended.same)
        (given_up_store fails.stopped new t.0 refusal fails.gives_up) (Some refusal)
        (pages_of_row * (length stops.given + 1))
        (stopping_takes m knows.holds knows.batches knows.eighteen knows.there t.0 (not_asking t.0 begun) stops.at
        fails.stopped stops.given more stops.change refusal
        (subst (λ (pool : Pool D FireLinks). IsGeometry pool.geometry)
        (sym (ap (λ (c : Core D). c.store) has_begun.ended.same)) core.geometry)
        (stand old begun t point undo core none has_begun reaches o h stands (stops.given ++ (stops.change ∷ more)) end all)
        stops.takes stops.fails))

-- ---- each outcome

pub marks_take_few : {D : Type 0} (m : Meaning D) → KnowsRoom m → KnowsGiven → AllStandBack D m → MarksTakeFew D m
marks_take_few m knows known stand old new t (Ok x) core none back o h stands told =
    back_takes m knows known old new t core o h stands LastMark stand none back
marks_take_few m knows known stand old new t (Err refusal) core none fails o h stands told =
    back_fails m knows known old new t core o h stands LastMark stand none refusal fails

pub savepoints_take_few : {D : Type 0} (m : Meaning D) → KnowsRoom m → KnowsGiven → AllStandBack D m
    → SavepointsTakeFew D m
savepoints_take_few m knows known stand old new t name (Ok true) core none goes o h stands told =
    back_takes m knows known old new t core o h stands (SavepointNamed name) stand none goes.1
savepoints_take_few {D} m knows known stand old new t name (Ok false) core none goes o h stands told =
    none_taken m knows known old new t core o h stands (SavepointNamed name) None
    (ap (λ (c : Core D). c.store) goes.2) tt
savepoints_take_few m knows known stand old new t name (Err refusal) core none fails o h stands told =
    back_fails m knows known old new t core o h stands (SavepointNamed name) stand none refusal fails
