-- A transaction is taken back to a point.
use Rattle.std.proofs.Common.{◌≡◌, ℕ, true, List, Some, Result, Ok, Err, ap, refl, subst, sym, ◌∙◌}
use Rattle.std.specs.Prelude.{MatchResult, is_some}
use Rattle.mg_base.specs.Disk.{Meaning}
use Rattle.mg_value.specs.declared.value.Value.{Value}
use Rattle.mg_model.specs.declared.change.Point.{Point}
use Rattle.mg_model.specs.declared.change.Point.TheVariants.{LastMark, SavepointNamed}
use Rattle.mg_model.specs.declared.refusal.Refusal.{Refusal}
use Rattle.mg_model.specs.declared.refusal.Refusal.TheVariants as refusals
use Rattle.mg_pool.specs.declared.pool.Pool.{Pool}
use Rattle.mg_space.specs.declared.fault.SpaceFault.{SpaceFault}
use Rattle.mg_space.specs.declared.links.FireLinks.{FireLinks}
use Rattle.mg_txlist.specs.TxList.{said}
use Rattle.mg_undo.specs.Undo.{State as Undo, after_back_to, has_point}
use Rattle.mg_works.specs.Works.{Working, unasked, with_undo, with_work, without_tables, without_written, work_of}
use Rattle.mg_core.specs.Cores.{Continues}
use Rattle.mg_core.specs.Events.{EndsWait}
use Rattle.mg_core.specs.Refusing.{CountsFault, IsRefusal, NamesLimit}
use Rattle.mg_core.specs.declared.parts.Core.{Core}
use Rattle.mg_taking_back.specs.Taking.{GivesUpBy, HasBegun, IsUndoOf, not_asking}
use Rattle.mg_taking_back.specs.CoreLaws.{with_same}
use Rattle.mg_table_unmaking.specs.Rows.{FailsRowOut}
use Rattle.mg_table_takings.specs.Keys.{AreKeysGiven}
use Rattle.mg_table_takings.specs.Takings.{FailsRows, FailsTablesFrom, FailsTablesTo, FailsTheRow, StopsBoth, TakesBoth, TakesOthers, TakesRows, TakesTablesFrom, TakesTablesTo, rows_unknown, stops_at_rows, tables_not_copied, tables_not_taken, tables_stopped}

-- the same transactions have works
pub left_same : (works set dropped now : List Working) (t : ℕ) (end : Undo) (keys : List Value)
    → set ≡ with_work t (with_undo end) works → dropped ≡ with_work t (without_written keys) set
    → now ≡ with_work t without_tables dropped
    → (u : ℕ) → is_some (work_of now u) ≡ is_some (work_of works u)
left_same works set dropped now t end keys sets drops forgets u =
    ap (λ (ws : List Working). is_some (work_of ws u)) forgets
    ∙ (with_same dropped t without_tables (λ w. refl) (λ w. refl) u
    ∙ (ap (λ (ws : List Working). is_some (work_of ws u)) drops
    ∙ (with_same set t (without_written keys) (λ w. refl) (λ w. refl) u
    ∙ (ap (λ (ws : List Working). is_some (work_of ws u)) sets
    ∙ with_same works t (with_undo end) (λ w. refl) (λ w. refl) u))))

-- ---- the rows

-- a fault on the pages is told and counted
pub fault_told : {D : Type 0} (m : Meaning D) (old new : Core D) (after : Pool D FireLinks) (t : ℕ) (key : Value)
    (fault : SpaceFault) (refusal : Refusal) → FailsRowOut m old.store after (said old.list) old.live t old.catalog key fault
    → IsRefusal fault refusal → NamesLimit new.store.geometry.limit refusal
    → CountsFault fault old.damage new.damage old.shortages new.shortages
    → new ≡ record old { store = after; damage = new.damage; shortages = new.shortages }
    → FailsTheRow m old new t key refusal
fault_told {D} m old new after t key fault refusal fails is names counts same = record {
  fault = fault;
  fails = subst (λ (s : Pool D FireLinks). FailsRowOut m old.store s (said old.list) old.live t old.catalog key fault)
      (sym stored) fails;
  is = is;
  names = names;
  counts = counts;
  same = same ∙ ap (λ (s : Pool D FireLinks). record old { store = s; damage = new.damage; shortages = new.shortages })
      (sym stored);
}
  where
    stored : new.store ≡ after
    stored = ap (λ (k : Core D). k.store) same

-- ---- from the beginning of the event

module _ {D : Type 0} (m : Meaning D) (begun : Core D) (works : List Working) (t : ℕ) (undo : Undo) (keys : List Value)
    (rows : AreKeysGiven begun.catalog.pointer.0 undo keys) (unasks : works ≡ with_work t unasked begun.works) where
  not_asked : record begun { works = works } ≡ not_asking t begun
  not_asked = ap (λ (ws : List Working). record begun { works = ws }) unasks

  pub taken_from : (taken : Core D) (end : Undo) (set dropped forgot : List Working)
      → TakesBoth m (record begun { works = works }) taken t undo end keys
      → set ≡ with_work t (with_undo end) taken.works → dropped ≡ with_work t (without_written keys) set
      → forgot ≡ with_work t without_tables dropped → TakesTablesFrom m begun (record taken { works = forgot }) t undo
  taken_from taken end set dropped forgot takes sets drops forgets = record {
    keys = keys;
    rows = rows;
    taken = taken;
    end = end;
    takes = subst (λ (c : Core D). TakesBoth m c taken t undo end keys) not_asked takes;
    same = ap (λ (ws : List Working). record taken { works = ws })
        (forgets ∙ ap (λ (ws : List Working). with_work t without_tables ws)
        (drops ∙ ap (λ (ws : List Working). with_work t (without_written keys) ws) sets));
  }

  pub stopped_from : (stopped new : Core D) (refusal told : Refusal)
      → StopsBoth m (record begun { works = works }) stopped t undo keys refusal → GivesUpBy stopped new t refusal
      → told ≡ refusal → FailsTablesFrom m begun new t undo told
  stopped_from stopped new refusal told stops gives_up is = subst (λ (r : Refusal). FailsTablesFrom m begun new t undo r)
      (sym is) (tables_stopped keys stopped rows
      (subst (λ (c : Core D). StopsBoth m c stopped t undo keys refusal) not_asked stops) gives_up)

-- which rows go was not found out, and the transaction is given up
pub not_known : {D : Type 0} (m : Meaning D) (begun new : Core D) (t : ℕ) (undo : Undo) (told : Refusal)
    → told ≡ refusals.Memory → GivesUpBy begun new t refusals.Memory → FailsTablesFrom m begun new t undo told
not_known {D} m begun new t undo told is gives_up =
    rows_unknown is (subst (λ (r : Refusal). GivesUpBy begun new t r) (sym is) gives_up)

-- ---- to a point

module _ {D : Type 0} (m : Meaning D) (old begun new : Core D) (t : ℕ) (undo : Undo) (continues : Continues old t)
    (ended : EndsWait old begun t) (its : IsUndoOf old.works t undo) where
  has_begun : HasBegun old begun t undo
  has_begun = record { continues = continues; ended = ended; its = its }

  pub to_mark : (result : Result (Unit {0}) Refusal)
      → MatchResult result (λ _. TakesTablesFrom m begun new t undo) (FailsTablesFrom m begun new t undo)
      → MatchResult result (λ _. TakesTablesTo m old new t LastMark) (FailsTablesTo m old new t LastMark)
  to_mark (Ok x) given = record { begun = begun; undo = undo; has_begun = has_begun; reaches = tt; takes = given }
  to_mark (Err refusal) given = tables_not_taken begun undo has_begun tt given

  pub to_savepoint : (name : List ℕ) (going : Undo) → has_point undo (Some name) ≡ true → going ≡ after_back_to undo name
      → TakesTablesFrom m begun new t going → TakesTablesTo m old new t (SavepointNamed name)
  to_savepoint name going reaches is given = record {
    begun = begun;
    undo = undo;
    has_begun = has_begun;
    reaches = reaches;
    takes = subst (λ (u : Undo). TakesTablesFrom m begun new t u) is given;
  }

  pub not_to_savepoint : (name : List ℕ) (going : Undo) (refusal : Refusal) → has_point undo (Some name) ≡ true
      → going ≡ after_back_to undo name
      → FailsTablesFrom m begun new t going refusal → FailsTablesTo m old new t (SavepointNamed name) refusal
  not_to_savepoint name going refusal reaches is given = tables_not_taken begun undo has_begun reaches
      (subst (λ (u : Undo). FailsTablesFrom m begun new t u refusal) is given)

-- what there is to take back was not copied, and the transaction is given up
pub not_copied : {D : Type 0} (m : Meaning D) (old begun new : Core D) (t : ℕ) (point : Point) (told : Refusal)
    → Continues old t → EndsWait old begun t → told ≡ refusals.Memory → GivesUpBy begun new t refusals.Memory
    → FailsTablesTo m old new t point told
not_copied {D} m old begun new t point told continues ended is gives_up = tables_not_copied begun continues ended is
    (subst (λ (r : Refusal). GivesUpBy begun new t r) (sym is) gives_up)

-- ---- both

pub both_by : {D : Type 0} (m : Meaning D) (old mid new : Core D) (t : ℕ) (start end : Undo) (keys : List Value)
    (result : Result (Unit {0}) Refusal) → TakesOthers m old mid t start end
    → MatchResult result (λ _. TakesRows m t keys mid new) (λ refusal. FailsRows m t refusal keys mid new)
    → MatchResult result (λ _. TakesBoth m old new t start end keys) (StopsBoth m old new t start keys)
both_by m old mid new t start end keys (Ok x) others rows = record { mid = mid; others = others; rows = rows }
both_by m old mid new t start end keys (Err refusal) others rows = stops_at_rows mid end others rows
