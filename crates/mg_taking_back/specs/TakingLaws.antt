-- Steps of taking back, one after another.
use Rattle.std.proofs.Common.{◌≡◌, ◌<◌, ◌≤◌, ◌++◌, ◌∷◌, ◌&&◌, nat_lt, ℕ, Bool, true, false, zero, suc, List, [], length, Option, None, Some, Result, Ok, Err, ap, arith, cond, refl, subst, sym, ◌∙◌}
use Rattle.std.specs.Prelude.{IfOk, MatchResult}
use Rattle.mg_base.specs.Disk.{Meaning}
use Rattle.mg_base.specs.declared.memory.Memory.{Memory}
use Rattle.mg_model.specs.declared.change.Point.{Point}
use Rattle.mg_model.specs.declared.change.Point.TheVariants.{LastMark, SavepointNamed}
use Rattle.mg_model.specs.declared.refusal.Refusal.{Refusal}
use Rattle.mg_model.specs.declared.refusal.Refusal.TheVariants as refusals
use Rattle.mg_undo.specs.Undo.{State as Undo, TakesBack, after_back_to, arrived_at, ends, gives, give_newest, given_as, goal_points, has_point, repeats, settled, take_back, take_to}
use Rattle.mg_undo.specs.declared.changes.Change.{Change}
use Rattle.mg_undo.specs.declared.changes.Was.{Was}
use Rattle.mg_undo.specs.declared.points.Standing.{Standing}
use Rattle.mg_value.specs.declared.value.Value.{Value}
use Rattle.mg_works.specs.Works.{Working, has_savepoint, unasked, with_undo, with_work, without_tables, work_of}
use Rattle.mg_core.specs.declared.parts.Core.{Core}
use Rattle.mg_core.specs.Cores.{Continues, IsCore}
use Rattle.mg_core.specs.Events.{EndsWait}
use Rattle.mg_taking_back.specs.Changes.{FailsChange, TakesChange, change_not_taken, change_of, change_of_none}
use Rattle.mg_taking_back.specs.Taking.{ComesToEnd, FailsBackTo, FailsFrom, Gives, GivesOn, GivesUpBy, HasBegun, IsUndoOf, StopsTaking, TakesAll, TakesBackFrom, TakesBackTo, TakesChanges, back_not_copied, back_stopped, gives_none, gives_one, not_asking, takes_none, takes_one}

-- ---- what is given

-- what is given as a table, a key and what was is that change
pub given_is : (given : Option Change) (table : ℕ) (key : Value) (was : Was)
    → given_as given ≡ Some (table, key, was) → given ≡ Some (change_of table key was)
given_is None table key was is = absurd cc
given_is (Some c) table key was is =
    let same : (c.table, c.key, c.was) ≡ (table, key, was) = cc in
    ap (λ (p : ℕ × Value × Was). Some (change_of p.0 p.1 p.2)) same

pub given_none : (given : Option Change) → given_as given ≡ None → given ≡ None
given_none None is = refl
given_none (Some c) is = absurd cc

-- one step more
pub gives_more : {start left : Undo} {given : List Change} (c : Change) → Gives start given left
    → (take_back left).given ≡ Some c → Gives start (given ++ c ∷ []) (take_back left).after
gives_more c gives_none is = gives_one c is gives_none
gives_more c (gives_one d first more) is = gives_one d first (gives_more c more is)

-- and then the end
pub gives_on : GivesOn
gives_on start left end given rest gives_none all = all
gives_on start left end given rest (gives_one c first more) all = gives c first (gives_on _ left end _ rest more all)

-- ---- what is taken

pub takes_more : {D : Type 0} {m : Meaning D} {t : ℕ} {old at : Core D} {given : List Change} (new : Core D)
    (c : Change) → TakesChanges m t old given at → TakesChange m at new t c
    → TakesChanges m t old (given ++ c ∷ []) new
takes_more new c takes_none takes = takes_one new c takes takes_none
takes_more new c (takes_one mid d first more) takes = takes_one mid d first (takes_more new c more takes)

-- the end, where no more is given
pub gives_end : {start last end : Undo} {given : List Change} → Gives start given last
    → (take_back last).given ≡ None → (take_back last).after ≡ end → TakesBack start given end
gives_end gives_none none is = ends none is
gives_end (gives_one c first more) none is = gives c first (gives_end more none is)

-- ---- the steps come to an end

settled_short : (floor : ℕ) (changes : List Change) → length (settled floor changes) ≤ length changes
settled_short floor [] = omega arith
settled_short floor (c ∷ cs) = at (nat_lt floor (length (c ∷ cs)) && repeats floor (c ∷ cs)) (settled_short floor cs)
  where
    at : (b : Bool) → length (settled floor cs) ≤ length cs
        → length (cond b (settled floor cs) (c ∷ cs)) ≤ length (c ∷ cs)
    at true more = omega (arith, more)
    at false more = omega arith

-- each step that gives a change leaves fewer
pub fewer : (undo : Undo) (c : Change) → (take_back undo).given ≡ Some c
    → length (take_back undo).after.changes < length undo.changes
fewer undo c is = at (goal_points undo) is
  where
    last : (b : Bool) (p : Standing) (ps : List Standing) (d : Change) (cs : List Change)
        → length (d ∷ cs) ≤ length undo.changes
        → (cond b (record {
          given = Some d;
          after = record { changes = cs; points = p ∷ ps; going_back = undo.going_back };
        }) (arrived_at undo.going_back p ps (d ∷ cs))).given ≡ Some c
        → length (cond b (record {
          given = Some d;
          after = record { changes = cs; points = p ∷ ps; going_back = undo.going_back };
        }) (arrived_at undo.going_back p ps (d ∷ cs))).after.changes < length undo.changes
    last true p ps d cs short is = omega (arith, short)
    last false p ps d cs short is = absurd cc

    by : (p : Standing) (ps : List Standing) (cs : List Change) → length cs ≤ length undo.changes
        → (give_newest undo.going_back p ps cs).given ≡ Some c
        → length (give_newest undo.going_back p ps cs).after.changes < length undo.changes
    by p ps [] short is = absurd cc
    by p ps (d ∷ cs) short is = last (nat_lt p.at (length (d ∷ cs))) p ps d cs short is

    at : (points : List Standing) → (take_to undo points).given ≡ Some c
        → length (take_to undo points).after.changes < length undo.changes
    at [] is = absurd cc
    at (p ∷ ps) is = by p ps (settled p.at undo.changes) (settled_short p.at undo.changes) is

pub fewer_left : (left next : Undo) (table : ℕ) (key : Value) (was : Was)
    → Some (table, key, was) ≡ given_as (take_back left).given → next ≡ (take_back left).after
    → length next.changes < length left.changes
fewer_left left next table key was is after =
    subst (λ (u : Undo). length u.changes < length left.changes) (sym after)
    (fewer left (change_of table key was) (given_is _ table key was (sym is)))

comes_by : (n : ℕ) (start : Undo) → length start.changes < n
    → (given : List Change) × (end : Undo) × TakesBack start given end
comes_by zero start less = absurd (omega (arith, less))
comes_by (suc n) start less = at (take_back start).given refl (λ next fits. comes_by n next fits)
  where
    at : (o : Option Change) → (take_back start).given ≡ o
        → ((next : Undo) → length next.changes < n → (given : List Change) × (end : Undo) × TakesBack next given end)
        → (given : List Change) × (end : Undo) × TakesBack start given end
    at None is more = ([], (take_back start).after, ends is refl)
    at (Some c) is more =
        let rest = more (take_back start).after (omega (arith, less, fewer start c is)) in
        (c ∷ rest.0, rest.1, gives c is rest.2)

pub comes_to_end : ComesToEnd
comes_to_end start = comes_by (suc (length start.changes)) start (omega arith)

-- ---- the loop

-- Some changes were given and taken back; nothing but the pages has changed.
pub record Going {D : Type 0} (m : Meaning D) (old now : Core D) (t : ℕ) (start left : Undo) : Type 0 where
  pub core : IsCore m now
  pub list : now.list ≡ old.list
  pub works : now.works ≡ old.works
  pub given : List Change
  pub steps : Gives start given left
  pub takes : TakesChanges m t old given now

pub going : {D : Type 0} (m : Meaning D) (old : Core D) (t : ℕ) (start : Undo) → IsCore m old
    → Going m old old t start start
going m old t start is = record {
  core = is;
  list = refl;
  works = refl;
  given = [];
  steps = gives_none;
  takes = takes_none;
}

pub going_on : {D : Type 0} (m : Meaning D) (old now new : Core D) (t : ℕ) (start left next : Undo) (table : ℕ)
    (key : Value) (was : Was) → Going m old now t start left
    → Some (table, key, was) ≡ given_as (take_back left).given → next ≡ (take_back left).after → IsCore m new
    → TakesChange m now new t (change_of table key was) → Going m old new t start next
going_on {D} m old now new t start left next table key was so is after core takes =
    let given : (take_back left).given ≡ Some (change_of table key was) = given_is _ table key was (sym is) in
    subst (λ (u : Undo). Going m old new t start u) (sym after) (record {
      core = core;
      list = ap (λ (c : Core D). c.list) takes.same ∙ so.list;
      works = ap (λ (c : Core D). c.works) takes.same ∙ so.works;
      given = so.given ++ change_of table key was ∷ [];
      steps = gives_more (change_of table key was) so.steps given;
      takes = takes_more new (change_of table key was) so.takes takes;
    })

pub all_taken : {D : Type 0} (m : Meaning D) (old new : Core D) (t : ℕ) (start left end : Undo)
    → Going m old new t start left → None ≡ given_as (take_back left).given → end ≡ (take_back left).after
    → TakesAll m old new t start end
all_taken m old new t start left end so is after = record {
  given = so.given;
  steps = gives_end so.steps (given_none _ (sym is)) (sym after);
  takes = so.takes;
}

pub stopped_at : {D : Type 0} (m : Meaning D) (old now new : Core D) (t : ℕ) (start left : Undo) (table : ℕ)
    (key : Value) (was : Was) (refusal : Refusal) → Going m old now t start left
    → Some (table, key, was) ≡ given_as (take_back left).given
    → FailsChange m now new t (change_of table key was) refusal → StopsTaking m old new t start refusal
stopped_at m old now new t start left table key was refusal so is fails = record {
  given = so.given;
  left = left;
  steps = so.steps;
  at = now;
  takes = so.takes;
  change = change_of table key was;
  next = given_is _ table key was (sym is);
  fails = fails;
}

-- where a change is not taken back, only the pages and the counts have changed
pub fails_list : {D : Type 0} (m : Meaning D) (now new : Core D) (t : ℕ) (c : Change) (refusal : Refusal)
    → FailsChange m now new t c refusal → new.list ≡ now.list
fails_list {D} m now new t c refusal (change_of_none none counts) = ap (λ (k : Core D). k.list) counts.same
fails_list {D} m now new t c refusal (change_not_taken table fails) = ap (λ (k : Core D). k.list) fails.same

pub fails_works : {D : Type 0} (m : Meaning D) (now new : Core D) (t : ℕ) (c : Change) (refusal : Refusal)
    → FailsChange m now new t c refusal → new.works ≡ now.works
fails_works {D} m now new t c refusal (change_of_none none counts) = ap (λ (k : Core D). k.works) counts.same
fails_works {D} m now new t c refusal (change_not_taken table fails) = ap (λ (k : Core D). k.works) fails.same

-- ---- to a point

-- what an active transaction has to take back is in its work
pub undo_known : (works : List Working) (t : ℕ) (work : Working) (result : Result Undo Memory)
    → Some work ≡ work_of works t → IfOk result (λ undo. undo ≡ work.undo) → IfOk result (IsUndoOf works t)
undo_known works t work (Ok undo) its is = (work, sym its, sym is)
undo_known works t work (Err e) its is = tt

-- it is the same before the event began
pub undo_before : {D : Type 0} (old begun : Core D) (t : ℕ) (undo : Undo) → EndsWait old begun t
    → IsUndoOf begun.works t undo → IsUndoOf old.works t undo
undo_before {D} old begun t undo ended its = subst (λ (ws : List Working). IsUndoOf ws t undo)
    (ap (λ (c : Core D). c.works) ended.same) its

module _ {D : Type 0} (m : Meaning D) (old begun new : Core D) (t : ℕ) (undo : Undo) (continues : Continues old t)
    (ended : EndsWait old begun t) (its : IsUndoOf old.works t undo) where
  pub has_begun : HasBegun old begun t undo
  has_begun = record { continues = continues; ended = ended; its = its }

  pub to_mark : (result : Result (Unit {0}) Refusal)
      → MatchResult result (λ _. TakesBackFrom m begun new t undo) (FailsFrom m begun new t undo)
      → MatchResult result (λ _. TakesBackTo m old new t LastMark) (FailsBackTo m old new t LastMark)
  to_mark (Ok x) given = record { begun = begun; undo = undo; has_begun = has_begun; reaches = tt; takes = given }
  to_mark (Err refusal) given = back_stopped begun undo has_begun tt given

  pub to_savepoint : (name : List ℕ) (going : Undo) → has_point undo (Some name) ≡ true → going ≡ after_back_to undo name
      → TakesBackFrom m begun new t going → TakesBackTo m old new t (SavepointNamed name)
  to_savepoint name going reaches is given = record {
    begun = begun;
    undo = undo;
    has_begun = has_begun;
    reaches = reaches;
    takes = subst (λ (u : Undo). TakesBackFrom m begun new t u) is given;
  }

  pub not_to_savepoint : (name : List ℕ) (going : Undo) (refusal : Refusal) → has_point undo (Some name) ≡ true
      → going ≡ after_back_to undo name
      → FailsFrom m begun new t going refusal → FailsBackTo m old new t (SavepointNamed name) refusal
  not_to_savepoint name going refusal reaches is given = back_stopped begun undo has_begun reaches
      (subst (λ (u : Undo). FailsFrom m begun new t u refusal) is given)

-- whether the savepoint stands
pub stands : (works : List Working) (t : ℕ) (undo : Undo) → IsUndoOf works t undo → (name : List ℕ) (b : Bool)
    → b ≡ has_point undo (Some name) → has_savepoint (work_of works t) name ≡ b
stands works t undo its name b is = ap (λ (w : Option Working). has_savepoint w name) its.1
    ∙ (ap (λ (u : Undo). has_point u (Some name)) its.2 ∙ sym is)

-- ---- from the beginning of the event

module _ {D : Type 0} (m : Meaning D) (begun : Core D) (works : List Working) (t : ℕ) (undo : Undo)
    (unasks : works ≡ with_work t unasked begun.works) where
  not_asked : record begun { works = works } ≡ not_asking t begun
  not_asked = ap (λ (ws : List Working). record begun { works = ws }) unasks

  pub taken_from : (taken : Core D) (end : Undo) (set forgot : List Working)
      → TakesAll m (record begun { works = works }) taken t undo end
      → set ≡ with_work t (with_undo end) taken.works → forgot ≡ with_work t without_tables set
      → TakesBackFrom m begun (record taken { works = forgot }) t undo
  taken_from taken end set forgot takes sets forgets = record {
    taken = taken;
    end = end;
    takes = subst (λ (c : Core D). TakesAll m c taken t undo end) not_asked takes;
    same = ap (λ (ws : List Working). record taken { works = ws })
        (forgets ∙ ap (λ (ws : List Working). with_work t without_tables ws) sets);
  }

  pub stopped_from : (stopped new : Core D) (refusal told : Refusal)
      → StopsTaking m (record begun { works = works }) stopped t undo refusal → GivesUpBy stopped new t refusal
      → told ≡ refusal → FailsFrom m begun new t undo told
  stopped_from stopped new refusal told stops gives_up is = subst (λ (r : Refusal). FailsFrom m begun new t undo r)
      (sym is) (record {
        stopped = stopped;
        stops = subst (λ (c : Core D). StopsTaking m c stopped t undo refusal) not_asked stops;
        gives_up = gives_up;
      })

-- what there is to take back was not copied, and the transaction is given up
pub not_copied : {D : Type 0} (m : Meaning D) (old begun new : Core D) (t : ℕ) (point : Point) (told : Refusal)
    → Continues old t → EndsWait old begun t → told ≡ refusals.Memory → GivesUpBy begun new t refusals.Memory
    → FailsBackTo m old new t point told
not_copied {D} m old begun new t point told continues ended is gives_up = back_not_copied begun continues ended is
    (subst (λ (r : Refusal). GivesUpBy begun new t r) (sym is) gives_up)
