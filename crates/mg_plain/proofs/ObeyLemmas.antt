-- What the machine answers to short events, and whose view an event leaves.
use Rattle.std.proofs.Common.{◌≡◌, ℕ, ◌==◌, Bool, true, false, List, ◌∷◌, ◌++◌, length, Option, Some, None, Result, Ok, Err, inl, inr, refl, sym, ◌∙◌, ap, subst, cond}
use Rattle.std.proofs.lemmas.Bool.{false≢true}
use Rattle.mg_base.specs.declared.numbers.TxNo.{TxNo}
use Rattle.mg_base.specs.declared.transaction.TxState.{TxState}
use Rattle.mg_base.specs.declared.transaction.TxState.TheVariants.{Active, Limbo, Dead, Committed}
use Rattle.mg_value.specs.declared.value.Value.{Value}
use Rattle.mg_model.specs.declared.answer.Answer.{Answer}
use Rattle.mg_model.specs.declared.answer.Answer.TheVariants.{Fine, Tx, Rows, No}
use Rattle.mg_model.specs.declared.change.Change.{Change as AnyChange}
use Rattle.mg_model.specs.declared.change.Deed.{Deed}
use Rattle.mg_model.specs.declared.change.Deed.TheVariants.{Marked, Saved}
use Rattle.mg_model.specs.declared.refusal.Refusal.{Refusal}
use Rattle.mg_model.specs.declared.refusal.Refusal.TheVariants.{DuplicateKey, NoRow, ReadOnly, NotActive, NoTable, Memory}
use Rattle.mg_model.specs.declared.event.Event.{Event}
use Rattle.mg_model.specs.declared.event.Event.TheVariants.{Begin, Look, Find, Claim, Insert, Change, Erase, Mark, UndoMark, Savepoint, BackTo, Prepare, Commit, Rollback, Decide}
use Rattle.mg_model.specs.declared.change.Point.{Point}
use Rattle.mg_model.specs.declared.change.Point.TheVariants.{LastMark, SavepointNamed}
use Rattle.mg_model.specs.Catalog.{key_in}
use Rattle.mg_model.specs.History.{entry, transaction_of, effect_with, Marks, Saves}
use Rattle.mg_model.specs.Machine.{is_of, taken_back, deeds_by, changes_in}
use Rattle.mg_model.specs.Effects.{drawn}
use Rattle.mg_model.specs.Answers.{Told, is_active, verdict_by, verdict, past, if_active, if_limbo, catalog_of, has_table, has_row, if_writable, obstacle, table_obstacle, claim_obstacle, answer_insert, answer_give, answer_claim, answer_by, closes}
use Rattle.mg_plain.specs.Keeping.{Keeping, StandsFor, LieWithin, told_in, base_in, known_of, noted_in, waits_by, kept_by, kept_after}
use Rattle.mg_plain.proofs.StandsLemmas.{told_same}
use Rattle.mg_plain.proofs.AnsweredLemmas.{stands_after, stands_refused}
use Rattle.mg_plain.specs.Obeying.{told_by, is_inner, is_short_event, seer_of, IsAnswer, Obeys, ViewsStay, IsDone, event_back, as_done}
use Rattle.mg_plain.proofs.ViewLemmas.{noted_view, view_kept}

-- ---- short answers from inside

abbrev pub refusal_told : Answer → Option Refusal
refusal_told Fine = None
refusal_told (Tx t) = None
refusal_told (Rows rows) = None
refusal_told (No refusal) = Some refusal

-- an answer is Fine or a refusal of the machine
abbrev pub is_plain : Answer → Bool
is_plain Fine = true
is_plain (Tx t) = false
is_plain (Rows rows) = false
is_plain (No refusal) = is_inner (Some refusal)

module _ (k : Told) (t : ℕ) where
  choice_plain : (b : Bool) (x y : Answer) → is_plain x ≡ true → is_plain y ≡ true
      → is_plain (cond b x y) ≡ true
  choice_plain true x y first second = first
  choice_plain false x y first second = second

  verdict_plain : (u : ℕ) → is_plain (verdict k t u) ≡ true
  verdict_plain u = at (k.state u) (k.mode t).wait (closes k t u)
    where
      at : (s : TxState) (waits closing : Bool) → is_plain (verdict_by s waits closing u) ≡ true
      at Active true true = refl
      at Active true false = refl
      at Active false closing = refl
      at Limbo waits closing = refl
      at Dead waits closing = refl
      at Committed waits closing = refl

  past_plain : (found : Option ℕ) (next : Answer) → is_plain next ≡ true
      → is_plain (past k t found next) ≡ true
  past_plain None next plain = plain
  past_plain (Some u) next plain = verdict_plain u

  active_plain : (s : TxState) (next : Answer) → is_plain next ≡ true
      → is_plain (if_active s next) ≡ true
  active_plain Active next plain = plain
  active_plain Limbo next plain = refl
  active_plain Dead next plain = refl
  active_plain Committed next plain = refl

  limbo_plain : (s : TxState) → is_plain (if_limbo s) ≡ true
  limbo_plain Active = refl
  limbo_plain Limbo = refl
  limbo_plain Dead = refl
  limbo_plain Committed = refl

  writable_plain : (table : List ℕ) (next : Answer) → is_plain next ≡ true
      → is_plain (if_writable k t table next) ≡ true
  writable_plain table next plain =
      choice_plain (k.mode t).read_only (No ReadOnly) (cond (has_table k t table) next (No NoTable))
      refl (choice_plain (has_table k t table) next (No NoTable) plain refl)

  insert_plain : (table : List ℕ) (key : Value) → is_plain (answer_insert k t table key) ≡ true
  insert_plain table key =
      writable_plain table _ (past_plain (table_obstacle k t table) _
      (choice_plain (has_row k t table key) (No DuplicateKey) _ refl
      (past_plain (obstacle k t table key) Fine refl)))

  give_plain : (table : List ℕ) (key : Value) → is_plain (answer_give k t table key) ≡ true
  give_plain table key =
      writable_plain table _ (past_plain (table_obstacle k t table) _
      (choice_plain (has_row k t table key) _ (No NoRow)
      (past_plain (obstacle k t table key) Fine refl) refl))

  claim_plain : (table : List ℕ) → is_plain (answer_claim k t table) ≡ true
  claim_plain table = writable_plain table _ (past_plain (claim_obstacle k t table) Fine refl)

pub answers_plain : (k : Told) (e : Event) → is_short_event e ≡ true
    → is_plain (answer_by k e) ≡ true
answers_plain k (Begin session mode) short = absurd cc
answers_plain k (Find t table test) short = absurd cc
answers_plain k (Look t) short = active_plain k t.0 (k.state t.0) Fine refl
answers_plain k (Claim t table) short = active_plain k t.0 (k.state t.0) _ (claim_plain k t.0 table)
answers_plain k (Insert t table row) short =
    active_plain k t.0 (k.state t.0) _
    (insert_plain k t.0 table (key_in (catalog_of k t.0) table row))
answers_plain k (Change t table key row) short =
    active_plain k t.0 (k.state t.0) _ (give_plain k t.0 table key)
answers_plain k (Erase t table key) short =
    active_plain k t.0 (k.state t.0) _ (give_plain k t.0 table key)
answers_plain k (Mark t) short = active_plain k t.0 (k.state t.0) Fine refl
answers_plain k (UndoMark t) short = active_plain k t.0 (k.state t.0) Fine refl
answers_plain k (Savepoint t name) short = active_plain k t.0 (k.state t.0) Fine refl
answers_plain k (BackTo t name) short = active_plain k t.0 (k.state t.0) Fine refl
answers_plain k (Prepare t) short = active_plain k t.0 (k.state t.0) Fine refl
answers_plain k (Commit t) short = active_plain k t.0 (k.state t.0) Fine refl
answers_plain k (Rollback t) short = active_plain k t.0 (k.state t.0) Fine refl
answers_plain k (Decide t commit) short = limbo_plain k t.0 (k.state t.0)

-- ---- views

-- only a beginning draws a number
pub none_drawn : (e : Event) (a : Answer) → is_short_event e ≡ true → drawn (effect_with e a) ≡ None
none_drawn (Begin session mode) a short = absurd cc
none_drawn (Find t table test) a short = absurd cc
none_drawn e (Rows rows) short = refl
none_drawn e (No refusal) short = refl
none_drawn (Look t) Fine short = refl
none_drawn (Claim t table) Fine short = refl
none_drawn (Insert t table row) Fine short = refl
none_drawn (Change t table key row) Fine short = refl
none_drawn (Erase t table key) Fine short = refl
none_drawn (Mark t) Fine short = refl
none_drawn (UndoMark t) Fine short = refl
none_drawn (Savepoint t name) Fine short = refl
none_drawn (BackTo t name) Fine short = refl
none_drawn (Prepare t) Fine short = refl
none_drawn (Commit t) Fine short = refl
none_drawn (Rollback t) Fine short = refl
none_drawn (Decide t commit) Fine short = refl
none_drawn (Look t) (Tx u) short = refl
none_drawn (Claim t table) (Tx u) short = refl
none_drawn (Insert t table row) (Tx u) short = refl
none_drawn (Change t table key row) (Tx u) short = refl
none_drawn (Erase t table key) (Tx u) short = refl
none_drawn (Mark t) (Tx u) short = refl
none_drawn (UndoMark t) (Tx u) short = refl
none_drawn (Savepoint t name) (Tx u) short = refl
none_drawn (BackTo t name) (Tx u) short = refl
none_drawn (Prepare t) (Tx u) short = refl
none_drawn (Commit t) (Tx u) short = refl
none_drawn (Rollback t) (Tx u) short = refl
none_drawn (Decide t commit) (Tx u) short = refl

others_view : (k : Keeping) (e : Event) (a : Answer) (u : ℕ)
    → LieWithin (length k.database) k.opened k.known → IsAnswer k e a
    → is_short_event e ≡ true → is_of u (transaction_of e) ≡ false
    → (told_in (kept_after e a k)).view u ≡ (told_in k).view u
others_view k e a u within is short apart =
    view_kept k e a u within is apart (ap (is_of u) (none_drawn e a short))

-- a point among the deeds is no change
point_unseen : (b : Bool) (d : Deed) (deeds : List Deed) → changes_in (d ∷ deeds) ≡ changes_in deeds
    → changes_in (cond b (d ∷ deeds) deeds) ≡ changes_in deeds
point_unseen true d deeds same = same
point_unseen false d deeds same = refl

quiet_view : (k : Keeping) (e : Event) (a : Answer) (u : ℕ)
    → LieWithin (length k.database) k.opened k.known → IsAnswer k e a
    → is_short_event e ≡ true → is_of u (seer_of e) ≡ false
    → (told_in (kept_after e a k)).view u ≡ (told_in k).view u
quiet_view k (Mark t) Fine u within is short apart =
    noted_view (kept_by (Marks t.0) k) (Some t.0) None u
    ∙ ap (λ (cs : List AnyChange). cs ++ base_in k u)
    (point_unseen (t.0 == u) Marked (deeds_by u k.steps) refl)
quiet_view k (Mark t) (Tx v) u within is short apart = noted_view k (Some t.0) None u
quiet_view k (Mark t) (Rows rows) u within is short apart = noted_view k (Some t.0) None u
quiet_view k (Mark t) (No refusal) u within is short apart =
    noted_view k (Some t.0) (waits_by (No refusal)) u
quiet_view k (Savepoint t name) Fine u within is short apart =
    noted_view (kept_by (Saves t.0 name) k) (Some t.0) None u
    ∙ ap (λ (cs : List AnyChange). cs ++ base_in k u)
    (point_unseen (t.0 == u) (Saved name) (deeds_by u k.steps) refl)
quiet_view k (Savepoint t name) (Tx v) u within is short apart = noted_view k (Some t.0) None u
quiet_view k (Savepoint t name) (Rows rows) u within is short apart = noted_view k (Some t.0) None u
quiet_view k (Savepoint t name) (No refusal) u within is short apart =
    noted_view k (Some t.0) (waits_by (No refusal)) u
quiet_view k (Begin session mode) a u within is short apart = absurd cc
quiet_view k (Find t table test) a u within is short apart = absurd cc
quiet_view k (Look t) a u within is short apart = others_view k (Look t) a u within is short apart
quiet_view k (Claim t table) a u within is short apart =
    others_view k (Claim t table) a u within is short apart
quiet_view k (Insert t table row) a u within is short apart =
    others_view k (Insert t table row) a u within is short apart
quiet_view k (Change t table key row) a u within is short apart =
    others_view k (Change t table key row) a u within is short apart
quiet_view k (Erase t table key) a u within is short apart =
    others_view k (Erase t table key) a u within is short apart
quiet_view k (UndoMark t) a u within is short apart =
    others_view k (UndoMark t) a u within is short apart
quiet_view k (BackTo t name) a u within is short apart =
    others_view k (BackTo t name) a u within is short apart
quiet_view k (Prepare t) a u within is short apart =
    others_view k (Prepare t) a u within is short apart
quiet_view k (Commit t) a u within is short apart =
    others_view k (Commit t) a u within is short apart
quiet_view k (Rollback t) a u within is short apart =
    others_view k (Rollback t) a u within is short apart
quiet_view k (Decide t commit) a u within is short apart =
    others_view k (Decide t commit) a u within is short apart

-- what is seen of the new is what is seen of what is kept after the event
views_by : (old new : Keeping) (e : Event) (a : Answer) (u : ℕ) → new ≡ kept_after e a old
    → (told_in (kept_after e a old)).view u ≡ (told_in old).view u
    → (told_in new).view u ≡ (told_in old).view u
views_by old new e a u kept_is same = ap (λ (k : Keeping). (told_in k).view u) kept_is ∙ same

pub views_stay : (old new : Keeping) (e : Event) (a : Answer)
    → LieWithin (length old.database) old.opened old.known → Obeys old new e a
    → is_short_event e ≡ true → ViewsStay old new (seer_of e)
views_stay old new e a within obeys short = λ u apart.
    views_by old new e a u obeys.kept_is (quiet_view old e a u within obeys.is short apart)

-- with another transaction named, which is the event's
pub views_stay_but : (old new : Keeping) (e : Event) (a : Answer) (who : Option ℕ)
    → LieWithin (length old.database) old.opened old.known → Obeys old new e a
    → is_short_event e ≡ true → transaction_of e ≡ who → ViewsStay old new who
views_stay_but old new e a who within obeys short its = λ u apart.
    views_by old new e a u obeys.kept_is
    (others_view old e a u within obeys.is short (ap (is_of u) its ∙ apart))

-- ---- results

-- what was answered is Fine or a refusal from inside
said_plain : (k : Told) (e : Event) (a : Answer) → is_short_event e ≡ true → a ≡ answer_by k e
    → is_plain a ≡ true
said_plain k e a short is = ap is_plain is ∙ answers_plain k e short

inner_said : (k : Keeping) (e : Event) (r : Refusal) → is_short_event e ≡ true
    → IsAnswer k e (No r) → is_inner (Some r) ≡ true
inner_said k e Memory short is = refl
inner_said k e r short is = said_plain (told_in k) e (No r) short is

pub finish_done : (old new : Keeping) (e : Event) (given : Result Answer Refusal)
    → LieWithin (length old.database) old.opened old.known → Obeys old new e (told_by given)
    → is_short_event e ≡ true → IsDone old new e (as_done given) (seer_of e)
finish_done old new e (Ok Fine) within obeys short =
    record { obeys = obeys; inner = refl; views = views_stay old new e Fine within obeys short }
finish_done old new e (Ok (Tx t)) within obeys short =
    absurd (false≢true (said_plain (told_in old) e (Tx t) short obeys.is))
finish_done old new e (Ok (Rows rows)) within obeys short =
    absurd (false≢true (said_plain (told_in old) e (Rows rows) short obeys.is))
finish_done old new e (Ok (No r)) within obeys short = record {
  obeys = obeys;
  inner = inner_said old e r short obeys.is;
  views = views_stay old new e (No r) within obeys short;
}
finish_done old new e (Err r) within obeys short = record {
  obeys = obeys;
  inner = inner_said old e r short obeys.is;
  views = views_stay old new e (No r) within obeys short;
}

-- ---- answers from what is kept

answer_is : (k : Keeping) (e : Event) (a : Answer) → a ≡ answer_by (told_in k) e → IsAnswer k e a
answer_is k e (No Memory) is = tt
answer_is k e a is = is

pub obeys_by : (old new : Keeping) (e : Event) (a : Answer) → a ≡ answer_by (told_in old) e
    → new ≡ kept_after e a old → Obeys old new e a
obeys_by old new e a is kept_is = record {
  is = answer_is old e a is;
  kept_is = kept_is;
  stands = λ o h s. (
    inl (is ∙ ap (λ (k : Told). answer_by k e) (told_same o h old s)),
    subst (λ (k : Keeping). StandsFor o (entry e a ∷ h) k) (sym kept_is) (stands_after o h e a old s is),
  );
}

pub refused_obeys : (old mid new : Keeping) (e : Event) (of : Option ℕ) → mid ≡ old
    → of ≡ transaction_of e → new ≡ noted_in of None mid → Obeys old new e (No Memory)
refused_obeys old mid new e of same its noted = record {
  is = tt;
  kept_is = noted ∙ (λ i. noted_in (its i) None (same i));
  stands = λ o h s. (
    inr refl,
    subst (λ (k : Keeping). StandsFor o (entry e (No Memory) ∷ h) k)
        (sym (noted ∙ (λ i. noted_in (its i) None (same i)))) (stands_refused o h e old s),
  );
}

-- a refused event changes no view
pub views_refused : (old new : Keeping) (e : Event) (r : Refusal) (who : Option ℕ)
    → Obeys old new e (No r) → ViewsStay old new who
views_refused old new e r who obeys = λ u apart.
    views_by old new e (No r) u obeys.kept_is (noted_view old (transaction_of e) (waits_by (No r)) u)

pub fails : (old new : Keeping) (e : Event) (t : ℕ) → transaction_of e ≡ Some t
    → new ≡ noted_in (Some t) None old → IsDone old new e (Err Memory) (Some t)
fails old new e t its noted =
    let obeys : Obeys old new e (No Memory) = refused_obeys old old new e (Some t) refl (sym its) noted in
    record { obeys = obeys; inner = refl; views = views_refused old new e Memory (Some t) obeys }

-- ---- taking back

back_answer : (k : Keeping) (t : TxNo) (point : Point)
    → answer_by (told_in k) (event_back t point) ≡ if_active (known_of k t.0).state Fine
back_answer k t LastMark = refl
back_answer k t (SavepointNamed name) = refl

back_of : (t : TxNo) (point : Point) → transaction_of (event_back t point) ≡ Some t.0
back_of t LastMark = refl
back_of t (SavepointNamed name) = refl

back_short : (t : TxNo) (point : Point) → is_short_event (event_back t point) ≡ true
back_short t LastMark = refl
back_short t (SavepointNamed name) = refl

-- a refusal on which nobody waits
abbrev waits_none : Refusal → Type 0
waits_none r = waits_by (No r) ≡ None

back_kept : (k : Keeping) (t : TxNo) (point : Point) (r : Refusal) → waits_none r
    → kept_after (event_back t point) (No r) k ≡ noted_in (Some t.0) None k
back_kept k t LastMark r none = ap (λ (on : Option TxNo). noted_in (Some t.0) on k) none
back_kept k t (SavepointNamed name) r none = ap (λ (on : Option TxNo). noted_in (Some t.0) on k) none

pub inactive : (s : TxState) (next : Answer) → is_active s ≡ false → No (NotActive s) ≡ if_active s next
inactive Active next apart = absurd cc
inactive Limbo next apart = refl
inactive Dead next apart = refl
inactive Committed next apart = refl

pub back_refused : (old new : Keeping) (t : TxNo) (point : Point) (s : TxState) (r : Refusal)
    → s ≡ (known_of old t.0).state → (r ≡ NotActive s) × (is_active s ≡ false)
    → new ≡ noted_in (Some t.0) None old → IsDone old new (event_back t point) (Err r) (Some t.0)
back_refused old new t point s r is refused noted =
    subst (λ (x : Refusal). IsDone old new (event_back t point) (Err x) (Some t.0)) (sym refused.0)
    (record { obeys = obeys; inner = refl; views = views_refused old new (event_back t point) (NotActive s) (Some t.0) obeys })
  where
    obeys : Obeys old new (event_back t point) (No (NotActive s))
    obeys =
        obeys_by old new (event_back t point) (No (NotActive s))
        (inactive s Fine refused.1 ∙ ap (λ (x : TxState). if_active x Fine) is ∙ sym (back_answer old t point))
        (noted ∙ sym (back_kept old t point (NotActive s) refl))

pub back_taken : (old mid new : Keeping) (t : TxNo) (point : Point)
    → mid ≡ record old { steps = taken_back t.0 point old.steps } → new ≡ noted_in (Some t.0) None mid
    → new ≡ kept_after (event_back t point) Fine old
back_taken old mid new t LastMark taken noted = noted ∙ ap (λ (k : Keeping). noted_in (Some t.0) None k) taken
back_taken old mid new t (SavepointNamed name) taken noted =
    noted ∙ ap (λ (k : Keeping). noted_in (Some t.0) None k) taken

pub back_done : (old new : Keeping) (t : TxNo) (point : Point)
    → LieWithin (length old.database) old.opened old.known → (known_of old t.0).state ≡ Active
    → new ≡ kept_after (event_back t point) Fine old
    → IsDone old new (event_back t point) (Ok tt) (Some t.0)
back_done old new t point within active kept_is =
    let obeys : Obeys old new (event_back t point) Fine =
    obeys_by old new (event_back t point) Fine
    (ap (λ (x : TxState). if_active x Fine) (sym active) ∙ sym (back_answer old t point)) kept_is in
    record {
      obeys = obeys;
      inner = refl;
      views = views_stay_but old new (event_back t point) Fine (Some t.0) within obeys (back_short t point) (back_of t point);
    }
