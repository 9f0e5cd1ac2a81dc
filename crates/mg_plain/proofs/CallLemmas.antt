-- What the calls of a keeper of records do in the plain machine.
use Rattle.std.proofs.Common.{◌≡◌, ℕ, zero, suc, ◌+◌, ◌<◌, ◌≤◌, ◌==◌, ◌&&◌, not, Bool, true, false, List, [], ◌∷◌, ◌++◌, drop, length, Option, Some, None, Result, Ok, Err, IfErr, inl, inr, refl, sym, ◌∙◌, ap, subst, cond, get_or, arith, lit≤}
use Rattle.std.specs.Prelude.{slice_get}
use Rattle.std.proofs.Math.Path.{fun_ext}
use Rattle.std.proofs.lemmas.Bool.{false≢true}
use Rattle.std.proofs.lemmas.List.{at_drop_more}
use Rattle.mg_model.specs.Legal.{IsLawful}
use Rattle.mg_base.specs.declared.numbers.TxNo.{TxNo}
use Rattle.mg_base.specs.declared.transaction.TxState.{TxState}
use Rattle.mg_base.specs.declared.transaction.TxState.TheVariants.{Active, Limbo, Dead, Committed}
use Rattle.mg_value.specs.declared.shape.Shape.{Shape}
use Rattle.mg_value.specs.declared.value.Value.{Value}
use Rattle.mg_expr.specs.declared.expr.Expr.{Expr}
use Rattle.mg_model.specs.declared.answer.Answer.{Answer}
use Rattle.mg_model.specs.declared.answer.Answer.TheVariants.{Fine, Tx, Rows, No}
use Rattle.mg_model.specs.declared.change.Change.{Change}
use Rattle.mg_model.specs.declared.change.Deed.{Deed}
use Rattle.mg_model.specs.declared.change.Deed.TheVariants.{Changed}
use Rattle.mg_model.specs.declared.change.Point.TheVariants.{LastMark, SavepointNamed}
use Rattle.mg_model.specs.declared.event.Event.{Event}
use Rattle.mg_model.specs.declared.event.Event.TheVariants.{Begin, Look, Find, Claim, Insert, Erase, Mark, UndoMark, Savepoint, BackTo, Prepare, Commit, Rollback, Decide}
use Rattle.mg_model.specs.declared.event.Event.TheVariants.{Change as EventChange}
use Rattle.mg_model.specs.declared.event.Mode.{Mode}
use Rattle.mg_model.specs.declared.opening.Opening.{Opening}
use Rattle.mg_model.specs.declared.refusal.Refusal.{Refusal}
use Rattle.mg_model.specs.declared.refusal.Refusal.TheVariants.{DatabaseFull, DiskRead, DiskWrite, Offline, Damaged, NotActive, NoTable, TransactionLimit, Memory}
use Rattle.mg_model.specs.declared.table.Table.{Table}
use Rattle.mg_model.specs.Changes.{Cells, KeyedRows, row_at, rows_of, same_name, same_key}
use Rattle.mg_model.specs.Catalog.{CatalogRows, catalog_name, table_key, shape_said, key_in}
use Rattle.mg_model.specs.History.{Entries, entry, transaction_of, effect_with}
use Rattle.mg_model.specs.Machine.{is_of, state_of, has_point, changes_in, deeds_by}
use Rattle.mg_model.specs.Answers.{Told, is_active, if_active, answer_begin, answer_by, catalog_of}
use Rattle.mg_model.specs.Effects.{drawn}
use Rattle.mg_catalog.specs.RowsSaid.{table_row}
use Rattle.mg_records.specs.declared.found.Found.{Found}
use Rattle.mg_records.specs.Keeping.{Causes, CommitsStay, down_after, Keeps, Leaves, Reads, TablesStay, WalksStay, refusal_in}
use Rattle.mg_records.specs.Adding.{Adds, AnswersAll, IsRefused, fine_or, number_or, drawn_in}
use Rattle.mg_records.specs.Reading.{FindAdds, Nears, TellsTable, Visits, shape_named, with_found}
use Rattle.mg_records.specs.Writing.{InsertsEach, MakesTable, new_table, rows_made}
use Rattle.mg_records.specs.TakingBack.{GivesUp, GoesBack, Undoes, is_given_up}
use Rattle.mg_plain.specs.declared.plain.Plain.{Plain}
use Rattle.mg_plain.specs.Keeping.{Keeping, LieWithin, StandsFor, base_in, kept_by, known_of, noted_in, told_in, waits_by, with_session}
use Rattle.mg_plain.specs.Kept.{kept}
use Rattle.mg_plain.specs.Obeying.{is_inner, as_number, told_by, event_back, ExpectsActive, IsAnswer, IsDone, Obeys, ViewsStay}
use Rattle.mg_plain.specs.Records.{FoundAt, GoesOn, InsertsAll, behind, means, rows_seen, shape_kept, with_shape}
use Rattle.mg_tending.specs.Keyed.{IsSeenAt}
use Rattle.mg_plain.specs.RecordsLaws.{same_shape, same_view}
use Rattle.mg_plain.proofs.StandsLemmas.{told_same}
use Rattle.mg_plain.proofs.ViewLemmas.{noted_view, view_kept}
use Rattle.mg_plain.proofs.ObeyLemmas.{inactive, obeys_by, refused_obeys, views_refused}
use Rattle.mg_plain.proofs.SessionLemmas.{stands_seated, views_seated}

-- a refusal from inside has no cause outside, and no page write failed
cause_inner : (old new : Plain) (refusal : Option Refusal) → is_inner refusal ≡ true
    → Causes means old new refusal
cause_inner old new None inner = tt
cause_inner old new (Some (DatabaseFull limit)) inner = absurd cc
cause_inner old new (Some (DiskRead faults)) inner = absurd cc
cause_inner old new (Some (DiskWrite faults)) inner = absurd cc
cause_inner old new (Some (Offline faults)) inner = absurd cc
cause_inner old new (Some (Damaged page field found wanted)) inner = absurd cc
cause_inner old new (Some refusal) inner = tt

none_down : (refusal : Option Refusal) → is_inner refusal ≡ true → None ≡ down_after None refusal
none_down None inner = refl
none_down (Some (DiskWrite faults)) inner = absurd cc
none_down (Some refusal) inner = refl

pub keeps_plain : (old new : Plain) (refusal : Option Refusal) → is_inner refusal ≡ true
    → Keeps means old new refusal
keeps_plain old new refusal inner = record {
  faults = (lit≤ tt, lit≤ tt);
  damage = lit≤ tt;
  shortages = lit≤ tt;
  cause = cause_inner old new refusal inner;
  offline = tt;
  down = none_down refusal inner;
  tells = refl;
  most_writes = refl;
  page_limit = refl;
  time = λ told. absurd (false≢true told);
  sizes = λ size. refl;
  holds = λ o h least image is. is;
  given = λ table was. tt;
  places = λ table place was. was;
}

-- what transactions see stays, so their tables and walks do
pub tables_plain : (old new : Plain) (who : Option ℕ) → ViewsStay (kept old) (kept new) who
    → TablesStay means old new who
tables_plain old new who views = λ u name table apart was.
    ap (λ (cs : List Change). with_shape name (shape_named (row_at cs catalog_name) name))
    (views u apart) ∙ was

-- no commit has pages
commits_plain : (old new : Plain) (who : Option ℕ) → CommitsStay means old new who
commits_plain old new who = record { asked = λ u apart was. tt; written = λ u apart was. tt }

pub walks_plain : (old new : Plain) (who : Option ℕ) → ViewsStay (kept old) (kept new) who
    → WalksStay means old new who
walks_plain old new who views = λ u table after rows apart is.
    is ∙ ap (λ (cs : List Change). drop (behind after) (rows_of cs table.name)) (sym (views u apart))

pub leaves_plain : (old new : Plain) (refusal : Option Refusal) (who : Option ℕ)
    → is_inner refusal ≡ true → ViewsStay (kept old) (kept new) who
    → Leaves means old new refusal who who
leaves_plain old new refusal who inner views = record {
  keeps = keeps_plain old new refusal inner;
  tables_stay = tables_plain old new who views;
  walks_stay = walks_plain old new who views;
  commits = commits_plain old new who;
}

-- a call that changes nothing
pub reads_plain : (p : Plain) (refusal : Option Refusal) (walks : Option ℕ)
    → is_inner refusal ≡ true → Reads means p p refusal walks
reads_plain p refusal walks inner = record {
  stays = λ o h s. s;
  keeps = keeps_plain p p refusal inner;
  tables = λ u name table apart was. was;
  walks_stay = λ u table after rows apart is. is;
  commits = commits_plain p p walks;
}

-- ---- a short event

pub done_leaves : (old new : Plain) (e : Event) (result : Result (Unit {0}) Refusal) (who : Option ℕ)
    → IsDone (kept old) (kept new) e result who → Leaves means old new (refusal_in result) who who
done_leaves old new e result who done = leaves_plain old new (refusal_in result) who done.inner done.views

-- a write to a table other than the catalog leaves the tables of all
row_at_apart : (c : Change) (cs : List Change) (name : List ℕ) → same_name c.table name ≡ false
    → row_at (c ∷ cs) name ≡ row_at cs name
row_at_apart c cs name apart = fun_ext (λ (key : Value). at key)
  where
    at : (key : Value) → row_at (c ∷ cs) name key ≡ row_at cs name key
    at key = ap (λ (b : Bool). cond (b && same_key c.key key) c.row (row_at cs name key)) apart

step_apart : (b : Bool) (c : Change) (deeds : List Deed) (below : List Change) (name : List ℕ)
    → same_name c.table name ≡ false
    → row_at (changes_in (cond b (Changed c ∷ deeds) deeds) ++ below) name
    ≡ row_at (changes_in deeds ++ below) name
step_apart true c deeds below name apart = row_at_apart c (changes_in deeds ++ below) name apart
step_apart false c deeds below name apart = refl

-- the write of an event, as a change of a table
abbrev pub IsWrite : Event → List ℕ → Type 0
IsWrite (Insert t table row) name = table ≡ name
IsWrite (EventChange t table key row) name = table ≡ name
IsWrite (Erase t table key) name = table ≡ name
IsWrite e name = ⊥

catalog_stays : (k : Keeping) (e : Event) (a : Answer) (name : List ℕ) (u : ℕ)
    → IsWrite e name → same_name name catalog_name ≡ false
    → row_at ((told_in (kept_by (effect_with e a) k)).view u) catalog_name
    ≡ row_at ((told_in k).view u) catalog_name
catalog_stays k (Insert t table row) Fine name u is apart =
    step_apart (t.0 == u) (record { table = table; key = key_in (catalog_of (told_in k) t.0) table row; row = Some row })
    (deeds_by u k.steps) (base_in k u) catalog_name (ap (λ n. same_name n catalog_name) is ∙ apart)
catalog_stays k (EventChange t table key row) Fine name u is apart =
    step_apart (t.0 == u) (record { table = table; key = key; row = Some row })
    (deeds_by u k.steps) (base_in k u) catalog_name (ap (λ n. same_name n catalog_name) is ∙ apart)
catalog_stays k (Erase t table key) Fine name u is apart =
    step_apart (t.0 == u) (record { table = table; key = key; row = None })
    (deeds_by u k.steps) (base_in k u) catalog_name (ap (λ n. same_name n catalog_name) is ∙ apart)
catalog_stays k (Insert t table row) (Tx v) name u is apart = refl
catalog_stays k (EventChange t table key row) (Tx v) name u is apart = refl
catalog_stays k (Erase t table key) (Tx v) name u is apart = refl
catalog_stays k e (Rows rows) name u is apart = refl
catalog_stays k e (No refusal) name u is apart = refl
catalog_stays k (Begin session mode) a name u is apart = absurd is
catalog_stays k (Look t) a name u is apart = absurd is
catalog_stays k (Find t table test) a name u is apart = absurd is
catalog_stays k (Claim t table) a name u is apart = absurd is
catalog_stays k (Mark t) a name u is apart = absurd is
catalog_stays k (UndoMark t) a name u is apart = absurd is
catalog_stays k (Savepoint t n) a name u is apart = absurd is
catalog_stays k (BackTo t n) a name u is apart = absurd is
catalog_stays k (Prepare t) a name u is apart = absurd is
catalog_stays k (Commit t) a name u is apart = absurd is
catalog_stays k (Rollback t) a name u is apart = absurd is
catalog_stays k (Decide t commit) a name u is apart = absurd is

no_table : (table : Table) → None ≡ Some table → ⊥
no_table table is = absurd cc

-- a table that was given is not the catalog
given_apart : (name : List ℕ) (k : Keeping) (t : ℕ) (table : Table)
    → with_shape name (shape_kept k t name) ≡ Some table → same_name name catalog_name ≡ false
given_apart name k t table given = at (same_name name catalog_name) refl
  where
    at : (b : Bool) → same_name name catalog_name ≡ b → same_name name catalog_name ≡ false
    at false is = is
    at true is =
        let none : with_shape name (shape_kept k t name) ≡ None =
        ap (λ (b : Bool). with_shape name (cond b None (shape_said (catalog_of (told_in k) t) name (catalog_of (told_in k) t (table_key name))))) is in
        absurd (no_table table (sym none ∙ given))

pub write_leaves : (old new : Plain) (e : Event) (result : Result (Unit {0}) Refusal) (t : ℕ) (table : Table)
    → IsWrite e table.name → with_shape table.name (shape_kept (kept old) t table.name) ≡ Some table
    → IsDone (kept old) (kept new) e result (Some t)
    → Leaves means old new (refusal_in result) None (Some t)
write_leaves old new e result t table is given done = record {
  keeps = keeps_plain old new (refusal_in result) done.inner;
  tables_stay = λ u name seen apart was.
      ap (λ (rows : CatalogRows). with_shape name (shape_named rows name))
      (ap (λ (k : Keeping). row_at ((told_in k).view u) catalog_name) done.obeys.kept_is
      ∙ (ap (λ (cs : List Change). row_at cs catalog_name)
      (noted_view (kept_by (effect_with e (fine_or result)) (kept old)) (transaction_of e) (waits_by (fine_or result)) u)
      ∙ catalog_stays (kept old) e (fine_or result) table.name u is (given_apart table.name (kept old) t table given)))
      ∙ was;
  walks_stay = walks_plain old new (Some t) done.views;
  commits = commits_plain old new (Some t);
}

-- ---- beginnings

-- an answer to a beginning
abbrev is_begun : Answer → Type 0
is_begun Fine = ⊥
is_begun (Tx t) = Unit {0}
is_begun (Rows rows) = ⊥
is_begun (No TransactionLimit) = Unit {0}
is_begun (No refusal) = ⊥

begin_inner : (k : Told) (a : Answer) → a ≡ answer_begin k → is_begun a
begin_inner k a is = subst is_begun (sym is) (at (k.next == k.limit))
  where
    at : (b : Bool) → is_begun (cond b (No TransactionLimit) (Tx (record { 0 = k.next })))
    at true = tt
    at false = tt

views_begun : (old new : Keeping) (session : ℕ) (mode : Mode) (a : Answer) (who : Option ℕ)
    → LieWithin (length old.database) old.opened old.known → Obeys old new (Begin session mode) a
    → drawn (effect_with (Begin session mode) a) ≡ who → ViewsStay old new who
views_begun old new session mode a who within obeys its = λ u apart.
    ap (λ (k : Keeping). (told_in k).view u) obeys.kept_is
    ∙ view_kept old (Begin session mode) a u within obeys.is refl (ap (is_of u) its ∙ apart)

pub begin_adds : (old mid new : Plain) (session : ℕ) (mode : Mode) (given : Result Answer Refusal)
    → kept mid ≡ with_session session (kept old)
    → Obeys (kept mid) (kept new) (Begin session mode) (told_by given)
    → Adds means old new (Begin session mode) (number_or (as_number given))
begin_adds old mid new session mode given noted obeys = λ o h s. at given obeys o h (stands_seated o h session
    (kept old) (kept mid) noted s)
  where
    at : (given : Result Answer Refusal) → Obeys (kept mid) (kept new) (Begin session mode) (told_by given)
        → (o : Opening) (h : Entries) → StandsFor o h (kept mid)
        → IsLawful o h (entry (Begin session mode) (number_or (as_number given)))
        × StandsFor o (entry (Begin session mode) (number_or (as_number given)) ∷ h) (kept new)
    at (Ok Fine) obeys o h s = absurd (begin_inner (told_in (kept mid)) Fine obeys.is)
    at (Ok (Tx t)) obeys o h s = obeys.stands o h s
    at (Ok (Rows rows)) obeys o h s = absurd (begin_inner (told_in (kept mid)) (Rows rows) obeys.is)
    at (Ok (No r)) obeys o h s = obeys.stands o h s
    at (Err r) obeys o h s = obeys.stands o h s

begin_refusal : (old : Keeping) (session : ℕ) (mode : Mode) (r : Refusal)
    → IsAnswer old (Begin session mode) (No r) → is_inner (Some r) ≡ true
begin_refusal old session mode TransactionLimit is = refl
begin_refusal old session mode Memory is = refl
begin_refusal old session mode r is = absurd (begin_inner (told_in old) (No r) is)

pub begin_leaves : (old mid new : Plain) (session : ℕ) (mode : Mode) (given : Result Answer Refusal)
    → kept mid ≡ with_session session (kept old)
    → Obeys (kept mid) (kept new) (Begin session mode) (told_by given)
    → Leaves means old new (refusal_in (as_number given)) (drawn_in (as_number given)) (drawn_in (as_number given))
begin_leaves old mid new session mode (Ok Fine) noted obeys =
    absurd (begin_inner (told_in (kept mid)) Fine obeys.is)
begin_leaves old mid new session mode (Ok (Tx t)) noted obeys = leaves_plain old new None (Some t.0) refl
    (views_seated session (kept old) (kept mid) (kept new) (Some t.0) noted
    (views_begun (kept mid) (kept new) session mode (Tx t) (Some t.0) mid.bases obeys refl))
begin_leaves old mid new session mode (Ok (Rows rows)) noted obeys =
    absurd (begin_inner (told_in (kept mid)) (Rows rows) obeys.is)
begin_leaves old mid new session mode (Ok (No r)) noted obeys =
    leaves_plain old new (Some r) None (begin_refusal (kept mid) session mode r obeys.is)
    (views_seated session (kept old) (kept mid) (kept new) None noted
    (views_refused (kept mid) (kept new) (Begin session mode) r None obeys))
begin_leaves old mid new session mode (Err r) noted obeys =
    leaves_plain old new (Some r) None (begin_refusal (kept mid) session mode r obeys.is)
    (views_seated session (kept old) (kept mid) (kept new) None noted
    (views_refused (kept mid) (kept new) (Begin session mode) r None obeys))

-- where memory is short before it
short_obeys : (old new : Plain) (session : ℕ) (mode : Mode) → kept new ≡ kept old
    → Obeys (kept old) (kept new) (Begin session mode) (No Memory)
short_obeys old new session mode same =
    refused_obeys (kept old) (kept old) (kept new) (Begin session mode) None refl refl same

pub short_adds : (old new : Plain) (session : ℕ) (mode : Mode) → kept new ≡ kept old
    → Adds means old new (Begin session mode) (No Memory)
short_adds old new session mode same = (short_obeys old new session mode same).stands

pub short_leaves : (old new : Plain) (session : ℕ) (mode : Mode) → kept new ≡ kept old
    → Leaves means old new (Some Memory) None None
short_leaves old new session mode same = leaves_plain old new (Some Memory) None refl
    (views_refused (kept old) (kept new) (Begin session mode) Memory None (short_obeys old new session mode same))

-- ---- what was found

pub found_adds : (old new : Plain) (t : TxNo) (name : List ℕ) (filter : Option Expr) (rows : List Cells)
    (active : Result (Unit {0}) Refusal) → ExpectsActive (known_of (kept old) t.0).state active
    → kept new ≡ noted_in (Some t.0) None (kept old)
    → FindAdds means old new t name filter rows active
found_adds old new t name filter rows (Ok x) active noted = λ o h s is.
    let obeys : Obeys (kept old) (kept new) (Find t name filter) (Rows rows) =
    obeys_by (kept old) (kept new) (Find t name filter) (Rows rows)
    (sym is ∙ ap (λ (k : Told). answer_by k (Find t name filter)) (sym (told_same o h (kept old) s))) noted in
    (obeys.stands o h s).1
found_adds old new t name filter rows (Err r) refused noted =
    (subst (λ (x : Refusal). Obeys (kept old) (kept new) (Find t name filter) (No x)) (sym refused.0)
    (obeys_by (kept old) (kept new) (Find t name filter) (No (NotActive (known_of (kept old) t.0).state))
    (inactive (known_of (kept old) t.0).state _ refused.1) noted)).stands

active_inner : (s : TxState) (active : Result (Unit {0}) Refusal) → ExpectsActive s active
    → is_inner (refusal_in active) ≡ true
active_inner s (Ok x) is = refl
active_inner s (Err r) is = ap (λ (x : Refusal). is_inner (Some x)) is.0

pub found_leaves : (old new : Plain) (t : TxNo) (name : List ℕ) (filter : Option Expr)
    (active : Result (Unit {0}) Refusal) → ExpectsActive (known_of (kept old) t.0).state active
    → kept new ≡ noted_in (Some t.0) None (kept old) → Leaves means old new (refusal_in active) None None
found_leaves old new t name filter active is noted =
    leaves_plain old new (refusal_in active) None (active_inner (known_of (kept old) t.0).state active is)
    (views_refused (kept old) (kept new) (Find t name filter) Memory None
    (refused_obeys (kept old) (kept old) (kept new) (Find t name filter) (Some t.0) refl refl noted))

-- ---- calls that only read

pub active_answers : {T : Type 0} (p : Plain) (t : ℕ) (active : Result (Unit {0}) Refusal) (x : T)
    → ExpectsActive (known_of (kept p) t).state active → active ≡ Ok tt → AnswersAll {T = T} means p t (Ok x)
active_answers p t (Ok y) x is ok = λ o h s. sym (s.state t) ∙ is
active_answers p t (Err r) x is ok = absurd cc

pub refused_answers : (T : Type 0) (p : Plain) (t : ℕ) (r : Refusal)
    → (r ≡ NotActive (known_of (kept p) t).state) × (is_active (known_of (kept p) t).state ≡ false)
    → AnswersAll {T = T} means p t (Err r)
refused_answers T p t r is = λ o h s.
    subst (λ (x : Refusal). IsRefused o h t x) (sym is.0)
    (sym (s.state t), is.1)

pub memory_answers : (T : Type 0) (p : Plain) (t : ℕ) → AnswersAll {T = T} means p t (Err Memory)
memory_answers T p t = λ o h s. refl

pub reads_refused : (p : Plain) (t : ℕ) (r : Refusal) (walks : Option ℕ)
    → (r ≡ NotActive (known_of (kept p) t).state) × (is_active (known_of (kept p) t).state ≡ false)
    → Reads means p p (Some r) walks
reads_refused p t r walks is = reads_plain p (Some r) walks (ap (λ (x : Refusal). is_inner (Some x)) is.0)

pub tells_refused : (p : Plain) (t : ℕ) (name : List ℕ) (r : Refusal)
    → (r ≡ NotActive (known_of (kept p) t).state) × (is_active (known_of (kept p) t).state ≡ false)
    → TellsTable means p t name (Err r)
tells_refused p t name r is =
    subst (λ (x : Refusal). TellsTable means p t name (Err x)) (sym is.0)
    (λ o h s. (sym (s.state t), is.1))

pub tells_table : (p : Plain) (t : ℕ) (name : List ℕ) (table : Table)
    → (known_of (kept p) t).state ≡ Active → Some table.shape ≡ shape_kept (kept p) t name
    → TellsTable means p t name (Ok table)
tells_table p t name table active is = λ o h s.
    (sym (s.state t) ∙ active, sym (same_shape o h (kept p) t name s) ∙ sym is)

pub tells_none : (p : Plain) (t : ℕ) (name : List ℕ)
    → (known_of (kept p) t).state ≡ Active → None ≡ shape_kept (kept p) t name
    → TellsTable means p t name (Err NoTable)
tells_none p t name active is = λ o h s.
    (sym (s.state t) ∙ active, sym (same_shape o h (kept p) t name s) ∙ sym is)

pub tells_memory : (p : Plain) (t : ℕ) (name : List ℕ) → TellsTable means p t name (Err Memory)
tells_memory p t name = λ o h s. refl

-- ---- walks

drop_get : (xs : KeyedRows) (i : ℕ) (x : Value × Cells) → Some x ≡ slice_get xs i → drop i xs ≡ x ∷ drop (i + 1) xs
drop_get [] i x is = absurd cc
drop_get (y ∷ xs) zero x is = let same : x ≡ y = cc in ap (λ (z : Value × Cells). z ∷ xs) (sym same)
drop_get (y ∷ xs) (suc i) x is =
    let further : suc i + 1 ≡ suc (i + 1) = omega arith in rw further (drop_get xs i x is)

pub drop_none : (xs : KeyedRows) (i : ℕ) → None ≡ slice_get xs i → drop i xs ≡ []
drop_none [] zero is = refl
drop_none [] (suc i) is = refl
drop_none (y ∷ xs) zero is = absurd cc
drop_none (y ∷ xs) (suc i) is = drop_none xs i is

-- past the last row there is none
pub get_past : {X : Type 0} (xs : List X) (i : ℕ) → length xs ≤ i → None ≡ slice_get xs i
get_past [] i past = refl
get_past (x ∷ xs) zero past = absurd (omega arith)
get_past (x ∷ xs) (suc i) past = get_past xs i (omega arith)

pub some_found : (x : Option (Value × Cells)) (rows : KeyedRows) (i : ℕ) → x ≡ slice_get rows i → i < length rows
    → drop i rows ≡ with_found x (drop (i + 1) rows)
some_found (Some row) rows i is below = drop_get rows i row is
some_found None [] i is below = absurd (omega arith)
some_found None (y ∷ rows) zero is below = absurd cc
some_found None (y ∷ rows) (suc i) is below =
    let further : suc i + 1 ≡ suc (i + 1) = omega arith in
    rw further (some_found None rows i is (omega arith))

pub visits_found : (p : Plain) (t : ℕ) (table : Table) (after : Option ℕ) (found : Option (Found ℕ))
    (rows : KeyedRows) → FoundAt (rows_seen (kept p) t table.name) (behind after) (Ok found)
    → rows ≡ drop (behind after) (rows_seen (kept p) t table.name)
    → Visits means p t table (Ok found) rows
visits_found p t table after None rows is come =
    come ∙ drop_none (rows_seen (kept p) t table.name) (behind after) is
visits_found p t table after (Some found) rows is come = (
  drop found.place (rows_seen (kept p) t table.name),
  come ∙ some_found found.row (rows_seen (kept p) t table.name) (behind after) is.1 is.2
      ∙ ap (λ (n : ℕ). with_found found.row (drop n (rows_seen (kept p) t table.name))) (sym is.0),
  refl,
)

pub nears_found : (p : Plain) (t : ℕ) (table : Table) (after : Option ℕ) (found : Option (Found ℕ))
    → FoundAt (rows_seen (kept p) t table.name) (behind after) (Ok found)
    → Nears means p p t table after (Ok found)
nears_found p t table after None is = tt
nears_found p t table after (Some found) is =
    let place : found.place ≡ behind after + 1 = is.0 in
    let below : behind after < length (rows_seen (kept p) t table.name) = is.2 in
    (tt, omega arith, (omega (arith, place), omega (arith, place, below)))

-- ---- taking back

gives_up : (old new : Plain) (t : TxNo) (event : Event) (r : Refusal) → is_given_up r ≡ false
    → Obeys (kept old) (kept new) event (No r) → GivesUp means old new t event r
gives_up old new t event r none obeys = λ o h s.
    let both = obeys.stands o h s in (
      both.0,
      subst (λ (b : Bool). StandsFor o (cond (b && is_active (state_of o h t.0)) (entry (Rollback t) Fine ∷ entry event (No r) ∷ h) (entry event (No r) ∷ h)) (kept new))
          (sym none) both.1,
    )

pub undoes : (old new : Plain) (t : TxNo) (result : Result (Unit {0}) Refusal)
    → IsDone (kept old) (kept new) (event_back t LastMark) result (Some t.0)
    → IfErr result (λ r. is_given_up r ≡ false) → Undoes means old new t result
undoes old new t (Ok x) done none = done.obeys.stands
undoes old new t (Err r) done none = gives_up old new t (UndoMark t) r none done.obeys

has_it : (s : TxState) (has : Bool) → (is_active s && not has) ≡ false → Fine ≡ if_active s Fine → has ≡ true
has_it Active true lacks fine = refl
has_it Active false lacks fine = absurd cc
has_it Limbo has lacks fine = absurd cc
has_it Dead has lacks fine = absurd cc
has_it Committed has lacks fine = absurd cc

pub goes_back : (old new : Plain) (t : TxNo) (name : List ℕ)
    → false ≡ (is_active (known_of (kept old) t.0).state && not (has_point t.0 (SavepointNamed name) (kept old).steps))
    → IsDone (kept old) (kept new) (event_back t (SavepointNamed name)) (Ok tt) (Some t.0)
    → GoesBack means old new t name (Ok true)
goes_back old new t name has done = λ o h s.
    let both = done.obeys.stands o h s in (
      ap (has_point t.0 (SavepointNamed name)) (sym s.steps_are)
          ∙ has_it (known_of (kept old) t.0).state (has_point t.0 (SavepointNamed name) (kept old).steps) (sym has) done.obeys.is,
      both.0,
      both.1,
    )

pub goes_nowhere : (old new : Plain) (t : TxNo) (name : List ℕ) (r : Refusal) → is_given_up r ≡ false
    → IsDone (kept old) (kept new) (event_back t (SavepointNamed name)) (Err r) (Some t.0)
    → GoesBack means old new t name (Err r)
goes_nowhere old new t name r none done = gives_up old new t (BackTo t name) r none done.obeys

lacks_it : (s : TxState) (has : Bool) → true ≡ (is_active s && not has) → (s ≡ Active) × (has ≡ false)
lacks_it Active true lacks = absurd cc
lacks_it Active false lacks = (refl, refl)
lacks_it Limbo has lacks = absurd cc
lacks_it Dead has lacks = absurd cc
lacks_it Committed has lacks = absurd cc

pub has_none : (p : Plain) (t : TxNo) (name : List ℕ)
    → true ≡ (is_active (known_of (kept p) t.0).state && not (has_point t.0 (SavepointNamed name) (kept p).steps))
    → GoesBack means p p t name (Ok false)
has_none p t name lacks = λ o h s.
    let parts = lacks_it (known_of (kept p) t.0).state (has_point t.0 (SavepointNamed name) (kept p).steps) lacks in (
      sym (s.state t.0) ∙ parts.0,
      ap (has_point t.0 (SavepointNamed name)) (sym s.steps_are) ∙ parts.1,
      s,
    )

-- ---- new tables

pub goes_first : (old : Plain) (t : TxNo) (rows : List Cells) → GoesOn old old t rows rows
goes_first old t rows = λ o h s. (h, s, λ new refusal all. all)

pub goes_further : (old now new : Plain) (t : TxNo) (rows : List Cells) (row : Cells) (left : List Cells)
    → GoesOn old now t rows (row ∷ left)
    → IsDone (kept now) (kept new) (Insert t catalog_name row) (Ok tt) (Some t.0)
    → GoesOn old new t rows left
goes_further old now new t rows row left goes done = λ o h s.
    let part = goes o h s in
    let both = done.obeys.stands o part.0 part.1 in (
      entry (Insert t catalog_name row) Fine ∷ part.0,
      both.1,
      λ last refusal more. part.2 last refusal (inl (both.0, more)),
    )

pub goes_refused : (old now new : Plain) (t : TxNo) (rows : List Cells) (row : Cells) (left : List Cells) (r : Refusal)
    → GoesOn old now t rows (row ∷ left)
    → IsDone (kept now) (kept new) (Insert t catalog_name row) (Err r) (Some t.0)
    → (o : Opening) (h : Entries) → StandsFor o h (kept old) → InsertsEach means new o t rows h (Some r)
goes_refused old now new t rows row left r goes done = λ o h s.
    let part = goes o h s in
    let both = done.obeys.stands o part.0 part.1 in
    part.2 new (Some r) (inr (r, refl, both.0, both.1))

pub goes_to_end : (old now : Plain) (t : TxNo) (rows left : List Cells) → left ≡ [] → GoesOn old now t rows left
    → (o : Opening) (h : Entries) → StandsFor o h (kept old) → InsertsEach means now o t rows h None
goes_to_end old now t rows left none goes = λ o h s.
    let part = goes o h s in
    part.2 now None (subst (λ (xs : List Cells). InsertsEach means now o t xs part.0 None) (sym none) part.1)

-- views after one event more
pub views_further : (old now new : Keeping) (t : TxNo) → ViewsStay old now (Some t.0)
    → ViewsStay now new (Some t.0) → ViewsStay old new (Some t.0)
views_further old now new t first more = λ u apart. more u apart ∙ first u apart

pub fails_to_make : (old new : Plain) (t : TxNo) (name : List ℕ) (shape : Shape)
    (result : Result (Unit {0}) Refusal) → result ≡ Err Memory
    → ((event : Event) → transaction_of event ≡ Some t.0 → IsDone (kept old) (kept new) event result (Some t.0))
    → MakesTable means old new t name shape (refusal_in result)
fails_to_make old new t name shape result is fails = λ o h s.
    let row : Cells = table_row (new_table name shape) in
    let both = (fails (Insert t catalog_name row) refl).obeys.stands o h s in
    inr (
      Memory,
      ap refusal_in is,
      subst (λ (r : Result (Unit {0}) Refusal). IsLawful o h (entry (Insert t catalog_name row) (fine_or r))) is both.0,
      subst (λ (r : Result (Unit {0}) Refusal). StandsFor o (entry (Insert t catalog_name row) (fine_or r) ∷ h) (kept new)) is both.1,
    )

-- the rest of rows at one of them, and behind the last
pub drop_item : (xs : List Cells) (i : ℕ) (x : Cells) → i < length xs → x ≡ get_or xs i x
    → drop i xs ≡ x ∷ drop (i + 1) xs
drop_item xs i x lt is =
    at_drop_more (λ (ys : List Cells). ys) xs i x lt ∙ ap (λ (y : Cells). y ∷ drop (i + 1) xs) (sym is)

pub drop_past : (xs : List Cells) (i : ℕ) → length xs ≤ i → drop i xs ≡ []
drop_past [] zero past = refl
drop_past [] (suc i) past = refl
drop_past (x ∷ xs) zero past = absurd (omega arith)
drop_past (x ∷ xs) (suc i) past = drop_past xs i (omega arith)

pub goes_at : (old now : Plain) (t : TxNo) (rows left : List Cells) (row : Cells) (more : List Cells)
    → left ≡ row ∷ more → GoesOn old now t rows left → GoesOn old now t rows (row ∷ more)
goes_at old now t rows left row more is goes =
    subst (λ (xs : List Cells). GoesOn old now t rows xs) is goes

pub in_catalog : (old new : Keeping) (t : TxNo) (name : List ℕ) (row : Cells) (result : Result (Unit {0}) Refusal)
    → name ≡ catalog_name → IsDone old new (Insert t name row) result (Some t.0)
    → IsDone old new (Insert t catalog_name row) result (Some t.0)
in_catalog old new t name row result is done =
    subst (λ (n : List ℕ). IsDone old new (Insert t n row) result (Some t.0)) is done

pub makes_table : (old new : Plain) (t : TxNo) (name : List ℕ) (shape : Shape) (rows : List Cells)
    (result : Result (Unit {0}) Refusal) → rows ≡ rows_made name shape
    → InsertsAll old new t rows result → MakesTable means old new t name shape (refusal_in result)
makes_table old new t name shape rows result is all = λ o h s.
    subst (λ (xs : List Cells). InsertsEach means new o t xs h (refusal_in result)) is (all.inserts o h s)

-- a row that is kept at a key is the one that the history tells there
pub row_seen : (p : Plain) (t : ℕ) (name : List ℕ) (key : Value) (row : Option Cells)
    → row ≡ row_at ((told_in (kept p)).view t) name key → IsSeenAt means p t name key row
row_seen p t name key row is = λ o h s active.
    is ∙ ap (λ (cs : List Change). row_at cs name key) (same_view o h (kept p) t s)
