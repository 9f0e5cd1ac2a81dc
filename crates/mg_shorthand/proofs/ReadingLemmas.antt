-- The reading of a get that asks for the row of its key: its steps, and what it has come to.
use Rattle.std.proofs.Common.{◌≡◌, ◌≤◌, ℕ, ℤ, Bool, true, false, List, ◌∷◌, Option, Some, None, Result, Ok, Err, inl, lit≤, refl, sym, ap, ◌∙◌, subst}
use Rattle.std.specs.Prelude.{length}
use Rattle.mg_base.specs.declared.numbers.TxNo.{TxNo}
use Rattle.mg_base.specs.declared.transaction.TxState.TheVariants.{Active}
use Rattle.mg_value.specs.declared.shape.Shape.{Shape}
use Rattle.mg_expr.specs.declared.expr.Expr.{Expr}
use Rattle.mg_expr.specs.declared.fault.EvalFault.{EvalFault}
use Rattle.mg_expr.specs.declared.fault.EvalFault.TheVariants as evals
use Rattle.mg_expr.specs.Trees.{Tree}
use Rattle.mg_statements.specs.Plain.{tree_in}
use Rattle.mg_model.specs.declared.answer.Answer.TheVariants.{No, Rows}
use Rattle.mg_model.specs.declared.event.Event.TheVariants.{Find}
use Rattle.mg_model.specs.declared.opening.Opening.{Opening}
use Rattle.mg_model.specs.declared.refusal.Refusal.{Refusal}
use Rattle.mg_model.specs.declared.refusal.Refusal.TheVariants.{Memory, NoTable}
use Rattle.mg_model.specs.Answers.{answer}
use Rattle.mg_model.specs.Changes.{Cells}
use Rattle.mg_model.specs.History.{Entries, entry}
use Rattle.mg_model.specs.Legal.{IsLawful}
use Rattle.mg_model.specs.Machine.{mode_of, state_of}
use Rattle.mg_model.specs.NewDatabase.{kv_name}
use Rattle.mg_records.specs.Crashing.{HoldsOn}
use Rattle.mg_records.specs.Keeping.{FaultsAreTold, Leaves, Reads}
use Rattle.mg_records.specs.Meaning.{Means}
use Rattle.mg_records.specs.Reading.{FindAdds, TellsTable, shape_seen}
use Rattle.mg_records.specs.Sessions.{SessionsStay}
use Rattle.mg_rows.specs.declared.statement_fault.StatementFault.TheVariants.{Engine}
use Rattle.mg_rows.specs.Found.{found}
use Rattle.mg_rows.specs.FoundLaws.{found_answered}
use Rattle.mg_script.specs.declared.reply.Reply.{Reply}
use Rattle.mg_script.specs.declared.reply.Reply.TheVariants as replies
use Rattle.mg_calls.specs.FindLaws.{machine_finds}
use Rattle.mg_calls.specs.FrameLaws.{frames_leaves}
use Rattle.mg_calls.specs.Walks.{rows_seen}
use Rattle.mg_transcript.specs.Courses.{Begun, Ends, Later}
use Rattle.mg_transcript.specs.OutsideLaws.{refused_outside}
use Rattle.mg_transcript.specs.OwnEventLaws.{runs_own}
use Rattle.mg_transcript.specs.Selects.{Answers, reply_with}
use Rattle.mg_transcript.specs.Shorthand.{Gets, GivesUp, IsGot, reads_it, tests_not, value_of_key}
use Rattle.mg_transcript.specs.Statements.{fault_of, fault_seen, rows_found}
use Rattle.mg_transcript.specs.Steps.{IsFind, IsRead, Runs, Steps, answers_so, ends_now, finds, finds_not, is_outside, one_step, stops, visits}
use Rattle.mg_courses.specs.CarryLaws.{carries_then}
use Rattle.mg_courses.specs.Running.{Spares as SparesRun, refusal_answered}
use Rattle.mg_shorthand.specs.Going.{GoesAt, ReadsOn, Spares, Went}
use Rattle.mg_shorthand.specs.Keys.{HasRead, found_of, has_key_and_value, with_key}
use Rattle.mg_shorthand.proofs.GetLemmas.{runs_selecting}
use Rattle.mg_shorthand.proofs.GoingLemmas.{spares_quiet, went_on}
use Rattle.mg_shorthand.proofs.ValueLemmas.{filter_bound}

-- ---- the steps

few : (row : Option Cells) → length (found_of row) ≤ 1
few None = lit≤ tt
few (Some row) = lit≤ tt

module _ (o : Opening) (h : Entries) (t : TxNo) (key : ℤ) where
  -- it is refused from outside before it has told what it found
  pub stopped : (refusal : Refusal) → is_outside refusal ≡ true
      → Runs o t h (Later (Begun (value_of_key key) 0)) h (Ends (replies.No (Engine refusal)))
  stopped refusal is = one_step (stops (value_of_key key) 0 refusal is) (ends_now (replies.No (Engine refusal)))

  -- it visits a record, and then is at its end
  visited : {after : Entries} (reply : Reply) → Steps o h t (Begun (value_of_key key) 1) after (Ends reply)
      → Runs o t h (Later (Begun (value_of_key key) 0)) after (Ends reply)
  visited reply step = one_step (visits (value_of_key key) 0 refl) (one_step step (ends_now reply))

  module _ (shape : Shape) (row : Option Cells) (has : has_key_and_value shape ≡ true)
      (seen : shape_seen o h t.0 kv_name ≡ Some shape)
      (found_ : rows_found o h t shape (value_of_key key) ≡ Some (found_of row)) (filter : Option Expr)
      (tree : tree_in filter ≡ Some (with_key key)) where
    read : IsRead o h t (value_of_key key) 1 shape (found_of row)
    read = record { visits = refl; seen = seen; found = found_; enough = few row }

    find : IsFind t (value_of_key key) shape (Find t kv_name filter)
    find = record { filter = filter; is = refl; bound = tree ∙ sym (filter_bound shape key has) }

    pub machine : state_of o h t.0 ≡ Active → answer o h (Find t kv_name filter) ≡ Rows (found_of row)
    machine active = machine_finds o h t kv_name filter shape (found_of row) active seen
        (found_answered filter (rows_seen o h t.0 kv_name) (found_of row)
        (ap (λ (f : Option Tree). found f (rows_seen o h t.0 kv_name)) (tree ∙ sym (filter_bound shape key has))
        ∙ found_))

    -- what was found is told, and its value answered
    pub answered : (given : Result (List Cells) EvalFault) → state_of o h t.0 ≡ Active
        → Answers shape (value_of_key key) (found_of row) given
        → Runs o t h (Later (Begun (value_of_key key) 0)) (entry (Find t kv_name filter) (Rows (found_of row)) ∷ h)
        (Ends (reply_with given))
    answered given active so = visited (reply_with given)
        (finds (value_of_key key) 1 shape (found_of row) (Find t kv_name filter)
        (entry (Find t kv_name filter) (Rows (found_of row)) ∷ h) (Ends (reply_with given)) read find
        (inl (sym (machine active))) (answers_so given refl so))

    -- telling it is refused
    pub not_told : (refusal : Refusal) → IsLawful o h (entry (Find t kv_name filter) (No refusal))
        → Runs o t h (Later (Begun (value_of_key key) 0)) (entry (Find t kv_name filter) (No refusal) ∷ h)
        (Ends (replies.No (Engine refusal)))
    not_told refusal lawful = visited (replies.No (Engine refusal))
        (finds_not (value_of_key key) 1 shape (found_of row) (Find t kv_name filter) refusal read find lawful)

-- ---- what it has come to

-- it comes behind a call that only reads
pub read_behind : {R P : Type 0} (m : Means R P) → HoldsOn m → (old mid new : R) (o : Opening) (h : Entries)
    (t : TxNo) (key : ℤ) (reply : Reply) → ReadsOn m old mid o h → HasRead m mid new o h t key reply
    → HasRead m old new o h t key reply
read_behind m lasts old mid new o h t key reply reads read = record {
  after = read.after;
  runs = read.runs;
  stands = read.stands;
  carries = carries_then m lasts old mid new o h h read.after reads.carries read.carries;
}

-- its transaction then ends
pub read_ends : {R P : Type 0} (m : Means R P) → HoldsOn m → (old mid new : R) (o : Opening) (h : Entries)
    (t : TxNo) (key : ℤ) (size : ℕ) (given : Reply) (over : Bool) (reply : Reply) → state_of o h t.0 ≡ Active
    → fault_seen o h t size (value_of_key key) ≡ None → HasRead m old mid o h t key given
    → ((after : Entries) → GoesAt m mid new o after t over (λ last. IsGot o after t given last reply))
    → Went m old new o h t over (λ last. Gets o key size h t last reply)
read_ends m lasts old mid new o h t key size given over reply active none read ends =
    went_on m lasts old mid new o h read.after t over (λ last. IsGot o read.after t given last reply)
    (λ last. Gets o key size h t last reply) (runs_own read.runs) read.carries
    (λ last got. reads_it given read.after last reply none read.runs got)
    (ends read.after read.stands ((runs_selecting refl read.runs).0 ∙ active))

-- ---- the table

-- a statement that passed its tests has a table
no_fault : (read_only : Bool) (size : ℕ) (key : ℤ) → fault_of read_only None size (value_of_key key) ≡ None → ⊥
no_fault true size key none = absurd cc
no_fault false size key none = absurd cc

-- so where the table is not given, that is refused from outside
pub not_given : {R P : Type 0} (m : Means R P) (old : R) (o : Opening) (h : Entries) (t : TxNo) (key : ℤ) (size : ℕ)
    (refusal : Refusal) (after : Entries) (reply : Reply) → m.stands old o h → state_of o h t.0 ≡ Active
    → fault_seen o h t size (value_of_key key) ≡ None → TellsTable m old t.0 kv_name (Err refusal)
    → GivesUp o h t (Engine refusal) after reply → Gets o key size h t after reply
not_given m old o h t key size NoTable after reply stands active none tells up =
    absurd (no_fault (mode_of h t.0).read_only size key
    (ap (λ (seen : Option Shape). fault_of (mode_of h t.0).read_only seen size (value_of_key key))
    (sym (tells o h stands).1) ∙ none))
not_given m old o h t key size refusal after reply stands active none tells up =
    tests_not refusal after reply (refused_outside o h t.0 refusal active (tells o h stands)) up

-- ---- what is left

-- a call that only reads leaves statements where they stand
pub spares_runs : {R P : Type 0} (m : Means R P) (old new : R) (t : ℕ) (refusal : Option Refusal)
    → Reads m old new refusal None → SparesRun m old new t
spares_runs m old new t refusal reads = record {
  tables = λ name table was. reads.tables t name table refl was;
  walks = λ table after rows come. reads.walks_stay t table after rows refl come;
  given = reads.keeps.given;
  places = reads.keeps.places;
  sizes = reads.keeps.sizes;
}

pub spares_leaves : {R P : Type 0} (m : Means R P) (old new : R) (t : TxNo) (refusal : Option Refusal)
    → Leaves m old new refusal None None → FaultsAreTold m old new refusal
    → SessionsStay m old new None None → Spares m old new t refusal false
spares_leaves m old new t refusal leaves told sessions =
    record { frames = frames_leaves m old new t.0 refusal leaves told; sessions = sessions }

-- an answer that is refused for want of memory has no cause outside
pub spares_answered : {R P : Type 0} (m : Means R P) (old new : R) (t : TxNo)
    (given : Result (List Cells) EvalFault) (reply : Reply) → reply ≡ reply_with given
    → Spares m old new t None false → Spares m old new t (refusal_answered reply) false
spares_answered m old new t given reply is spares =
    subst (λ (r : Reply). Spares m old new t (refusal_answered r) false) (sym is) (at given)
  where
    at : (x : Result (List Cells) EvalFault) → Spares m old new t (refusal_answered (reply_with x)) false
    at (Ok rows) = spares
    at (Err evals.Arithmetic) = spares
    at (Err evals.Memory) = spares_quiet m old new t (Some Memory) false tt spares

-- what was told is told of this table, and of this row
pub found_adds : {R P : Type 0} (m : Means R P) (old new : R) (t : TxNo) (name : List ℕ) (filter : Option Expr)
    (rows : List Cells) (row : Option Cells) (result : Result (Unit {0}) Refusal) → name ≡ kv_name
    → rows ≡ found_of row → FindAdds m old new t name filter rows result
    → FindAdds m old new t kv_name filter (found_of row) result
found_adds m old new t name filter rows row result named is adds =
    subst (λ (n : List ℕ). FindAdds m old new t n filter (found_of row) result) named
    (subst (λ (xs : List Cells). FindAdds m old new t name filter xs result) is adds)
