-- A history that goes on by the events of one transaction.
use Rattle.std.specs.Prelude.{◌≡◌, ℕ, ◌==◌, false, ◌∷◌, Option, Some, None, refl}
use Rattle.std.proofs.Common.{◌∙◌, ap}
use Rattle.mg_base.specs.declared.numbers.TxNo.{TxNo}
use Rattle.mg_model.specs.declared.answer.Answer.{Answer}
use Rattle.mg_model.specs.declared.answer.Answer.TheVariants.{Fine, Tx, Rows, No}
use Rattle.mg_model.specs.declared.event.Event.{Event}
use Rattle.mg_model.specs.declared.event.Mode.{Mode}
use Rattle.mg_model.specs.declared.event.Event.TheVariants.{Begin, Look, Find, Claim, Insert, Change, Erase, Mark, UndoMark, Savepoint, BackTo, Prepare, Commit, Rollback, Decide}
use Rattle.mg_model.specs.declared.opening.Opening.{Opening}
use Rattle.mg_model.specs.Effects.{drawn, is_its}
use Rattle.mg_model.specs.EntryLaws.{others_by_event, state_others_entry, mode_others_entry}
use Rattle.mg_model.specs.History.{Entry, Entries, Effect, Begins, Looks, Makes, Gives, Marks, Saves, TakesBack, Ends, Nothing, transaction_of, deed_of, beginning_of, effect_with, effect_of}
use Rattle.mg_model.specs.Machine.{is_of, state_of, mode_of, mode_after}
use Rattle.mg_transcript.specs.Sessions.{begun_after, last_begun}

-- the entries in front of an older history are those of events of this transaction
pub data GrowsBy (t : TxNo) (h : Entries) : Entries → Type 0 where
  as_it_was : GrowsBy t h h
  by_one : {after : Entries} (e : Entry) → transaction_of e.event ≡ Some t.0 → GrowsBy t h after
      → GrowsBy t h (e ∷ after)

pub grown_then : {t : TxNo} {h mid after : Entries} → GrowsBy t h mid → GrowsBy t mid after
    → GrowsBy t h after
grown_then first as_it_was = first
grown_then first (by_one e its more) = by_one e its (grown_then first more)

-- ---- what stays

-- it draws no number
deed_draws_none : (event : Event) → drawn (deed_of event) ≡ None
deed_draws_none (Begin session mode) = refl
deed_draws_none (Look u) = refl
deed_draws_none (Find u table filter) = refl
deed_draws_none (Claim u table) = refl
deed_draws_none (Insert u table row) = refl
deed_draws_none (Change u table key row) = refl
deed_draws_none (Erase u table key) = refl
deed_draws_none (Mark u) = refl
deed_draws_none (UndoMark u) = refl
deed_draws_none (Savepoint u name) = refl
deed_draws_none (BackTo u name) = refl
deed_draws_none (Prepare u) = refl
deed_draws_none (Commit u) = refl
deed_draws_none (Rollback u) = refl
deed_draws_none (Decide u commit) = refl

begins_none : (event : Event) (n u : ℕ) → transaction_of event ≡ Some u
    → drawn (beginning_of event n) ≡ None
begins_none (Begin session mode) n u its = absurd cc
begins_none (Look v) n u its = refl
begins_none (Find v table filter) n u its = refl
begins_none (Claim v table) n u its = refl
begins_none (Insert v table row) n u its = refl
begins_none (Change v table key row) n u its = refl
begins_none (Erase v table key) n u its = refl
begins_none (Mark v) n u its = refl
begins_none (UndoMark v) n u its = refl
begins_none (Savepoint v name) n u its = refl
begins_none (BackTo v name) n u its = refl
begins_none (Prepare v) n u its = refl
begins_none (Commit v) n u its = refl
begins_none (Rollback v) n u its = refl
begins_none (Decide v commit) n u its = refl

draws_none : (event : Event) (answer : Answer) (u : ℕ) → transaction_of event ≡ Some u
    → drawn (effect_with event answer) ≡ None
draws_none event Fine u its = deed_draws_none event
draws_none event (Tx n) u its = begins_none event n.0 u its
draws_none event (Rows rows) u its = refl
draws_none event (No refusal) u its = refl

-- an event of one transaction is none of another
pub not_its : (t : ℕ) (e : Entry) (u : ℕ) → transaction_of e.event ≡ Some u → (u == t) ≡ false
    → is_its t e ≡ false
not_its t e u its apart = others_by_event t e
    (ap (λ (who : Option ℕ). is_of t who) its ∙ apart)
    (ap (λ (who : Option ℕ). is_of t who) (draws_none e.event e.answer u its))

begun_before : (event : Event) (answer : Answer) (s u : ℕ) (before : Option TxNo)
    → transaction_of event ≡ Some u → begun_after event answer s before ≡ before
begun_before (Begin session mode) answer s u before its = absurd cc
begun_before (Look v) answer s u before its = refl
begun_before (Find v table filter) answer s u before its = refl
begun_before (Claim v table) answer s u before its = refl
begun_before (Insert v table row) answer s u before its = refl
begun_before (Change v table key row) answer s u before its = refl
begun_before (Erase v table key) answer s u before its = refl
begun_before (Mark v) answer s u before its = refl
begun_before (UndoMark v) answer s u before its = refl
begun_before (Savepoint v name) answer s u before its = refl
begun_before (BackTo v name) answer s u before its = refl
begun_before (Prepare v) answer s u before its = refl
begun_before (Commit v) answer s u before its = refl
begun_before (Rollback v) answer s u before its = refl
begun_before (Decide v commit) answer s u before its = refl

-- what each session began last
pub last_begun_grown : {t : TxNo} {h after : Entries} (s : ℕ) → GrowsBy t h after
    → last_begun after s ≡ last_begun h s
last_begun_grown s as_it_was = refl
last_begun_grown {t = t} s (by_one {after = mid} e its more) =
    begun_before e.event e.answer s t.0 (last_begun mid s) its ∙ last_begun_grown s more

-- what has become of another transaction, and how it runs
pub state_grown : {t : TxNo} {h after : Entries} (o : Opening) (u : ℕ) → (t.0 == u) ≡ false
    → GrowsBy t h after → state_of o after u ≡ state_of o h u
state_grown o u apart as_it_was = refl
state_grown {t = t} o u apart (by_one {after = mid} e its more) =
    state_others_entry o mid e u (not_its u e t.0 its apart) ∙ state_grown o u apart more

pub mode_grown : {t : TxNo} {h after : Entries} (o : Opening) (u : ℕ) → (t.0 == u) ≡ false
    → GrowsBy t h after → mode_of after u ≡ mode_of h u
mode_grown o u apart as_it_was = refl
mode_grown {t = t} o u apart (by_one {after = mid} e its more) =
    mode_others_entry o mid e u (not_its u e t.0 its apart) ∙ mode_grown o u apart more

-- no transaction runs otherwise than before
mode_undrawn : (f : Effect) (u : ℕ) (old : Mode) → drawn f ≡ None → mode_after f u old ≡ old
mode_undrawn (Begins t mode) u old none = absurd cc
mode_undrawn (Looks t) u old none = refl
mode_undrawn (Makes t table row) u old none = refl
mode_undrawn (Gives t table key row) u old none = refl
mode_undrawn (Marks t) u old none = refl
mode_undrawn (Saves t name) u old none = refl
mode_undrawn (TakesBack t point) u old none = refl
mode_undrawn (Ends t end) u old none = refl
mode_undrawn Nothing u old none = refl

pub mode_stays : {t : TxNo} {h after : Entries} (u : ℕ) → GrowsBy t h after
    → mode_of after u ≡ mode_of h u
mode_stays u as_it_was = refl
mode_stays {t = t} u (by_one {after = mid} e its more) =
    mode_undrawn (effect_of e) u (mode_of mid u) (draws_none e.event e.answer t.0 its) ∙ mode_stays u more
