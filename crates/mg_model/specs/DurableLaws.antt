-- The database that outlasts a crash after the last durable event is the one that there is.
use Rattle.std.specs.Prelude.{◌≡◌, ℕ, ◌+◌, ◌<◌, ◌&&◌, nat_lt, Bool, true, false, [], ◌∷◌, ◌++◌, None, cond, refl}
use Rattle.std.proofs.Common.{sym, ◌∙◌, ap, arith}
use Rattle.std.proofs.lemmas.Bool.{false≢true, lt-ltb}
use Rattle.mg_model.specs.declared.answer.Answer.{Answer}
use Rattle.mg_model.specs.declared.answer.Answer.TheVariants.{Fine, Tx, Rows, No}
use Rattle.mg_model.specs.declared.event.Event.{Event}
use Rattle.mg_model.specs.declared.event.Event.TheVariants.{Begin, Commit, Decide}
use Rattle.mg_model.specs.declared.opening.Opening.{Opening}
use Rattle.mg_model.specs.History.{Entry, Entries, deed_of, beginning_of, effect_with, effect_of}
use Rattle.mg_model.specs.Machine.{database, own}
use Rattle.mg_model.specs.Legal.{is_lasting, is_fine, is_durable, durable_count, after_durable, durable_database}
use Rattle.mg_model.specs.Effects.{commits, changes_of}
use Rattle.mg_model.specs.EntryLaws.{database_after_entry}

commits_lasting : (event : Event) → (is_lasting event && true) ≡ false
    → commits (deed_of event) ≡ None
commits_lasting (Commit t) passing = absurd (false≢true (sym passing))
commits_lasting (Decide t commit) passing = absurd (false≢true (sym passing))
commits_lasting event passing = refl

commits_beginning : (event : Event) (t : ℕ) → commits (beginning_of event t) ≡ None
commits_beginning (Begin session mode) t = refl
commits_beginning event t = refl

-- an event that is not durable commits nothing
pub only_durable_commits : (e : Entry) → is_durable e ≡ false → commits (effect_of e) ≡ None
only_durable_commits e passing = at e.answer passing
  where
    at : (said : Answer) → (is_lasting e.event && is_fine said) ≡ false
        → commits (effect_with e.event said) ≡ None
    at Fine passing = commits_lasting e.event passing
    at (Tx t) passing = commits_beginning e.event t.0
    at (Rows rows) passing = refl
    at (No refusal) passing = refl

-- so it leaves the database as it is
pub passing_keeps_database : (o : Opening) (h : Entries) (e : Entry) → is_durable e ≡ false
    → database o (e ∷ h) ≡ database o h
passing_keeps_database o h e passing =
    database_after_entry o h e
    ∙ ap (λ it. changes_of it (own o h) ++ database o h) (only_durable_commits e passing)

-- what outlasts a crash after all durable events is the database
pub durable_is_database : (o : Opening) (h : Entries)
    → durable_database o h (durable_count h) ≡ database o h
durable_is_database o [] = refl
durable_is_database o (e ∷ h) = at (is_durable e) refl (durable_is_database o h)
  where
    at : (b : Bool) → is_durable e ≡ b
        → database o (after_durable h (durable_count h)) ≡ database o h
        → database o (cond
        (b && nat_lt (durable_count h) (cond b (durable_count h + 1) (durable_count h)))
        (e ∷ h) (after_durable h (cond b (durable_count h + 1) (durable_count h))))
        ≡ database o (e ∷ h)
    at true lasts before =
        let below : durable_count h < durable_count h + 1 = omega arith in
        let is_below : nat_lt (durable_count h) (durable_count h + 1) ≡ true =
        lt-ltb (durable_count h) (durable_count h + 1) below in
        rw is_below refl
    at false passes before = before ∙ sym (passing_keeps_database o h e passes)
