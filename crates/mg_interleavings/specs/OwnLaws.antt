-- A statement that has begun is of the transaction that its session began last.
use Rattle.std.proofs.Common.{◌≡◌, ◌==◌, ◌&&◌, ◌∙◌, ℕ, Bool, true, false, List, [], ◌∷◌, ◌++◌, Option, Some, None, cond, if◌then◌else◌, refl, sym, ap, subst}
use Rattle.mg_base.specs.declared.numbers.TxNo.{TxNo}
use Rattle.mg_model.specs.declared.answer.Answer.{Answer}
use Rattle.mg_model.specs.declared.answer.Answer.TheVariants as answers
use Rattle.mg_model.specs.declared.event.Event.TheVariants as events
use Rattle.mg_model.specs.declared.event.Mode.{Mode}
use Rattle.mg_model.specs.declared.opening.Opening.{Opening}
use Rattle.mg_model.specs.Answers.{is_active}
use Rattle.mg_model.specs.History.{Entries, entry}
use Rattle.mg_model.specs.Machine.{state_of}
use Rattle.mg_records.specs.TakingBack.{is_given_up}
use Rattle.mg_script.specs.declared.line.Session.{Session}
use Rattle.mg_transcript.specs.Courses.{Comes, Later, Parks, Ends}
use Rattle.mg_transcript.specs.Growing.{GrowsBy, as_it_was, by_one, grown_then, last_begun_grown}
use Rattle.mg_transcript.specs.OwnEventLaws.{starts_own, takes_own}
use Rattle.mg_transcript.specs.Sessions.{StandsAmong, Unfinished, begun_after, is_busy, is_of_session, last_begun, unfinished, while_active}
use Rattle.mg_transcript.specs.Steps.{Steps, step_more}
use Rattle.mg_interleavings.specs.declared.answered.Answered.{Answered}
use Rattle.mg_interleavings.specs.HistoryLaws.{one_of}
use Rattle.mg_interleavings.specs.Interleavings.{Interleaves, TimesOut, begins, begins_one, declines, given_up, goes_on, passes, starts, steps, taken_back, times_out, tries_again}
use Rattle.mg_interleavings.specs.KeepingLaws.{apart_turned, neither}
use Rattle.mg_interleavings.specs.Standings.{Scripts, Standing, came_to}

-- each of these statements is of the transaction that its session began last
pub data AreOwn (h : Entries) : List Unfinished → Type 0 where
  none_own : AreOwn h []
  one_own : (u : Unfinished) (us : List Unfinished) → last_begun h u.session.0 ≡ Some u.transaction → AreOwn h us
      → AreOwn h (u ∷ us)

-- the history goes on by the events of one transaction
own_grown : {t : TxNo} {h after : Entries} (us : List Unfinished) → GrowsBy t h after → AreOwn h us → AreOwn after us
own_grown [] grows none_own = none_own
own_grown (u ∷ us) grows (one_own _ _ its rest) =
    one_own u us (last_begun_grown u.session.0 grows ∙ its) (own_grown us grows rest)

-- another session begins a transaction, or is refused to
begun_other : (session s : ℕ) (mode : Mode) (answer : Answer) (before : Option TxNo) → (session == s) ≡ false
    → begun_after (events.Begin session mode) answer s before ≡ before
begun_other session s mode answers.Fine before apart = refl
begun_other session s mode (answers.Tx t) before apart = ap (λ (b : Bool). if b then Some t else before) apart
begun_other session s mode (answers.Rows rows) before apart = refl
begun_other session s mode (answers.No refusal) before apart = refl

own_begun : (h : Entries) (us : List Unfinished) (session : Session) (mode : Mode) (answer : Answer)
    → is_busy session us ≡ false → AreOwn h us → AreOwn (entry (events.Begin session.0 mode) answer ∷ h) us
own_begun h [] session mode answer free none_own = none_own
own_begun h (v ∷ us) session mode answer free (one_own _ _ its rest) =
    let parts = neither (is_of_session session v) (is_busy session us) free in
    one_own v us
    (begun_other session.0 v.session.0 mode answer (last_begun h v.session.0)
    (apart_turned v.session.0 session.0 parts.0) ∙ its)
    (own_begun h us session mode answer parts.1 rest)

own_append : (h : Entries) (us : List Unfinished) (u : Unfinished) → last_begun h u.session.0 ≡ Some u.transaction
    → AreOwn h us → AreOwn h (us ++ u ∷ [])
own_append h [] u its none_own = one_own u [] its none_own
own_append h (v ∷ us) u its (one_own _ _ first rest) = one_own v (us ++ u ∷ []) first (own_append h us u its rest)

-- one of them, and the others
pub record IsOwnAmong (h : Entries) (u : Unfinished) (others : List Unfinished) : Type 0 where
  pub its : last_begun h u.session.0 ≡ Some u.transaction
  pub rest : AreOwn h others

own_taken : (h : Entries) (before : List Unfinished) (u : Unfinished) (behind : List Unfinished)
    → AreOwn h (before ++ u ∷ behind) → IsOwnAmong h u (before ++ behind)
own_taken h [] u behind (one_own _ _ its rest) = record { its = its; rest = rest }
own_taken h (v ∷ before) u behind (one_own _ _ first rest) =
    let more = own_taken h before u behind rest in
    record { its = more.its; rest = one_own v (before ++ behind) first more.rest }

own_among : (h : Entries) (pending : List Unfinished) (u : Unfinished) (others : List Unfinished)
    → StandsAmong pending u others → AreOwn h pending → IsOwnAmong h u others
own_among h pending u others among own =
    subst (λ (us : List Unfinished). IsOwnAmong h u us) (sym among.left)
    (own_taken h among.before u among.behind (subst (λ (us : List Unfinished). AreOwn h us) among.are own))

-- a statement goes on later, or is at its end
own_come : (standing : Standing) (h : Entries) (others : List Unfinished) (session : Session) (t : TxNo) (comes : Comes)
    → last_begun h session.0 ≡ Some t → AreOwn h others → AreOwn h (came_to standing others session t comes).pending
own_come standing h others session t (Later course) its own = own_append h others (unfinished session t course None) its own
own_come standing h others session t (Parks on course) its own =
    own_append h others (unfinished session t course (Some on)) its own
own_come standing h others session t (Ends reply) its own = own

-- a step of it
own_step : (standing : Standing) {o : Opening} {h after : Entries} (u : Unfinished) (others : List Unfinished)
    (comes : Comes) → Steps o h u.transaction u.course after comes → IsOwnAmong h u others
    → AreOwn after (came_to standing others u.session u.transaction comes).pending
own_step standing {after = after} u others comes step own =
    let grows = takes_own (step_more step (one_of comes)) in
    own_come standing after others u.session u.transaction comes (last_begun_grown u.session.0 grows ∙ own.its)
    (own_grown others grows own.rest)

out_own : {o : Opening} {h after : Entries} {t on : TxNo} {answer : Answered} → TimesOut o h t on after answer
    → GrowsBy t h after
out_own {t = t} (taken_back lawful) = by_one (entry (events.UndoMark t) answers.Fine) refl as_it_was
out_own {o = o} {h = h} {t = t} (given_up later lawful) = at (is_given_up later && is_active (state_of o h t.0))
  where
    at : (b : Bool) → GrowsBy t h (cond b
        (entry (events.Rollback t) answers.Fine ∷ entry (events.UndoMark t) (answers.No later) ∷ h)
        (entry (events.UndoMark t) (answers.No later) ∷ h))
    at true = by_one (entry (events.Rollback t) answers.Fine) refl
        (by_one (entry (events.UndoMark t) (answers.No later)) refl as_it_was)
    at false = by_one (entry (events.UndoMark t) (answers.No later)) refl as_it_was

-- the transaction of a session is the one that it began last
begun_of : (o : Opening) (h : Entries) (who : Option TxNo) (t : TxNo) → while_active o h who ≡ Some t → who ≡ Some t
begun_of o h None t is = absurd cc
begun_of o h (Some u) t is = at (is_active (state_of o h u.0)) is
  where
    at : (b : Bool) → (if b then Some u else None) ≡ Some t → Some u ≡ Some t
    at true is = is
    at false is = absurd cc

pub interleaved_own : {o : Opening} {size : ℕ} {scripts : Scripts} {standing : Standing} {h : Entries}
    → Interleaves o size scripts standing h → AreOwn h standing.pending
interleaved_own begins = none_own
interleaved_own (passes standing h session all flows at free) = interleaved_own all
interleaved_own (declines standing h session text fault all flows at free why) = interleaved_own all
interleaved_own (begins_one standing h session text read_only wait snapshot answer all flows at free parses none lawful) =
    own_begun h standing.pending session _ answer free (interleaved_own all)
interleaved_own {o = o} (starts standing h after session text t s comes all flows at its start) =
    let grows = starts_own start in
    own_come standing after standing.pending session t comes
    (last_begun_grown session.0 grows ∙ begun_of o h (last_begun h session.0) t its.its)
    (own_grown standing.pending grows (interleaved_own all))
interleaved_own (steps standing h after u others comes all flows among free step) =
    own_step standing u others comes step (own_among h standing.pending u others among (interleaved_own all))
interleaved_own (goes_on standing h after u others comes all flows among over step) =
    own_step standing u others comes step (own_among h standing.pending u others among (interleaved_own all))
interleaved_own (tries_again standing h after u others on comes all flows among waits live step other) =
    own_step standing u others comes step (own_among h standing.pending u others among (interleaved_own all))
interleaved_own (times_out standing h mid after u others on comes answer all flows among waits live step same out) =
    let own = own_among h standing.pending u others among (interleaved_own all) in
    own_grown others (grown_then (takes_own (step_more step (one_of comes))) (out_own out)) own.rest

-- the statements that have begun are so
abbrev pub BegunAreOwn : Type 0
BegunAreOwn = (o : Opening) (size : ℕ) (scripts : Scripts) (standing : Standing) (h : Entries)
    → Interleaves o size scripts standing h → AreOwn h standing.pending
