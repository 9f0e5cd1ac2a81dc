-- A step of a session, once it is noted on the board, is one that sessions make that obey their scripts at once.
use Rattle.std.proofs.Common.{◌≡◌, ◌==◌, ◌||◌, ◌<◌, ℕ, true, Bool, false, List, [], ◌∷◌, ◌++◌, Option, Some, None, length, refl, sym, ap, ◌∙◌, subst}
use Rattle.std.proofs.lemmas.Bool.{eq-eqb}
use Rattle.std.proofs.lemmas.List.Folds.{list_any-append}
use Rattle.std.proofs.lemmas.Option.{slice_get_within}
use Rattle.mg_base.specs.declared.numbers.TxNo.{TxNo}
use Rattle.mg_model.specs.declared.opening.Opening.{Opening}
use Rattle.mg_model.specs.Answers.{is_active}
use Rattle.mg_model.specs.History.{Entries}
use Rattle.mg_model.specs.Machine.{state_of}
use Rattle.mg_script.specs.declared.line.LineKind.TheVariants as kinds
use Rattle.mg_script.specs.declared.line.Session.{Session}
use Rattle.mg_script.specs.declared.reply.Reply.{Reply}
use Rattle.mg_transcript.specs.declared.turn.Flow.{Flow}
use Rattle.mg_transcript.specs.declared.turn.Flow.TheVariants.{GoesOn, Stops}
use Rattle.mg_transcript.specs.Courses.{Course, Comes, Later, Parks, Ends, reply_of}
use Rattle.mg_transcript.specs.Lines.{no_statement}
use Rattle.mg_transcript.specs.Sessions.{StandsAmong, Unfinished, is_busy, is_of_session, is_over, kept, unfinished}
use Rattle.mg_transcript.specs.Steps.{Steps}
use Rattle.mg_transcript.specs.Transcript.{flow}
use Rattle.mg_statements.specs.declared.fault.SqlFault.TheVariants as texts
use Rattle.mg_interleavings.specs.declared.answered.Answered.{Answered}
use Rattle.mg_interleavings.specs.declared.answered.Answered.TheVariants.{LockTimeout, Replied}
use Rattle.mg_interleavings.specs.AnswerLaws.{interleaved_keeps}
use Rattle.mg_interleavings.specs.Interleavings as rules
use Rattle.mg_interleavings.specs.Interleavings.{Interleaves, waits_for}
use Rattle.mg_interleavings.specs.KeepingLaws.{taken_among}
use Rattle.mg_interleavings.specs.Standings.{IsAt, Scripts, Standing, answered, came_to, place_of, script_of, stops_at, with_pending}
use Rattle.mg_courses.specs.StopLaws.{flow_goes}
use Rattle.mg_floor.specs.Answering.{stop_behind, stopped_by}
use Rattle.mg_floor.specs.TakingUp.{TakesUp, wants_memory, declines, begins_one, starts}
use Rattle.mg_floor.specs.Trying.{TriesOnce, takes_a_step, waits_again}

-- ---- how far the sessions have come behind a step

-- the statement of a session goes on later, or the session is answered
abbrev pub settled_by : Standing → Session → Answered → List Unfinished → Bool → Standing
settled_by standing session answer then_ true = with_pending standing then_
settled_by standing session answer then_ false = answered (with_pending standing then_) session answer

abbrev pub settled : Standing → Session → Answered → List Unfinished → Standing
settled standing session answer then_ = settled_by standing session answer then_ (is_busy session then_)

own_busy : (session : Session) → (session.0 == session.0) ≡ true
own_busy session = eq-eqb session.0 session.0 refl

-- one more of a session
one_busy : (session : Session) (t : TxNo) (others : List Unfinished) (course : Course) (on : Option TxNo)
    → is_busy session others ≡ false → is_busy session (others ++ unfinished session t course on ∷ []) ≡ true
one_busy session t others course on free =
    list_any-append (is_of_session session) others (unfinished session t course on ∷ [])
    ∙ ap (λ (b : Bool). b || ((session.0 == session.0) || false)) free
    ∙ ap (λ (b : Bool). b || false) (own_busy session)

-- what a statement came to, among others that are not of its session
pub came_settled : (standing : Standing) (others : List Unfinished) (session : Session) (t : TxNo) (comes : Comes)
    → is_busy session others ≡ false
    → came_to standing others session t comes ≡ settled standing session (Replied (reply_of comes)) (kept session t comes others)
came_settled standing others session t (Later course) free =
    sym (ap (settled_by standing session (Replied (reply_of (Later course))) (kept session t (Later course) others))
    (one_busy session t others course None free))
came_settled standing others session t (Parks on course) free =
    sym (ap (settled_by standing session (Replied (reply_of (Parks on course))) (kept session t (Parks on course) others))
    (one_busy session t others course (Some on) free))
came_settled standing others session t (Ends reply) free =
    sym (ap (settled_by standing session (Replied reply) others) free)

-- one that is answered, and has no statement begun
pub answered_settled : (standing : Standing) (session : Session) (answer : Answered) (others : List Unfinished)
    → is_busy session others ≡ false
    → answered (with_pending standing others) session answer ≡ settled standing session answer others
answered_settled standing session answer others free = sym (ap (settled_by standing session answer others) free)

-- ---- the run goes on

flows_by : (f : Flow) → stopped_by f ≡ None → f ≡ GoesOn
flows_by GoesOn is = refl
flows_by (Stops refusal) is = absurd cc

pub flows_behind : (answer : Answered) → stop_behind answer ≡ None → stops_at answer ≡ false
flows_behind (LockTimeout on) is = refl
flows_behind (Replied reply) is = flow_goes reply (flows_by (flow reply) is)

abbrev pub halted_by : Bool → Answered → Bool
halted_by true answer = false
halted_by false answer = stops_at answer

-- ---- steps

module _ (o : Opening) (size : ℕ) (scripts : Scripts) (standing : Standing) (h : Entries) (session : Session)
    (all : Interleaves o size scripts standing h) (flows : standing.stopped ≡ false) where
  -- a session takes up its line
  pub takes_up_settles : (text : List ℕ) → IsAt scripts standing session (kinds.Sql session text)
      → is_busy session standing.pending ≡ false → (reply : Reply) (after : Entries) (then_ : List Unfinished)
      → TakesUp o h size standing.pending session text reply after then_
      → Interleaves o size scripts (settled standing session (Replied reply) then_) after
  takes_up_settles text at free reply after then_ wants_memory =
      subst (λ (x : Standing). Interleaves o size scripts x h)
      (answered_settled standing session (Replied reply) standing.pending free)
      (rules.declines standing h session text _ all flows at free
      (no_statement texts.Memory free tt))
  takes_up_settles text at free reply after then_ (declines fault why) =
      subst (λ (x : Standing). Interleaves o size scripts x h)
      (answered_settled standing session (Replied reply) standing.pending free)
      (rules.declines standing h session text fault all flows at free why)
  takes_up_settles text at free reply after then_ (begins_one read_only wait snapshot answer idle parses none lawful) =
      subst (λ (x : Standing). Interleaves o size scripts x after)
      (answered_settled standing session (Replied reply) standing.pending free)
      (rules.begins_one standing h session text read_only wait snapshot answer all flows at free parses none lawful)
  takes_up_settles text at free reply after then_ (starts t s _ comes its start) =
      subst (λ (x : Standing). Interleaves o size scripts x after)
      (came_settled standing standing.pending session t comes free)
      (rules.starts standing h after session text t s comes all flows at its start)

  -- ---- a statement that has begun

  module _ (u : Unfinished) (others : List Unfinished) (among : StandsAmong standing.pending u others)
      (its : u.session ≡ session) where
    taken_free : is_busy session others ≡ false
    taken_free = subst (λ (x : Session). is_busy x others ≡ false) its
        (taken_among scripts standing.places standing.pending u others among (interleaved_keeps all).begun).free

    -- its session is at a line
    pub has_line : place_of standing session.0 < length (script_of scripts session.0)
    has_line = subst (λ (x : Session). place_of standing x.0 < length (script_of scripts x.0)) its
        (let says = (taken_among scripts standing.places standing.pending u others among (interleaved_keeps all).begun).says in
        slice_get_within (script_of scripts u.session.0) (place_of standing u.session.0) says.line says.next)

    came_so : (after : Entries) (comes : Comes)
        → Interleaves o size scripts (came_to standing others u.session u.transaction comes) after
        → Interleaves o size scripts
        (settled standing session (Replied (reply_of comes)) (kept u.session u.transaction comes others)) after
    came_so after comes flowing =
        subst (λ (x : Session). Interleaves o size scripts
        (settled standing x (Replied (reply_of comes)) (kept u.session u.transaction comes others)) after) its
        (subst (λ (x : Standing). Interleaves o size scripts x after)
        (came_settled standing others u.session u.transaction comes
        (subst (λ (x : Session). is_busy x others ≡ false) (sym its) taken_free)) flowing)

    -- it does not wait, and takes a step
    pub steps_settle : (after : Entries) (comes : Comes) → u.waits_on ≡ None
        → Steps o h u.transaction u.course after comes
        → Interleaves o size scripts
        (settled standing session (Replied (reply_of comes)) (kept u.session u.transaction comes others)) after
    steps_settle after comes waits step =
        came_so after comes (rules.steps standing h after u others comes all flows among waits step)

    -- its waiting is over
    pub goes_on_settle : (after : Entries) (comes : Comes) → is_over o h u.waits_on ≡ true
        → Steps o h u.transaction u.course after comes
        → Interleaves o size scripts
        (settled standing session (Replied (reply_of comes)) (kept u.session u.transaction comes others)) after
    goes_on_settle after comes over step =
        came_so after comes (rules.goes_on standing h after u others comes all flows among over step)

    -- it is tried once more
    pub tries_settle : (on : TxNo) → u.waits_on ≡ Some on → is_active (state_of o h on.0) ≡ true → (answer : Answered)
        (after : Entries) (then_ : List Unfinished) → TriesOnce o h u others on answer after then_
        → Interleaves o size scripts (settled standing session answer then_) after
    tries_settle on waits live answer after then_ (takes_a_step _ comes step other) =
        came_so after comes (rules.tries_again standing h after u others on comes all flows among waits live step other)
    tries_settle on waits live answer after then_ (waits_again mid _ comes _ step same out) =
        subst (λ (x : Standing). Interleaves o size scripts x after)
        (answered_settled standing session answer others taken_free)
        (subst (λ (x : Session). Interleaves o size scripts (answered (with_pending standing others) x answer) after) its
        (rules.times_out standing h mid after u others on comes answer all flows among waits live step same out))
