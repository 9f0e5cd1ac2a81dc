-- A statement is taken out, and goes on.
use Rattle.std.proofs.Common.{◌≡◌, ◌<◌, ◌==◌, ◌&&◌, arith, ℕ, Bool, true, false, List, [], ◌∷◌, ◌++◌, length, Option, get_or, sym, ap, ◌∙◌, subst, refl}
use Rattle.std.specs.List.{remove}
use Rattle.std.specs.Option.{is_none}
use Rattle.std.proofs.lemmas.Bool.{eqb-true}
use Rattle.std.proofs.lemmas.List.{get_or_default}
use Rattle.mg_base.specs.declared.numbers.TxNo.{TxNo}
use Rattle.mg_model.specs.declared.opening.Opening.{Opening}
use Rattle.mg_model.specs.History.{Entries}
use Rattle.mg_records.specs.Meaning.{Means}
use Rattle.mg_script.specs.declared.line.Session.{Session}
use Rattle.mg_script.specs.declared.reply.Reply.{Reply}
use Rattle.mg_transcript.specs.Courses.{Comes}
use Rattle.mg_transcript.specs.Sessions.{Unfinished}
use Rattle.mg_courses.specs.Running.{RunMeans}
use Rattle.mg_courses.specs.Working.{IsWorkAt}
use Rattle.mg_pending.specs.declared.pending.Pending.{Pending}
use Rattle.mg_pending.specs.declared.transactions.Transaction.{Transaction}
use Rattle.mg_pending.specs.AgreeLaws.{SplitAt, removed_apart, removed_alone, at_can, removed_can}
use Rattle.mg_pending.specs.Standing.{StandAt, AreReady, CanGoOn}
use Rattle.mg_pending.specs.Statements.{has_statement, is_held_by, IsFirstAt}
use Rattle.mg_sessions.specs.Coming.{ComesTo, IsKept}

module _ {R P Run : Type 0} (m : Means R P) (runs : RunMeans R Run) (r : R)
    (all : List (Option Transaction)) (ps : List (Pending Run)) (place : ℕ) (p : Pending Run)
    (inside : place < length ps) (is : p ≡ get_or ps place p) (ready : AreReady m runs r all ps) where
  pub left_ready : AreReady m runs r all (remove ps place)
  left_ready = record {
    places = ready.places;
    free = ready.free;
    works = ready.works;
    ready = removed_can m runs r all ps place inside ready.ready;
    apart = removed_apart ps place inside ready.apart;
  }

  pub left_idle : has_statement p.session.0 (remove ps place) ≡ false
  left_idle = subst (λ (q : Pending Run). has_statement q.session.0 (remove ps place) ≡ false) (sym is)
      (removed_alone ps place p inside ready.apart)

  pub taken_can : CanGoOn m runs r all p
  taken_can = subst (λ (q : Pending Run). CanGoOn m runs r all q) (sym is)
      (at_can m runs r all ps place p inside ready.ready)

  module _ (o : Opening) (h : Entries) (us : List Unfinished) (d : Pending Run)
      (stand : StandAt m runs r o h all ps us) (s : SplitAt runs r o h ps place d us) where
    pub left_stand : StandAt m runs r o h all (remove ps place) (s.before ++ s.behind)
    left_stand = record {
      stands = stand.stands;
      legal = stand.legal;
      its = stand.its;
      modes = stand.modes;
      active = stand.active;
      agree = s.rest;
    }

    pub taken_is : get_or ps place d ≡ p
    taken_is = get_or_default ps place d p inside ∙ sym is

    pub taken_at : IsWorkAt runs r o h p.transaction p.work s.one.course
    taken_at = subst (λ (q : Pending Run). IsWorkAt runs r o h q.transaction q.work s.one.course) taken_is
        s.of.at_course

    pub taken_session : p.session ≡ s.one.session
    taken_session = ap (λ (q : Pending Run). q.session) (sym taken_is) ∙ s.of.session

    pub taken_transaction : p.transaction ≡ s.one.transaction
    taken_transaction = ap (λ (q : Pending Run). q.transaction) (sym taken_is) ∙ s.of.transaction

-- the same by equations
pub stand_as : {R P Run : Type 0} (m : Means R P) (runs : RunMeans R Run) (r : R) (o : Opening)
    (h : Entries) (all all' : List (Option Transaction)) (ps ps' : List (Pending Run))
    (us : List Unfinished) → all' ≡ all → ps' ≡ ps → StandAt m runs r o h all ps us
    → StandAt m runs r o h all' ps' us
stand_as m runs r o h all all' ps ps' us same_all same_ps stand = rw (same_all, same_ps) stand

pub kept_for : {R P Run : Type 0} (m : Means R P) (runs : RunMeans R Run) (old new : R) (o : Opening)
    (h : Entries) (all : List (Option Transaction)) (ps : List (Pending Run)) (us : List Unfinished)
    (session session' : Session) (t t' : TxNo) (By : TxNo → Entries → Comes → Type 0) (reply : Reply)
    → session ≡ session' → t ≡ t'
    → ComesTo m runs old new o h all ps (IsKept session t us (By t) reply)
    → ComesTo m runs old new o h all ps (IsKept session' t' us (By t') reply)
kept_for m runs old new o h all ps us session session' t t' By reply same_session same_t comes =
    subst (λ (x : Session). ComesTo m runs old new o h all ps (IsKept x t' us (By t') reply)) same_session
    (subst (λ (x : TxNo). ComesTo m runs old new o h all ps (IsKept session x us (By x) reply)) same_t comes)

pub some_one : {Run : Type 0} (ps : List (Pending Run)) (place : ℕ) → place < length ps → Pending Run
some_one [] place inside = absurd (omega (arith, inside))
some_one (p ∷ ps) place inside = p

both : (a b : Bool) → (a && b) ≡ true → a ≡ true
both true b is = refl
both false b is = absurd cc

-- what a session holds is its own
pub held_session : {Run : Type 0} (ps : List (Pending Run)) (place : ℕ) (p : Pending Run) (session : Session)
    → p ≡ get_or ps place p → IsFirstAt (is_held_by session.0) ps place → p.session.0 ≡ session.0
held_session {Run = Run} ps place p session is first =
    let passes : is_held_by session.0 p ≡ true =
    subst (λ (q : Pending Run). is_held_by session.0 q ≡ true) (sym is) (first.passes p) in
    eqb-true p.session.0 session.0 (both (p.session.0 == session.0) (is_none p.waits_on) passes)
