-- A statement whose waiting is over goes on.
use Rattle.std.proofs.Common.{◌≡◌, ◌≢◌, inl, inr, ◌<◌, arith, ℕ, zero, suc, Bool, true, false, not, List, [], ◌∷◌, ◌++◌, length, get_or, Option, None, Some, refl, sym, ap, ◌∙◌, subst}
use Rattle.std.specs.Prelude.{All, if◌then◌else◌}
use Rattle.std.specs.List.{remove}
use Rattle.std.proofs.lemmas.Bool.{false≢true}
use Rattle.mg_base.specs.declared.numbers.TxNo.{TxNo}
use Rattle.mg_model.specs.declared.opening.Opening.{Opening}
use Rattle.mg_model.specs.declared.refusal.Refusal.{Refusal}
use Rattle.mg_model.specs.Answers.{is_active}
use Rattle.mg_model.specs.History.{Entries}
use Rattle.mg_model.specs.Machine.{state_of}
use Rattle.mg_records.specs.Meaning.{Means}
use Rattle.mg_rows.specs.declared.statement_fault.StatementFault.TheVariants.{Engine}
use Rattle.mg_script.specs.declared.line.Session.{Session}
use Rattle.mg_script.specs.declared.reply.Reply.{Reply}
use Rattle.mg_script.specs.declared.reply.Reply.TheVariants as replies
use Rattle.mg_transcript.specs.declared.turn.Flow.{Flow}
use Rattle.mg_transcript.specs.declared.turn.Flow.TheVariants.{GoesOn, Stops}
use Rattle.mg_transcript.specs.declared.turn.Spoken.{Spoken}
use Rattle.mg_transcript.specs.Courses.{Comes, Ends, Later, Parks, reply_of}
use Rattle.mg_transcript.specs.Lines.{Acts, last_reply, speaks, stops}
use Rattle.mg_transcript.specs.Lines as line
use Rattle.mg_transcript.specs.Sessions.{Unfinished, kept, unfinished}
use Rattle.mg_transcript.specs.Shorthand.{stops_run}
use Rattle.mg_transcript.specs.Steps.{Runs}
use Rattle.mg_transcript.specs.Transcript.{flow}
use Rattle.mg_courses.specs.Running.{RunMeans, refusal_answered}
use Rattle.mg_courses.specs.StopLaws.{flow_goes, goes_on_behind}
use Rattle.mg_pending.specs.declared.pending.Pending.{Pending}
use Rattle.mg_pending.specs.declared.transactions.Transaction.{Transaction}
use Rattle.mg_pending.specs.AgreeLaws.{SplitAt, first_is, split_at}
use Rattle.mg_pending.specs.Standing.{Agree, IsOf, StandAt}
use Rattle.mg_pending.specs.Statements.{IsFirstAt, is_over, is_released}
use Rattle.mg_sessions.specs.AccountLaws.{account_then}
use Rattle.mg_sessions.specs.Accounts.{Accounts}
use Rattle.mg_sessions.specs.Coming.{ComesTo, IsKept}
use Rattle.mg_sessions.specs.Moves.{Moves, WaitsAgain}
use Rattle.mg_turns.specs.declared.turn.TurnEnd.{TurnEnd}
use Rattle.mg_turns.specs.Turns.{AccountsOn, EndsAs, LetsGo, StopsSo, end_behind, turns_left}
use Rattle.mg_turns.proofs.CountLemmas.{again_nearer, ended_nearer, length_behind, length_without}
use Rattle.mg_turns.proofs.ParkLemmas.{WaitsOnActive, runs_wait}

-- ---- answers

pub last_is : (reply : Reply) (before : List Spoken) (spoken : Spoken)
    → last_reply reply (before ++ spoken ∷ []) ≡ spoken.reply
last_is reply [] spoken = refl
last_is reply (x ∷ before) spoken = last_is x.reply before spoken

flow_stops : (reply : Reply) (refusal : Refusal) → flow reply ≡ Stops refusal → stops reply ≡ true
flow_stops (replies.No (Engine given)) refusal is = at (stops_run given) refl is
  where
    at : (b : Bool) → stops_run given ≡ b → (if b then Stops given else GoesOn) ≡ Stops refusal
        → stops_run given ≡ true
    at true same is_ = same
    at false same is_ = absurd cc
flow_stops reply refusal is = absurd cc

pub stops_is : (reply : Reply) (refusal : Refusal) → flow reply ≡ Stops refusal → stops reply ≡ true
stops_is reply refusal is = flow_stops reply refusal is

pub goes_is : (reply : Reply) → flow reply ≡ GoesOn → stops reply ≡ false
goes_is reply is = flow_goes reply is

spoken_as : (x : Spoken) (session : Session) (reply : Reply) → x.session ≡ session → x.reply ≡ reply
    → x ≡ record { session = session; reply = reply }
spoken_as x session reply first second =
    ap (λ (s : Session). record x { session = s; reply = x.reply }) first
    ∙ ap (λ (r : Reply). record x { session = session; reply = r }) second

pub all_behind : {A : Type 0} (P : A → Type 0) (xs : List A) (x : A) → All P xs → P x → All P (xs ++ x ∷ [])
all_behind P [] x all its zero d below = its
all_behind P [] x all its (suc k) d below = absurd (omega (arith, below))
all_behind P (y ∷ ys) x all its zero d below = all zero d (omega arith)
all_behind P (y ∷ ys) x all its (suc k) d below =
    all_behind P ys x (λ j e less. all (suc j) e (omega (arith, less))) its k d (omega (arith, below))

-- ---- lists that agree

module _ {R Run : Type 0} (runs : RunMeans R Run) (r : R) (o : Opening) (h : Entries) where
  same_length : (ps : List (Pending Run)) (us : List Unfinished) → Agree runs r o h ps us → length ps ≡ length us
  same_length [] [] agree = refl
  same_length [] (u ∷ us) agree = absurd agree
  same_length (p ∷ ps) [] agree = absurd agree
  same_length (p ∷ ps) (u ∷ us) agree = ap (λ (n : ℕ). suc n) (same_length ps us agree.1)

  none_of_more : (us : List Unfinished) (u : Unfinished) → Agree runs r o h [] (us ++ u ∷ []) → ⊥
  none_of_more [] u agree = agree
  none_of_more (v ∷ us) u agree = agree

  more_of_none : (ps : List (Pending Run)) (p : Pending Run) → Agree runs r o h (ps ++ p ∷ []) [] → ⊥
  more_of_none [] p agree = agree
  more_of_none (q ∷ ps) p agree = agree

  last_agrees : (ps : List (Pending Run)) (p : Pending Run) (us : List Unfinished) (u : Unfinished)
      → Agree runs r o h (ps ++ p ∷ []) (us ++ u ∷ []) → IsOf runs r o h p u
  last_agrees [] p [] u agree = agree.0
  last_agrees [] p (v ∷ us) u agree = absurd (none_of_more us u agree.1)
  last_agrees (q ∷ ps) p [] u agree = absurd (more_of_none ps p agree.1)
  last_agrees (q ∷ ps) p (v ∷ us) u agree = last_agrees ps p us u agree.1

-- ---- one goes on

some_one : {Run : Type 0} (ps : List (Pending Run)) (place : ℕ) → place < length ps → Pending Run
some_one [] place inside = absurd (omega (arith, inside))
some_one (p ∷ ps) place inside = p

module _ {R P Run : Type 0} (m : Means R P) (runs : RunMeans R Run) (old new : R)
    (all all' : List (Option Transaction)) (ps ps' : List (Pending Run)) (place : ℕ)
    (first : IsFirstAt (is_released all) ps place) (moves : Moves all all' (remove ps place) ps')
    (vain : Bool)
    (vain_is : (others : List (Pending Run)) (again : Pending Run) → ps' ≡ others ++ again ∷ []
    → length ps' ≡ length ps → vain ≡ is_released all' again)
    (fewer : length ps' ≢ length ps → vain ≡ false) where
  as_many : (again : WaitsAgain all all' (remove ps place) ps') → length ps' ≡ length ps
  as_many again = ap (λ (xs : List (Pending Run)). length xs) again.last
      ∙ (length_behind (remove ps place) again.again ∙ sym (length_without ps place first.inside))

  pub nearer : vain ≡ false → turns_left all' ps' < turns_left all ps
  nearer not_ = at moves
    where
      at : Moves all all' (remove ps place) ps' → turns_left all' ps' < turns_left all ps
      at (inl gone) = ended_nearer all all' ps ps' place first.inside gone
      at (inr again) =
          let d : Pending Run = some_one ps place first.inside in
          let still : is_released all' again.again ≡ false =
          sym (vain_is (remove ps place) again.again again.last (as_many again)) ∙ not_ in
          subst (λ (a : List (Option Transaction)). turns_left a ps' < turns_left all ps) (sym again.same)
          (subst (λ (xs : List (Pending Run)). turns_left all xs < turns_left all ps) (sym again.last)
          (again_nearer all ps place again.again d first.inside (first.passes d)
          (subst (λ (a : List (Option Transaction)). is_released a again.again ≡ false) again.same still)))

  -- where the keeper stands for a history, it does not wait in vain
  module _ (o : Opening) (h after : Entries) (others then_ : List Unfinished) (session : Session) (t : TxNo)
      (u : Unfinished) (comes : Comes) (left : Agree runs old o h (remove ps place) others)
      (stand : StandAt m runs new o after all' ps' then_)
      (went : Runs o u.transaction h (Later u.course) after comes)
      (kept_so : then_ ≡ kept session t comes others) where
    agrees : (again : WaitsAgain all all' (remove ps place) ps') → (c : Comes) → comes ≡ c
        → Agree runs new o after (remove ps place ++ again.again ∷ []) (kept session t c others)
    agrees again c is = subst (λ (us : List Unfinished). Agree runs new o after
        (remove ps place ++ again.again ∷ []) us) (kept_so ∙ ap (λ (x : Comes). kept session t x others) is)
        (subst (λ (xs : List (Pending Run)). Agree runs new o after xs then_) again.last stand.agree)

    waits_for_live : (again : WaitsAgain all all' (remove ps place) ps') → (c : Comes) → comes ≡ c
        → is_released all' again.again ≡ false
    waits_for_live again (Later course) is =
        let it = last_agrees runs new o after (remove ps place) again.again others (unfinished session t course None)
        (agrees again (Later course) is) in
        let both : Some again.on ≡ None = sym again.waits ∙ it.waits_on in absurd cc
    waits_for_live again (Ends reply) is =
        let now = same_length runs new o after (remove ps place ++ again.again ∷ []) others
        (agrees again (Ends reply) is) in
        let was = same_length runs old o h (remove ps place) others left in
        let more = length_behind (remove ps place) again.again in
        absurd (omega (arith, now, was, more))
    waits_for_live again (Parks on course) is =
        let it = last_agrees runs new o after (remove ps place) again.again others
        (unfinished session t course (Some on)) (agrees again (Parks on course) is) in
        let active : is_active (state_of o after on.0) ≡ true =
        subst (WaitsOnActive o after) is (runs_wait went tt) in
        ap (is_over all') it.waits_on ∙ ap not (sym (stand.active on.0) ∙ active)

    pub never_vain : vain ≡ true → ⊥
    never_vain is = at moves
      where
        at : Moves all all' (remove ps place) ps' → ⊥
        at (inl gone) = false≢true (sym (fewer (λ same.
            let less = length_without ps place first.inside in
            let now : length ps' ≡ length (remove ps place) =
            ap (λ (xs : List (Pending Run)). length xs) gone in
            omega (arith, less, now, same))) ∙ is)
        at (inr again) = false≢true (sym (waits_for_live again comes refl)
            ∙ (sym (vain_is (remove ps place) again.again again.last (as_many again)) ∙ is))

  -- ---- what comes of it

  module _ (spoken : Spoken)
      (does : (o : Opening) (h : Entries) (us : List Unfinished) (d : Pending Run)
      → StandAt m runs old o h all ps us → (s : SplitAt runs old o h ps place d us)
      → ComesTo m runs old new o h all' ps' (IsKept s.one.session s.one.transaction (s.before ++ s.behind)
      (Runs o s.one.transaction h (Later s.one.course)) spoken.reply))
      (session : (d : Pending Run) → spoken.session ≡ (get_or ps place d).session) where
    pub speaks_on : (before : List Spoken)
        → LetsGo m runs old new all ps all' ps' before (before ++ spoken ∷ []) (end_behind (flow spoken.reply) vain)
    speaks_on before o h us stand first_h size pending kind reply acts flows = record {
      after = came.after;
      then_ = came.then_;
      does = record { acts = now_acts; ends = ends (flow spoken.reply) refl vain refl };
      stand = came.stand;
      carries = came.carries;
    }
      where
        d : Pending Run
        d = some_one ps place first.inside

        s : SplitAt runs old o h ps place (some_one ps place first.inside) us
        s = split_at runs old o h ps place (some_one ps place first.inside) us first.inside stand.agree

        came : ComesTo m runs old new o h all' ps' (IsKept s.one.session s.one.transaction (s.before ++ s.behind)
            (Runs o s.one.transaction h (Later s.one.course)) spoken.reply)
        came = does o h us (some_one ps place first.inside) stand s

        speaks_so : spoken ≡ speaks s.one.session (reply_of came.does.comes)
        speaks_so = spoken_as spoken s.one.session (reply_of came.does.comes)
            (session (some_one ps place first.inside) ∙ s.of.session) came.does.answered

        now_acts : Acts o first_h size pending kind reply (before ++ spoken ∷ []) came.after came.then_
        now_acts = subst (λ (x : Spoken). Acts o first_h size pending kind reply (before ++ x ∷ []) came.after
            came.then_) (sym speaks_so)
            (subst (λ (vs : List Unfinished). Acts o first_h size pending kind reply
            (before ++ speaks s.one.session (reply_of came.does.comes) ∷ []) came.after vs) (sym came.does.kept_so)
            (line.released reply before h came.after us s.one (s.before ++ s.behind) came.does.comes acts flows
            (first_is m runs old o h all ps us place (some_one ps place first.inside) stand first s)
            came.does.by_it))

        ends : (f : Flow) → flow spoken.reply ≡ f → (v : Bool) → vain ≡ v
            → EndsAs o (end_behind f v) reply (before ++ spoken ∷ []) came.after came.then_
        ends (Stops refusal) is v vain_so = ap stops (last_is reply before spoken)
            ∙ flow_stops spoken.reply refusal is
        ends GoesOn is false vain_so = ap stops (last_is reply before spoken) ∙ flow_goes spoken.reply is
        ends GoesOn is true vain_so = never_vain o h came.after (s.before ++ s.behind) came.then_ s.one.session
            s.one.transaction s.one came.does.comes s.rest came.stand came.does.by_it came.does.kept_so vain_so

-- what ends no turn
pub goes_on_none : (f : Flow) (vain : Bool) → end_behind f vain ≡ None → vain ≡ false
goes_on_none (Stops refusal) vain is = absurd cc
goes_on_none GoesOn true is = absurd cc
goes_on_none GoesOn false is = refl

-- what does not end a turn by the answer is no answer by which a run stops
stops_by_flow : (reply : Reply) (f : Flow) (vain : Bool) → flow reply ≡ f → StopsSo reply (end_behind f vain)
stops_by_flow reply (Stops refusal) vain is = tt
stops_by_flow reply GoesOn true is = flow_goes reply is
stops_by_flow reply GoesOn false is = flow_goes reply is

pub accounts_on : {R P : Type 0} (m : Means R P) (old new : R) (before : List Spoken) (spoken : Spoken) (f : Flow)
    (vain : Bool) → flow spoken.reply ≡ f → Accounts m old new (refusal_answered spoken.reply)
    → AccountsOn m old new before (before ++ spoken ∷ []) (end_behind f vain)
accounts_on m old new before spoken f vain is accounts start reply goes first =
    subst (λ (x : Reply). Accounts m start new (refusal_answered x) × StopsSo x (end_behind f vain))
    (sym (last_is reply before spoken)) (
      account_then m start old new (refusal_answered (last_reply reply before)) (refusal_answered spoken.reply)
          (goes_on_behind (last_reply reply before) goes) first accounts,
      stops_by_flow spoken.reply f vain is,
    )

-- the same by equations
pub accounts_as : {R P : Type 0} (m : Means R P) (old new : R) (before released given : List Spoken)
    (end end' : Option TurnEnd) → given ≡ released → end' ≡ end → AccountsOn m old new before released end
    → AccountsOn m old new before given end'
accounts_as m old new before released given end end' same_given same_end accounts =
    subst (λ (x : List Spoken). AccountsOn m old new before x end') (sym same_given)
    (subst (λ (x : Option TurnEnd). AccountsOn m old new before released x) (sym same_end) accounts)

-- no statement went on
pub accounts_none : {R P : Type 0} (m : Means R P) (r : R) (before given : List Spoken) → given ≡ before
    → AccountsOn m r r before given None
accounts_none m r before given same =
    subst (λ (x : List Spoken). AccountsOn m r r before x None) (sym same) (λ start reply goes first. (first, goes))

-- nothing is left, or there is no room for an answer
pub accounts_end : {R P : Type 0} (m : Means R P) (old new : R) (before released : List Spoken) (end : TurnEnd)
    → ((last : Reply) → stops last ≡ false → StopsSo last (Some end)) → AccountsOn m old new before released None
    → AccountsOn m old new before released (Some end)
accounts_end m old new before released end turn accounts start reply goes first =
    let both = accounts start reply goes first in (both.0, turn (last_reply reply released) both.1)

-- the same by equations
pub lets_as : {R P Run : Type 0} (m : Means R P) (runs : RunMeans R Run) (old new : R)
    (all all' : List (Option Transaction)) (ps ps' : List (Pending Run)) (before released given : List Spoken)
    (end end' : Option TurnEnd) → given ≡ released → end' ≡ end
    → LetsGo m runs old new all ps all' ps' before released end
    → LetsGo m runs old new all ps all' ps' before given end'
lets_as m runs old new all all' ps ps' before released given end end' same_given same_end lets =
    subst (λ (x : List Spoken). LetsGo m runs old new all ps all' ps' before x end') (sym same_given)
    (subst (λ (x : Option TurnEnd). LetsGo m runs old new all ps all' ps' before released x) (sym same_end) lets)

-- what was answered before, by an equation
pub lets_from : {R P Run : Type 0} (m : Means R P) (runs : RunMeans R Run) (old new : R)
    (all all' : List (Option Transaction)) (ps ps' : List (Pending Run)) (before given released : List Spoken)
    (end : Option TurnEnd) → given ≡ before → LetsGo m runs old new all ps all' ps' given released end
    → LetsGo m runs old new all ps all' ps' before released end
lets_from m runs old new all all' ps ps' before given released end same lets =
    subst (λ (x : List Spoken). LetsGo m runs old new all ps all' ps' x released end) same lets

-- and what is answered afterwards
pub lets_to : {R P Run : Type 0} (m : Means R P) (runs : RunMeans R Run) (old new : R)
    (all all' : List (Option Transaction)) (ps ps' : List (Pending Run)) (before released given : List Spoken)
    (end : Option TurnEnd) → given ≡ released → LetsGo m runs old new all ps all' ps' before released end
    → LetsGo m runs old new all ps all' ps' before given end
lets_to m runs old new all all' ps ps' before released given end same lets =
    subst (λ (x : List Spoken). LetsGo m runs old new all ps all' ps' before x end) (sym same) lets

pub accounts_from : {R P : Type 0} (m : Means R P) (old new : R) (before given released : List Spoken)
    (end : Option TurnEnd) → given ≡ before → AccountsOn m old new given released end
    → AccountsOn m old new before released end
accounts_from m old new before given released end same accounts =
    subst (λ (x : List Spoken). AccountsOn m old new x released end) same accounts

pub accounts_then : {R P : Type 0} (m : Means R P) (old mid new : R) (before between released : List Spoken)
    (end : Option TurnEnd) → AccountsOn m old mid before between None → AccountsOn m mid new between released end
    → AccountsOn m old new before released end
accounts_then m old mid new before between released end one two start reply goes first =
    let both = one start reply goes first in two start reply both.1 both.0
