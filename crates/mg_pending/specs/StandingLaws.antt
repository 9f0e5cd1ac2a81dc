-- What a step of one session's transaction leaves of all that is remembered, and what it comes to.
use Rattle.std.specs.Prelude.{◌≡◌, ◌≢◌, ◌<◌, ◌==◌, ℕ, zero, suc, Bool, true, false, not, List, [], ◌∷◌, ◌++◌, length, set, Option, Some, None, refl, if◌then◌else◌}
use Rattle.std.proofs.Common.{sym, ap, ◌∙◌, subst, arith}
use Rattle.std.proofs.lemmas.Bool.{eqb-true, eq-eqb, ne_eqb}
use Rattle.std.proofs.lemmas.List.{length-set}
use Rattle.mg_base.specs.declared.numbers.TxNo.{TxNo}
use Rattle.mg_base.specs.declared.transaction.TxState.{TxState}
use Rattle.mg_base.specs.declared.transaction.TxState.TheVariants.{Active, Limbo, Dead, Committed}
use Rattle.mg_model.specs.declared.opening.Opening.{Opening}
use Rattle.mg_model.specs.declared.event.Mode.{Mode}
use Rattle.mg_model.specs.declared.refusal.Refusal.{Refusal}
use Rattle.mg_model.specs.declared.refusal.Refusal.TheVariants as refusals
use Rattle.mg_rows.specs.declared.statement_fault.StatementFault.TheVariants.{Engine}
use Rattle.mg_script.specs.declared.reply.Reply.TheVariants as replies
use Rattle.mg_model.specs.Answers.{is_active}
use Rattle.mg_model.specs.History.{Entries}
use Rattle.mg_model.specs.Legal.{IsLegal}
use Rattle.mg_model.specs.Machine.{state_of, mode_of, is_of}
use Rattle.mg_records.specs.Meaning.{Means}
use Rattle.mg_records.specs.Sessions.{SessionsAreOne, SessionsStay}
use Rattle.mg_script.specs.declared.line.Session.{Session}
use Rattle.mg_script.specs.declared.line.TheConstants.{SESSIONS}
use Rattle.mg_calls.specs.Frames.{Frames}
use Rattle.mg_transcript.specs.Courses.{Course, Comes, Later, Parks, Ends, reply_of}
use Rattle.mg_transcript.specs.Growing.{GrowsBy, last_begun_grown, state_grown, mode_stays}
use Rattle.mg_transcript.specs.Sessions.{Unfinished, unfinished, kept, last_begun, while_active, transaction_of}
use Rattle.mg_courses.specs.declared.statements.Stepped.{Stepped}
use Rattle.mg_courses.specs.declared.statements.Stepped.TheVariants.{More, Waits, Ended}
use Rattle.mg_courses.specs.declared.work.Work.{Work}
use Rattle.mg_courses.specs.BesideLaws.{WorksStayReady, WorksStayAt, beside}
use Rattle.mg_courses.specs.Running.{RunMeans, goes_on, over_in}
use Rattle.mg_courses.specs.Working.{IsWorkTold, IsWorkReadyIf}
use Rattle.mg_pending.specs.declared.pending.Pending.{Pending}
use Rattle.mg_pending.specs.declared.transactions.Transaction.{Transaction}
use Rattle.mg_pending.specs.declared.transactions.TheConstants.{PLACES}
use Rattle.mg_pending.specs.Transactions.{transaction_at, number_in, number_at, is_number, has_number}
use Rattle.mg_pending.specs.TransactionLaws.{IsApart, placed_same, placed_other, has_other, has_ended, place_has}
use Rattle.mg_pending.specs.Statements.{has_statement, is_its, transactions_after, pending_after, pending_of, reply_of_step}
use Rattle.mg_pending.specs.AgreeLaws.{either_true, agree_more, more_can, more_apart}
use Rattle.mg_pending.specs.Standing.{Agree, IsOf, StandAt, CanGoOn, AllCanGoOn, AreReady}

-- ---- sessions and their transactions

-- the transaction of a session that is known is active, and its last
active_is : (o : Opening) (h : Entries) (last : Option TxNo) (t : TxNo)
    → while_active o h last ≡ Some t → (last ≡ Some t) × (is_active (state_of o h t.0) ≡ true)
active_is o h None t is = absurd cc
active_is o h (Some u) t is = at (is_active (state_of o h u.0)) refl is
  where
    at : (b : Bool) → is_active (state_of o h u.0) ≡ b → (if b then Some u else None) ≡ Some t
        → (Some u ≡ Some t) × (is_active (state_of o h t.0) ≡ true)
    at true same is = (is, subst (λ (n : TxNo). is_active (state_of o h n.0) ≡ true) (cc is) same)
    at false same is = absurd cc

-- each live transaction has one place
pub places_apart : {R P Run : Type 0} (m : Means R P) (runs : RunMeans R Run) (r : R)
    (all : List (Option Transaction)) (ps : List (Pending Run)) → SessionsAreOne m
    → AreReady m runs r all ps → IsApart all
places_apart m runs r all ps one ready j k t u first second same =
    one r u.0 j k (subst (λ (n : ℕ). m.works r n j) same (ready.works j t first)) (ready.works k u second)

-- the transactions, where the one of a session may be over
abbrev pub ended_at : ℕ → Bool → List (Option Transaction) → List (Option Transaction)
ended_at s true all = set all s None
ended_at s false all = all

abbrev pub ends_if : ℕ → Bool → Option ℕ
ends_if t true = Some t
ends_if t false = None

pub ne_from : (a b : ℕ) → (a == b) ≡ false → a ≢ b
ne_from a b not same = absurd (cc (not, eq-eqb a b same))

inside_from : (all : List (Option Transaction)) (s : ℕ) (t : TxNo) → number_at all s ≡ Some t
    → s < length all
inside_from [] s t is = absurd cc
inside_from (x ∷ all) zero t is = omega arith
inside_from (x ∷ all) (suc k) t is = let below = inside_from all k t is in omega (arith, below)

-- ---- what stays

module _ {R P Run : Type 0} (m : Means R P) (runs : RunMeans R Run) (old new : R)
    (s : ℕ) (t : TxNo) (over : Bool) (all : List (Option Transaction)) (ps : List (Pending Run))
    (one : SessionsAreOne m) (ready : AreReady m runs old all ps) (its : number_at all s ≡ Some t) where
  alone : IsApart all
  alone = places_apart m runs old all ps one ready

  within : s < length all
  within = inside_from all s t its

  other_place : (k : ℕ) → k ≢ s → transaction_at (ended_at s over all) k ≡ transaction_at all k
  other_place k apart = at over
    where
      at : (b : Bool) → transaction_at (ended_at s b all) k ≡ transaction_at all k
      at true = placed_other all s k None apart
      at false = refl

  own_place : transaction_at (ended_at s over all) s ≡ (if over then None else transaction_at all s)
  own_place = at over
    where
      at : (b : Bool) → transaction_at (ended_at s b all) s ≡ (if b then None else transaction_at all s)
      at true = placed_same all s None within
      at false = refl

  distinct : (u : TxNo) (k : ℕ) → number_at all k ≡ Some u → k ≢ s → (t.0 == u.0) ≡ false
  distinct u k is apart = ne_eqb t.0 u.0 (λ same. apart (sym (alone s k t u its is same)))

  -- ---- the keeper

  keeper_free : SessionsStay m old new None (ends_if t.0 over) → (k : ℕ)
      → number_at (ended_at s over all) k ≡ None → m.is_free new k
  keeper_free stay k none = at (k == s) refl
    where
      here : (b : Bool) → over ≡ b → k ≡ s → m.is_free new k
      here true is same = stay.ended t.0 k (ap (λ (b : Bool). is_of t.0 (ends_if t.0 b)) is ∙ eq-eqb t.0 t.0 refl)
          (subst (λ (n : ℕ). m.works old t.0 n) (sym same) (ready.works s t its))
      here false is same = absurd (cc (
        subst (λ (b : Bool). number_at (ended_at s b all) k ≡ None) is none,
        ap (number_at all) same ∙ its,
      ))

      at : (b : Bool) → (k == s) ≡ b → m.is_free new k
      at true same = here over refl (eqb-true k s same)
      at false apart = stay.free k refl
          (ready.free k (ap number_in (sym (other_place k (ne_from k s apart))) ∙ none))

  not_ended : (u : TxNo) → (t.0 == u.0) ≡ false → is_of u.0 (ends_if t.0 over) ≡ false
  not_ended u apart = at over
    where
      at : (b : Bool) → is_of u.0 (ends_if t.0 b) ≡ false
      at true = apart
      at false = refl

  none_ended : (u : TxNo) → over ≡ false → is_of u.0 (ends_if t.0 over) ≡ false
  none_ended u is = ap (λ (b : Bool). is_of u.0 (ends_if t.0 b)) is

  keeper_works : SessionsStay m old new None (ends_if t.0 over) → (k : ℕ) (u : TxNo)
      → number_at (ended_at s over all) k ≡ Some u → m.works new u.0 k
  keeper_works stay k u is = at (k == s) refl
    where
      here : (b : Bool) → over ≡ b → k ≡ s → m.works new u.0 k
      here true over_is same = absurd (cc (
        ap number_in (own_place ∙ ap (λ (b : Bool). if b then None else transaction_at all s) over_is),
        ap (number_at (ended_at s over all)) (sym same) ∙ is,
      ))
      here false over_is same = stay.works u.0 k (none_ended u over_is)
          (ready.works k u (subst (λ (b : Bool). number_at (ended_at s b all) k ≡ Some u) over_is is))

      at : (b : Bool) → (k == s) ≡ b → m.works new u.0 k
      at true same = here over refl (eqb-true k s same)
      at false apart =
          let was : number_at all k ≡ Some u =
          ap number_in (sym (other_place k (ne_from k s apart))) ∙ is in
          stay.works u.0 k (not_ended u (distinct u k was (ne_from k s apart))) (ready.works k u was)

  others_can : (refusal : Option Refusal) → Frames m old new t.0 refusal → WorksStayReady m runs
      → (qs : List (Pending Run)) → has_statement s qs ≡ false → AllCanGoOn m runs old all qs
      → AllCanGoOn m runs new (ended_at s over all) qs
  others_can refusal frames stay [] none can = tt
  others_can refusal frames stay (p ∷ qs) none can =
      let parts = either_true (is_its s p) (has_statement s qs) none in
      let apart : p.session.0 ≢ s = ne_from p.session.0 s parts.0 in (
        record {
          lettered = can.0.lettered;
          its = ap number_in (other_place p.session.0 apart) ∙ can.0.its;
          ready = stay old new t p.transaction refusal p.work (distinct p.transaction p.session.0 can.0.its apart)
              frames can.0.ready;
        },
        others_can refusal frames stay qs parts.1 can.1,
      )

  ended_places : length (ended_at s over all) ≡ length all
  ended_places = at over
    where
      at : (b : Bool) → length (ended_at s b all) ≡ length all
      at true = length-set all s None
      at false = refl

  -- what the others have to go on, they have still
  pub others_ready : (refusal : Option Refusal) → Frames m old new t.0 refusal → WorksStayReady m runs
      → SessionsStay m old new None (ends_if t.0 over) → has_statement s ps ≡ false
      → AreReady m runs new (ended_at s over all) ps
  others_ready refusal frames works stay none = record {
    places = ended_places ∙ ready.places;
    free = keeper_free stay;
    works = keeper_works stay;
    ready = others_can refusal frames works ps none ready.ready;
    apart = ready.apart;
  }

  -- ---- the history

  others_agree : (refusal : Option Refusal) (o : Opening) (h after : Entries)
      → Frames m old new t.0 refusal → WorksStayAt m runs → GrowsBy t h after → (qs : List (Pending Run))
      (us : List Unfinished) → has_statement s qs ≡ false → AllCanGoOn m runs old all qs
      → Agree runs old o h qs us → Agree runs new o after qs us
  others_agree refusal o h after frames stay grows [] [] none can agree = tt
  others_agree refusal o h after frames stay grows [] (u ∷ us) none can agree = absurd agree
  others_agree refusal o h after frames stay grows (p ∷ qs) [] none can agree = absurd agree
  others_agree refusal o h after frames stay grows (p ∷ qs) (u ∷ us) none can agree =
      let parts = either_true (is_its s p) (has_statement s qs) none in
      let apart : p.session.0 ≢ s = ne_from p.session.0 s parts.0 in (
        record {
          session = agree.0.session;
          transaction = agree.0.transaction;
          waits_on = agree.0.waits_on;
          at_course = stay old new o h after t p.transaction refusal p.work u.course
              (distinct p.transaction p.session.0 can.0.its apart) frames
              (beside p.transaction.0 (distinct p.transaction p.session.0 can.0.its apart) grows) agree.0.at_course;
        },
        others_agree refusal o h after frames stay grows qs us parts.1 can.1 agree.1,
      )

  module _ (o : Opening) (h after : Entries) (us : List Unfinished)
      (stand : StandAt m runs old o h all ps us) (grows : GrowsBy t h after)
      (active : is_active (state_of o after t.0) ≡ not over) where
    last_is : last_begun h s ≡ Some t
    last_is = (active_is o h (last_begun h s) t (stand.its s ∙ its)).0

    same_last : (k : ℕ) → last_begun after k ≡ last_begun h k
    same_last k = last_begun_grown k grows

    -- what becomes of the last transaction of a session
    by_last : (k : ℕ) (last : Option TxNo) → last_begun h k ≡ last
        → while_active o after last ≡ number_at (ended_at s over all) k
    by_last k None is = none (k == s) refl
      where
        none : (b : Bool) → (k == s) ≡ b → None ≡ number_at (ended_at s over all) k
        none true same = absurd (cc (is, ap (last_begun h) (eqb-true k s same) ∙ last_is))
        none false apart = sym (ap number_in (other_place k (ne_from k s apart)) ∙ sym (stand.its k)
            ∙ ap (while_active o h) is)
    by_last k (Some u) is = some (t.0 == u.0) refl
      where
        if_over : (b : Bool) → over ≡ b
            → (if is_active (state_of o after t.0) then Some t else None)
            ≡ number_at (ended_at s over all) s
        if_over true over_is =
            let dead : is_active (state_of o after t.0) ≡ false = active ∙ ap not over_is in
            ap (λ (b : Bool). if b then Some t else None) dead
            ∙ sym (ap number_in (own_place ∙ ap (λ (b : Bool). if b then None else transaction_at all s) over_is))
        if_over false over_is =
            let lives : is_active (state_of o after t.0) ≡ true = active ∙ ap not over_is in
            ap (λ (b : Bool). if b then Some t else None) lives
            ∙ sym (ap number_in (own_place ∙ ap (λ (b : Bool). if b then None else transaction_at all s) over_is) ∙ its)

        -- it is the session's: no other one began it
        of_it : t.0 ≡ u.0 → k ≡ s
        of_it same =
            let state_is : is_active (state_of o h u.0) ≡ true =
            subst (λ (n : ℕ). is_active (state_of o h n) ≡ true) same
            (active_is o h (last_begun h s) t (stand.its s ∙ its)).1 in
            let number_is : number_at all k ≡ Some u =
            sym (stand.its k) ∙ ap (while_active o h) is
            ∙ ap (λ (b : Bool). if b then Some u else None) state_is in
            sym (alone s k t u its number_is same)

        number_of : t.0 ≡ u.0 → u ≡ t
        number_of same = ap (λ (n : ℕ). record { 0 = n }) (sym same)

        here : t.0 ≡ u.0 → while_active o after (Some u) ≡ number_at (ended_at s over all) k
        here same = ap (λ (n : TxNo). while_active o after (Some n)) (number_of same) ∙ if_over over refl
            ∙ ap (number_at (ended_at s over all)) (sym (of_it same))

        away : (k == s) ≡ false → (t.0 == u.0) ≡ false
            → while_active o after (Some u) ≡ number_at (ended_at s over all) k
        away apart other = ap (λ (state : TxState). if is_active state then Some u else None)
            (state_grown o u.0 other grows)
            ∙ ap (while_active o h) (sym is) ∙ stand.its k
            ∙ sym (ap number_in (other_place k (ne_from k s apart)))

        some : (b : Bool) → (t.0 == u.0) ≡ b
            → while_active o after (Some u) ≡ number_at (ended_at s over all) k
        some true same = here (eqb-true t.0 u.0 same)
        some false other = by_place (k == s) refl
          where
            by_place : (b : Bool) → (k == s) ≡ b
                → while_active o after (Some u) ≡ number_at (ended_at s over all) k
            by_place true same =
                let both : Some u ≡ Some t = sym is ∙ ap (last_begun h) (eqb-true k s same) ∙ last_is in
                let number : u.0 ≡ t.0 = ap (λ (n : TxNo). n.0) (cc both) in
                absurd (cc (other, eq-eqb t.0 u.0 (sym number)))
            by_place false apart = away apart other

    its_after : (k : ℕ) → transaction_of o after k ≡ number_at (ended_at s over all) k
    its_after k = ap (while_active o after) (same_last k) ∙ by_last k (last_begun h k) refl

    known_before : (k : ℕ) (x : Transaction) → transaction_at (ended_at s over all) k ≡ Some x
        → transaction_at all k ≡ Some x
    known_before k x is = at (k == s) refl
      where
        here : (b : Bool) → over ≡ b → k ≡ s → transaction_at all k ≡ Some x
        here true over_is same = absurd (cc (
          own_place ∙ ap (λ (b : Bool). if b then None else transaction_at all s) over_is,
          ap (transaction_at (ended_at s over all)) (sym same) ∙ is,
        ))
        here false over_is same = subst (λ (b : Bool). transaction_at (ended_at s b all) k ≡ Some x) over_is is

        at : (b : Bool) → (k == s) ≡ b → transaction_at all k ≡ Some x
        at true same = here over refl (eqb-true k s same)
        at false apart = sym (other_place k (ne_from k s apart)) ∙ is

    active_after : (u : ℕ) → is_active (state_of o after u) ≡ has_number (ended_at s over all) u
    active_after u = at (t.0 == u) refl
      where
        here : (b : Bool) → over ≡ b → is_active (state_of o after t.0) ≡ has_number (ended_at s over all) t.0
        here true over_is = active ∙ ap not over_is
            ∙ sym (ap (λ (b : Bool). has_number (ended_at s b all) t.0) over_is ∙ has_ended all s within t alone its)
        here false over_is = active ∙ ap not over_is
            ∙ sym (ap (λ (b : Bool). has_number (ended_at s b all) t.0) over_is ∙ place_has all t.0 s t its refl)

        not_its : (x : Option Transaction) → number_in x ≡ Some t → (t.0 == u) ≡ false → is_number u x ≡ false
        not_its None is apart = absurd cc
        not_its (Some x) is apart =
            let same : x.number ≡ t = cc is in ap (λ (n : TxNo). n.0 == u) same ∙ apart

        same_others : (b : Bool) → (t.0 == u) ≡ false → has_number (ended_at s b all) u ≡ has_number all u
        same_others true apart =
            has_other all s within None u (not_its (transaction_at all s) its apart) refl
        same_others false apart = refl

        at : (b : Bool) → (t.0 == u) ≡ b → is_active (state_of o after u) ≡ has_number (ended_at s over all) u
        at true same = subst (λ (n : ℕ). is_active (state_of o after n) ≡ has_number (ended_at s over all) n)
            (eqb-true t.0 u same) (here over refl)
        at false apart = ap is_active (state_grown o u apart grows) ∙ stand.active u
            ∙ sym (same_others over apart)

    -- where the history goes on by events of a session's transaction, all others stand where they stood
    pub others_stand : (refusal : Option Refusal) → Frames m old new t.0 refusal → WorksStayAt m runs
        → m.stands new o after → IsLegal o after → has_statement s ps ≡ false
        → StandAt m runs new o after (ended_at s over all) ps us
    others_stand refusal frames stay stands legal none = record {
      stands = stands;
      legal = legal;
      its = its_after;
      modes = λ k x is. ap (λ (mode : Mode). mode.read_only) (mode_stays x.number.0 grows)
          ∙ stand.modes k x (known_before k x is);
      active = active_after;
      agree = others_agree refusal o h after frames stay grows ps us none ready.ready stand.agree;
    }

-- ---- what a statement came to

-- whether its transaction is over
abbrev pub is_over_by : Stepped → Bool
is_over_by More = false
is_over_by (Waits on) = false
is_over_by (Ended ending) = ending.over

pub ended_by : (s : ℕ) (stepped : Stepped) (all : List (Option Transaction))
    → transactions_after s stepped all ≡ ended_at s (is_over_by stepped) all
ended_by s More all = refl
ended_by s (Waits on) all = refl
ended_by s (Ended ending) all = at ending.over
  where
    at : (b : Bool) → (if b then set all s None else all) ≡ ended_at s b all
    at true = refl
    at false = refl

pub ends_by : (t : ℕ) (stepped : Stepped) → over_in t stepped ≡ ends_if t (is_over_by stepped)
ends_by t More = refl
ends_by t (Waits on) = refl
ends_by t (Ended ending) = at ending.over
  where
    at : (b : Bool) → (if b then Some t else None) ≡ ends_if t b
    at true = refl
    at false = refl

pub goes_on_unless : (stepped : Stepped) → goes_on stepped ≡ not (is_over_by stepped)
goes_on_unless More = refl
goes_on_unless (Waits on) = refl
goes_on_unless (Ended ending) = refl

module _ {R P Run : Type 0} (m : Means R P) (runs : RunMeans R Run) (r : R) (o : Opening)
    (session : Session) (t : TxNo) (work : Work Run) (all : List (Option Transaction))
    (ps : List (Pending Run)) where
  new_agree : (after : Entries) (us : List Unfinished) (stepped : Stepped) (comes : Comes)
      → Agree runs r o after ps us → IsWorkTold runs r o after t work stepped comes
      → Agree runs r o after (pending_after session t work stepped ps) (kept session t comes us)
  new_agree after us More (Later course) agree told = agree_more runs r o after ps us
      (pending_of session t work None) (unfinished session t course None) agree
      (record { session = refl; transaction = refl; waits_on = refl; at_course = told })
  new_agree after us More (Parks on course) agree told = absurd told
  new_agree after us More (Ends reply) agree told = absurd told
  new_agree after us (Waits on) (Later course) agree told = absurd told
  new_agree after us (Waits on) (Parks by course) agree told = agree_more runs r o after ps us
      (pending_of session t work (Some on)) (unfinished session t course (Some by)) agree
      (record { session = refl; transaction = refl; waits_on = ap (λ (n : TxNo). Some n) told.0; at_course = told.1 })
  new_agree after us (Waits on) (Ends reply) agree told = absurd told
  new_agree after us (Ended ending) (Later course) agree told = absurd told
  new_agree after us (Ended ending) (Parks on course) agree told = absurd told
  new_agree after us (Ended ending) (Ends reply) agree told = agree

  -- the answer is that of what it came to
  pub reply_is : (after : Entries) (stepped : Stepped) (comes : Comes)
      → IsWorkTold runs r o after t work stepped comes → reply_of_step stepped ≡ reply_of comes
  reply_is after More (Later course) told = refl
  reply_is after More (Parks on course) told = absurd told
  reply_is after More (Ends reply) told = absurd told
  reply_is after (Waits on) (Later course) told = absurd told
  reply_is after (Waits on) (Parks by course) told =
      ap (λ (n : TxNo). replies.No (Engine (refusals.Waits n))) told.0
  reply_is after (Waits on) (Ends reply) told = absurd told
  reply_is after (Ended ending) (Later course) told = absurd told
  reply_is after (Ended ending) (Parks on course) told = absurd told
  reply_is after (Ended ending) (Ends reply) told = told

  -- a statement that goes on later stands where it was told
  pub kept_stands : (after : Entries) (us : List Unfinished) (stepped : Stepped) (comes : Comes)
      → StandAt m runs r o after all ps us → IsWorkTold runs r o after t work stepped comes
      → StandAt m runs r o after all (pending_after session t work stepped ps) (kept session t comes us)
  kept_stands after us stepped comes stand told = record {
    stands = stand.stands;
    legal = stand.legal;
    its = stand.its;
    modes = stand.modes;
    active = stand.active;
    agree = new_agree after us stepped comes stand.agree told;
  }

-- and it can go on
pub kept_ready : {R P Run : Type 0} (m : Means R P) (runs : RunMeans R Run) (r : R) (session : Session)
    (t : TxNo) (work : Work Run) (all : List (Option Transaction)) (ps : List (Pending Run))
    (stepped : Stepped) → AreReady m runs r (transactions_after session.0 stepped all) ps
    → number_at all session.0 ≡ Some t → session.0 < SESSIONS → has_statement session.0 ps ≡ false
    → IsWorkReadyIf m runs r t work stepped
    → AreReady m runs r (transactions_after session.0 stepped all) (pending_after session t work stepped ps)
kept_ready m runs r session t work all ps More ready its lettered none can = record {
  places = ready.places;
  free = ready.free;
  works = ready.works;
  ready = more_can m runs r all ps (pending_of session t work None) ready.ready
      (record { lettered = lettered; its = its; ready = can });
  apart = more_apart ps (pending_of session t work None) ready.apart none;
}
kept_ready m runs r session t work all ps (Waits on) ready its lettered none can = record {
  places = ready.places;
  free = ready.free;
  works = ready.works;
  ready = more_can m runs r all ps (pending_of session t work (Some on)) ready.ready
      (record { lettered = lettered; its = its; ready = can });
  apart = more_apart ps (pending_of session t work (Some on)) ready.apart none;
}
kept_ready m runs r session t work all ps (Ended ending) ready its lettered none can = ready

-- ---- a live transaction

active_state : (state : TxState) → is_active state ≡ true → state ≡ Active
active_state Active is = refl
active_state Limbo is = absurd cc
active_state Dead is = absurd cc
active_state Committed is = absurd cc

-- the transaction of a session is active, and runs as it is remembered to
pub live_is_active : {R P Run : Type 0} (m : Means R P) (runs : RunMeans R Run) (r : R) (o : Opening)
    (h : Entries) (all : List (Option Transaction)) (ps : List (Pending Run)) (us : List Unfinished)
    (s : ℕ) (t : TxNo) → StandAt m runs r o h all ps us → number_at all s ≡ Some t
    → state_of o h t.0 ≡ Active
live_is_active m runs r o h all ps us s t stand is =
    active_state (state_of o h t.0) (active_is o h (last_begun h s) t (stand.its s ∙ is)).1
