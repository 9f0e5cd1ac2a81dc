-- Several quiet calls are quiet together.
use Rattle.std.proofs.Common.{◌≡◌, ◌⊎◌, ℕ, ◌+◌, ◌≤◌, Bool, true, false, ◌∷◌, Option, Some, None, inl, inr, refl, subst, ◌∙◌, arith}
use Rattle.std.specs.Prelude.{◌&&◌, cond, if◌then◌else◌}
use Rattle.mg_base.specs.Image.{Image}
use Rattle.mg_base.specs.declared.numbers.TxNo.{TxNo}
use Rattle.mg_model.specs.declared.answer.Answer.{Answer}
use Rattle.mg_model.specs.declared.answer.Answer.TheVariants.{Fine, No}
use Rattle.mg_model.specs.declared.event.Event.{Event}
use Rattle.mg_model.specs.declared.event.Event.TheVariants.{Rollback}
use Rattle.mg_model.specs.declared.opening.Opening.{Opening}
use Rattle.mg_model.specs.declared.refusal.Refusal.{Refusal}
use Rattle.mg_model.specs.Answers.{is_active}
use Rattle.mg_model.specs.History.{Entries, entry}
use Rattle.mg_model.specs.Legal.{durable_count, is_fine, is_lasting}
use Rattle.mg_model.specs.Machine.{state_of}
use Rattle.mg_records.specs.Adding.{Adds}
use Rattle.mg_records.specs.Crashing.{CrashesHold, HoldsOn, LeavesOnly, LeavesQuietly}
use Rattle.mg_records.specs.Keeping.{FindsNoDamage, Keeps, Leaves, MeetsNoDamage, Reads}
use Rattle.mg_records.specs.Meaning.{Means}
use Rattle.mg_records.specs.Sessions.{SessionsStay}
use Rattle.mg_records.specs.TakingBack.{GivesUp, is_given_up}
use Rattle.mg_calls.specs.FrameLaws.{elapses_then}
use Rattle.mg_calls.specs.Quiet.{AreCalm, AreQuiet, GoesOnQuietly, IsQuietAt, IsQuietly, as_it_was, with_entry}

-- ---- histories

pub quietly_then : (h mid longer : Entries) → IsQuietly h mid → IsQuietly mid longer → IsQuietly h longer
quietly_then h mid longer first as_it_was = first
quietly_then h mid longer first (with_entry {longer = more} e quiet rest) =
    with_entry e quiet (quietly_then h mid more first rest)

counts_as : (lasting fine : Bool) (count : ℕ) → lasting ≡ false
    → (if lasting && fine then count + 1 else count) ≡ count
counts_as true fine count quiet = absurd cc
counts_as false fine count quiet = refl

same_count : (h longer : Entries) → IsQuietly h longer → durable_count longer ≡ durable_count h
same_count h longer as_it_was = refl
same_count h longer (with_entry {longer = more} e quiet rest) =
    counts_as (is_lasting e.event) (is_fine e.answer) (durable_count more) quiet
    ∙ same_count h more rest

-- what holds the longer history holds the one from before
holds_before : {R P : Type 0} (m : Means R P) → HoldsOn m → (r : R) (o : Opening) (h longer : Entries)
    (least : ℕ) (c : Image) → IsQuietly h longer → m.holds r o longer least c → m.holds r o h least c
holds_before m on r o h longer least c as_it_was is = is
holds_before m on r o h longer least c (with_entry {longer = more} e quiet rest) is =
    holds_before m on r o h more least c rest (on.fewer r o more e least c quiet is)

-- ---- one call

pub goes_by_event : {R P : Type 0} (m : Means R P) (old new : R) (event : Event) (answer : Answer)
    → is_lasting event ≡ false → Adds m old new event answer → GoesOnQuietly m old new
goes_by_event m old new event answer quiet adds o h stands =
    (entry event answer ∷ h, (adds o h stands).1, with_entry (entry event answer) quiet as_it_was)

pub goes_by_reading : {R P : Type 0} (m : Means R P) (old new : R) (refusal : Option Refusal)
    (walks : Option ℕ) → Reads m old new refusal walks → GoesOnQuietly m old new
goes_by_reading m old new refusal walks reads o h stands = (h, reads.stays o h stands, as_it_was)

pub goes_by_giving_up : {R P : Type 0} (m : Means R P) (old new : R) (t : TxNo) (event : Event)
    (refusal : Refusal) → is_lasting event ≡ false → GivesUp m old new t event refusal
    → GoesOnQuietly m old new
goes_by_giving_up m old new t event refusal quiet gives o h stands =
    by (is_given_up refusal && is_active (state_of o h t.0)) (gives o h stands).1
  where
    refused : IsQuietly h (entry event (No refusal) ∷ h)
    refused = with_entry (entry event (No refusal)) quiet as_it_was

    by : (b : Bool) → m.stands new o (cond b (entry (Rollback t) Fine ∷ entry event (No refusal) ∷ h) (entry event (No refusal) ∷ h))
        → (longer : Entries) × m.stands new o longer × IsQuietly h longer
    by true is = (
      entry (Rollback t) Fine ∷ entry event (No refusal) ∷ h,
      is,
      with_entry (entry (Rollback t) Fine) refl refused,
    )
    by false is = (entry event (No refusal) ∷ h, is, refused)

pub quiet_one : {R P : Type 0} (m : Means R P) (old new : R) (refusal : Option Refusal)
    (ends : Option ℕ) → Keeps m old new refusal → MeetsNoDamage m old new → LeavesQuietly m old new
    → SessionsStay m old new None ends → GoesOnQuietly m old new → AreQuiet m old new ends
quiet_one m old new refusal ends keeps undamaged crash sessions goes = record {
  goes_on = goes;
  tells = keeps.tells;
  time = keeps.time;
  holds = keeps.holds;
  undamaged = undamaged;
  crash = crash;
  sessions = sessions;
}

-- ---- several calls

most : (a b c : ℕ) → a ≤ b → b ≤ c → a ≤ c
most a b c first second = omega (arith, first, second)

leaves_then : {R P : Type 0} (m : Means R P) (old mid new : R) (Q S : Image → Type 0)
    → m.moment old ≤ m.moment mid → ((c : Image) → Q c → S c) → LeavesOnly m old mid Q
    → LeavesOnly m mid new S → LeavesOnly m old new S
leaves_then {R = R} m old mid new Q S later turn first second = record {
  each = λ c left. now c (second.before (m.moment old) c later left);
  before = λ t c within left.
      earlier t c within (second.before t c (most t (m.moment old) (m.moment mid) within later) left);
}
  where
    now : (c : Image) → m.left mid (m.moment old) c ⊎ S c → S c
    now c (inl was) = turn c (first.each c was)
    now c (inr is) = is

    turned : (t : ℕ) (c : Image) → m.left old t c ⊎ Q c → m.left old t c ⊎ S c
    turned t c (inl was) = inl was
    turned t c (inr is) = inr (turn c is)

    earlier : (t : ℕ) (c : Image) → t ≤ m.moment old → m.left mid t c ⊎ S c → m.left old t c ⊎ S c
    earlier t c within (inl was) = turned t c (first.before t c within was)
    earlier t c within (inr is) = inr is

leaves_as : {R P : Type 0} (m : Means R P) (old new : R) (Q S : Image → Type 0)
    → ((c : Image) → Q c → S c) → LeavesOnly m old new Q → LeavesOnly m old new S
leaves_as m old new Q S turn leaves = record {
  each = λ c left. turn c (leaves.each c left);
  before = λ t c within left. turned t c (leaves.before t c within left);
}
  where
    turned : (t : ℕ) (c : Image) → m.left old t c ⊎ Q c → m.left old t c ⊎ S c
    turned t c (inl was) = inl was
    turned t c (inr is) = inr (turn c is)

sessions_then : {R P : Type 0} (m : Means R P) (old mid new : R) (ends : Option ℕ)
    → SessionsStay m old mid None None → SessionsStay m mid new None ends
    → SessionsStay m old new None ends
sessions_then m old mid new ends first second = record {
  free = λ session other free. second.free session other (first.free session other free);
  works = λ t session other works. second.works t session other (first.works t session refl works);
  ended = λ t session it works. second.ended t session it (first.works t session refl works);
}

pub quiet_then : {R P : Type 0} (m : Means R P) → HoldsOn m → (old mid new : R) (ends : Option ℕ)
    → AreQuiet m old mid None → AreQuiet m mid new ends → AreQuiet m old new ends
quiet_then {R = R} m on old mid new ends first second = record {
  goes_on = λ o h stands. let one = first.goes_on o h stands in
      let two = second.goes_on o one.0 one.1 in
      (two.0, two.1, quietly_then h one.0 two.0 one.2 two.2);
  tells = second.tells ∙ first.tells;
  time = λ told. elapses_then m old mid new (first.time told) (second.time (first.tells ∙ told));
  holds = λ o h least c was. second.holds o h least c (first.holds o h least c was);
  undamaged = λ o h stands told. let one = first.goes_on o h stands in
      second.undamaged o one.0 one.1 (first.tells ∙ told) ∙ first.undamaged o h stands told;
  crash = crash;
  sessions = sessions_then m old mid new ends first.sessions second.sessions;
}
  where
    crash : LeavesQuietly m old new
    crash o h stands told =
        let one = first.goes_on o h stands in
        let same : durable_count one.0 ≡ durable_count h = same_count h one.0 one.2 in
        leaves_then m old mid new (m.holds mid o h (durable_count h)) (m.holds new o h (durable_count h))
        (first.time told).later (second.holds o h (durable_count h))
        (first.crash o h stands told)
        (leaves_as m mid new (m.holds new o one.0 (durable_count one.0))
        (m.holds new o h (durable_count h))
        (λ c is. subst (λ (least : ℕ). m.holds new o h least c) same
        (holds_before m on new o h one.0 (durable_count one.0) c one.2 is))
        (second.crash o one.0 one.1 (first.tells ∙ told)))

pub quiet_event : {R P : Type 0} (m : Means R P) (old new : R) (event : Event) (answer : Answer)
    (refusal : Option Refusal) (tables walks : Option ℕ) → is_lasting event ≡ false
    → Adds m old new event answer → Leaves m old new refusal tables walks → MeetsNoDamage m old new
    → LeavesQuietly m old new → SessionsStay m old new None None → AreQuiet m old new None
quiet_event m old new event answer refusal tables walks quiet adds leaves undamaged crash sessions =
    quiet_one m old new refusal None leaves.keeps undamaged crash sessions
    (goes_by_event m old new event answer quiet adds)

pub quiet_reading : {R P : Type 0} (m : Means R P) (old new : R) (refusal : Option Refusal)
    (walks : Option ℕ) → Reads m old new refusal walks → MeetsNoDamage m old new → LeavesQuietly m old new
    → SessionsStay m old new None None → AreQuiet m old new None
quiet_reading m old new refusal walks reads undamaged crash sessions =
    quiet_one m old new refusal None reads.keeps undamaged crash sessions
    (goes_by_reading m old new refusal walks reads)

-- nothing is called
pub quiet_nothing : {R P : Type 0} (m : Means R P) → CrashesHold m → (r : R) → AreQuiet m r r None
quiet_nothing m crashes r = record {
  goes_on = λ o h stands. (h, stands, as_it_was);
  tells = refl;
  time = λ told. record { later = omega arith; keeps = λ t c within was. was };
  holds = λ o h least c was. was;
  undamaged = λ o h stands told. refl;
  crash = λ o h stands told.
      record { each = λ c left. crashes r o h stands told c left; before = λ t c within left. inl left };
  sessions = record {
    free = λ session other free. free;
    works = λ t session other works. works;
    ended = λ t session it works. absurd cc;
  };
}

-- an event was to take a transaction back, and was refused
pub quiet_given_up : {R P : Type 0} (m : Means R P) (old new : R) (t : TxNo) (event : Event)
    (refusal : Refusal) (tables walks : Option ℕ) → is_lasting event ≡ false
    → GivesUp m old new t event refusal
    → Leaves m old new (Some refusal) tables walks → MeetsNoDamage m old new → LeavesQuietly m old new
    → SessionsStay m old new None (if is_given_up refusal then Some t.0 else None)
    → AreQuiet m old new (if is_given_up refusal then Some t.0 else None)
quiet_given_up m old new t event refusal tables walks quiet gives leaves undamaged crash sessions =
    quiet_one m old new (Some refusal) (if is_given_up refusal then Some t.0 else None) leaves.keeps undamaged crash
    sessions (goes_by_giving_up m old new t event refusal quiet gives)

-- ---- one history

-- one call that gives no event
pub quiet_reading_at : {R P : Type 0} (m : Means R P) (old new : R) (refusal : Option Refusal)
    (walks : Option ℕ) (o : Opening) (h : Entries) → Reads m old new refusal walks → m.stands old o h
    → FindsNoDamage m old new → LeavesQuietly m old new → IsQuietAt m old new o h
quiet_reading_at m old new refusal walks o h reads stands undamaged crash = record {
  longer = h;
  stands = reads.stays o h stands;
  quietly = as_it_was;
  undamaged = undamaged;
  crash = crash o h stands;
}

pub quiet_at : {R P : Type 0} (m : Means R P) (old new : R) (ends : Option ℕ) → AreQuiet m old new ends
    → (o : Opening) (h : Entries) → m.stands old o h → IsQuietAt m old new o h
quiet_at m old new ends quiet o h stands =
    let goes = quiet.goes_on o h stands in
    record {
      longer = goes.0;
      stands = goes.1;
      quietly = goes.2;
      undamaged = quiet.undamaged o h stands;
      crash = quiet.crash o h stands;
    }

pub quiet_at_then : {R P : Type 0} (m : Means R P) → HoldsOn m → (old mid new : R) (ends : Option ℕ)
    (o : Opening) (h : Entries) → AreCalm m old mid None → IsQuietAt m old mid o h
    → AreQuiet m mid new ends → IsQuietAt m old new o h
quiet_at_then {R = R} m on old mid new ends o h calm first second =
    let goes = second.goes_on o first.longer first.stands in
    record {
      longer = goes.0;
      stands = goes.1;
      quietly = quietly_then h first.longer goes.0 first.quietly goes.2;
      undamaged = λ told. second.undamaged o first.longer first.stands (calm.tells ∙ told)
          ∙ first.undamaged told;
      crash = crash;
    }
  where
    crash : m.tells old ≡ true → LeavesOnly m old new (m.holds new o h (durable_count h))
    crash told =
        let same : durable_count first.longer ≡ durable_count h = same_count h first.longer first.quietly in
        leaves_then m old mid new (m.holds mid o h (durable_count h)) (m.holds new o h (durable_count h))
        (calm.time told).later (second.holds o h (durable_count h)) (first.crash told)
        (leaves_as m mid new (m.holds new o first.longer (durable_count first.longer))
        (m.holds new o h (durable_count h))
        (λ c is. subst (λ (least : ℕ). m.holds new o h least c) same
        (holds_before m on new o h first.longer (durable_count first.longer) c first.quietly is))
        (second.crash o first.longer first.stands (calm.tells ∙ told)))

-- ---- whatever the history

pub calm_by : {R P : Type 0} (m : Means R P) (old new : R) (ends : Option ℕ) → AreQuiet m old new ends
    → AreCalm m old new ends
calm_by m old new ends quiet =
    record { tells = quiet.tells; time = quiet.time; holds = quiet.holds; sessions = quiet.sessions }

pub calm_one : {R P : Type 0} (m : Means R P) (old new : R) (refusal : Option Refusal)
    (ends : Option ℕ) → Keeps m old new refusal → SessionsStay m old new None ends
    → AreCalm m old new ends
calm_one m old new refusal ends keeps sessions =
    record { tells = keeps.tells; time = keeps.time; holds = keeps.holds; sessions = sessions }

pub calm_then : {R P : Type 0} (m : Means R P) (old mid new : R) (ends : Option ℕ)
    → AreCalm m old mid None → AreCalm m mid new ends → AreCalm m old new ends
calm_then m old mid new ends first second = record {
  tells = second.tells ∙ first.tells;
  time = λ told. elapses_then m old mid new (first.time told) (second.time (first.tells ∙ told));
  holds = λ o h least c was. second.holds o h least c (first.holds o h least c was);
  sessions = sessions_then m old mid new ends first.sessions second.sessions;
}

-- a call that gave no event, and others behind it
pub quiet_then_at : {R P : Type 0} (m : Means R P) (old mid new : R) (ends : Option ℕ) (o : Opening)
    (h : Entries) → AreCalm m old mid None → IsQuietAt m old mid o h → AreCalm m mid new ends
    → IsQuietAt m mid new o h → IsQuietAt m old new o h
quiet_then_at m old mid new ends o h calm first later second = record {
  longer = second.longer;
  stands = second.stands;
  quietly = second.quietly;
  undamaged = λ told. second.undamaged (calm.tells ∙ told) ∙ first.undamaged told;
  crash = λ told. leaves_then m old mid new (m.holds mid o h (durable_count h))
      (m.holds new o h (durable_count h)) (calm.time told).later (later.holds o h (durable_count h))
      (first.crash told) (second.crash (calm.tells ∙ told));
}

-- no call at all
pub calm_nothing : {R P : Type 0} (m : Means R P) (r : R) → AreCalm m r r None
calm_nothing m r = record {
  tells = refl;
  time = λ told. record { later = omega arith; keeps = λ t c within was. was };
  holds = λ o h least c was. was;
  sessions = record {
    free = λ session other free. free;
    works = λ t session other works. works;
    ended = λ t session it works. absurd cc;
  };
}
