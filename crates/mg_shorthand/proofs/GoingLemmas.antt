-- One call, several calls, and none, for an active transaction.
use Rattle.std.proofs.Common.{◌≡◌, ℕ, ◌==◌, ◌+◌, ◌<◌, not, Bool, true, false, ◌∷◌, Option, Some, None, Ok, inl, refl, ap, arith}
use Rattle.std.specs.Prelude.{if◌then◌else◌}
use Rattle.std.proofs.lemmas.Bool.{eq-eqb}
use Rattle.mg_base.specs.declared.numbers.TxNo.{TxNo}
use Rattle.mg_base.specs.declared.transaction.TxState.{TxState}
use Rattle.mg_base.specs.declared.transaction.TxState.TheVariants.{Active, Limbo, Dead, Committed}
use Rattle.mg_model.specs.declared.answer.Answer.{Answer}
use Rattle.mg_model.specs.declared.answer.Answer.TheVariants as answers
use Rattle.mg_model.specs.declared.event.Event.{Event}
use Rattle.mg_model.specs.declared.event.Event.TheVariants as events
use Rattle.mg_model.specs.declared.opening.Opening.{Opening}
use Rattle.mg_model.specs.declared.refusal.Refusal.{Refusal}
use Rattle.mg_model.specs.Answers.{is_active}
use Rattle.mg_model.specs.History.{Entries, entry, transaction_of}
use Rattle.mg_model.specs.Legal.{is_lasting}
use Rattle.mg_model.specs.Machine.{state_of}
use Rattle.mg_records.specs.Committing.{WritesOne}
use Rattle.mg_records.specs.Crashing.{CrashesHold, HoldsOn, LeavesQuietly, LeavesWith}
use Rattle.mg_faults.specs.FaultLaws.{none_told}
use Rattle.mg_records.specs.Keeping.{FaultsAreTold, Keeps, Leaves, MeetsNoDamage, Reads}
use Rattle.mg_records.specs.Meaning.{Means}
use Rattle.mg_records.specs.Sessions.{SessionsStay}
use Rattle.mg_calls.specs.Frames.{Blames}
use Rattle.mg_calls.specs.FrameLaws.{frames_after, frames_changes, frames_first, frames_then, frames_reads, frames_reads_nothing, frames_writes}
use Rattle.mg_rows.specs.declared.statement_fault.StatementFault.{StatementFault}
use Rattle.mg_transcript.specs.Growing.{GrowsBy, as_it_was, by_one, grown_then}
use Rattle.mg_transcript.specs.Shorthand.{stops_by}
use Rattle.mg_courses.specs.Carrying.{Carries}
use Rattle.mg_courses.specs.CarryLaws.{carries_none, carries_event, carries_lasting, carries_read, carries_then}
use Rattle.mg_courses.specs.Running.{refusal_of}
use Rattle.mg_courses.specs.StopLaws.{goes_on_by}
use Rattle.mg_shorthand.specs.Going.{Went, ReadsOn, Spares, over_if}

-- ---- states

pub still_active : (s : TxState) → s ≡ Active → is_active s ≡ true
still_active s active = ap is_active active

pub active_from : (s : TxState) → is_active s ≡ true → s ≡ Active
active_from Active is = refl
active_from Limbo is = absurd cc
active_from Dead is = absurd cc
active_from Committed is = absurd cc

pub ended_over : (t : ℕ) (old end : TxState) → is_active end ≡ false
    → is_active (if t == t then end else old) ≡ false
ended_over t old end closed = rw (eq-eqb t t refl) closed

-- ---- what is left of others

pub sessions_then : {R P : Type 0} (m : Means R P) (old mid new : R) (ends : Option ℕ)
    → SessionsStay m old mid None None → SessionsStay m mid new None ends
    → SessionsStay m old new None ends
sessions_then m old mid new ends first second = record {
  free = λ session apart was. second.free session apart (first.free session refl was);
  works = λ t session apart was. second.works t session apart (first.works t session refl was);
  ended = λ t session is was. second.ended t session is (first.works t session refl was);
}

-- calls behind some that were not refused
pub spares_then : {R P : Type 0} (m : Means R P) (old mid new : R) (t : TxNo) (refusal : Option Refusal)
    (over : Bool) → Spares m old mid t None false → Spares m mid new t refusal over
    → Spares m old new t refusal over
spares_then m old mid new t refusal over one two = record {
  frames = frames_after m old mid new t.0 refusal one.frames two.frames;
  sessions = sessions_then m old mid new (over_if t.0 over) one.sessions two.sessions;
}

-- a line was refused, and its transaction is rolled back; or that is refused, and answered
pub spares_back : {R P : Type 0} (m : Means R P) (old mid new : R) (t : TxNo) (refusal : Option Refusal)
    → Spares m old mid t refusal false → Leaves m mid new None (Some t.0) (Some t.0)
    → FaultsAreTold m mid new None → SessionsStay m mid new None (Some t.0) → Spares m old new t refusal true
spares_back m old mid new t refusal one leaves told sessions = record {
  frames = frames_first m old mid new t.0 refusal None (λ k quiet. refl) one.frames
      (frames_changes m mid new t.0 None leaves told);
  sessions = sessions_then m old mid new (Some t.0) one.sessions sessions;
}

pub spares_not_back : {R P : Type 0} (m : Means R P) (old mid new : R) (t : TxNo) (fault : StatementFault)
    (later : Refusal) → stops_by fault ≡ false → Spares m old mid t (refusal_of fault) false
    → Leaves m mid new (Some later) (Some t.0) (Some t.0) → FaultsAreTold m mid new (Some later)
    → SessionsStay m mid new None None
    → Spares m old new t (Some later) false
spares_not_back m old mid new t fault later goes one leaves told sessions = record {
  frames = frames_then m old mid new t.0 (refusal_of fault) (Some later)
      (λ k quiet. none_told k (refusal_of fault) (goes_on_by fault goes))
      one.frames (frames_changes m mid new t.0 (Some later) leaves told);
  sessions = sessions_then m old mid new None one.sessions sessions;
}

pub spares_read : {R P : Type 0} (m : Means R P) (old new : R) (t : TxNo) (refusal : Option Refusal)
    → Reads m old new refusal None → FaultsAreTold m old new refusal → SessionsStay m old new None None
    → Spares m old new t refusal false
spares_read m old new t refusal reads told sessions =
    record { frames = frames_reads_nothing m old new t.0 refusal reads told; sessions = sessions }

-- ---- readings

pub reads_one : {R P : Type 0} (m : Means R P) → HoldsOn m → (old new : R) (refusal : Option Refusal)
    (walks : Option ℕ) → Reads m old new refusal walks
    → MeetsNoDamage m old new → LeavesQuietly m old new → (o : Opening) (h : Entries)
    → m.stands old o h → ReadsOn m old new o h
reads_one m lasts old new refusal walks reads undamaged crash o h stands = record {
  stands = reads.stays o h stands;
  carries = carries_read m lasts old new o h refusal walks stands reads undamaged crash;
}

pub reads_then : {R P : Type 0} (m : Means R P) → HoldsOn m → (old mid new : R) (o : Opening) (h : Entries)
    → ReadsOn m old mid o h → ReadsOn m mid new o h → ReadsOn m old new o h
reads_then m lasts old mid new o h first second = record {
  stands = second.stands;
  carries = carries_then m lasts old mid new o h h h first.carries second.carries;
}

pub reads_none : {R P : Type 0} (m : Means R P) → CrashesHold m → (r : R) (o : Opening) (h : Entries)
    → m.stands r o h → ReadsOn m r r o h
reads_none m crashes r o h stands =
    record { stands = stands; carries = carries_none m crashes r o h stands }

-- how many pages are to be written still for a commit
abbrev pub noted_left : Bool → ℕ → ℕ
noted_left true count = 0
noted_left false count = count + 1

pub one_less : {R P : Type 0} (m : Means R P) (old new : R) (t : ℕ) (all : Bool)
    → WritesOne m old new t (Ok all) → noted_left all (m.unwritten new) < noted_left false (m.unwritten old)
one_less m old new t true wrote = omega arith
one_less m old new t false wrote = let less = wrote.2 in omega (arith, less)

-- what is known of a commit then
abbrev pub IsNoted : {R P : Type 0} → Means R P → R → ℕ → Bool → Type 0
IsNoted m r t true = m.is_written r t
IsNoted m r t false = m.is_asked r t

pub noted : {R P : Type 0} (m : Means R P) (old new : R) (t : ℕ) (all : Bool)
    → WritesOne m old new t (Ok all) → IsNoted m new t all
noted m old new t true wrote = wrote.1
noted m old new t false wrote = wrote.1

pub noted_asked : {R P : Type 0} (m : Means R P) (r : R) (t : ℕ) (all : Bool) → all ≡ false → IsNoted m r t all
    → m.is_asked r t
noted_asked m r t true is noted = absurd cc
noted_asked m r t false is noted = noted

pub noted_written : {R P : Type 0} (m : Means R P) (r : R) (t : ℕ) (all : Bool) → all ≡ true → IsNoted m r t all
    → m.is_written r t
noted_written m r t true is noted = noted
noted_written m r t false is noted = absurd cc

-- ---- what comes of a history

pub went_nowhere : {R P : Type 0} (m : Means R P) → CrashesHold m → (r : R) (o : Opening) (h : Entries)
    (t : TxNo) (By : Entries → Type 0) → m.stands r o h → state_of o h t.0 ≡ Active → By h
    → Went m r r o h t false By
went_nowhere m crashes r o h t By stands active does = record {
  after = h;
  does = does;
  stands = stands;
  own = as_it_was;
  active = ap is_active active;
  carries = carries_none m crashes r o h stands;
}

pub went_by : {R P : Type 0} (m : Means R P) → HoldsOn m → (old new : R) (o : Opening) (h : Entries)
    (t : TxNo) (event : Event) (answer : Answer) (over : Bool) (refusal : Option Refusal)
    (By : Entries → Type 0) → is_lasting event ≡ false → transaction_of event ≡ Some t.0 → m.stands old o h
    → Keeps m old new refusal
    → MeetsNoDamage m old new → LeavesQuietly m old new → m.stands new o (entry event answer ∷ h)
    → is_active (state_of o (entry event answer ∷ h) t.0) ≡ not over → By (entry event answer ∷ h)
    → Went m old new o h t over By
went_by m lasts old new o h t event answer over refusal By quiet its stands keeps undamaged crash after active does = record {
  after = entry event answer ∷ h;
  does = does;
  stands = after;
  own = by_one (entry event answer) its as_it_was;
  active = active;
  carries = carries_event m lasts old new o h (entry event answer) refusal quiet stands keeps undamaged crash;
}

-- behind other calls
pub went_on : {R P : Type 0} (m : Means R P) → HoldsOn m → (old mid new : R) (o : Opening) (h between : Entries)
    (t : TxNo) (over : Bool) (By Whole : Entries → Type 0) → GrowsBy t h between
    → Carries m old mid o h between → ((after : Entries) → By after → Whole after)
    → Went m mid new o between t over By → Went m old new o h t over Whole
went_on m lasts old mid new o h between t over By Whole grows carries turn went = record {
  after = went.after;
  does = turn went.after went.does;
  stands = went.stands;
  own = grown_then grows went.own;
  active = went.active;
  carries = carries_then m lasts old mid new o h between went.after carries went.carries;
}

-- behind a reading
pub went_behind : {R P : Type 0} (m : Means R P) → HoldsOn m → (old mid new : R) (o : Opening) (h : Entries)
    (t : TxNo) (over : Bool) (By Whole : Entries → Type 0) → ReadsOn m old mid o h
    → ((after : Entries) → By after → Whole after) → Went m mid new o h t over By
    → Went m old new o h t over Whole
went_behind m lasts old mid new o h t over By Whole reads turn went =
    went_on m lasts old mid new o h h t over By Whole as_it_was reads.carries turn went

pub spares_none : {R P : Type 0} (m : Means R P) (r : R) (t : TxNo) → Spares m r r t None false
spares_none m r t = record {
  frames = record {
    faults = (omega arith, omega arith);
    steady = λ k quiet. refl;
    damage = omega arith;
    shortages = omega arith;
    cause = tt;
    down = inl refl;
    tells = refl;
    most_writes = refl;
    page_limit = refl;
    time = λ told. record { later = omega arith; keeps = λ t c within was. was };
    sizes = λ size. refl;
    given = λ table was. was;
    places = λ table place was. was;
    tables = λ u name table other was. was;
    walks = λ u table after rows other come. come;
    commits = record { asked = λ u other was. was; written = λ u other was. was };
  };
  sessions = record {
    free = λ session apart was. was;
    works = λ t session apart was. was;
    ended = λ t session is was. absurd cc;
  };
}

pub spares_ask : {R P : Type 0} (m : Means R P) (old new : R) (t : TxNo) (refusal : Option Refusal)
    → Reads m old new refusal (Some t.0) → FaultsAreTold m old new refusal → SessionsStay m old new None None
    → Spares m old new t refusal false
spares_ask m old new t refusal reads told sessions =
    record { frames = frames_reads m old new t.0 refusal reads told; sessions = sessions }

-- ---- the end of a commit

pub spares_end : {R P : Type 0} (m : Means R P) (old new : R) (t : TxNo) (refusal : Option Refusal)
    (over : Bool) → Leaves m old new refusal (Some t.0) (Some t.0) → FaultsAreTold m old new refusal
    → SessionsStay m old new None (over_if t.0 over)
    → Spares m old new t refusal over
spares_end m old new t refusal over leaves told sessions =
    record { frames = frames_changes m old new t.0 refusal leaves told; sessions = sessions }

pub committed_so : {R P : Type 0} (m : Means R P) → HoldsOn m → (old new : R) (o : Opening) (h : Entries)
    (t : TxNo) (By : Entries → Type 0) → m.stands old o h → Keeps m old new None
    → MeetsNoDamage m old new → LeavesWith m old new (events.Commit t) answers.Fine
    → m.stands new o (entry (events.Commit t) answers.Fine ∷ h) → By (entry (events.Commit t) answers.Fine ∷ h)
    → Went m old new o h t true By
committed_so m lasts old new o h t By stands keeps undamaged crash after does = record {
  after = entry (events.Commit t) answers.Fine ∷ h;
  does = does;
  stands = after;
  own = by_one (entry (events.Commit t) answers.Fine) refl as_it_was;
  active = ended_over t.0 (state_of o h t.0) Committed refl;
  carries = carries_lasting m lasts old new o h (events.Commit t) (Ok tt) stands keeps undamaged crash;
}

-- ---- the same by another relation, or another refusal

pub went_as : {R P : Type 0} (m : Means R P) (old new : R) (o : Opening) (h : Entries) (t : TxNo) (over : Bool)
    (By Whole : Entries → Type 0) → ((after : Entries) → By after → Whole after)
    → Went m old new o h t over By → Went m old new o h t over Whole
went_as m old new o h t over By Whole turn went = record {
  after = went.after;
  does = turn went.after went.does;
  stands = went.stands;
  own = went.own;
  active = went.active;
  carries = went.carries;
}

-- a refusal that has no cause outside may be answered in place of none
pub spares_quiet : {R P : Type 0} (m : Means R P) (old new : R) (t : TxNo) (refusal : Option Refusal)
    (over : Bool) → Blames m old new refusal → Spares m old new t None over → Spares m old new t refusal over
spares_quiet m old new t refusal over cause spares = record {
  frames = record {
    faults = spares.frames.faults;
    steady = λ k quiet. spares.frames.steady k refl;
    damage = spares.frames.damage;
    shortages = spares.frames.shortages;
    cause = cause;
    down = spares.frames.down;
    tells = spares.frames.tells;
    most_writes = spares.frames.most_writes;
    page_limit = spares.frames.page_limit;
    time = spares.frames.time;
    sizes = spares.frames.sizes;
    given = spares.frames.given;
    places = spares.frames.places;
    tables = spares.frames.tables;
    walks = spares.frames.walks;
    commits = spares.frames.commits;
  };
  sessions = spares.sessions;
}

pub spares_write : {R P : Type 0} (m : Means R P) (old new : R) (t : TxNo) (refusal : Option Refusal)
    → Leaves m old new refusal None (Some t.0) → FaultsAreTold m old new refusal
    → SessionsStay m old new None None → Spares m old new t refusal false
spares_write m old new t refusal leaves told sessions =
    record { frames = frames_writes m old new t.0 refusal leaves told; sessions = sessions }
