-- What makes one of several carryings.
use Rattle.std.specs.Prelude.{◌≡◌, ◌⊎◌, ◌&&◌, ◌+◌, ℕ, ◌≤◌, Bool, true, false, ◌∷◌, Option, Some, None, Result, Ok, Err, refl, if◌then◌else◌}
use Rattle.std.proofs.Common.{inl, inr, ◌∙◌, subst, arith}
use Rattle.mg_base.specs.Image.{Image}
use Rattle.mg_model.specs.declared.answer.Answer.TheVariants.{No}
use Rattle.mg_model.specs.declared.event.Event.{Event}
use Rattle.mg_model.specs.declared.opening.Opening.{Opening}
use Rattle.mg_model.specs.declared.refusal.Refusal.{Refusal}
use Rattle.mg_model.specs.declared.refusal.Refusal.TheVariants.{DiskWrite}
use Rattle.mg_model.specs.History.{Entries, Entry, entry}
use Rattle.mg_model.specs.Legal.{durable_count, is_fine, is_lasting}
use Rattle.mg_records.specs.Adding.{fine_or}
use Rattle.mg_records.specs.Crashing.{CrashesHold, HoldsOn, LeavesOnly, LeavesQuietly, LeavesWith}
use Rattle.mg_records.specs.Keeping.{Elapses, FindsNoDamage, Keeps, MeetsNoDamage, Reads, IsOffline, refusal_in}
use Rattle.mg_records.specs.Meaning.{Means}
use Rattle.mg_calls.specs.Quiet.{AreQuiet, IsQuietAt, IsQuietly, as_it_was, with_entry}
use Rattle.mg_courses.specs.Carrying.{Carries}

-- ---- histories

counts_as : (lasting fine : Bool) (count : ℕ) → lasting ≡ false
    → (if lasting && fine then count + 1 else count) ≡ count
counts_as true fine count quiet = absurd cc
counts_as false fine count quiet = refl

same_count : (h after : Entries) → IsQuietly h after → durable_count after ≡ durable_count h
same_count h after as_it_was = refl
same_count h after (with_entry {longer = more} e quiet rest) =
    counts_as (is_lasting e.event) (is_fine e.answer) (durable_count more) quiet
    ∙ same_count h more rest

counts_more : (b : Bool) (count : ℕ) → count ≤ (if b then count + 1 else count)
counts_more true count = omega arith
counts_more false count = omega arith

same_or_less : (a b : ℕ) → b ≡ a → a ≤ b
same_or_less a b same = omega (arith, same)

holds_after : {R P : Type 0} (m : Means R P) → HoldsOn m → (r : R) (o : Opening) (h after : Entries)
    (least : ℕ) (c : Image) → IsQuietly h after → m.holds r o h least c → m.holds r o after least c
holds_after m on r o h after least c as_it_was is = is
holds_after m on r o h after least c (with_entry {longer = more} e quiet rest) is =
    on.more r o more e least c quiet (holds_after m on r o h more least c rest is)

-- ---- images

leaves_as : {R P : Type 0} (m : Means R P) (old new : R) (Q S : Image → Type 0)
    → ((c : Image) → Q c → S c) → LeavesOnly m old new Q → LeavesOnly m old new S
leaves_as m old new Q S turn leaves = record {
  each = λ c left. turn c (leaves.each c left);
  before = λ t c within left. turned t c (leaves.before t c within left);
}
  where
    turned : (t : ℕ) (c : Image) → m.left old t c ⊎ Q c → m.left old t c ⊎ S c
    turned t c (inl was) = inl was
    turned t c (inr is) = inr (turn c is)

within_both : (a b c : ℕ) → a ≤ b → b ≤ c → a ≤ c
within_both a b c first second = omega (arith, first, second)

leaves_then : {R P : Type 0} (m : Means R P) (old mid new : R) (Q S : Image → Type 0)
    → m.moment old ≤ m.moment mid → ((c : Image) → Q c → S c) → LeavesOnly m old mid Q
    → LeavesOnly m mid new S → LeavesOnly m old new S
leaves_then m old mid new Q S later turn first second = record {
  each = λ c left. now c (second.before (m.moment old) c later left);
  before = λ t c within left.
      earlier t c within (second.before t c (within_both t (m.moment old) (m.moment mid) within later) left);
}
  where
    now : (c : Image) → m.left mid (m.moment old) c ⊎ S c → S c
    now c (inl was) = turn c (first.each c was)
    now c (inr is) = is

    turned : (t : ℕ) (c : Image) → m.left old t c ⊎ Q c → m.left old t c ⊎ S c
    turned t c (inl was) = inl was
    turned t c (inr is) = inr (turn c is)

    earlier : (t : ℕ) (c : Image) → t ≤ m.moment old → m.left mid t c ⊎ S c → m.left old t c ⊎ S c
    earlier t c within (inl was) = turned t c (first.before t c within was)
    earlier t c within (inr is) = inr is

-- ---- several calls

pub carries_then : {R P : Type 0} (m : Means R P) → HoldsOn m → (old mid new : R) (o : Opening)
    (h between after : Entries) → Carries m old mid o h between → Carries m mid new o between after
    → Carries m old new o h after
carries_then m on old mid new o h between after first second = record {
  holds = λ least c was. second.holds least c (first.holds least c was);
  count = within_both (durable_count h) (durable_count between) (durable_count after) first.count second.count;
  tells = second.tells ∙ first.tells;
  later = λ told. within_both (m.moment old) (m.moment mid) (m.moment new) (first.later told)
      (second.later (first.tells ∙ told));
  undamaged = λ told. second.undamaged (first.tells ∙ told) ∙ first.undamaged told;
  leaves = λ told. leaves_then m old mid new (m.holds mid o between (durable_count h))
      (m.holds new o after (durable_count h)) (first.later told)
      (λ c is. second.holds (durable_count h) c is) (first.leaves told)
      (leaves_as m mid new (m.holds new o after (durable_count between)) (m.holds new o after (durable_count h))
      (λ c is. on.least new o after (durable_count h) (durable_count between) c first.count is)
      (second.leaves (first.tells ∙ told)));
}

-- ---- no call

-- where nothing is called, what a crash may leave holds the history
pub carries_none : {R P : Type 0} (m : Means R P) → CrashesHold m → (r : R) (o : Opening) (h : Entries)
    → m.stands r o h → Carries m r r o h h
carries_none m crashes r o h stands = record {
  holds = λ least c was. was;
  count = omega arith;
  tells = refl;
  later = λ told. omega arith;
  undamaged = λ told. refl;
  leaves = λ told. record {
    each = λ c left. crashes r o h stands told c left;
    before = λ t c within left. inl left;
  };
}

-- ---- quiet calls

pub carries_by : {R P : Type 0} (m : Means R P) → HoldsOn m → (old new : R) (o : Opening)
    (h after : Entries) → IsQuietly h after → m.tells new ≡ m.tells old
    → (m.tells old ≡ true → Elapses m old new)
    → ((least : ℕ) (c : Image) → m.holds old o h least c → m.holds new o h least c)
    → FindsNoDamage m old new → (m.tells old ≡ true → LeavesOnly m old new (m.holds new o h (durable_count h)))
    → Carries m old new o h after
carries_by m on old new o h after quiet tells time holds undamaged leaves = record {
  holds = λ least c was. holds_after m on new o h after least c quiet (holds least c was);
  count = same_or_less (durable_count h) (durable_count after) (same_count h after quiet);
  tells = tells;
  later = λ told. (time told).later;
  undamaged = undamaged;
  leaves = λ told. leaves_as m old new (m.holds new o h (durable_count h)) (m.holds new o after (durable_count h))
      (λ c is. holds_after m on new o h after (durable_count h) c quiet is) (leaves told);
}

pub carries_quietly : {R P : Type 0} (m : Means R P) → HoldsOn m → (old new : R) (ends : Option ℕ)
    (o : Opening) (h after : Entries) → AreQuiet m old new ends → m.stands old o h → IsQuietly h after
    → Carries m old new o h after
carries_quietly m on old new ends o h after quiet stands goes =
    carries_by m on old new o h after goes quiet.tells quiet.time (quiet.holds o h)
    (quiet.undamaged o h stands) (quiet.crash o h stands)

-- one call of the keeper that gives no event
pub carries_read : {R P : Type 0} (m : Means R P) → HoldsOn m → (old new : R) (o : Opening) (h : Entries)
    (refusal : Option Refusal) (walks : Option ℕ) → m.stands old o h → Reads m old new refusal walks
    → MeetsNoDamage m old new → LeavesQuietly m old new → Carries m old new o h h
carries_read m on old new o h refusal walks stands reads undamaged crash =
    carries_by m on old new o h h as_it_was reads.keeps.tells reads.keeps.time (reads.keeps.holds o h)
    (undamaged o h stands) (crash o h stands)

-- the same of a call whose promise holds of this history
pub carries_read_at : {R P : Type 0} (m : Means R P) → HoldsOn m → (old new : R) (o : Opening) (h : Entries)
    (refusal : Option Refusal) (walks : Option ℕ) → Reads m old new refusal walks → IsQuietAt m old new o h
    → Carries m old new o h h
carries_read_at m on old new o h refusal walks reads quiet =
    carries_by m on old new o h h as_it_was reads.keeps.tells reads.keeps.time (reads.keeps.holds o h)
    quiet.undamaged quiet.crash

-- one call that gives an event which no crash could lose
pub carries_event : {R P : Type 0} (m : Means R P) → HoldsOn m → (old new : R) (o : Opening) (h : Entries)
    (e : Entry) (refusal : Option Refusal) → is_lasting e.event ≡ false → m.stands old o h
    → Keeps m old new refusal → MeetsNoDamage m old new → LeavesQuietly m old new
    → Carries m old new o h (e ∷ h)
carries_event m on old new o h e refusal quiet stands keeps undamaged crash =
    carries_by m on old new o h (e ∷ h) (with_entry e quiet as_it_was) keeps.tells keeps.time
    (keeps.holds o h) (undamaged o h stands) (crash o h stands)

-- one call that gives an event which outlasts a crash
pub carries_lasting : {R P : Type 0} (m : Means R P) → HoldsOn m → (old new : R) (o : Opening)
    (h : Entries) (event : Event) (result : Result (Unit {0}) Refusal) → m.stands old o h
    → Keeps m old new (refusal_in result) → MeetsNoDamage m old new
    → LeavesWith m old new event (fine_or result)
    → Carries m old new o h (entry event (fine_or result) ∷ h)
carries_lasting m on old new o h event result stands keeps undamaged crash = record {
  holds = λ least c was. keeps.holds o (entry event (fine_or result) ∷ h) least c
      (on.longer old o h (entry event (fine_or result)) least c stands
      (no_second (m.down old) result keeps.offline) was);
  count = counts_more (is_lasting event && is_fine (fine_or result)) (durable_count h);
  tells = keeps.tells;
  later = λ told. (keeps.time told).later;
  undamaged = undamaged o h stands;
  leaves = λ told. crash o h stands told;
}
  where
    -- once a page write has failed no other one does
    no_second : (down : Option ℕ) (result : Result (Unit {0}) Refusal) → IsOffline down (refusal_in result)
        → (down ≡ None) ⊎ ((faults : ℕ) → fine_or result ≡ No (DiskWrite faults) → ⊥)
    no_second None result offline = inl refl
    no_second (Some count) (Ok x) offline = inr (λ faults is. absurd cc)
    no_second (Some count) (Err refusal) offline = inr (λ faults is. not_so refusal faults (same refusal faults is) offline)
      where
        same : (refusal : Refusal) (faults : ℕ) → No refusal ≡ No (DiskWrite faults) → refusal ≡ DiskWrite faults
        same refusal faults is = cc is

        not_so : (refusal : Refusal) (faults : ℕ) → refusal ≡ DiskWrite faults
            → IsOffline (Some count) (Some refusal) → ⊥
        not_so refusal faults is offline = subst (λ (r : Refusal). IsOffline (Some count) (Some r)) is offline
