-- What is nobody's event, and that several such calls are one.
use Rattle.std.specs.Prelude.{◌≡◌, ℕ, true, IfErr, Option, None, Result, Ok, Err, refl}
use Rattle.std.proofs.Common.{arith, inl}
use Rattle.mg_model.specs.declared.answer.Answer.TheVariants.{No}
use Rattle.mg_model.specs.declared.opening.Opening.{Opening}
use Rattle.mg_model.specs.declared.refusal.Refusal.{Refusal}
use Rattle.mg_model.specs.History.{Entries}
use Rattle.mg_model.specs.Legal.{is_outer}
use Rattle.mg_records.specs.Asking.{TakesNoPage}
use Rattle.mg_records.specs.Crashing.{CrashesHold, HoldsOn, LeavesQuietly}
use Rattle.mg_records.specs.Keeping.{FaultsAreTold, MeetsNoDamage, Reads, refusal_in}
use Rattle.mg_records.specs.Meaning.{Means}
use Rattle.mg_records.specs.Sessions.{SessionsStay}
use Rattle.mg_calls.specs.FrameLaws.{frames_after, frames_reads_nothing}
use Rattle.mg_calls.specs.Frames.{Frames}
use Rattle.mg_calls.specs.Quiet.{as_it_was}
use Rattle.mg_calls.specs.QuietLaws.{quiet_nothing, quiet_reading, quiet_then}
use Rattle.mg_courses.specs.Aside.{IsAside, IsOutsideFor}
use Rattle.mg_courses.specs.Carrying.{Carries}
use Rattle.mg_courses.specs.CarryLaws.{carries_quietly}
use Rattle.mg_courses.specs.OutsideLaws.{outer_unpaged}

-- one call that adds no entry, for nobody's walk
pub aside_reading : {R P : Type 0} (m : Means R P) (old new : R) (refusal : Option Refusal)
    → Reads m old new refusal None → FaultsAreTold m old new refusal → MeetsNoDamage m old new
    → LeavesQuietly m old new → SessionsStay m old new None None → IsAside m old new refusal
aside_reading m old new refusal reads told undamaged crash sessions = record {
  frames = λ n. frames_reads_nothing m old new n refusal reads told;
  stays = reads.stays;
  quiet = quiet_reading m old new refusal None reads undamaged crash sessions;
}

-- nothing is called
no_frames : {R P : Type 0} (m : Means R P) (r : R) (n : ℕ) → Frames m r r n None
no_frames m r n = record {
  faults = (omega arith, omega arith);
  steady = λ k quiet. refl;
  damage = omega arith;
  shortages = omega arith;
  cause = tt;
  down = inl refl;
  tells = refl;
  most_writes = refl;
  page_limit = refl;
  time = λ told. record { later = omega arith; keeps = λ t c within was. was };
  sizes = λ size. refl;
  given = λ table was. was;
  places = λ table place was. was;
  tables = λ u name table apart was. was;
  walks = λ u table after rows apart come. come;
  commits = record { asked = λ u apart was. was; written = λ u apart was. was };
}

-- and so is nothing
pub aside_nothing : {R P : Type 0} (m : Means R P) → CrashesHold m → (r : R) → IsAside m r r None
aside_nothing m crashes r = record {
  frames = λ n. no_frames m r n;
  stays = λ o h stands. stands;
  quiet = quiet_nothing m crashes r;
}

-- a call behind one that was not refused
pub aside_then : {R P : Type 0} (m : Means R P) → HoldsOn m → (old mid new : R) (refusal : Option Refusal)
    → IsAside m old mid None → IsAside m mid new refusal → IsAside m old new refusal
aside_then m lasts old mid new refusal first second = record {
  frames = λ n. frames_after m old mid new n refusal (first.frames n) (second.frames n);
  stays = λ o h stands. second.stays o h (first.stays o h stands);
  quiet = quiet_then m lasts old mid new None first.quiet second.quiet;
}

-- what a collection is refused by comes from outside
pub outside_for : {R P T : Type 0} (m : Means R P) (old : R) (result : Result T Refusal)
    → IfErr result (λ refusal. is_outer (No refusal) ≡ true)
    → ((o : Opening) (h : Entries) → m.stands old o h → TakesNoPage (refusal_in result)) → IsOutsideFor m old result
outside_for m old (Ok x) outer unpaged = tt
outside_for m old (Err refusal) outer unpaged = λ o h stands. outer_unpaged refusal outer (unpaged o h stands)

-- no crash loses what was durable
pub aside_carries : {R P : Type 0} (m : Means R P) → HoldsOn m → (old new : R) (refusal : Option Refusal)
    → IsAside m old new refusal → (o : Opening) (h : Entries) → m.stands old o h → Carries m old new o h h
aside_carries m lasts old new refusal aside o h stands =
    carries_quietly m lasts old new None o h h aside.quiet stands as_it_was
