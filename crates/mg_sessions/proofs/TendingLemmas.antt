-- Pages are written, and nothing else is done.
use Rattle.std.proofs.Common.{◌≡◌, ◌<◌, ◌≤◌, ◌+◌, ◌-◌, ℕ, true, false, Option, None, inl, refl, arith}
use Rattle.mg_model.specs.declared.opening.Opening.{Opening}
use Rattle.mg_model.specs.declared.refusal.Refusal.{Refusal}
use Rattle.mg_model.specs.History.{Entries}
use Rattle.mg_records.specs.Crashing.{HoldsOn, LeavesQuietly}
use Rattle.mg_records.specs.Keeping.{FaultsAreTold, MeetsNoDamage, Reads}
use Rattle.mg_records.specs.Meaning.{Means}
use Rattle.mg_records.specs.Sessions.{SessionsStay}
use Rattle.mg_calls.specs.Frames.{Frames}
use Rattle.mg_calls.specs.FrameLaws.{frames_after, frames_reads_nothing}
use Rattle.mg_courses.specs.Carrying.{Carries}
use Rattle.mg_courses.specs.CarryLaws.{carries_read, carries_then}

pub no_frames : {R P : Type 0} (m : Means R P) (r : R) (n : ℕ) → Frames m r r n None
no_frames m r n = record {
  faults = (omega arith, omega arith);
  steady = λ k quiet. refl;
  damage = omega arith;
  shortages = omega arith;
  cause = tt;
  down = inl refl;
  tells = refl;
  most_writes = refl;
  page_limit = refl;
  time = λ told. record { later = omega arith; keeps = λ t c within was. was };
  sizes = λ size. refl;
  given = λ table was. was;
  places = λ table place was. was;
  tables = λ u name table apart was. was;
  walks = λ u table after rows apart come. come;
  commits = record { asked = λ u apart was. was; written = λ u apart was. was };
}

pub no_sessions : {R P : Type 0} (m : Means R P) (r : R) → SessionsStay m r r None None
no_sessions m r = record {
  free = λ session other free. free;
  works = λ t session other works. works;
  ended = λ t session it works. absurd cc;
}

module _ {R P : Type 0} (m : Means R P) (lasts : HoldsOn m) (old mid new : R) (refusal : Option Refusal)
    (reads : Reads m mid new refusal None) where
  pub more_frames : FaultsAreTold m mid new refusal → (n : ℕ) → Frames m old mid n None
      → Frames m old new n refusal
  more_frames told n first =
      frames_after m old mid new n refusal first (frames_reads_nothing m mid new n refusal reads told)

  pub more_sessions : SessionsStay m old mid None None → SessionsStay m mid new None None
      → SessionsStay m old new None None
  more_sessions first second = record {
    free = λ session other free. second.free session other (first.free session other free);
    works = λ t session other works. second.works t session other (first.works t session other works);
    ended = λ t session it works. absurd (none it);
  }
    where
      none : false ≡ true → ⊥
      none is = cc

  pub more_stands : MeetsNoDamage m mid new → LeavesQuietly m mid new
      → ((o : Opening) (h : Entries) → m.stands old o h → m.stands mid o h × Carries m old mid o h h)
      → (o : Opening) (h : Entries) → m.stands old o h → m.stands new o h × Carries m old new o h h
  more_stands undamaged crash first o h stands =
      let before = first o h stands in (
        reads.stays o h before.0,
        carries_then m lasts old mid new o h h h before.1
            (carries_read m lasts mid new o h refusal None before.0 reads undamaged crash),
      )

pub one_more : (a b c most left : ℕ) → a ≡ b + (most - left) → b ≡ c + 1 → 0 < left → left ≤ most
    → a ≡ c + (most - (left - 1))
one_more a b c most left first second some within = omega (arith, first, second, some, within)
