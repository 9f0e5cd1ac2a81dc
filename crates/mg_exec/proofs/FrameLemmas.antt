-- Frames of calls that are not made, and of answers that have no cause outside.
use Rattle.std.proofs.Common.{◌≡◌, ℕ, false, Option, inl, refl, arith}
use Rattle.mg_model.specs.declared.refusal.Refusal.{Refusal}
use Rattle.mg_faults.specs.Faults.{FaultCount, tells_rise}
use Rattle.mg_records.specs.Meaning.{Means}
use Rattle.mg_calls.specs.Frames.{Blames, Frames}

-- a refusal that has no cause outside may be answered in place of another, but of a fault of the disk
pub frames_quiet : {R P : Type 0} {first : Option Refusal} (m : Means R P) (old new : R) (t : ℕ)
    (refusal : Option Refusal) → Blames m old new refusal → Frames m old new t first
    → ((k : FaultCount) → tells_rise k refusal ≡ false → tells_rise k first ≡ false) → Frames m old new t refusal
frames_quiet m old new t refusal cause frames quiet = record {
  faults = frames.faults;
  steady = λ k told. frames.steady k (quiet k told);
  damage = frames.damage;
  shortages = frames.shortages;
  cause = cause;
  down = frames.down;
  tells = frames.tells;
  most_writes = frames.most_writes;
  page_limit = frames.page_limit;
  time = frames.time;
  sizes = frames.sizes;
  given = frames.given;
  places = frames.places;
  tables = frames.tables;
  walks = frames.walks;
  commits = frames.commits;
}

-- no call at all
pub frames_none : {R P : Type 0} (m : Means R P) (r : R) (t : ℕ) (refusal : Option Refusal)
    → Blames m r r refusal → Frames m r r t refusal
frames_none m r t refusal cause = record {
  faults = (omega arith, omega arith);
  steady = λ k quiet. refl;
  damage = omega arith;
  shortages = omega arith;
  cause = cause;
  down = inl refl;
  tells = refl;
  most_writes = refl;
  page_limit = refl;
  time = λ told. record { later = omega arith; keeps = λ t c within was. was };
  sizes = λ size. refl;
  given = λ table was. was;
  places = λ table place was. was;
  tables = λ u name table other was. was;
  walks = λ u table after rows other come. come;
  commits = record { asked = λ u other was. was; written = λ u other was. was };
}
