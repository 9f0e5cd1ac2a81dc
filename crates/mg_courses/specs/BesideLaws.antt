-- What the calls for one transaction leave of a statement of another one.
use Rattle.std.specs.Prelude.{◌≡◌, ◌==◌, ℕ, true, false, Option}
use Rattle.mg_base.specs.declared.numbers.TxNo.{TxNo}
use Rattle.mg_model.specs.declared.opening.Opening.{Opening}
use Rattle.mg_model.specs.declared.refusal.Refusal.{Refusal}
use Rattle.mg_model.specs.History.{Entries}
use Rattle.mg_records.specs.Meaning.{Means}
use Rattle.mg_calls.specs.Frames.{Frames}
use Rattle.mg_transcript.specs.Courses.{Course}
use Rattle.mg_transcript.specs.Growing.{GrowsBy, as_it_was, by_one, not_its}
use Rattle.mg_courses.specs.declared.work.Work.{Work}
use Rattle.mg_courses.specs.declared.work.Work.TheVariants as works
use Rattle.mg_courses.specs.Running.{RunMeans, Spares, GoesOnBeside, as_before, one_beside, RunsStay, CoursesStay}
use Rattle.mg_courses.specs.Working.{IsWorkReady, IsWorkAt}

spared : {R P : Type 0} (m : Means R P) (old new : R) (t u : ℕ) (refusal : Option Refusal)
    → (t == u) ≡ false → Frames m old new t refusal → Spares m old new u
spared m old new t u refusal apart frames = record {
  tables = λ name table was. frames.tables u name table apart was;
  walks = λ table after rows come. frames.walks u table after rows apart come;
  given = frames.given;
  places = frames.places;
  sizes = frames.sizes;
}

pub beside : {t : TxNo} {h after : Entries} (u : ℕ) → (t.0 == u) ≡ false → GrowsBy t h after
    → GoesOnBeside u h after
beside u apart as_it_was = as_before
beside {t = t} u apart (by_one e its more) = one_beside e (not_its u e t.0 its apart) (beside u apart more)

-- it is ready to go on as before
abbrev pub WorksStayReady : {R P Run : Type 0} → Means R P → RunMeans R Run → Type 0
WorksStayReady {R = R} {Run = Run} m runs = (old new : R) (t u : TxNo) (refusal : Option Refusal)
    (work : Work Run) → (t.0 == u.0) ≡ false → Frames m old new t.0 refusal
    → IsWorkReady m runs old u work → IsWorkReady m runs new u work

pub works_stay_ready : {R P Run : Type 0} (m : Means R P) (runs : RunMeans R Run) → RunsStay m runs
    → WorksStayReady m runs
works_stay_ready m runs stay old new t u refusal (works.Statement run) apart frames ready =
    stay old new u run (spared m old new t.0 u.0 refusal apart frames) ready
works_stay_ready m runs stay old new t u refusal (works.Commit false) apart frames ready =
    frames.commits.asked u.0 apart ready
works_stay_ready m runs stay old new t u refusal (works.Commit true) apart frames ready =
    frames.commits.written u.0 apart ready

-- the same is left of it
abbrev pub WorksStayAt : {R P Run : Type 0} → Means R P → RunMeans R Run → Type 0
WorksStayAt {R = R} {Run = Run} m runs = (old new : R) (o : Opening) (h after : Entries) (t u : TxNo)
    (refusal : Option Refusal) (work : Work Run) (course : Course) → (t.0 == u.0) ≡ false
    → Frames m old new t.0 refusal → GoesOnBeside u.0 h after
    → IsWorkAt runs old o h u work course → IsWorkAt runs new o after u work course

pub works_stay_at : {R P Run : Type 0} (m : Means R P) (runs : RunMeans R Run) → CoursesStay m runs
    → WorksStayAt m runs
works_stay_at m runs stay old new o h after t u refusal (works.Statement run) course apart frames goes at =
    stay old new o h after u run course (spared m old new t.0 u.0 refusal apart frames) goes at
works_stay_at m runs stay old new o h after t u refusal (works.Commit written) course apart frames goes at = at
