-- A disk becomes one whose pages may be read.
use Rattle.std.proofs.Common.{◌≡◌, inl, inr, ℕ, Bool, true, false, None, Some, length, refl, sym, ap, ◌∙◌, subst}
use Rattle.std.specs.Prelude.{OnOk, Result, Ok, Err}
use Rattle.std.proofs.lemmas.Bool.{false≢true}
use Rattle.mg_base.specs.Disk.{FailsNoWrite, Meaning, Rose}
use Rattle.mg_base.specs.Image.{Image, blank, page_at}
use Rattle.mg_base.specs.Moments.{goes_on, joined, leaves_as, started}
use Rattle.mg_base.specs.declared.geometry.Geometry.{Geometry}
use Rattle.mg_format.specs.Format.{FormatDone, IsClean, IsFresh, IsUnmadeImage, LeavesNew, SaysAlike}
use Rattle.mg_pool.specs.Fault.{OnlyWrites, TellsFault}
use Rattle.mg_pool.specs.Pool.{HasAtMost, IsPool, KeepsContent}
use Rattle.mg_pool.specs.declared.fault.PoolFault.{PoolFault}
use Rattle.mg_pool.specs.declared.fault.PoolFault.TheVariants as faults
use Rattle.mg_pool.specs.declared.pool.Pool.{Pool}
use Rattle.mg_space.specs.Taking.{IsGeometry}
use Rattle.mg_space.specs.View.{Tells}
use Rattle.mg_space.specs.declared.fault.SpaceFault.TheVariants as space
use Rattle.mg_space.specs.declared.links.FireLinks.{FireLinks}
use Rattle.mg_survey.specs.Survey.{IsSurveyed, OnlyAsks, ReadsHead, limit_of, IsSameDisk}
use Rattle.mg_survey.specs.declared.survey.Survey.{Survey}
use Rattle.mg_database.specs.declared.fault.OpenFault.{OpenFault}
use Rattle.mg_database.specs.declared.fault.OpenFault.TheVariants.{Space}
use Rattle.mg_database.specs.Preparing.{BecomesReady, FailsToPrepare, IsPrepared, MakesIf, made, no_memory, there, unasked, unmade}

-- a new database was written, or a page write failed
pub made_by : {D : Type 0} (m : Meaning D) (old new : Pool D FireLinks)
    (result : Result (Unit {0}) PoolFault) → old.offline ≡ None → IsPool m new
    → new.geometry ≡ old.geometry → OnOk result (IsClean new) → OnlyWrites result
    → TellsFault m old new result → SaysAlike m old.disk new.disk
    → ((image : Image) → IsFresh m old image → FormatDone m old.disk new.disk old.geometry.size result)
    → MakesIf m true old new result
made_by m old new (Ok x) online pool geometry clean own told says done = record {
  pool = pool;
  geometry = geometry;
  clean = clean;
  online = told.1;
  steady = ap (λ (counts : ℕ × ℕ × ℕ). counts.1) told.2;
  none_failed = ap (λ (counts : ℕ × ℕ × ℕ). counts.2) told.2;
  says = says;
  done = done;
}
made_by m old new (Err (faults.DiskRead n)) online pool geometry clean own told says done = absurd own
made_by m old new (Err (faults.DiskWrite n)) online pool geometry clean own told says done = (
  n,
  refl,
  told.2.2,
  pool.size ∙ ap (λ (g : Geometry). Some g.size) geometry,
  says,
  subst (λ (g : Geometry). HasAtMost m new.disk g.limit) geometry pool.within,
  done,
  told.3,
)
made_by m old new (Err (faults.Offline n)) online pool geometry clean own told says done =
    absurd (let no : None ≡ Some n = sym online ∙ told.0 in cc)
made_by m old new (Err (faults.Absent n)) online pool geometry clean own told says done = absurd own
made_by m old new (Err faults.Memory) online pool geometry clean own told says done = absurd own

-- what the writing of a new database leaves, since before the disk was asked
format_since : {D : Type 0} (m : Meaning D) (disk asked new : D) (size : ℕ)
    (result : Result (Unit {0}) PoolFault) → KeepsContent m disk asked → m.tells disk ≡ true
    → FormatDone m asked new size result → FormatDone m disk new size result
format_since {D} m disk asked new size result asks told done = record {
  crash = joined m disk asked new (LeavesNew m disk size)
      (goes_on m disk disk asked (LeavesNew m disk size)
      (started m disk (LeavesNew m disk size) (λ c may. inl may)) (asks.time told)
      (λ c may. inl (asks.crash told c may)))
      (leaves_as m asked new (LeavesNew m asked size) (LeavesNew m disk size) turn done.crash);
  made = done.made;
}
  where
    turn : (c : Image) → LeavesNew m asked size c → LeavesNew m disk size c
    turn c (inl may) = inl (asks.crash told c may)
    turn c (inr new) = inr new

-- A disk was asked, and a cache made over it.
module _ {D : Type 0} (m : Meaning D) (disk asked : D) (limit : ℕ) (it : Survey)
    (old new : Pool D FireLinks) (asks : KeepsContent m disk asked)
    (same : IsSameDisk m disk asked) (steady : m.faults asked ≡ m.faults disk) (none : FailsNoWrite m disk asked)
    (surveyed : IsSurveyed m disk asked limit it) (reads : ReadsHead m disk asked it.geometry.size)
    (pool : IsPool m old) (disk_is : old.disk ≡ asked) (geometry_is : old.geometry ≡ it.geometry)
    (clean : IsClean old) (online : old.offline ≡ None) where
  pub lawful_geometry : IsGeometry old.geometry
  lawful_geometry = subst IsGeometry (sym geometry_is)
      (record { size = surveyed.lawful })

  size_is : it.geometry.size ≡ old.geometry.size
  size_is = sym (ap (λ (g : Geometry). g.size) geometry_is)

  limit_of_old : (image : Image) → m.held disk ≡ Some image
      → old.geometry.limit ≡ limit_of limit (length image)
  limit_of_old image held = ap (λ (g : Geometry). g.limit) geometry_is ∙ surveyed.limit_is image held

  told_unmade : it.unmade ≡ true → (image : Image) → m.held disk ≡ Some image
      → IsUnmadeImage old.geometry.size image
  told_unmade is image held = subst (λ (size : ℕ). IsUnmadeImage size image) size_is
      ((surveyed.unmade_is image held).0 is)

  told_other : it.unmade ≡ false → (image : Image) → m.held disk ≡ Some image
      → IsUnmadeImage old.geometry.size image → ⊥
  told_other is image held unmade_ = false≢true (sym is ∙ (surveyed.unmade_is image held).1
      (subst (λ (size : ℕ). IsUnmadeImage size image) (sym size_is) unmade_))

  reads_of_old : ReadsHead m disk old.disk old.geometry.size
  reads_of_old = subst (λ (d : D). ReadsHead m disk d old.geometry.size) (sym disk_is)
      (subst (ReadsHead m disk asked) size_is reads)

  is_fresh : it.unmade ≡ true → (image : Image) → Tells m disk image → IsFresh m old image
  is_fresh is image tells = record {
    tells = subst (λ (d : D). Tells m d image) (sym disk_is)
        (record { told = asks.tells ∙ tells.told; held = asks.held ∙ tells.held });
    unmade = told_unmade is image tells.held;
  }

  since : (later : D) (size : ℕ) (result : Result (Unit {0}) PoolFault) (image : Image) → Tells m disk image
      → FormatDone m old.disk later size result → FormatDone m disk later size result
  since later size result image tells done = format_since m disk asked later size result asks tells.told
      (subst (λ (d : D). FormatDone m d later size result) disk_is done)

  steady_of_old : m.faults old.disk ≡ m.faults disk
  steady_of_old = ap m.faults disk_is ∙ steady

  none_of_old : FailsNoWrite m disk old.disk
  none_of_old = ap m.failed_writes disk_is ∙ none

  -- the disk then has the page size of the cache
  same_then : (later : D) → m.size later ≡ Some old.geometry.size → SaysAlike m old.disk later
      → IsSameDisk m disk later
  same_then later sized says = record {
    size = λ n known. let told : Some n ≡ Some it.geometry.size = sym (same.size n known) ∙ surveyed.sized in
        sized ∙ (ap Some (sym size_is) ∙ sym told);
    tells = says.tells ∙ (ap m.tells disk_is ∙ same.tells);
    most_writes = says.most_writes ∙ (ap m.most_writes disk_is ∙ same.most_writes);
  }

  pub prepared : (b : Bool) → it.unmade ≡ b → MakesIf m b old new (Ok tt) → IsPrepared m disk limit new
  prepared false is kept = subst (IsPrepared m disk limit) (sym kept) (record {
    pool = pool;
    geometry = lawful_geometry;
    clean = clean;
    online = online;
    disk_is = there (subst (KeepsContent m disk) (sym disk_is) asks) (told_other is);
    limit_is = limit_of_old;
    steady = steady_of_old;
    none_failed = none_of_old;
    reads = reads_of_old;
    same = same_then old.disk pool.size (record { tells = refl; most_writes = refl });
  })
  prepared true is makes = record {
    pool = makes.pool;
    geometry = subst IsGeometry (sym makes.geometry) lawful_geometry;
    clean = makes.clean;
    online = makes.online;
    disk_is = subst (λ (size : ℕ). BecomesReady m disk new.disk size) same_size
        (made (told_unmade is) (λ image tells. since new.disk old.geometry.size (Ok tt) image tells
        (makes.done image (is_fresh is image tells))));
    limit_is = λ image held. ap (λ (g : Geometry). g.limit) makes.geometry ∙ limit_of_old image held;
    steady = makes.steady ∙ steady_of_old;
    none_failed = makes.none_failed ∙ none_of_old;
    -- page 0 was zero
    reads = λ image held other. absurd (other (subst (λ (size : ℕ). page_at size image 0 ≡ blank size) same_size
        (told_unmade is image held).header));
    same = same_then new.disk (makes.pool.size ∙ ap (λ (g : Geometry). Some g.size) makes.geometry) makes.says;
  }
    where
      same_size : old.geometry.size ≡ new.geometry.size
      same_size = sym (ap (λ (g : Geometry). g.size) makes.geometry)

  pub not_prepared : (b : Bool) (fault : PoolFault) → it.unmade ≡ b → MakesIf m b old new (Err fault)
      → FailsToPrepare m disk new.disk limit (Space (space.Pool fault))
  not_prepared false fault is makes = absurd makes
  not_prepared true fault is makes = subst (λ (f : PoolFault). FailsToPrepare m disk new.disk limit (Space (space.Pool f)))
      (sym makes.1) (unmade makes.0 (record {
        size = old.geometry.size;
        sized = makes.3;
        unmade = told_unmade is;
        leaves = λ image tells. since new.disk old.geometry.size (Err (faults.DiskWrite makes.0)) image tells
            (makes.6 image (is_fresh is image tells));
        rose = subst (λ (n : ℕ). Rose n (m.faults new.disk)) steady_of_old makes.2;
        failed_writes = subst (λ (n : ℕ). Rose n (m.failed_writes new.disk)) none_of_old makes.7;
        same = same_then new.disk makes.3 makes.4;
        within = λ image held. subst (λ (n : ℕ). HasAtMost m new.disk n) (limit_of_old image held) makes.5;
      }))

  -- the same, as the disk comes back and the fault is told
  pub not_prepared_as : (b : Bool) (fault : PoolFault) (back : D) (told : OpenFault) → it.unmade ≡ b
      → MakesIf m b old new (Err fault) → back ≡ new.disk → told ≡ Space (space.Pool fault)
      → FailsToPrepare m disk back limit told
  not_prepared_as b fault back told is makes back_is told_is =
      subst (λ (d : D). FailsToPrepare m disk d limit told) (sym back_is)
      (subst (FailsToPrepare m disk new.disk limit) (sym told_is) (not_prepared b fault is makes))

-- the disk's first calls failed
pub not_asked : {D T E : Type 0} (m : Meaning D) (disk asked : D) (limit : ℕ) (error : E) (count : ℕ) (told : OpenFault)
    → OnlyAsks {T = T} m disk asked (Err error) → IsSameDisk m disk asked → told ≡ Space (space.Pool (faults.DiskRead count))
    → FailsToPrepare m disk asked limit told
not_asked m disk asked limit error count told asks same is = subst (FailsToPrepare m disk asked limit) (sym is)
    (unasked count asks.content same (asks.cause refl, asks.none_failed))

-- there was no memory for the cache
pub not_held : {D : Type 0} (m : Meaning D) (disk asked back : D) (limit : ℕ) (told : OpenFault)
    → KeepsContent m disk asked → IsSameDisk m disk asked → m.faults asked ≡ m.faults disk → back ≡ asked → told ≡ Space (space.Pool faults.Memory)
    → FailsToPrepare m disk back limit told
not_held {D} m disk asked back limit told asks same steady back_is is = subst (λ (d : D). FailsToPrepare m disk d limit told) (sym back_is)
    (subst (FailsToPrepare m disk asked limit) (sym is) (no_memory asks same steady))
