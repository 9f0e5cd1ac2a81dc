-- What is told of a disk, or refused.
use Rattle.std.specs.Prelude.{◌≡◌, ℕ, Bool, true, false, Some, take, if◌then◌else◌}
use Rattle.std.proofs.Common.{sym, subst}
use Rattle.mg_base.specs.Image.{Image}
use Rattle.mg_base.specs.declared.damage.Field.{Field}
use Rattle.mg_base.specs.declared.geometry.TheConstants.{GREATEST_LIMIT}
use Rattle.mg_base.specs.declared.numbers.PageNo.{PageNo}
use Rattle.mg_base.specs.Disk.{Meaning}
use Rattle.mg_file_figures.specs.Stating.{FindsDamage, IsStated}
use Rattle.mg_file_figures.specs.declared.figures.FileFigures.{FileFigures}
use Rattle.mg_file_figures.specs.declared.stating.Stated.{Stated}
use Rattle.mg_file_figures.specs.declared.stating.Stated.TheVariants as stated
use Rattle.mg_findings.specs.declared.finding.Finding.{Finding}
use Rattle.mg_findings.specs.declared.finding.Rule.{Rule}
use Rattle.mg_findings.specs.declared.finding.Rule.TheVariants.{Damage}
use Rattle.mg_limbo_report.specs.Report.{IsDamage, refusal_by, tells_kind}
use Rattle.mg_model.specs.declared.refusal.Refusal.{Refusal}
use Rattle.mg_model.specs.declared.refusal.Refusal.TheVariants as refusals
use Rattle.mg_stat_report.specs.Telling.{IsCause, IsRefusedFor, IsToldOf}

-- what is found is a damage
pub found_damage : (it : Stated) (f : Finding) → it ≡ stated.Found f → FindsDamage it → IsDamage f.what
found_damage it f is finds = at (subst FindsDamage is finds)
  where
    at : (field : Field) × (f.what ≡ Damage field) → IsDamage f.what
    at found = subst IsDamage (sym found.1) tt

-- the refusal for a damage is one of two
refused_ways : (S : Refusal → Type 0) (field : Field) (f : Finding) (refusal : Refusal)
    → refusal ≡ refusal_by field f
    → ((kind : Field) (found : ℕ) → S (refusals.NotADatabase kind found))
    → ((page : PageNo) (at : Field) (found wanted : ℕ) → S (refusals.Damaged page at found wanted))
    → S refusal
refused_ways S field f refusal is kind damaged = subst S (sym is) (at (tells_kind field))
  where
    at : (b : Bool) → S (if b then refusals.NotADatabase field f.found
        else refusals.Damaged f.page field f.found f.wanted)
    at true = kind field f.found
    at false = damaged f.page field f.found f.wanted

-- a disk that has told this page size, and the pages of its image
pub cause_of : {D : Type 0} (m : Meaning D) (disk : D) (image pages : Image) (size : ℕ) (field : Field)
    (f : Finding) (refusal : Refusal) (it : Stated) → m.size disk ≡ Some size
    → pages ≡ take GREATEST_LIMIT image → refusal ≡ refusal_by field f → f.what ≡ Damage field
    → it ≡ stated.Found f → IsStated size pages it → IsCause m disk image refusal
cause_of m disk image pages size field f refusal it sized same is what found states = refused_ways
    (λ r. r ≡ refusal_by field f → IsCause m disk image r) field f refusal is
    (λ kind seen by. refused (refusals.NotADatabase kind seen) by)
    (λ page at seen wanted by. refused (refusals.Damaged page at seen wanted) by) is
  where
    refused : (r : Refusal) → r ≡ refusal_by field f → IsRefusedFor m disk image r
    refused r by = record {
      size = size;
      sized = sized;
      finding = f;
      found = subst (λ (p : Image). IsStated size p (stated.Found f)) same
          (subst (IsStated size pages) found states);
      field = field;
      damage = what;
      is = by;
    }

pub told_of : {D : Type 0} (m : Meaning D) (disk : D) (image pages : Image) (size : ℕ)
    (figures : FileFigures) (it : Stated) → m.size disk ≡ Some size → pages ≡ take GREATEST_LIMIT image
    → it ≡ stated.Told figures → IsStated size pages it → IsToldOf m disk image figures
told_of m disk image pages size figures it sized same told states = record {
  size = size;
  sized = sized;
  figures = subst (λ (p : Image). IsStated size p (stated.Told figures)) same
      (subst (IsStated size pages) told states);
}
