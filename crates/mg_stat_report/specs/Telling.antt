-- What the command that prints the figures of a file prints, and how it ends.
use Rattle.std.specs.Prelude.{◌≡◌, ◌⊎◌, ℕ, false, Some, take}
use Rattle.mg_base.specs.Disk.{Meaning, Rose}
use Rattle.mg_base.specs.Image.{Image}
use Rattle.mg_base.specs.Streams.{SinkMeaning}
use Rattle.mg_base.specs.declared.damage.Field.{Field}
use Rattle.mg_base.specs.declared.geometry.TheConstants.{GREATEST_LIMIT}
use Rattle.mg_file_figures.specs.Stating.{IsStated}
use Rattle.mg_file_figures.specs.declared.figures.FileFigures.{FileFigures}
use Rattle.mg_file_figures.specs.declared.stating.Stated.TheVariants as stated
use Rattle.mg_findings.specs.declared.finding.Finding.{Finding}
use Rattle.mg_findings.specs.declared.finding.Rule.TheVariants.{Damage}
use Rattle.mg_limbo_report.specs.Report.{refusal_by}
use Rattle.mg_limbo_report.specs.declared.ending.LookEnd.{LookEnd}
use Rattle.mg_limbo_report.specs.declared.ending.LookEnd.TheVariants.{Told, Stream, Refused}
use Rattle.mg_model.specs.declared.refusal.Refusal.{Refusal}
use Rattle.mg_model.specs.declared.refusal.Refusal.TheVariants as refusals
use Rattle.mg_run_ends.specs.Ends.{has_fixed_line}
use Rattle.mg_run_ends.specs.Printing.{IsPrinted}
use Rattle.mg_script.specs.Texts.{outside_text}
use Rattle.mg_stat_report.specs.StatText.{stat_text}

-- ---- causes

-- these are the figures of some image
abbrev pub AreSomeFigures : FileFigures → Type 0
AreSomeFigures it = (size : ℕ) × (image : Image) × IsStated size image (stated.Told it)

-- Of a disk that holds this image, with the page size that it has told: these are the figures.
pub record IsToldOf {D : Type 0} (m : Meaning D) (disk : D) (image : Image) (it : FileFigures)
    : Type 0 where
  pub size : ℕ
  pub sized : m.size disk ≡ Some size
  pub figures : IsStated size (take GREATEST_LIMIT image) (stated.Told it)

-- Of such a disk: what is found first is what is refused.
pub record IsRefusedFor {D : Type 0} (m : Meaning D) (disk : D) (image : Image) (refusal : Refusal)
    : Type 0 where
  pub size : ℕ
  pub sized : m.size disk ≡ Some size
  pub finding : Finding
  pub found : IsStated size (take GREATEST_LIMIT image) (stated.Found finding)
  pub field : Field
  pub damage : finding.what ≡ Damage field
  pub is : refusal ≡ refusal_by field finding

-- why there are no figures: for the disk and for want of memory the image says nothing
abbrev pub IsCause : {D : Type 0} → Meaning D → D → Image → Refusal → Type 0
IsCause m disk image (refusals.DiskRead faults) = Unit {0}
IsCause m disk image refusals.Memory = Unit {0}
IsCause m disk image refusal = IsRefusedFor m disk image refusal

-- ---- ends

-- The sink took the lines of such figures, or, where it failed, a part of them from the first on.
pub record TellsFigures {K : Type 0} (P : FileFigures → Type 0) (n : SinkMeaning K) (old new : K) : Type 0 where
  pub figures : FileFigures
  pub told : P figures
  pub printed : IsPrinted n old new (stat_text figures)

-- what the sink took, by the end: all lines of such figures; a part of them, where the sink failed; or the line of such a
-- refusal, or a part of it where the sink failed
abbrev pub Tells : {K : Type 0} → (FileFigures → Type 0) → (Refusal → Type 0) → SinkMeaning K → K → K
    → LookEnd → Type 0
Tells P R n old new Told = TellsFigures P n old new × (n.faults new ≡ n.faults old)
Tells P R n old new Stream = TellsFigures P n old new × Rose (n.faults old) (n.faults new)
Tells P R n old new (Refused refusal) = R refusal × IsPrinted n old new (outside_text refusal)

-- this refusal ends the command; or there is no memory for its line, and that ends it
abbrev pub IsSaid : Refusal → Refusal → Type 0
IsSaid refusal told =
    (told ≡ refusal) ⊎ ((has_fixed_line refusal ≡ false) × (told ≡ refusals.Memory))

-- the line of a refusal is told
abbrev pub SaysRefusal : {K : Type 0} → SinkMeaning K → K → K → Refusal → LookEnd → Type 0
SaysRefusal n old new refusal end = Tells (λ it. ⊥) (IsSaid refusal) n old new end

-- the lines of these figures are told; or there is no memory for them
abbrev pub SaysFigures : {K : Type 0} → SinkMeaning K → K → K → FileFigures → LookEnd → Type 0
SaysFigures n old new it end =
    Tells (λ told. told ≡ it) (λ told. told ≡ refusals.Memory) n old new end
