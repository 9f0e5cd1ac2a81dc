-- What the command that lists the transactions in limbo prints, and how it ends.
use Rattle.std.specs.Prelude.{◌≡◌, ◌⊎◌, ◌++◌, ℕ, Bool, true, false, List, [], ◌∷◌, Some, codes, decimal, take, if◌then◌else◌}
use Rattle.mg_base.specs.Disk.{Meaning, Rose}
use Rattle.mg_base.specs.Image.{Image, page_at}
use Rattle.mg_base.specs.Streams.{SinkMeaning}
use Rattle.mg_base.specs.declared.damage.Field.{Field}
use Rattle.mg_base.specs.declared.damage.Field.TheVariants as fields
use Rattle.mg_base.specs.declared.geometry.TheConstants.{GREATEST_LIMIT}
use Rattle.mg_base.specs.declared.numbers.TxNo.{TxNo}
use Rattle.mg_findings.specs.Findings.{HasNone}
use Rattle.mg_findings.specs.declared.finding.Finding.{Finding}
use Rattle.mg_findings.specs.declared.finding.Rule.{Rule}
use Rattle.mg_findings.specs.declared.finding.Rule.TheVariants as rules_
use Rattle.mg_image.specs.Inventory.{state_at}
use Rattle.mg_limbo_list.specs.Limbo.{IsFrontFinding, IsLeast, IsLimboList}
use Rattle.mg_model.specs.declared.refusal.Refusal.{Refusal}
use Rattle.mg_model.specs.declared.refusal.Refusal.TheVariants as refusals
use Rattle.mg_run_ends.specs.Ends.{FailsWith, refused_status, status}
use Rattle.mg_run_ends.specs.Printing.{IsPrinted}
use Rattle.mg_run_ends.specs.declared.status.Status.{Status}
use Rattle.mg_script.specs.Texts.{refusal_text}
use Rattle.mg_limbo_report.specs.declared.ending.LookEnd.{LookEnd}
use Rattle.mg_limbo_report.specs.declared.ending.LookEnd.TheVariants.{Told, Stream, Refused}

-- ---- texts

-- the line of a transaction in limbo
abbrev pub limbo_line : TxNo → List ℕ
limbo_line t = codes "LIMBO " ++ (decimal t.0 ++ (10 ∷ []))

-- the lines of those in limbo
abbrev pub limbo_text : List TxNo → List ℕ
limbo_text [] = []
limbo_text (t ∷ ts) = limbo_line t ++ limbo_text ts

-- the line of a refusal
abbrev pub care_text : Refusal → List ℕ
care_text refusal = codes "gfix: " ++ (refusal_text refusal ++ (10 ∷ []))

-- the line of such a refusal has no numbers
abbrev pub is_fixed : Refusal → Bool
is_fixed (refusals.DiskRead faults) = true
is_fixed refusals.Memory = true
is_fixed refusal = false

-- ---- causes

-- what is found is a damage
abbrev pub IsDamage : Rule → Type 0
IsDamage rules_.Orphan = ⊥
IsDamage rules_.Unreached = ⊥
IsDamage rules_.Dead = ⊥
IsDamage rules_.Without = ⊥
IsDamage (rules_.Damage field) = Unit {0}

-- the field tells of which kind a file is
abbrev pub tells_kind : Field → Bool
tells_kind fields.Magic = true
tells_kind fields.Major = true
tells_kind fields.Minor = true
tells_kind fields.PageSize = true
tells_kind field = false

-- the refusal for a damage of a field: a file of another kind, or a damaged page
abbrev pub refusal_by : Field → Finding → Refusal
refusal_by field f = if tells_kind field then refusals.NotADatabase field f.found
    else refusals.Damaged f.page field f.found f.wanted

-- Of a disk that holds this image, with the page size that it has told: nothing is found of the header and the
-- transaction inventory, and these are the transactions in limbo.
pub record IsToldOf {D : Type 0} (m : Meaning D) (disk : D) (image : Image) (list : List TxNo)
    : Type 0 where
  pub size : ℕ
  pub sized : m.size disk ≡ Some size
  pub none : HasNone (IsFrontFinding size (take GREATEST_LIMIT image))
  pub limbo : IsLimboList (state_at size (page_at size (take GREATEST_LIMIT image))) list

-- Of such a disk: the least finding of the header and the transaction inventory is what is refused.
pub record IsRefusedFor {D : Type 0} (m : Meaning D) (disk : D) (image : Image) (refusal : Refusal)
    : Type 0 where
  pub size : ℕ
  pub sized : m.size disk ≡ Some size
  pub finding : Finding
  pub least : IsLeast (IsFrontFinding size (take GREATEST_LIMIT image)) finding
  pub field : Field
  pub damage : finding.what ≡ rules_.Damage field
  pub is : refusal ≡ refusal_by field finding

-- why the list is refused: for the disk and for want of memory the image says nothing
abbrev pub IsCause : {D : Type 0} → Meaning D → D → Image → Refusal → Type 0
IsCause m disk image (refusals.DiskRead faults) = Unit {0}
IsCause m disk image refusals.Memory = Unit {0}
IsCause m disk image refusal = IsRefusedFor m disk image refusal

-- the refusals of the command
abbrev pub IsCareRefusal : Refusal → Type 0
IsCareRefusal (refusals.DiskRead faults) = Unit {0}
IsCareRefusal (refusals.NotADatabase field found) = Unit {0}
IsCareRefusal (refusals.Damaged page field found wanted) = Unit {0}
IsCareRefusal refusals.Memory = Unit {0}
IsCareRefusal refusal = ⊥

-- ---- ends

abbrev pub status_of : LookEnd → Status
status_of Told = status 0
status_of Stream = status 5
status_of (Refused refusal) = refused_status refusal

-- an end by the disk comes only where its count of faults rose, and any other only where it stands
abbrev pub EndsWith : {D : Type 0} → Meaning D → D → D → LookEnd → Type 0
EndsWith m old new Told = m.faults new ≡ m.faults old
EndsWith m old new Stream = m.faults new ≡ m.faults old
EndsWith m old new (Refused refusal) = FailsWith m old new refusal

-- The sink took the lines of a list, or, where it failed, a part of them from the first on.
pub record TellsList {K : Type 0} (P : List TxNo → Type 0) (n : SinkMeaning K) (old new : K) : Type 0 where
  pub list : List TxNo
  pub told : P list
  pub printed : IsPrinted n old new (limbo_text list)

-- what the sink took, by the end: all lines of such a list; a part of them, where the sink failed; or the line of such a
-- refusal, or a part of it where the sink failed
abbrev pub Tells : {K : Type 0} → (List TxNo → Type 0) → (Refusal → Type 0) → SinkMeaning K → K → K
    → LookEnd → Type 0
Tells P R n old new Told = TellsList P n old new × (n.faults new ≡ n.faults old)
Tells P R n old new Stream = TellsList P n old new × Rose (n.faults old) (n.faults new)
Tells P R n old new (Refused refusal) = R refusal × IsPrinted n old new (care_text refusal)

-- this refusal ends the command; or there is no memory for its line, and that ends it
abbrev pub IsSaid : Refusal → Refusal → Type 0
IsSaid refusal told =
    (told ≡ refusal) ⊎ ((is_fixed refusal ≡ false) × (told ≡ refusals.Memory))

-- the line of a refusal is told
abbrev pub SaysRefusal : {K : Type 0} → SinkMeaning K → K → K → Refusal → LookEnd → Type 0
SaysRefusal n old new refusal end =
    Tells (λ list. ⊥) (IsSaid refusal) n old new end

-- the lines of this list are told; or there is no memory for them
abbrev pub SaysList : {K : Type 0} → SinkMeaning K → K → K → List TxNo → LookEnd → Type 0
SaysList n old new list end =
    Tells (λ told. told ≡ list) (λ told. told ≡ refusals.Memory) n old new end
