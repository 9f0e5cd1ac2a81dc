-- Findings, their order, and the list of all findings of a kind.
use Rattle.std.specs.Prelude.{◌≡◌, ◌⊎◌, ◌↔◌, ◌+◌, ◌<◌, ℕ, List, [], ◌∷◌, Result, Ok, Err}
use Rattle.std.specs.Ordering.{nat_cmp, ordering_then}
use Rattle.std.specs.declared.cmp.Ordering.{Ordering}
use Rattle.std.specs.declared.cmp.Ordering.TheVariants.{Less}
use Rattle.mg_base.specs.declared.damage.Damaged.{Damaged}
use Rattle.mg_base.specs.declared.damage.Field.{Field}
use Rattle.mg_base.specs.declared.damage.Field.TheVariants.{Presence, Kind, Flags, Zero, Own, Owner, Sequence, Magic, Major, Minor, PageSize, Next, Oit, Oat, Ost, Link, Count, Offset, Cell, Row, Run, Target, Entry, Catalog, Bit, Indexed, Fence, State, Key, Level, Format}
use Rattle.mg_findings.specs.declared.finding.Finding.{Finding}
use Rattle.mg_findings.specs.declared.finding.Rule.{Rule}
use Rattle.mg_findings.specs.declared.finding.Rule.TheVariants.{Orphan, Unreached, Dead, Without, Damage}

-- the finding of a damage of a page as a whole
abbrev pub damage_finding : Damaged → Finding
damage_finding damage = record {
  page = damage.page;
  slot = 0;
  what = Damage damage.field;
  found = damage.found;
  wanted = damage.wanted;
}

-- the place of a field in the table of fields
abbrev pub field_place : Field → ℕ
field_place Presence = 0
field_place Kind = 1
field_place Flags = 2
field_place Zero = 3
field_place Own = 4
field_place Owner = 5
field_place Sequence = 6
field_place Magic = 7
field_place Major = 8
field_place Minor = 9
field_place PageSize = 10
field_place Next = 11
field_place Oit = 12
field_place Oat = 13
field_place Ost = 14
field_place Link = 15
field_place Count = 16
field_place Offset = 17
field_place Cell = 18
field_place Row = 19
field_place Run = 20
field_place Target = 21
field_place Entry = 22
field_place Catalog = 23
field_place Bit = 24
field_place Indexed = 25
field_place Fence = 26
field_place State = 27
field_place Key = 28
field_place Level = 29
field_place Format = 30

-- the place of what is found: leftovers, then damages by their field
abbrev pub rule_place : Rule → ℕ
rule_place Orphan = 0
rule_place Unreached = 1
rule_place Dead = 2
rule_place Without = 3
rule_place (Damage field) = 4 + field_place field

-- the order of findings: by page, slot, what is found, and the two numbers
abbrev pub finding_cmp : Finding → Finding → Ordering
finding_cmp a b =
    ordering_then
    (ordering_then
    (ordering_then (nat_cmp a.page.0 b.page.0) (nat_cmp a.slot b.slot))
    (nat_cmp (rule_place a.what) (rule_place b.what)))
    (ordering_then (nat_cmp a.found b.found) (nat_cmp a.wanted b.wanted))

-- a finding is one of these
abbrev pub Has : List Finding → Finding → Type 0
Has [] f = ⊥
Has (g ∷ gs) f = (f ≡ g) ⊎ Has gs f

-- a finding comes before each of these
abbrev pub ComesBefore : Finding → List Finding → Type 0
ComesBefore f [] = Unit {0}
ComesBefore f (g ∷ gs) = (finding_cmp f g ≡ Less) × ComesBefore f gs

-- findings ascend, and none stands twice
abbrev pub Ascend : List Finding → Type 0
Ascend [] = Unit {0}
Ascend (f ∷ fs) = ComesBefore f fs × Ascend fs

-- this is the list of the findings of a kind: it ascends, and has each of them and no other
pub record IsListOf (P : Finding → Type 0) (fs : List Finding) : Type 0 where
  pub ascend : Ascend fs
  pub members : (f : Finding) → Has fs f ↔ P f

-- lists that ascend and have the same findings are one
abbrev pub OneList : Type 0
OneList = (a b : List Finding) → Ascend a → Ascend b → ((f : Finding) → Has a f ↔ Has b f) → a ≡ b

-- what a test of a page tells of: the damage that it names, or nothing
abbrev pub Tells : Result (Unit {0}) Damaged → Finding → Type 0
Tells (Ok _) f = ⊥
Tells (Err damage) f = f ≡ damage_finding damage

-- to these findings come those of a kind, and no other
abbrev pub Adds : List Finding → List Finding → (Finding → Type 0) → Type 0
Adds old new P = (f : Finding) → Has new f ↔ (Has old f ⊎ P f)

-- of these tests, the first that tells of something tells of a finding: what stands behind a
-- damage is not looked at
pub record IsFirst (tests : ℕ → Result (Unit {0}) Damaged) (count : ℕ) (f : Finding)
    : Type 0 where
  pub at : ℕ
  pub within : at < count
  pub told : Tells (tests at) f
  pub before : (k : ℕ) → k < at → tests k ≡ Ok tt

-- nothing of a kind is found
abbrev pub HasNone : (Finding → Type 0) → Type 0
HasNone P = (f : Finding) → P f → ⊥

-- the findings of a rung, and those of the next ones where it has none
abbrev pub OfFirst : (Finding → Type 0) → (Finding → Type 0) → Finding → Type 0
OfFirst P Q f = P f ⊎ (HasNone P × Q f)
