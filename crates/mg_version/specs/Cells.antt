-- What a cell is, its one spelling, and when bytes are refused.
use Rattle.std.specs.Prelude.{◌≡◌, ◌<◌, ◌≤◌, ◌^◌, ◌+◌, ◌/◌, ◌%◌, ℕ, Bool, false, List, [], ◌∷◌, ◌++◌, length, take, Option, Some, None, IfSome, is_some, if◌then◌else◌}
use Rattle.mg_base.specs.Fields.{byte}
use Rattle.mg_version.specs.declared.cell.TheConstants.{ANCHOR, VERSION, DELETED, HAS_BACK}
use Rattle.mg_version.specs.declared.cell.Link.{Link}
use Rattle.mg_version.specs.declared.cell.Version.{Version}
use Rattle.mg_version.specs.declared.cell.Cell.{Cell}
use Rattle.mg_version.specs.declared.cell.Cell.TheVariants as cells
use Rattle.mg_version.specs.declared.cell.CellFault.{CellFault}
use Rattle.mg_version.specs.declared.cell.CellFault.TheVariants as faults

-- a number as two bytes, the low byte first
abbrev pub bytes_of_u16 : ℕ → List ℕ
bytes_of_u16 n = n % 256 ∷ n / 256 ∷ []

-- a number as four bytes, the low byte first
abbrev pub bytes_of_u32 : ℕ → List ℕ
bytes_of_u32 n = n % 256 ∷ n / 256 % 256 ∷ n / 65536 % 256 ∷ n / 16777216 ∷ []

-- where a link leads: page, slot and transaction
abbrev pub link_bytes : Link → List ℕ
link_bytes link =
    bytes_of_u32 link.rec.page.0 ++ bytes_of_u16 link.rec.slot ++ bytes_of_u32 link.tx.0

-- the back pointer, where there is one
abbrev pub back_bytes : Option Link → List ℕ
back_bytes None = []
back_bytes (Some link) = link_bytes link

-- deleted, and whether there is a back version
abbrev pub flags_of : Bool → Option Link → ℕ
flags_of deleted back = (if deleted then DELETED else 0) + (if is_some back then HAS_BACK else 0)

-- what stands before a version's back pointer: kind, flags, format and transaction
abbrev pub head_bytes : Version → List ℕ
head_bytes v = VERSION ∷ flags_of v.deleted v.back ∷ bytes_of_u16 v.format ++ bytes_of_u32 v.tx.0

-- the one spelling of a cell
unfoldable pub cell_bytes : Cell → List ℕ
cell_bytes (cells.Anchor link) = ANCHOR ∷ link_bytes link
cell_bytes (cells.Version v) = head_bytes v ++ back_bytes v.back ++ v.body

-- each number is that of a byte
abbrev pub AreBytes : List ℕ → Type 0
AreBytes b = (i : ℕ) → byte b i < 256

-- the numbers of a link fit their widths
pub record IsLink (link : Link) : Type 0 where
  pub page : link.rec.page.0 < 2 ^ 32
  pub slot : link.rec.slot < 2 ^ 16
  pub tx : link.tx.0 < 2 ^ 32

-- a version that has a spelling: outside its primary slot, of some format, its numbers fit
pub record IsVersion (v : Version) : Type 0 where
  pub moved : v.primary ≡ false
  pub stored : 1 ≤ v.format
  pub format : v.format < 2 ^ 16
  pub tx : v.tx.0 < 2 ^ 32
  pub back : IfSome v.back IsLink
  pub body : AreBytes v.body

-- a well-formed cell
abbrev pub IsCell : Cell → Type 0
IsCell (cells.Anchor link) = IsLink link
IsCell (cells.Version v) = IsVersion v

-- what the types of the program do not say of a cell that is written
abbrev pub IsWritable : Cell → Type 0
IsWritable (cells.Anchor link) = Unit {0}
IsWritable (cells.Version v) = (v.primary ≡ false) × (1 ≤ v.format)

-- these bytes are the spelling of this cell
pub record IsSpelling (b : List ℕ) (cell : Cell) : Type 0 where
  pub is_cell : IsCell cell
  pub spelled : b ≡ cell_bytes cell

-- some cell's spelling begins with these bytes
pub record IsCellPrefix (p : List ℕ) : Type 0 where
  pub cell : Cell
  pub is_cell : IsCell cell
  pub more : List ℕ
  pub begins : cell_bytes cell ≡ p ++ more

-- bytes are no cell's spelling, and their longest prefix that begins one ends here
pub record RefusesCell (b : List ℕ) (at : ℕ) : Type 0 where
  pub inside : at ≤ length b
  pub begins : IsCellPrefix (take at b)
  pub longest : (n : ℕ) → at < n → n ≤ length b → IsCellPrefix (take n b) → ⊥
  pub none : (cell : Cell) → IsSpelling b cell → ⊥

-- when a fault is the answer: want of memory is met by a version's spelling alone
abbrev pub CausesFault : List ℕ → CellFault → Type 0
CausesFault b (faults.BadCell at) = RefusesCell b at
CausesFault b faults.Memory = (v : Version) × IsSpelling b (cells.Version v)
