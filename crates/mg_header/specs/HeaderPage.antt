-- What a header page means: a record of its fields.
use Rattle.std.specs.Prelude.{◌≡◌, ◌≤◌, ℕ, List, [], ◌∷◌, ◌++◌, Result, Ok, Err, length, take, min, max}
use Rattle.mg_base.specs.Fields.{byte, u16_at, u32_at}
use Rattle.mg_base.specs.declared.fields.TheConstants.{COMMON}
use Rattle.mg_base.specs.declared.numbers.PageNo.{PageNo}
use Rattle.mg_base.specs.declared.damage.Damaged.{Damaged}
use Rattle.mg_base.specs.declared.damage.Field.TheVariants as fields
use Rattle.mg_base.specs.Checks.{Check, common_checks, verdict}
use Rattle.mg_header.specs.declared.header.TheConstants.{HEADER_KIND, MAGIC, MAJOR, OPENED_MINOR, GREATEST_NEXT, MAGIC_AT, MAJOR_AT, MINOR_AT, PAGE_SIZE_AT, NEXT_AT, OIT_AT, OAT_AT, OST_AT, LAST_TIP_AT, INTERVAL_AT, CATALOG_AT, HEADER_END}
use Rattle.mg_header.specs.declared.header.Header.{Header}
use Rattle.mg_header.specs.declared.header.HeadFault.{HeadFault}
use Rattle.mg_header.specs.declared.header.HeadFault.TheVariants as faults

-- the number of the header page
abbrev pub the_page : PageNo
the_page = record { 0 = 0 }

-- the fields of a page
abbrev pub header_in : List ℕ → Header
header_in b = record {
  minor = u16_at b MINOR_AT;
  next = record { 0 = u32_at b NEXT_AT };
  oit = record { 0 = u32_at b OIT_AT };
  oat = record { 0 = u32_at b OAT_AT };
  ost = record { 0 = u32_at b OST_AT };
  last_tip = record { 0 = u32_at b LAST_TIP_AT };
  interval = u32_at b INTERVAL_AT;
  catalog = record { 0 = u32_at b CATALOG_AT };
}

-- the number from low to high that is nearest to a number
abbrev pub nearest : ℕ → ℕ → ℕ → ℕ
nearest low high number = max (min number high) low

-- the tests that tell a file of another kind, where minor versions up to one are read
unfoldable pub file_checks : List ℕ → ℕ → ℕ → List Check
file_checks b minor size =
    (fields.Magic, u32_at b MAGIC_AT, MAGIC)
    ∷ (fields.Major, u16_at b MAJOR_AT, MAJOR)
    ∷ (fields.Minor, u16_at b MINOR_AT, min (u16_at b MINOR_AT) minor)
    ∷ (fields.PageSize, u32_at b PAGE_SIZE_AT, size)
    ∷ []

-- those of a database that is opened
abbrev pub database_checks : List ℕ → ℕ → List Check
database_checks b size = file_checks b OPENED_MINOR size

-- the tests of the numbers of transactions, each by those before it
unfoldable pub marker_checks : List ℕ → List Check
marker_checks b =
    (fields.Next, u32_at b NEXT_AT, nearest 1 GREATEST_NEXT (u32_at b NEXT_AT))
    ∷ (fields.Oit, u32_at b OIT_AT, nearest 1 (u32_at b NEXT_AT) (u32_at b OIT_AT))
    ∷ (fields.Oat, u32_at b OAT_AT, nearest (u32_at b OIT_AT) (u32_at b NEXT_AT) (u32_at b OAT_AT))
    ∷ (fields.Ost, u32_at b OST_AT, nearest (u32_at b OIT_AT) (u32_at b OAT_AT) (u32_at b OST_AT))
    ∷ []

-- the tests behind those of the file
abbrev pub page_checks : List ℕ → List Check
page_checks b = common_checks b 0 HEADER_KIND 0 0 ++ marker_checks b

-- the fields where no test differs; a difference of the file is told without what was wanted
abbrev pub told : Result (Unit {0}) Damaged → Result (Unit {0}) Damaged → Header
    → Result Header HeadFault
told (Err damage) page header = Err (faults.NotADatabase damage.field damage.found)
told (Ok _) (Err damage) header = Err (faults.Damaged damage)
told (Ok _) (Ok _) header = Ok header

-- what reading a page with a page size answers, where minor versions up to one are read
unfoldable pub reading_upto : List ℕ → ℕ → ℕ → Result Header HeadFault
reading_upto b minor size = told
    (verdict the_page (file_checks b minor size))
    (verdict the_page (page_checks b))
    (header_in b)

-- what it answers of a database that is opened
abbrev pub reading : List ℕ → ℕ → Result Header HeadFault
reading b size = reading_upto b OPENED_MINOR size

-- the numbers of transactions are in order
pub record AreMarkers (oit ost oat next : ℕ) : Type 0 where
  pub least : 1 ≤ oit
  pub oit_ost : oit ≤ ost
  pub ost_oat : ost ≤ oat
  pub oat_next : oat ≤ next
  pub greatest : next ≤ GREATEST_NEXT

-- the fields are set, and what tells that the file is a database with such pages; each byte before
-- and behind them stays
pub record WritesHeader (old new : List ℕ) (h : Header) : Type 0 where
  pub header : header_in new ≡ h
  pub magic : u32_at new MAGIC_AT ≡ MAGIC
  pub major : u16_at new MAJOR_AT ≡ MAJOR
  pub page_size : u32_at new PAGE_SIZE_AT ≡ length old
  pub len : length new ≡ length old
  pub front : take COMMON new ≡ take COMMON old
  pub behind : (at : ℕ) → HEADER_END ≤ at → byte new at ≡ byte old at
