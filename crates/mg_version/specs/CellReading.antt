-- What the fields of bytes say, if they are those of a cell.
use Rattle.std.specs.Prelude.{◌≤◌, ◌<◌, ◌+◌, ◌%◌, ◌==◌, ℕ, false, List, length, drop, Option, Some, None, nat_lt, if◌then◌else◌}
use Rattle.mg_base.specs.Fields.{byte, u16_at, u32_at}
use Rattle.mg_version.specs.declared.cell.TheConstants.{HAS_BACK, FLAGS_AT, FORMAT_AT, TX_AT, BACK_AT, BODY_AFTER_BACK}
use Rattle.mg_version.specs.declared.cell.Link.{Link}
use Rattle.mg_version.specs.declared.cell.Version.{Version}

-- the link at a place
abbrev pub link_in : List ℕ → ℕ → Link
link_in b at = record {
  rec = record { page = record { 0 = u32_at b at }; slot = u16_at b (at + 4) };
  tx = record { 0 = u32_at b (at + 6) };
}

-- where the packed row of a version begins
abbrev pub body_at : List ℕ → ℕ
body_at b = if nat_lt (byte b FLAGS_AT) HAS_BACK then BACK_AT else BODY_AFTER_BACK

-- the back pointer of a version, where it has one
abbrev pub back_in : List ℕ → Option Link
back_in b = if nat_lt (byte b FLAGS_AT) HAS_BACK then None else Some (link_in b BACK_AT)

-- the version of these fields
abbrev pub version_in : List ℕ → Version
version_in b = record {
  primary = false;
  deleted = byte b FLAGS_AT % 2 == 1;
  format = u16_at b FORMAT_AT;
  tx = record { 0 = u32_at b TX_AT };
  back = back_in b;
  body = drop (body_at b) b;
}

-- the fields before the packed row are there, and none of them is refused
pub record HasVersionHead (b : List ℕ) : Type 0 where
  pub flags : byte b FLAGS_AT < 4
  pub stored : 1 ≤ u16_at b FORMAT_AT
  pub whole : body_at b ≤ length b
