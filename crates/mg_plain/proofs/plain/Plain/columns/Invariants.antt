-- The columns so far, and those that are left.
use Rattle.std.proofs.Common.{◌≡◌, ◌-◌, ◌++◌, ◌≤◌, length}
use Rattle.mg_model.specs.Catalog.{columns_said}
use Rattle.mg_model.specs.Answers.{catalog_of}
use Rattle.mg_plain.specs.Keeping.{told_in}
use Rattle.mg_plain.specs.Kept.{kept}
use Rattle.mg_plain.proofs.plain.Plain.columns.Given as goal

abbrev pub invariant-loop-place : goal.invariant-loop-place
invariant-loop-place l = record {
  made : l.columns.items ++ columns_said (catalog_of (told_in (kept l.self)) l.t) l.table l.place (l.count - l.place)
      ≡ columns_said (catalog_of (told_in (kept l.self)) l.t) l.table 0 l.count;
  few : length l.columns.items ≤ l.place;
}
