-- The columns that are left decide.
use Rattle.std.proofs.Common.{◌≡◌, ◌-◌}
use Rattle.mg_model.specs.Catalog.{key_said}
use Rattle.mg_model.specs.Answers.{catalog_of}
use Rattle.mg_plain.specs.Keeping.{told_in}
use Rattle.mg_plain.specs.Kept.{kept}
use Rattle.mg_plain.proofs.plain.Plain.key_among.Given as goal

abbrev pub invariant-loop-place : goal.invariant-loop-place
invariant-loop-place l =
    key_said (catalog_of (told_in (kept l.self)) l.t) l.table l.place (l.count - l.place)
    ≡ key_said (catalog_of (told_in (kept l.self)) l.t) l.table 0 l.count
