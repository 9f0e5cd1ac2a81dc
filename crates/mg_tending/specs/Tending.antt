-- The writing of changed pages.
use Rattle.std.specs.Prelude.{◌≡◌, ◌+◌, Bool, true, false, Result, Ok, Err}
use Rattle.mg_model.specs.declared.refusal.Refusal.{Refusal}
use Rattle.mg_records.specs.Meaning.{Means}

-- a changed page was written; or none was changed, and none is
abbrev pub WritesAPage : {R P : Type 0} → Means R P → R → R → Result Bool Refusal → Type 0
WritesAPage m old new (Ok true) = m.unwritten old ≡ m.unwritten new + 1
WritesAPage m old new (Ok false) = (m.unwritten old ≡ 0) × (m.unwritten new ≡ 0)
WritesAPage m old new (Err refusal) = Unit {0}
