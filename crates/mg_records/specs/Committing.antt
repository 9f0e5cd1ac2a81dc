-- The pages of a commit.
use Rattle.std.specs.Prelude.{◌≡◌, ℕ, ◌+◌, ◌≤◌, Bool, true, false, Result, Ok, Err}
use Rattle.mg_model.specs.declared.refusal.Refusal.{Refusal}
use Rattle.mg_records.specs.Meaning.{Means}

-- at most so many pages are changed and not written
abbrev pub PagesAreFew : {R P : Type 0} → Means R P → Type 0
PagesAreFew {R = R} m = (r : R) → m.unwritten r ≤ 512

-- all that was noted for a commit was written before, and no page is; or it was not, and one page is
abbrev pub WritesOne : {R P : Type 0} → Means R P → R → R → ℕ → Result Bool Refusal → Type 0
WritesOne m old new t (Ok true) = m.is_written old t × m.is_written new t
    × (m.unwritten new ≡ m.unwritten old)
WritesOne m old new t (Ok false) = (m.is_written old t → ⊥) × m.is_asked new t
    × (m.unwritten old ≡ m.unwritten new + 1)
WritesOne m old new t (Err refusal) = m.is_asked new t
