-- Where a transaction is taken back to, and what is then left of the newest steps.
use Rattle.std.specs.Prelude.{ℕ, ◌+◌, ◌==◌, ◌&&◌, List, [], ◌∷◌, ◌++◌, take, drop, Option, Some, None, if◌then◌else◌}
use Rattle.mg_model.specs.declared.change.Deed.TheVariants.{Marked}
use Rattle.mg_model.specs.declared.change.Step.{Step}
use Rattle.mg_model.specs.declared.change.Point.{Point}
use Rattle.mg_model.specs.declared.change.Point.TheVariants.{LastMark, SavepointNamed}
use Rattle.mg_model.specs.Machine.{is_point}

-- the place of the newest step of a transaction that sets a point, counted from a place
abbrev pub first_point_from : ℕ → ℕ → Point → List Step → Option ℕ
first_point_from place t point [] = None
first_point_from place t point (s ∷ steps) =
    if s.by.0 == t && is_point point s.deed then Some place
    else first_point_from (place + 1) t point steps

abbrev pub first_point : ℕ → Point → List Step → Option ℕ
first_point t point steps = first_point_from 0 t point steps

-- how many steps a transaction is taken back by, with the point at a place: a mark ends, and a
-- savepoint stays
abbrev pub span : Point → ℕ → ℕ
span LastMark place = place + 1
span (SavepointNamed name) place = place

-- the steps of others
abbrev pub without_by : ℕ → List Step → List Step
without_by t [] = []
without_by t (s ∷ steps) = if s.by.0 == t then without_by t steps else s ∷ without_by t steps

-- the steps, without those of a transaction among the first ones
abbrev pub cleared : ℕ → ℕ → List Step → List Step
cleared t count steps = without_by t (take count steps) ++ drop count steps

-- a step of nobody, where no step is
abbrev pub nobody : Step
nobody = record { by = record { 0 = 0 }; deed = Marked }
