-- Whether a change that is given is of the catalog.
use Rattle.std.proofs.Common.{◌≡◌, ℕ, Bool, true, false, List, None, Some, ap, subst, sym, ◌∙◌}
use Rattle.mg_model.specs.declared.change.Point.{Point}
use Rattle.mg_model.specs.declared.change.Point.TheVariants.{SavepointNamed}
use Rattle.mg_undo.specs.Machine.{going_to}
use Rattle.mg_undo.specs.Undo.{State as Undo, TellsTable, after_back_to, has_point}
use Rattle.mg_works.specs.Works.{Working, work_of}
use Rattle.mg_taking_back.specs.Taking.{IsUndoOf, MayReach}

one_undo : (works : List Working) (t : ℕ) (work : Working) (undo : Undo) → Some work ≡ work_of works t
    → IsUndoOf works t undo → undo ≡ work.undo
one_undo works t work undo is (other, its, has) =
    let both : Some other ≡ Some work = sym its ∙ sym is in
    let same : other ≡ work = cc in sym has ∙ ap (λ (w : Working). w.undo) same

-- what is told of its work is told of what it has to take back
pub told_at : (number : ℕ) (works : List Working) (t : ℕ) (work : Working) (some : Bool) → Some work ≡ work_of works t
    → TellsTable number work.undo some → (undo : Undo) → IsUndoOf works t undo → TellsTable number undo some
told_at number works t work some is tells undo its =
    subst (λ (u : Undo). TellsTable number u some) (sym (one_undo works t work undo is its)) tells

-- so it is behind a savepoint that stands
pub told_behind : (number : ℕ) (works : List Working) (t : ℕ) (work : Working) (name : List ℕ) (some : Bool)
    → Some work ≡ work_of works t
    → (has_point work.undo (Some name) ≡ true → TellsTable number (after_back_to work.undo name) some)
    → (undo : Undo) → IsUndoOf works t undo → MayReach undo (SavepointNamed name)
    → TellsTable number (going_to undo (SavepointNamed name)) some
told_behind number works t work name some is tells undo its reaches =
    let same = one_undo works t work undo is its in
    subst (λ (u : Undo). TellsTable number (after_back_to u name) some) (sym same)
    (tells (ap (λ (u : Undo). has_point u (Some name)) (sym same) ∙ reaches))

-- no work is there
pub told_nobody : (number : ℕ) (works : List Working) (t : ℕ) (point : Point) → None ≡ work_of works t → (undo : Undo)
    → IsUndoOf works t undo → TellsTable number (going_to undo point) false
told_nobody number works t point none undo (work, its, has) =
    let both : None ≡ Some work = none ∙ its in absurd cc
