-- A change that was kept is not made after all.
use Rattle.std.specs.Prelude.{ℕ, List}
use Rattle.mg_core.specs.Putting.{works_kept}
use Rattle.mg_undo.specs.declared.changes.Was.{Was}
use Rattle.mg_value.specs.declared.value.Value.{Value}
use Rattle.mg_works.specs.Works.{Working, with_work, without_change}

-- the works, where a change was kept and is not made after all: what is left is that the commit is no longer asked for
abbrev pub works_retracted : ℕ → ℕ → Value → Was → List Working → List Working
works_retracted t owner key was works = with_work t without_change (works_kept t owner key was works)
