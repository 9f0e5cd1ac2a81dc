use Rattle.mg_generation_laws.specs.TakenBackLaws.{generations_taken_back}
use Rattle.mg_generation_laws.specs.UndoneLaws.{generations_undone, undone_steps, undone_state, undone_database}
use Rattle.mg_generation_laws.proofs.laws.versions_taken_back.Goals as goal

pub returns-clause-left : goal.returns-clause-left
returns-clause-left c = λ o h e table key gs t point opening legal it.
    generations_taken_back o opening h e legal table key gs it t point

pub returns-clause-undone : goal.returns-clause-undone
returns-clause-undone c = λ o h table key gs t sets since undoes opening legal undone.
    generations_undone o opening table key gs h t sets since undoes legal undone

pub returns-clause-all : goal.returns-clause-all
returns-clause-all c = λ o h t sets since undoes undone. (
  undone_steps o h t sets since undoes undone,
  undone_state o h t sets since undoes undone,
  undone_database o h t sets since undoes undone,
)
