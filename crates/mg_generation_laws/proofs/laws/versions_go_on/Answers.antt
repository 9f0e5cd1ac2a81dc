use Rattle.mg_generation_laws.specs.AfterLaws.{generations_go_on}
use Rattle.mg_generation_laws.specs.CaseLaws.{generations_given_elsewhere, generations_made_elsewhere, generations_left, generations_given, generations_made, generations_dead}
use Rattle.mg_generation_laws.proofs.laws.versions_go_on.Goals as goal

pub returns-clause-onward : goal.returns-clause-onward
returns-clause-onward c = λ o h e table key gs opening legal it.
    generations_go_on o opening h e legal table key gs it

pub returns-clause-others : goal.returns-clause-others
returns-clause-others c = λ o h e table key gs opening legal it.
    generations_left o opening h e legal table key gs it

pub returns-clause-given : goal.returns-clause-given
returns-clause-given c = λ o h e table key gs t row opening legal it.
    generations_given o opening h e legal table key gs it t row

pub returns-clause-made : goal.returns-clause-made
returns-clause-made c = λ o h e table key gs t row opening legal it.
    generations_made o opening h e legal table key gs it t row

pub returns-clause-elsewhere : goal.returns-clause-elsewhere
returns-clause-elsewhere c = λ o h e table key gs t named opening legal it. (
  generations_given_elsewhere o opening h e legal table key gs it t named,
  generations_made_elsewhere o opening h e legal table key gs it t named,
)

pub returns-clause-dead : goal.returns-clause-dead
returns-clause-dead c = λ o h e table key gs t opening legal it.
    generations_dead o opening h e legal table key gs it t
