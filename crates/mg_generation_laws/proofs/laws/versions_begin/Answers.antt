use Rattle.mg_generation_laws.specs.BeginLaws.{generations_begin, row_begins}
use Rattle.mg_generation_laws.specs.AfterLaws.{generations_come}
use Rattle.mg_generation_laws.proofs.laws.versions_begin.Goals as goal

pub returns-clause-begin : goal.returns-clause-begin
returns-clause-begin c = λ o table key gs opening it. generations_begin o table key gs opening it

pub returns-clause-row : goal.returns-clause-row
returns-clause-row c = row_begins

pub returns-clause-come : goal.returns-clause-come
returns-clause-come c = λ o table key first h opening legal begin.
    generations_come o opening table key first begin h legal
