use Rattle.mg_generation_laws.specs.WriterLaws.{obstacle_is_writer}
use Rattle.mg_generation_laws.specs.NewestLaws.{obstacle_is_newest}
use Rattle.mg_generation_laws.specs.TableLaws.{old_table_hinders_not}
use Rattle.mg_generation_laws.proofs.laws.obstacles_are_writers.Goals as goal

pub returns-clause-writer : goal.returns-clause-writer
returns-clause-writer c = λ o h t table key gs opening legal it.
    obstacle_is_writer o opening h legal t table key gs it

pub returns-clause-newest : goal.returns-clause-newest
returns-clause-newest c = λ o h t table key gs opening legal it.
    obstacle_is_newest o opening h legal t table key gs it

pub returns-clause-old : goal.returns-clause-old
returns-clause-old c = λ o h t table gs opening legal it old.
    old_table_hinders_not o opening h legal t table gs it old
