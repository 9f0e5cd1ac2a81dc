use Rattle.mg_model.specs.UndoLaws.{own_taken_back, view_taken_back}
use Rattle.mg_model.proofs.laws.points_restore.Goals as goal

pub returns-clause-own : goal.returns-clause-own
returns-clause-own c = λ o h t point sets since undoes it.
    own_taken_back o h t point sets since undoes it.sets_it it.within it.is_last it.undoes_it

pub returns-clause-view : goal.returns-clause-view
returns-clause-view c = λ o h t point sets since undoes it one.
    view_taken_back o h t point sets since undoes it.sets_it it.within it.is_last it.undoes_it one
