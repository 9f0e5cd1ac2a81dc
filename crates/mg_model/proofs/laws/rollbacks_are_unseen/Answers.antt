use Rattle.mg_model.specs.CommitLaws.{view_is_settled}
use Rattle.mg_model.specs.NumberLaws.{committed_stays, committed_keeps}
use Rattle.mg_model.proofs.laws.rollbacks_are_unseen.Goals as goal

pub returns-clause-view : goal.returns-clause-view
returns-clause-view c = λ o h t c opening legal has. view_is_settled o opening h legal t c has

pub returns-clause-committed : goal.returns-clause-committed
returns-clause-committed c = λ o h e t opening legal committed. (
  committed_stays o opening h e legal t committed,
  committed_keeps o opening h e legal t committed,
)
