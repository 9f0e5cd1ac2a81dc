use Rattle.mg_model.specs.OverlapLaws.{writers_in_turn}
use Rattle.mg_model.proofs.laws.writers_take_turns.Goals as goal

pub returns : goal.returns
returns c = λ o h t u table key opening legal both.
    writers_in_turn o opening h legal t u table key both
