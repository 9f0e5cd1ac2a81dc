use Rattle.mg_transcript.proofs.FrontLemmas.{front_before}
use Rattle.mg_transcript.proofs.turn.put_turn.Goals as goal

pub returns-clause-front : goal.returns-clause-front
returns-clause-front c =
    front_before _ _ _ _ c.in_ok-answer_text.ensures.ok c.put_released.ensures.front
