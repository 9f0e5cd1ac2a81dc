-- An engine goes on to stand for a history.
use Rattle.mg_model.specs.Laws.{OpeningsBegin}
use Rattle.mg_image.specs.Form.{Form}
use Rattle.mg_engine_step_laws.specs.standing.Following.{MemoryFollows, StandsOn}

pub stands_on : (form : Form) → OpeningsBegin → MemoryFollows → StandsOn form
stands_on form begin follow size o h e s new pages later stands lawful follows shows = record {
  opening = stands.opening;
  legal = (lawful, stands.legal);
  memory = follow o h e s new (begin o stands.opening) (lawful, stands.legal) stands.memory follows;
  shows = shows;
}
