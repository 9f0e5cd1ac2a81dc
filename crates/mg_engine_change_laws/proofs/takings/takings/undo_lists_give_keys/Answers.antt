use Rattle.mg_engine_change_laws.specs.backs.GivenLaws.{undo_lists_give_keys}
use Rattle.mg_engine_change_laws.proofs.takings.takings.undo_lists_give_keys.Goals as goal

pub returns : goal.returns
returns c = undo_lists_give_keys c.what_was_is_given.ensures c.keys_are_taken.ensures.keys
