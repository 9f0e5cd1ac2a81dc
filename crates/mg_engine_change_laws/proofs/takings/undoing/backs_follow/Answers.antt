use Rattle.mg_engine_change_laws.specs.backs.MemoryLaws.{backs_follow}
use Rattle.mg_engine_change_laws.proofs.takings.undoing.backs_follow.Goals as goal

pub returns : goal.returns
returns c = backs_follow c.the_list_follows_the_machine.ensures.back c.keys_are_taken.ensures.since
