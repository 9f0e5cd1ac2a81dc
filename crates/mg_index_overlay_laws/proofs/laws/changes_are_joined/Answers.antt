use Rattle.mg_index_overlay_laws.specs.JoinLaws.{changes_join}
use Rattle.mg_index_overlay_laws.proofs.laws.changes_are_joined.Goals as goal

pub returns : goal.returns
returns c = changes_join
