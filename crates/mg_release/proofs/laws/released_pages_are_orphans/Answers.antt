use Rattle.mg_release.proofs.ReleaseLemmas.{orphan_law}
use Rattle.mg_release.proofs.laws.released_pages_are_orphans.Goals as goal

pub returns : goal.returns
returns c = orphan_law
