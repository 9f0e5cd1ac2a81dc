use Rattle.mg_no_damage_laws.proofs.InventoryLemmas.{pages_taken, regions_kept}
use Rattle.mg_no_damage_laws.proofs.reads.pages_are_taken.Goals as goal

pub returns-clause-taken : goal.returns-clause-taken
returns-clause-taken c = pages_taken

pub returns-clause-kept : goal.returns-clause-kept
returns-clause-kept c = regions_kept
