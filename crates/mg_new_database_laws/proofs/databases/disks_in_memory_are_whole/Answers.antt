use Rattle.mg_new_database_laws.specs.MemLaws.{disks_are_whole}
use Rattle.mg_new_database_laws.proofs.databases.disks_in_memory_are_whole.Goals as goal

pub returns : goal.returns
returns c = disks_are_whole
