use Rattle.mg_free_page_laws.specs.BatchLawsHold.{batch_laws}
use Rattle.mg_free_page_laws.proofs.batches.batches_take_few.Goals as goal

pub returns : goal.returns
returns g c = batch_laws g.D.Disk.meaning
