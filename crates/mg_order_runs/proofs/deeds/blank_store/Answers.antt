use Rattle.mg_format.specs.FormatLaws.{empty_clean}
use Rattle.mg_order_runs.proofs.deeds.blank_store.Goals as goal

pub returns-in-Ok-clause-clean : goal.returns-in-Ok-clause-clean
returns-in-Ok-clause-clean c = empty_clean c.in-Ok.store c.in-Ok.ensures.dirty
