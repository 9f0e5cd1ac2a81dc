use Rattle.mg_format.specs.FormatLaws.{empty_clean}
use Rattle.mg_page_tests.proofs.tests.format.store_over.Goals as goal

pub returns-in-Ok-clause-clean : goal.returns-in-Ok-clause-clean
returns-in-Ok-clause-clean g c = empty_clean c.in-Ok.store c.in-Ok.ensures.dirty
