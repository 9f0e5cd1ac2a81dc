use Rattle.mg_image.specs.Form.{packed_form}
use Rattle.mg_engine_step_laws.specs.tables_back.WholeLaws.{gone_are_whole}
use Rattle.mg_engine_step_laws.proofs.rows.gone_tables_are_whole.Goals as goal

pub returns : goal.returns
returns c = gone_are_whole packed_form
