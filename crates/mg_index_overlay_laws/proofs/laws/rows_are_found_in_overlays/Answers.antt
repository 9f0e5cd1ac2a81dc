use Rattle.mg_index_overlay_laws.specs.IndexLaws.{rows_stay_found}
use Rattle.mg_index_overlay_laws.proofs.laws.rows_are_found_in_overlays.Goals as goal

pub returns : goal.returns
returns c = rows_stay_found
