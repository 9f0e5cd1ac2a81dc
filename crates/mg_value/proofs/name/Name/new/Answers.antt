use Rattle.mg_value.proofs.NameLemmas.{stored_name}
use Rattle.mg_value.proofs.name.Name.new.Goals as goal

pub invariant_of-result : goal.invariant_of-result
invariant_of-result c = stored_name _ _ c.copy_from_slice.ensures.after (c.is_name.ensures.0 c.if-not-is_name.false)
