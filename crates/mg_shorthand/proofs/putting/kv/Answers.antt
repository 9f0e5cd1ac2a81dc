use Rattle.mg_shorthand.proofs.NameLemmas.{kv_is_name}
use Rattle.mg_shorthand.proofs.putting.kv.Goals as goal

pub unwrap-requires : goal.unwrap-requires
unwrap-requires c = c.new.ensures.named.1 kv_is_name
