use Rattle.std.specs.Prelude.{codes}
use Rattle.mg_shorthand.proofs.NameLemmas.{v_is_name}
use Rattle.mg_shorthand.proofs.TreeLemmas.{alone}
use Rattle.mg_shorthand.proofs.getting.value.Goals as goal

pub name-requires : goal.name-requires
name-requires c = v_is_name

pub returns : goal.returns
returns c = alone c.new-values.result.items c.push.new.self.items (codes "V") (rw c.name.ensures at c.in_ok-push.ensures.items)
    c.new-values.ensures.items
