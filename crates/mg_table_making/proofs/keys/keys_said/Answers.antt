use Rattle.std.proofs.Common.{rules, ◌≡◌, subst, sym}
use Rattle.mg_model.specs.Catalog.{catalog_shape}
use Rattle.mg_table_batch.specs.Filling.{rows_at}
use Rattle.mg_value.specs.declared.shape.Shape.{Shape}
use Rattle.mg_table_making.specs.Keys.{HaveKeys}
use Rattle.mg_table_making.proofs.KeyLemmas.{rows_have}
use Rattle.mg_table_making.proofs.keys.keys_said.Goals as goal

pub keys_of-requires : goal.keys_of-requires
keys_of-requires c =
    let said : rows_at c.args.name.now c.args.shape.now 0 ≡ c.deref.result.now = (search rules) in
    subst (λ (s : Shape). HaveKeys s c.deref.result.now) (sym c.requires.catalog)
    (subst (HaveKeys catalog_shape) said (rows_have c.args.name.now c.args.shape.now 0))
