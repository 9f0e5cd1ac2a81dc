use Rattle.mg_model.specs.Catalog.{key_in}
use Rattle.mg_model.specs.Promises.{catalog_seen}
use Rattle.mg_model.specs.PromiseLaws.{give_is_fine, insert_is_fine}
use Rattle.mg_model.proofs.laws.changes_are_fine.Goals as goal

pub returns-clause-insert : goal.returns-clause-insert
returns-clause-insert c = λ o h t table row opening legal.
    insert_is_fine o h t table opening legal (key_in (catalog_seen o h t) table row)

pub returns-clause-change : goal.returns-clause-change
returns-clause-change c = λ o h t table key row opening legal.
    give_is_fine o h t table opening legal key

pub returns-clause-erase : goal.returns-clause-erase
returns-clause-erase c = λ o h t table key opening legal.
    give_is_fine o h t table opening legal key
