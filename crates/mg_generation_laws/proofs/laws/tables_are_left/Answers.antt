use Rattle.mg_generation_laws.specs.TableLaws.{leaves_by_event, left_in_view, left_in_database, left_hinders_not, shape_stands, key_stands, no_table_hinders}
use Rattle.mg_generation_laws.proofs.laws.tables_are_left.Goals as goal

pub returns-clause-others : goal.returns-clause-others
returns-clause-others c = λ o table h e leaves other. (leaves_by_event e table other, leaves)

pub returns-clause-stands : goal.returns-clause-stands
returns-clause-stands c = λ o table h key leaves. (
  λ t. left_in_view o table h leaves t key,
  left_in_database o table h leaves key,
)

pub returns-clause-hinders : goal.returns-clause-hinders
returns-clause-hinders c = λ o table h t key leaves. left_hinders_not o table h leaves t key

pub returns-clause-catalog : goal.returns-clause-catalog
returns-clause-catalog c = λ o h t table leaves.
    (shape_stands o h leaves t table, key_stands o h leaves t table)

pub returns-clause-tables : goal.returns-clause-tables
returns-clause-tables c = λ o h t table leaves. no_table_hinders o h leaves t table
