use Rattle.mg_image.specs.Form.{packed_form}
use Rattle.mg_image_overlay_laws.specs.tables.OneTable.{its_data, one_table}
use Rattle.mg_image_overlay_laws.proofs.stands.tables_are_one.Goals as goal

pub returns-clause-names : goal.returns-clause-names
returns-clause-names c size state pages layout r a b sound of_a of_b name =
    one_table packed_form size state pages layout r sound a b of_a of_b name

pub returns-clause-pages : goal.returns-clause-pages
returns-clause-pages c size state pages layout r table its n sound =
    its_data packed_form size state pages layout r sound table its n
