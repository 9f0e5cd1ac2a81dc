-- A new database is sound.
use Rattle.std.proofs.Common.{◌≡◌, sym, ap, lit<, ℕ, true}
use Rattle.mg_base.specs.Geometry.{is_page_size}
use Rattle.mg_base.specs.Image.{Image, page_at}
use Rattle.mg_format.specs.Format.{IsMade}
use Rattle.mg_image.specs.Catalog.{catalog_table}
use Rattle.mg_image.specs.Form.{packed_form}
use Rattle.mg_image.specs.Records.{cells_of}
use Rattle.mg_image.specs.Sound.{IsSound, facts_of}
use Rattle.mg_model.specs.Catalog.{catalog_name, catalog_shape}
use Rattle.mg_model.specs.NewDatabase.{kv_name}
use Rattle.mg_new_database_laws.specs.PageCellLaws.{new_have_tables}
use Rattle.mg_new_database_laws.specs.ReadableLaws.{new_are_readable}
use Rattle.mg_new_database_laws.specs.TransactionLaws.{new_are_undrawn, new_are_used, new_have_inventory}
use Rattle.mg_new_database_laws.specs.NameLaws.{new_indexed, new_names, new_own_tables}
use Rattle.mg_new_database_laws.specs.NewDatabase.{kv_shape, new_layout, new_reading}
use Rattle.mg_new_database_laws.specs.PageLaws.{bodies, catalog_at, least, new_image, new_once, none_in_limbo}
use Rattle.mg_new_database_laws.specs.RecordLaws.{new_records}
use Rattle.mg_new_database_laws.specs.Soundness.{HasWholePages, NewAreSound}

pub new_sound : (size : ℕ) (image : Image) (lawful : is_page_size size ≡ true) (made : IsMade size image)
    → HasWholePages size image
    → IsSound packed_form size (page_at size image) new_layout (new_reading (bodies size image lawful made))
new_sound size image lawful made whole = record {
  header = record {
    lawful_size = lawful;
    whole = whole;
    database = (new_are_readable size image lawful made).database;
    fields = (new_are_readable size image lawful made).fields;
    used = new_are_used size image 0 lawful made (lit< tt);
  };
  transactions = new_are_undrawn size image lawful made;
  inventory = new_have_inventory size image lawful made;
  catalog = ap catalog_table (sym (catalog_at size image lawful made));
  tables = (
    (new_have_tables size image catalog_name catalog_shape lawful made).0,
    ((new_have_tables size image kv_name kv_shape lawful made).1, tt),
  );
  sequences = tt;
  names = new_names size (least size image lawful made) (bodies size image lawful made)
      (facts_of size (page_at size image) new_layout) (cells_of (page_at size image))
      (new_image size image lawful made);
  once = new_once size image lawful made;
  records = new_records (bodies size image lawful made) (facts_of size (page_at size image) new_layout)
      (cells_of (page_at size image)) (new_image size image lawful made);
  limbo = λ t below. none_in_limbo size image lawful made t;
  own_tables = new_own_tables size (least size image lawful made) (bodies size image lawful made)
      (facts_of size (page_at size image) new_layout) (cells_of (page_at size image))
      (new_image size image lawful made);
  indexed = new_indexed size (least size image lawful made) (bodies size image lawful made)
      (facts_of size (page_at size image) new_layout) (cells_of (page_at size image))
      (new_image size image lawful made) (page_at size image) (none_in_limbo size image lawful made);
}

pub new_are_sound : NewAreSound
new_are_sound size image lawful made whole = record {
  bodies = bodies size image lawful made;
  sound = new_sound size image lawful made whole;
}
