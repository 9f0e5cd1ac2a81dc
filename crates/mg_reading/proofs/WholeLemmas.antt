-- The records of one table, from the parts of the rules and back.
use Rattle.std.proofs.Common.{◌≡◌, refl, subst, ℕ, List, [], Option, None, Some}
use Rattle.std.proofs.Math.Path.{fun_ext}
use Rattle.mg_base.specs.declared.numbers.RecId.{RecId}
use Rattle.mg_image.specs.declared.entry.Entry.{Entry}
use Rattle.mg_model.specs.declared.table.Table.{Table}
use Rattle.mg_image.specs.RecordRules.{AreRecords, table_in}
use Rattle.mg_image.specs.Records.{Reading, cells_of}
use Rattle.mg_reading.specs.declared.found.Found.{Found}
use Rattle.mg_reading.specs.declared.image.Image.{Image}
use Rattle.mg_reading.specs.declared.rows.RowCoding.{RowCoding}
use Rattle.mg_reading.specs.Codings.{coding_of}
use Rattle.mg_reading.specs.Found.{image_facts, reading_of}
use Rattle.mg_reading.specs.ImageView.{pages_in}
use Rattle.mg_reading.specs.OneTable.{table_facts}
use Rattle.mg_reading.specs.PartLaws.{backs_of, drawn_of, keys_of, records_of, takes_none, versions_of}
use Rattle.mg_reading.specs.Readable.{HasReading, HasTableVersions, HasVersionReading, IsOnlyReading}
use Rattle.mg_reading.specs.RecordParts.{AreBacks, AreBacksCommitted, AreDrawn, AreKeyed, HaveOneKey, HaveOwnKeys, IsDrawn, TakeOneKey}
use Rattle.mg_image.specs.RecordRules.{Each}
use Rattle.mg_reading.specs.StandLaws.{page_of_table}

-- the keys of one table are all keys there are
own_keys : (image : Image) (table : Table) (ns : List ℕ) (r : Reading)
    → AreKeyed (image_facts image) table r → HaveOwnKeys (table_facts image table ns) r
own_keys image table ns r keyed = record {
  one = λ p t is. rw (page_of_table table t ns p.page.0 is).0 (keyed.one p);
  own = λ p q t at_p at_q both. keyed.own p q
      (both.0, both.1, rw (page_of_table table t ns p.page.0 at_p).0 at both.2);
}

pub records_whole : (coding : RowCoding) (image : Image) (table : Table) (ns : List ℕ)
    (found : List Found) → HasTableVersions coding image table ns (reading_of found)
    → AreDrawn (image_facts image) (reading_of found)
    → AreBacks (image_facts image) (reading_of found)
    → AreKeyed (image_facts image) table (reading_of found)
    → AreRecords (coding_of coding) (table_facts image table ns) (cells_of (pages_in image))
    (reading_of found)
records_whole coding image table ns found versions drawn backs keyed =
    records_of (coding_of coding) (table_facts image table ns) (cells_of (pages_in image))
    (reading_of found) versions drawn backs (own_keys image table ns (reading_of found) keyed)

-- lawful records have their versions
pub has_versions : (coding : RowCoding) (image : Image) (table : Table) (ns : List ℕ)
    → HasReading coding image table ns → HasVersionReading coding image table ns
has_versions coding image table ns (r, are) = (
  r,
  versions_of (coding_of coding)
      (table_facts image table ns) (cells_of (pages_in image)) r are,
)

-- and are those that were read
same_read : (coding : RowCoding) (image : Image) (table : Table) (ns : List ℕ)
    (found : List Found) → IsOnlyReading coding image table ns (reading_of found)
    → (has_ : HasReading coding image table ns) → (p : RecId) → has_.0 p ≡ reading_of found p
same_read coding image table ns found only (r, are) = only r (versions_of (coding_of coding)
    (table_facts image table ns) (cells_of (pages_in image)) r are)

pub drawn_must : (coding : RowCoding) (image : Image) (table : Table) (ns : List ℕ)
    (found : List Found) → IsOnlyReading coding image table ns (reading_of found)
    → HasReading coding image table ns → AreDrawn (image_facts image) (reading_of found)
drawn_must coding image table ns found only (r, are) p =
    subst (λ (es : List Entry). Each (IsDrawn (image_facts image)) es)
    (same_read coding image table ns found only (r, are) p)
    (drawn_of (coding_of coding) (table_facts image table ns) (cells_of (pages_in image)) r are p)

pub backs_must : (coding : RowCoding) (image : Image) (table : Table) (ns : List ℕ)
    (found : List Found) → IsOnlyReading coding image table ns (reading_of found)
    → HasReading coding image table ns → AreBacks (image_facts image) (reading_of found)
backs_must coding image table ns found only (r, are) p =
    subst (λ (es : List Entry). AreBacksCommitted (image_facts image) es)
    (same_read coding image table ns found only (r, are) p)
    (backs_of (coding_of coding) (table_facts image table ns) (cells_of (pages_in image)) r are p)

-- where nothing else is read, all keys are those of the table
keyed_of : (image : Image) (table : Table) (ns : List ℕ) (r : Reading)
    → ((p : RecId) → table_in (table_facts image table ns) p ≡ None → r p ≡ [])
    → HaveOwnKeys (table_facts image table ns) r → AreKeyed (image_facts image) table r
keyed_of image table ns r outside keys = record {
  one = λ p. one p (table_in (table_facts image table ns) p) refl;
  own = λ p q both. own p q both (table_in (table_facts image table ns) p)
      (table_in (table_facts image table ns) q) refl refl;
}
  where
    one : (p : RecId) (t : Option Table) → table_in (table_facts image table ns) p ≡ t
        → HaveOneKey table (r p)
    one p None none = rw (outside p none) tt
    one p (Some t) some =
        rw (page_of_table table t ns p.page.0 some).0 at (keys.one p t some)

    own : (p q : RecId) → TakeOneKey (image_facts image) table (r p) (r q)
        → (t u : Option Table) → table_in (table_facts image table ns) p ≡ t
        → table_in (table_facts image table ns) q ≡ u → p ≡ q
    own p q both None u at_p at_q = absurd (takes_none (image_facts image) (rw (outside p at_p) at both.0))
    own p q both (Some t) None at_p at_q =
        absurd (takes_none (image_facts image) (rw (outside q at_q) at both.1))
    own p q both (Some t) (Some u) at_p at_q = keys.own p q table
        (rw (page_of_table table t ns p.page.0 at_p).0 at at_p)
        (rw (page_of_table table u ns q.page.0 at_q).0 at at_q) both

pub keys_must : (coding : RowCoding) (image : Image) (table : Table) (ns : List ℕ)
    (found : List Found) → IsOnlyReading coding image table ns (reading_of found)
    → HasReading coding image table ns
    → AreKeyed (image_facts image) table (reading_of found)
keys_must coding image table ns found only (r, are) =
    subst (AreKeyed (image_facts image) table)
    (fun_ext (same_read coding image table ns found only (r, are)))
    (keyed_of image table ns r are.outside (keys_of (coding_of coding)
    (table_facts image table ns) (cells_of (pages_in image)) r are))
