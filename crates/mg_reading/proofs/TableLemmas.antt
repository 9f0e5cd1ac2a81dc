-- What a lawful table and a lawful image give to the steps of their reading.
use Rattle.std.proofs.Common.{◌≡◌, ◌<◌, ◌≤◌, ℕ, zero, suc, false, sym, ap, ◌∙◌, subst, List, [], ◌∷◌, length, get_or, arith}
use Rattle.mg_value.specs.declared.shape.TheConstants.{MOST_COLUMNS}
use Rattle.mg_model.specs.declared.table.Table.{Table}
use Rattle.mg_pointer.specs.PointerPage.{next_in}
use Rattle.mg_image.specs.Sound.{IsTableData}
use Rattle.mg_image.specs.Tables.{EachFrom, PointerChain, entries_in}
use Rattle.mg_reading.specs.declared.image.Image.{Image}
use Rattle.mg_reading.specs.declared.point.ReadFault.{ReadFault}
use Rattle.mg_reading.specs.declared.point.ReadFault.TheVariants.{Broken, Memory}
use Rattle.mg_reading.specs.declared.point.Rule.TheVariants.{Header, Transactions, Pages as RulePages, Once, Links, Drawn, Backs, Keys, Indexed}
use Rattle.mg_reading.specs.declared.rows.RowCoding.{RowCoding}
use Rattle.mg_reading.specs.ChainLaws.{link_once}
use Rattle.mg_reading.specs.FirstBroken.{IsFirstBroken}
use Rattle.mg_reading.specs.ImageView.{pages_in}
use Rattle.mg_reading.specs.Readable.{AreReadable, HasPointers, HasReading, IsReadable, IsReadableImage, Refutes}

pub readable_pointers : (coding : RowCoding) (image : Image) (table : Table)
    → IsReadable coding image table → HasPointers image.size (pages_in image) table.pointer.0
readable_pointers coding image table is = (is.pointers, is.chain, is.wanted)

-- the data pages that were read are those of the table
same_pages : (coding : RowCoding) (image : Image) (table : Table) (ms ns : List ℕ)
    → PointerChain (pages_in image) table.pointer.0 ms → ns ≡ entries_in (pages_in image) ms
    → (is : IsReadable coding image table) → entries_in (pages_in image) is.pointers ≡ ns
same_pages coding image table ms ns chain entries is =
    ap (entries_in (pages_in image)) (link_once (λ n. next_in (pages_in image n)) table.pointer.0
    is.pointers ms is.chain chain) ∙ sym entries

pub readable_data : (coding : RowCoding) (image : Image) (table : Table) (ms ns : List ℕ)
    → PointerChain (pages_in image) table.pointer.0 ms → ns ≡ entries_in (pages_in image) ms
    → IsReadable coding image table
    → EachFrom (IsTableData false image.size (pages_in image) table.pointer.0) 0 ns
readable_data coding image table ms ns chain entries is =
    subst (EachFrom (IsTableData false image.size (pages_in image) table.pointer.0) 0)
    (same_pages coding image table ms ns chain entries is) is.tested

pub readable_records : (coding : RowCoding) (image : Image) (table : Table) (ms ns : List ℕ)
    → PointerChain (pages_in image) table.pointer.0 ms → ns ≡ entries_in (pages_in image) ms
    → IsReadable coding image table → HasReading coding image table ns
readable_records coding image table ms ns chain entries is =
    subst (HasReading coding image table) (same_pages coding image table ms ns chain entries is)
    is.records

-- one of the tables
pub readable_at : (coding : RowCoding) (image : Image) (ts : List Table) (i : ℕ) (t : Table)
    → i < length ts → t ≡ get_or ts i t → AreReadable coding image ts
    → (length t.shape.columns ≤ MOST_COLUMNS) × IsReadable coding image t
readable_at coding image [] i t below is each = absurd (omega arith)
readable_at coding image (x ∷ ts) zero t below is each = subst (λ (y : Table).
    (length y.shape.columns ≤ MOST_COLUMNS) × IsReadable coding image y) (sym is) (each.0, each.1)
readable_at coding image (x ∷ ts) (suc i) t below is each =
    readable_at coding image ts i t (omega arith) is each.2

-- the first rule that is broken is one of a readable image
pub first_refutes : (coding : RowCoding) (image : Image) (tables : List Table) (fault : ReadFault)
    → IsFirstBroken image.size (pages_in image) fault
    → Refutes (IsReadableImage coding image tables) fault
first_refutes coding image tables (Broken Header) is = λ all. is all.header
first_refutes coding image tables (Broken Transactions) is = λ all. is.1 all.transactions
first_refutes coding image tables (Broken RulePages) is = λ all. is.2 all.inventory
first_refutes coding image tables (Broken Once) is = absurd is
first_refutes coding image tables (Broken Links) is = absurd is
first_refutes coding image tables (Broken Drawn) is = absurd is
first_refutes coding image tables (Broken Backs) is = absurd is
first_refutes coding image tables (Broken Keys) is = absurd is
first_refutes coding image tables (Broken Indexed) is = absurd is
first_refutes coding image tables Memory is = tt
