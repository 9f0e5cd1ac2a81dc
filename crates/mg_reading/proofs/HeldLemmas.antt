-- Tables as they are read one after another.
use Rattle.std.proofs.Common.{◌≡◌, ◌+◌, ◌<◌, ℕ, sym, List, [], ◌∷◌, ◌++◌, length, take, get_or}
use Rattle.std.proofs.lemmas.List.{take_more}
use Rattle.mg_reading.specs.declared.held.TableRows.{TableRows}
use Rattle.mg_reading.specs.declared.image.Image.{Image}
use Rattle.mg_reading.specs.declared.rows.RowCoding.{RowCoding}
use Rattle.mg_model.specs.declared.table.Table.{Table}
use Rattle.mg_reading.specs.HeldTable.{AreHeld, IsTableHeld}

held_push : (coding : RowCoding) (image : Image) (ts : List Table) (hs : List TableRows) (t : Table)
    (h : TableRows) → AreHeld coding image ts hs → IsTableHeld coding image t h.rows.items
    → AreHeld coding image (ts ++ t ∷ []) (hs ++ h ∷ [])
held_push coding image [] [] t h are is = (is, tt)
held_push coding image [] (x ∷ hs) t h are is = absurd are
held_push coding image (x ∷ ts) [] t h are is = absurd are
held_push coding image (x ∷ ts) (y ∷ hs) t h are is =
    (are.0, held_push coding image ts hs t h are.1 is)

-- one table more
pub held_more : (coding : RowCoding) (image : Image) (ts : List Table) (i : ℕ) (hs more : List TableRows)
    (t : Table) (h : TableRows) → i < length ts → t ≡ get_or ts i t
    → AreHeld coding image (take i ts) hs → IsTableHeld coding image t h.rows.items
    → more ≡ hs ++ h ∷ [] → AreHeld coding image (take (i + 1) ts) more
held_more coding image ts i hs more t h below at are is pushed =
    rw (pushed, take_more ts i t below)
    (held_push coding image (take i ts) hs (get_or ts i t) h are (rw (sym at) is))
