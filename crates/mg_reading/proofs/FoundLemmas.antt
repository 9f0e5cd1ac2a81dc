-- Lemmas on slots as they are read one after another.
use Rattle.std.proofs.Common.{◌≡◌, ◌≢◌, ◌⊎◌, ◌+◌, ◌<◌, inl, inr, sym, ◌∙◌, ℕ, List, [], ◌∷◌, ◌++◌, length, take, get_or, arith}
use Rattle.std.proofs.lemmas.Bool.{cases_eq}
use Rattle.std.proofs.lemmas.List.{take_more}
use Rattle.mg_base.specs.declared.numbers.RecId.{RecId}
use Rattle.mg_slots.specs.DataPage.{slot_count}
use Rattle.mg_reading.specs.declared.found.Found.{Found}
use Rattle.mg_reading.specs.declared.image.Image.{Image}
use Rattle.mg_reading.specs.declared.rows.RowCoding.{RowCoding}
use Rattle.mg_model.specs.declared.table.Table.{Table}
use Rattle.mg_reading.specs.Found.{AreFound, IsFound, KeepsRead, PagesRead, SlotsRead, WasRead}
use Rattle.mg_reading.specs.ImageView.{pages_in}
use Rattle.mg_image.specs.Tables.{Has}
use Rattle.mg_reading.proofs.CellLemmas.{has_push}

pub found_push : (coding : RowCoding) (image : Image) (table : Table) (ns : List ℕ)
    (found : List Found) (more : Found) → AreFound coding image table ns found
    → IsFound coding image table ns more → AreFound coding image table ns (found ++ more ∷ [])
found_push coding image table ns [] more are is = (is, tt)
found_push coding image table ns (f ∷ fs) more are is =
    (are.0, found_push coding image table ns fs more are.1 is)

pub read_push : (found : List Found) (more : Found) → KeepsRead found (found ++ more ∷ [])
read_push [] more p none = absurd none
read_push (f ∷ fs) more p (inl is) = inl is
read_push (f ∷ fs) more p (inr later) = inr (read_push fs more p later)

pub read_last : (found : List Found) (more : Found) (p : RecId) → more.at ≡ p
    → WasRead (found ++ more ∷ []) p
read_last [] more p is = inl is
read_last (f ∷ fs) more p is = inr (read_last fs more p is)

-- what the loop over the slots of a page keeps
pub record IsRead (coding : RowCoding) (image : Image) (table : Table) (ns : List ℕ) (n slot : ℕ)
    (old new : List Found) : Type 0 where
  pub found : AreFound coding image table ns old → AreFound coding image table ns new
  pub slots : SlotsRead new n slot
  pub before : KeepsRead old new

pub read_none : (coding : RowCoding) (image : Image) (table : Table) (ns : List ℕ) (n : ℕ)
    (old : List Found) → IsRead coding image table ns n 0 old old
read_none coding image table ns n old = record {
  found = λ are. are;
  slots = λ p at below. absurd (omega arith);
  before = λ p was. was;
}

pub read_more : (coding : RowCoding) (image : Image) (table : Table) (ns : List ℕ) (n slot : ℕ)
    (old new more : List Found) (f : Found) → IsRead coding image table ns n slot old new
    → IsFound coding image table ns f
    → f.at ≡ record { page = record { 0 = n }; slot = slot } → more ≡ new ++ f ∷ []
    → IsRead coding image table ns n (slot + 1) old more
read_more coding image table ns n slot old new more f read is at pushed = rw pushed (record {
  found = λ are. found_push coding image table ns new f (read.found are) is;
  slots = λ p on below. here p on below (cases_eq p.slot slot);
  before = λ p was. read_push new f p (read.before p was);
})
  where
    here : (p : RecId) → p.page.0 ≡ n → p.slot < slot + 1 → (p.slot ≡ slot) ⊎ (p.slot ≢ slot)
        → WasRead (new ++ f ∷ []) p
    here p on below (inl same) = read_last new f p
        (at ∙ (λ i. record { page = record { 0 = sym on i }; slot = sym same i }))
    here p on below (inr other) = read_push new f p (read.slots p on (omega arith))

-- one page more was read
pub pages_more : (image : Image) (ns : List ℕ) (i n : ℕ) (old new : List Found) → i < length ns
    → n ≡ get_or ns i 0 → PagesRead image old (take i ns) → KeepsRead old new
    → SlotsRead new n (slot_count (pages_in image n)) → PagesRead image new (take (i + 1) ns)
pages_more image ns i n old new below is before keeps here = rw (take_more ns i 0 below) at
  where
    at : PagesRead image new (take i ns ++ get_or ns i 0 ∷ [])
    at p has slot = split (has_push (take i ns) (get_or ns i 0) p.page.0 has)
      where
        split : Has (take i ns) p.page.0 ⊎ (p.page.0 ≡ get_or ns i 0) → WasRead new p
        split (inl there) = keeps p (before p there slot)
        split (inr same) = here p (same ∙ sym is) (rw (is ∙ sym same) slot)
