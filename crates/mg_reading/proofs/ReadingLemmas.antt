-- What was read of the slots of a table is a reading of it.
use Rattle.std.proofs.Common.{◌≡◌, ◌≢◌, ◌⊎◌, ◌<◌, ◌≤◌, inl, inr, refl, sym, ap, ◌∙◌, ℕ, true, false, List, [], ◌∷◌, Option, None, Some}
use Rattle.std.proofs.lemmas.Bool.{cases_lt}
use Rattle.mg_base.specs.declared.numbers.RecId.{RecId}
use Rattle.mg_slots.specs.DataPage.{slot_count}
use Rattle.mg_slots.specs.DataPageLaws.{cell_past}
use Rattle.mg_reading.specs.Codings.{coding_of}
use Rattle.mg_image.specs.declared.entry.Entry.{Entry}
use Rattle.mg_reading.specs.declared.found.Found.{Found}
use Rattle.mg_reading.specs.declared.image.Image.{Image}
use Rattle.mg_reading.specs.declared.rows.RowCoding.{RowCoding}
use Rattle.mg_model.specs.declared.table.Table.{Table}
use Rattle.mg_reading.specs.Found.{AreApart, AreFound, AreOf, HasNoCellOf, IsApart, IsFound, PagesRead, WasRead, reading_of}
use Rattle.mg_reading.specs.ImageView.{pages_in}
use Rattle.mg_reading.specs.OneTable.{table_facts}
use Rattle.mg_image.specs.RecordRules.{table_in}
use Rattle.mg_image.specs.Records.{Cells, Chain, Reading, Stands, cells_of, ended, newest_of}
use Rattle.mg_image.specs.ReadingLaws.{Opens, chain_opens}
use Rattle.mg_reading.specs.Readable.{HasRecord, HasTableVersions, HasVersionReading, IsOnlyReading}
use Rattle.mg_reading.specs.RecordParts.{AreVersions}
use Rattle.mg_version.specs.declared.cell.Link.{Link}
use Rattle.mg_image.specs.StepLaws.{cases_place, same_place}
use Rattle.mg_image.specs.Tables.{Has}
use Rattle.mg_reading.specs.StandLaws.{has_back, page_of_table, table_at_one}

-- a slot was read, and this is what was read of it
pub record IsReadAt (coding : RowCoding) (image : Image) (table : Table) (ns : List ℕ) (p : RecId)
    (es : List Entry) : Type 0 where
  pub placed : Has ns p.page.0
  pub chain : Chain (cells_of (pages_in image)) (newest_of p (cells_of (pages_in image) p)) es
  pub versions : AreVersions (coding_of coding) (table_facts image table ns) table es

read_at : (coding : RowCoding) (image : Image) (table : Table) (ns : List ℕ) (f : Found) (p : RecId)
    → f.at ≡ p → IsFound coding image table ns f → IsReadAt coding image table ns p f.entries.items
read_at coding image table ns f p same is = rw (sym same) (record {
  placed = is.placed;
  chain = is.chain;
  versions = is.versions;
})

-- of each slot something was read, or nothing
was_read : (coding : RowCoding) (image : Image) (table : Table) (ns : List ℕ) (found : List Found)
    → AreFound coding image table ns found → (p : RecId)
    → IsReadAt coding image table ns p (reading_of found p)
    ⊎ ((WasRead found p → ⊥) × (reading_of found p ≡ []))
was_read coding image table ns [] are p = inr (λ none. none, refl)
was_read coding image table ns (f ∷ fs) are p =
    at (cases_place f.at p) (was_read coding image table ns fs are.1 p)
  where
    at : ((f.at ≡ p) × (same_place f.at p ≡ true)) ⊎ ((f.at ≢ p) × (same_place f.at p ≡ false))
        → IsReadAt coding image table ns p (reading_of fs p)
        ⊎ ((WasRead fs p → ⊥) × (reading_of fs p ≡ []))
        → IsReadAt coding image table ns p (reading_of (f ∷ fs) p)
        ⊎ ((WasRead (f ∷ fs) p → ⊥) × (reading_of (f ∷ fs) p ≡ []))
    at (inl (same, is)) rest = rw is (inl (read_at coding image table ns f p same are.0))
    at (inr (other, is)) (inl there) = rw is (inl there)
    at (inr (other, is)) (inr (none, empty)) = rw is (inr (not_read other none, empty))
      where
        not_read : (f.at ≢ p) → (WasRead fs p → ⊥) → WasRead (f ∷ fs) p → ⊥
        not_read other none (inl same) = other same
        not_read other none (inr later) = none later

-- a record that shares a cell with what is read of these is that one
no_cell : (f : Found) (fs : List Found) → HasNoCellOf f fs → (q x : RecId)
    → Stands f.entries.items x → Stands (reading_of fs q) x → f.at ≡ q
no_cell f [] none q x i j = absurd j
no_cell f (g ∷ gs) none q x i j = at (cases_place g.at q) (λ k. no_cell f gs none.1 q x i k)
  where
    at : ((g.at ≡ q) × (same_place g.at q ≡ true)) ⊎ ((g.at ≢ q) × (same_place g.at q ≡ false))
        → (Stands (reading_of gs q) x → f.at ≡ q) → f.at ≡ q
    at (inl (same, is)) later = none.0 (x, i, rw is at j) ∙ same
    at (inr (other, is)) later = later (rw is at j)

apart_of : (found : List Found) → AreApart found → (p q x : RecId) → Stands (reading_of found p) x
    → Stands (reading_of found q) x → p ≡ q
apart_of [] apart p q x i j = absurd i
apart_of (f ∷ fs) apart p q x i j = at (cases_place f.at p) (cases_place f.at q)
    (λ k l. apart_of fs apart.1 p q x k l)
  where
    at : ((f.at ≡ p) × (same_place f.at p ≡ true)) ⊎ ((f.at ≢ p) × (same_place f.at p ≡ false))
        → ((f.at ≡ q) × (same_place f.at q ≡ true)) ⊎ ((f.at ≢ q) × (same_place f.at q ≡ false))
        → (Stands (reading_of fs p) x → Stands (reading_of fs q) x → p ≡ q) → p ≡ q
    at (inl (one, is)) (inl (also, is_also)) later = sym one ∙ also
    at (inl (one, is)) (inr (other, is_other)) later =
        sym one ∙ no_cell f fs apart.0 q x (rw is at i) (rw is_other at j)
    at (inr (other, is_other)) (inl (one, is)) later =
        sym (sym one ∙ no_cell f fs apart.0 p x (rw is at j) (rw is_other at i))
    at (inr (other, is)) (inr (also, is_also)) later = later (rw is at i) (rw is_also at j)

-- all slots were read, and no cell is one of two records: the records have their versions
pub versions_read : (coding : RowCoding) (image : Image) (table : Table) (ns : List ℕ)
    (found : List Found) → AreFound coding image table ns found → PagesRead image found ns
    → AreApart found → HasTableVersions coding image table ns (reading_of found)
versions_read coding image table ns found are all apart = record {
  reads = λ p t is. reads p t is (was_read coding image table ns found are p);
  outside = λ p is. outside p is (was_read coding image table ns found are p);
  each = λ p t is. each p t is (was_read coding image table ns found are p);
  apart = apart_of found apart;
}
  where
    past : (p : RecId) → Has ns p.page.0 → (WasRead found p → ⊥)
        → newest_of p (cells_of (pages_in image) p) ≡ None
    past p placed none = at (cases_lt p.slot (slot_count (pages_in image p.page.0)))
      where
        at : (p.slot < slot_count (pages_in image p.page.0))
            ⊎ (slot_count (pages_in image p.page.0) ≤ p.slot)
            → newest_of p (cells_of (pages_in image) p) ≡ None
        at (inl below) = absurd (none (all p placed below))
        at (inr beyond) = rw (cell_past (pages_in image p.page.0) p.slot beyond) refl

    reads : (p : RecId) (t : Table) → table_in (table_facts image table ns) p ≡ Some t
        → IsReadAt coding image table ns p (reading_of found p)
        ⊎ ((WasRead found p → ⊥) × (reading_of found p ≡ []))
        → Chain (cells_of (pages_in image)) (newest_of p (cells_of (pages_in image) p))
        (reading_of found p)
    reads p t is (inl read) = read.chain
    reads p t is (inr (none, empty)) = rw (
      empty,
      past p
          (has_back ns p.page.0 (page_of_table table t ns p.page.0 is).1) none,
    ) ended

    outside : (p : RecId) → table_in (table_facts image table ns) p ≡ None
        → IsReadAt coding image table ns p (reading_of found p)
        ⊎ ((WasRead found p → ⊥) × (reading_of found p ≡ [])) → reading_of found p ≡ []
    outside p is (inl read) =
        let some = table_at_one table ns p.page.0 read.placed in absurd cc
    outside p is (inr (none, empty)) = empty

    each : (p : RecId) (t : Table) → table_in (table_facts image table ns) p ≡ Some t
        → IsReadAt coding image table ns p (reading_of found p)
        ⊎ ((WasRead found p → ⊥) × (reading_of found p ≡ []))
        → AreVersions (coding_of coding) (table_facts image table ns) t (reading_of found p)
    each p t is (inl read) = rw ((page_of_table table t ns p.page.0 is).0) (read.versions)
    each p t is (inr (none, empty)) = rw empty (record { once = tt; each = tt })

-- the place of a slot of a page
abbrev pub place_at : ℕ → ℕ → RecId
place_at n slot = record { page = record { 0 = n }; slot = slot }

-- what a reading has at a slot of the table
pub reading_record : (coding : RowCoding) (image : Image) (table : Table) (ns : List ℕ) (p : RecId)
    → Has ns p.page.0 → HasVersionReading coding image table ns
    → HasRecord coding image table ns (newest_of p (cells_of (pages_in image) p))
reading_record coding image table ns p placed (r, are) =
    let mine = table_at_one table ns p.page.0 placed in
    (r p, record { chain = are.reads p table mine; versions = are.each p table mine })

-- what was read is what any reading of the table has
found_once : (coding : RowCoding) (image : Image) (table : Table) (ns : List ℕ) (f : Found)
    → IsFound coding image table ns f → (r : Reading)
    → HasTableVersions coding image table ns r → r f.at ≡ f.entries.items
found_once coding image table ns f is r are =
    let mine = table_at_one table ns f.at.page.0 is.placed in
    is.only (r f.at) (record {
      chain = are.reads f.at table mine;
      versions = are.each f.at table mine;
    })

pub found_of : (coding : RowCoding) (image : Image) (table : Table) (ns : List ℕ)
    (found : List Found) → AreFound coding image table ns found → (r : Reading)
    → HasTableVersions coding image table ns r → AreOf r found
found_of coding image table ns [] are r has_ = tt
found_of coding image table ns (f ∷ fs) are r has_ =
    (found_once coding image table ns f are.0 r has_, found_of coding image table ns fs are.1 r has_)

-- so records with a cell in common are one
apart_must : (r : Reading) (f g : Found) → ((p q x : RecId) → Stands (r p) x → Stands (r q) x → p ≡ q)
    → r f.at ≡ f.entries.items → r g.at ≡ g.entries.items → IsApart f g
apart_must r f g apart is as_ (x, i, j) = apart f.at g.at x (rw is i) (rw as_ j)

apart_each : (r : Reading) (found : List Found)
    → ((p q x : RecId) → Stands (r p) x → Stands (r q) x → p ≡ q) → AreOf r found → AreApart found
apart_each r [] apart of_ = tt
apart_each r (f ∷ fs) apart of_ = (none fs of_.1, apart_each r fs apart of_.1)
  where
    none : (gs : List Found) → AreOf r gs → HasNoCellOf f gs
    none [] also = tt
    none (g ∷ gs) also = (apart_must r f g apart of_.0 also.0, none gs also.1)

pub apart_all : (coding : RowCoding) (image : Image) (table : Table) (ns : List ℕ)
    (found : List Found) → AreFound coding image table ns found
    → HasVersionReading coding image table ns → AreApart found
apart_all coding image table ns found are (r, has_) =
    apart_each r found has_.apart (found_of coding image table ns found are r has_)

-- what was read of a place is what a reading has there, or nothing
at_place : (r : Reading) (found : List Found) → AreOf r found → (p : RecId)
    → (reading_of found p ≡ r p) ⊎ (reading_of found p ≡ [])
at_place r [] of_ p = inr refl
at_place r (f ∷ fs) of_ p = at (cases_place f.at p) (at_place r fs of_.1 p)
  where
    at : ((f.at ≡ p) × (same_place f.at p ≡ true)) ⊎ ((f.at ≢ p) × (same_place f.at p ≡ false))
        → (reading_of fs p ≡ r p) ⊎ (reading_of fs p ≡ [])
        → (reading_of (f ∷ fs) p ≡ r p) ⊎ (reading_of (f ∷ fs) p ≡ [])
    at (inl (same, is)) rest = inl (rw is (sym of_.0 ∙ ap r same))
    at (inr (other, is)) (inl there) = inl (rw is there)
    at (inr (other, is)) (inr empty) = inr (rw is empty)

pub read_of : (coding : RowCoding) (image : Image) (table : Table) (ns : List ℕ)
    (found : List Found) → AreFound coding image table ns found → PagesRead image found ns
    → AreApart found → AreOf (reading_of found) found
read_of coding image table ns found are all apart = found_of coding image table ns found are
    (reading_of found) (versions_read coding image table ns found are all apart)

-- where nothing is read, the cell leads nowhere, and nothing else is read either
empty_chain : (h : Cells) (l : Option Link) (es : List Entry) → Chain h l [] → Chain h l es
    → es ≡ []
empty_chain h l es none chain = at l es (chain_opens h l [] none) (chain_opens h l es chain)
  where
    at : (l : Option Link) (es : List Entry) → Opens h l [] → Opens h l es → es ≡ []
    at None [] none opens = refl
    at None (e ∷ es) none opens = absurd opens
    at (Some k) es none opens = absurd none

-- and there is no other reading
pub read_only : (coding : RowCoding) (image : Image) (table : Table) (ns : List ℕ)
    (found : List Found) → AreFound coding image table ns found → PagesRead image found ns
    → AreApart found → IsOnlyReading coding image table ns (reading_of found)
read_only coding image table ns found are all apart other has_ p =
    at (table_in (table_facts image table ns) p) refl
  where
    mine : HasTableVersions coding image table ns (reading_of found)
    mine = versions_read coding image table ns found are all apart

    on : (t : Table) → table_in (table_facts image table ns) p ≡ Some t
        → (reading_of found p ≡ other p) ⊎ (reading_of found p ≡ [])
        → other p ≡ reading_of found p
    on t is (inl same) = sym same
    on t is (inr empty) = empty_chain (cells_of (pages_in image))
        (newest_of p (cells_of (pages_in image) p)) (other p)
        (rw empty at (mine.reads p t is)) (has_.reads p t is) ∙ sym empty

    at : (t : Option Table) → table_in (table_facts image table ns) p ≡ t
        → other p ≡ reading_of found p
    at None none = has_.outside p none ∙ sym (mine.outside p none)
    at (Some t) some = on t some
        (at_place other found (found_of coding image table ns found are other has_) p)
