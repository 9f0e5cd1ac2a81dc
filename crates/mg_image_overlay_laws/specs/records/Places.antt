-- The places of an image where a record may begin, as a list.
use Rattle.std.proofs.Common.{◌≡◌, ◌≢◌, ◌⊎◌, inl, inr, ap, sym, subst, ◌∙◌, refl, arith, le-ltb, nat_lt, ◌<◌, ◌≤◌, ℕ, zero, suc, Bool, true, false, List, [], ◌∷◌, ◌++◌, Option, None, Some}
use Rattle.std.proofs.lemmas.Bool.{cases_eq, cases_lt}
use Rattle.std.specs.List.{flat_map}
use Rattle.std.specs.Prelude.{if◌then◌else◌}
use Rattle.mg_base.specs.declared.numbers.RecId.{RecId}
use Rattle.mg_model.specs.declared.table.Table.{Table}
use Rattle.mg_slots.specs.DataPage.{cell_of, slot_count}
use Rattle.mg_image.specs.Form.{Coding, Pages}
use Rattle.mg_image.specs.RecordRules.{AreRecords, Facts, table_in}
use Rattle.mg_image.specs.Records.{Chain, Reading, cells_of, newest_of, slot_cell}
use Rattle.mg_image.specs.Tables.{Has, Stand, has, table_at}
use Rattle.mg_image_overlay_laws.specs.records.Skips.{reads_none}
use Rattle.mg_image_overlay_laws.specs.pages.Growth.{has_back, has_front}
use Rattle.mg_image_overlay_laws.specs.pages.Reach.{has_it}
use Rattle.mg_version.specs.declared.cell.Cell.{Cell}

-- the slots of a page below a number
abbrev pub slots_below : ℕ → ℕ → List RecId
slots_below n zero = []
slots_below n (suc k) = record { page = record { 0 = n }; slot = k } ∷ slots_below n k

-- the slots of pages
abbrev pub places_in : Pages → List ℕ → List RecId
places_in pages [] = []
places_in pages (n ∷ ns) = slots_below n (slot_count (pages n)) ++ places_in pages ns

-- the slots of the data pages of tables
abbrev pub places_of : Pages → List Stand → List RecId
places_of pages stands = places_in pages (flat_map (λ stand. stand.data_pages) stands)

-- a place is one of these
abbrev pub HasPlace : List RecId → RecId → Type 0
HasPlace [] p = ⊥
HasPlace (q ∷ qs) p = (q ≡ p) ⊎ HasPlace qs p

place_back : (ps qs : List RecId) (p : RecId) → HasPlace qs p → HasPlace (ps ++ qs) p
place_back [] qs p is = is
place_back (q ∷ ps) qs p is = inr (place_back ps qs p is)

place_front : (ps qs : List RecId) (p : RecId) → HasPlace ps p → HasPlace (ps ++ qs) p
place_front [] qs p is = absurd is
place_front (q ∷ ps) qs p (inl e) = inl e
place_front (q ∷ ps) qs p (inr more) = inr (place_front ps qs p more)

in_slots : (n k : ℕ) (p : RecId) → p.page.0 ≡ n → p.slot < k → HasPlace (slots_below n k) p
in_slots n zero p on below = absurd (omega (arith, below))
in_slots n (suc k) p on below = at (cases_eq p.slot k) (in_slots n k p on)
  where
    at : (p.slot ≡ k) ⊎ (p.slot ≢ k) → (p.slot < k → HasPlace (slots_below n k) p)
        → HasPlace (slots_below n (suc k)) p
    at (inl same) more = inl (λ i. record { page = record { 0 = sym on i }; slot = sym same i })
    at (inr ne) more = inr (more (omega (arith, below, ne)))

in_pages : (pages : Pages) (ns : List ℕ) (p : RecId) → Has ns p.page.0
    → p.slot < slot_count (pages p.page.0) → HasPlace (places_in pages ns) p
in_pages pages [] p is below = absurd is
in_pages pages (n ∷ ns) p (inl e) below = place_front (slots_below n (slot_count (pages n)))
    (places_in pages ns) p
    (in_slots n (slot_count (pages n)) p e (subst (λ (k : ℕ). p.slot < slot_count (pages k)) e below))
in_pages pages (n ∷ ns) p (inr more) below = place_back (slots_below n (slot_count (pages n)))
    (places_in pages ns) p (in_pages pages ns p more below)

-- a slot that has a cell is one of those of its page
slot_within : (b : List ℕ) (slot : ℕ) (bytes : List ℕ) → cell_of b slot ≡ Some bytes
    → slot < slot_count b
unfolding cell_of
slot_within b slot bytes is = at (cases_lt slot (slot_count b))
  where
    at : (slot < slot_count b) ⊎ (slot_count b ≤ slot) → slot < slot_count b
    at (inl less) = less
    at (inr past) =
        let off : nat_lt slot (slot_count b) ≡ false = le-ltb slot (slot_count b) past in
        let none : None ≡ Some bytes = sym (rw off refl) ∙ is in absurd cc

data_of : (stands : List Stand) (m : ℕ) (table : Table) → table_at stands m ≡ Some table
    → Has (flat_map (λ s. s.data_pages) stands) m
data_of [] m table is = absurd cc
data_of (s ∷ stands) m table is = at (has s.data_pages m) refl is (data_of stands m table)
  where
    at : (c : Bool) → has s.data_pages m ≡ c
        → (if c then Some s.table else table_at stands m) ≡ Some table
        → (table_at stands m ≡ Some table → Has (flat_map (λ s. s.data_pages) stands) m)
        → Has (flat_map (λ s. s.data_pages) (s ∷ stands)) m
    at true in_it is_ more = has_front s.data_pages (flat_map (λ s. s.data_pages) stands) m
        (has_it s.data_pages m in_it)
    at false out is_ more = has_back s.data_pages (flat_map (λ s. s.data_pages) stands) m (more is_)

-- a record that has a version begins at one of the places
pub has_place : (coding : Coding) (f : Facts) (pages : Pages) (stands : List Stand) (r : Reading)
    → AreRecords coding f (cells_of pages) r → ((n : ℕ) → f.table_of n ≡ table_at stands n)
    → (p : RecId) (table : Table) → table_in f p ≡ Some table → r p ≢ [] → HasPlace (places_of pages stands) p
has_place coding f pages stands r are tables p table of some =
    in_pages pages (flat_map (λ s. s.data_pages) stands) p
    (data_of stands p.page.0 table (sym (tables p.page.0) ∙ of))
    (by (cell_of (pages p.page.0) p.slot) refl)
  where
    by : (c : Option (List ℕ)) → cell_of (pages p.page.0) p.slot ≡ c → p.slot < slot_count (pages p.page.0)
    by (Some bytes) is = slot_within (pages p.page.0) p.slot bytes is
    by None none = absurd (some (reads_none (cells_of pages) (r p)
        (subst (λ (c : Option Cell). Chain (cells_of pages) (newest_of p c) (r p)) (ap slot_cell none)
        (are.reads p table of))))
