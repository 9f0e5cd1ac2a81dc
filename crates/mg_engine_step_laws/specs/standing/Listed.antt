-- A record with a version is one of those that a table is said to have.
use Rattle.std.proofs.Common.{◌≡◌, ◌⊎◌, ◌<◌, ◌≤◌, ◌==◌, ◌||◌, inl, inr, ℕ, zero, suc, Bool, true, false, List, [], ◌∷◌, ◌++◌, Option, None, Some, refl, sym, ap, ◌∙◌, subst, arith, cond}
use Rattle.std.proofs.lemmas.Bool.{cases_eq, cases_lt, false≢true}
use Rattle.mg_base.specs.Fields.{byte}
use Rattle.mg_base.specs.declared.numbers.RecId.{RecId}
use Rattle.mg_chain.specs.Chains.{newest_link}
use Rattle.mg_heap.specs.Walk.{is_primary}
use Rattle.mg_image.specs.Form.{Pages}
use Rattle.mg_image.specs.Records.{Chain, cell_spelled, cells_of, goes, newest_of, slot_cell}
use Rattle.mg_image.specs.Tables.{Has}
use Rattle.mg_image.specs.declared.entry.Entry.{Entry}
use Rattle.mg_image.specs.declared.entry.TheConstants.{PRIMARY_VERSION}
use Rattle.mg_slots.specs.DataPage.{cell_of, slot_count}
use Rattle.mg_slots.specs.DataPageLaws.{cell_past}
use Rattle.mg_version.specs.CellReading.{link_in, version_in}
use Rattle.mg_version.specs.declared.cell.Cell.TheVariants as cells
use Rattle.mg_version.specs.declared.cell.Link.{Link}
use Rattle.mg_version.specs.declared.cell.TheConstants.{ANCHOR, NEWEST_AT}
use Rattle.mg_seek.specs.TableRecords.{IsAmong, rec_at, record_at, records_below, records_in, records_on}

among_left : (xs ys : List RecId) (rec : RecId) → IsAmong xs rec → IsAmong (xs ++ ys) rec
among_left [] ys rec is = absurd is
among_left (x ∷ xs) ys rec (inl same) = inl same
among_left (x ∷ xs) ys rec (inr later) = inr (among_left xs ys rec later)

among_right : (xs ys : List RecId) (rec : RecId) → IsAmong ys rec → IsAmong (xs ++ ys) rec
among_right [] ys rec is = is
among_right (x ∷ xs) ys rec is = inr (among_right xs ys rec is)

here_among : (b : List ℕ) (n slot : ℕ) → is_primary (cell_of b slot) ≡ true
    → IsAmong (record_at b n slot) (rec_at n slot)
here_among b n slot primary = subst (λ (p : Bool). IsAmong (cond p (rec_at n slot ∷ []) []) (rec_at n slot))
    (sym primary) (inl refl)

among_below : (b : List ℕ) (n k slot : ℕ) → slot < k → is_primary (cell_of b slot) ≡ true
    → IsAmong (records_below b n k) (rec_at n slot)
among_below b n zero slot below primary = absurd (omega arith)
among_below b n (suc k) slot below primary = at (cases_eq slot k) (λ less. among_below b n k slot less primary)
  where
    at : (slot ≡ k) ⊎ (slot ≡ k → ⊥) → (slot < k → IsAmong (records_below b n k) (rec_at n slot))
        → IsAmong (records_below b n k ++ record_at b n k) (rec_at n slot)
    at (inl same) earlier = among_right (records_below b n k) (record_at b n k) (rec_at n slot)
        (subst (λ (j : ℕ). IsAmong (record_at b n j) (rec_at n slot)) same (here_among b n slot primary))
    at (inr other) earlier = among_left (records_below b n k) (record_at b n k) (rec_at n slot)
        (earlier (omega (arith, other)))

among_on : (b : List ℕ) (n slot : ℕ) → is_primary (cell_of b slot) ≡ true
    → IsAmong (records_on b n) (rec_at n slot)
among_on b n slot primary = among_below b n (slot_count b) slot (inside (cases_lt slot (slot_count b))) primary
  where
    inside : (slot < slot_count b) ⊎ (slot_count b ≤ slot) → slot < slot_count b
    inside (inl below) = below
    inside (inr past) = absurd (false≢true (sym (ap is_primary (cell_past b slot past)) ∙ primary))

-- ---- on some pages

among_pages : (view : Pages) (ds : List ℕ) (rec : RecId) → Has ds rec.page.0
    → is_primary (cell_of (view rec.page.0) rec.slot) ≡ true → IsAmong (records_in view ds) rec
among_pages view [] rec has primary = absurd has
among_pages view (d ∷ ds) rec (inl same) primary =
    among_left (records_on (view d) d) (records_in view ds) rec
    (subst (λ (n : ℕ). IsAmong (records_on (view n) n) rec) same
    (among_on (view rec.page.0) rec.page.0 rec.slot primary))
among_pages view (d ∷ ds) rec (inr later) primary =
    among_right (records_on (view d) d) (records_in view ds) rec (among_pages view ds rec later primary)

-- ---- which slots have a newest version

spelled_primary : (bytes : List ℕ) (rec : RecId) (l : Link)
    → newest_of rec (Some (cell_spelled bytes)) ≡ Some l
    → (byte bytes 0 == ANCHOR || byte bytes 0 == PRIMARY_VERSION) ≡ true
spelled_primary bytes rec l is = at (byte bytes 0 == PRIMARY_VERSION) (byte bytes 0 == ANCHOR) is
  where
    at : (p a : Bool) → newest_of rec (Some (cond p
        (cells.Version (record (version_in bytes) { primary = true }))
        (cond a (cells.Anchor (link_in bytes NEWEST_AT)) (cells.Version (version_in bytes))))) ≡ Some l
        → (a || p) ≡ true
    at true true is = refl
    at true false is = refl
    at false true is = refl
    at false false is = absurd cc

newest_primary : (view : Pages) (rec : RecId) (l : Link) → newest_link view rec ≡ Some l
    → is_primary (cell_of (view rec.page.0) rec.slot) ≡ true
newest_primary view rec l is = at (cell_of (view rec.page.0) rec.slot) is
  where
    at : (cell : Option (List ℕ)) → newest_of rec (slot_cell cell) ≡ Some l → is_primary cell ≡ true
    at None is = absurd cc
    at (Some bytes) is = spelled_primary bytes rec l is

-- a link leads to the versions that are read, where there are some
link_there : (view : Pages) (link : Option Link) (e : Entry) (es : List Entry)
    → Chain (cells_of view) link (e ∷ es) → (l : Link) × (link ≡ Some l)
link_there view link e es (goes l d rest at cell by more) = (l, refl)

-- a record of a page of the table, which has a version, is one of its records
pub is_listed : (view : Pages) (ds : List ℕ) (rec : RecId) (e : Entry) (es : List Entry)
    → Has ds rec.page.0 → Chain (cells_of view) (newest_link view rec) (e ∷ es)
    → IsAmong (records_in view ds) rec
is_listed view ds rec e es has chain =
    let it = link_there view (newest_link view rec) e es chain in
    among_pages view ds rec has (newest_primary view rec it.0 it.1)

-- ---- and each of its records is of one of its pages

among_either : (xs ys : List RecId) (rec : RecId) → IsAmong (xs ++ ys) rec
    → IsAmong xs rec ⊎ IsAmong ys rec
among_either [] ys rec is = inr is
among_either (x ∷ xs) ys rec (inl same) = inl (inl same)
among_either (x ∷ xs) ys rec (inr later) = at (among_either xs ys rec later)
  where
    at : IsAmong xs rec ⊎ IsAmong ys rec → IsAmong (x ∷ xs) rec ⊎ IsAmong ys rec
    at (inl is) = inl (inr is)
    at (inr is) = inr is

here_page : (b : List ℕ) (n slot : ℕ) (rec : RecId) → IsAmong (record_at b n slot) rec → n ≡ rec.page.0
here_page b n slot rec = at (is_primary (cell_of b slot))
  where
    at : (p : Bool) → IsAmong (cond p (rec_at n slot ∷ []) []) rec → n ≡ rec.page.0
    at true (inl same) = ap (λ (x : RecId). x.page.0) same
    at true (inr nothing) = absurd nothing
    at false is = absurd is

below_page : (b : List ℕ) (n k : ℕ) (rec : RecId) → IsAmong (records_below b n k) rec → n ≡ rec.page.0
below_page b n zero rec is = absurd is
below_page b n (suc k) rec is = at (among_either (records_below b n k) (record_at b n k) rec is)
    (λ earlier. below_page b n k rec earlier)
  where
    at : IsAmong (records_below b n k) rec ⊎ IsAmong (record_at b n k) rec
        → (IsAmong (records_below b n k) rec → n ≡ rec.page.0) → n ≡ rec.page.0
    at (inl is) earlier = earlier is
    at (inr is) earlier = here_page b n k rec is

pub page_listed : (view : Pages) (ds : List ℕ) (rec : RecId) → IsAmong (records_in view ds) rec
    → Has ds rec.page.0
page_listed view [] rec is = absurd is
page_listed view (d ∷ ds) rec is = at (among_either (records_on (view d) d) (records_in view ds) rec is)
    (λ later. page_listed view ds rec later)
  where
    at : IsAmong (records_on (view d) d) rec ⊎ IsAmong (records_in view ds) rec
        → (IsAmong (records_in view ds) rec → Has ds rec.page.0) → Has (d ∷ ds) rec.page.0
    at (inl here_) further = inl (sym (below_page (view d) d (slot_count (view d)) rec here_))
    at (inr later) further = inr (further later)
