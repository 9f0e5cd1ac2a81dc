-- The walks over the records of a table, one after another.
use Rattle.std.specs.Prelude.{◌≡◌, ◌<◌, ◌≤◌, ◌+◌, ◌-◌, ◌*◌, ◌&&◌, ℕ, zero, suc, Bool, true, false, nat_lt, List, [], ◌∷◌, ◌++◌, Option, Result, Ok, Err, OnOk, IfOk, length, replicate}
use Rattle.std.proofs.Common.{refl, sym, ap, ◌∙◌, inl, inr, arith, subst, add-one, get_or, append-nil}
use Rattle.std.proofs.lemmas.List.{append_assoc, length-replicate}
use Rattle.mg_base.specs.declared.geometry.TheConstants.{GREATEST_LIMIT}
use Rattle.mg_base.specs.declared.memory.Memory.{Memory}
use Rattle.mg_base.specs.declared.numbers.RecId.{RecId}
use Rattle.mg_base.specs.Fields.{u32_at}
use Rattle.mg_base.specs.declared.fields.TheConstants.{SEQUENCE_AT}
use Rattle.mg_check_records.proofs.PlaceLemmas.{each_there, place_tells}
use Rattle.mg_check_records.specs.Marks.{mark_at, met_in, most_slots}
use Rattle.mg_check_records.specs.Records.{AreWalked, IsWalkedOver, end_list, none_met, places_of, slots_below}
use Rattle.mg_check_records.specs.Records as records
use Rattle.mg_check_records.specs.Walks.{IsWalk, Met, all_met}
use Rattle.mg_check_tables.specs.FewPlaces.{places_few}
use Rattle.mg_findings.specs.declared.finding.Finding.{Finding}
use Rattle.mg_image.specs.declared.entry.Entry.{Entry}
use Rattle.mg_image.specs.Form.{Pages}
use Rattle.mg_image.specs.Records.{Cells, newest_of}
use Rattle.mg_image.specs.Sound.{IsTableData}
use Rattle.mg_image.specs.Tables.{EachFrom, Has, has}
use Rattle.mg_model.specs.declared.table.Table.{Table}
use Rattle.mg_slots.specs.DataPage.{slot_count}
use Rattle.mg_version.specs.declared.cell.Link.{Link}

-- ---- no mark is set

clear_at : (count at : ℕ) → get_or (replicate count false) at false ≡ false
clear_at zero at = refl
clear_at (suc count) zero = refl
clear_at (suc count) (suc at) = clear_at count at

none_marked : (ns : List ℕ) (most count : ℕ) (x : RecId)
    → met_in ns most (replicate count false) x ≡ none_met x
none_marked ns most count x = at (has ns x.page.0) (nat_lt x.slot most)
    (clear_at count (mark_at ns most x))
  where
    at : (a b : Bool) → get_or (replicate count false) (mark_at ns most x) false ≡ false
        → (a && (b && get_or (replicate count false) (mark_at ns most x) false)) ≡ false
    at false b clear = refl
    at true false clear = refl
    at true true clear = clear

pub clear_met : (ns : List ℕ) (size count : ℕ) (result : Result (List Bool) Memory)
    → IfOk result (λ marks. marks ≡ replicate count false)
    → IfOk result (λ marks. met_in ns (most_slots size) marks ≡ none_met)
clear_met ns size count (Ok marks) clear = ap (met_in ns (most_slots size)) clear
    ∙ (λ i x. none_marked ns (most_slots size) count x i)
clear_met ns size count (Err fault) clear = tt

pub clear_long : (count : ℕ) (result : Result (List Bool) Memory)
    → IfOk result (λ marks. marks ≡ replicate count false) → IfOk result (λ marks. length marks ≡ count)
clear_long count (Ok marks) clear = ap length clear ∙ length-replicate {A = Bool} count false
clear_long count (Err fault) clear = tt

pub clear_by : (most count : ℕ) (size : ℕ) (ns : List ℕ) (result : Result (List Bool) Memory)
    → most ≡ most_slots size → IfOk result (λ marks. marks ≡ replicate (length ns * most) false)
    → IfOk result (λ marks. marks ≡ replicate (length ns * most_slots size) false)
clear_by most count size ns (Ok marks) same clear =
    clear ∙ ap (λ (m : ℕ). replicate (length ns * m) false) same
clear_by most count size ns (Err fault) same clear = tt

pub walked_none : (h : Cells) (table : Table) (ns : List ℕ) (size count : ℕ)
    → IsWalkedOver h table ns size [] (replicate count false) []
walked_none h table ns size count = record {
  met = none_met;
  walked = records.begun;
  marked = λ i x. none_marked ns (most_slots size) count x i;
}

-- ---- one record more

pub walked_more : (h : Cells) (table : Table) (ns : List ℕ) (size : ℕ) (ps : List RecId)
    (old new : List Bool) (found all : List Finding) (p : RecId) (newest : Option Link)
    (es : List Entry) (end : Option Finding) → IsWalkedOver h table ns size ps old found
    → newest ≡ newest_of p (h p)
    → IsWalk h table ns (met_in ns (most_slots size) old) p newest es end
    → met_in ns (most_slots size) new ≡ all_met es (met_in ns (most_slots size) old)
    → all ≡ found ++ end_list end → IsWalkedOver h table ns size (ps ++ p ∷ []) new all
walked_more h table ns size ps old new found all p newest es end is first walk met added = record {
  met = all_met es is.met;
  walked = subst (AreWalked h table ns (ps ++ p ∷ []) (all_met es is.met)) (sym added)
      (records.more ps is.met found p es end is.walked
      (subst (λ (m : Met). IsWalk h table ns m p (newest_of p (h p)) es end) is.marked
      (subst (λ (o : Option Link). IsWalk h table ns (met_in ns (most_slots size) old) p o es end)
      first walk)));
  marked = met ∙ ap (all_met es) is.marked;
}

pub walked_slot : (h : Cells) (table : Table) (ns : List ℕ) (size : ℕ) (old new : List Bool)
    (found all : List Finding) (p : RecId) (newest : Option Link) (es : List Entry)
    (end : Option Finding) (result : Result (Unit {0}) Memory) → newest ≡ newest_of p (h p)
    → IsWalk h table ns (met_in ns (most_slots size) old) p newest es end
    → met_in ns (most_slots size) new ≡ all_met es (met_in ns (most_slots size) old)
    → OnOk result (all ≡ found ++ end_list end)
    → OnOk result ((ps : List RecId) → IsWalkedOver h table ns size ps old found
    → IsWalkedOver h table ns size (ps ++ p ∷ []) new all)
walked_slot h table ns size old new found all p newest es end (Ok _) first walk met added =
    λ ps is. walked_more h table ns size ps old new found all p newest es end is first walk met added
walked_slot h table ns size old new found all p newest es end (Err fault) first walk met added = tt

-- ---- slots and pages

pub slots_more : (n k : ℕ) (ps : List RecId) → (ps ++ slots_below n k) ++ record { page = record { 0 = n }; slot = k } ∷ []
    ≡ ps ++ slots_below n (k + 1)
slots_more n k ps =
    append_assoc ps (slots_below n k) (record { page = record { 0 = n }; slot = k } ∷ [])
    ∙ ap (λ (m : ℕ). ps ++ slots_below n m) (sym (add-one k))

-- one slot more of a page
pub page_step : (h : Cells) (table : Table) (ns : List ℕ) (size n slot : ℕ)
    (first old new : List Bool) (none found all : List Finding)
    → ((ps : List RecId) → IsWalkedOver h table ns size ps first none
    → IsWalkedOver h table ns size (ps ++ slots_below n slot) old found)
    × (length old ≡ length first)
    → ((ps : List RecId) → IsWalkedOver h table ns size ps old found
    → IsWalkedOver h table ns size (ps ++ record { page = record { 0 = n }; slot = slot } ∷ []) new all)
    → length new ≡ length old
    → ((ps : List RecId) → IsWalkedOver h table ns size ps first none
    → IsWalkedOver h table ns size (ps ++ slots_below n (slot + 1)) new all)
    × (length new ≡ length first)
page_step h table ns size n slot first old new none found all before one same = (
  λ ps over. subst (λ (l : List RecId). IsWalkedOver h table ns size l new all)
      (slots_more n slot ps) (one (ps ++ slots_below n slot) (before.0 ps over)),
  same ∙ before.1,
)

-- How far the walks over the pages have come: with those that are left they are those over all.
pub record IsOverPages (h : Cells) (pages : Pages) (table : Table) (ns : List ℕ) (size : ℕ)
    (rest : List ℕ) (marks : List Bool) (found : List Finding) : Type 0 where
  pub ps : List RecId
  pub over : IsWalkedOver h table ns size ps marks found
  pub whole : ps ++ places_of pages rest ≡ places_of pages ns
  pub among : (m : ℕ) → Has rest m → Has ns m
  pub len : length marks ≡ length ns * most_slots size

-- the first of the pages that are left is one of the table's
pub page_among : (h : Cells) (pages : Pages) (table : Table) (ns : List ℕ) (size : ℕ)
    (rest later : List ℕ) (n : ℕ) (marks : List Bool) (found : List Finding)
    → IsOverPages h pages table ns size rest marks found → rest ≡ n ∷ later → Has ns n
page_among h pages table ns size rest later n marks found is cases =
    is.among n (subst (λ (l : List ℕ). Has l n) (sym cases) (inl refl))

pub pages_begin : (h : Cells) (pages : Pages) (table : Table) (ns : List ℕ) (size count : ℕ)
    (marks : List Bool) (found : List Finding) → marks ≡ replicate count false → found ≡ []
    → count ≡ length ns * most_slots size → IsOverPages h pages table ns size ns marks found
pages_begin h pages table ns size count marks found clear empty long = record {
  ps = [];
  over = subst (λ (m : List Bool). IsWalkedOver h table ns size [] m found) (sym clear)
      (subst (IsWalkedOver h table ns size [] (replicate count false)) (sym empty)
      (walked_none h table ns size count));
  whole = refl;
  among = λ m has. has;
  len = ap length clear ∙ (length-replicate {A = Bool} count false ∙ long);
}

pub pages_go_on : (h : Cells) (pages : Pages) (table : Table) (ns : List ℕ) (size : ℕ)
    (rest later : List ℕ) (n : ℕ) (old new : List Bool) (found all : List Finding)
    → IsOverPages h pages table ns size rest old found → rest ≡ n ∷ later
    → ((ps : List RecId) → IsWalkedOver h table ns size ps old found
    → IsWalkedOver h table ns size (ps ++ slots_below n (slot_count (pages n))) new all)
    → length new ≡ length old → IsOverPages h pages table ns size later new all
pages_go_on h pages table ns size rest later n old new found all is cases walked same = record {
  ps = is.ps ++ slots_below n (slot_count (pages n));
  over = walked is.ps is.over;
  whole = append_assoc is.ps (slots_below n (slot_count (pages n))) (places_of pages later)
      ∙ (ap (λ (l : List ℕ). is.ps ++ places_of pages l) (sym cases) ∙ is.whole);
  among = λ m has. is.among m (subst (λ (l : List ℕ). Has l m) (sym cases) (inr has));
  len = same ∙ is.len;
}

pub pages_end : (h : Cells) (pages : Pages) (table : Table) (ns : List ℕ) (size : ℕ) (rest : List ℕ)
    (marks : List Bool) (found : List Finding) → IsOverPages h pages table ns size rest marks found
    → rest ≡ [] → IsWalkedOver h table ns size (places_of pages ns) marks found
pages_end h pages table ns size rest marks found is none =
    subst (λ (ps : List RecId). IsWalkedOver h table ns size ps marks found)
    (sym (append-nil is.ps) ∙ (ap (λ (l : List ℕ). is.ps ++ places_of pages l) (sym none) ∙ is.whole)) is.over

-- ---- a table has no more data pages than an image has pages

pub pages_few : (size : ℕ) (pages : Pages) (owner : ℕ) (ns : List ℕ)
    → EachFrom (IsTableData false size pages owner) 0 ns → length ns ≤ GREATEST_LIMIT
pages_few size pages owner ns tested =
    places_few GREATEST_LIMIT (length ns) (λ m. u32_at (pages m) SEQUENCE_AT)
    (λ k below. place_tells size pages owner ns tested k below)

-- so their marks are few
split_product : (n d m : ℕ) → (n + d) * m ≡ n * m + d * m
split_product n d m = omega arith

pub marks_few : (size : ℕ) (pages : Pages) (owner : ℕ) (ns : List ℕ) (m : ℕ)
    → EachFrom (IsTableData false size pages owner) 0 ns → m < 4294967296
    → length ns * m ≤ 131072 * 4294967296
marks_few size pages owner ns m tested small =
    let few = pages_few size pages owner ns tested in
    let sum : length ns + (131072 - length ns) ≡ 131072 = omega (arith, few) in
    let product = ap (λ (k : ℕ). k * m) sum in
    let whole = split_product (length ns) (131072 - length ns) m in
    omega (arith, product, whole, small)
