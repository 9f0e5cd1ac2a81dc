-- Records are listed one after another, and marks are counted.
use Rattle.std.specs.Prelude.{◌≡◌, ◌<◌, ◌≤◌, ◌+◌, ℕ, zero, suc, Bool, true, false, List, [], ◌∷◌, ◌++◌, Option, None, Some, Result, Ok, Err, IfOk, get_or, length}
use Rattle.std.proofs.Common.{refl, sym, ap, ◌∙◌, inl, inr, arith, subst, add-one, append-nil}
use Rattle.std.proofs.lemmas.List.{append_assoc}
use Rattle.mg_base.specs.declared.memory.Memory.{Memory}
use Rattle.mg_base.specs.declared.numbers.RecId.{RecId}
use Rattle.mg_check_records.specs.Listing.{ArePlaced, mark_number, records_of, records_on, set_below, with_record}
use Rattle.mg_image.specs.Form.{Pages}
use Rattle.mg_image.specs.Records.{Cells, cells_of, newest_of, slot_cell}
use Rattle.mg_image.specs.Tables.{Has}
use Rattle.mg_slots.specs.DataPage.{cell_of, slot_count}
use Rattle.mg_version.specs.declared.cell.Link.{Link}

-- ---- marks

pub set_more : (marks : List Bool) (n count number : ℕ) (mark : Bool) → count ≡ set_below marks n
    → mark ≡ get_or marks n false → number ≡ mark_number mark → count + number ≡ set_below marks (n + 1)
set_more marks n count number mark before is here =
    let same = ap mark_number is in rw (add-one n) (omega (arith, before, here, same))

-- no more than there are numbers
pub set_few : (marks : List Bool) (n : ℕ) → set_below marks n ≤ n
set_few marks zero = omega arith
set_few marks (suc n) =
    let before = set_few marks n in
    let here = one (get_or marks n false) in omega (arith, before, here)
  where
    one : (mark : Bool) → mark_number mark ≤ 1
    one true = omega arith
    one false = omega arith

pub set_all : (marks : List Bool) (n end len count : ℕ) → end ≡ len → n ≤ end → end ≤ n
    → count ≡ set_below marks n → count ≡ set_below marks len
set_all marks n end len count whole most least is =
    subst (λ (k : ℕ). count ≡ set_below marks k) (equal n end most least ∙ whole) is
  where
    equal : (a b : ℕ) → a ≤ b → b ≤ a → a ≡ b
    equal a b most least = omega arith

-- ---- a slot

pub newest_told : (pages : Pages) (b : List ℕ) (p : RecId) (result : Result (Option Link) Memory)
    → b ≡ pages p.page.0 → IfOk result (λ newest. newest ≡ newest_of p (slot_cell (cell_of b p.slot)))
    → IfOk result (λ newest. newest ≡ newest_of p (cells_of pages p))
newest_told pages b p (Ok newest) same told =
    told ∙ ap (λ (page : List ℕ). newest_of p (slot_cell (cell_of page p.slot))) same
newest_told pages b p (Err fault) same told = tt

pub records_more : (h : Cells) (n slot : ℕ) (old now new : List RecId) (newest : Option Link)
    → now ≡ old ++ records_on h n slot
    → newest ≡ newest_of (record { page = record { 0 = n }; slot = slot })
    (h (record { page = record { 0 = n }; slot = slot }))
    → new ≡ now ++ with_record (record { page = record { 0 = n }; slot = slot }) newest
    → new ≡ old ++ records_on h n (slot + 1)
records_more h n slot old now new newest before told added = added
    ∙ (ap (λ (l : List RecId). l ++ with_record (record { page = record { 0 = n }; slot = slot }) newest) before
    ∙ (append_assoc old (records_on h n slot) (with_record (record { page = record { 0 = n }; slot = slot }) newest)
    ∙ (ap (λ (o : Option Link). old ++ (records_on h n slot ++ with_record (record { page = record { 0 = n }; slot = slot }) o)) told
    ∙ ap (λ (k : ℕ). old ++ records_on h n k) (sym (add-one slot)))))

-- ---- slots are on their pages

placed_append : (ns : List ℕ) (ps qs : List RecId) → ArePlaced ns ps → ArePlaced ns qs
    → ArePlaced ns (ps ++ qs)
placed_append ns [] qs first rest = rest
placed_append ns (p ∷ ps) qs first rest = (first.0, placed_append ns ps qs first.1 rest)

placed_slot : (ns : List ℕ) (n slot : ℕ) (newest : Option Link) → Has ns n
    → ArePlaced ns (with_record (record { page = record { 0 = n }; slot = slot }) newest)
placed_slot ns n slot None has = tt
placed_slot ns n slot (Some link) has = (has, tt)

placed_on : (h : Cells) (ns : List ℕ) (n k : ℕ) → Has ns n → ArePlaced ns (records_on h n k)
placed_on h ns n zero has = tt
placed_on h ns n (suc k) has = placed_append ns (records_on h n k)
    (with_record (record { page = record { 0 = n }; slot = k })
    (newest_of (record { page = record { 0 = n }; slot = k }) (h (record { page = record { 0 = n }; slot = k }))))
    (placed_on h ns n k has)
    (placed_slot ns n k
    (newest_of (record { page = record { 0 = n }; slot = k }) (h (record { page = record { 0 = n }; slot = k }))) has)

-- ---- pages

-- a list of no length holds nothing
pub none_left : {A : Type 0} (xs : List A) → length xs ≡ 0 → xs ≡ []
none_left [] none = refl
none_left (x ∷ xs) none = absurd (omega (arith, none))

-- How far the list has come: with the records of the pages that are left it is whole.
pub record AreListedOver (pages : Pages) (ns rest : List ℕ) (records : List RecId) : Type 0 where
  pub whole : records ++ records_of pages rest ≡ records_of pages ns
  pub placed : ArePlaced ns records
  pub among : (m : ℕ) → Has rest m → Has ns m

pub listed_begin : (pages : Pages) (ns : List ℕ) (records : List RecId) → records ≡ []
    → AreListedOver pages ns ns records
listed_begin pages ns records empty = subst (AreListedOver pages ns ns) (sym empty)
    (record { whole = refl; placed = tt; among = λ m has. has })

pub listed_first : (pages : Pages) (ns rest later : List ℕ) (n : ℕ) (records : List RecId)
    → AreListedOver pages ns rest records → rest ≡ n ∷ later → Has ns n
listed_first pages ns rest later n records is cases =
    is.among n (subst (λ (l : List ℕ). Has l n) (sym cases) (inl refl))

pub listed_more : (pages : Pages) (ns rest later : List ℕ) (n : ℕ) (records new : List RecId)
    → AreListedOver pages ns rest records → rest ≡ n ∷ later
    → new ≡ records ++ records_on (cells_of pages) n (slot_count (pages n))
    → AreListedOver pages ns later new
listed_more pages ns rest later n records new is cases added = record {
  whole = ap (λ (l : List RecId). l ++ records_of pages later) added
      ∙ (append_assoc records (records_on (cells_of pages) n (slot_count (pages n))) (records_of pages later)
      ∙ (ap (λ (l : List ℕ). records ++ records_of pages l) (sym cases) ∙ is.whole));
  placed = subst (ArePlaced ns) (sym added)
      (placed_append ns records (records_on (cells_of pages) n (slot_count (pages n))) is.placed
      (placed_on (cells_of pages) ns n (slot_count (pages n)) (listed_first pages ns rest later n records is cases)));
  among = λ m has. is.among m (subst (λ (l : List ℕ). Has l m) (sym cases) (inr has));
}

pub listed_whole : (pages : Pages) (ns rest : List ℕ) (records : List RecId)
    → AreListedOver pages ns rest records → rest ≡ []
    → (records ≡ records_of pages ns) × ArePlaced ns records
listed_whole pages ns rest records is none = (
  sym (append-nil records) ∙ (ap (λ (l : List ℕ). records ++ records_of pages l) (sym none) ∙ is.whole),
  is.placed,
)
