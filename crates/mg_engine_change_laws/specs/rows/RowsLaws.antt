-- The rows of the records of pages, slot by slot, whatever the pages have in their slots.
use Rattle.std.proofs.Common.{◌≡◌, ◌⊎◌, inl, inr, ◌==◌, ◌+◌, ◌≤◌, ap, refl, sym, ◌∙◌, arith, ℕ, zero, suc, Bool, true, false, List, [], ◌∷◌, ◌++◌, Option, None, Some}
use Rattle.std.specs.Prelude.{filter, if◌then◌else◌}
use Rattle.std.proofs.lemmas.Bool.{eq-eqb, false≢true}
use Rattle.mg_base.specs.declared.numbers.RecId.{RecId}
use Rattle.mg_heap.specs.Walk.{behind, is_primary}
use Rattle.mg_image.specs.Form.{Pages, Row}
use Rattle.mg_image.specs.Records.{Reading, shown}
use Rattle.mg_image.specs.Tables.{Has}
use Rattle.mg_model.specs.declared.table.Table.{Table}
use Rattle.mg_model.specs.Changes.{KeyedRows}
use Rattle.mg_seek.specs.TableRecords.{rec_at, record_at, records_below, records_in, records_on}
use Rattle.mg_seek.specs.Walks.{keyed, rows_shown}
use Rattle.mg_slots.specs.DataPage.{cell_of, slot_count}
use Rattle.mg_slots.specs.DataPageLaws.{cell_past}
use Rattle.mg_engine_change_laws.specs.rows.RowWalks.{row_at_record}

-- ---- rows of records, one after another

abbrev pub rows_by : (RecId → KeyedRows) → List RecId → KeyedRows
rows_by f [] = []
rows_by f (p ∷ ps) = f p ++ rows_by f ps

keyed_front : (table : Table) (row : Option Row) (rows : KeyedRows)
    → keyed table row rows ≡ keyed table row [] ++ rows
keyed_front table None rows = refl
keyed_front table (Some row) rows = refl

pub rows_are : (counts : ℕ → Bool) (table : Table) (r : Reading) (recs : List RecId)
    → rows_shown counts table r recs ≡ rows_by (row_at_record counts table r) recs
rows_are counts table r [] = refl
rows_are counts table r (p ∷ ps) = keyed_front table (shown counts (r p)) (rows_shown counts table r ps)
    ∙ ap (λ (rows : KeyedRows). keyed table (shown counts (r p)) [] ++ rows) (rows_are counts table r ps)

assoc : (xs ys zs : KeyedRows) → (xs ++ ys) ++ zs ≡ xs ++ (ys ++ zs)
assoc [] ys zs = refl
assoc (x ∷ xs) ys zs = ap (λ (rows : KeyedRows). x ∷ rows) (assoc xs ys zs)

none_more : (xs : KeyedRows) → xs ++ [] ≡ xs
none_more [] = refl
none_more (x ∷ xs) = ap (λ (rows : KeyedRows). x ∷ rows) (none_more xs)

pub rows_both : (f : RecId → KeyedRows) (xs ys : List RecId) → rows_by f (xs ++ ys) ≡ rows_by f xs ++ rows_by f ys
rows_both f [] ys = refl
rows_both f (x ∷ xs) ys = ap (λ (rows : KeyedRows). f x ++ rows) (rows_both f xs ys)
    ∙ sym (assoc (f x) (rows_by f xs) (rows_by f ys))

-- those that pass a test
abbrev pub if_passes : (RecId → Bool) → (RecId → KeyedRows) → RecId → KeyedRows
if_passes test f p = if test p then f p else []

pub rows_filtered : (test : RecId → Bool) (f : RecId → KeyedRows) (recs : List RecId)
    → rows_by f (filter test recs) ≡ rows_by (if_passes test f) recs
rows_filtered test f [] = refl
rows_filtered test f (p ∷ ps) = at (test p) (rows_filtered test f ps)
  where
    at : (b : Bool) → rows_by f (filter test ps) ≡ rows_by (if_passes test f) ps
        → rows_by f (if b then p ∷ filter test ps else filter test ps)
        ≡ (if b then f p else []) ++ rows_by (if_passes test f) ps
    at true more = ap (λ (rows : KeyedRows). f p ++ rows) more
    at false more = more

-- ---- the slots of a page

-- the rows of the first slots, whether they have a record or not
abbrev rows_below : (RecId → KeyedRows) → ℕ → ℕ → KeyedRows
rows_below f n zero = []
rows_below f n (suc k) = rows_below f n k ++ f (rec_at n k)

-- a slot that has no record gives none
abbrev pub IsSilent : (RecId → KeyedRows) → List ℕ → ℕ → Type 0
IsSilent f b n = (k : ℕ) → is_primary (cell_of b k) ≡ false → f (rec_at n k) ≡ []

slots_are : (f : RecId → KeyedRows) (b : List ℕ) (n : ℕ) → IsSilent f b n → (k : ℕ)
    → rows_by f (records_below b n k) ≡ rows_below f n k
slots_are f b n silent zero = refl
slots_are f b n silent (suc k) = rows_both f (records_below b n k) (record_at b n k)
    ∙ (ap (λ (rows : KeyedRows). rows ++ rows_by f (record_at b n k)) (slots_are f b n silent k)
    ∙ ap (λ (rows : KeyedRows). rows_below f n k ++ rows) (at (is_primary (cell_of b k)) refl))
  where
    at : (c : Bool) → is_primary (cell_of b k) ≡ c
        → rows_by f (if is_primary (cell_of b k) then rec_at n k ∷ [] else []) ≡ f (rec_at n k)
    at true is = ap (λ (c : Bool). rows_by f (if c then rec_at n k ∷ [] else [])) is ∙ none_more (f (rec_at n k))
    at false is = ap (λ (c : Bool). rows_by f (if c then rec_at n k ∷ [] else [])) is ∙ sym (silent k is)

-- a sum by its first number
abbrev plus : ℕ → ℕ → ℕ
plus zero k = k
plus (suc m) k = suc (plus m k)

plus_is : (m k : ℕ) → plus m k ≡ m + k
plus_is zero k = omega arith
plus_is (suc m) k = let more = plus_is m k in omega (arith, more)

-- behind the last slot there are none
slots_more : (f : RecId → KeyedRows) (b : List ℕ) (n : ℕ) → IsSilent f b n → (m : ℕ)
    → rows_below f n (plus m (slot_count b)) ≡ rows_below f n (slot_count b)
slots_more f b n silent zero = refl
slots_more f b n silent (suc m) =
    let past : slot_count b ≤ plus m (slot_count b) =
    (let is = plus_is m (slot_count b) in omega (arith, is)) in
    ap (λ (rows : KeyedRows). rows_below f n (plus m (slot_count b)) ++ rows)
    (silent (plus m (slot_count b)) (ap is_primary (cell_past b (plus m (slot_count b)) past)))
    ∙ (none_more (rows_below f n (plus m (slot_count b))) ∙ slots_more f b n silent m)

slots_same : (f g : RecId → KeyedRows) (n : ℕ) → ((k : ℕ) → g (rec_at n k) ≡ f (rec_at n k)) → (k : ℕ)
    → rows_below g n k ≡ rows_below f n k
slots_same f g n same zero = refl
slots_same f g n same (suc k) = ap (λ (rows : KeyedRows). rows ++ g (rec_at n k)) (slots_same f g n same k)
    ∙ ap (λ (rows : KeyedRows). rows_below f n k ++ rows) (same k)

plus_other : (a b : ℕ) → plus a b ≡ plus b a
plus_other a b = let first = plus_is a b in let second = plus_is b a in omega (arith, first, second)

-- a page gives the rows of its records, whatever it has in its slots
pub page_same : (f g : RecId → KeyedRows) (b c : List ℕ) (n : ℕ) → IsSilent f b n → IsSilent g c n
    → ((k : ℕ) → g (rec_at n k) ≡ f (rec_at n k)) → rows_by g (records_on c n) ≡ rows_by f (records_on b n)
page_same f g b c n silent_f silent_g same = slots_are g c n silent_g (slot_count c)
    ∙ (sym (slots_more g c n silent_g (slot_count b))
    ∙ (slots_same f g n same (plus (slot_count b) (slot_count c))
    ∙ (ap (rows_below f n) (plus_other (slot_count b) (slot_count c))
    ∙ (slots_more f b n silent_f (slot_count c) ∙ sym (slots_are f b n silent_f (slot_count b))))))

-- ---- pages

-- on these pages slots without a record give none
abbrev pub AreSilent : (RecId → KeyedRows) → Pages → List ℕ → Type 0
AreSilent f view ns = (n : ℕ) → Has ns n → IsSilent f (view n) n

pub pages_same : (f g : RecId → KeyedRows) (pages later : Pages) (ns : List ℕ) → AreSilent f pages ns
    → AreSilent g later ns → ((p : RecId) → Has ns p.page.0 → g p ≡ f p)
    → rows_by g (records_in later ns) ≡ rows_by f (records_in pages ns)
pages_same f g pages later [] silent_f silent_g same = refl
pages_same f g pages later (n ∷ ns) silent_f silent_g same =
    rows_both g (records_on (later n) n) (records_in later ns)
    ∙ (ap (λ (rows : KeyedRows). rows ++ rows_by g (records_in later ns))
    (page_same f g (pages n) (later n) n (silent_f n (inl refl)) (silent_g n (inl refl))
    (λ k. same (rec_at n k) (inl refl)))
    ∙ (ap (λ (rows : KeyedRows). rows_by f (records_on (pages n) n) ++ rows)
    (pages_same f g pages later ns (λ m has. silent_f m (inr has)) (λ m has. silent_g m (inr has))
    (λ p has. same p (inr has)))
    ∙ sym (rows_both f (records_on (pages n) n) (records_in pages ns))))

pub records_both : (view : Pages) (ns ms : List ℕ)
    → records_in view (ns ++ ms) ≡ records_in view ns ++ records_in view ms
records_both view [] ms = refl
records_both view (n ∷ ns) ms = ap (λ (recs : List RecId). records_on (view n) n ++ recs) (records_both view ns ms)
    ∙ sym (recs_assoc (records_on (view n) n) (records_in view ns) (records_in view ms))
  where
    recs_assoc : (xs ys zs : List RecId) → (xs ++ ys) ++ zs ≡ xs ++ (ys ++ zs)
    recs_assoc [] ys zs = refl
    recs_assoc (x ∷ xs) ys zs = ap (λ (recs : List RecId). x ∷ recs) (recs_assoc xs ys zs)

-- pages that give nothing
pub pages_none : (g : RecId → KeyedRows) (later : Pages) (ms : List ℕ) → ((p : RecId) → Has ms p.page.0 → g p ≡ [])
    → rows_by g (records_in later ms) ≡ []
pages_none g later [] none = refl
pages_none g later (m ∷ ms) none =
    rows_both g (records_on (later m) m) (records_in later ms)
    ∙ (ap (λ (rows : KeyedRows). rows ++ rows_by g (records_in later ms)) (below (slot_count (later m)))
    ∙ pages_none g later ms (λ p has. none p (inr has)))
  where
    below : (k : ℕ) → rows_by g (records_below (later m) m k) ≡ []
    below zero = refl
    below (suc k) = rows_both g (records_below (later m) m k) (record_at (later m) m k)
        ∙ (ap (λ (rows : KeyedRows). rows ++ rows_by g (record_at (later m) m k)) (below k)
        ∙ at (is_primary (cell_of (later m) k)))
      where
        at : (c : Bool) → rows_by g (if c then rec_at m k ∷ [] else []) ≡ []
        at true = none_more (g (rec_at m k)) ∙ none (rec_at m k) (inl refl)
        at false = refl

-- ---- behind a page

pub behind_more : (ns ms : List ℕ) (n : ℕ) → Has ns n → behind (ns ++ ms) n ≡ behind ns n ++ ms
behind_more [] ms n has = absurd has
behind_more (k ∷ ks) ms n has = at (k == n) refl has (λ further. behind_more ks ms n further)
  where
    at : (b : Bool) → (k == n) ≡ b → (n ≡ k) ⊎ Has ks n
        → (Has ks n → behind (ks ++ ms) n ≡ behind ks n ++ ms)
        → (if b then ks ++ ms else behind (ks ++ ms) n) ≡ (if b then ks else behind ks n) ++ ms
    at true is has_ further = refl
    at false is (inl same) further = absurd (false≢true (sym is ∙ itself same))
      where
        itself : n ≡ k → (k == n) ≡ true
        itself same_ = eq-eqb k n (sym same_)
    at false is (inr more) further = further more

pub has_behind : (ns : List ℕ) (n m : ℕ) → Has (behind ns n) m → Has ns m
has_behind [] n m has = has
has_behind (k ∷ ks) n m has = at (k == n) has (λ further. has_behind ks n m further)
  where
    at : (b : Bool) → Has (if b then ks else behind ks n) m → (Has (behind ks n) m → Has ks m)
        → (m ≡ k) ⊎ Has ks m
    at true has_ further = inr has_
    at false has_ further = inr (further has_)
