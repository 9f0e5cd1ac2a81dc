-- The records behind a place and the rows that they show, where the data pages are as they were.
use Rattle.std.proofs.Common.{◌≡◌, ◌⊎◌, inl, inr, ◌==◌, ◌+◌, refl, ap, ◌∙◌, ℕ, zero, suc, Bool, true, false, List, [], ◌∷◌, ◌++◌, Option, None, Some}
use Rattle.std.specs.Prelude.{filter, if◌then◌else◌, nat_le}
use Rattle.mg_base.specs.declared.numbers.RecId.{RecId}
use Rattle.mg_heap.specs.Walk.{behind, is_primary}
use Rattle.mg_image.specs.Form.{Pages, Row}
use Rattle.mg_image.specs.Records.{Reading, shown}
use Rattle.mg_image.specs.Tables.{Has}
use Rattle.mg_model.specs.declared.table.Table.{Table}
use Rattle.mg_model.specs.Changes.{KeyedRows}
use Rattle.mg_seek.specs.TableRecords.{EachRecord, rec_at, record_at, records_below, records_in, records_on}
use Rattle.mg_seek.specs.Walks.{StandsAt, keyed, records_behind, records_from, rows_shown}
use Rattle.mg_slots.specs.DataPage.{cell_of, slot_count}

-- ---- the pages behind one

pub has_behind : (ns : List ℕ) (n m : ℕ) → Has (behind ns n) m → Has ns m
has_behind [] n m has = has
has_behind (k ∷ ks) n m has = at (k == n) (has_behind ks n m) has
  where
    at : (b : Bool) → (Has (behind ks n) m → Has ks m) → Has (if b then ks else behind ks n) m → (m ≡ k) ⊎ Has ks m
    at true more has = inr has
    at false more has = inr (more has)

-- ---- the records of a page stand on it

both : (P : RecId → Type 0) (xs ys : List RecId) → EachRecord P xs → EachRecord P ys → EachRecord P (xs ++ ys)
both P [] ys each more = more
both P (x ∷ xs) ys each more = (each.0, both P xs ys each.1 more)

kept : (P : RecId → Type 0) (test : RecId → Bool) (xs : List RecId) → EachRecord P xs
    → EachRecord P (filter test xs)
kept P test [] each = tt
kept P test (x ∷ xs) each = at (test x) (kept P test xs each.1)
  where
    at : (b : Bool) → EachRecord P (filter test xs) → EachRecord P (if b then x ∷ filter test xs else filter test xs)
    at true more = (each.0, more)
    at false more = more

module _ (P : RecId → Type 0) (b : List ℕ) (n : ℕ) (each : (slot : ℕ) → P (rec_at n slot)) where
  each_below : (k : ℕ) → EachRecord P (records_below b n k)
  each_below zero = tt
  each_below (suc k) = both P (records_below b n k) (record_at b n k) (each_below k) (at (is_primary (cell_of b k)))
    where
      at : (c : Bool) → EachRecord P (if c then rec_at n k ∷ [] else [])
      at true = (each k, tt)
      at false = tt

  each_on : EachRecord P (records_on b n)
  each_on = each_below (slot_count b)

-- each record of some data pages stands on one of them
each_in : (P : RecId → Type 0) (pages : Pages) (ns : List ℕ) → ((p : RecId) → Has ns p.page.0 → P p)
    → EachRecord P (records_in pages ns)
each_in P pages [] each = tt
each_in P pages (n ∷ ns) each = both P (records_on (pages n) n) (records_in pages ns)
    (each_on P (pages n) n (λ slot. each (rec_at n slot) (inl refl)))
    (each_in P pages ns (λ p has. each p (inr has)))

pub each_behind : (P : RecId → Type 0) (pages : Pages) (ns : List ℕ) (after : Option RecId) → StandsAt ns after
    → ((p : RecId) → Has ns p.page.0 → P p) → EachRecord P (records_behind pages ns after)
each_behind P pages ns None stands each = each_in P pages ns each
each_behind P pages ns (Some x) stands each =
    both P (records_from (pages x.page.0) x.page.0 (x.slot + 1)) (records_in pages (behind ns x.page.0))
    (kept P (λ rec. nat_le (x.slot + 1) rec.slot) (records_on (pages x.page.0) x.page.0)
    (each_on P (pages x.page.0) x.page.0 (λ slot. each (rec_at x.page.0 slot) stands)))
    (each_in P pages (behind ns x.page.0) (λ p has. each p (has_behind ns x.page.0 p.page.0 has)))

-- ---- pages that are as they were have the records that they had

in_same : (pages later : Pages) (ns : List ℕ) → ((n : ℕ) → Has ns n → later n ≡ pages n)
    → records_in later ns ≡ records_in pages ns
in_same pages later [] same = refl
in_same pages later (n ∷ ns) same =
    ap (λ (b : List ℕ). records_on b n ++ records_in later ns) (same n (inl refl))
    ∙ ap (λ (recs : List RecId). records_on (pages n) n ++ recs) (in_same pages later ns (λ m has. same m (inr has)))

pub behind_same : (pages later : Pages) (ns : List ℕ) (after : Option RecId) → StandsAt ns after
    → ((n : ℕ) → Has ns n → later n ≡ pages n) → records_behind later ns after ≡ records_behind pages ns after
behind_same pages later ns None stands same = in_same pages later ns same
behind_same pages later ns (Some x) stands same =
    ap (λ (b : List ℕ). records_from b x.page.0 (x.slot + 1) ++ records_in later (behind ns x.page.0))
    (same x.page.0 stands)
    ∙ ap (λ (recs : List RecId). records_from (pages x.page.0) x.page.0 (x.slot + 1) ++ recs)
    (in_same pages later (behind ns x.page.0) (λ n has. same n (has_behind ns x.page.0 n has)))

-- ---- records whose rows are as they were show the rows that they showed

pub rows_same : (counted counts : ℕ → Bool) (table : Table) (r q : Reading) (recs : List RecId)
    → EachRecord (λ p. shown counts (q p) ≡ shown counted (r p)) recs
    → rows_shown counts table q recs ≡ rows_shown counted table r recs
rows_same counted counts table r q [] each = refl
rows_same counted counts table r q (p ∷ ps) each =
    ap (λ (row : Option Row). keyed table row (rows_shown counts table q ps)) each.0
    ∙ ap (λ (rows : KeyedRows). keyed table (shown counted (r p)) rows)
    (rows_same counted counts table r q ps each.1)
