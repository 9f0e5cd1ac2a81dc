-- A walk comes to the records of a table in their order.
use Rattle.std.proofs.Common.{◌≡◌, ◌∙◌, ◌⊎◌, ◌<◌, ◌≤◌, ◌+◌, inl, inr, ℕ, zero, suc, Bool, true, false, List, [], ◌∷◌, ◌++◌, Option, None, Some, refl, sym, ap, subst, arith, cond}
use Rattle.std.specs.Prelude.{◌≢◌, filter, nat_le}
use Rattle.std.proofs.lemmas.Bool.{cases_eq, cases_lt, eq-eqb, false≢true, le-leb, lt-leb, ne_eqb}
use Rattle.mg_base.specs.declared.numbers.RecId.{RecId}
use Rattle.mg_heap.specs.Walk.{HasNoRecord, IsFirstRecord, IsNextIn, behind, is_primary}
use Rattle.mg_heap.specs.WalkLaws.{gives_in_table}
use Rattle.mg_image.specs.Form.{Pages}
use Rattle.mg_image.specs.Tables.{Has, IsOnce}
use Rattle.mg_slots.specs.DataPage.{cell_of, slot_count}
use Rattle.mg_slots.specs.DataPageLaws.{cell_past}
use Rattle.mg_seek.specs.TableRecords.{rec_at, record_at, records_below, records_in, records_on}
use Rattle.mg_seek.specs.Walks.{ComesTo, StandsAt, WalksInOrder, records_behind, records_from}

abbrev from_on : ℕ → List RecId → List RecId
from_on from recs = filter (λ (rec : RecId). nat_le from rec.slot) recs

from_append : (from : ℕ) (xs ys : List RecId) → from_on from (xs ++ ys) ≡ from_on from xs ++ from_on from ys
from_append from [] ys = refl
from_append from (x ∷ xs) ys = at (nat_le from x.slot) (from_append from xs ys)
  where
    at : (b : Bool) → from_on from (xs ++ ys) ≡ from_on from xs ++ from_on from ys
        → cond b (x ∷ from_on from (xs ++ ys)) (from_on from (xs ++ ys))
        ≡ cond b (x ∷ from_on from xs) (from_on from xs) ++ from_on from ys
    at true is = ap (λ (rs : List RecId). x ∷ rs) is
    at false is = is

-- the record of one slot, from a slot on
one_there : (b : List ℕ) (n from slot : ℕ) → nat_le from slot ≡ true
    → from_on from (record_at b n slot) ≡ record_at b n slot
one_there b n from slot le = at (is_primary (cell_of b slot))
  where
    at : (p : Bool) → from_on from (cond p (rec_at n slot ∷ []) []) ≡ cond p (rec_at n slot ∷ []) []
    at true = ap (λ (c : Bool). cond c (rec_at n slot ∷ []) []) le
    at false = refl

one_before : (b : List ℕ) (n from slot : ℕ) → nat_le from slot ≡ false
    → from_on from (record_at b n slot) ≡ []
one_before b n from slot more = at (is_primary (cell_of b slot))
  where
    at : (p : Bool) → from_on from (cond p (rec_at n slot ∷ []) []) ≡ []
    at true = ap (λ (c : Bool). cond c (rec_at n slot ∷ []) []) more
    at false = refl

le_true : (m n : ℕ) → m ≤ n → nat_le m n ≡ true
le_true m n le = le-leb m n le

le_false : (m n : ℕ) → n < m → nat_le m n ≡ false
le_false m n less = lt-leb m n less

no_record : (b : List ℕ) (n slot : ℕ) → is_primary (cell_of b slot) ≡ false → record_at b n slot ≡ []
no_record b n slot none = ap (λ (p : Bool). cond p (rec_at n slot ∷ []) []) none

-- no slot before another is a record's, from a slot on
none_below : (b : List ℕ) (n from k : ℕ)
    → ((slot : ℕ) → from ≤ slot → slot < k → is_primary (cell_of b slot) ≡ false)
    → from_on from (records_below b n k) ≡ []
none_below b n from zero none = refl
none_below b n from (suc k) none =
    from_append from (records_below b n k) (record_at b n k)
    ∙ ap (λ (rs : List RecId). rs ++ from_on from (record_at b n k))
    (none_below b n from k (λ slot le less. none slot le (omega arith)))
    ∙ at (cases_lt k from)
  where
    at : (k < from) ⊎ (from ≤ k) → from_on from (record_at b n k) ≡ []
    at (inl less) = one_before b n from k (le_false from k less)
    at (inr le) = ap (from_on from) (no_record b n k (none k le (omega arith)))

-- the first record from a slot on, and those behind it
module _ (b : List ℕ) (n from : ℕ) (x : RecId) (is : IsFirstRecord b n from x) where
  its : rec_at n x.slot ≡ x
  its = ap (λ (p : ℕ). rec_at p x.slot) (sym is.page)

  here_is : from_on from (record_at b n x.slot) ≡ x ∷ []
  here_is = one_there b n from x.slot (le_true from x.slot is.not_before)
      ∙ ap (λ (p : Bool). cond p (rec_at n x.slot ∷ []) []) is.primary
      ∙ ap (λ (rec : RecId). rec ∷ []) its

  behind_none : (k : ℕ) → k ≤ x.slot + 1 → from_on (x.slot + 1) (records_below b n k) ≡ []
  behind_none k le = none_below b n (x.slot + 1) k (λ slot low less. absurd (omega arith))

  first_below : (k : ℕ) → x.slot < k
      → from_on from (records_below b n k) ≡ x ∷ from_on (x.slot + 1) (records_below b n k)
  first_below zero less = absurd (omega arith)
  first_below (suc k) less = at (cases_eq x.slot k) (λ more. first_below k more)
    where
      at : (x.slot ≡ k) ⊎ (x.slot ≢ k)
          → (x.slot < k → from_on from (records_below b n k) ≡ x ∷ from_on (x.slot + 1) (records_below b n k))
          → from_on from (records_below b n k ++ record_at b n k)
          ≡ x ∷ from_on (x.slot + 1) (records_below b n k ++ record_at b n k)
      at (inl same) earlier =
          from_append from (records_below b n k) (record_at b n k)
          ∙ ap (λ (rs : List RecId). rs ++ from_on from (record_at b n k))
          (none_below b n from k (λ slot low below. is.first slot low (omega (arith, same))))
          ∙ subst (λ (j : ℕ). from_on from (record_at b n j) ≡ x ∷ []) same here_is
          ∙ ap (λ (rs : List RecId). x ∷ rs) (sym (
          from_append (x.slot + 1) (records_below b n k) (record_at b n k)
          ∙ ap (λ (rs : List RecId). rs ++ from_on (x.slot + 1) (record_at b n k))
          (behind_none k (omega (arith, same)))
          ∙ one_before b n (x.slot + 1) k (le_false (x.slot + 1) k (omega (arith, same)))))
      at (inr other) earlier =
          from_append from (records_below b n k) (record_at b n k)
          ∙ ap (λ (rs : List RecId). rs ++ from_on from (record_at b n k)) (earlier (omega (arith, other)))
          ∙ ap (λ (rs : List RecId). x ∷ from_on (x.slot + 1) (records_below b n k) ++ rs)
          (one_there b n from k (le_true from k (let le = is.not_before in omega (arith, other)))
          ∙ sym (one_there b n (x.slot + 1) k (le_true (x.slot + 1) k (omega (arith, other)))))
          ∙ ap (λ (rs : List RecId). x ∷ rs)
          (sym (from_append (x.slot + 1) (records_below b n k) (record_at b n k)))

  first_on : from_on from (records_on b n) ≡ x ∷ from_on (x.slot + 1) (records_on b n)
  first_on = first_below (slot_count b) (inside (cases_lt x.slot (slot_count b)))
    where
      inside : (x.slot < slot_count b) ⊎ (slot_count b ≤ x.slot) → x.slot < slot_count b
      inside (inl below) = below
      inside (inr past) = absurd (false≢true (sym (ap is_primary (cell_past b x.slot past)) ∙ is.primary))

none_on : (b : List ℕ) (n from : ℕ) → HasNoRecord b from → from_on from (records_on b n) ≡ []
none_on b n from none = none_below b n from (slot_count b) (λ slot le less. none slot le)

all_from : (recs : List RecId) → from_on 0 recs ≡ recs
all_from [] = refl
all_from (x ∷ recs) = ap (λ (c : Bool). cond c (x ∷ from_on 0 recs) (from_on 0 recs)) (le_true 0 x.slot (omega arith))
    ∙ ap (λ (rs : List RecId). x ∷ rs) (all_from recs)

-- ---- over pages

-- what comes next among some pages from a slot of the first on
abbrev Nexts : Pages → List ℕ → ℕ → List RecId
Nexts view [] from = []
Nexts view (n ∷ ns) from = records_from (view n) n from ++ records_in view ns

next_pages : (view : Pages) (ns : List ℕ) → Nexts view ns 0 ≡ records_in view ns
next_pages view [] = refl
next_pages view (n ∷ ns) = ap (λ (rs : List RecId). rs ++ records_in view ns) (all_from (records_on (view n) n))

-- behind each of these pages stand those that follow it here
abbrev AreRest : List ℕ → List ℕ → Type 0
AreRest ds [] = Unit {0}
AreRest ds (n ∷ ns) = (behind ds n ≡ ns) × Has ds n × AreRest ds ns

further : (d : ℕ) (ds ns : List ℕ) → (Has ds d → ⊥) → AreRest ds ns → AreRest (d ∷ ds) ns
further d ds [] other rest = tt
further d ds (n ∷ ns) other rest = (
  ap (λ (c : Bool). cond c ds (behind ds n)) (ne_eqb d n (λ same. other
      (subst (λ (m : ℕ). Has ds m) (sym same) rest.1))) ∙ rest.0,
  inr rest.1,
  further d ds ns other rest.2,
)

once_rest : (ds : List ℕ) → IsOnce ds → AreRest ds ds
once_rest [] once = tt
once_rest (d ∷ ds) once = (
  ap (λ (c : Bool). cond c ds (behind ds d)) (eq-eqb d d refl),
  inl refl,
  further d ds ds once.0 (once_rest ds once.1),
)

once_behind : (ds : List ℕ) (p : ℕ) → IsOnce ds → Has ds p → AreRest ds (behind ds p)
once_behind [] p once has = absurd has
once_behind (d ∷ ds) p once has = at (cases_eq d p) has (λ later. once_behind ds p once.1 later)
  where
    at : (d ≡ p) ⊎ (d ≢ p) → Has (d ∷ ds) p → (Has ds p → AreRest ds (behind ds p))
        → AreRest (d ∷ ds) (behind (d ∷ ds) p)
    at (inl same) is more = subst (AreRest (d ∷ ds))
        (sym (ap (λ (m : ℕ). behind (d ∷ ds) m) (sym same)
        ∙ ap (λ (c : Bool). cond c ds (behind ds d)) (eq-eqb d d refl)))
        (further d ds ds once.0 (once_rest ds once.1))
    at (inr other) (inl same) more = absurd (other (sym same))
    at (inr other) (inr later) more = subst (AreRest (d ∷ ds))
        (sym (ap (λ (c : Bool). cond c ds (behind ds p)) (ne_eqb d p other)))
        (further d ds (behind ds p) once.0 (more later))

next_in : (view : Pages) (ds ns : List ℕ) (from : ℕ) (found : Option RecId) → AreRest ds ns
    → IsNextIn view ns from found → ComesTo view ds found (Nexts view ns from)
next_in view ds [] from found rest none =
    subst (λ (x : Option RecId). ComesTo view ds x []) (sym none) refl
next_in view ds (n ∷ ns) from found rest (inl (x, some, first)) =
    subst (λ (y : Option RecId). ComesTo view ds y (Nexts view (n ∷ ns) from)) (sym some) (
      ap (λ (rs : List RecId). rs ++ records_in view ns) (first_on (view n) n from x first)
          ∙ ap (λ (p : ℕ). x ∷ records_from (view p) p (x.slot + 1) ++ records_in view ns) (sym first.page)
          ∙ ap (λ (ms : List ℕ). x ∷ records_from (view x.page.0) x.page.0 (x.slot + 1)
          ++ records_in view ms) (sym (ap (behind ds) first.page ∙ rest.0)),
      subst (λ (p : ℕ). Has ds p) (sym first.page) rest.1,
    )
next_in view ds (n ∷ ns) from found rest (inr (none, later)) =
    subst (λ (rs : List RecId). ComesTo view ds found rs)
    (next_pages view ns ∙ ap (λ (rs : List RecId). rs ++ records_in view ns)
    (sym (none_on (view n) n from none)))
    (next_in view ds ns 0 found rest.2 later)

pub walks_in_order : WalksInOrder
walks_in_order view owner pointers ds None found table once stands gives =
    subst (λ (rs : List RecId). ComesTo view ds found rs) (next_pages view ds)
    (next_in view ds ds 0 found (once_rest ds once)
    (gives_in_table view owner pointers ds table None found once gives))
walks_in_order view owner pointers ds (Some x) found table once stands gives =
    next_in view ds (x.page.0 ∷ behind ds x.page.0) (x.slot + 1) found
    (refl, stands, once_behind ds x.page.0 once stands)
    (gives_in_table view owner pointers ds table (Some x) found once gives)
