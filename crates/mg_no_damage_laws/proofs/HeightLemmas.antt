-- How high the data pages of a table stand among those that a batch changes: the one that is looked at first for room
-- stands highest, and each later one lower. Pages of other kinds stand below them.
use Rattle.std.proofs.Common.{◌≡◌, ◌≢◌, ◌∙◌, inl, inr, ◌≤◌, ◌<◌, ◌+◌, ◌-◌, ◌==◌, ℕ, zero, suc, Bool, true, false, List, [], ◌∷◌, length, refl, sym, subst, arith}
use Rattle.std.specs.Prelude.{if◌then◌else◌, slice_index}
use Rattle.std.proofs.lemmas.Bool.{eq-eqb, eqb-false, eqb-true, ne_eqb}
use Rattle.mg_base.specs.Checks.{PassesAll, common_checks}
use Rattle.mg_base.specs.Fields.{byte}
use Rattle.mg_heap.specs.Reading.{sequence_in}
use Rattle.mg_heap.specs.Room.{looked_at}
use Rattle.mg_image.specs.Form.{Pages}
use Rattle.mg_image.specs.Sound.{IsTableData}
use Rattle.mg_image.specs.Tables.{EachFrom, Has, IsOnce, Stand}
use Rattle.mg_image_overlay_laws.specs.pages.DataPages.{all_passes, kind_of}
use Rattle.mg_slots.specs.declared.page.TheConstants.{DATA_KIND}
use Rattle.mg_no_damage_laws.specs.WriteStanding.{IsStanding}

-- ---- lists

pub each_index : (P : ℕ → ℕ → Type 0) (at : ℕ) (ns : List ℕ) (k : ℕ) → EachFrom P at ns → k < length ns
    → P (at + k) (slice_index ns k)
each_index P at [] k each inside = absurd (omega (arith, inside))
each_index P at (n ∷ ns) zero each inside =
    let same : at ≡ at + 0 = omega arith in subst (λ (j : ℕ). P j n) same each.0
each_index P at (n ∷ ns) (suc k) each inside =
    let same : suc at + k ≡ at + suc k = omega arith in
    subst (λ (j : ℕ). P j (slice_index ns k)) same (each_index P (suc at) ns k each.1 (omega (arith, inside)))

pub index_has : (ns : List ℕ) (k : ℕ) → k < length ns → Has ns (slice_index ns k)
index_has [] k inside = absurd (omega (arith, inside))
index_has (n ∷ ns) zero inside = inl refl
index_has (n ∷ ns) (suc k) inside = inr (index_has ns k (omega (arith, inside)))

pub has_index : (ns : List ℕ) (n : ℕ) → Has ns n → (k : ℕ) × (k < length ns) × (slice_index ns k ≡ n)
has_index [] n there = absurd there
has_index (m ∷ ms) n (inl same) = (0, (omega arith), sym same)
has_index (m ∷ ms) n (inr more) =
    let it = has_index ms n more in (suc it.0, (let inside = it.1 in omega (arith, inside)), it.2)

-- a list without a number
abbrev pub without : ℕ → List ℕ → List ℕ
without n [] = []
without n (m ∷ ms) = if m == n then without n ms else m ∷ without n ms

pub without_has : (n : ℕ) (ns : List ℕ) (k : ℕ) → Has (without n ns) k → Has ns k × (k ≢ n)
without_has n [] k there = absurd there
without_has n (m ∷ ms) k there = by (m == n) refl there (without_has n ms k)
  where
    by : (b : Bool) → (m == n) ≡ b → Has (if b then without n ms else m ∷ without n ms) k
        → (Has (without n ms) k → Has ms k × (k ≢ n)) → Has (m ∷ ms) k × (k ≢ n)
    by true is more further = let it = further more in (inr it.0, it.1)
    by false is (inl same) further = (inl same, λ e. eqb-false m n is (sym same ∙ e))
    by false is (inr more) further = let it = further more in (inr it.0, it.1)

pub without_once : (n : ℕ) (ns : List ℕ) → IsOnce ns → IsOnce (without n ns)
without_once n [] once = tt
without_once n (m ∷ ms) once = by (m == n) (without_once n ms once.1)
  where
    by : (b : Bool) → IsOnce (without n ms) → IsOnce (if b then without n ms else m ∷ without n ms)
    by true rest = rest
    by false rest = ((λ there. once.0 (without_has n ms m there).0), rest)

-- a number that is not there takes nothing away, and one that is there once takes one away
without_none : (n : ℕ) (ns : List ℕ) → (Has ns n → ⊥) → length (without n ns) ≡ length ns
without_none n [] none = refl
without_none n (m ∷ ms) none =
    let e : (m == n) ≡ false = ne_eqb m n (λ same. none (inl (sym same))) in
    let rest = without_none n ms (λ there. none (inr there)) in rw e (omega (arith, rest))

pub without_count : (n : ℕ) (ns : List ℕ) → IsOnce ns → length ns ≤ length (without n ns) + 1
without_count n [] once = omega arith
without_count n (m ∷ ms) once = by (m == n) refl (without_count n ms once.1)
  where
    by : (b : Bool) → (m == n) ≡ b → length ms ≤ length (without n ms) + 1
        → suc (length ms) ≤ length (if b then without n ms else m ∷ without n ms) + 1
    by true is rest =
        let none = without_none n ms (λ there. once.0 (subst (Has ms) (sym (eqb-true m n is)) there)) in
        omega (arith, none)
    by false is rest = omega (arith, rest)

pub first_of : (ns : List ℕ) → 1 ≤ length ns → (k : ℕ) × Has ns k
first_of [] some = absurd (omega (arith, some))
first_of (n ∷ ns) some = (n, inl refl)

-- ---- heights

-- of the page at a place, of so many: the last one is looked at first, and then the others from the first one on
abbrev pub height : ℕ → ℕ → ℕ
height len place = if place + 1 == len then len + 1 else len - place

some_of : (n : ℕ) → n ≢ 0 → 1 ≤ n
some_of zero ne = absurd (ne refl)
some_of (suc n) ne = omega arith

pub height_at : (len after : ℕ) → after < len → height len (looked_at after len) ≡ len + 1 - after
height_at len after inside = by (after == 0) refl
  where
    by : (b : Bool) → (after == 0) ≡ b → height len (if b then len - 1 else after - 1) ≡ len + 1 - after
    by true is =
        let none : after ≡ 0 = eqb-true after 0 is in
        let e : (len - 1 + 1 == len) ≡ true = eq-eqb (len - 1 + 1) len (omega (arith, inside)) in
        rw e (omega (arith, none))
    by false is =
        let some : 1 ≤ after = some_of after (eqb-false after 0 is) in
        let e : (after - 1 + 1 == len) ≡ false =
        ne_eqb (after - 1 + 1) len (λ same. omega (arith, same, inside, some)) in
        rw e (omega (arith, some, inside))

pub looked_inside : (len after : ℕ) → after < len → looked_at after len < len
looked_inside len after inside = by (after == 0)
  where
    by : (b : Bool) → (if b then len - 1 else after - 1) < len
    by true = omega (arith, inside)
    by false = omega (arith, inside)

height_some : (len place : ℕ) → place < len → 1 ≤ height len place
height_some len place inside = by (place + 1 == len)
  where
    by : (b : Bool) → 1 ≤ (if b then len + 1 else len - place)
    by true = omega arith
    by false = omega (arith, inside)

-- ---- on the pages of a table

names_place : (b : List ℕ) (n owner at : ℕ) → PassesAll (common_checks b n DATA_KIND owner at)
    → sequence_in b ≡ at
unfolding common_checks
names_place b n owner at passes = passes.1.1.1.1.1.0

module _ (size : ℕ) (base : Pages) (stand : Stand) (is : IsStanding size base stand) where
  abbrev pub len : ℕ
  len = length stand.data_pages

  abbrev pub rank : ℕ → ℕ
  rank n = if byte (base n) 0 == 5 then height len (sequence_in (base n)) else 0

  pub rank_low : (n : ℕ) → byte (base n) 0 ≢ 5 → rank n ≡ 0
  rank_low n other = let e : (byte (base n) 0 == 5) ≡ false = ne_eqb (byte (base n) 0) 5 other in rw e refl

  rank_at : (k : ℕ) → k < len → rank (slice_index stand.data_pages k) ≡ height len k
  rank_at k inside =
      let n : ℕ = slice_index stand.data_pages k in
      let page_is : IsTableData false size base stand.table.pointer.0 (0 + k) n =
      each_index (IsTableData false size base stand.table.pointer.0) 0 stand.data_pages k is.has.data_pages inside in
      let five : byte (base n) 0 ≡ 5 = kind_of (base n) n DATA_KIND stand.table.pointer.0 (0 + k) []
      (all_passes (common_checks (base n) n DATA_KIND stand.table.pointer.0 (0 + k)) page_is.wanted.fields) in
      let place : sequence_in (base n) ≡ 0 + k = names_place (base n) n stand.table.pointer.0 (0 + k) page_is.wanted.fields in
      let same : sequence_in (base n) ≡ k = omega (arith, place) in
      let e : (byte (base n) 0 == 5) ≡ true = eq-eqb (byte (base n) 0) 5 five in rw (e, same) refl

  pub rank_looked : (after : ℕ) → after < len
      → rank (slice_index stand.data_pages (looked_at after len)) ≡ len + 1 - after
  rank_looked after inside = rank_at (looked_at after len) (looked_inside len after inside) ∙ height_at len after inside

  pub rank_some : (n : ℕ) → Has stand.data_pages n → 1 ≤ rank n
  rank_some n there =
      let it = has_index stand.data_pages n there in
      subst (λ (k : ℕ). 1 ≤ rank k) it.2 (subst (λ (h : ℕ). 1 ≤ h) (sym (rank_at it.0 it.1)) (height_some len it.0 it.1))
