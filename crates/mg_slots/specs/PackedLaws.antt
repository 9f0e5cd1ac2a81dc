-- There is one packed page at most with a length, a common part and cells.
use Rattle.std.proofs.Common.{◌≡◌, ◌≢◌, ℕ, zero, suc, ◌+◌, ◌-◌, ◌*◌, ◌/◌, ◌<◌, ◌≤◌, ◌⊎◌, inl, inr, Option, None, Some, List, length, take, refl, arith, ap, ◌∙◌, sym, subst}
use Rattle.std.proofs.Math.Path.{fun_ext}
use Rattle.std.proofs.lemmas.Bool.{cases_eq, cases_lt}
use Rattle.std.proofs.lemmas.List.{ext_get_or, get_or-take}
use Rattle.mg_base.specs.declared.fields.TheConstants.{COMMON}
use Rattle.mg_base.specs.Fields.{byte}
use Rattle.mg_slots.specs.declared.page.TheConstants.{COUNT_AT, LOW_AT, SLOTS_AT, SLOT_LEN}
use Rattle.mg_slots.specs.DataPage.{Cells, HasUpTo, IsDataPage, IsLaid, IsPacked, cell_of, slot_count, low_of, least_offset, offset_at, length_at, taken_by, taken_below}
use Rattle.mg_slots.specs.DataPageLaws.{cell_past, cell_used, cells_fit}

-- each member is a byte
abbrev pub AreBytes : List ℕ → Type 0
AreBytes b = (k : ℕ) → byte b k < 256

-- the last slot is in use, so pages with the same cells have as many slots
count_le : (b b' : List ℕ) → IsDataPage b' → ((s : ℕ) → cell_of b s ≡ cell_of b' s)
    → slot_count b' ≤ slot_count b
count_le b b' page same = at (cases_lt (slot_count b) (slot_count b'))
  where
    at : (slot_count b < slot_count b') ⊎ (slot_count b' ≤ slot_count b)
        → slot_count b' ≤ slot_count b
    at (inr le) = le
    at (inl more) =
        let last : slot_count b' ≡ (slot_count b' - 1) + 1 = omega arith in
        let none : cell_of b (slot_count b' - 1) ≡ None =
        cell_past b (slot_count b' - 1) (omega arith) in
        let there : _ = cell_used b' (slot_count b' - 1) (omega arith) (page.last_used
        (slot_count b' - 1) last) in
        absurd (is_not (cell_of b' (slot_count b' - 1)) _ (sym (same (slot_count b' - 1))
        ∙ none) there)
      where
        is_not : (o : Option (List ℕ)) (cell : List ℕ) → o ≡ None → o ≡ Some cell → ⊥
        is_not o cell none some = cc

-- a field of two bytes says which they are
low_byte : (a a' c c' : ℕ) → a < 256 → c < 256 → a + 256 * a' ≡ c + 256 * c' → a ≡ c
low_byte a a' c c' small_a small_c same = omega arith

high_byte : (a a' c c' : ℕ) → a < 256 → c < 256 → a + 256 * a' ≡ c + 256 * c' → a' ≡ c'
high_byte a a' c c' small_a small_c same = omega arith

-- a slot's fields say where its cell ends
same_offset : (b b' : List ℕ) (end slot : ℕ) (cell : Option (List ℕ)) → HasUpTo b end slot cell
    → HasUpTo b' end slot cell → offset_at b slot ≡ offset_at b' slot
same_offset b b' end slot None has has' = has.0 ∙ sym has'.0
same_offset b b' end slot (Some cell) has has' = omega (arith, has.0, has'.0)

same_length : (b b' : List ℕ) (end slot : ℕ) (cell : Option (List ℕ)) → HasUpTo b end slot cell
    → HasUpTo b' end slot cell → length_at b slot ≡ length_at b' slot
same_length b b' end slot None has has' = has.1 ∙ sym has'.1
same_length b b' end slot (Some cell) has has' = has.1 ∙ sym has'.1

same_cell : (b b' : List ℕ) (end slot : ℕ) (cell : Option (List ℕ)) → HasUpTo b end slot cell
    → HasUpTo b' end slot cell → (k : ℕ) → end ≤ k + taken_by cell → k < end → byte b k ≡ byte b' k
same_cell b b' end slot None has has' k from to = absurd (omega arith)
same_cell b b' end slot (Some cell) has has' k from to =
    let at_offset : k ≡ offset_at b slot + (k - offset_at b slot) = omega (arith, has.0) in
    let at_offset' : k ≡ offset_at b' slot + (k - offset_at b slot) =
    omega (arith, has.0, has'.0) in
    ap (byte b) at_offset ∙ (has.2 (k - offset_at b slot) (omega (arith, has.0))
    ∙ (sym (has'.2 (k - offset_at b slot) (omega (arith, has.0)))
    ∙ sym (ap (byte b') at_offset')))

same_cells : (b b' : List ℕ) (cells : Cells) (n m : ℕ) → length b ≡ length b' → IsLaid b cells n
    → IsLaid b' cells n → m ≤ n → taken_below cells n ≤ length b
    → (k : ℕ) → length b ≤ k + taken_below cells m → k < length b → byte b k ≡ byte b' k
same_cells b b' cells n zero len laid laid' le room k from to = absurd (omega arith)
same_cells b b' cells n (suc m) len laid laid' le room k from to =
    at (cases_lt k (length b - taken_below cells m))
    (same_cells b b' cells n m len laid laid' (omega arith) room k)
  where
    at : (k < length b - taken_below cells m) ⊎ (length b - taken_below cells m ≤ k)
        → (length b ≤ k + taken_below cells m → k < length b → byte b k ≡ byte b' k)
        → byte b k ≡ byte b' k
    at (inr above) ih = ih (omega arith) to
    at (inl below) ih =
        let P : ℕ → Type 0 = λ x. HasUpTo b' (x - taken_below cells m) m (cells m) in
        same_cell b b' (length b - taken_below cells m) m (cells m) (laid.each m (omega arith))
        (subst P (sym len) (laid'.each m (omega arith))) k (omega arith) below

least_same : (b b' : List ℕ) (n : ℕ) → length b ≡ length b' → ((s : ℕ) → s < n
    → offset_at b s ≡ offset_at b' s) → least_offset b n ≡ least_offset b' n
least_same b b' zero len same = len
least_same b b' (suc n) len same =
    let here : offset_at b n ≡ offset_at b' n = same n (omega arith) in
    let rest : least_offset b n ≡ least_offset b' n =
    least_same b b' n len (λ s lt. same s (omega arith)) in
    rw (here, rest) refl

-- the two low fields and a slot's two fields, byte by byte
field_same : (b b' : List ℕ) (at k : ℕ) → AreBytes b → AreBytes b'
    → byte b at + 256 * byte b (at + 1) ≡ byte b' at + 256 * byte b' (at + 1) → at ≤ k
    → k < at + 2 → byte b k ≡ byte b' k
field_same b b' at k bytes bytes' same from to = which (cases_eq k at)
  where
    which : (k ≡ at) ⊎ (k ≢ at) → byte b k ≡ byte b' k
    which (inl e) = rw e (low_byte (byte b at) (byte b (at + 1)) (byte b' at) (byte b' (at + 1))
        (bytes at) (bytes' at) same)
    which (inr ne) = let e : k ≡ at + 1 = omega arith in
        rw e (high_byte (byte b at) (byte b (at + 1)) (byte b' at) (byte b' (at + 1)) (bytes at)
        (bytes' at) same)

slot_same : (b b' : List ℕ) (slot k : ℕ) → AreBytes b → AreBytes b'
    → offset_at b slot ≡ offset_at b' slot → length_at b slot ≡ length_at b' slot
    → SLOTS_AT + SLOT_LEN * slot ≤ k → k < SLOTS_AT + SLOT_LEN * (slot + 1) → byte b k ≡ byte b' k
slot_same b b' slot k bytes bytes' offset len from to =
    which (cases_lt k (SLOTS_AT + SLOT_LEN * slot + 2))
  where
    which : (k < SLOTS_AT + SLOT_LEN * slot + 2) ⊎ (SLOTS_AT + SLOT_LEN * slot + 2 ≤ k)
        → byte b k ≡ byte b' k
    which (inl first) = field_same b b'
        (SLOTS_AT + SLOT_LEN * slot) k bytes bytes' offset from first
    which (inr second) = field_same b b'
        (SLOTS_AT + SLOT_LEN * slot + 2) k bytes bytes' len second (omega arith)
