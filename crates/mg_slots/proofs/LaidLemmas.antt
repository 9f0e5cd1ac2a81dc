-- A page on which cells are laid out one below the other.
use Rattle.std.proofs.Common.{◌≡◌, ◌≢◌, ℕ, zero, suc, ◌+◌, ◌-◌, ◌*◌, ◌<◌, ◌≤◌, ◌⊎◌, inl, inr, Option, None, Some, List, length, take, drop, refl, arith, ap, ◌∙◌, sym, subst}
use Rattle.std.specs.Prelude.{IsSome}
use Rattle.std.proofs.Math.Path.{fun_ext}
use Rattle.std.proofs.lemmas.Bool.{cases_eq, cases_lt, eq-eqb, ne_eqb}
use Rattle.std.proofs.lemmas.List.{length-take-le, length-drop, ext_get_or, get_or-take, get_or-drop, get_or_past}
use Rattle.mg_base.specs.Fields.{byte}
use Rattle.mg_slots.specs.declared.page.TheConstants.{SLOTS_AT, SLOT_LEN, LEAST_SIZE, GREATEST_SIZE}
use Rattle.mg_slots.specs.DataPage.{Cells, IsDataPage, IsLaid, HasUpTo, cell_of, slot_count, low_of, least_offset, offset_at, length_at, taken, taken_by, taken_below}
use Rattle.mg_slots.specs.Layout.{EndsAt, PlacesBelow, PlacesCell}
use Rattle.mg_slots.specs.TakenLaws.{taken_below_mono, taken_below_more}
use Rattle.mg_slots.specs.DataPageLaws.{cell_past, cell_free, cell_used}

-- what a slot has stays where its fields and its cell's bytes do
pub has_same : (b b' : List ℕ) (end slot : ℕ) (cell : Option (List ℕ)) → taken_by cell ≤ end
    → ((k : ℕ) → SLOTS_AT + SLOT_LEN * slot ≤ k → k < SLOTS_AT + SLOT_LEN * (slot + 1)
    → byte b' k ≡ byte b k)
    → ((k : ℕ) → end - taken_by cell ≤ k → k < end → byte b' k ≡ byte b k)
    → HasUpTo b end slot cell → HasUpTo b' end slot cell
has_same b b' end slot None fits fields bytes has =
    let f0 : byte b' (SLOTS_AT + SLOT_LEN * slot) ≡ byte b (SLOTS_AT + SLOT_LEN * slot) =
    fields _ (omega arith) (omega arith) in
    let f1 : byte b' (SLOTS_AT + SLOT_LEN * slot + 1) ≡ byte b (SLOTS_AT + SLOT_LEN * slot + 1) =
    fields _ (omega arith) (omega arith) in
    let f2 : byte b' (SLOTS_AT + SLOT_LEN * slot + 2) ≡ byte b (SLOTS_AT + SLOT_LEN * slot + 2) =
    fields _ (omega arith) (omega arith) in
    let f3 : byte b' (SLOTS_AT + SLOT_LEN * slot + 2 + 1) ≡ byte b
    (SLOTS_AT + SLOT_LEN * slot + 2 + 1) = fields _ (omega arith) (omega arith) in
    let offset : offset_at b slot ≡ 0 = has.0 in
    let len : length_at b slot ≡ 0 = has.1 in
    (omega arith, omega arith)
has_same b b' end slot (Some cell) fits fields bytes has =
    let f0 : byte b' (SLOTS_AT + SLOT_LEN * slot) ≡ byte b (SLOTS_AT + SLOT_LEN * slot) =
    fields _ (omega arith) (omega arith) in
    let f1 : byte b' (SLOTS_AT + SLOT_LEN * slot + 1) ≡ byte b (SLOTS_AT + SLOT_LEN * slot + 1) =
    fields _ (omega arith) (omega arith) in
    let f2 : byte b' (SLOTS_AT + SLOT_LEN * slot + 2) ≡ byte b (SLOTS_AT + SLOT_LEN * slot + 2) =
    fields _ (omega arith) (omega arith) in
    let f3 : byte b' (SLOTS_AT + SLOT_LEN * slot + 2 + 1) ≡ byte b
    (SLOTS_AT + SLOT_LEN * slot + 2 + 1) = fields _ (omega arith) (omega arith) in
    let ends : offset_at b slot + taken (length cell) ≡ end = has.0 in
    let len : length_at b slot ≡ length cell = has.1 in
    let same_offset : offset_at b' slot ≡ offset_at b slot = omega arith in (
      omega arith,
      omega arith,
      λ k lt.
          let there : byte b' (offset_at b slot + k) ≡ byte b (offset_at b slot + k) =
          bytes _ (omega arith) (omega arith) in
          let old : byte b (offset_at b slot + k) ≡ byte cell k = has.2 k lt in
          rw same_offset (there ∙ old),
    )

-- one more cell is laid out
placed_more : (b b' : List ℕ) (cells : Cells) (n low : ℕ) (cell : List ℕ)
    → SLOTS_AT + SLOT_LEN * (n + 1) + taken_below cells (n + 1) ≤ length b
    → low + taken_below cells n ≡ length b
    → IsLaid b cells n → cells n ≡ Some cell → PlacesCell b b' n (low - taken (length cell)) cell
    → taken_below cells (n + 1) ≡ taken_below cells n + taken (length cell)
    → IsLaid b' cells (n + 1)
placed_more b b' cells n low cell room at_low laid some places more = record {
  each = λ s lt. let P : ℕ → Type 0 = λ len. HasUpTo b' (len - taken_below cells s) s (cells s) in
      subst P (sym places.len) (each s lt (cases_eq s n));
  blank = λ k from to.
      let same_len : length b' ≡ length b = places.len in
      let same : byte b' k ≡ byte b k = places.same k (λ le. omega arith) (λ le. absurd
      (omega arith)) in
      same ∙ laid.blank k (omega arith) (omega arith);
}
  where
    each : (s : ℕ) → s < n + 1 → (s ≡ n) ⊎ (s ≢ n)
        → HasUpTo b' (length b - taken_below cells s) s (cells s)
    each s lt (inr ne) =
        let more_s : taken_below cells (s + 1) ≡ taken_below cells s + taken_by (cells s) =
        taken_below_more cells s in
        let le : taken_below cells (s + 1) ≤ taken_below cells n =
        taken_below_mono cells (s + 1) n (omega arith) in
        has_same b b' (length b - taken_below cells s) s (cells s) (omega arith)
        (λ k from to. places.same k (λ above. absurd (omega arith)) (λ above. absurd (omega arith)))
        (λ k from to. places.same k (λ above. omega arith) (λ above. omega arith))
        (laid.each s (omega arith))
    each s lt (inl e) = rw (e, some) (
      omega
          (arith, places.offset),
      places.length_is,
      λ k in_cell. bytes k in_cell (cases_lt k
          (length cell)),
    )
      where
        bytes : (k : ℕ) → k < taken (length cell) → (k < length cell) ⊎ (length cell ≤ k)
            → byte b' (offset_at b' n + k) ≡ byte cell k
        bytes k in_cell (inl within) = rw places.offset (places.here k within)
        bytes k in_cell (inr past) =
            let same : byte b' (low - taken (length cell) + k) ≡ byte b (low - taken
            (length cell) + k) = places.same _ (λ above. omega arith) (λ above. omega arith) in
            let zero_before : byte b (low - taken (length cell) + k) ≡ 0 =
            laid.blank _ (omega arith) (omega arith) in
            rw (places.offset, get_or_past cell k 0 past) (same ∙ zero_before)

-- one more slot is laid out
pub laid_more : (b b' : List ℕ) (cells : Cells) (n low : ℕ)
    → SLOTS_AT + SLOT_LEN * (n + 1) + taken_below cells (n + 1) ≤ length b
    → low + taken_below cells n ≡ length b
    → IsLaid b cells n → PlacesBelow b b' n low (cells n) → IsLaid b' cells (n + 1)
laid_more b b' cells n low room at_low laid placed =
    at (cells n) refl placed (taken_below_more cells n)
  where
    at : (o : Option (List ℕ)) → cells n ≡ o → PlacesBelow b b' n low o
        → taken_below cells (n + 1) ≡ taken_below cells n + taken_by (cells n)
        → IsLaid b' cells (n + 1)
    at None none same more = let P : List ℕ → Type 0 = λ p. IsLaid p cells (n + 1) in
        subst P (sym same) (record {
          each = λ s lt. each s lt (cases_eq s n);
          blank = λ k from to. laid.blank k (omega arith) (omega (arith, ap taken_by none));
        })
      where
        each : (s : ℕ) → s < n + 1 → (s ≡ n) ⊎ (s ≢ n)
            → HasUpTo b (length b - taken_below cells s) s (cells s)
        each s lt (inr ne) = laid.each s (omega arith)
        each s lt (inl e) =
            let taken_none : taken_by (cells n) ≡ 0 = ap taken_by none in
            let f0 : byte b (SLOTS_AT + SLOT_LEN * n) ≡ 0 =
            laid.blank _ (omega arith) (omega arith) in
            let f1 : byte b (SLOTS_AT + SLOT_LEN * n + 1) ≡ 0 =
            laid.blank _ (omega arith) (omega arith) in
            let f2 : byte b (SLOTS_AT + SLOT_LEN * n + 2) ≡ 0 =
            laid.blank _ (omega arith) (omega arith) in
            let f3 : byte b (SLOTS_AT + SLOT_LEN * n + 2 + 1) ≡ 0 =
            laid.blank _ (omega arith) (omega arith) in
            rw (e, none) (omega arith, omega arith)
    at (Some cell) some places more = let P : Option (List ℕ)
        → Type 0 = λ o. taken_below cells (n + 1) ≡ taken_below cells n + taken_by o in
        placed_more b b' cells n low cell room at_low laid some places (subst P some more)

-- a slot has the cell that is laid out for it
pub has_cell : (b : List ℕ) (end slot : ℕ) (cell : Option (List ℕ)) → slot < slot_count b
    → SLOTS_AT + taken_by cell ≤ end → end ≤ length b → HasUpTo b end slot cell
    → cell_of b slot ≡ cell
has_cell b end slot None below fits in_page has = cell_free b slot has.0
has_cell b end slot (Some cell) below fits in_page has =
    let ends : offset_at b slot + taken (length cell) ≡ end = has.0 in
    let len : length_at b slot ≡ length cell = has.1 in
    let from_drop : length (drop (offset_at b slot) b) ≡ length b - offset_at b slot =
    length-drop (offset_at b slot) b in
    let same_length : length (take (length_at b slot) (drop
    (offset_at b slot) b)) ≡ length_at b slot =
    length-take-le (length_at b slot) (drop (offset_at b slot) b) (omega arith) in
    let same : take (length_at b slot) (drop (offset_at b slot) b) ≡ cell =
    ext_get_or 0 _ _ (omega arith) (λ k lt. get_or-take (length_at b slot) (drop
    (offset_at b slot) b) k 0 (omega arith) ∙ (get_or-drop (offset_at b slot) b k 0
    ∙ has.2 k (omega arith))) in
    cell_used b slot below (omega arith) ∙ ap Some same

-- where a cell is laid out
has_place : (b : List ℕ) (end slot : ℕ) (cell : Option (List ℕ)) → 0 < offset_at b slot
    → HasUpTo b end slot cell
    → (offset_at b slot + taken_by cell ≡ end) × (taken (length_at b slot) ≡ taken_by cell)
has_place b end slot None used has = let free : offset_at b slot ≡ 0 = has.0 in absurd (omega arith)
has_place b end slot (Some cell) used has = (has.0, ap taken has.1)

has_used : (b : List ℕ) (end slot : ℕ) (cell : Option (List ℕ)) → IsSome cell
    → taken_by cell < end → HasUpTo b end slot cell → 0 < offset_at b slot
has_used b end slot None some fits has = absurd cc
has_used b end slot (Some cell) some fits has = omega (arith, has.0)

has_free : (b : List ℕ) (end slot : ℕ) (cell : Option (List ℕ)) → taken_by cell < end
    → offset_at b slot ≡ 0 → HasUpTo b end slot cell → length_at b slot ≡ 0
has_free b end slot None fits free has = has.1
has_free b end slot (Some cell) fits free has = absurd (omega (arith, has.0))

-- the least offset is that of the last cell
laid_least : (b : List ℕ) (cells : Cells) (n m : ℕ) → IsLaid b cells n → m ≤ n
    → SLOTS_AT + taken_below cells n ≤ length b → least_offset b m ≡ length b - taken_below cells m
laid_least b cells n zero laid le room = omega arith
laid_least b cells n (suc m) laid le room = at (cases_eq (offset_at b m) 0) (cells m) refl
    (laid.each m (omega arith))
    (laid_least b cells n m laid (omega arith) room) (taken_below_mono cells (suc m) n le)
  where
    at : (offset_at b m ≡ 0) ⊎ (offset_at b m ≢ 0) → (o : Option (List ℕ)) → cells m ≡ o
        → HasUpTo b (length b - taken_below cells m) m o
        → least_offset b m ≡ length b - taken_below cells m
        → taken_below cells m + taken_by (cells m) ≤ taken_below cells n
        → least_offset b (suc m) ≡ length b - (taken_below cells m + taken_by (cells m))
    at (inl free) None none has ih mono = rw (eq-eqb (offset_at b m) 0 free) (omega
        (arith, ap taken_by none))
    at (inr used) None none has ih mono = absurd (used has.0)
    at (inl free) (Some cell) some has ih mono = absurd (omega (arith, has.0, ap taken_by some))
    at (inr used) (Some cell) some has ih mono = rw (ne_eqb (offset_at b m) 0 used) (omega
        (arith, has.0, ap taken_by some))

pub laid_cells : (b : List ℕ) (cells : Cells) (n : ℕ) → IsLaid b cells n → slot_count b ≡ n
    → SLOTS_AT + SLOT_LEN * n + taken_below cells n ≤ length b → ((s : ℕ) → n ≤ s
    → cells s ≡ None) → cell_of b ≡ cells
laid_cells b cells n laid count room beyond = fun_ext (λ s. at s (cases_lt s n))
  where
    at : (s : ℕ) → (s < n) ⊎ (n ≤ s) → cell_of b s ≡ cells s
    at s (inr past) = cell_past b s (omega arith) ∙ sym (beyond s past)
    at s (inl below) =
        let more : taken_below cells (s + 1) ≡ taken_below cells s + taken_by (cells s) =
        taken_below_more cells s in
        let le : taken_below cells (s + 1) ≤ taken_below cells n =
        taken_below_mono cells (s + 1) n (omega arith) in
        has_cell b (length b - taken_below cells s) s (cells s) (omega arith) (omega arith)
        (omega arith) (laid.each s below)

pub laid_lawful : (b : List ℕ) (cells : Cells) (n : ℕ) → LEAST_SIZE ≤ length b
    → length b ≤ GREATEST_SIZE → IsLaid b cells n → slot_count b ≡ n
    → low_of b + taken_below cells n ≡ length b
    → SLOTS_AT + SLOT_LEN * n + taken_below cells n ≤ length b → EndsAt cells n → IsDataPage b
laid_lawful b cells n least greatest laid count low room ends = record {
  least_size = least;
  greatest_size = greatest;
  slots_fit = omega arith;
  last_used = λ s last. has_used b _ s (cells s) (ends.last s (omega arith)) (omega
      (arith, within s (omega arith))) (laid.each s (omega arith));
  low = rw count (omega (arith, laid_least b cells n n laid (omega arith) (omega arith)));
  slots = λ s below. record {
    free = λ is_free. has_free b _ s (cells s) (omega (arith, within s (omega arith))) is_free
        (laid.each s (omega arith));
    placed = λ used. record {
      after_slots = omega (arith, within s (omega arith), (place s (omega arith) used).0);
      in_page = omega (
        arith,
        within s (omega arith),
        (place s (omega arith) used).0,
        (place s
            (omega arith) used).1,
      );
      apart = λ e lt used_e meets. omega (
        arith,
        within e (omega arith),
        within s (omega arith),
        (place e (omega arith) used_e).0,
        (place e (omega arith) used_e).1,
        (place s (omega arith) used).0,
        (place s (omega arith) used).1,
        taken_below_mono cells (e + 1) s (omega arith),
        taken_below_more cells e,
      );
    };
  };
}
  where
    within : (s : ℕ) → s < n → taken_below cells s + taken_by (cells s) ≤ taken_below cells n
    within s lt = omega (
      arith,
      taken_below_more cells s,
      taken_below_mono cells (s + 1) n
          (omega arith),
    )

    place : (s : ℕ) → s < n → 0 < offset_at b s → (offset_at b s + taken_by
        (cells s) ≡ length b - taken_below cells s) × (taken (length_at b s) ≡ taken_by (cells s))
    place s lt used = has_place b (length b - taken_below cells s) s (cells s) used (laid.each s lt)

-- the bytes before the slots stay
pub placed_front : (b b' : List ℕ) (slot low : ℕ) (cell : Option (List ℕ))
    → SLOTS_AT + taken_by cell ≤ low → PlacesBelow b b' slot low cell → (k : ℕ) → k < SLOTS_AT
    → byte b' k ≡ byte b k
placed_front b b' slot low None fits same k lt = ap (λ p. byte p k) same
placed_front b b' slot low (Some cell) fits places k lt =
    places.same k (λ le. absurd (omega arith)) (λ le. absurd (omega arith))
