-- What a page is once all its cells are laid out anew.
use Rattle.std.proofs.Common.{◌≡◌, ◌≢◌, ℕ, ◌+◌, ◌-◌, ◌*◌, ◌<◌, ◌≤◌, ◌⊎◌, inl, inr, max, Option, None, Some, List, length, take, refl, arith, ap, ◌∙◌, sym, subst}
use Rattle.std.specs.Prelude.{is_some, IsSome}
use Rattle.std.proofs.Math.Path.{fun_ext}
use Rattle.std.proofs.lemmas.Bool.{cases_eq, cases_lt, lt-ltb, le-ltb}
use Rattle.std.proofs.lemmas.List.{length-take-le, ext_get_or, get_or-take}
use Rattle.mg_base.specs.declared.fields.TheConstants.{COMMON}
use Rattle.mg_base.specs.Fields.{byte, with_u16, byte_apart16, u16_again, u16_apart, length-with_u16}
use Rattle.mg_slots.specs.declared.page.TheConstants.{COUNT_AT, LOW_AT, SLOTS_AT, SLOT_LEN, LEAST_SIZE, GREATEST_SIZE}
use Rattle.mg_slots.specs.Changes.{FreesCell, SetsCell}
use Rattle.mg_slots.specs.DataPage.{Cells, IsDataPage, IsLaid, HasUpTo, cell_of, slot_count, low_of, taken, taken_by, taken_below, all_taken}
use Rattle.mg_slots.specs.Layout.{EndsAt, with_cell}
use Rattle.mg_slots.specs.Room.{least_free, rest_of, room_for, used_end}
use Rattle.mg_slots.specs.TakenLaws.{taken_below_beyond, taken_below_changed, taken_below_mono, taken_below_more}
use Rattle.mg_slots.specs.DataPageLaws.{cell_past, cell_used, cells_fit}
use Rattle.mg_slots.proofs.LaidLemmas.{has_same, laid_cells, laid_lawful}
use Rattle.mg_slots.specs.RoomLaws.{first_without_le, last_end_last, last_end_le, used_end_beyond, with_cell_here, with_cell_other}

-- cells stay laid out where all bytes behind the fields stay
laid_same : (b b' : List ℕ) (cells : Cells) (n : ℕ) → length b' ≡ length b → ((k : ℕ)
    → SLOTS_AT ≤ k → byte b' k ≡ byte b k) → SLOTS_AT + taken_below cells n ≤ length b
    → IsLaid b cells n → IsLaid b' cells n
laid_same b b' cells n len same room laid = record {
  each = λ s lt. let P : ℕ → Type 0 = λ x. HasUpTo b' (x - taken_below cells s) s (cells s) in
      subst P (sym len) (each s lt);
  blank = λ k from to. same k (omega arith) ∙ laid.blank k from (omega arith);
}
  where
    each : (s : ℕ) → s < n → HasUpTo b' (length b - taken_below cells s) s (cells s)
    each s lt =
        let more : taken_below cells (s + 1) ≡ taken_below cells s + taken_by (cells s) =
        taken_below_more cells s in
        let le : taken_below cells (s + 1) ≤ taken_below cells n =
        taken_below_mono cells (s + 1) n (omega arith) in
        has_same b b' (length b - taken_below cells s) s (cells s) (omega arith)
        (λ k from to. same k (omega arith)) (λ k from to. same k (omega arith)) (laid.each s lt)

take_same : (n : ℕ) (xs ys : List ℕ) → n ≤ length xs → length ys ≡ length xs → ((k : ℕ) → k < n
    → byte ys k ≡ byte xs k) → take n ys ≡ take n xs
take_same n xs ys le len same =
    let len_x : length (take n xs) ≡ n = length-take-le n xs le in
    let len_y : length (take n ys) ≡ n = length-take-le n ys (omega arith) in
    ext_get_or 0 _ _ (omega arith) (λ k lt. get_or-take n ys k 0 (omega arith)
    ∙ (same k (omega arith) ∙ sym (get_or-take n xs k 0 (omega arith))))

-- what all cells take once one slot has another cell
taken_with : (cells : Cells) (slot : ℕ) (cell : Option (List ℕ)) (count after : ℕ) → ((s : ℕ)
    → count ≤ s → cells s ≡ None) → ((s : ℕ) → after ≤ s → with_cell cells slot cell s ≡ None)
    → taken_below (with_cell cells slot cell) after + taken_by
    (cells slot) ≡ taken_below cells count + taken_by cell
taken_with cells slot cell count after beyond beyond_after =
    let n : ℕ = max (max count after) (slot + 1) in
    let old : taken_below cells n ≡ taken_below cells count =
    taken_below_beyond cells count n (omega arith) beyond in
    let new : taken_below (with_cell cells slot cell) n ≡ taken_below
    (with_cell cells slot cell) after = taken_below_beyond (with_cell cells slot cell) after n
    (omega arith) beyond_after in
    let here : with_cell cells slot cell slot ≡ cell = with_cell_here cells slot cell in
    let changed : taken_below (with_cell cells slot cell) n + taken_by
    (cells slot) ≡ taken_below cells n + taken_by (with_cell cells slot cell slot)
    = taken_below_changed cells (with_cell cells slot cell) slot n (omega arith)
    (λ s ne. with_cell_other cells slot s cell ne) in
    omega (arith, ap taken_by here)

-- the page that is laid out anew
pub rewritten : (old mid new : List ℕ) (slot : ℕ) (cell : Option (List ℕ)) (count low : ℕ)
    → IsDataPage old → EndsAt (with_cell (cell_of old) slot cell) count
    → SLOTS_AT + SLOT_LEN * count + taken_below (with_cell
    (cell_of old) slot cell) count ≤ length old
    → length mid ≡ length old → ((k : ℕ) → k < COMMON → byte mid k ≡ byte old k)
    → IsLaid mid (with_cell (cell_of old) slot cell) count
    → low + taken_below (with_cell (cell_of old) slot cell) count ≡ length mid
    → new ≡ with_u16 (with_u16 mid COUNT_AT count) LOW_AT low
    → SetsCell old new slot cell × (slot_count new ≡ count)
rewritten old mid new slot cell count low page ends room len front laid at_low is_new =
    let greatest : length old ≤ GREATEST_SIZE = page.greatest_size in
    let least : LEAST_SIZE ≤ length old = page.least_size in
    let len_count : length (with_u16 mid COUNT_AT count) ≡ length mid =
    length-with_u16 mid COUNT_AT count in
    let len_new : length new ≡ length mid = ap length is_new
    ∙ (length-with_u16 (with_u16 mid COUNT_AT count) LOW_AT low ∙ len_count) in
    let count_new : slot_count new ≡ count = ap slot_count is_new
    ∙ (u16_apart (with_u16 mid COUNT_AT count) LOW_AT low COUNT_AT (λ lt. absurd
    (omega arith)) ∙ u16_again mid COUNT_AT count (omega arith) (omega arith)) in
    let low_new : low_of new ≡ low = ap low_of is_new
    ∙ u16_again (with_u16 mid COUNT_AT count) LOW_AT low (omega arith) (omega arith) in
    let same : (k : ℕ) → (COUNT_AT ≤ k → SLOTS_AT ≤ k) → byte new k ≡ byte mid k =
    λ k apart. ap (λ p. byte p k) is_new ∙
    (byte_apart16 (with_u16 mid COUNT_AT count) LOW_AT low k (λ le. omega (
      arith,
      apart
          (omega arith),
    )) ∙ byte_apart16 mid COUNT_AT count k (λ le. omega (arith, apart le))) in
    let laid_new : IsLaid new (with_cell (cell_of old) slot cell) count =
    laid_same mid new (with_cell (cell_of old) slot cell) count len_new (λ k le. same k
    (λ from. le)) (omega arith) laid in
    let cells : cell_of new ≡ with_cell (cell_of old) slot cell =
    laid_cells new (with_cell (cell_of old) slot cell) count laid_new count_new
    (omega arith) ends.beyond in
    let taken_new : taken_below (with_cell (cell_of old) slot cell) count + taken_by
    (cell_of old slot) ≡ all_taken old + taken_by cell
    = taken_with (cell_of old) slot cell (slot_count old) count
    (λ s le. cell_past old s le) ends.beyond in (
      record {
        here = ap (λ f. f slot) cells ∙ with_cell_here (cell_of old) slot cell;
        others = λ other ne. ap (λ f. f other) cells
            ∙ with_cell_other (cell_of old) slot other cell ne;
        common = take_same COMMON old new (omega arith) (len_new
            ∙ len) (λ k lt. same k (λ from. absurd (omega arith)) ∙ front k lt);
        len = len_new ∙ len;
        taken = rw (count_new, cells) taken_new;
        lawful = laid_lawful new (with_cell (cell_of old) slot cell) count (omega arith)
            (omega arith) laid_new count_new (omega arith) (omega arith) ends;
        packed = rw (count_new, cells) laid_new;
      },
      count_new,
    )

-- a cell that has room fits the page
pub put_fits : (b : List ℕ) (slot : ℕ) (cell : List ℕ) → IsDataPage b → (cell_of b slot ≡ None
    → slot ≡ least_free b) → taken (length cell) ≤ room_for b slot
    → SLOTS_AT + SLOT_LEN * max (slot_count b) (slot + 1) + taken_below (with_cell
    (cell_of b) slot (Some cell)) (max (slot_count b) (slot + 1)) ≤ length b
put_fits b slot cell page least room = at (cell_of b slot) refl room (cases_lt slot (slot_count b))
    (taken_with (cell_of b) slot (Some cell) (slot_count b) (max (slot_count b) (slot + 1))
    (λ s le. cell_past b s le)
    (λ s le. with_cell_other (cell_of b) slot s (Some cell) (omega arith)
    ∙ cell_past b s (omega arith)))
    (cells_fit b page) (first_without_le (cell_of b) (slot_count b))
  where
    at : (o : Option (List ℕ)) → cell_of b slot ≡ o → taken (length cell) ≤ room_for b slot
        → (slot < slot_count b) ⊎ (slot_count b ≤ slot)
        → taken_below (with_cell (cell_of b) slot (Some cell)) (max (slot_count b)
        (slot + 1)) + taken_by (cell_of b slot) ≡ all_taken b + taken (length cell)
        → SLOTS_AT + SLOT_LEN * slot_count b + all_taken b ≤ length b → least_free b ≤ slot_count b
        → SLOTS_AT + SLOT_LEN * max (slot_count b) (slot + 1) + taken_below (with_cell
        (cell_of b) slot (Some cell)) (max (slot_count b) (slot + 1)) ≤ length b
    at (Some old) some room (inr past) sum fit le = let none : cell_of b slot ≡ None =
        cell_past b slot past in absurd cc
    at (Some old) some room (inl below) sum fit le =
        omega (arith, rw some at room, ap taken_by some)
    at None none room (inl below) sum fit le =
        let first : least_free b < slot_count b = omega (arith, least none) in
        let enough : taken (length cell) ≤ rest_of b =
        rw (none, lt-ltb (least_free b) (slot_count b) first) at room in
        omega (arith, ap taken_by none)
    at None none room (inr past) sum fit le =
        let no_first : slot_count b ≤ least_free b = omega (arith, least none) in
        let enough : taken (length cell) ≤ rest_of b - SLOT_LEN =
        rw (none, le-ltb (least_free b) (slot_count b) no_first) at room in
        omega (arith, ap taken_by none, least none)

pub put_ends : (b : List ℕ) (slot : ℕ) (cell : List ℕ) → IsDataPage b
    → EndsAt (with_cell (cell_of b) slot (Some cell)) (max (slot_count b) (slot + 1))
put_ends b slot cell page = record {
  last = λ s e. last s e (cases_eq s slot);
  beyond = λ s le. with_cell_other (cell_of b) slot s (Some cell) (omega arith)
      ∙ cell_past b s (omega arith);
}
  where
    last : (s : ℕ) → max (slot_count b) (slot + 1) ≡ s + 1 → (s ≡ slot) ⊎ (s ≢ slot)
        → IsSome (with_cell (cell_of b) slot (Some cell) s)
    last s e (inl same) = rw (same, with_cell_here (cell_of b) slot (Some cell)) refl
    last s e (inr ne) =
        let below : slot_count b ≡ s + 1 = omega arith in
        rw (
          with_cell_other (cell_of b) slot s (Some cell) ne,
          cell_used b s (omega arith)
              (page.last_used s below),
        ) refl

pub free_ends : (b : List ℕ) (slot : ℕ) → EndsAt (with_cell (cell_of b) slot None) (used_end
    (with_cell (cell_of b) slot None) (slot_count b))
free_ends b slot = record {
  last = λ s e. last_end_last (λ s. is_some (with_cell (cell_of b) slot None s)) (slot_count b) s e;
  beyond = λ s le. beyond s le (cases_lt s (slot_count b)) (cases_eq s slot);
}
  where
    beyond : (s : ℕ) → used_end (with_cell (cell_of b) slot None) (slot_count b) ≤ s
        → (s < slot_count b) ⊎ (slot_count b ≤ s) → (s ≡ slot) ⊎ (s ≢ slot)
        → with_cell (cell_of b) slot None s ≡ None
    beyond s le (inl lt) same = used_end_beyond (with_cell (cell_of b) slot None)
        (slot_count b) s le lt
    beyond s le (inr past) (inl e) = rw (e, with_cell_here (cell_of b) slot None) refl
    beyond s le (inr past) (inr ne) = with_cell_other (cell_of b) slot s None ne
        ∙ cell_past b s past

pub free_fits : (b : List ℕ) (slot : ℕ) → IsDataPage b
    → SLOTS_AT + SLOT_LEN * used_end (with_cell (cell_of b) slot None)
    (slot_count b) + taken_below (with_cell (cell_of b) slot None) (used_end (with_cell
    (cell_of b) slot None) (slot_count b)) ≤ length b
free_fits b slot page =
    let ends : EndsAt (with_cell (cell_of b) slot None) (used_end (with_cell
    (cell_of b) slot None) (slot_count b)) = free_ends b slot in
    let sum : taken_below (with_cell (cell_of b) slot None) (used_end (with_cell
    (cell_of b) slot None) (slot_count b)) + taken_by (cell_of b slot) ≡ all_taken b + 0
    = taken_with (cell_of b) slot None (slot_count b) (used_end (with_cell (cell_of b) slot None)
    (slot_count b)) (λ s le. cell_past b s le) ends.beyond in
    omega (
      arith,
      cells_fit b page,
      last_end_le (λ s. is_some (with_cell (cell_of b) slot None s))
          (slot_count b),
    )

pub put_slot_within : (b : List ℕ) (slot : ℕ) → (cell_of b slot ≡ None → slot ≡ least_free b)
    → slot ≤ slot_count b
put_slot_within b slot least = at (cases_lt slot (slot_count b))
  where
    at : (slot < slot_count b) ⊎ (slot_count b ≤ slot) → slot ≤ slot_count b
    at (inl below) = omega arith
    at (inr past) = omega (
      arith,
      least (cell_past b slot past),
      first_without_le (cell_of b)
          (slot_count b),
    )

pub frees : (old new : List ℕ) (slot : ℕ) → SetsCell old new slot None
    → slot_count new ≡ used_end (with_cell (cell_of old) slot None) (slot_count old)
    → FreesCell old new slot
frees old new slot sets count = record { sets = sets; count = rw same count }
  where
    same : cell_of new ≡ with_cell (cell_of old) slot None
    same = fun_ext (λ s. at s (cases_eq s slot))
      where
        at : (s : ℕ) → (s ≡ slot) ⊎ (s ≢ slot) → cell_of new s ≡ with_cell (cell_of old) slot None s
        at s (inl e) = rw (e, with_cell_here (cell_of old) slot None) sets.here
        at s (inr ne) = rw (with_cell_other (cell_of old) slot s None ne) (sets.others s ne)
