-- Cells that are put into a page one below the other stand in it.
use Rattle.std.proofs.Common.{◌≡◌, ◌<◌, ◌≤◌, ◌+◌, ◌*◌, ◌-◌, ℕ, List, [], ◌∷◌, ◌++◌, length, take, drop, refl, ap, ◌∙◌, arith}
use Rattle.std.proofs.lemmas.List.{get_or-append_right, get_or-drop, get_or-take, get_or_append_left, length-append, length-drop, length-take-le, take-append-le, take-take}
use Rattle.mg_base.specs.Fields.{byte, byte_apart16, length-with_u16, take-with_u16, u16_again, u16_apart, u16_at, with_u16}
use Rattle.mg_image.specs.NewDatabase.{with_bytes, with_cells, with_slot}
use Rattle.mg_slots.specs.DataPage.{length_at, low_of, offset_at, slot_count}

-- ---- bytes

module _ (page : List ℕ) (at : ℕ) (bytes : List ℕ) (fits : at + length bytes ≤ length page) where
  abbrev behind : List ℕ
  behind = drop (at + length bytes) page

  long_front : length (take at page) ≡ at
  long_front = length-take-le at page (omega (arith, fits))

  long_both : length (take at page ++ bytes) ≡ at + length bytes
  long_both = let all : length (take at page ++ bytes) ≡ length (take at page) + length bytes =
      length-append (take at page) bytes in omega (arith, all, long_front)

  pub length-with_bytes : length (with_bytes page at bytes) ≡ length page
  length-with_bytes =
      let all : length ((take at page ++ bytes) ++ behind) ≡ length (take at page ++ bytes) + length behind =
      length-append (take at page ++ bytes) behind in
      let last : length behind ≡ length page - (at + length bytes) = length-drop (at + length bytes) page in
      omega (arith, all, last, long_both, fits)

  -- those before them stay
  pub before_stays : (i : ℕ) → i < at → byte (with_bytes page at bytes) i ≡ byte page i
  before_stays i less = get_or_append_left (take at page ++ bytes) behind 0 i (omega (arith, long_both, less))
      ∙ (get_or_append_left (take at page) bytes 0 i (omega (arith, long_front, less))
      ∙ get_or-take at page i 0 less)

  pub front_stays : (n : ℕ) → n ≤ at → take n (with_bytes page at bytes) ≡ take n page
  front_stays n less = take-append-le n (take at page ++ bytes) behind (omega (arith, long_both, less))
      ∙ (take-append-le n (take at page) bytes (omega (arith, long_front, less)) ∙ take-take n at page less)

  -- they stand there
  pub bytes_stand : (k : ℕ) → k < length bytes → byte (with_bytes page at bytes) (at + k) ≡ byte bytes k
  bytes_stand k less = get_or_append_left (take at page ++ bytes) behind 0 (at + k) (omega (arith, long_both, less))
      ∙ (get_or-append_right (take at page) bytes at (at + k) 0 long_front (omega arith) ∙ ap (byte bytes) back)
    where
      back : (at + k) - at ≡ k
      back = omega arith

  -- and those behind them stay
  pub behind_stays : (i : ℕ) → at + length bytes ≤ i → byte (with_bytes page at bytes) i ≡ byte page i
  behind_stays i from =
      get_or-append_right (take at page ++ bytes) behind (at + length bytes) i 0 long_both from
      ∙ (get_or-drop (at + length bytes) page (i - (at + length bytes)) 0 ∙ ap (byte page) back)
    where
      back : (at + length bytes) + (i - (at + length bytes)) ≡ i
      back = omega (arith, from)

-- ---- cells

-- how many bytes these cells have
abbrev pub total : List (List ℕ) → ℕ
total [] = 0
total (cell ∷ cells) = length cell + total cells

-- the slots from one on have these cells, one below the other from an end downward
abbrev pub Stand : List ℕ → ℕ → ℕ → List (List ℕ) → Type 0
Stand b slot end [] = Unit {0}
Stand b slot end (cell ∷ cells) = (offset_at b slot ≡ end - length cell) × (length_at b slot ≡ length cell)
    × ((k : ℕ) → k < length cell → byte b (end - length cell + k) ≡ byte cell k)
    × Stand b (slot + 1) (end - length cell) cells

-- Cells were put into the slots from one on; all else stays but the count of slots and the lowest byte of all.
pub record HasCells (b : List ℕ) (slot end : ℕ) (cells : List (List ℕ)) (made : List ℕ) : Type 0 where
  pub len : length made ≡ length b
  pub count : slot_count made ≡ slot + length cells
  pub low : low_of made ≡ end - total cells
  pub front : take 16 made ≡ take 16 b
  pub slots : (i : ℕ) → 20 ≤ i → i < 20 + 4 * slot → byte made i ≡ byte b i
  pub behind : (i : ℕ) → end ≤ i → byte made i ≡ byte b i
  pub each : Stand made slot end cells

module _ (page : List ℕ) (slot end : ℕ) (most : length page ≤ 16384) where
  no_more : 20 + 4 * slot ≤ end → end ≤ length page
      → HasCells page slot end [] (with_u16 (with_u16 page 16 slot) 18 end)
  no_more room fits = record {
    len = length-with_u16 counted 18 end ∙ long;
    count = u16_apart counted 18 end 16 (omega arith)
        ∙ (u16_again page 16 slot (omega (arith, room, fits)) (omega (arith, room, fits, most)) ∙ none);
    low = u16_again counted 18 end (omega (arith, long, room, fits)) (omega (arith, fits, most)) ∙ whole;
    front = take-with_u16 counted 18 end 16 (omega arith) ∙ take-with_u16 page 16 slot 16 (omega arith);
    slots = λ i from below. stays i from;
    behind = λ i from. stays i (omega (arith, room, from));
    each = tt;
  }
    where
      counted : List ℕ
      counted = with_u16 page 16 slot

      long : length counted ≡ length page
      long = length-with_u16 page 16 slot

      none : slot ≡ slot + 0
      none = omega arith

      whole : end ≡ end - 0
      whole = omega arith

      stays : (i : ℕ) → 20 ≤ i → byte (with_u16 counted 18 end) i ≡ byte page i
      stays i from = byte_apart16 counted 18 end i (λ le. omega (arith, from))
          ∙ byte_apart16 page 16 slot i (λ le. omega (arith, from))

  one_more : (cell : List ℕ) (cells : List (List ℕ)) (made : List ℕ)
      → 20 + 4 * slot + 4 + length cell ≤ end → end ≤ length page
      → HasCells (with_bytes (with_slot page slot (end - length cell) (length cell)) (end - length cell) cell)
      (slot + 1) (end - length cell) cells made
      → HasCells page slot end (cell ∷ cells) made
  one_more cell cells made room fits rest = record {
    len = rest.len ∙ long;
    count = rest.count ∙ counted;
    low = rest.low ∙ lowest;
    front = rest.front ∙ (front_stays slotted at cell inside 16 (omega (arith, room))
        ∙ (take-with_u16 begun length_place (length cell) 16 (omega arith)
        ∙ take-with_u16 page place at 16 (omega arith)));
    slots = λ i from below. rest.slots i from (omega (arith, below))
        ∙ (before_stays slotted at cell inside i (omega (arith, below, room))
        ∙ slot_stays i (λ le. absurd (omega (arith, le, below))));
    behind = λ i from. rest.behind i (omega (arith, from))
        ∙ (behind_stays slotted at cell inside i (omega (arith, from, room))
        ∙ slot_stays i (λ le. omega (arith, from, room)));
    each = (
      field place (omega arith) (omega arith) ∙ (u16_apart begun length_place (length cell) place (λ less. omega arith)
          ∙ u16_again page place at (omega (arith, room, fits)) (omega (arith, fits, most))),
      field length_place (omega arith) (omega arith) ∙ u16_again begun length_place (length cell)
          (omega (arith, room, fits, long_begun)) (omega (arith, room, fits, most)),
      (λ k less. rest.behind (at + k) (omega arith) ∙ bytes_stand slotted at cell inside k less),
      rest.each,
    );
  }
    where
      at : ℕ
      at = end - length cell

      place : ℕ
      place = 20 + 4 * slot

      length_place : ℕ
      length_place = 20 + 4 * slot + 2

      begun : List ℕ
      begun = with_u16 page place at

      slotted : List ℕ
      slotted = with_u16 begun length_place (length cell)

      long_begun : length begun ≡ length page
      long_begun = length-with_u16 page place at

      long_slotted : length slotted ≡ length page
      long_slotted = length-with_u16 begun length_place (length cell) ∙ long_begun

      inside : at + length cell ≤ length slotted
      inside = omega (arith, long_slotted, room, fits)

      long : length (with_bytes slotted at cell) ≡ length page
      long = length-with_bytes slotted at cell inside ∙ long_slotted

      counted : slot + 1 + length cells ≡ slot + length (cell ∷ cells)
      counted = omega arith

      lowest : at - total cells ≡ end - total (cell ∷ cells)
      lowest = omega arith

      slot_stays : (i : ℕ) → (place ≤ i → place + 4 ≤ i) → byte slotted i ≡ byte page i
      slot_stays i apart = byte_apart16 begun length_place (length cell) i (λ le. omega (arith, le, apart))
          ∙ byte_apart16 page place at i (λ le. omega (arith, le, apart))

      field : (p : ℕ) → place ≤ p → p ≤ length_place → u16_at made p ≡ u16_at slotted p
      field p from to = rw (
        byte_is p (omega (arith, from)) (omega (arith, to)),
        byte_is (p + 1) (omega (arith, from)) (omega (arith, to)),
      ) refl
        where
          byte_is : (i : ℕ) → place ≤ i → i < place + 4 → byte made i ≡ byte slotted i
          byte_is i low high = rest.slots i (omega (arith, low)) (omega (arith, high))
              ∙ before_stays slotted at cell inside i (omega (arith, high, room))

-- cells that have room are put
pub cells_stand : (page : List ℕ) (slot end : ℕ) (cells : List (List ℕ)) → length page ≤ 16384 → end ≤ length page
    → 20 + 4 * (slot + length cells) + total cells ≤ end
    → HasCells page slot end cells (with_cells page slot end cells)
cells_stand page slot end [] most fits room = no_more page slot end most (omega (arith, room)) fits
cells_stand page slot end (cell ∷ cells) most fits room =
    one_more page slot end most cell cells (with_cells next (slot + 1) at cells) (omega (arith, room)) fits
    (cells_stand next (slot + 1) at cells (omega (arith, long, most)) (omega (arith, long, fits)) (omega (arith, room)))
  where
    at : ℕ
    at = end - length cell

    slotted : List ℕ
    slotted = with_slot page slot at (length cell)

    next : List ℕ
    next = with_bytes slotted at cell

    long_slotted : length slotted ≡ length page
    long_slotted = length-with_u16 (with_u16 page (20 + 4 * slot) at) (20 + 4 * slot + 2) (length cell)
        ∙ length-with_u16 page (20 + 4 * slot) at

    long : length next ≡ length page
    long = length-with_bytes slotted at cell (omega (arith, long_slotted, room, fits)) ∙ long_slotted
