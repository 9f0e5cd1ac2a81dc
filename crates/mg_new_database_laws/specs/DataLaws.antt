-- A page in which cells stand one below the other is a lawful data page, and has these cells.
use Rattle.std.proofs.Common.{◌≡◌, ◌<◌, ◌≤◌, ◌+◌, ◌*◌, ◌-◌, ◌==◌, ◌&&◌, ℕ, zero, suc, Bool, true, false, List, [], ◌∷◌, length, take, drop, get_or, min, Some, None, refl, sym, ap, ◌∙◌, subst, arith, nat_lt, add-one, if◌then◌else◌}
use Rattle.std.proofs.lemmas.Bool.{ltb-false, ltb-true, ne_eqb}
use Rattle.std.proofs.lemmas.List.{ext_get_or, get_or-drop, get_or-take, length-drop, length-take-le}
use Rattle.mg_base.specs.Fields.{byte}
use Rattle.mg_slots.specs.DataPage.{IsDataPage, cell_of, least_offset, length_at, offset_at, slot_count, taken}
use Rattle.mg_new_database_laws.specs.CellLaws.{HasCells, Stand, total}

-- each cell has the least bytes that one takes
abbrev pub AreTall : List (List ℕ) → Type 0
AreTall [] = Unit {0}
AreTall (cell ∷ cells) = (11 ≤ length cell) × AreTall cells

pub tall_at : (cells : List (List ℕ)) → AreTall cells → (k : ℕ) → k < length cells → 11 ≤ length (get_or cells k [])
tall_at [] tall k less = absurd (omega (arith, less))
tall_at (cell ∷ cells) (first, rest) zero less = first
tall_at (cell ∷ cells) (first, rest) (suc k) less = tall_at cells rest k (omega (arith, less))

-- A slot has a cell between two places.
pub record IsAt (b : List ℕ) (slot low high : ℕ) (cell : List ℕ) : Type 0 where
  pub from : low ≤ offset_at b slot
  pub to : offset_at b slot + length cell ≤ high
  pub len : length_at b slot ≡ length cell
  pub bytes : (i : ℕ) → i < length cell → byte b (offset_at b slot + i) ≡ byte cell i

pub placed : (b : List ℕ) (slot end : ℕ) (cells : List (List ℕ)) → total cells ≤ end → Stand b slot end cells
    → (k : ℕ) → k < length cells → IsAt b (slot + k) (end - total cells) end (get_or cells k [])
placed b slot end [] room stand k less = absurd (omega (arith, less))
placed b slot end (cell ∷ cells) room (at, len, bytes, rest) zero less =
    subst (λ (s : ℕ). IsAt b s (end - (length cell + total cells)) end cell) same (record {
      from = omega (arith, at);
      to = omega (arith, at, room);
      len = len;
      bytes = λ i inside. ap (λ (o : ℕ). byte b (o + i)) at ∙ bytes i inside;
    })
  where
    same : slot ≡ slot + zero
    same = omega arith
placed b slot end (cell ∷ cells) room (at, len, bytes, rest) (suc k) less =
    let later : IsAt b (slot + 1 + k) (end - length cell - total cells) (end - length cell) (get_or cells k []) =
    placed b (slot + 1) (end - length cell) cells (omega (arith, room)) rest k (omega (arith, less)) in
    subst (λ (s : ℕ). IsAt b s (end - (length cell + total cells)) end (get_or cells k [])) same (record {
      from = let its = later.from in omega (arith, its);
      to = let its = later.to in omega (arith, its);
      len = later.len;
      bytes = later.bytes;
    })
  where
    same : slot + 1 + k ≡ slot + suc k
    same = omega arith

pub apart : (b : List ℕ) (slot end : ℕ) (cells : List (List ℕ)) → total cells ≤ end → Stand b slot end cells
    → (k earlier : ℕ) → k < length cells → earlier < k
    → offset_at b (slot + k) + length (get_or cells k []) ≤ offset_at b (slot + earlier)
apart b slot end [] room stand k earlier less before = absurd (omega (arith, less))
apart b slot end (cell ∷ cells) room stand zero earlier less before = absurd (omega (arith, before))
apart b slot end (cell ∷ cells) room (at, len, bytes, rest) (suc k) zero less before =
    let its = (placed b (slot + 1) (end - length cell) cells (omega (arith, room)) rest k (omega (arith, less))).to in
    omega (arith, its, at, place, first)
  where
    place : offset_at b (slot + suc k) ≡ offset_at b (slot + 1 + k)
    place = ap (offset_at b) (omega arith)

    first : offset_at b (slot + zero) ≡ offset_at b slot
    first = ap (offset_at b) (omega arith)
apart b slot end (cell ∷ cells) room (at, len, bytes, rest) (suc k) (suc earlier) less before =
    let later : offset_at b (slot + 1 + k) + length (get_or cells k []) ≤ offset_at b (slot + 1 + earlier) =
    apart b (slot + 1) (end - length cell) cells (omega (arith, room)) rest k earlier (omega (arith, less))
    (omega (arith, before)) in
    omega (arith, later, place, other)
  where
    place : offset_at b (slot + suc k) ≡ offset_at b (slot + 1 + k)
    place = ap (offset_at b) (omega arith)

    other : offset_at b (slot + suc earlier) ≡ offset_at b (slot + 1 + earlier)
    other = ap (offset_at b) (omega arith)

least_used : (at least : ℕ) → 0 < at → at ≤ least → (if at == 0 then least else min at least) ≡ at
least_used at least some low =
    rw (ne_eqb at 0 (λ zero_. absurd (omega (arith, zero_, some)))) (omega (arith, low))

pub least : (b : List ℕ) (slot end : ℕ) (cells : List (List ℕ)) → total cells < end → Stand b slot end cells
    → least_offset b slot ≡ end → least_offset b (slot + length cells) ≡ end - total cells
least b slot end [] room stand is = ap (least_offset b) none ∙ (is ∙ whole)
  where
    none : slot + 0 ≡ slot
    none = omega arith

    whole : end ≡ end - 0
    whole = omega arith
least b slot end (cell ∷ cells) room (at, len, bytes, rest) is =
    ap (least_offset b) count ∙ (least b (slot + 1) (end - length cell) cells (omega (arith, room)) rest next ∙ low)
  where
    count : slot + length (cell ∷ cells) ≡ slot + 1 + length cells
    count = omega arith

    low : end - length cell - total cells ≡ end - total (cell ∷ cells)
    low = omega arith

    next : least_offset b (slot + 1) ≡ end - length cell
    next = rw (add-one slot) (least_used (offset_at b slot) (least_offset b slot) (omega (arith, at, room))
        (omega (arith, at, is)) ∙ at)

module _ (b : List ℕ) (cells : List (List ℕ)) (made : List ℕ) (smallest : 1024 ≤ length b)
    (greatest : length b ≤ 16384) (tall : AreTall cells) (room : 20 + 4 * length cells + total cells ≤ length b)
    (has : HasCells b 0 (length b) cells made) where
  from_none : (k : ℕ) → 0 + k ≡ k
  from_none k = omega arith

  count_is : slot_count made ≡ length cells
  count_is = has.count ∙ from_none (length cells)

  at : (k : ℕ) → k < length cells → IsAt made k (length b - total cells) (length b) (get_or cells k [])
  at k less = subst (λ (s : ℕ). IsAt made s (length b - total cells) (length b) (get_or cells k []))
      (from_none k) (placed made 0 (length b) cells (omega (arith, room)) has.each k less)

  used : (k : ℕ) → k < length cells → 0 < offset_at made k
  used k less = let from = (at k less).from in omega (arith, from, room)

  below : (k : ℕ) → k < slot_count made → k < length cells
  below k less = omega (arith, less, count_is)

  taken_is : (k : ℕ) → k < length cells → taken (length_at made k) ≡ length (get_or cells k [])
  taken_is k less =
      let len = (at k less).len in let enough = tall_at cells tall k less in omega (arith, len, enough)

  pub data_page : IsDataPage made
  data_page = record {
    least_size = let len = has.len in omega (arith, len, smallest);
    greatest_size = let len = has.len in omega (arith, len, greatest);
    slots_fit = let len = has.len in omega (arith, len, count_is, room);
    last_used = λ k last. used k (omega (arith, last, count_is));
    low = has.low ∙ (sym (least made 0 (length b) cells (omega (arith, room)) has.each has.len)
        ∙ ap (least_offset made) (sym has.count));
    slots = λ k less. record {
      free = λ zero_. let some = used k (below k less) in absurd (omega (arith, zero_, some));
      placed = λ some. record {
        after_slots = let from = (at k (below k less)).from in omega (arith, from, count_is, room);
        in_page = let to = (at k (below k less)).to in let its = taken_is k (below k less) in let len = has.len in
            omega (arith, to, its, len);
        apart = λ earlier before other meets.
            let its = taken_is k (below k less) in
            let over : offset_at made (0 + k) + length (get_or cells k []) ≤ offset_at made (0 + earlier) =
            apart made 0 (length b) cells (omega (arith, room)) has.each k earlier (below k less) before in
            let same : offset_at made (0 + k) ≡ offset_at made k = ap (offset_at made) (from_none k) in
            let other : offset_at made (0 + earlier) ≡ offset_at made earlier =
            ap (offset_at made) (from_none earlier) in
            omega (arith, its, over, same, other);
      };
    };
  }

  -- each slot has its cell
  pub cell_is : (k : ℕ) → k < length cells → cell_of made k ≡ Some (get_or cells k [])
  unfolding cell_of
  cell_is k less = on (nat_lt k (slot_count made)) refl (nat_lt 0 (offset_at made k)) refl
    where
      cell : List ℕ
      cell = get_or cells k []

      front : List ℕ
      front = drop (offset_at made k) made

      fits : length cell ≤ length front
      fits = let to = (at k less).to in
          let long : length front ≡ length made - offset_at made k = length-drop (offset_at made k) made in
          let len = has.len in omega (arith, to, long, len)

      long_cell : length (take (length cell) front) ≡ length cell
      long_cell = length-take-le (length cell) front fits

      is_cell : take (length cell) front ≡ cell
      is_cell = ext_get_or 0 (take (length cell) front) cell long_cell (λ i inside. byte_is i (omega (arith, inside, long_cell)))
        where
          byte_is : (i : ℕ) → i < length cell → byte (take (length cell) front) i ≡ byte cell i
          byte_is i inside = get_or-take (length cell) front i 0 inside
              ∙ (get_or-drop (offset_at made k) made i 0 ∙ (at k less).bytes i inside)

      on : (p : Bool) → nat_lt k (slot_count made) ≡ p → (q : Bool) → nat_lt 0 (offset_at made k) ≡ q
          → (if p && q then Some (take (length_at made k) front) else None) ≡ Some cell
      on true is true also = ap Some (ap (λ (n : ℕ). take n front) (at k less).len ∙ is_cell)
      on true is false also = let over = ltb-false 0 (offset_at made k) also in let some = used k less in absurd (omega (arith, over, some))
      on false is q also = let over = ltb-false k (slot_count made) is in absurd (omega (arith, over, count_is, less))

  -- and no other slot has one
  pub none_past : (k : ℕ) → length cells ≤ k → cell_of made k ≡ None
  unfolding cell_of
  none_past k from = on (nat_lt k (slot_count made)) refl
    where
      on : (p : Bool) → nat_lt k (slot_count made) ≡ p
          → (if p && nat_lt 0 (offset_at made k) then Some (take (length_at made k) (drop (offset_at made k) made))
          else None) ≡ None
      on true is = let under = ltb-true k (slot_count made) is in absurd (omega (arith, under, count_is, from))
      on false is = refl
