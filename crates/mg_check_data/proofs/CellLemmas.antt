-- What is found of the cells of a page, one slot after another.
use Rattle.std.specs.Prelude.{◌≡◌, ◌↔◌, ◌⊎◌, ◌<◌, ◌≤◌, ◌+◌, ◌^◌, ◌++◌, ℕ, List, [], ◌∷◌, Option, None, Some, false, length, nat_lt, ◌&&◌}
use Rattle.std.proofs.Common.{refl, sym, ap, ◌∙◌, inl, inr, arith, subst}
use Rattle.std.proofs.lemmas.Bool.{cases_lt, le-ltb}
use Rattle.mg_check_data.specs.DataRung.{HasCells, HasOne, IsCellFinding, IsFoundBelow, IsSlotCell, IsSlotFinding, cell_finding}
use Rattle.mg_findings.specs.declared.finding.Finding.{Finding}
use Rattle.mg_findings.specs.FindingLaws.{has_append}
use Rattle.mg_findings.specs.Findings.{Adds, Has, HasNone}
use Rattle.mg_image.specs.Sound.{IsCellOf}
use Rattle.mg_slots.specs.DataPage.{IsDataPage, cell_of, offset_at, slot_count, taken_by}
use Rattle.mg_slots.specs.DataPageLaws.{taken_by_fits}
use Rattle.mg_version.specs.declared.cell.Cell.{Cell}
use Rattle.mg_version.specs.Cells.{IsSpelling, RefusesCell}

-- one more finding
pub adds_one : (fs : List Finding) (g : Finding) → Adds fs (fs ++ g ∷ []) (λ f. f ≡ g)
adds_one fs g f = (
  λ has. elim ((has_append fs (g ∷ []) f).0 has) [
    | inl old ↦ inl old
    | inr last ↦ elim last [ inl is ↦ inr is | inr none ↦ absurd none ]
  ],
  λ has. (has_append fs (g ∷ []) f).1 (elim has [
    | inl old ↦ inl old
    | inr is ↦ inr (inl is)
  ]),
)

-- nothing of a kind that has nothing
pub adds_nothing : (fs : List Finding) (P : Finding → Type 0) → HasNone P → Adds fs fs P
adds_nothing fs P none f = (
  λ has. inl has,
  λ has. elim has [ inl old ↦ old | inr is ↦ absurd (none f is) ],
)

-- two answers are one
same_bytes : (a b : List ℕ) → ◌≡◌ {A = Option (List ℕ)} (Some a) (Some b) → a ≡ b
same_bytes a b is = cc

module _ (b : List ℕ) (n slot : ℕ) where
  -- bytes stop being a cell at one place
  one_end : (bytes other : List ℕ) (at end : ℕ) → cell_of b slot ≡ Some bytes
      → cell_of b slot ≡ Some other → RefusesCell bytes at → RefusesCell other end → at ≡ end
  one_end bytes other at end here there refused also = same (cases_lt at end) (cases_lt end at)
    where
      is : other ≡ bytes
      is = same_bytes other bytes (sym there ∙ here)

      moved : RefusesCell bytes end
      moved = subst (λ (x : List ℕ). RefusesCell x end) is also

      same : (at < end) ⊎ (end ≤ at) → (end < at) ⊎ (at ≤ end) → at ≡ end
      same (inl less) which = absurd (refused.longest end less moved.inside moved.begins)
      same (inr least) (inl more) = absurd (moved.longest at more refused.inside refused.begins)
      same (inr least) (inr most) = omega (arith, least, most)

  -- the one finding of a slot
  pub slot_found : (bytes : List ℕ) (at : ℕ) → cell_of b slot ≡ Some bytes → RefusesCell bytes at
      → (f : Finding) → (f ≡ cell_finding n slot at (length bytes)) ↔ IsSlotFinding b n slot f
  slot_found bytes at there refused f = (
    λ is. record { bytes = bytes; at = at; there = there; refused = refused; is = is },
    λ found. found.is ∙ same found,
  )
    where
      same : (found : IsSlotFinding b n slot f)
          → cell_finding n slot found.at (length found.bytes) ≡ cell_finding n slot at (length bytes)
      same found =
          let one = one_end found.bytes bytes found.at at found.there there found.refused refused in
          let long = ap length (same_bytes found.bytes bytes (sym found.there ∙ there)) in
          rw (one, long) refl

  -- it is added
  pub adds_pushed : (bytes : List ℕ) (at : ℕ) (old new : List Finding) (g : Finding)
      → cell_of b slot ≡ Some bytes → RefusesCell bytes at → new ≡ old ++ g ∷ []
      → g ≡ cell_finding n slot at (length bytes) → Adds old new (IsSlotFinding b n slot)
  adds_pushed bytes at old new g there refused pushed is f =
      let found = slot_found bytes at there refused f in
      let parts = adds_one old g f in (
        λ has. elim (parts.0 (subst (λ (fs : List Finding). Has fs f) pushed has)) [
          | inl before ↦ inl before
          | inr same ↦ inr (found.0 (same ∙ is))
        ],
        λ has. subst (λ (fs : List Finding). Has fs f) (sym pushed) (parts.1 (elim has [
          | inl before ↦ inl before
          | inr slot_has ↦ inr (found.1 slot_has ∙ sym is)
        ])),
      )

  -- a slot whose bytes spell a cell has none
  pub none_spelled : (bytes : List ℕ) (cell : Cell) → cell_of b slot ≡ Some bytes
      → IsSpelling bytes cell → HasNone (IsSlotFinding b n slot)
  none_spelled bytes cell there is f found =
      let same : bytes ≡ found.bytes = same_bytes bytes found.bytes (sym there ∙ found.there) in
      found.refused.none cell (subst (λ (x : List ℕ). IsSpelling x cell) same is)

  -- and one without bytes has none
  pub none_free : cell_of b slot ≡ None → HasNone (IsSlotFinding b n slot)
  none_free free f found = absurd (let there = found.there in cc)

-- ---- one slot after another

pub adds_none_below : (b : List ℕ) (n : ℕ) (fs : List Finding) → Adds fs fs (IsFoundBelow b n 0)
adds_none_below b n fs =
    adds_nothing fs (IsFoundBelow b n 0) (λ f found. absurd (omega (arith, found.1)))

pub adds_slot : (b : List ℕ) (n slot : ℕ) (old now new : List Finding)
    → Adds old now (IsFoundBelow b n slot) → Adds now new (IsSlotFinding b n slot)
    → Adds old new (IsFoundBelow b n (slot + 1))
adds_slot b n slot old now new before here f = (
  λ has. elim ((here f).0 has) [
    | inl there ↦ elim ((before f).0 there) [
      | inl first ↦ inl first
      | inr found ↦ inr (found.0, omega (arith, found.1), found.2)
    ]
    | inr found ↦ inr (slot, omega arith, found)
  ],
  λ has. elim has [
    | inl first ↦ (here f).1 (inl ((before f).1 (inl first)))
    | inr found ↦ at found (cases_lt found.0 slot)
  ],
)
  where
    last : (k : ℕ) → k < slot + 1 → slot ≤ k → k ≡ slot
    last k below past = omega arith

    at : (found : IsFoundBelow b n (slot + 1) f) → (found.0 < slot) ⊎ (slot ≤ found.0) → Has new f
    at found (inl less) = (here f).1 (inl ((before f).1 (inr (found.0, less, found.2))))
    at found (inr past) = (here f).1 (inr
        (subst (λ (k : ℕ). IsSlotFinding b n k f) (last found.0 found.1 past) found.2))

-- a slot past the last one has no bytes
past_free : (b : List ℕ) (slot : ℕ) → slot_count b ≤ slot → cell_of b slot ≡ None
unfolding cell_of
past_free b slot past = rw (le-ltb slot (slot_count b) past) refl

-- so what is found below the last one is all
pub adds_all : (b : List ℕ) (n count : ℕ) (old new : List Finding) → slot_count b ≤ count
    → Adds old new (IsFoundBelow b n count) → Adds old new (IsCellFinding b n)
adds_all b n count old new all adds f = (
  λ has. elim ((adds f).0 has) [
    | inl first ↦ inl first
    | inr found ↦ inr (found.0, found.2)
  ],
  λ has. elim has [
    | inl first ↦ (adds f).1 (inl first)
    | inr found ↦ (adds f).1 (inr (found.0, within found (cases_lt found.0 count), found.1))
  ],
)
  where
    within : (found : IsCellFinding b n f) → (found.0 < count) ⊎ (count ≤ found.0) → found.0 < count
    within found (inl less) = less
    within found (inr past) = absurd (none_free b n found.0
        (past_free b found.0 (omega (arith, all, past))) f found.1)

-- ---- whether something is found

-- of a slot without bytes nothing is
pub free_cell : (b : List ℕ) (slot : ℕ) → cell_of b slot ≡ None → IsSlotCell b slot
free_cell b slot free bytes there = absurd cc

-- of one with bytes it is as of these
pub decided_bytes : (b : List ℕ) (n slot : ℕ) (bytes : List ℕ) → cell_of b slot ≡ Some bytes
    → HasOne (IsSlotFinding b n slot) ⊎ IsCellOf false bytes
    → HasOne (IsSlotFinding b n slot) ⊎ IsSlotCell b slot
decided_bytes b n slot bytes there (inl one) = inl one
decided_bytes b n slot bytes there (inr is) = inr (λ other also.
    subst (λ (x : List ℕ). IsCellOf false x) (same_bytes bytes other (sym there ∙ also)) is)

-- of the slots below one
abbrev pub DecidedBelow : List ℕ → ℕ → ℕ → Type 0
DecidedBelow b n count = HasOne (IsCellFinding b n)
    ⊎ ((slot : ℕ) → slot < count → IsSlotCell b slot)

pub decided_none : (b : List ℕ) (n : ℕ) → DecidedBelow b n 0
decided_none b n = inr (λ slot below. absurd (omega (arith, below)))

pub decided_slot : (b : List ℕ) (n slot : ℕ) → DecidedBelow b n slot
    → HasOne (IsSlotFinding b n slot) ⊎ IsSlotCell b slot → DecidedBelow b n (slot + 1)
decided_slot b n slot (inl one) here = inl one
decided_slot b n slot (inr before) (inl one) = inl (one.0, (slot, one.1))
decided_slot b n slot (inr before) (inr is) = inr (λ k below. at k below (cases_lt k slot))
  where
    last : (k : ℕ) → k < slot + 1 → slot ≤ k → slot ≡ k
    last k below past = omega (arith, below, past)

    at : (k : ℕ) → k < slot + 1 → (k < slot) ⊎ (slot ≤ k) → IsSlotCell b k
    at k below (inl less) = before k less
    at k below (inr past) = subst (λ (s : ℕ). IsSlotCell b s) (last k below past) is

-- one of a slot is one of the page
pub one_slot : (b : List ℕ) (n slot : ℕ) → HasOne (IsSlotFinding b n slot)
    → HasOne (IsCellFinding b n)
one_slot b n slot one = (one.0, (slot, one.1))

pub decided_all : (b : List ℕ) (n count : ℕ) → slot_count b ≤ count → DecidedBelow b n count
    → HasOne (IsCellFinding b n) ⊎ HasCells b
decided_all b n count all (inl one) = inl one
decided_all b n count all (inr before) = inr (λ slot. at slot (cases_lt slot count))
  where
    at : (slot : ℕ) → (slot < count) ⊎ (count ≤ slot) → IsSlotCell b slot
    at slot (inl less) = before slot less
    at slot (inr past) = free_cell b slot (past_free b slot (omega (arith, all, past)))

-- a cell is no longer than its page
pub cell_short : (b : List ℕ) (slot : ℕ) (bytes : List ℕ) → IsDataPage b
    → cell_of b slot ≡ Some bytes → length bytes < 2 ^ 31
cell_short b slot bytes lawful there =
    let fits : taken_by (cell_of b slot) ≤ length b = taken_by_fits b slot lawful in
    let same : taken_by (cell_of b slot) ≡ taken_by (Some bytes) = ap taken_by there in
    let most : length b ≤ 16384 = lawful.greatest_size in
    omega (arith, fits, same, most)

-- cells that are spelled have no findings
pub none_of_cells : (b : List ℕ) (n : ℕ) → HasCells b → HasNone (IsCellFinding b n)
none_of_cells b n has f found = at (has found.0 found.1.bytes found.1.there)
  where
    at : IsCellOf false found.1.bytes → ⊥
    at (inl cell) =
        none_spelled b n found.0 found.1.bytes cell.0 found.1.there cell.1 f found.1
    at (inr primary) = absurd (let other = primary.0 in cc)
