-- What is found of the data pages that a pointer page names, one entry after another.
use Rattle.std.specs.Prelude.{◌≡◌, ◌⊎◌, ◌<◌, ◌≤◌, ◌+◌, ℕ, false, List}
use Rattle.std.proofs.Common.{sym, ap, ◌∙◌, inl, inr, arith, subst}
use Rattle.std.proofs.lemmas.Bool.{cases_lt}
use Rattle.mg_base.specs.Fields.{u32_at}
use Rattle.mg_check_data.specs.DataRung.{HasOne, IsDataFinding}
use Rattle.mg_check_data.specs.declared.data.DataSeat.{DataSeat}
use Rattle.mg_check_tables.specs.TableRung.{HasEntries, IsEntryBelow, IsEntryFinding, seat_of}
use Rattle.mg_findings.specs.declared.finding.Finding.{Finding}
use Rattle.mg_findings.specs.Findings.{Adds, Has}
use Rattle.mg_image.specs.Form.{Pages}
use Rattle.mg_image.specs.Sound.{IsTableData}
use Rattle.mg_pointer.specs.PointerPage.{count_in, place_of}

-- the seat of an entry by its fields
pub seat_is : (pages : Pages) (b : List ℕ) (owner n place i : ℕ) (seat : DataSeat) → b ≡ pages n
    → seat.holder ≡ n → seat.page ≡ u32_at b (place_of i) → seat.owner ≡ owner
    → seat.place ≡ place + i → seat ≡ seat_of pages owner n place i
seat_is pages b owner n place i seat same holder page own at =
    let named : seat.page ≡ u32_at (pages n) (place_of i) =
    page ∙ ap (λ (p : List ℕ). u32_at p (place_of i)) same in
    λ k. record { holder = holder k; page = named k; owner = own k; place = at k }

-- ---- one entry after another

pub adds_none : (size : ℕ) (pages : Pages) (count owner n place : ℕ) (fs : List Finding)
    → Adds fs fs (IsEntryBelow size pages count owner n place 0)
adds_none size pages count owner n place fs f = (
  λ has. inl has,
  λ has. elim has [
    | inl first ↦ first
    | inr found ↦ absurd (omega (arith, found.1))
  ],
)

pub adds_entry : (size : ℕ) (pages : Pages) (count owner n place i : ℕ) (seat : DataSeat)
    (old now new : List Finding) → seat ≡ seat_of pages owner n place i
    → Adds old now (IsEntryBelow size pages count owner n place i)
    → Adds now new (IsDataFinding size pages count seat)
    → Adds old new (IsEntryBelow size pages count owner n place (i + 1))
adds_entry size pages count owner n place i seat old now new same before here f = (
  λ has. elim ((here f).0 has) [
    | inl there ↦ elim ((before f).0 there) [
      | inl first ↦ inl first
      | inr found ↦ inr (found.0, omega (arith, found.1), found.2)
    ]
    | inr found ↦ inr (
      i,
      omega arith,
      subst (λ (s : DataSeat). IsDataFinding size pages count s f) same found,
    )
  ],
  λ has. elim has [
    | inl first ↦ (here f).1 (inl ((before f).1 (inl first)))
    | inr found ↦ at found (cases_lt found.0 i)
  ],
)
  where
    last : (k : ℕ) → k < i + 1 → i ≤ k → k ≡ i
    last k below past = omega arith

    at : (found : IsEntryBelow size pages count owner n place (i + 1) f)
        → (found.0 < i) ⊎ (i ≤ found.0) → Has new f
    at found (inl less) = (here f).1 (inl ((before f).1 (inr (found.0, less, found.2))))
    at found (inr past) = (here f).1 (inr
        (subst (λ (s : DataSeat). IsDataFinding size pages count s f) (sym same)
        (subst (λ (k : ℕ). IsDataFinding size pages count (seat_of pages owner n place k) f)
        (last found.0 found.1 past) found.2)))

-- those below the last one are all
pub adds_all : (size : ℕ) (pages : Pages) (count owner n place entries : ℕ) (old new : List Finding)
    → count_in (pages n) ≤ entries → entries ≤ count_in (pages n)
    → Adds old new (IsEntryBelow size pages count owner n place entries)
    → Adds old new (IsEntryFinding size pages count owner n place)
adds_all size pages count owner n place entries old new most least adds =
    subst (λ (k : ℕ). Adds old new (IsEntryBelow size pages count owner n place k)) same adds
  where
    same : entries ≡ count_in (pages n)
    same = omega (arith, most, least)

-- ---- whether something is found

-- of the entries below one
abbrev pub DecidedBelow : ℕ → Pages → ℕ → ℕ → ℕ → ℕ → ℕ → Type 0
DecidedBelow size pages count owner n place entries =
    HasOne (IsEntryFinding size pages count owner n place)
    ⊎ ((i : ℕ) → i < entries
    → IsTableData false size pages owner (place + i) (u32_at (pages n) (place_of i)))

pub decided_none : (size : ℕ) (pages : Pages) (count owner n place : ℕ)
    → DecidedBelow size pages count owner n place 0
decided_none size pages count owner n place = inr (λ i below. absurd (omega (arith, below)))

pub decided_entry : (size : ℕ) (pages : Pages) (count owner n place i : ℕ) (seat : DataSeat)
    → i < count_in (pages n) → seat ≡ seat_of pages owner n place i
    → DecidedBelow size pages count owner n place i
    → HasOne (IsDataFinding size pages count seat)
    ⊎ IsTableData false size pages seat.owner seat.place seat.page
    → DecidedBelow size pages count owner n place (i + 1)
decided_entry size pages count owner n place i seat inside same (inl one) here = inl one
decided_entry size pages count owner n place i seat inside same (inr before) (inl one) = inl (
  one.0,
  (i, inside, subst (λ (s : DataSeat). IsDataFinding size pages count s one.0) same one.1),
)
decided_entry size pages count owner n place i seat inside same (inr before) (inr is) =
    inr (λ k below. at k below (cases_lt k i))
  where
    last : (k : ℕ) → k < i + 1 → i ≤ k → i ≡ k
    last k below past = omega arith

    moved : IsTableData false size pages owner (place + i) (u32_at (pages n) (place_of i))
    moved = subst (λ (s : DataSeat). IsTableData false size pages s.owner s.place s.page) same is

    at : (k : ℕ) → k < i + 1 → (k < i) ⊎ (i ≤ k)
        → IsTableData false size pages owner (place + k) (u32_at (pages n) (place_of k))
    at k below (inl less) = before k less
    at k below (inr past) = subst (λ (j : ℕ).
        IsTableData false size pages owner (place + j) (u32_at (pages n) (place_of j)))
        (last k below past) moved

pub decided_all : (size : ℕ) (pages : Pages) (count owner n place entries : ℕ)
    → count_in (pages n) ≤ entries → DecidedBelow size pages count owner n place entries
    → HasOne (IsEntryFinding size pages count owner n place)
    ⊎ HasEntries size pages owner n place
decided_all size pages count owner n place entries all (inl one) = inl one
decided_all size pages count owner n place entries all (inr is) =
    inr (λ i below. is i (omega (arith, all, below)))

-- one of an entry is one of the page
pub one_entry : (size : ℕ) (pages : Pages) (count owner n place i : ℕ) (seat : DataSeat)
    → i < count_in (pages n) → seat ≡ seat_of pages owner n place i
    → HasOne (IsDataFinding size pages count seat)
    → HasOne (IsEntryFinding size pages count owner n place)
one_entry size pages count owner n place i seat inside same one = (
  one.0,
  (i, inside, subst (λ (s : DataSeat). IsDataFinding size pages count s one.0) same one.1),
)
