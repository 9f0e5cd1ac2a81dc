-- What is found of a data page as a whole, and that a lawful one has no finding.
use Rattle.std.specs.Prelude.{◌≡◌, ◌≢◌, ◌↔◌, ◌⊎◌, ◌<◌, ◌≤◌, ◌-◌, ℕ, zero, suc, true, false, List, Result, Ok, Err, IfErr, IsOk, OnOk, is_ok, length, min}
use Rattle.std.proofs.Common.{refl, sym, ap, ◌∙◌, inl, inr, arith, subst}
use Rattle.std.proofs.lemmas.Bool.{cases_eq, cases_lt, ne_eqb}
use Rattle.std.proofs.lemmas.List.{get_or_past}
use Rattle.mg_base.specs.Checks.{PassesAll, common_checks, verdict}
use Rattle.mg_base.specs.CheckLaws.{passes_from_verdict, verdict_from_passes}
use Rattle.mg_base.specs.Fields.{byte}
use Rattle.mg_base.specs.Image.{Image, blank, page_at}
use Rattle.mg_base.specs.declared.damage.Damaged.{Damaged}
use Rattle.mg_base.specs.declared.geometry.TheConstants.{GREATEST_LIMIT}
use Rattle.mg_base.specs.declared.memory.Memory.{Memory}
use Rattle.mg_check_data.proofs.CellLemmas.{none_of_cells}
use Rattle.mg_check_data.specs.DataRung.{DataLaw, HasCells, HasOne, IsCellFinding, IsDataFinding, IsFieldFinding, IsPageFinding, IsThereFinding, IsWantedData, IsWholeFinding}
use Rattle.mg_check_data.specs.declared.data.DataSeat.{DataSeat}
use Rattle.mg_check_inventory.specs.ImagePages.{IsWholeImage, bit_checks, bit_number, lawful_link, link_checks, numbered, presence_checks}
use Rattle.mg_check_inventory.specs.TestLaws.{bit_is_set, none_where_passed, none_where_passes, set_is_one}
use Rattle.mg_findings.specs.declared.finding.Finding.{Finding}
use Rattle.mg_findings.specs.Findings.{Adds, Has, HasNone, OfFirst, Tells, damage_finding}
use Rattle.mg_findings.specs.RungLaws.{none_of_rungs}
use Rattle.mg_header.specs.HeaderPage.{page_checks}
use Rattle.mg_image.specs.Form.{Pages}
use Rattle.mg_image.specs.Inventory.{is_used}
use Rattle.mg_image.specs.Sound.{IsTableData}
use Rattle.mg_slots.specs.declared.page.TheConstants.{DATA_KIND}
use Rattle.mg_slots.specs.Damage.{IsFirstDamage}
use Rattle.mg_slots.specs.DamageLaws.{damaged_is_not_lawful, first_damage_is_one}
use Rattle.mg_slots.specs.DataPage.{IsDataPage}
use Rattle.mg_slots.specs.Verdict.{common_verdict}

-- ---- the fields

-- what the test of the fields tells
pub field_tells : (b : List ℕ) (seat : DataSeat) (test : Result (Unit {0}) Damaged)
    → OnOk test ((common_verdict b (numbered seat.page) DATA_KIND seat.owner seat.place ≡ Ok tt)
    × IsDataPage b)
    → IfErr test (λ e. IsFirstDamage b (numbered seat.page) seat.owner seat.place e) → (f : Finding)
    → Tells test f ↔ IsFieldFinding b seat f
field_tells b seat (Ok _) passed damaged f = (
  λ none. absurd none,
  λ found. absurd (damaged_is_not_lawful b (numbered seat.page) seat.owner seat.place found.0 found.1
      passed.0 passed.1),
)
field_tells b seat (Err damage) passed damaged f = (
  λ is. (damage, damaged, is),
  λ found. found.2 ∙ ap damage_finding (first_damage_is_one b (numbered seat.page) seat.owner
      seat.place found.0 damage found.1 damaged),
)

-- what a test says where it passes
pub ok_says : (test : Result (Unit {0}) Damaged) (P : Type 0) → IsOk test ↔ P → OnOk test P
ok_says (Ok _) P same = same.0 refl
ok_says (Err damage) P same = tt

-- the same of a page of an image
pub field_tells_of : (b : List ℕ) (pages : Pages) (seat : DataSeat)
    (test : Result (Unit {0}) Damaged) → b ≡ pages seat.page
    → IsOk test ↔ ((common_verdict b (numbered seat.page) DATA_KIND seat.owner seat.place ≡ Ok tt)
    × IsDataPage b)
    → IfErr test (λ e. IsFirstDamage b (numbered seat.page) seat.owner seat.place e) → (f : Finding)
    → Tells test f ↔ IsFieldFinding (pages seat.page) seat f
field_tells_of b pages seat test same passed damaged f =
    subst (λ (p : List ℕ). Tells test f ↔ IsFieldFinding p seat f) same
    (field_tells b seat test (ok_says test ((common_verdict b (numbered seat.page) DATA_KIND
    seat.owner seat.place ≡ Ok tt) × IsDataPage b) passed) damaged f)

-- a page whose tests pass is as wanted
pub wanted_passed : (size : ℕ) (pages : Pages) (b : List ℕ) (seat : DataSeat)
    (test bit : Result (Unit {0}) Damaged) → seat.page < GREATEST_LIMIT → b ≡ pages seat.page
    → IsOk test ↔ ((common_verdict b (numbered seat.page) DATA_KIND seat.owner seat.place ≡ Ok tt)
    × IsDataPage b) → test ≡ Ok tt
    → bit ≡ verdict (numbered seat.page) (bit_checks size pages seat.page)
    → OnOk bit (IsWantedData size pages seat.owner seat.place seat.page)
wanted_passed size pages b seat test (Ok _) below same when passed is =
    let both = when.0 (ap is_ok passed) in
    record {
      wanted = record {
        below = below;
        used = bit_is_set (is_used size pages seat.page)
            (passes_from_verdict (numbered seat.page) (bit_checks size pages seat.page) (sym is)).0;
        fields = subst (λ (p : List ℕ).
            PassesAll (common_checks p seat.page DATA_KIND seat.owner seat.place)) same
            (passes_from_verdict (numbered seat.page)
            (common_checks b seat.page DATA_KIND seat.owner seat.place) both.0);
      };
      lawful = subst (λ (p : List ℕ). IsDataPage p) same both.1;
    }
wanted_passed size pages b seat test (Err damage) below same when passed is = tt

-- ---- the page with its cells

-- where something is found of the page as a whole, this is all
pub adds_whole : (P Q : Finding → Type 0) (old new : List Finding) (damage : Damaged)
    (test : Result (Unit {0}) Damaged) → test ≡ Err damage → ((f : Finding) → Tells test f ↔ P f)
    → Adds old new (Tells (Err damage)) → Adds old new (OfFirst P Q)
adds_whole P Q old new damage test is same adds f = (
  λ has. elim ((adds f).0 has) [
    | inl first ↦ inl first
    | inr told ↦ inr (inl ((same f).0 (moved f told)))
  ],
  λ has. elim has [
    | inl first ↦ (adds f).1 (inl first)
    | inr found ↦ elim found [
      | inl here ↦ (adds f).1 (inr (back f ((same f).1 here)))
      | inr later ↦ absurd (later.0 (damage_finding damage)
          ((same (damage_finding damage)).0 (moved (damage_finding damage) refl)))
    ]
  ],
)
  where
    moved : (g : Finding) → Tells (Err damage) g → Tells test g
    moved g told = subst (λ (t : Result (Unit {0}) Damaged). Tells t g) (sym is) told

    back : (g : Finding) → Tells test g → Tells (Err damage) g
    back g told = subst (λ (t : Result (Unit {0}) Damaged). Tells t g) is told

-- else what is found next is
pub adds_next : (P Q : Finding → Type 0) (old new : List Finding) → HasNone P → Adds old new Q
    → Adds old new (OfFirst P Q)
adds_next P Q old new none adds f = (
  λ has. elim ((adds f).0 has) [
    | inl first ↦ inl first
    | inr is ↦ inr (inr (none, is))
  ],
  λ has. elim has [
    | inl first ↦ (adds f).1 (inl first)
    | inr found ↦ elim found [
      | inl here ↦ absurd (none f here)
      | inr later ↦ (adds f).1 (inr later.1)
    ]
  ],
)

-- something is found of the page as a whole
pub one_whole : (P Q : Finding → Type 0) (damage : Damaged) (test : Result (Unit {0}) Damaged)
    → test ≡ Err damage → ((f : Finding) → Tells test f ↔ P f) → HasOne (OfFirst P Q)
one_whole P Q damage test is same = (
  damage_finding damage,
  inl ((same (damage_finding damage)).0
      (subst (λ (t : Result (Unit {0}) Damaged). Tells t (damage_finding damage)) (sym is) refl)),
)

-- or of its cells
pub one_next : (P Q : Finding → Type 0) → HasNone P → HasOne Q → HasOne (OfFirst P Q)
one_next P Q none one = (one.0, inr (none, one.1))

-- or nothing, and then the page is as a sound image asks it
pub decided_data : (size : ℕ) (pages : Pages) (count : ℕ) (seat : DataSeat)
    → HasNone (IsWholeFinding size pages count seat)
    → IsWantedData size pages seat.owner seat.place seat.page
    → HasOne (IsCellFinding (pages seat.page) seat.page) ⊎ HasCells (pages seat.page)
    → HasOne (IsDataFinding size pages count seat)
    ⊎ IsTableData false size pages seat.owner seat.place seat.page
decided_data size pages count seat none wanted (inl one) = inl (one_next
    (IsWholeFinding size pages count seat) (IsCellFinding (pages seat.page) seat.page) none one)
decided_data size pages count seat none wanted (inr cells) = inr (record {
  wanted = wanted.wanted;
  lawful = wanted.lawful;
  cells = cells;
})

-- ---- what a call says where it passes

on_ok : (call : Result (Unit {0}) Memory) (P Q : Type 0) → (P → Q) → OnOk call P → OnOk call Q
on_ok (Ok _) P Q says is = says is
on_ok (Err e) P Q says is = tt

pub whole_adds : (P Q : Finding → Type 0) (old new : List Finding) (damage : Damaged)
    (test : Result (Unit {0}) Damaged) (call : Result (Unit {0}) Memory) → test ≡ Err damage
    → ((f : Finding) → Tells test f ↔ P f) → OnOk call (Adds old new (Tells (Err damage)))
    → OnOk call (Adds old new (OfFirst P Q))
whole_adds P Q old new damage test call is same adds =
    on_ok call (Adds old new (Tells (Err damage))) (Adds old new (OfFirst P Q))
    (λ here. adds_whole P Q old new damage test is same here) adds

module _ (size : ℕ) (pages : Pages) (count : ℕ) (seat : DataSeat) (b : List ℕ)
    (test : Result (Unit {0}) Damaged) (same : b ≡ pages seat.page) (passed : test ≡ Ok tt)
    (tells : (f : Finding) → Tells test f ↔ IsWholeFinding size pages count seat f) where
  none_whole : HasNone (IsWholeFinding size pages count seat)
  none_whole = none_where_passed (IsWholeFinding size pages count seat) test passed tells

  pub cells_adds : (old new : List Finding) (call : Result (Unit {0}) Memory)
      → OnOk call (Adds old new (IsCellFinding b seat.page))
      → OnOk call (Adds old new (IsDataFinding size pages count seat))
  cells_adds old new call adds = on_ok call (Adds old new (IsCellFinding b seat.page))
      (Adds old new (IsDataFinding size pages count seat))
      (λ here. adds_next (IsWholeFinding size pages count seat)
      (IsCellFinding (pages seat.page) seat.page) old new none_whole
      (subst (λ (p : List ℕ). Adds old new (IsCellFinding p seat.page)) same here)) adds

  pub cells_one : HasOne (IsCellFinding b seat.page)
      → HasOne (IsDataFinding size pages count seat)
  cells_one one = one_next (IsWholeFinding size pages count seat)
      (IsCellFinding (pages seat.page) seat.page) none_whole
      (subst (λ (p : List ℕ). HasOne (IsCellFinding p seat.page)) same one)

  pub cells_decided : IsWantedData size pages seat.owner seat.place seat.page
      → HasOne (IsCellFinding b seat.page) ⊎ HasCells b
      → HasOne (IsDataFinding size pages count seat)
      ⊎ IsTableData false size pages seat.owner seat.place seat.page
  cells_decided wanted decided = decided_data size pages count seat none_whole wanted
      (subst (λ (p : List ℕ). HasOne (IsCellFinding p seat.page) ⊎ HasCells p) same decided)

-- ---- the law

data_kind : (b : List ℕ) (n owner at : ℕ) → PassesAll (common_checks b n DATA_KIND owner at)
    → byte b 0 ≡ DATA_KIND
unfolding common_checks
data_kind b n owner at passes = passes.0

header_kind : (b : List ℕ) → PassesAll (page_checks b) → byte b 0 ≡ 1
unfolding common_checks
header_kind b passes = passes.0

blank_kind : (size : ℕ) → byte (blank size) 0 ≡ 0
blank_kind zero = refl
blank_kind (suc size) = refl

-- it is not the header page
data_some : (pages : Pages) (n owner at : ℕ) → PassesAll (page_checks (pages 0))
    → PassesAll (common_checks (pages n) n DATA_KIND owner at) → n ≢ 0
data_some pages n owner at header passes is =
    let one = header_kind (pages 0) header in
    let five = data_kind (pages n) n owner at passes in
    let same : byte (pages n) 0 ≡ byte (pages 0) 0 = ap (λ (m : ℕ). byte (pages m) 0) is in
    omega (arith, one, five, same)

-- and it is there
data_there : (size : ℕ) (image : Image) (n owner at : ℕ)
    → PassesAll (common_checks (page_at size image n) n DATA_KIND owner at) → n < length image
data_there size image n owner at passes = within (cases_lt n (length image))
  where
    none : page_at size image n ≡ blank size → ⊥
    none is =
        let five = data_kind (page_at size image n) n owner at passes in
        let same : byte (page_at size image n) 0 ≡ byte (blank size) 0 =
        ap (λ (b : List ℕ). byte b 0) is in
        let nothing = blank_kind size in
        omega (arith, five, same, nothing)

    within : (n < length image) ⊎ (length image ≤ n) → n < length image
    within (inl inside) = inside
    within (inr past) = absurd (none (get_or_past image n (blank size) past))

-- a link that leads to neither end is lawful
lawful_some : (n : ℕ) → n ≢ 0 → n < GREATEST_LIMIT → n ≡ lawful_link n
lawful_some n some below =
    let at : lawful_link n ≡ min n (GREATEST_LIMIT - 1) = rw (ne_eqb n 0 some) refl in
    omega (arith, at, below)

pub data_law : DataLaw
data_law size image whole header seat is =
    let pages = page_at size image in
    let n = seat.page in
    let some = data_some pages n seat.owner seat.place header is.wanted.fields in
    let there = data_there size image n seat.owner seat.place is.wanted.fields in
    (none_of_rungs (IsWholeFinding size pages (length image) seat) (IsCellFinding (pages n) n)).1 (
      (none_of_rungs (Tells (verdict (numbered seat.holder) (link_checks n)))
          (IsThereFinding size pages (length image) seat)).1 (
            none_where_passes (numbered seat.holder) (link_checks n)
                (lawful_some n some is.wanted.below, tt),
            (none_of_rungs (Tells (verdict (numbered n) (presence_checks (length image) n)))
                (IsPageFinding size pages seat)).1 (
                  none_where_passes (numbered n) (presence_checks (length image) n)
                      (omega (arith, there), tt),
                  (none_of_rungs (IsFieldFinding (pages n) seat)
                      (Tells (verdict (numbered n) (bit_checks size pages n)))).1 (
                        λ f found. damaged_is_not_lawful (pages n) (numbered n) seat.owner seat.place found.0
                            found.1 (verdict_from_passes (numbered n)
                            (common_checks (pages n) n DATA_KIND seat.owner seat.place) is.wanted.fields)
                            is.lawful,
                        none_where_passes (numbered n) (bit_checks size pages n)
                            (set_is_one (is_used size pages n) is.wanted.used, tt),
                      ),
                ),
          ),
      none_of_cells (pages n) n is.cells,
    )
