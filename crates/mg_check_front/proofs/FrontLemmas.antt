-- The list of the first rung that has findings, and the law of the three.
use Rattle.std.specs.Prelude.{◌≡◌, ◌↔◌, ◌<◌, ◌≤◌, ℕ, List, [], ◌∷◌, Result, Ok, Err, length}
use Rattle.std.proofs.Common.{refl, sym, ap, ◌∙◌, inl, inr, subst, arith}
use Rattle.mg_base.specs.Image.{Image, page_at}
use Rattle.mg_base.specs.declared.damage.Damaged.{Damaged}
use Rattle.mg_check_inventory.specs.InventoryRung.{InventoryLaw, IsInventoryFinding}
use Rattle.mg_check_inventory.specs.TransactionRung.{IsTransactionFinding, TransactionLaw}
use Rattle.mg_check_pages.specs.PageTests.{HeaderLaw, header_test}
use Rattle.mg_findings.specs.declared.finding.Finding.{Finding}
use Rattle.mg_findings.specs.Findings.{HasNone, IsListOf, OfFirst, Tells, damage_finding}
use Rattle.mg_findings.specs.RungLaws.{empty_is_none, list_of_next, list_of_rung, none_from_passed, none_of_rungs, passed_from_none}
use Rattle.mg_limbo_list.specs.Limbo.{IsHeaderFinding}
use Rattle.mg_check_front.specs.Front.{FrontLaw, IsFirstFinding}

module _ (size : ℕ) (image : Image) where
  abbrev Header : Finding → Type 0
  Header = IsHeaderFinding size image

  abbrev Inventory : Finding → Type 0
  Inventory = IsInventoryFinding size (page_at size image)

  abbrev Transactions : Finding → Type 0
  Transactions = IsTransactionFinding size image

  -- a header that passes has no finding
  none_of_header : (test : Result (Unit {0}) Damaged) → test ≡ Ok tt
      → test ≡ header_test (page_at size image 0) size → HasNone Header
  none_of_header test passed is =
      none_from_passed (header_test (page_at size image 0) size) (sym is ∙ passed)

  -- one that does not has one
  header_found : (test : Result (Unit {0}) Damaged) (damage : Damaged) → test ≡ Err damage
      → test ≡ header_test (page_at size image 0) size → (f : Finding)
      → (f ≡ damage_finding damage) ↔ Header f
  header_found test damage told is f = (
    λ same. subst (λ (t : Result (Unit {0}) Damaged). Tells t f) (sym told ∙ is) same,
    λ found. subst (λ (t : Result (Unit {0}) Damaged). Tells t f) (sym is ∙ told) found,
  )

  pub header_list : (test : Result (Unit {0}) Damaged) (damage : Damaged) (fs : List Finding)
      → test ≡ Err damage → test ≡ header_test (page_at size image 0) size
      → fs ≡ damage_finding damage ∷ [] → IsListOf (IsFirstFinding size image) fs
  header_list test damage fs told is one = subst (IsListOf (IsFirstFinding size image)) (sym one)
      (list_of_rung Header (OfFirst Inventory Transactions) (damage_finding damage ∷ [])
      (λ none. absurd cc) (record {
        ascend = (tt, tt);
        members = λ f. (
          λ has. elim has [
            | inl same ↦ (header_found test damage told is f).0 same
            | inr none ↦ absurd none
          ],
          λ found. inl ((header_found test damage told is f).1 found),
        );
      }))

  pub header_cause : (test : Result (Unit {0}) Damaged) (damage : Damaged) → test ≡ Err damage
      → test ≡ header_test (page_at size image 0) size → HasNone (IsFirstFinding size image) → ⊥
  header_cause test damage told is none = none (damage_finding damage)
      (inl ((header_found test damage told is (damage_finding damage)).0 refl))

  -- the next rung
  pub inventory_list : (test : Result (Unit {0}) Damaged) (fs : List Finding) → test ≡ Ok tt
      → test ≡ header_test (page_at size image 0) size → IsListOf Inventory fs → 0 < length fs
      → IsListOf (IsFirstFinding size image) fs
  inventory_list test fs passed is list some = list_of_next Header (OfFirst Inventory Transactions) fs
      (none_of_header test passed is) (list_of_rung Inventory Transactions fs
      (λ empty. let long = ap length empty in omega (arith, long, some)) list)

  pub inventory_cause : (test : Result (Unit {0}) Damaged) → test ≡ Ok tt
      → test ≡ header_test (page_at size image 0) size → (HasNone Inventory → ⊥)
      → HasNone (IsFirstFinding size image) → ⊥
  inventory_cause test passed is cause none = cause (λ f found. none f
      (inr (none_of_header test passed is, inl found)))

  -- and the last of the three
  no_inventory : (fs : List Finding) → IsListOf Inventory fs → length fs ≤ 0 → HasNone Inventory
  no_inventory [] list none = (empty_is_none Inventory [] list).0 refl
  no_inventory (f ∷ fs) list none = absurd (omega (arith, none))

  pub transaction_list : (test : Result (Unit {0}) Damaged) (before fs : List Finding) → test ≡ Ok tt
      → test ≡ header_test (page_at size image 0) size → IsListOf Inventory before
      → length before ≤ 0 → IsListOf Transactions fs → IsListOf (IsFirstFinding size image) fs
  transaction_list test before fs passed is first none list = list_of_next Header
      (OfFirst Inventory Transactions) fs (none_of_header test passed is)
      (list_of_next Inventory Transactions fs (no_inventory before first none) list)

  pub transaction_cause : (test : Result (Unit {0}) Damaged) (before : List Finding) → test ≡ Ok tt
      → test ≡ header_test (page_at size image 0) size → IsListOf Inventory before
      → length before ≤ 0 → (HasNone Transactions → ⊥) → HasNone (IsFirstFinding size image) → ⊥
  transaction_cause test before passed is first empty cause none = cause (λ f found. none f
      (inr (none_of_header test passed is, inr (no_inventory before first empty, found))))

-- ---- the law

pub front_law : HeaderLaw → InventoryLaw → TransactionLaw → FrontLaw
front_law header inventory transactions size image whole = (
  λ none.
      let first = (none_of_rungs (IsHeaderFinding size image)
      (OfFirst (IsInventoryFinding size (page_at size image)) (IsTransactionFinding size image))).0 none in
      let rest = (none_of_rungs (IsInventoryFinding size (page_at size image))
      (IsTransactionFinding size image)).0 first.1 in
      let passes = (header (page_at size image 0) size).0
      (passed_from_none (header_test (page_at size image 0) size) first.0) in
      let drawn = (transactions size image whole passes.1).0 rest.1 in (
        record {
          lawful_size = whole.lawful;
          whole = whole.whole;
          database = passes.0;
          fields = passes.1;
          used = drawn.0;
        },
        (inventory size (page_at size image)).0 rest.0,
        drawn.1,
      ),
  λ has. (none_of_rungs (IsHeaderFinding size image)
      (OfFirst (IsInventoryFinding size (page_at size image)) (IsTransactionFinding size image))).1 (
        none_from_passed (header_test (page_at size image 0) size)
            ((header (page_at size image 0) size).1 (has.0.database, has.0.fields)),
        (none_of_rungs (IsInventoryFinding size (page_at size image))
            (IsTransactionFinding size image)).1 (
              (inventory size (page_at size image)).1 has.1,
              (transactions size image whole has.0.fields).1 (has.0.used, has.2),
            ),
      ),
)
