-- Results of tasks, each of which answered Ok, and what they are one after another.
use Rattle.std.specs.Prelude.{◌≡◌, ◌⊎◌, ◌↔◌, ℕ, false, List, [], ◌∷◌, map, flat_map, Result, Ok, Err, IfOk, MatchResult}
use Rattle.std.proofs.Common.{refl, sym, ap, inl, inr, subst}
use Rattle.std.specs.List.{AllZip}
use Rattle.mg_base.specs.declared.damage.Damaged.{Damaged}
use Rattle.mg_check_data.specs.DataRung.{HasOne, IsDataFinding}
use Rattle.mg_check_data.specs.declared.data.DataSeat.{DataSeat}
use Rattle.mg_check_tables.specs.Seats.{AreSeats, AreWanted, IsSeatFinding}
use Rattle.mg_check_tables.specs.TableRung.{HasTable, IsTableFinding}
use Rattle.mg_check_tasks.specs.Tasks.{IsFoundOf}
use Rattle.mg_findings.specs.declared.finding.Finding.{Finding}
use Rattle.mg_findings.specs.Findings.{Adds, Has, IsListOf, Tells, damage_finding}
use Rattle.mg_findings.specs.FindingLaws.{has_append}
use Rattle.mg_findings.specs.RungLaws.{list_as}
use Rattle.mg_image.specs.Form.{Pages}
use Rattle.mg_image.specs.Sound.{IsTableData}

module _ {X Y : Type 0} (E : Type 0) (P : X → Y → Type 0) where
  all_ok : (xs : List X) (ys : List Y)
      → AllZip (λ (x : X) (r : Result Y E). IfOk r (P x)) xs (map (λ (y : Y). Ok y) ys)
      → AllZip P xs ys
  all_ok [] [] each = tt
  all_ok [] (y ∷ ys) each = absurd each
  all_ok (x ∷ xs) [] each = absurd each
  all_ok (x ∷ xs) (y ∷ ys) each = (each.0, all_ok xs ys each.1)

  pub if_ok : {V : Type 0} (items : V → List Y) (xs : List X) (rs : List (Result Y E))
      (r : Result V E) (Q : E → Type 0)
      → AllZip (λ (x : X) (a : Result Y E). IfOk a (P x)) xs rs
      → MatchResult r (λ v. (ys : List Y) × (rs ≡ map (λ (y : Y). Ok y) ys) × (items v ≡ ys)) Q
      → IfOk r (λ v. AllZip P xs (items v))
  if_ok items xs rs (Ok v) Q all (ys, are, same) = rw same (all_ok xs ys
      (subst (λ (l : List (Result Y E)). AllZip (λ (x : X) (a : Result Y E). IfOk a (P x)) xs l)
      are all))
  if_ok items xs rs (Err e) Q all at = tt

-- ---- what one task finds

-- what was added to nothing is what is found
pub found_of : (size : ℕ) (pages : Pages) (count : ℕ) (seat : DataSeat) (none found : List Finding)
    → none ≡ [] → Adds none found (IsDataFinding size pages count seat)
    → HasOne (IsDataFinding size pages count seat)
    ⊎ IsTableData false size pages seat.owner seat.place seat.page
    → IsFoundOf size pages count seat found
found_of size pages count seat none found empty adds decided = record {
  members = λ f. (
    λ has. elim ((adds f).0 has) [
      | inl before ↦ absurd (subst (λ (l : List Finding). Has l f) empty before)
      | inr is ↦ is
    ],
    λ is. (adds f).1 (inr is),
  );
  decided = decided;
}

-- ---- what all of them find

module _ (size : ℕ) (pages : Pages) (count : ℕ) {V : Type 0} (items : V → List Finding) where
  pub members_of : (seats : List DataSeat) (lists : List V)
      → AllZip (λ seat found. IsFoundOf size pages count seat (items found)) seats lists
      → (f : Finding)
      → Has (flat_map items lists) f ↔ IsSeatFinding size pages count seats f
  members_of [] [] each f = (λ has. has, λ found. found)
  members_of [] (list ∷ lists) each f = absurd each
  members_of (seat ∷ seats) [] each f = absurd each
  members_of (seat ∷ seats) (list ∷ lists) each f =
      let rest = members_of seats lists each.1 f in (
        λ has. elim ((has_append (items list) (flat_map items lists) f).0 has) [
          | inl here ↦ inl ((each.0.members f).0 here)
          | inr later ↦ inr (rest.0 later)
        ],
        λ found. (has_append (items list) (flat_map items lists) f).1 (elim found [
          | inl here ↦ inl ((each.0.members f).1 here)
          | inr later ↦ inr (rest.1 later)
        ]),
      )

  pub decided_of : (seats : List DataSeat) (lists : List V)
      → AllZip (λ seat found. IsFoundOf size pages count seat (items found)) seats lists
      → HasOne (IsSeatFinding size pages count seats) ⊎ AreWanted size pages seats
  decided_of [] [] each = inr tt
  decided_of [] (list ∷ lists) each = absurd each
  decided_of (seat ∷ seats) [] each = absurd each
  decided_of (seat ∷ seats) (list ∷ lists) each = elim each.0.decided [
    | inl one ↦ inl (one.0, inl one.1)
    | inr wanted ↦ elim (decided_of seats lists each.1) [
      | inl one ↦ inl (one.0, inr one.1)
      | inr others ↦ inr (wanted, others)
    ]
  ]

  pub members_in : (seats : List DataSeat) (lists : List V) (all : List Finding)
      → AllZip (λ seat list. IsFoundOf size pages count seat (items list)) seats lists
      → all ≡ flat_map items lists → (f : Finding)
      → Has all f ↔ IsSeatFinding size pages count seats f
  members_in seats lists all each is f =
      subst (λ (l : List Finding). Has l f ↔ IsSeatFinding size pages count seats f) (sym is)
      (members_of seats lists each f)

-- ---- a table

module _ (size : ℕ) (pages : Pages) (count holder first : ℕ) (seats : List DataSeat)
    (test : Result (Unit {0}) Damaged) (are : AreSeats size pages count holder first seats test) where
  -- what the data pages tell, and the damage of a pointer page
  pub table_list : (named : List DataSeat) (data_found all found : List Finding) → named ≡ seats
      → ((f : Finding) → Has data_found f ↔ IsSeatFinding size pages count named f)
      → Adds data_found all (Tells test) → IsListOf (Has all) found
      → IsListOf (IsTableFinding size pages count holder first) found
  table_list named data_found all found same members_ adds list =
      let members = subst (λ (s : List DataSeat). (f : Finding) → Has data_found f
      ↔ IsSeatFinding size pages count s f) same members_ in
      list_as (IsTableFinding size pages count holder first) all found list (λ f. (
        λ has. (are.members f).1 (elim ((adds f).0 has) [
          | inl there ↦ inr ((members f).0 there)
          | inr told ↦ inl told
        ]),
        λ is. (adds f).1 (elim ((are.members f).0 is) [
          | inl told ↦ inr told
          | inr seat ↦ inl ((members f).1 seat)
        ]),
      ))

  by_test : AreWanted size pages seats
      → HasOne (IsTableFinding size pages count holder first) ⊎ HasTable size pages first
  by_test wanted = at test refl
    where
      at : (t : Result (Unit {0}) Damaged) → test ≡ t
          → HasOne (IsTableFinding size pages count holder first) ⊎ HasTable size pages first
      at (Ok _) is = inr (are.decided is wanted)
      at (Err damage) is = inl (
        damage_finding damage,
        (are.members (damage_finding damage)).1
            (inl (subst (λ (t : Result (Unit {0}) Damaged). Tells t (damage_finding damage)) (sym is) refl)),
      )

  pub table_decided : (named : List DataSeat) → named ≡ seats
      → HasOne (IsSeatFinding size pages count named) ⊎ AreWanted size pages named
      → HasOne (IsTableFinding size pages count holder first) ⊎ HasTable size pages first
  table_decided named same which = decided (subst (λ (s : List DataSeat).
      HasOne (IsSeatFinding size pages count s) ⊎ AreWanted size pages s) same which)
    where
      decided : HasOne (IsSeatFinding size pages count seats) ⊎ AreWanted size pages seats
          → HasOne (IsTableFinding size pages count holder first) ⊎ HasTable size pages first
      decided (inl one) = inl (one.0, (are.members one.0).1 (inr one.1))
      decided (inr wanted) = by_test wanted
