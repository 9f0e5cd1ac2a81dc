-- A list of cells, none twice, is no longer than there are places.
use Rattle.std.proofs.Common.{◌≡◌, ◌≢◌, ◌⊎◌, inl, inr, ◌+◌, ◌*◌, ◌<◌, ◌≤◌, ◌^◌, sym, ℕ, true, false, List, [], ◌∷◌, length, map, arith}
use Rattle.std.specs.List.{AllByRecursion, IsDistinct, list_any}
use Rattle.std.proofs.lemmas.Bool.{cases_eq, ne_eqb}
use Rattle.std.proofs.lemmas.List.{length-map}
use Rattle.std.proofs.lemmas.Map.Steps.{length-le_from_distinct_below}
use Rattle.std.specs.Prelude.{eqb}
use Rattle.mg_image.specs.declared.entry.Entry.{Entry}
use Rattle.mg_image.specs.RecordRules.{AreOnce, Each}
use Rattle.mg_image.specs.Records.{Stands}
use Rattle.mg_reading.specs.OneTable.{IsPlaced}

-- a place as a number
abbrev number_of : Entry → ℕ
number_of e = e.at.page.0 * 65536 + e.at.slot

numbers_differ : (d e : Entry) → IsPlaced d → IsPlaced e → (d.at ≡ e.at → ⊥)
    → number_of d ≢ number_of e
numbers_differ d e first second other same = other (place (pages_same d.at.page.0 d.at.slot
    e.at.page.0 e.at.slot first.1 second.1 same) (slots_same d.at.page.0 d.at.slot
    e.at.page.0 e.at.slot first.1 second.1 same))
  where
    pages_same : (p s q t : ℕ) → s < 2 ^ 16 → t < 2 ^ 16 → p * 65536 + s ≡ q * 65536 + t → p ≡ q
    pages_same p s q t below under same = omega arith

    slots_same : (p s q t : ℕ) → s < 2 ^ 16 → t < 2 ^ 16 → p * 65536 + s ≡ q * 65536 + t → s ≡ t
    slots_same p s q t below under same = omega arith

    place : d.at.page.0 ≡ e.at.page.0 → d.at.slot ≡ e.at.slot → d.at ≡ e.at
    place page slot = λ i. record { page = record { 0 = page i }; slot = slot i }

apart : (d : Entry) (es : List Entry) → (Stands es d.at → ⊥) → IsPlaced d → Each IsPlaced es
    → AllByRecursion (λ (y : ℕ). eqb (number_of d) y ≡ false) (map number_of es)
apart d [] none first all = tt
apart d (e ∷ es) none first all = (
  ne_eqb (number_of d) (number_of e)
      (numbers_differ d e first all.0 (λ same. none (inl (sym same)))),
  apart d es (λ later. none (inr later)) first all.1,
)

distinct : (es : List Entry) → AreOnce es → Each IsPlaced es
    → IsDistinct eqb (map number_of es)
unfolding IsDistinct
distinct [] once all = tt
distinct (e ∷ es) once all = (apart e es once.0 all.0 all.1, distinct es once.1 all.1)

below : (es : List Entry) → Each IsPlaced es → (q : ℕ)
    → list_any (eqb q) (map number_of es) ≡ true → q < 2 ^ 33
below [] all q has = absurd cc
below (e ∷ es) all q has = at (cases_eq q (number_of e)) (λ later. below es all.1 q later)
  where
    small : (p s : ℕ) → p < 131072 → s < 2 ^ 16 → p * 65536 + s < 2 ^ 33
    small p s page slot = omega arith

    at : (q ≡ number_of e) ⊎ (q ≢ number_of e)
        → (list_any (eqb q) (map number_of es) ≡ true → q < 2 ^ 33) → q < 2 ^ 33
    at (inl same) later = rw same (small e.at.page.0 e.at.slot all.0.0 all.0.1)
    at (inr other) later = later (rw (ne_eqb q (number_of e) other) at has)

-- versions whose cells differ are at most as many as places
pub once_short : (es : List Entry) → AreOnce es → Each IsPlaced es → length es ≤ 2 ^ 33
once_short es once all = rw length-map at
    (length-le_from_distinct_below (map number_of es) (2 ^ 33) (distinct es once all) (below es all))
