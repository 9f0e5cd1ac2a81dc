-- A change repeats an earlier one exactly where its place repeats.
use Rattle.std.specs.Prelude.{◌≡◌, ℕ, suc, ◌-◌, ◌<◌, ◌≤◌, ◌==◌, ◌&&◌, ◌||◌, nat_le, Bool, true, false, List, [], ◌∷◌, length, take, map, refl}
use Rattle.std.proofs.Common.{sym, ◌∙◌, ap, arith}
use Rattle.std.proofs.lemmas.Bool.{false≢true, eqb-true, eq-eqb, leb-true, leb-false}
use Rattle.std.proofs.lemmas.Cmp.{nat_list_cmp_total, tied_itself}
use Rattle.std.specs.List.{list_any}
use Rattle.std.specs.Ordering.{is_eq}
use Rattle.std.specs.declared.cmp.Ordering.{Ordering}
use Rattle.std.specs.declared.cmp.Ordering.TheVariants.{Less, Equal, Greater}
use Rattle.mg_value.specs.declared.value.Value.{Value}
use Rattle.mg_value.specs.OrderLaws.{same_from_value_cmp}
use Rattle.mg_value.specs.Values.{value_cmp}
use Rattle.mg_model.specs.Changes.{same_key}
use Rattle.mg_sortkey.specs.KeyBytes.{key_bytes}
use Rattle.mg_sortkey.specs.KeyOrder.{HasRange}
use Rattle.mg_sortkey.specs.KeyLaws.{keys_order_as_values, keys_tell_values}
use Rattle.mg_undo.specs.declared.changes.Change.{Change}
use Rattle.mg_undo.specs.Undo.{is_same_place, repeats}
use Rattle.mg_undo.specs.Places.{is_same_spot, last_at, is_past, repeats_spot}
use Rattle.mg_undo.specs.Placing.{spot_in, HaveRange, ArePlaced}
use Rattle.mg_undo.proofs.PlacesLemmas.{same_from_is, is_itself}
use Rattle.mg_undo.proofs.Steps.{any_more}

-- two tests that follow from each other are the same
same_test : (a b : Bool) → (a ≡ true → b ≡ true) → (b ≡ true → a ≡ true) → a ≡ b
same_test true b there back = sym (there refl)
same_test false true there back = back refl
same_test false false there back = refl

equal_from_is : (o : Ordering) → is_eq o ≡ true → o ≡ Equal
equal_from_is Less is = absurd (false≢true is)
equal_from_is Equal is = refl
equal_from_is Greater is = absurd (false≢true is)

both_true : (a b : Bool) → (a && b) ≡ true → (a ≡ true) × (b ≡ true)
both_true true b is = (refl, is)
both_true false b is = absurd (false≢true is)

key_itself : (key : Value) → HasRange key → same_key key key ≡ true
key_itself key range =
    let tied : value_cmp key key ≡ Equal =
    sym (keys_order_as_values key key range range)
    ∙ tied_itself nat_list_cmp_total (key_bytes key) in
    ap is_eq tied

module _ (c d : Change) (range : HasRange c.key) (also : HasRange d.key) where
  spot_to_place : is_same_spot (spot_in c) (spot_in d) ≡ true → is_same_place c d ≡ true
  spot_to_place is =
      let spots : spot_in c ≡ spot_in d = same_from_is (spot_in c) (spot_in d) is in
      let tables : d.table ≡ c.table = sym (ap (λ s. s.0) spots) in
      let keys : c.key ≡ d.key = keys_tell_values c.key d.key range also (ap (λ s. s.1) spots) in
      let same : same_key d.key c.key ≡ true =
      ap (λ k. same_key d.key k) keys ∙ key_itself d.key also in
      rw (eq-eqb d.table c.table tables) same

  place_to_spot : is_same_place c d ≡ true → is_same_spot (spot_in c) (spot_in d) ≡ true
  place_to_spot is =
      let both = both_true (d.table == c.table) (same_key d.key c.key) is in
      let tables : d.table ≡ c.table = eqb-true d.table c.table both.0 in
      let keys : d.key ≡ c.key =
      same_from_value_cmp d.key c.key (equal_from_is (value_cmp d.key c.key) both.1) in
      let spots : spot_in d ≡ spot_in c = λ i. (tables i, key_bytes (keys i)) in
      ap (λ s. is_same_spot (spot_in c) s) spots ∙ is_itself (spot_in c)

  same_place_is : is_same_spot (spot_in c) (spot_in d) ≡ is_same_place c d
  same_place_is = same_test (is_same_spot (spot_in c) (spot_in d)) (is_same_place c d)
      spot_to_place place_to_spot

spots_count : (changes : List Change) → length (map spot_in changes) ≡ length changes
spots_count [] = refl
spots_count (c ∷ cs) = ap suc (spots_count cs)

any_none : {A : Type 0} (test : A → Bool) (n : ℕ) (xs : List A) → n ≡ 0
    → list_any test (take n xs) ≡ false
any_none test n xs none = ap (λ k. list_any test (take k xs)) none

last_since : (floor : ℕ) (c : Change) (cs : List Change) → HasRange c.key → HaveRange cs
    → is_past floor (last_at (spot_in c) (map spot_in cs))
    ≡ list_any (is_same_place c) (take (length cs - floor) cs)
last_since floor c [] range ranges = sym (any_none (is_same_place c) (0 - floor) [] (omega arith))
last_since floor c (d ∷ ds) range ranges =
    by (nat_le floor (length ds)) refl (is_same_spot (spot_in c) (spot_in d)) refl
    (last_since floor c ds range ranges.1)
  where
    test : Change → Bool
    test = is_same_place c

    as_place : (b : Bool) → is_same_spot (spot_in c) (spot_in d) ≡ b → is_same_place c d ≡ b
    as_place b is = sym (same_place_is c d range ranges.0) ∙ is

    within : nat_le floor (length ds) ≡ true → list_any test (take (length (d ∷ ds) - floor) (d ∷ ds))
        ≡ (test d || list_any test (take (length ds - floor) ds))
    within low =
        let high : floor ≤ length ds = leb-true floor (length ds) low in
        let some : 0 < length (d ∷ ds) - floor = omega (arith, high) in
        let less : length (d ∷ ds) - floor - 1 ≡ length ds - floor = omega (arith, high) in
        any_more test (length (d ∷ ds) - floor) d ds some
        ∙ ap (λ n. test d || list_any test (take n ds)) less

    outside : nat_le floor (length ds) ≡ false
        → list_any test (take (length (d ∷ ds) - floor) (d ∷ ds)) ≡ false
    outside low =
        let high : length ds < floor = leb-false floor (length ds) low in
        any_none test (length (d ∷ ds) - floor) (d ∷ ds) (omega (arith, high))

    by : (b : Bool) → nat_le floor (length ds) ≡ b
        → (same : Bool) → is_same_spot (spot_in c) (spot_in d) ≡ same
        → is_past floor (last_at (spot_in c) (map spot_in ds))
        ≡ list_any test (take (length ds - floor) ds)
        → is_past floor (last_at (spot_in c) (map spot_in (d ∷ ds)))
        ≡ list_any test (take (length (d ∷ ds) - floor) (d ∷ ds))
    by true low true same more =
        let here : test d ≡ true = as_place true same in
        rw same (ap (nat_le floor) (spots_count ds) ∙ low
        ∙ sym (within low ∙ ap (λ b. b || list_any test (take (length ds - floor) ds)) here))
    by true low false same more =
        let here : test d ≡ false = as_place false same in
        rw same (more
        ∙ sym (within low ∙ ap (λ b. b || list_any test (take (length ds - floor) ds)) here))
    by false low true same more =
        rw same (ap (nat_le floor) (spots_count ds) ∙ low ∙ sym (outside low))
    by false low false same more =
        let high : length ds < floor = leb-false floor (length ds) low in
        let none : list_any test (take (length ds - floor) ds) ≡ false =
        any_none test (length ds - floor) ds (omega (arith, high)) in
        rw same (more ∙ none ∙ sym (outside low))

pub repeats_by_spot : (floor : ℕ) (changes : List Change) (spots : List (ℕ × List ℕ))
    → ArePlaced changes spots → repeats_spot floor spots ≡ repeats floor changes
repeats_by_spot floor [] spots placed = ap (repeats_spot floor) placed.places
repeats_by_spot floor (c ∷ cs) spots placed =
    ap (repeats_spot floor) placed.places ∙ last_since floor c cs placed.ranges.0 placed.ranges.1
