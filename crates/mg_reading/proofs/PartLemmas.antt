-- The tests of what was read are tests of the reading.
use Rattle.std.proofs.Common.{◌≡◌, ◌≢◌, ◌⊎◌, ◌↔◌, IsTrue, Bool, length, arith, inl, inr, sym, ◌∙◌, true, false, List, [], ◌∷◌, None, Some}
use Rattle.mg_base.specs.declared.numbers.RecId.{RecId}
use Rattle.mg_image.specs.declared.entry.Entry.{Entry}
use Rattle.mg_model.specs.declared.table.Table.{Table}
use Rattle.mg_image.specs.RecordRules.{Facts}
use Rattle.mg_image.specs.Records.{Reading}
use Rattle.mg_image.specs.StepLaws.{cases_place, same_place}
use Rattle.mg_reading.specs.declared.found.Found.{Found}
use Rattle.mg_reading.specs.declared.image.Image.{Image}
use Rattle.mg_reading.specs.Found.{AreOf, EachFound, HasNoKeyOf, HasOwnKey, HaveKeys, image_facts, reading_of}
use Rattle.mg_reading.specs.RecordParts.{AreKeyed, HaveOneKey, TakeOneKey}

-- what each record that was read has, each that is read has
pub each_read : (P : List Entry → Type 0) → P [] → (found : List Found) → EachFound P found
    → (p : RecId) → P (reading_of found p)
each_read P none [] each p = none
each_read P none (f ∷ fs) each p = at (cases_place f.at p) (each_read P none fs each.1 p)
  where
    at : ((f.at ≡ p) × (same_place f.at p ≡ true)) ⊎ ((f.at ≢ p) × (same_place f.at p ≡ false))
        → P (reading_of fs p) → P (reading_of (f ∷ fs) p)
    at (inl (same, is)) later = rw is each.0
    at (inr (other, is)) later = rw is later

-- and the other way
pub each_found : (P : List Entry → Type 0) (r : Reading) (found : List Found) → AreOf r found
    → ((p : RecId) → P (r p)) → EachFound P found
each_found P r [] of_ each = tt
each_found P r (f ∷ fs) of_ each = (rw of_.0 at (each f.at), each_found P r fs of_.1 each)

-- a record that takes the key of what is read of these is that one
no_key : (image : Image) (table : Table) (f : Found) (fs : List Found)
    → HasNoKeyOf (image_facts image) table f fs → (q : RecId)
    → TakeOneKey (image_facts image) table f.entries.items (reading_of fs q) → f.at ≡ q
no_key image table f [] none q (i, inl (row, is), same) =
    let no_ : None ≡ Some row = is in absurd cc
no_key image table f [] none q (i, inr limbo, same) = absurd limbo
no_key image table f (g ∷ gs) none q keys =
    at (cases_place g.at q) (λ k. no_key image table f gs none.1 q k)
  where
    at : ((g.at ≡ q) × (same_place g.at q ≡ true)) ⊎ ((g.at ≢ q) × (same_place g.at q ≡ false))
        → (TakeOneKey (image_facts image) table f.entries.items (reading_of gs q) → f.at ≡ q)
        → f.at ≡ q
    at (inl (same, is)) later = none.0 (rw is at keys) ∙ same
    at (inr (other, is)) later = later (rw is at keys)

keys_read : (image : Image) (table : Table) (found : List Found)
    → HaveKeys (image_facts image) table found → (p q : RecId)
    → TakeOneKey (image_facts image) table (reading_of found p) (reading_of found q) → p ≡ q
keys_read image table [] have p q (inl (row, is), j, same) =
    let no_ : None ≡ Some row = is in absurd cc
keys_read image table [] have p q (inr limbo, j, same) = absurd limbo
keys_read image table (f ∷ fs) have p q keys = at (cases_place f.at p) (cases_place f.at q)
    (λ k. keys_read image table fs have.1 p q k)
  where
    swapped : (a b : List Entry) → TakeOneKey (image_facts image) table a b → TakeOneKey (image_facts image) table b a
    swapped a b (i, j, same) = (j, i, sym same)

    at : ((f.at ≡ p) × (same_place f.at p ≡ true)) ⊎ ((f.at ≢ p) × (same_place f.at p ≡ false))
        → ((f.at ≡ q) × (same_place f.at q ≡ true)) ⊎ ((f.at ≢ q) × (same_place f.at q ≡ false))
        → (TakeOneKey (image_facts image) table (reading_of fs p) (reading_of fs q) → p ≡ q) → p ≡ q
    at (inl (one, is)) (inl (also, is_also)) later = sym one ∙ also
    at (inl (one, is)) (inr (other, is_other)) later =
        sym one ∙ no_key image table f fs have.0 q (rw (is, is_other) at keys)
    at (inr (other, is_other)) (inl (one, is)) later = sym (sym one ∙ no_key image table f fs have.0
        p (swapped (reading_of fs p) f.entries.items (rw (is_other, is) at keys)))
    at (inr (other, is)) (inr (also, is_also)) later = later (rw (is, is_also) at keys)

-- each has one key, and no two take one
pub keyed_read : (image : Image) (table : Table) (found : List Found)
    → EachFound (HaveOneKey table) found → HaveKeys (image_facts image) table found
    → AreKeyed (image_facts image) table (reading_of found)
keyed_read image table found one own = record {
  one = each_read (HaveOneKey table) tt found one;
  own = keys_read image table found own;
}

-- and the other way
own_found : (f : Facts) (table : Table) (r : Reading) (a b : Found)
    → ((p q : RecId) → TakeOneKey f table (r p) (r q) → p ≡ q)
    → r a.at ≡ a.entries.items → r b.at ≡ b.entries.items → HasOwnKey f table a b
own_found f table r a b own is as_ both = own a.at b.at (rw (is, as_) both)

pub keys_found : (f : Facts) (table : Table) (r : Reading) (found : List Found) → AreOf r found
    → ((p q : RecId) → TakeOneKey f table (r p) (r q) → p ≡ q) → HaveKeys f table found
keys_found f table r [] of_ own = tt
keys_found f table r (a ∷ fs) of_ own = (none fs of_.1, keys_found f table r fs of_.1 own)
  where
    none : (gs : List Found) → AreOf r gs → HasNoKeyOf f table a gs
    none [] also = tt
    none (b ∷ gs) also = (own_found f table r a b own of_.0 also.0, none gs also.1)

-- at the end of a list nothing is left to test
pub none_left : (P : List Entry → Type 0) (found : List Found) → length found ≡ 0
    → EachFound P found
none_left P [] none = tt
none_left P (f ∷ fs) none = absurd (omega arith)

-- a test of what was read is one of the reading
pub tests_reading : (P : List Entry → Type 0) → P [] → (found : List Found)
    → AreOf (reading_of found) found → (b : Bool) → IsTrue b ↔ EachFound P found
    → IsTrue b ↔ ((p : RecId) → P (reading_of found p))
tests_reading P none found of_ b same = (
  λ passed. each_read P none found (same.0 passed),
  λ each. same.1 (each_found P (reading_of found) found of_ each),
)

-- the test of keys
pub tests_keys : (image : Image) (table : Table) (found : List Found)
    → AreOf (reading_of found) found → (b : Bool)
    → IsTrue b ↔ (EachFound (HaveOneKey table) found × HaveKeys (image_facts image) table found)
    → IsTrue b ↔ AreKeyed (image_facts image) table (reading_of found)
tests_keys image table found of_ b same = (
  λ passed. keyed_read image table found (same.0 passed).0 (same.0 passed).1,
  λ keyed. same.1 (
    each_found (HaveOneKey table) (reading_of found) found of_ keyed.one,
    keys_found (image_facts image) table (reading_of found) found of_ keyed.own,
  ),
)
