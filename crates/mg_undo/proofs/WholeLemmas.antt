-- When two keys are the same.
use Rattle.std.proofs.Common.{◌≡◌, ◌∷◌, ◌↔◌, ◌∙◌, IsTrue, ap, refl, subst, sym, Bool, true, false, List, ℕ}
use Rattle.std.specs.Ordering.{is_eq}
use Rattle.std.specs.declared.cmp.Ordering.{Ordering}
use Rattle.std.specs.declared.cmp.Ordering.TheVariants.{Less, Equal, Greater}
use Rattle.std.proofs.lemmas.Cmp.{tied_itself}
use Rattle.mg_value.specs.declared.value.Value.{Value}
use Rattle.mg_value.specs.declared.value.Value.TheVariants.{Text}
use Rattle.mg_value.specs.OrderLaws.{same_from_value_cmp, value_cmp_total}
use Rattle.mg_value.specs.Values.{bytes_of, value_cmp}
use Rattle.mg_model.specs.Catalog.{table_key}
use Rattle.mg_model.specs.Changes.{same_key}

is_same : (a b : Value) → same_key a b ≡ true → a ≡ b
is_same a b same = same_from_value_cmp a b (at (value_cmp a b) same)
  where
    at : (o : Ordering) → is_eq o ≡ true → o ≡ Equal
    at Less e = absurd cc
    at Equal e = refl
    at Greater e = absurd cc

-- a test that is true exactly where two texts are equal tells whether the keys are the same
pub tells_texts : (a b : List ℕ) (t : Bool) → (t ≡ true → a ≡ b) → (a ≡ b → t ≡ true)
    → t ≡ same_key (Text a) (Text b)
tells_texts a b true gives needs = sym (subst (λ (x : List ℕ). same_key (Text a) (Text x) ≡ true) (gives refl)
    (ap is_eq (tied_itself value_cmp_total (Text a))))
tells_texts a b false gives needs = at (same_key (Text a) (Text b)) refl
  where
    at : (t : Bool) → same_key (Text a) (Text b) ≡ t → false ≡ same_key (Text a) (Text b)
    at true e = absurd (let bad = needs (ap bytes_of (is_same (Text a) (Text b) e)) in cc)
    at false e = sym e

pub tells_table_key : (key : Value) (text slice name : List ℕ) (t : Bool) → key ≡ Text text → slice ≡ text
    → IsTrue t ↔ (slice ≡ 84 ∷ name) → t ≡ same_key key (table_key name)
tells_table_key key text slice name t is same tells = tells_texts slice (84 ∷ name) t tells.0 tells.1
    ∙ ap (λ (k : Value). same_key k (table_key name)) (ap (λ (x : List ℕ). Text x) same ∙ sym is)
