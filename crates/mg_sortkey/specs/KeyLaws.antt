-- Laws of key bytes: their order, and where they end.
use Rattle.std.specs.Prelude.{◌≡◌, ℕ, ◌≤◌, List, [], ◌∷◌, ◌++◌, length, take, drop}
use Rattle.std.specs.List.{flat_map}
use Rattle.std.specs.Int.{w64, to_be_bytes}
use Rattle.std.specs.Ordering.{nat_cmp, int_cmp, ordering_then}
use Rattle.std.specs.Cmp.Lexicographic.{slice_cmp}
use Rattle.std.specs.declared.cmp.Ordering.{Ordering}
use Rattle.std.specs.declared.cmp.Ordering.TheVariants.{Less, Equal, Greater}
use Rattle.std.proofs.Common.{refl, sym, ap, ◌∙◌, arith, lit≤}
use Rattle.std.proofs.lemmas.Cmp.{nat_list_cmp_total, tied_itself}
use Rattle.std.proofs.lemmas.List.{take_at, drop_at, length-append}
use Rattle.mg_value.specs.declared.shape.Kind.{Kind}
use Rattle.mg_value.specs.declared.shape.Kind.TheVariants as kinds
use Rattle.mg_value.specs.declared.value.Value.{Value}
use Rattle.mg_value.specs.declared.value.Value.TheVariants.{Null, Int, Text}
use Rattle.mg_value.specs.OrderLaws.{same_from_value_cmp}
use Rattle.mg_value.specs.Rows.{FitsKind}
use Rattle.mg_value.specs.Values.{value_cmp}
use Rattle.mg_sortkey.specs.KeyBytes.{escaped, key_bytes, most_key_bytes}
use Rattle.mg_sortkey.specs.KeyOrder.{HasRange}
use Rattle.mg_sortkey.specs.NumberLaws.{number_order, turned}
use Rattle.mg_sortkey.specs.TextLaws.{short_text, tail, text_ends, text_order}

then_equal : (o : Ordering) → o ≡ ordering_then o Equal
then_equal Less = refl
then_equal Equal = refl
then_equal Greater = refl

pub keys_order_as_values : (a b : Value) → HasRange a → HasRange b
    → slice_cmp nat_cmp (key_bytes a) (key_bytes b) ≡ value_cmp a b
unfolding key_bytes
keys_order_as_values Null Null fits also = refl
keys_order_as_values Null (Int n) fits also = refl
keys_order_as_values Null (Text t) fits also = refl
keys_order_as_values (Int m) Null fits also = refl
keys_order_as_values (Int m) (Int n) fits also =
    number_order m n fits also ∙ then_equal (int_cmp m n)
keys_order_as_values (Int m) (Text t) fits also = refl
keys_order_as_values (Text s) Null fits also = refl
keys_order_as_values (Text s) (Int n) fits also = refl
keys_order_as_values (Text s) (Text t) fits also = text_order s t

pub keys_tell_values : (a b : Value) → HasRange a → HasRange b → key_bytes a ≡ key_bytes b → a ≡ b
keys_tell_values a b fits also same = same_from_value_cmp a b
    (sym (keys_order_as_values a b fits also) ∙
    (ap (λ (k : List ℕ). slice_cmp nat_cmp k (key_bytes b)) same ∙
    tied_itself nat_list_cmp_total (key_bytes b)))

number_ends : (m n : ℕ) (more rest : List ℕ)
    → to_be_bytes w64 m ++ more ≡ to_be_bytes w64 n ++ rest
    → (to_be_bytes w64 m ≡ to_be_bytes w64 n) × (more ≡ rest)
number_ends m n more rest e = (
  sym (take_at (to_be_bytes w64 m) more 8 refl) ∙ (ap (take 8) e ∙ take_at (to_be_bytes w64 n) rest 8 refl),
  sym (drop_at (to_be_bytes w64 m) more 8 refl) ∙ (ap (drop 8) e ∙ drop_at (to_be_bytes w64 n) rest 8 refl),
)

pub no_key_is_prefix : (a b : Value) (more rest : List ℕ) → HasRange a → HasRange b
    → key_bytes a ++ more ≡ key_bytes b ++ rest → (a ≡ b) × (more ≡ rest)
unfolding key_bytes
no_key_is_prefix Null Null more rest fits also e = (refl, cc)
no_key_is_prefix Null (Int n) more rest fits also e =
    let first : ◌≡◌ {A = ℕ} 0 1 = cc in absurd (omega (arith, first))
no_key_is_prefix Null (Text t) more rest fits also e =
    let first : ◌≡◌ {A = ℕ} 0 2 = cc in absurd (omega (arith, first))
no_key_is_prefix (Int m) Null more rest fits also e =
    let first : ◌≡◌ {A = ℕ} 1 0 = cc in absurd (omega (arith, first))
no_key_is_prefix (Int m) (Int n) more rest fits also e =
    let f : to_be_bytes w64 (turned m) ++ more ≡ to_be_bytes w64 (turned n) ++ rest = ap (drop 1) e in
    let both = number_ends (turned m) (turned n) more rest f in
    (keys_tell_values (Int m) (Int n) fits also (ap (λ (k : List ℕ). 1 ∷ k) both.0), both.1)
no_key_is_prefix (Int m) (Text t) more rest fits also e =
    let first : ◌≡◌ {A = ℕ} 1 2 = cc in absurd (omega (arith, first))
no_key_is_prefix (Text s) Null more rest fits also e =
    let first : ◌≡◌ {A = ℕ} 2 0 = cc in absurd (omega (arith, first))
no_key_is_prefix (Text s) (Int n) more rest fits also e =
    let first : ◌≡◌ {A = ℕ} 2 1 = cc in absurd (omega (arith, first))
no_key_is_prefix (Text s) (Text t) more rest fits also e =
    let f : tail s ++ more ≡ tail t ++ rest = ap (drop 1) e in
    let both = text_ends s t more rest f in (ap (λ (x : List ℕ). Text x) both.0, both.1)

pub keys_are_short : (kind : Kind) (value : Value) → FitsKind kind value
    → length (key_bytes value) ≤ most_key_bytes kind
unfolding key_bytes
keys_are_short kinds.Int Null fits = lit≤ tt
keys_are_short (kinds.Text most) Null fits = omega arith
keys_are_short kinds.Int (Int n) fits = lit≤ tt
keys_are_short kinds.Int (Text t) fits = absurd fits
keys_are_short (kinds.Text most) (Int n) fits = absurd fits
keys_are_short (kinds.Text most) (Text t) fits =
    let text = short_text t in
    let all = length-append {A = ℕ} (flat_map escaped t) (0 ∷ 0 ∷ []) in omega (arith, all)
