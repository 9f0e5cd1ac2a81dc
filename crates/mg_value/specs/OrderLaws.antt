-- The order of values is total, and values at one place in it are equal.
use Rattle.std.proofs.Common.{◌≡◌, refl, ap, arith}
use Rattle.std.specs.Cmp.{IsTotalOrder}
use Rattle.std.specs.Ordering.{nat_cmp, int_cmp, ordering_then}
use Rattle.std.specs.Cmp.Lexicographic.{slice_cmp}
use Rattle.std.specs.FinMap.{nat_cmp-IsAntisymmetric, int_cmp-IsAntisymmetric, slice_cmp-IsAntisymmetric}
use Rattle.std.specs.declared.cmp.Ordering.{Ordering}
use Rattle.std.specs.declared.cmp.Ordering.TheVariants.{Less, Equal, Greater}
use Rattle.std.proofs.lemmas.Cmp.{then_total, on_total, nat_cmp_total, int_cmp_total, nat_list_cmp_total}
use Rattle.mg_value.specs.declared.value.Value.{Value}
use Rattle.mg_value.specs.declared.value.Value.TheVariants.{Null, Int, Text}
use Rattle.mg_value.specs.Values.{value_cmp, kind_of, number_of, bytes_of}

pub value_cmp_total : IsTotalOrder value_cmp
value_cmp_total = then_total (on_total kind_of nat_cmp_total) (then_total (on_total number_of int_cmp_total) (on_total bytes_of nat_list_cmp_total))

both_equal : (first second : Ordering) → ordering_then first second ≡ Equal → (first ≡ Equal) × (second ≡ Equal)
both_equal Less second e = absurd cc
both_equal Equal second e = (refl, e)
both_equal Greater second e = absurd cc

same_by_parts : (a b : Value) → kind_of a ≡ kind_of b → number_of a ≡ number_of b → bytes_of a ≡ bytes_of b → a ≡ b
same_by_parts Null Null kind number bytes = refl
same_by_parts Null (Int other) kind number bytes = absurd (omega arith)
same_by_parts Null (Text other) kind number bytes = absurd (omega arith)
same_by_parts (Int x) Null kind number bytes = absurd (omega arith)
same_by_parts (Int x) (Int other) kind number bytes = ap Int number
same_by_parts (Int x) (Text other) kind number bytes = absurd (omega arith)
same_by_parts (Text x) Null kind number bytes = absurd (omega arith)
same_by_parts (Text x) (Int other) kind number bytes = absurd (omega arith)
same_by_parts (Text x) (Text other) kind number bytes = ap Text bytes

pub same_from_value_cmp : (a b : Value) → value_cmp a b ≡ Equal → a ≡ b
same_from_value_cmp a b e =
    let kinds = both_equal (nat_cmp (kind_of a) (kind_of b)) (ordering_then (int_cmp (number_of a) (number_of b)) (slice_cmp nat_cmp (bytes_of a) (bytes_of b))) e in
    let parts = both_equal (int_cmp (number_of a) (number_of b)) (slice_cmp nat_cmp (bytes_of a) (bytes_of b)) kinds.1 in
    same_by_parts a b (nat_cmp-IsAntisymmetric _ _ kinds.0) (int_cmp-IsAntisymmetric _ _ parts.0) (slice_cmp-IsAntisymmetric nat_cmp-IsAntisymmetric _ _ parts.1)
