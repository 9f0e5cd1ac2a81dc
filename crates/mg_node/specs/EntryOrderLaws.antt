-- Laws of the order of entries: it is total, and entries at one place in it have one key and record.
use Rattle.std.specs.Prelude.{◌≡◌, ℕ, List, true}
use Rattle.std.proofs.Common.{refl, ap, ◌∙◌}
use Rattle.std.specs.Cmp.{IsTotalOrder}
use Rattle.std.specs.Ordering.{is_eq, nat_cmp, ordering_then}
use Rattle.std.specs.Cmp.Lexicographic.{slice_cmp}
use Rattle.std.specs.FinMap.{nat_cmp-IsAntisymmetric, slice_cmp-IsAntisymmetric}
use Rattle.std.specs.declared.cmp.Ordering.{Ordering}
use Rattle.std.specs.declared.cmp.Ordering.TheVariants.{Less, Equal, Greater}
use Rattle.std.proofs.lemmas.Cmp.{nat_cmp_total, nat_list_cmp_total, on_total, then_total, tied_itself}
use Rattle.mg_base.specs.declared.numbers.RecId.{RecId}
use Rattle.mg_node.specs.declared.entry.Entry.{Entry}
use Rattle.mg_node.specs.NodePage.{SamePlace, entry_cmp}

-- The order is total.
pub entry_cmp_total : IsTotalOrder entry_cmp
entry_cmp_total = then_total (on_total (λ (e : Entry). e.key) nat_list_cmp_total)
    (then_total (on_total (λ (e : Entry). e.rec.page.0) nat_cmp_total)
    (on_total (λ (e : Entry). e.rec.slot) nat_cmp_total))

both_equal : (first second : Ordering) → ordering_then first second ≡ Equal
    → (first ≡ Equal) × (second ≡ Equal)
both_equal Less second e = absurd cc
both_equal Equal second e = (refl, e)
both_equal Greater second e = absurd cc

both_are : (first second : Ordering) → first ≡ Equal → second ≡ Equal
    → ordering_then first second ≡ Equal
both_are Less second e f = absurd cc
both_are Equal second e f = f
both_are Greater second e f = absurd cc

pub is_eq-true : (o : Ordering) → is_eq o ≡ true → o ≡ Equal
is_eq-true Less e = absurd cc
is_eq-true Equal e = refl
is_eq-true Greater e = absurd cc

same_rec : (a b : RecId) → a.page.0 ≡ b.page.0 → a.slot ≡ b.slot → a ≡ b
same_rec a b page slot =
    ap (λ (p : ℕ). record { page = record { 0 = p }; slot = a.slot }) page ∙
    ap (λ (s : ℕ). record { page = record { 0 = b.page.0 }; slot = s }) slot

-- entries at one place in the order have one key and record
pub same_place_from_cmp : (a b : Entry) → entry_cmp a b ≡ Equal → SamePlace a b
same_place_from_cmp a b e =
    let rest = ordering_then (nat_cmp a.rec.page.0 b.rec.page.0) (nat_cmp a.rec.slot b.rec.slot) in
    let keys = both_equal (slice_cmp nat_cmp a.key b.key) rest e in
    let recs = both_equal (nat_cmp a.rec.page.0 b.rec.page.0) (nat_cmp a.rec.slot b.rec.slot) keys.1 in
    record {
      key = slice_cmp-IsAntisymmetric nat_cmp-IsAntisymmetric _ _ keys.0;
      rec = same_rec a.rec b.rec (nat_cmp-IsAntisymmetric _ _ recs.0) (nat_cmp-IsAntisymmetric _ _ recs.1);
    }

same_keys : (k l : List ℕ) → k ≡ l → slice_cmp nat_cmp k l ≡ Equal
same_keys k l e = rw e (tied_itself nat_list_cmp_total l)

same_numbers : (m n : ℕ) → m ≡ n → nat_cmp m n ≡ Equal
same_numbers m n e = rw e (tied_itself nat_cmp_total n)

pub cmp_from_parts : (a b : Entry) → a.key ≡ b.key → a.rec.page.0 ≡ b.rec.page.0
    → a.rec.slot ≡ b.rec.slot → entry_cmp a b ≡ Equal
cmp_from_parts a b key page slot =
    both_are (slice_cmp nat_cmp a.key b.key) _ (same_keys a.key b.key key)
    (both_are (nat_cmp a.rec.page.0 b.rec.page.0) _ (same_numbers _ _ page) (same_numbers _ _ slot))

pub cmp_from_same_place : (a b : Entry) → SamePlace a b → entry_cmp a b ≡ Equal
cmp_from_same_place a b same = cmp_from_parts a b same.key (ap (λ (r : RecId). r.page.0) same.rec)
    (ap (λ (r : RecId). r.slot) same.rec)
