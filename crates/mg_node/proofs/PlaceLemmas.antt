-- An entry is compared in its place as its copy would be.
use Rattle.std.specs.Prelude.{◌≡◌, ◌+◌, ◌≤◌, ℕ, false, List, length, take, drop}
use Rattle.std.specs.Ordering.{nat_cmp, ordering_then}
use Rattle.std.specs.Cmp.Lexicographic.{slice_cmp}
use Rattle.std.specs.declared.cmp.Ordering.{Ordering}
use Rattle.std.proofs.Common.{ap, ◌∙◌, arith}
use Rattle.std.proofs.lemmas.List.{length-drop, length-take-le}
use Rattle.mg_base.specs.Fields.{u16_at, u32_at}
use Rattle.mg_node.specs.declared.entry.Entry.{Entry}
use Rattle.mg_node.specs.NodePage.{end_of, entry_at, entry_cmp, key_len}

pub key_inside : (page : List ℕ) (at : ℕ) → end_of false page at ≤ length page
    → at + 2 + key_len page at ≤ length page
key_inside page at whole =
    let inside : at + 2 + key_len page at + 6 + 0 ≤ length page = whole in
    omega arith

pub key_size : (page key : List ℕ) (at : ℕ) → end_of false page at ≤ length page
    → key ≡ take (key_len page at) (drop (at + 2) page) → length key ≡ key_len page at
key_size page key at whole is =
    let inside : at + 2 + key_len page at ≤ length page = key_inside page at whole in
    let fits : key_len page at ≤ length (drop (at + 2) page) = omega (arith, length-drop (at + 2) page) in
    ap length is ∙ length-take-le (key_len page at) (drop (at + 2) page) fits

pub record_inside : (page key : List ℕ) (at : ℕ) → end_of false page at ≤ length page
    → key ≡ take (key_len page at) (drop (at + 2) page) → at + 2 + length key + 6 ≤ length page
record_inside page key at whole is =
    let inside : at + 2 + key_len page at + 6 + 0 ≤ length page = whole in
    let size : length key ≡ key_len page at = key_size page key at whole is in
    omega arith

pub page_in_place : (page key : List ℕ) (at p : ℕ) → end_of false page at ≤ length page
    → key ≡ take (key_len page at) (drop (at + 2) page) → p ≡ u32_at page (at + 2 + length key)
    → p ≡ u32_at page (at + 2 + key_len page at)
page_in_place page key at p whole is stands =
    stands ∙ ap (λ (n : ℕ). u32_at page (at + 2 + n)) (key_size page key at whole is)

pub slot_in_place : (page key : List ℕ) (at s : ℕ) → end_of false page at ≤ length page
    → key ≡ take (key_len page at) (drop (at + 2) page) → s ≡ u16_at page (at + 2 + length key + 4)
    → s ≡ u16_at page (at + 2 + key_len page at + 4)
slot_in_place page key at s whole is stands =
    stands ∙ ap (λ (n : ℕ). u16_at page (at + 2 + n + 4)) (key_size page key at whole is)

same_order : (k k' l l' : List ℕ) (p p' q q' s s' t t' : ℕ) → k ≡ k' → l ≡ l' → p ≡ p' → q ≡ q' → s ≡ s' → t ≡ t'
    → ordering_then (slice_cmp nat_cmp k l) (ordering_then (nat_cmp p q) (nat_cmp s t))
    ≡ ordering_then (slice_cmp nat_cmp k' l') (ordering_then (nat_cmp p' q') (nat_cmp s' t'))
same_order k k' l l' p p' q q' s s' t t' ks ls ps qs ss ts = cc

-- the order by the parts that were read is that of the entries
pub order_by_parts : (page key other : List ℕ) (at p q s t : ℕ) (e : Entry) (keys records order : Ordering)
    → end_of false page at ≤ length page → key ≡ take (key_len page at) (drop (at + 2) page)
    → p ≡ u32_at page (at + 2 + length key) → s ≡ u16_at page (at + 2 + length key + 4)
    → other ≡ e.key → q ≡ e.rec.page.0 → t ≡ e.rec.slot
    → keys ≡ slice_cmp nat_cmp key other → records ≡ ordering_then (nat_cmp p q) (nat_cmp s t)
    → order ≡ ordering_then keys records → order ≡ entry_cmp (entry_at false page at) e
order_by_parts page key other at p q s t e keys records order whole key_is p_is s_is other_is q_is t_is keys_are records_are is =
    is ∙ ap (λ (o : Ordering). ordering_then o records) keys_are
    ∙ ap (λ (o : Ordering). ordering_then (slice_cmp nat_cmp key other) o) records_are
    ∙ same_order key (take (key_len page at) (drop (at + 2) page)) other e.key
    p (u32_at page (at + 2 + key_len page at)) q e.rec.page.0
    s (u16_at page (at + 2 + key_len page at + 4)) t e.rec.slot
    key_is other_is (page_in_place page key at p whole key_is p_is) q_is
    (slot_in_place page key at s whole key_is s_is) t_is
