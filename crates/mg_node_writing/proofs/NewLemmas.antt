-- What a new page says, and what a copy of a page does.
use Rattle.std.specs.Prelude.{◌≡◌, ℕ, ◌/◌, ◌%◌, ◌<◌, ◌≤◌, ◌^◌, ◌==◌, Bool, true, false, List, [], length, take, Some, None, if◌then◌else◌}
use Rattle.std.proofs.Common.{refl, sym, ap, ◌∙◌, arith, subst, lit<, lit≤}
use Rattle.mg_base.specs.Checks.{PassesAll, common_checks}
use Rattle.mg_base.specs.CheckLaws.{front_checks, new_page_zero, new_passes}
use Rattle.mg_base.specs.Fields.{byte, byte_apart, byte_apart16, length-new_page, length-with_u16, length-with_u32, new_page, take-with_u16, u16_again, u16_apart, u16_apart32, u16_at, u32_again, u32_apart, u32_at, with_u16, with_u32}
use Rattle.mg_node.specs.declared.entry.TheConstants.{CONTENT_AT, END_AT, FENCES_AT, LEVEL_AT, NODE_KIND}
use Rattle.mg_node.specs.NodePage.{AreAscending, AreBetween, BeginsAsInner, IsNodePage, count_in, end_in, end_of, entries_of, entry_at, first_at, has_high, has_low, high_at, high_of, is_inner, level_in, low_of, node_checks, place_of, right_in}
use Rattle.mg_node.specs.NodeWalk.{entries_from}
use Rattle.mg_node.specs.NodeWalkLaws.{entries_of-walk}
use Rattle.mg_node_writing.specs.NewNodes.{CopiesNode, IsNewNode, made_node}
use Rattle.mg_node_writing.specs.Splices.{ShortKeys, Splices}
use Rattle.mg_node_writing.proofs.InsertLemmas.{short_of}
use Rattle.mg_node_writing.proofs.SeatLemmas.{laid_out_of}
use Rattle.mg_node_writing.proofs.SpliceLemmas.{SplicedPage, lawful_spliced, splice_says}

none_there : {A : Type 0} (there : Bool) (x y : A) → there ≡ false → (if there then x else y) ≡ y
none_there true x y is = absurd cc
none_there false x y is = refl

pub new_node_is : (size number owner level : ℕ) → 1024 ≤ size → number < 2 ^ 32 → owner < 2 ^ 32
    → level < 2 ^ 16 → (page : List ℕ) → page ≡ made_node size number owner level
    → IsNewNode page number owner level
new_node_is size number owner level least small_number small_owner small_level page is =
    let blank : List ℕ = new_page size number NODE_KIND owner 0 in
    let leveled : List ℕ = with_u16 blank LEVEL_AT level in
    let l0 : length blank ≡ size = length-new_page size number NODE_KIND owner 0 in
    let l1 : length leveled ≡ size = length-with_u16 blank LEVEL_AT level ∙ l0 in
    let l2 : length page ≡ size = ap length is ∙ (length-with_u16 leveled END_AT CONTENT_AT ∙ l1) in
    let front : take 16 page ≡ take 16 blank = ap (take 16) is ∙
    (take-with_u16 leveled END_AT CONTENT_AT 16 (lit≤ tt) ∙
    take-with_u16 blank LEVEL_AT level 16 (lit≤ tt)) in
    let zero = λ (k : ℕ) (from : 18 ≤ k) (out : 24 ≤ k → 26 ≤ k).
    ap (λ (x : List ℕ). byte x k) is ∙ (byte_apart16 leveled END_AT CONTENT_AT k out ∙
    (byte_apart16 blank LEVEL_AT level k (λ le. omega arith) ∙
    new_page_zero size number NODE_KIND owner 0 k (omega arith))) in
    let z18 : byte page 18 ≡ 0 = zero 18 (lit≤ tt) (λ le. omega arith) in
    let z19 : byte page 19 ≡ 0 = zero 19 (lit≤ tt) (λ le. omega arith) in
    let z20 : byte page 20 ≡ 0 = zero 20 (lit≤ tt) (λ le. omega arith) in
    let z21 : byte page 21 ≡ 0 = zero 21 (lit≤ tt) (λ le. omega arith) in
    let z22 : byte page 22 ≡ 0 = zero 22 (lit≤ tt) (λ le. omega arith) in
    let z23 : byte page 23 ≡ 0 = zero 23 (lit≤ tt) (λ le. omega arith) in
    let z26 : byte page 26 ≡ 0 = zero 26 (lit≤ tt) (λ le. omega arith) in
    let z27 : byte page 27 ≡ 0 = zero 27 (lit≤ tt) (λ le. omega arith) in
    let count : count_in page ≡ 0 = omega (arith, z18, z19) in
    let right : right_in page ≡ 0 = omega (arith, z20, z21, z22, z23) in
    let fences : u16_at page FENCES_AT ≡ 0 = omega (arith, z26, z27) in
    let ends : end_in page ≡ CONTENT_AT = ap (λ (x : List ℕ). u16_at x END_AT) is ∙
    u16_again leveled END_AT CONTENT_AT (omega (arith, l1)) (lit< tt) in
    let on_level : level_in page ≡ level = ap (λ (x : List ℕ). u16_at x LEVEL_AT) is ∙
    (u16_apart leveled END_AT CONTENT_AT LEVEL_AT (λ le. omega arith) ∙
    u16_again blank LEVEL_AT level (omega (arith, l0)) small_level) in
    let no_low : has_low page ≡ false = ap (λ (n : ℕ). n % 2 == 1) fences in
    let no_high : has_high page ≡ false = ap (λ (n : ℕ). n / 2 % 2 == 1) fences in
    let high : high_at page ≡ CONTENT_AT =
    none_there (has_low page) (end_of false page CONTENT_AT) CONTENT_AT no_low in
    let first : first_at page ≡ CONTENT_AT =
    none_there (has_high page) (end_of false page (high_at page)) (high_at page) no_high ∙ high in
    let entries : entries_of page ≡ [] =
    entries_of-walk page ∙ ap (entries_from (is_inner page) page (first_at page)) count in
    record {
      fields = subst PassesAll (front_checks blank page number NODE_KIND owner 0 (sym front))
          (new_passes size number NODE_KIND owner 0 (omega arith) small_number small_owner (lit< tt));
      lawful = record {
        low_key = λ there. absurd cc;
        high_key = λ there. absurd cc;
        keys = λ n below. absurd (omega (arith, count));
        ends = ends ∙ sym (ap (place_of page) count ∙ first);
        inside = omega (arith, ends, l2);
        ascending = subst AreAscending (sym entries) tt;
        between = subst (AreBetween (low_of page) (high_of page)) (sym entries) tt;
        first = λ inner. subst (BeginsAsInner (low_of page)) (sym entries) tt;
      };
      on_level = on_level;
      right = right;
      low = none_there (has_low page) (Some (entry_at false page CONTENT_AT)) None no_low;
      high = none_there (has_high page) (Some (entry_at false page (high_at page))) None no_high;
      entries = entries;
    }

-- A copy.

copy_fields : (from : List ℕ) (number owner : ℕ) → 1024 ≤ length from → number < 2 ^ 32
    → PassesAll (node_checks from (u32_at from 4) owner)
    → PassesAll (node_checks (with_u32 from 4 number) number owner)
unfolding common_checks
copy_fields from number owner least small (kind, (flags, (zero, (own, (owned, (seq, rest)))))) = (
  byte_apart from 4 number 0 (λ le. omega arith) ∙ kind,
  (
    byte_apart from 4 number 1 (λ le. omega arith) ∙ flags,
    (
      u16_apart32 from 4 number 2 (λ le. omega arith) ∙ zero,
      (
        u32_again from 4 number (omega arith) small,
        (
          u32_apart from 4 number 8 (λ le. omega arith) ∙ owned,
          (u32_apart from 4 number 12 (λ le. omega arith) ∙ seq, tt),
        ),
      ),
    ),
  ),
)

pub copies : (from to : List ℕ) (number : ℕ) → 1024 ≤ length from → number < 2 ^ 32
    → IsNodePage from → to ≡ with_u32 from 4 number → CopiesNode from to number
copies from to number least small is to_is =
    let size : length to ≡ length from = ap length to_is ∙ length-with_u32 from 4 number in
    let same = λ (k : ℕ) (low : 16 ≤ k). ap (λ (x : List ℕ). byte x k) to_is ∙
    byte_apart from 4 number k (λ le. omega arith) in
    let field = λ (i : ℕ) (low : 16 ≤ i). ap (λ (x : List ℕ). u16_at x i) to_is ∙
    u16_apart32 from 4 number i (λ le. omega arith) in
    let count : count_in to ≡ count_in from = field 18 (lit≤ tt) in
    let ends : end_in to ≡ end_in from = field 24 (lit≤ tt) in
    let old_inside = is.inside in
    let inside : end_in to ≤ length to = omega (arith, ends, size, old_inside) in
    let s : Splices from to (end_in from) (end_in from) (end_in from) = record {
      size = size;
      before = λ k low below one two. same k low;
      moved = λ k below. absurd (omega arith);
      end = omega (arith, ends);
    } in
    let page : SplicedPage from to (end_in from) (end_in from) (count_in from) 0 0 0 =
    splice_says from to (end_in from) (end_in from) (end_in from) (count_in from) 0 0 0
    (laid_out_of from is) is.ends s is.ends refl (omega arith) refl (omega (arith, count)) inside in
    let entries : entries_of to ≡ entries_of from = page.entries ∙ sym page.was in
    record {
      size = size;
      fields = λ owner passes. subst (λ (x : List ℕ). PassesAll (node_checks x number owner)) (sym to_is)
          (copy_fields from number owner least small passes);
      lawful = lawful_spliced from to (end_in from) (end_in from) (count_in from) 0 0 0 is page inside
          (subst (ShortKeys (length from / 8)) (sym entries) (short_of from is))
          (subst AreAscending (sym entries) is.ascending)
          (subst (AreBetween (low_of from) (high_of from)) (sym entries) is.between)
          (λ inner. subst (BeginsAsInner (low_of from)) (sym entries) (is.first inner));
      level = page.level;
      right = page.right;
      low = page.head.low;
      high = page.head.high;
      entries = entries;
    }
