-- An entry that is written field by field stands there.
use Rattle.std.specs.Prelude.{◌≡◌, ℕ, ◌+◌, ◌<◌, ◌≤◌, ◌^◌, true, false, List, length, take, drop}
use Rattle.std.proofs.Common.{refl, sym, ap, ◌∙◌, arith, get_or, lit<}
use Rattle.std.proofs.lemmas.List.{ext_get_or, get_or-drop, get_or-take, length-drop, length-take}
use Rattle.mg_base.specs.Fields.{byte, byte_apart, byte_apart16, length-with_u16, length-with_u32, u16_again, u16_at, u32_again, u32_at, with_u16, with_u32}
use Rattle.mg_node.specs.declared.entry.Entry.{Entry}
use Rattle.mg_node.specs.NodeWalkLaws.{end_of-least}
use Rattle.mg_node_writing.specs.MoveLaws.{entry_parts}
use Rattle.mg_node_writing.specs.Moves.{Puts, PutsEntry, WritesFront}

u16_kept : (a b : List ℕ) (i : ℕ) → byte b i ≡ byte a i → byte b (i + 1) ≡ byte a (i + 1)
    → u16_at b i ≡ u16_at a i
u16_kept a b i e f = omega (arith, e, f)

u32_kept : (a b : List ℕ) (i : ℕ) → ((k : ℕ) → k < 4 → byte b (i + k) ≡ byte a (i + k))
    → u32_at b i ≡ u32_at a i
u32_kept a b i same =
    let zero : i + 0 ≡ i = omega arith in
    let b0 : byte b i ≡ byte a i = rw zero at (same 0 (lit< tt)) in
    let b1 = same 1 (lit< tt) in let b2 = same 2 (lit< tt) in let b3 = same 3 (lit< tt) in
    omega (arith, b0, b1, b2, b3)

whole_key : (key page : List ℕ) (x : ℕ) → x + length key ≤ length page
    → ((k : ℕ) → k < length key → byte page (x + k) ≡ byte key k)
    → take (length key) (drop x page) ≡ key
whole_key key page x inside same = ext_get_or 0 (take (length key) (drop x page)) key long each
  where
    long : length (take (length key) (drop x page)) ≡ length key
    long = let a = length-take (length key) (drop x page) in
        let b = length-drop x page in omega (arith, a, b)

    each : (i : ℕ) → i < length (take (length key) (drop x page))
        → get_or (take (length key) (drop x page)) i 0 ≡ get_or key i 0
    each i below =
        let short : i < length key = omega (arith, long) in
        get_or-take (length key) (drop x page) i 0 short ∙ (get_or-drop x page i 0 ∙ same i short)

pub writes_front : (old b1 b2 b3 new : List ℕ) (at r : ℕ) (e : Entry)
    → at + 8 + length e.key ≤ length old → length e.key < 65536 → e.rec.page.0 < 2 ^ 32
    → e.rec.slot < 2 ^ 16 → r ≡ at + 2 + length e.key
    → b1 ≡ with_u16 old at (length e.key) → Puts e.key b1 b2 0 (at + 2) (length e.key)
    → b3 ≡ with_u32 b2 r e.rec.page.0 → new ≡ with_u16 b3 (r + 4) e.rec.slot
    → WritesFront old new at e
writes_front old b1 b2 b3 new at r e inside short small_page small_slot r_is e1 p e3 e4 =
    let l1 : length b1 ≡ length old = ap length e1 ∙ length-with_u16 old at (length e.key) in
    let l2 : length b2 ≡ length b1 = p.size in
    let l3 : length b3 ≡ length b2 = ap length e3 ∙ length-with_u32 b2 r e.rec.page.0 in
    let l4 : length new ≡ length b3 = ap length e4 ∙ length-with_u16 b3 (r + 4) e.rec.slot in
    let o1 = λ (k : ℕ) (out : at ≤ k → at + 2 ≤ k). ap (λ (x : List ℕ). byte x k) e1 ∙
    byte_apart16 old at (length e.key) k out in
    let o3 = λ (k : ℕ) (out : r ≤ k → r + 4 ≤ k). ap (λ (x : List ℕ). byte x k) e3 ∙
    byte_apart b2 r e.rec.page.0 k out in
    let o4 = λ (k : ℕ) (out : r + 4 ≤ k → r + 4 + 2 ≤ k). ap (λ (x : List ℕ). byte x k) e4 ∙
    byte_apart16 b3 (r + 4) e.rec.slot k out in
    let len1 : u16_at b1 at ≡ length e.key = ap (λ (x : List ℕ). u16_at x at) e1 ∙
    u16_again old at (length e.key) (omega arith) short in
    let page3 : u32_at b3 r ≡ e.rec.page.0 = ap (λ (x : List ℕ). u32_at x r) e3 ∙
    u32_again b2 r e.rec.page.0 (omega (arith, l1, l2)) small_page in
    let slot4 : u16_at new (r + 4) ≡ e.rec.slot = ap (λ (x : List ℕ). u16_at x (r + 4)) e4 ∙
    u16_again b3 (r + 4) e.rec.slot (omega (arith, l1, l2, l3)) small_slot in
    record {
      size = omega (arith, l1, l2, l3, l4);
      len = u16_kept b3 new at (o4 at (λ le. omega arith)) (o4 (at + 1) (λ le. omega arith)) ∙
          (u16_kept b2 b3 at (o3 at (λ le. omega arith)) (o3 (at + 1) (λ le. omega arith)) ∙
          (u16_kept b1 b2 at (p.others at (λ le. omega arith)) (p.others (at + 1) (λ le. omega arith)) ∙ len1));
      key = λ k below. o4 (at + 2 + k) (λ le. omega arith) ∙ (o3 (at + 2 + k) (λ le. omega arith) ∙
          key_byte e.key b2 (at + 2) k (p.bytes k below));
      page = ap (λ (x : ℕ). u32_at new x) (sym r_is) ∙
          (u32_kept b3 new r (λ k below. o4 (r + k) (λ le. omega arith)) ∙ page3);
      slot = ap (λ (x : ℕ). u16_at new (x + 4)) (sym r_is) ∙ slot4;
      others = λ k out. o4 k (λ le. away k out (r + 4) (r + 4 + 2) le (omega arith) (omega arith)) ∙
          (o3 k (λ le. away k out r (r + 4) le (omega arith) (omega arith)) ∙
          (p.others k (λ le. away k out (at + 2) (at + 2 + length e.key) le (omega arith) (omega arith)) ∙
          o1 k (λ le. away k out at (at + 2) le (omega arith) (omega arith))));
    }
  where
    key_byte : (key b : List ℕ) (x k : ℕ) → byte b (x + k) ≡ byte key (0 + k)
        → byte b (x + k) ≡ byte key k
    key_byte key b x k is = let zero : 0 + k ≡ k = omega arith in rw zero at is

    away : (k : ℕ) → (at ≤ k → at + 8 + length e.key ≤ k) → (low high : ℕ) → low ≤ k → at ≤ low
        → high ≤ at + 8 + length e.key → high ≤ k
    away k out low high le up down = let far = out (omega arith) in omega arith

-- a leaf's entry, or a fence
pub puts_plain : (old new : List ℕ) (at : ℕ) (e : Entry) → at + 8 + length e.key ≤ length old
    → WritesFront old new at e → PutsEntry false old new at e
puts_plain old new at e inside f =
    let size = f.size in
    let len = f.len in
    let key = whole_key e.key new (at + 2) (omega (arith, size)) f.key in
    let page = f.page in
    let slot = f.slot in
    record {
      size = size;
      entry = entry_parts false new at e (rw len key) (rw len page) (rw len slot) refl;
      end = let end = end_of-least false new at in omega (arith, end, len);
      others = λ k out. f.others k (λ le. let far = out le in omega arith);
    }

-- an inner page's entry
pub puts_inner : (old mid new : List ℕ) (at r : ℕ) (e : Entry)
    → at + 12 + length e.key ≤ length old → e.child.0 < 2 ^ 32 → r ≡ at + 2 + length e.key + 6
    → WritesFront old mid at e → new ≡ with_u32 mid r e.child.0 → PutsEntry true old new at e
puts_inner old mid new at r e inside small r_is f is =
    let size : length new ≡ length old =
    ap length is ∙ (length-with_u32 mid r e.child.0 ∙ f.size) in
    let mid_size = f.size in
    let o = λ (k : ℕ) (out : r ≤ k → r + 4 ≤ k). ap (λ (x : List ℕ). byte x k) is ∙
    byte_apart mid r e.child.0 k out in
    let len : u16_at new at ≡ length e.key =
    u16_kept mid new at (o at (λ le. omega arith)) (o (at + 1) (λ le. omega arith)) ∙ f.len in
    let key = whole_key e.key new (at + 2) (omega (arith, size))
    (λ k below. o (at + 2 + k) (λ le. omega arith) ∙ f.key k below) in
    let page : u32_at new (at + 2 + length e.key) ≡ e.rec.page.0 =
    u32_kept mid new (at + 2 + length e.key)
    (λ k below. o (at + 2 + length e.key + k) (λ le. omega arith)) ∙ f.page in
    let slot : u16_at new (at + 2 + length e.key + 4) ≡ e.rec.slot =
    u16_kept mid new (at + 2 + length e.key + 4) (o (at + 2 + length e.key + 4) (λ le. omega arith))
    (o (at + 2 + length e.key + 4 + 1) (λ le. omega arith)) ∙ f.slot in
    let child : u32_at new (at + 2 + length e.key + 6) ≡ e.child.0 =
    ap (λ (x : ℕ). u32_at new x) (sym r_is) ∙ (ap (λ (x : List ℕ). u32_at x r) is ∙
    u32_again mid r e.child.0 (omega (arith, mid_size)) small) in
    record {
      size = size;
      entry = entry_parts true new at e (rw len key) (rw len page) (rw len slot) (rw len child);
      end = let end = end_of-least true new at in omega (arith, end, len);
      others = λ k out. o k (λ le. let far = out (omega arith) in omega arith) ∙
          f.others k (λ le. let far = out le in omega arith);
    }
