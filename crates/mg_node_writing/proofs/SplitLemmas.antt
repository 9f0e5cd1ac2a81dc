-- The two pages of a split, byte by byte.
use Rattle.std.specs.Prelude.{◌≡◌, ℕ, ◌+◌, ◌-◌, ◌/◌, ◌%◌, ◌<◌, ◌≤◌, ◌==◌, ◌^◌, List, length}
use Rattle.std.proofs.Common.{ap, ◌∙◌, arith, subst}
use Rattle.mg_base.specs.Fields.{byte, byte_apart, byte_apart16, length-with_u16, length-with_u32, u16_again, u16_at, u32_again, u32_at, with_u16, with_u32}
use Rattle.mg_node.specs.declared.entry.TheConstants.{CONTENT_AT, FENCES_AT}
use Rattle.mg_node.specs.NodePage.{end_in, first_at, high_at, key_len, right_in}
use Rattle.mg_node_writing.specs.Moves.{Puts, Stands}
use Rattle.mg_node_writing.specs.Splices.{SetsEnd}
use Rattle.mg_node_writing.specs.Splits.{KeepsLower, TakesUpper}
use Rattle.mg_node_writing.proofs.SpliceLemmas.{u16_same}

u32_same : (a b : List ℕ) (i : ℕ) → byte a i ≡ byte b i → byte a (i + 1) ≡ byte b (i + 1)
    → byte a (i + 2) ≡ byte b (i + 2) → byte a (i + 3) ≡ byte b (i + 3) → u32_at a i ≡ u32_at b i
u32_same a b i e f g h = omega (arith, e, f, g, h)

-- the right page
pub takes_upper : (old b1 b2 b3 b4 b5 new : List ℕ) (number from count fl high hl len fences : ℕ)
    → number < 2 ^ 32 → fences < 2 ^ 16 → 1024 ≤ length old
    → fl ≡ 8 + key_len old from → high ≡ high_at old → hl ≡ first_at old - high_at old
    → len ≡ end_in old - from → CONTENT_AT ≤ high → high_at old ≤ first_at old
    → first_at old ≤ length old → from + fl ≤ length old
    → from ≤ end_in old → end_in old ≤ length old
    → CONTENT_AT + fl + hl + len ≤ length old
    → fences % 2 ≡ 1 → fences / 2 ≡ u16_at old FENCES_AT / 2
    → b1 ≡ with_u32 old 4 number → b2 ≡ with_u16 b1 FENCES_AT fences
    → Puts old b2 b3 from CONTENT_AT fl → Puts old b3 b4 high (CONTENT_AT + fl) hl
    → Puts old b4 b5 from (CONTENT_AT + fl + hl) len
    → SetsEnd b5 new count (CONTENT_AT + fl + hl + len)
    → TakesUpper old new number from count
takes_upper old b1 b2 b3 b4 b5 new number from count fl high hl len fences small small_fences least
    fl_is high_is hl_is len_is high_from high_up first_inside fence_inside from_up end_inside room low_bit high_bit
    e1 e2 p3 p4 p5 set =
    let l1 : length b1 ≡ length old = ap length e1 ∙ length-with_u32 old 4 number in
    let l2 : length b2 ≡ length b1 = ap length e2 ∙ length-with_u16 b1 FENCES_AT fences in
    let l3 = p3.size in let l4 = p4.size in let l5 = p5.size in let l6 = set.size in
    -- what stands before the fences
    let front = λ (k : ℕ) (below : k < 28) (one : 18 ≤ k → 20 ≤ k) (two : 24 ≤ k → 26 ≤ k).
    set.others k one two ∙ (p5.others k (λ le. omega arith) ∙ (p4.others k (λ le. omega arith) ∙
    p3.others k (λ le. omega arith))) in
    let fields = λ (k : ℕ) (below : k < 26) (own : 4 ≤ k → 8 ≤ k) (one : 18 ≤ k → 20 ≤ k)
    (two : 24 ≤ k → 26 ≤ k).
    front k (omega arith) one two ∙ (ap (λ (x : List ℕ). byte x k) e2 ∙
    (byte_apart16 b1 FENCES_AT fences k (λ le. omega arith) ∙
    (ap (λ (x : List ℕ). byte x k) e1 ∙ byte_apart old 4 number k own))) in
    let own : u32_at new 4 ≡ number =
    u32_same new b1 4 (own_byte 4 (omega arith) (omega arith)) (own_byte 5 (omega arith) (omega arith))
    (own_byte 6 (omega arith) (omega arith)) (own_byte 7 (omega arith) (omega arith)) ∙
    (ap (λ (x : List ℕ). u32_at x 4) e1 ∙ u32_again old 4 number (omega arith) small) in
    let flags : u16_at new FENCES_AT ≡ fences =
    u16_same new b2 FENCES_AT (front 26 (omega arith) (λ le. omega arith) (λ le. omega arith))
    (front 27 (omega arith) (λ le. omega arith) (λ le. omega arith)) ∙
    (ap (λ (x : List ℕ). u16_at x FENCES_AT) e2 ∙
    u16_again b1 FENCES_AT fences (omega (arith, l1)) small_fences) in
    let low_flag : u16_at new FENCES_AT % 2 ≡ 1 = ap (λ (n : ℕ). n % 2) flags ∙ low_bit in
    let high_flag : u16_at new FENCES_AT / 2 ≡ u16_at old FENCES_AT / 2 =
    ap (λ (n : ℕ). n / 2) flags ∙ high_bit in
    record {
      size = omega (arith, l1, l2, l3, l4, l5, l6);
      common = λ k below away. fields k (omega arith) away (λ le. omega arith) (λ le. omega arith);
      own = own;
      level = u16_same new old 16
          (fields 16 (omega arith) (λ le. omega arith) (λ le. omega arith) (λ le. omega arith))
          (fields 17 (omega arith) (λ le. omega arith) (λ le. omega arith) (λ le. omega arith));
      right = u32_same new old 20
          (fields 20 (omega arith) (λ le. omega arith) (λ le. omega arith) (λ le. omega arith))
          (fields 21 (omega arith) (λ le. omega arith) (λ le. omega arith) (λ le. omega arith))
          (fields 22 (omega arith) (λ le. omega arith) (λ le. omega arith) (λ le. omega arith))
          (fields 23 (omega arith) (λ le. omega arith) (λ le. omega arith) (λ le. omega arith));
      there_low = ap (λ (n : ℕ). n == 1) low_flag;
      there_high = ap (λ (n : ℕ). n % 2 == 1) high_flag;
      low = subst (λ (x : ℕ). Stands old new from CONTENT_AT x) fl_is (record {
        bytes = λ k below. set.others (CONTENT_AT + k) (λ le. omega arith) (λ le. omega arith) ∙
            (p5.others (CONTENT_AT + k) (λ le. omega arith) ∙
            (p4.others (CONTENT_AT + k) (λ le. omega arith) ∙ p3.bytes k below));
        there = fence_inside;
        here = omega (arith, l1, l2, l3, l4, l5, l6);
      });
      high = high_stands (record {
        bytes = λ k below. set.others (CONTENT_AT + fl + k) (λ le. omega arith) (λ le. omega arith) ∙
            (p5.others (CONTENT_AT + fl + k) (λ le. omega arith) ∙ p4.bytes k below);
        there = omega (arith, high_is, hl_is, high_up);
        here = omega (arith, l1, l2, l3, l4, l5, l6);
      });
      entries = entries_stand (record {
        bytes = λ k below. set.others (CONTENT_AT + fl + hl + k) (λ le. omega arith) (λ le. omega arith) ∙
            p5.bytes k below;
        there = omega (arith, len_is);
        here = omega (arith, l1, l2, l3, l4, l5, l6);
      });
      count_is = set.count_is;
      end_is = set.end_is ∙ end_same;
    }
  where
    own_byte : (k : ℕ) → 4 ≤ k → k < 8 → byte new k ≡ byte b1 k
    own_byte k from_four below = set.others k (λ le. omega arith) (λ le. omega arith) ∙
        (p5.others k (λ le. omega arith) ∙ (p4.others k (λ le. omega arith) ∙
        (p3.others k (λ le. omega arith) ∙ (ap (λ (x : List ℕ). byte x k) e2 ∙
        byte_apart16 b1 FENCES_AT fences k (λ le. omega arith)))))

    high_stands : Stands old new high (CONTENT_AT + fl) hl
        → Stands old new (high_at old) (CONTENT_AT + (8 + key_len old from))
        (first_at old - high_at old)
    high_stands s =
        subst (λ (x : ℕ). Stands old new (high_at old) (CONTENT_AT + x) (first_at old - high_at old)) fl_is
        (subst (λ (x : ℕ). Stands old new (high_at old) (CONTENT_AT + fl) x) hl_is
        (subst (λ (x : ℕ). Stands old new x (CONTENT_AT + fl) hl) high_is s))

    entries_stand : Stands old new from (CONTENT_AT + fl + hl) len
        → Stands old new from (CONTENT_AT + (8 + key_len old from) + (first_at old - high_at old))
        (end_in old - from)
    entries_stand s =
        subst (λ (x : ℕ). Stands old new from (CONTENT_AT + x + (first_at old - high_at old))
        (end_in old - from)) fl_is
        (subst (λ (x : ℕ). Stands old new from (CONTENT_AT + fl + x) (end_in old - from)) hl_is
        (subst (λ (x : ℕ). Stands old new from (CONTENT_AT + fl + hl) x) len_is s))

    end_same : CONTENT_AT + fl + hl + len
        ≡ CONTENT_AT + (8 + key_len old from) + (first_at old - high_at old) + (end_in old - from)
    end_same = omega (arith, fl_is, hl_is, len_is)

-- the left page
pub keeps_lower : (old other b1 b2 b3 b4 new : List ℕ) (number from count fl high first len fences : ℕ)
    → number < 2 ^ 32 → fences < 2 ^ 16 → 1024 ≤ length old → length other ≡ length old
    → fl ≡ 8 + key_len other CONTENT_AT → high ≡ high_at old → first ≡ first_at old
    → len ≡ from - first_at old → CONTENT_AT ≤ high → high_at old ≤ first_at old
    → first ≤ from → from ≤ length old → CONTENT_AT + fl ≤ length old
    → high + fl + len ≤ length old
    → fences % 2 ≡ u16_at old FENCES_AT % 2 → fences / 2 % 2 ≡ 1
    → Puts old old b1 first (high + fl) len → Puts other b1 b2 CONTENT_AT high fl
    → b3 ≡ with_u32 b2 20 number → b4 ≡ with_u16 b3 FENCES_AT fences
    → SetsEnd b4 new count (high + fl + len)
    → KeepsLower old new other number from count
keeps_lower old other b1 b2 b3 b4 new number from count fl high first len fences small small_fences least
    sizes fl_is high_is first_is len_is high_from high_up first_up from_inside fence_inside room low_bit high_bit
    p1 p2 e3 e4 set =
    let l1 = p1.size in let l2 = p2.size in
    let l3 : length b3 ≡ length b2 = ap length e3 ∙ length-with_u32 b2 20 number in
    let l4 : length b4 ≡ length b3 = ap length e4 ∙ length-with_u16 b3 FENCES_AT fences in
    let l5 = set.size in
    let outer = λ (k : ℕ) (one : 18 ≤ k → 20 ≤ k) (two : 24 ≤ k → 26 ≤ k) (three : 20 ≤ k → 24 ≤ k)
    (four : 26 ≤ k → 28 ≤ k).
    set.others k one two ∙ (ap (λ (x : List ℕ). byte x k) e4 ∙
    (byte_apart16 b3 FENCES_AT fences k four ∙ (ap (λ (x : List ℕ). byte x k) e3 ∙
    byte_apart b2 20 number k three))) in
    let inner = λ (k : ℕ) (below : k < high). p2.others k (λ le. omega arith) ∙
    p1.others k (λ le. omega arith) in
    let right : right_in new ≡ number =
    u32_same new b3 20 (right_byte 20 (omega arith) (omega arith)) (right_byte 21 (omega arith) (omega arith))
    (right_byte 22 (omega arith) (omega arith)) (right_byte 23 (omega arith) (omega arith)) ∙
    (ap (λ (x : List ℕ). u32_at x 20) e3 ∙ u32_again b2 20 number (omega (arith, l1, l2)) small) in
    let flags : u16_at new FENCES_AT ≡ fences =
    u16_same new b4 FENCES_AT (set.others 26 (λ le. omega arith) (λ le. omega arith))
    (set.others 27 (λ le. omega arith) (λ le. omega arith)) ∙
    (ap (λ (x : List ℕ). u16_at x FENCES_AT) e4 ∙
    u16_again b3 FENCES_AT fences (omega (arith, l1, l2, l3)) small_fences) in
    let low_flag : u16_at new FENCES_AT % 2 ≡ u16_at old FENCES_AT % 2 =
    ap (λ (n : ℕ). n % 2) flags ∙ low_bit in
    let high_flag : u16_at new FENCES_AT / 2 % 2 ≡ 1 = ap (λ (n : ℕ). n / 2 % 2) flags ∙ high_bit in
    record {
      size = omega (arith, l1, l2, l3, l4, l5);
      common = λ k below. outer k (λ le. omega arith) (λ le. omega arith) (λ le. omega arith)
          (λ le. omega arith) ∙ inner k (omega arith);
      level = u16_same new old 16
          (outer 16 (λ le. omega arith) (λ le. omega arith) (λ le. omega arith) (λ le. omega arith) ∙
          inner 16 (omega arith))
          (outer 17 (λ le. omega arith) (λ le. omega arith) (λ le. omega arith) (λ le. omega arith) ∙
          inner 17 (omega arith));
      right = right;
      there_low = ap (λ (n : ℕ). n == 1) low_flag;
      there_high = ap (λ (n : ℕ). n == 1) high_flag;
      low = record {
        bytes = λ k below. outer (CONTENT_AT + k) (λ le. omega arith) (λ le. omega arith)
            (λ le. omega arith) (λ le. omega arith) ∙ inner (CONTENT_AT + k) (omega (arith, high_is));
        there = omega (arith, high_is);
        here = omega (arith, high_is, l1, l2, l3, l4, l5);
      };
      high = high_stands (record {
        bytes = λ k below. outer (high + k) (λ le. omega arith) (λ le. omega arith)
            (λ le. omega arith) (λ le. omega arith) ∙ p2.bytes k below;
        there = omega (arith, sizes);
        here = omega (arith, l1, l2, l3, l4, l5);
      });
      entries = entries_stand (record {
        bytes = λ k below. outer (high + fl + k) (λ le. omega arith) (λ le. omega arith)
            (λ le. omega arith) (λ le. omega arith) ∙ (p2.others (high + fl + k) (λ le. omega arith) ∙
            p1.bytes k below);
        there = omega (arith, first_is, len_is);
        here = omega (arith, l1, l2, l3, l4, l5);
      });
      count_is = set.count_is;
      end_is = set.end_is ∙ end_same;
    }
  where
    right_byte : (k : ℕ) → 20 ≤ k → k < 24 → byte new k ≡ byte b3 k
    right_byte k from_here below = set.others k (λ le. omega arith) (λ le. omega arith) ∙
        (ap (λ (x : List ℕ). byte x k) e4 ∙ byte_apart16 b3 FENCES_AT fences k (λ le. omega arith))

    high_stands : Stands other new CONTENT_AT high fl
        → Stands other new CONTENT_AT (high_at old) (8 + key_len other CONTENT_AT)
    high_stands s =
        subst (λ (x : ℕ). Stands other new CONTENT_AT (high_at old) x) fl_is
        (subst (λ (x : ℕ). Stands other new CONTENT_AT x fl) high_is s)

    entries_stand : Stands old new first (high + fl) len
        → Stands old new (first_at old) (high_at old + (8 + key_len other CONTENT_AT))
        (from - first_at old)
    entries_stand s =
        subst (λ (x : ℕ). Stands old new (first_at old) (high_at old + x) (from - first_at old)) fl_is
        (subst (λ (x : ℕ). Stands old new (first_at old) (x + fl) (from - first_at old)) high_is
        (subst (λ (x : ℕ). Stands old new (first_at old) (high + fl) x) len_is
        (subst (λ (x : ℕ). Stands old new x (high + fl) len) first_is s)))

    end_same : high + fl + len
        ≡ high_at old + (8 + key_len other CONTENT_AT) + (from - first_at old)
    end_same = omega (arith, fl_is, high_is, len_is)
