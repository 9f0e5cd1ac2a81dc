-- Laws of bytes that stand at another place: what is read of them there.
use Rattle.std.specs.Prelude.{◌≡◌, ℕ, zero, suc, ◌+◌, ◌-◌, ◌<◌, ◌≤◌, Bool, true, false, List, length, take, drop, if◌then◌else◌}
use Rattle.std.proofs.Common.{refl, sym, ◌∙◌, arith, get_or}
use Rattle.std.proofs.lemmas.List.{ext_get_or, get_or-drop, get_or-take, length-drop, length-take}
use Rattle.mg_base.specs.Fields.{byte, u16_at, u32_at}
use Rattle.mg_node.specs.declared.entry.Entry.{Entry}
use Rattle.mg_node.specs.declared.entry.TheConstants.{KEY_AT, RECORD_LEN}
use Rattle.mg_node.specs.NodePage.{end_of, entry_at, key_len}
use Rattle.mg_node.specs.NodeWalk.{entries_from, place_from}
use Rattle.mg_node.specs.NodeWalkLaws.{end_of-least, place_from-least}
use Rattle.mg_node_writing.specs.Moves.{Stands, as_placed}

pub byte_stands : (old new : List ℕ) (from to len x y k : ℕ) → Stands old new from to len → k < len
    → x ≡ to + k → y ≡ from + k → byte new x ≡ byte old y
byte_stands old new from to len x y k s inside x_is y_is = rw (x_is, y_is) (s.bytes k inside)

pub u16_stands : (old new : List ℕ) (from to len x y k : ℕ) → Stands old new from to len
    → k + 2 ≤ len → x ≡ to + k → y ≡ from + k → u16_at new x ≡ u16_at old y
u16_stands old new from to len x y k s inside x_is y_is =
    let b0 = byte_stands old new from to len x y k s (omega arith) x_is y_is in
    let b1 = byte_stands old new from to len (x + 1) (y + 1) (k + 1) s (omega arith) (omega arith)
    (omega arith) in
    omega (arith, b0, b1)

pub u32_stands : (old new : List ℕ) (from to len x y k : ℕ) → Stands old new from to len
    → k + 4 ≤ len → x ≡ to + k → y ≡ from + k → u32_at new x ≡ u32_at old y
u32_stands old new from to len x y k s inside x_is y_is =
    let b0 = byte_stands old new from to len x y k s (omega arith) x_is y_is in
    let b1 = byte_stands old new from to len (x + 1) (y + 1) (k + 1) s (omega arith) (omega arith)
    (omega arith) in
    let b2 = byte_stands old new from to len (x + 2) (y + 2) (k + 2) s (omega arith) (omega arith)
    (omega arith) in
    let b3 = byte_stands old new from to len (x + 3) (y + 3) (k + 3) s (omega arith) (omega arith)
    (omega arith) in
    omega (arith, b0, b1, b2, b3)

-- so many bytes as a list
pub key_stands : (old new : List ℕ) (from to len x y k n : ℕ) → Stands old new from to len
    → k + n ≤ len → x ≡ to + k → y ≡ from + k → take n (drop x new) ≡ take n (drop y old)
key_stands old new from to len x y k n s inside x_is y_is =
    ext_get_or 0 (take n (drop x new)) (take n (drop y old)) long each
  where
    long : length (take n (drop x new)) ≡ length (take n (drop y old))
    long =
        let here = s.here in let there = s.there in
        let a = length-take n (drop x new) in let b = length-take n (drop y old) in
        let c = length-drop x new in let d = length-drop y old in omega (arith, a, b, c, d)

    each : (i : ℕ) → i < length (take n (drop x new))
        → get_or (take n (drop x new)) i 0 ≡ get_or (take n (drop y old)) i 0
    each i below =
        let a = length-take n (drop x new) in
        let short : i < n = omega (arith, a) in
        let b = byte_stands old new from to len (x + i) (y + i) (k + i) s (omega arith) (omega arith)
        (omega arith) in
        get_or-take n (drop x new) i 0 short ∙ (get_or-drop x new i 0 ∙
        (b ∙ (sym (get_or-drop y old i 0) ∙ sym (get_or-take n (drop y old) i 0 short))))

made : List ℕ → ℕ → ℕ → ℕ → Entry
made key page slot child = record {
  key = key;
  rec = record { page = record { 0 = page }; slot = slot };
  child = record { 0 = child };
}

same_entry : (k l : List ℕ) (p q s t c d : ℕ) → k ≡ l → p ≡ q → s ≡ t → c ≡ d
    → made k p s c ≡ made l q t d
same_entry k l p q s t c d key page slot child = rw (key, page, slot, child) refl

pub same_parts : (w : Bool) (a b : List ℕ) (x y : ℕ)
    → take (key_len a x) (drop (x + KEY_AT) a) ≡ take (key_len b y) (drop (y + KEY_AT) b)
    → u32_at a (x + KEY_AT + key_len a x) ≡ u32_at b (y + KEY_AT + key_len b y)
    → u16_at a (x + KEY_AT + key_len a x + 4) ≡ u16_at b (y + KEY_AT + key_len b y + 4)
    → (if w then u32_at a (x + KEY_AT + key_len a x + RECORD_LEN) else 0)
    ≡ (if w then u32_at b (y + KEY_AT + key_len b y + RECORD_LEN) else 0)
    → entry_at w a x ≡ entry_at w b y
unfolding made
same_parts w a b x y key page slot child = same_entry _ _ _ _ _ _ _ _ key page slot child

child_stands : (w : Bool) (m n : ℕ) → (w ≡ true → m ≡ n)
    → (if w then m else 0) ≡ (if w then n else 0)
child_stands true m n same = same refl
child_stands false m n same = refl

-- an entry that stands at another place
pub len_stands : (old new : List ℕ) (from to len : ℕ) → Stands old new from to len → 2 ≤ len
    → key_len new to ≡ key_len old from
len_stands old new from to len s inside =
    u16_stands old new from to len to from 0 s inside (omega arith) (omega arith)

pub end_stands : (w : Bool) (old new : List ℕ) (from to len : ℕ) → Stands old new from to len
    → 2 ≤ len → end_of w new to + from ≡ end_of w old from + to
end_stands w old new from to len s inside =
    let same = len_stands old new from to len s inside in
    let a = end_of-least w new to in let b = end_of-least w old from in
    omega (arith, same, a, b)

pub entry_stands : (w : Bool) (old new : List ℕ) (from to len : ℕ) → Stands old new from to len
    → end_of w old from ≤ from + len → entry_at w new to ≡ entry_at w old from
entry_stands w old new from to len s inside =
    let plain : end_of false old from ≤ from + len = without w inside in
    let same : key_len new to ≡ key_len old from = len_stands old new from to len s (omega arith) in
    same_parts w new old to from
    (rw same (key_stands old new from to len (to + KEY_AT) (from + KEY_AT) 2 (key_len old from) s
    (omega arith) (omega arith) (omega arith)))
    (rw same (u32_stands old new from to len (to + KEY_AT + key_len old from)
    (from + KEY_AT + key_len old from) (2 + key_len old from) s (omega arith) (omega arith)
    (omega arith)))
    (rw same (u16_stands old new from to len (to + KEY_AT + key_len old from + 4)
    (from + KEY_AT + key_len old from + 4) (2 + key_len old from + 4) s (omega arith) (omega arith)
    (omega arith)))
    (child_stands w _ _ (λ is. rw same (u32_stands old new from to len
    (to + KEY_AT + key_len old from + RECORD_LEN) (from + KEY_AT + key_len old from + RECORD_LEN)
    (2 + key_len old from + 6) s (with_child w is inside) (omega arith) (omega arith))))
  where
    without : (v : Bool) → end_of v old from ≤ from + len → end_of false old from ≤ from + len
    without true le = omega arith
    without false le = le

    with_child : (v : Bool) → v ≡ true → end_of v old from ≤ from + len
        → 2 + key_len old from + 6 + 4 ≤ len
    with_child true is le = omega arith
    with_child false is le = absurd cc

-- what stands behind an entry stands at another place too
pub stands_behind : (old new : List ℕ) (from to len skip : ℕ) → Stands old new from to len
    → skip ≤ len → (from' to' : ℕ) → from' ≡ from + skip → to' ≡ to + skip
    → Stands old new from' to' (len - skip)
stands_behind old new from to len skip s inside from' to' from_is to_is =
    let there = s.there in let here = s.here in record {
      bytes = λ k below. byte_stands old new from to len (to' + k) (from' + k) (skip + k) s (omega arith)
          (omega arith) (omega arith);
      there = omega arith;
      here = omega arith;
    }

-- so many entries that stand at another place
pub walk_stands : (w : Bool) (old new : List ℕ) (from to len n : ℕ) → Stands old new from to len
    → place_from w old from n ≤ from + len
    → (entries_from w new to n ≡ entries_from w old from n)
    × (place_from w new to n + from ≡ place_from w old from n + to)
walk_stands w old new from to len zero s inside = (refl, omega arith)
walk_stands w old new from to len (suc n) s inside =
    let least = end_of-least w old from in
    let up = place_from-least w old (end_of w old from) n in
    let first : end_of w old from ≤ from + len = omega (arith, up) in
    let two : 2 ≤ len = at_least w first in
    let ends = end_stands w old new from to len s two in
    let skip = end_of w old from - from in
    let behind : Stands old new (end_of w old from) (end_of w new to) (len - skip) =
    stands_behind old new from to len skip s (omega (arith, least)) (end_of w old from)
    (end_of w new to) (omega (arith, least)) (omega (arith, least, ends)) in
    let rest = walk_stands w old new (end_of w old from) (end_of w new to) (len - skip) n behind
    (omega (arith, least, inside, first)) in
    let here = entry_stands w old new from to len s first in
    (rw (here, rest.0) refl, omega (arith, ends, rest.1))
  where
    at_least : (v : Bool) → end_of v old from ≤ from + len → 2 ≤ len
    at_least true le = omega arith
    at_least false le = omega arith

-- an entry as it stands on a page, from its parts
pub entry_parts : (w : Bool) (a : List ℕ) (x : ℕ) (e : Entry)
    → take (key_len a x) (drop (x + KEY_AT) a) ≡ e.key
    → u32_at a (x + KEY_AT + key_len a x) ≡ e.rec.page.0
    → u16_at a (x + KEY_AT + key_len a x + 4) ≡ e.rec.slot
    → (if w then u32_at a (x + KEY_AT + key_len a x + RECORD_LEN) else 0)
    ≡ (if w then e.child.0 else 0)
    → entry_at w a x ≡ as_placed w e
unfolding made
entry_parts w a x e key page slot child = same_entry _ _ _ _ _ _ _ _ key page slot child
