-- Bytes that are the spelling of a cell.
use Rattle.std.proofs.Common.{◌≡◌, ℕ, zero, suc, ◌+◌, ◌*◌, ◌/◌, ◌%◌, ◌<◌, ◌≤◌, Bool, true, false, ltb, List, [], ◌∷◌, ◌++◌, length, drop, Some, None, refl, sym, ap, ◌∙◌, arith, inl, inr}
use Rattle.std.specs.Prelude.{IfSome, ◌==◌, nat_lt, if◌then◌else◌}
use Rattle.std.proofs.lemmas.Bool.{cases_lt, lt-ltb, le-ltb}
use Rattle.std.proofs.lemmas.List.{append-nil, drop_more, drop_all, get_or-drop}
use Rattle.mg_base.specs.Fields.{byte}
use Rattle.mg_version.specs.declared.cell.Link.{Link}
use Rattle.mg_version.specs.declared.cell.Cell.TheVariants as cells
use Rattle.mg_version.specs.Cells.{AreBytes, IsLink, IsVersion, IsSpelling, link_bytes, back_bytes, flags_of, cell_bytes}
use Rattle.mg_version.specs.CellReading.{link_in, body_at, version_in, HasVersionHead}

next : (b : List ℕ) (i j : ℕ) → j ≡ i + 1 → i < length b → drop i b ≡ byte b i ∷ drop j b
next b i j e inside = rw e (drop_more b i 0 inside)

low_of : (w x y z : ℕ) → w < 256 → x < 256 → y < 256 → z < 256
    → (w + 256 * x + 65536 * y + 16777216 * z) % 256 ≡ w
low_of w x y z hw hx hy hz = omega arith

second_of : (w x y z : ℕ) → w < 256 → x < 256 → y < 256 → z < 256
    → (w + 256 * x + 65536 * y + 16777216 * z) / 256 % 256 ≡ x
second_of w x y z hw hx hy hz = omega arith

third_of : (w x y z : ℕ) → w < 256 → x < 256 → y < 256 → z < 256
    → (w + 256 * x + 65536 * y + 16777216 * z) / 65536 % 256 ≡ y
third_of w x y z hw hx hy hz = omega arith

high_of : (w x y z : ℕ) → w < 256 → x < 256 → y < 256 → z < 256
    → (w + 256 * x + 65536 * y + 16777216 * z) / 16777216 ≡ z
high_of w x y z hw hx hy hz = omega arith

-- the bytes of a link, and then the rest
link_parts : (b : List ℕ) (at : ℕ) → AreBytes b → at + 10 ≤ length b
    → link_bytes (link_in b at) ++ drop (at + 10) b ≡ drop at b
link_parts b at bytes long =
    let p0 = low_of (byte b at) (byte b (at + 1)) (byte b (at + 2)) (byte b (at
    + 3)) (bytes at) (bytes (at + 1)) (bytes (at + 2)) (bytes (at + 3)) in
    let p1 = second_of (byte b at) (byte b (at + 1)) (byte b (at + 2)) (byte b (at
    + 3)) (bytes at) (bytes (at + 1)) (bytes (at + 2)) (bytes (at + 3)) in
    let p2 = third_of (byte b at) (byte b (at + 1)) (byte b (at + 2)) (byte b (at
    + 3)) (bytes at) (bytes (at + 1)) (bytes (at + 2)) (bytes (at + 3)) in
    let p3 = high_of (byte b at) (byte b (at + 1)) (byte b (at + 2)) (byte b (at
    + 3)) (bytes at) (bytes (at + 1)) (bytes (at + 2)) (bytes (at + 3)) in
    let s0 : (byte b (at + 4) + 256 * byte b (at + 4 + 1)) % 256 ≡ byte b (at + 4) =
    omega (arith, bytes (at + 4)) in
    let s1 : (byte b (at + 4) + 256 * byte b (at + 4 + 1)) / 256 ≡ byte b (at + 4 + 1) =
    omega (arith, bytes (at + 4)) in
    let t0 = low_of (byte b (at + 6)) (byte b (at + 6 + 1)) (byte b (at + 6 + 2)) (byte b (at + 6
    + 3)) (bytes (at + 6)) (bytes (at + 6 + 1)) (bytes (at + 6 + 2)) (bytes (at + 6 + 3)) in
    let t1 = second_of (byte b (at + 6)) (byte b (at + 6 + 1)) (byte b (at + 6 + 2)) (byte b (at + 6
    + 3)) (bytes (at + 6)) (bytes (at + 6 + 1)) (bytes (at + 6 + 2)) (bytes (at + 6 + 3)) in
    let t2 = third_of (byte b (at + 6)) (byte b (at + 6 + 1)) (byte b (at + 6 + 2)) (byte b (at + 6
    + 3)) (bytes (at + 6)) (bytes (at + 6 + 1)) (bytes (at + 6 + 2)) (bytes (at + 6 + 3)) in
    let t3 = high_of (byte b (at + 6)) (byte b (at + 6 + 1)) (byte b (at + 6 + 2)) (byte b (at + 6
    + 3)) (bytes (at + 6)) (bytes (at + 6 + 1)) (bytes (at + 6 + 2)) (bytes (at + 6 + 3)) in
    let n0 = next b at (at + 1) refl (omega arith) in
    let n1 = next b (at + 1) (at + 2) (omega arith) (omega arith) in
    let n2 = next b (at + 2) (at + 3) (omega arith) (omega arith) in
    let n3 = next b (at + 3) (at + 4) (omega arith) (omega arith) in
    let n4 = next b (at + 4) (at + 4 + 1) refl (omega arith) in
    let n5 = next b (at + 4 + 1) (at + 6) (omega arith) (omega arith) in
    let n6 = next b (at + 6) (at + 6 + 1) refl (omega arith) in
    let n7 = next b (at + 6 + 1) (at + 6 + 2) (omega arith) (omega arith) in
    let n8 = next b (at + 6 + 2) (at + 6 + 3) (omega arith) (omega arith) in
    let n9 = next b (at + 6 + 3) (at + 10) (omega arith) (omega arith) in
    rw (p0, p1, p2, p3, s0, s1, t0, t1, t2, t3) (sym (n0 ∙
    rw (n1, n2, n3, n4, n5, n6, n7, n8, n9) refl))

link_fits : (b : List ℕ) (at : ℕ) → AreBytes b → IsLink (link_in b at)
link_fits b at bytes = record {
  page = omega (arith, bytes at, bytes (at + 1), bytes (at + 2), bytes (at + 3));
  slot = omega (arith, bytes (at + 4), bytes (at + 4 + 1));
  tx = omega (arith, bytes (at + 6), bytes (at + 6 + 1), bytes (at + 6 + 2), bytes (at + 6 + 3));
}

-- eleven bytes of which the first is an anchor's
pub anchor_spelled : (b : List ℕ) → AreBytes b → byte b 0 ≡ 1 → length b ≡ 11
    → IsSpelling b (cells.Anchor (link_in b 1))
unfolding cell_bytes
anchor_spelled b bytes kind len =
    let behind : drop 11 b ≡ [] = drop_all 11 b (omega arith) in
    let link : link_bytes (link_in b 1) ++ drop 11 b ≡ drop 1 b =
    link_parts b 1 bytes (omega arith) in
    let head : b ≡ byte b 0 ∷ drop 1 b = next b 0 1 refl (omega arith) in
    let rest : link_bytes (link_in b 1) ≡ drop 1 b = sym (append-nil (link_bytes (link_in b 1))) ∙
    (ap (λ (x : List ℕ). link_bytes (link_in b 1) ++ x) (sym behind) ∙ link) in
    record {
      is_cell = link_fits b 1 bytes;
      spelled = head ∙
          rw kind (ap (λ (x : List ℕ). 1 ∷ x) (sym rest));
    }

flags_again : (f : ℕ) (link : Link) → f < 4
    → flags_of (f % 2 == 1) (if nat_lt f 2 then None else Some link) ≡ f
flags_again zero link below = refl
flags_again (suc zero) link below = refl
flags_again (suc (suc zero)) link below = refl
flags_again (suc (suc (suc zero))) link below = refl
flags_again (suc (suc (suc (suc f)))) link below = absurd (omega arith)

body_parts : (b : List ℕ) → AreBytes b → body_at b ≤ length b
    → back_bytes (if nat_lt (byte b 1) 2 then None else Some (link_in b 8)) ++ drop (body_at b) b
    ≡ drop 8 b
body_parts b bytes = at (ltb (byte b 1) 2) refl
  where
    at : (without : Bool) → ltb (byte b 1) 2 ≡ without → body_at b ≤ length b
        → back_bytes (if nat_lt (byte b 1) 2 then None else Some (link_in b 8)) ++ drop
        (body_at b) b ≡ drop 8 b
    at true is whole = rw is refl
    at false is whole =
        let long : 18 ≤ length b = rw is at whole in
        rw is (link_parts b 8 bytes long)

version_fits : (b : List ℕ) → AreBytes b → HasVersionHead b → IsVersion (version_in b)
version_fits b bytes head = record {
  moved = refl;
  stored = head.stored;
  format = omega (arith, bytes 2, bytes 3);
  tx = omega (arith, bytes 4, bytes 5, bytes 6, bytes 7);
  back = back_fits (nat_lt (byte b 1) 2);
  body = λ i. rw get_or-drop (bytes (body_at b + i));
}
  where
    back_fits : (without : Bool) → IfSome (if without then None else Some (link_in b 8)) IsLink
    back_fits true = tt
    back_fits false = link_fits b 8 bytes

-- bytes whose first is a version's, with sound fields before the row
pub version_spelled : (b : List ℕ) → AreBytes b → byte b 0 ≡ 2 → HasVersionHead b
    → IsSpelling b (cells.Version (version_in b))
unfolding cell_bytes
version_spelled b bytes kind head =
    let long : 8 ≤ length b = elim (cases_lt (byte b 1) 2) [
      | inl without ↦ (let whole = rw (lt-ltb (byte b 1) 2 without) at head.whole in whole)
      | inr with_back ↦ (let whole = rw (le-ltb (byte b 1) 2 with_back) at head.whole in
          omega (arith, whole))
    ] in
    let flags = flags_again (byte b 1) (link_in b 8) head.flags in
    let f0 : (byte b 2 + 256 * byte b 3) % 256 ≡ byte b 2 = omega (arith, bytes 2) in
    let f1 : (byte b 2 + 256 * byte b 3) / 256 ≡ byte b 3 = omega (arith, bytes 2) in
    let t0 = low_of (byte b 4) (byte b 5) (byte b 6) (byte b 7) (bytes 4) (bytes 5) (bytes 6)
    (bytes 7) in
    let t1 = second_of (byte b 4) (byte b 5) (byte b 6) (byte b 7) (bytes 4) (bytes 5) (bytes 6)
    (bytes 7) in
    let t2 = third_of (byte b 4) (byte b 5) (byte b 6) (byte b 7) (bytes 4) (bytes 5) (bytes 6)
    (bytes 7) in
    let t3 = high_of (byte b 4) (byte b 5) (byte b 6) (byte b 7) (bytes 4) (bytes 5) (bytes 6)
    (bytes 7) in
    let body = body_parts b bytes head.whole in
    let n0 = next b 0 1 refl (omega arith) in
    let n1 = next b 1 2 refl (omega arith) in
    let n2 = next b 2 3 refl (omega arith) in
    let n3 = next b 3 4 refl (omega arith) in
    let n4 = next b 4 5 refl (omega arith) in
    let n5 = next b 5 6 refl (omega arith) in
    let n6 = next b 6 7 refl (omega arith) in
    let n7 = next b 7 8 refl (omega arith) in
    let parts : b ≡ 2 ∷ byte b 1 ∷ byte b 2 ∷ byte b 3 ∷ byte b 4 ∷ byte b 5 ∷ byte b 6 ∷ byte b 7 ∷
    drop 8 b = n0 ∙ rw (n1, n2, n3, n4, n5, n6, n7, kind) refl in
    record {
      is_cell = version_fits b bytes head;
      spelled = parts ∙ sym (rw (flags, f0, f1, t0, t1, t2, t3, body) refl);
    }
