-- Where bytes stop being a cell, and that they are no other.
use Rattle.std.proofs.Common.{◌≡◌, ◌≢◌, ℕ, ◌<◌, ◌≤◌, ◌⊎◌, List, [], ◌∷◌, length, take, Result, Ok, Err, refl, sym, ap, ◌∙◌, arith, inl, inr}
use Rattle.std.proofs.lemmas.Bool.{cases_lt}
use Rattle.std.proofs.lemmas.List.{get_or-take, get_or_past, length-take, take_all}
use Rattle.mg_base.specs.Fields.{byte, u16_at}
use Rattle.mg_version.specs.declared.cell.Cell.{Cell}
use Rattle.mg_version.specs.declared.cell.CellFault.{CellFault}
use Rattle.mg_version.specs.declared.cell.CellFault.TheVariants as faults
use Rattle.mg_version.specs.CellLaws.{one_spelling}
use Rattle.mg_version.specs.Cells.{AreBytes, IsSpelling, RefusesCell}
use Rattle.mg_version.specs.CellReading.{body_at}
use Rattle.mg_version.proofs.CellFronts.{IsShaped, begun, spelled_shaped, bytes_take, begins_anchor, begins_version, begins_empty, body_small}

-- the first byte is of no kind, or absent
pub refuses_kind : (b : List ℕ) → byte b 0 ≢ 1 → byte b 0 ≢ 2 → RefusesCell b 0
refuses_kind b no_anchor no_version = record {
  inside = omega arith;
  begins = begins_empty;
  longest = λ n more inside prefix. let of = begun b n inside prefix in
      no_kind of.whole (of.same 0 more) of.is_shaped;
  none = λ cell is. no_kind b refl (spelled_shaped b cell is);
}
  where
    no_kind : (whole : List ℕ) → byte whole 0 ≡ byte b 0 → IsShaped whole → ⊥
    no_kind whole same (inl anchor) = no_anchor (sym same ∙ anchor.0)
    no_kind whole same (inr version) = no_version (sym same ∙ version.0)

-- a byte other than 0 is there
some_bytes : (b : List ℕ) → 0 < byte b 0 → 0 < length b
some_bytes [] is = absurd (omega arith)
some_bytes (x ∷ b) is = omega arith

-- an anchor that breaks off
pub refuses_short_anchor : (b : List ℕ) → AreBytes b → byte b 0 ≡ 1 → length b < 11
    → RefusesCell b (length b)
refuses_short_anchor b bytes kind short = record {
  inside = omega arith;
  begins = rw (take_all (length b) b (omega arith)) (begins_anchor b bytes (some_bytes b
      (omega arith)) (omega arith) kind);
  longest = λ n more inside prefix. absurd (omega arith);
  none = λ cell is. no_cell (spelled_shaped b cell is);
}
  where
    no_cell : IsShaped b → ⊥
    no_cell (inl anchor) = omega (arith, anchor.1)
    no_cell (inr version) = omega (arith, version.0)

-- an anchor with bytes behind it
pub refuses_long_anchor : (b : List ℕ) → AreBytes b → byte b 0 ≡ 1 → 11 < length b
    → RefusesCell b 11
refuses_long_anchor b bytes kind long = record {
  inside = omega arith;
  begins = begins_anchor (take 11 b) (bytes_take 11 b bytes) (omega (
    arith,
    length-take 11 b,
  )) (omega (arith, length-take 11 b)) (get_or-take 11 b 0 0 (omega arith) ∙
      kind);
  longest = λ n more inside prefix. let of = begun b n inside prefix in
      no_more n more of.whole (of.same 0 (omega arith)) of.long of.is_shaped;
  none = λ cell is. no_more (length b) long b refl (omega arith) (spelled_shaped b cell is);
}
  where
    no_more : (n : ℕ) → 11 < n → (whole : List ℕ) → byte whole 0 ≡ byte b 0 → n ≤ length whole
        → IsShaped whole → ⊥
    no_more n more whole same holds (inl anchor) = omega (arith, anchor.1)
    no_more n more whole same holds (inr version) = omega (arith, version.0)

-- a version with other flags than the two
pub refuses_flags : (b : List ℕ) → AreBytes b → byte b 0 ≡ 2 → 4 ≤ byte b 1 → RefusesCell b 1
refuses_flags b bytes kind other =
    let long : 2 ≤ length b = elim (cases_lt 1 (length b)) [
      | inl inside ↦ omega arith
      | inr past ↦ absurd (let none : byte b 1 ≡ 0 = get_or_past b 1 0 past in omega arith)
    ] in
    let len : length (take 1 b) ≡ 1 = omega (arith, length-take 1 b) in
    record {
      inside = omega arith;
      begins = begins_version (take 1 b) (bytes_take 1 b bytes) (omega arith) (omega arith)
          (get_or-take 1 b 0 0 (omega arith) ∙ kind)
          (let past : byte (take 1 b) 1 ≡ 0 = get_or_past (take 1 b) 1 0 (omega arith) in
          omega arith) (λ enough. absurd (omega arith));
      longest = λ n more inside prefix. let of = begun b n inside prefix in
          no_flags of.whole (of.same 0 (omega arith)) (of.same 1 more) of.is_shaped;
      none = λ cell is. no_flags b refl refl (spelled_shaped b cell is);
    }
  where
    no_flags : (whole : List ℕ) → byte whole 0 ≡ byte b 0 → byte whole 1 ≡ byte b 1 → IsShaped whole
        → ⊥
    no_flags whole same flags (inl anchor) = omega (arith, anchor.0)
    no_flags whole same flags (inr version) = omega (arith, version.1.flags)

-- a version of format 0
pub refuses_format : (b : List ℕ) → AreBytes b → byte b 0 ≡ 2 → byte b 1 < 4 → 4 ≤ length b
    → u16_at b 2 ≡ 0 → RefusesCell b 3
refuses_format b bytes kind flags long no_format =
    let len : length (take 3 b) ≡ 3 = omega (arith, length-take 3 b) in
    record {
      inside = omega arith;
      begins = begins_version (take 3 b) (bytes_take 3 b bytes) (omega arith) (omega arith)
          (get_or-take 3 b 0 0 (omega arith) ∙ kind)
          (rw (get_or-take 3 b 1 0 (omega arith)) flags) (λ enough. absurd (omega arith));
      longest = λ n more inside prefix. let of = begun b n inside prefix in
          stored of.whole (of.same 0 (omega arith)) (of.same 2 (omega arith))
          (of.same 3 more) of.is_shaped;
      none = λ cell is. stored b refl refl refl (spelled_shaped b cell is);
    }
  where
    stored : (whole : List ℕ) → byte whole 0 ≡ byte b 0 → byte whole 2 ≡ byte b 2 → byte whole 3
        ≡ byte b 3 → IsShaped whole → ⊥
    stored whole same low high (inl anchor) = omega (arith, anchor.0)
    stored whole same low high (inr version) = omega (arith, version.1.stored)

-- a version that breaks off before its row
pub refuses_short_version : (b : List ℕ) → AreBytes b → byte b 0 ≡ 2 → byte b 1 < 4
    → (4 ≤ length b → 1 ≤ u16_at b 2) → length b < body_at b → RefusesCell b (length b)
refuses_short_version b bytes kind flags stored short = record {
  inside = omega arith;
  begins = rw (take_all (length b) b (omega arith)) (begins_version b bytes (some_bytes b
      (omega arith)) (omega (arith, body_small b)) kind flags stored);
  longest = λ n more inside prefix. absurd (omega arith);
  none = λ cell is. no_cell (spelled_shaped b cell is);
}
  where
    no_cell : IsShaped b → ⊥
    no_cell (inl anchor) = omega (arith, anchor.0)
    no_cell (inr version) = omega (arith, version.1.whole)

abbrev pub ok : Cell → Result Cell CellFault
ok cell = Ok cell

-- bytes that spell a cell are read as no other, by an answer that is not want of memory
pub only_cell : (b : List ℕ) (cell : Cell) → IsSpelling b cell → (other : Cell) → IsSpelling b other
    → (ok cell ≡ ok other) ⊎ (ok cell ≡ Err faults.Memory)
only_cell b cell is other also = inl (ap ok (one_spelling b cell other is also))
