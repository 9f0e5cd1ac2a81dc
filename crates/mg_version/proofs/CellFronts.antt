-- What a spelling is like, and which bytes begin one.
use Rattle.std.proofs.Common.{◌≡◌, ℕ, zero, suc, ◌+◌, ◌-◌, ◌<◌, ◌≤◌, ◌⊎◌, Bool, true, false, List, [], ◌∷◌, ◌++◌, length, take, drop, replicate, Option, Some, None, refl, sym, ap, ◌∙◌, arith, inl, inr}
use Rattle.std.specs.Prelude.{nat_lt, if◌then◌else◌}
use Rattle.std.proofs.lemmas.Bool.{cases_lt}
use Rattle.std.proofs.lemmas.List.{get_or-drop, get_or-take, get_or_append_left, get_or-append_right, get_or_past, length-append, length-drop, length-take, length-replicate, get_or-replicate}
use Rattle.mg_base.specs.Fields.{byte, u16_at}
use Rattle.mg_version.specs.declared.cell.Link.{Link}
use Rattle.mg_version.specs.declared.cell.Version.{Version}
use Rattle.mg_version.specs.declared.cell.Cell.{Cell}
use Rattle.mg_version.specs.declared.cell.Cell.TheVariants as cells
use Rattle.mg_version.specs.Cells.{AreBytes, IsCell, IsSpelling, IsCellPrefix, cell_bytes}
use Rattle.mg_version.specs.CellReading.{link_in, body_at, version_in, HasVersionHead}
use Rattle.mg_version.proofs.CellSpelled.{anchor_spelled, version_spelled}

-- an anchor's first byte and length, or a version's fields
abbrev pub IsShaped : List ℕ → Type 0
IsShaped b = ((byte b 0 ≡ 1) × (length b ≡ 11)) ⊎ ((byte b 0 ≡ 2) × HasVersionHead b)

version_head : (v : Version) (deleted : Bool) (back : Option Link) → v.deleted ≡ deleted → v.back
    ≡ back → 1 ≤ v.format → HasVersionHead (cell_bytes (cells.Version v))
unfolding cell_bytes
version_head v true None is_deleted is_back stored =
    rw (is_deleted, is_back) (record {
      flags = omega arith;
      stored = omega arith;
      whole =
          omega arith;
    })
version_head v false None is_deleted is_back stored =
    rw (is_deleted, is_back) (record {
      flags = omega arith;
      stored = omega arith;
      whole =
          omega arith;
    })
version_head v true (Some link) is_deleted is_back stored =
    rw (is_deleted, is_back) (record {
      flags = omega arith;
      stored = omega arith;
      whole =
          omega arith;
    })
version_head v false (Some link) is_deleted is_back stored =
    rw (is_deleted, is_back) (record {
      flags = omega arith;
      stored = omega arith;
      whole =
          omega arith;
    })

pub shaped : (cell : Cell) → IsCell cell → IsShaped (cell_bytes cell)
unfolding cell_bytes
shaped (cells.Anchor link) fits = inl (refl, refl)
shaped (cells.Version v) fits = inr (refl, version_head v v.deleted v.back refl refl fits.stored)

-- the bytes that begin a cell, and the spelling that they begin
pub record Begun (b : List ℕ) (n : ℕ) : Type 0 where
  pub whole : List ℕ
  pub same : (k : ℕ) → k < n → byte whole k ≡ byte b k
  pub long : n ≤ length whole
  pub is_shaped : IsShaped whole

pub begun : (b : List ℕ) (n : ℕ) → n ≤ length b → IsCellPrefix (take n b) → Begun b n
begun b n inside prefix =
    let len : length (take n b) ≡ n = omega (arith, length-take n b) in
    record {
      whole = cell_bytes prefix.cell;
      same = λ k below. ap (λ (x : List ℕ). byte x k) prefix.begins ∙
          (get_or_append_left (take n b) prefix.more 0 k (omega arith) ∙ get_or-take n b k 0 below);
      long = omega (arith, ap length prefix.begins, length-append (take n b) prefix.more);
      is_shaped = shaped prefix.cell prefix.is_cell;
    }

pub spelled_shaped : (b : List ℕ) (cell : Cell) → IsSpelling b cell → IsShaped b
spelled_shaped b cell is = rw is.spelled (shaped cell is.is_cell)

pub bytes_take : (n : ℕ) (b : List ℕ) → AreBytes b → AreBytes (take n b)
bytes_take n b bytes i = elim (cases_lt i n) [
  | inl inside ↦ rw (get_or-take n b i 0 inside) (bytes i)
  | inr past ↦ rw (get_or_past {X = ℕ} (take n b) i 0 (omega (
    arith,
    length-take n b,
  ))) (omega arith)
]

bytes_blank : (n : ℕ) → AreBytes (replicate n 0)
bytes_blank n i = elim (cases_lt i n) [
  | inl inside ↦ rw (get_or-replicate {A = ℕ} n i 0 0 inside) (omega arith)
  | inr past ↦ rw (get_or_past {X = ℕ} (replicate n 0) i 0 (omega (
    arith,
    length-replicate {A = ℕ} n 0,
  ))) (omega arith)
]

bytes_append : (x y : List ℕ) → AreBytes x → AreBytes y → AreBytes (x ++ y)
bytes_append x y first second i = elim (cases_lt i (length x)) [
  | inl inside ↦ rw (get_or_append_left x y 0 i inside) (first i)
  | inr behind ↦ rw (get_or-append_right x y (length x) i 0 refl behind) (second (i - length x))
]

-- an anchor's first byte, and no more bytes than an anchor has
pub begins_anchor : (p : List ℕ) → AreBytes p → 0 < length p → length p ≤ 11 → byte p 0 ≡ 1
    → IsCellPrefix p
begins_anchor p bytes some short kind =
    let more : List ℕ = replicate (11 - length p) 0 in
    let more_len : length more ≡ 11 - length p = length-replicate {A = ℕ} (11 - length p) 0 in
    let first : byte (p ++ more) 0 ≡ 1 = get_or_append_left p more 0 0 some ∙ kind in
    let len : length (p ++ more) ≡ 11 = omega (arith, length-append p more) in
    let spelled =
    anchor_spelled (p ++ more) (bytes_append p more bytes (bytes_blank
    (11 - length p))) first len in
    record {
      cell = cells.Anchor (link_in (p ++ more) 1);
      is_cell = spelled.is_cell;
      more = more;
      begins = sym spelled.spelled;
    }

-- what may follow where a version's fields break off
filler : List ℕ
filler = 0 ∷ 0 ∷ 0 ∷ 1 ∷ replicate 14 0

filler_bytes : AreBytes filler
unfolding filler
filler_bytes i = bytes_append (0 ∷ 0 ∷ 0 ∷ 1 ∷ []) (replicate 14 0) four (bytes_blank 14) i
  where
    four : AreBytes (0 ∷ 0 ∷ 0 ∷ 1 ∷ [])
    four zero = omega arith
    four (suc zero) = omega arith
    four (suc (suc zero)) = omega arith
    four (suc (suc (suc zero))) = omega arith
    four (suc (suc (suc (suc i)))) = omega arith

pub body_small : (b : List ℕ) → body_at b ≤ 18
body_small b = small (nat_lt (byte b 1) 2)
  where
    small : (without : Bool) → (if without then 8 else 18) ≤ 18
    small true = omega arith
    small false = omega arith

-- a version's first fields, none of them refused, and no more bytes than they have
pub begins_version : (p : List ℕ) → AreBytes p → 0 < length p → length p ≤ 18 → byte p 0 ≡ 2
    → byte p 1 < 4 → (4 ≤ length p → 1 ≤ u16_at p 2) → IsCellPrefix p
unfolding filler
begins_version p bytes some short kind flags stored =
    let more : List ℕ = drop (length p) filler in
    let more_len : length more ≡ 18 - length p = length-drop (length p) filler in
    let len : length (p ++ more) ≡ 18 = omega (arith, length-append p more) in
    let more_bytes : AreBytes more =
    λ i. rw (get_or-drop (length p) filler i 0) (filler_bytes (length p + i)) in
    let low : (k : ℕ) → k < length p → byte (p ++ more) k ≡ byte p k =
    λ k inside. get_or_append_left p more 0 k inside in
    let high : (k : ℕ) → length p ≤ k → byte (p ++ more) k ≡ byte filler k = λ k behind.
    let back : length p + (k - length p) ≡ k = omega arith in
    get_or-append_right p more (length p) k 0 refl behind ∙
    (get_or-drop (length p) filler (k - length p) 0 ∙ ap (λ (x : ℕ). byte filler x) back) in
    let head : HasVersionHead (p ++ more) = record {
      flags = elim (cases_lt 1 (length p)) [
        | inl inside ↦ rw (low 1 inside) flags
        | inr behind ↦ rw (high 1 behind) (omega arith)
      ];
      stored = elim (cases_lt 3 (length p)) [
        | inl inside ↦ (let low2 : byte (p ++ more) 2 ≡ byte p 2 = low 2 (omega arith) in
            rw (low2, low 3 inside) (stored (omega arith)))
        | inr behind ↦ (let high3 : byte (p ++ more) 3 ≡ 1 = high 3 behind in omega arith)
      ];
      whole = rw len (body_small (p ++ more));
    } in
    let spelled = version_spelled (p ++ more) (bytes_append p more bytes more_bytes) (low 0 some ∙
    kind) head in
    record {
      cell = cells.Version (version_in (p ++ more));
      is_cell = spelled.is_cell;
      more = more;
      begins = sym spelled.spelled;
    }

-- every cell begins with nothing
pub begins_empty : IsCellPrefix []
begins_empty =
    let eleven : List ℕ = 1 ∷ replicate 10 0 in
    let spelled = anchor_spelled eleven (bytes_append (1 ∷
    []) (replicate 10 0) one (bytes_blank 10)) refl refl in
    record {
      cell = cells.Anchor (link_in eleven 1);
      is_cell = spelled.is_cell;
      more = eleven;
      begins = sym spelled.spelled;
    }
  where
    one : AreBytes (1 ∷ [])
    one zero = omega arith
    one (suc i) = omega arith
