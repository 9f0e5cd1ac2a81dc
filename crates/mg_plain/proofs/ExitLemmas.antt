-- What is said of an answer holds where a call fails; what is said of a row that was read, or of none.
use Rattle.std.proofs.Common.{◌≡◌, ◌≤◌, ◌<◌, ◌+◌, ℕ, zero, suc, true, false, ltb, ltb-false, ltb-true, [], ◌∷◌, length, get_or, Option, None, Some, Result, Ok, Err, IfOk, OnOk, IsErr, refl, sym, ap, ◌∙◌, subst, arith}
use Rattle.std.specs.Prelude.{slice_get}
use Rattle.mg_base.specs.declared.memory.Memory.{Memory}
use Rattle.mg_value.specs.declared.value.Value.{Value}
use Rattle.mg_model.specs.Changes.{Cells, KeyedRows}
use Rattle.mg_records.specs.declared.found.Found.{Found}
use Rattle.mg_plain.specs.Records.{FoundAt}
use Rattle.mg_plain.proofs.CallLemmas.{get_past}

pub no_answer : {T E : Type 0} (P : T → Type 0) (result : Result T E) → IsErr result → IfOk result P
no_answer P (Ok x) err = absurd cc
no_answer P (Err e) err = tt

pub no_deed : {T E : Type 0} (P : Type 0) (result : Result T E) → IsErr result → OnOk result P
no_deed P (Ok x) err = absurd cc
no_deed P (Err e) err = tt

pub none_found : (rows : KeyedRows) (at : ℕ) (result : Result (Option (Found ℕ)) Memory) → IsErr result
    → FoundAt rows at result
none_found rows at (Ok x) err = absurd cc
none_found rows at (Err memory) err = tt

-- past the last of the rows that were read there is none
pub none_past : (rows seen : KeyedRows) (at count : ℕ) → rows ≡ seen → count ≡ length rows → count ≤ at
    → None ≡ slice_get seen at
none_past rows seen at count is counted past =
    subst (λ (x : KeyedRows). None ≡ slice_get x at) is (get_past rows at (omega (arith, counted, past)))

pub none_read : (rows seen given : KeyedRows) (at : ℕ) → rows ≡ seen → given ≡ rows → false ≡ ltb at (length given)
    → None ≡ slice_get seen at
none_read rows seen given at is same past =
    subst (λ (x : KeyedRows). None ≡ slice_get x at) is (subst (λ (x : KeyedRows). None ≡ slice_get x at) same
    (get_past given at (ltb-false at (length given) (sym past))))

get_some : (rows : KeyedRows) (at : ℕ) (row : Value × Cells) → at < length rows → row ≡ get_or rows at row
    → Some row ≡ slice_get rows at
get_some [] at row inside is = absurd (omega arith)
get_some (r ∷ rows) zero row inside is = ap (λ (x : Value × Cells). Some x) is
get_some (r ∷ rows) (suc at) row inside is = get_some rows at row (omega arith) is

-- a copy of the row that was read is found, and the place behind it
pub row_read : (rows seen given : KeyedRows) (at : ℕ) (row copy : Value × Cells) → rows ≡ seen → given ≡ rows
    → true ≡ ltb at (length given) → row ≡ get_or given at row → copy ≡ row
    → (at + 1 ≡ at + 1) × (Some copy ≡ slice_get seen at) × (at < length seen)
row_read rows seen given at row copy is same below read copied =
    let inside : at < length given = ltb-true at (length given) (sym below) in
    let all : given ≡ seen = same ∙ is in (
      refl,
      ap (λ (x : Value × Cells). Some x) copied
          ∙ subst (λ (x : KeyedRows). Some row ≡ slice_get x at) all (get_some given at row inside read),
      subst (λ (x : KeyedRows). at < length x) all inside,
    )
