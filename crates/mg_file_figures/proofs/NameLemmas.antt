-- The names of the catalog and of its columns are names.
use Rattle.std.proofs.Common.{◌≡◌, ◌<◌, ◌==◌, ◌&&◌, refl, ap, lit≤, lit<, arith, get_or, ℕ, zero, suc, Bool, true, false, List, [], ◌∷◌, length}
use Rattle.std.specs.Prelude.{codes, map, if◌then◌else◌}
use Rattle.mg_base.specs.Fields.{byte}
use Rattle.mg_value.specs.Names.{IsName, IsReserved}
use Rattle.mg_value.specs.declared.name.TheConstants.{RESERVED}

-- whether no text passes a test
abbrev each_fails : (List ℕ → Bool) → List (List ℕ) → Bool
each_fails test [] = true
each_fails test (text ∷ texts) = if test text then false else each_fails test texts

later_fail : (test : List ℕ → Bool) (text : List ℕ) (texts : List (List ℕ))
    → each_fails test (text ∷ texts) ≡ true → (test text ≡ false) × (each_fails test texts ≡ true)
later_fail test text texts fail = at (test text) refl fail
  where
    at : (b : Bool) → test text ≡ b → (if b then false else each_fails test texts) ≡ true
        → (test text ≡ false) × (each_fails test texts ≡ true)
    at true i e = absurd cc
    at false i e = (i, e)

not_there : (test : List ℕ → Bool) (texts : List (List ℕ)) (text : List ℕ) → test text ≡ true
    → each_fails test texts ≡ true → (k : ℕ) → k < length texts → get_or texts k text ≡ text → ⊥
not_there test [] text passes fail k below is = absurd (omega arith)
not_there test (first ∷ texts) text passes fail zero below is =
    let fails = (later_fail test first texts fail).0 in
    let same : test first ≡ test text = ap test is in absurd cc
not_there test (first ∷ texts) text passes fail (suc k) below is =
    not_there test texts text passes (later_fail test first texts fail).1 k (omega arith) is

-- the words of the grammar
abbrev reserved : List (List ℕ)
reserved = map (λ word. word.now) RESERVED

-- a text begins with these two bytes; past its end stands 0
abbrev begins : ℕ → ℕ → List ℕ → Bool
begins first second text = byte text 0 == first && byte text 1 == second

-- a text is free where no word of the grammar begins as it does
free : (first second : ℕ) (text : List ℕ) → begins first second text ≡ true
    → each_fails (begins first second) reserved ≡ true → IsReserved text → ⊥
free first second text is fails there =
    not_there (begins first second) reserved text is fails there.0 there.1 there.2

pub catalog_is_name : IsName (codes "MG$CATALOG")
catalog_is_name = record {
  some = lit< tt;
  most = lit≤ tt;
  begins = refl;
  each = refl;
  free = free 77 71 (codes "MG$CATALOG") refl refl;
}

pub k_is_name : IsName (codes "K")
k_is_name = record {
  some = lit< tt;
  most = lit≤ tt;
  begins = refl;
  each = refl;
  free = free 75 0 (codes "K") refl refl;
}

pub name_is_name : IsName (codes "NAME")
name_is_name = record {
  some = lit< tt;
  most = lit≤ tt;
  begins = refl;
  each = refl;
  free = free 78 65 (codes "NAME") refl refl;
}

pub a_is_name : IsName (codes "A")
a_is_name = record {
  some = lit< tt;
  most = lit≤ tt;
  begins = refl;
  each = refl;
  free = free 65 0 (codes "A") refl refl;
}

pub b_is_name : IsName (codes "B")
b_is_name = record {
  some = lit< tt;
  most = lit≤ tt;
  begins = refl;
  each = refl;
  free = free 66 0 (codes "B") refl refl;
}

pub c_is_name : IsName (codes "C")
c_is_name = record {
  some = lit< tt;
  most = lit≤ tt;
  begins = refl;
  each = refl;
  free = free 67 0 (codes "C") refl refl;
}

pub d_is_name : IsName (codes "D")
d_is_name = record {
  some = lit< tt;
  most = lit≤ tt;
  begins = refl;
  each = refl;
  free = free 68 0 (codes "D") refl refl;
}
