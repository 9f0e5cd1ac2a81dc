-- One step on in a loop that gathers what each of several things gives.
use Rattle.std.proofs.Common.{◌≡◌, ℕ, ◌+◌, ◌<◌, List, [], ◌∷◌, ◌++◌, length, map, take, drop, get_or, Option, Some, None, Result, Ok, Err, refl, sym, ap, ◌∙◌}
use Rattle.std.proofs.lemmas.List.{append_assoc, drop_more, take_more}
use Rattle.mg_model.specs.Changes.{Cells}
use Rattle.mg_rows.specs.declared.fault.NewRowFault.{NewRowFault}
use Rattle.mg_rows.specs.Selecting.{with_front, each_of}
use Rattle.mg_rows.specs.NewRows.{before}
use Rattle.mg_rows.proofs.EachLemmas.{fronted}
use Rattle.mg_rows.proofs.RowLemmas.{made_before}

fronted_more : {B : Type 0} (front : List B) (one : B) (others : Option (List B))
    → fronted (front ++ one ∷ []) others ≡ fronted front (with_front (Some one) others)
fronted_more front one None = refl
fronted_more front one (Some others) = ap (λ all. Some all) (append_assoc front (one ∷ []) others)

-- one that was given stands behind those so far
gathers : {B : Type 0} (one : B) (front more : List B) (given : Option B) (rest whole : Option (List B))
    → given ≡ Some one → more ≡ front ++ one ∷ [] → fronted front (with_front given rest) ≡ whole
    → fronted more rest ≡ whole
gathers one front more given rest whole gives pushed so_far =
    ap (λ ones. fronted ones rest) pushed ∙ fronted_more front one rest
    ∙ ap (λ o. fronted front (with_front o rest)) (sym gives) ∙ so_far

pub gathered : {X B : Type 0} (f : X → Option B) (xs : List X) (i : ℕ) (x : X) (one : B)
    (front more : List B) (whole : Option (List B)) → i < length xs → x ≡ get_or xs i x
    → f x ≡ Some one → more ≡ front ++ one ∷ [] → fronted front (each_of f (drop i xs)) ≡ whole
    → fronted more (each_of f (drop (i + 1) xs)) ≡ whole
gathered f xs i x one front more whole below is gives pushed so_far =
    gathers one front more (f (get_or xs i x)) (each_of f (drop (i + 1) xs)) whole (sym (ap f is) ∙ gives) pushed
    (sym (ap (λ ys. fronted front (each_of f ys)) (drop_more xs i x below)) ∙ so_far)

-- the same where the things are seen by a function
pub gathered_seen : {X A B : Type 0} (f : A → Option B) (k : X → A) (xs : List X) (i : ℕ) (x : X)
    (one : B) (front more : List B) (whole : Option (List B)) → i < length xs → x ≡ get_or xs i x
    → f (k x) ≡ Some one → more ≡ front ++ one ∷ []
    → fronted front (each_of f (map k (drop i xs))) ≡ whole
    → fronted more (each_of f (map k (drop (i + 1) xs))) ≡ whole
gathered_seen f k xs i x one front more whole below is gives pushed so_far =
    gathers one front more (f (k (get_or xs i x))) (each_of f (map k (drop (i + 1) xs))) whole
    (sym (ap (λ y. f (k y)) is) ∙ gives) pushed
    (sym (ap (λ ys. fronted front (each_of f (map k ys))) (drop_more xs i x below)) ∙ so_far)

-- ---- rows that are made, or the first fault

before_more : (made : List Cells) (row : Cells) (rest : Result (List Cells) NewRowFault)
    → made_before (made ++ row ∷ []) rest ≡ made_before made (before (Ok row) rest)
before_more made row (Err fault) = refl
before_more made row (Ok others) = ap (λ all. Ok all) (append_assoc made (row ∷ []) others)

pub made_on : (f : Cells → Result Cells NewRowFault)
    (all : List Cells → Result (List Cells) NewRowFault) (rows : List Cells) (i : ℕ) (row one : Cells)
    (made more : List Cells) (whole : Result (List Cells) NewRowFault)
    → ((r : Cells) (rs : List Cells) → all (r ∷ rs) ≡ before (f r) (all rs))
    → i < length rows → row ≡ get_or rows i row → f row ≡ Ok one → more ≡ made ++ one ∷ []
    → made_before made (all (drop i rows)) ≡ whole → made_before more (all (drop (i + 1) rows)) ≡ whole
made_on f all rows i row one made more whole law below is gives pushed so_far =
    ap (λ ones. made_before ones (all (drop (i + 1) rows))) pushed
    ∙ before_more made one (all (drop (i + 1) rows))
    ∙ ap (λ o. made_before made (before o (all (drop (i + 1) rows)))) (sym gives ∙ ap f is)
    ∙ ap (made_before made) (sym (law (get_or rows i row) (drop (i + 1) rows)))
    ∙ sym (ap (λ rs. made_before made (all rs)) (drop_more rows i row below)) ∙ so_far

-- ---- equal ones

pub copied : {X : Type 0} (xs : List X) (i : ℕ) (x y : X) (made more : List X) → i < length xs
    → x ≡ get_or xs i x → y ≡ x → made ≡ take i xs → more ≡ made ++ y ∷ [] → more ≡ take (i + 1) xs
copied xs i x y made more below is equal so_far pushed =
    pushed ∙ ap (λ ys. ys ++ y ∷ []) so_far ∙ ap (λ z. take i xs ++ z ∷ []) (equal ∙ is)
    ∙ sym (take_more xs i x below)
