-- One step on in a loop that makes a list from another one, or that tests the members of a list.
use Rattle.std.proofs.Common.{◌≡◌, ℕ, ◌+◌, ◌<◌, ◌≤◌, arith, ◌&&◌, Bool, true, false, List, [], ◌∷◌, ◌++◌, length, map}
use Rattle.std.proofs.Common.{take, drop, get_or}
use Rattle.std.proofs.Common.{ap, sym, ◌∙◌, Option, Some}
use Rattle.std.proofs.lemmas.List.{append_assoc, append-nil, map-append, take_more, take_all, drop_more, drop_all}
use Rattle.std.specs.Prelude.{◌||◌, if◌then◌else◌}
use Rattle.std.specs.List.{list_all, list_any}
use Rattle.mg_value.specs.declared.shape.Column.{Column}
use Rattle.mg_model.specs.Changes.{same_name}
use Rattle.mg_plan.specs.Names.{place_from, places_from}

taken : {X : Type 0} (xs : List X) (i : ℕ) (x : X) → i < length xs → x ≡ get_or xs i x
    → take (i + 1) xs ≡ take i xs ++ x ∷ []
taken xs i x below is = take_more xs i x below ∙ ap (λ y. take i xs ++ y ∷ []) (sym is)

-- ---- what is made so far is made of what was taken

pub copied : {X : Type 0} (xs : List X) (i : ℕ) (x : X) (made more : List X) → i < length xs
    → x ≡ get_or xs i x → made ≡ take i xs → more ≡ made ++ x ∷ [] → more ≡ take (i + 1) xs
copied xs i x made more below is so_far pushed =
    pushed ∙ ap (λ ys. ys ++ x ∷ []) so_far ∙ sym (taken xs i x below is)

pub mapped : {X Y : Type 0} (f : X → Y) (xs : List X) (i : ℕ) (x : X) (y : Y) (made more : List Y)
    → i < length xs → x ≡ get_or xs i x → y ≡ f x → made ≡ map f (take i xs)
    → more ≡ made ++ y ∷ [] → more ≡ map f (take (i + 1) xs)
mapped f xs i x y made more below is equal so_far pushed =
    pushed ∙ ap (λ ys. ys ++ y ∷ []) so_far ∙ ap (λ z. map f (take i xs) ++ z ∷ []) equal
    ∙ sym (map-append f (take i xs) (x ∷ [])) ∙ ap (map f) (sym (taken xs i x below is))

-- the same where the list is mapped twice
pub mapped_twice : {X Y Z : Type 0} (h : Y → Z) (k : X → Y) (xs : List X) (i : ℕ) (x : X) (z : Z)
    (made more : List Z) → i < length xs → x ≡ get_or xs i x → z ≡ h (k x)
    → made ≡ map h (map k (take i xs)) → more ≡ made ++ z ∷ [] → more ≡ map h (map k (take (i + 1) xs))
mapped_twice h k xs i x z made more below is equal so_far pushed =
    pushed ∙ ap (λ ys. ys ++ z ∷ []) so_far ∙ ap (λ y. map h (map k (take i xs)) ++ y ∷ []) equal
    ∙ sym (map-append h (map k (take i xs)) (k x ∷ []))
    ∙ ap (map h) (sym (map-append k (take i xs) (x ∷ [])))
    ∙ ap (λ ys. map h (map k ys)) (sym (taken xs i x below is))

-- the same where what is made is known by a function
pub alike : {X Y Z : Type 0} (g : Y → Z) (f : X → Z) (xs : List X) (i : ℕ) (x : X) (y : Y)
    (made more : List Y) → i < length xs → x ≡ get_or xs i x → g y ≡ f x
    → map g made ≡ map f (take i xs) → more ≡ made ++ y ∷ [] → map g more ≡ map f (take (i + 1) xs)
alike g f xs i x y made more below is equal so_far pushed =
    mapped f xs i x (g y) (map g made) (map g more) below is equal so_far
    (ap (map g) pushed ∙ map-append g made (y ∷ []))

pub alike_twice : {W X Y Z : Type 0} (g : W → Z) (h : Y → Z) (k : X → Y) (xs : List X) (i : ℕ) (x : X)
    (w : W) (made more : List W) → i < length xs → x ≡ get_or xs i x → g w ≡ h (k x)
    → map g made ≡ map h (map k (take i xs)) → more ≡ made ++ w ∷ []
    → map g more ≡ map h (map k (take (i + 1) xs))
alike_twice g h k xs i x w made more below is equal so_far pushed =
    mapped_twice h k xs i x (g w) (map g made) (map g more) below is equal so_far
    (ap (map g) pushed ∙ map-append g made (w ∷ []))

-- ---- at the end of the loop it is made of all

pub copied_all : {X : Type 0} (xs : List X) (i : ℕ) (made : List X) → length xs ≤ i → made ≡ take i xs → made ≡ xs
copied_all xs i made past so_far = so_far ∙ take_all i xs past

pub mapped_all : {X Y : Type 0} (f : X → Y) (xs : List X) (i : ℕ) (made : List Y) → length xs ≤ i
    → made ≡ map f (take i xs) → made ≡ map f xs
mapped_all f xs i made past so_far = so_far ∙ ap (map f) (take_all i xs past)

pub mapped_twice_all : {X Y Z : Type 0} (h : Y → Z) (k : X → Y) (xs : List X) (i : ℕ) (made : List Z) → length xs ≤ i
    → made ≡ map h (map k (take i xs)) → made ≡ map h (map k xs)
mapped_twice_all h k xs i made past so_far = so_far ∙ ap (λ ys. map h (map k ys)) (take_all i xs past)

-- ---- what is left passes a test where all passes it

pub all_true : {X : Type 0} (test : X → Bool) (xs : List X) (i : ℕ) (x : X) (whole : Bool)
    → i < length xs → x ≡ get_or xs i x → test x ≡ true → list_all test (drop i xs) ≡ whole
    → list_all test (drop (i + 1) xs) ≡ whole
all_true test xs i x whole below is right so_far =
    sym (ap (λ b. b && list_all test (drop (i + 1) xs)) (ap test (sym is) ∙ right))
    ∙ sym (ap (list_all test) (drop_more xs i x below)) ∙ so_far

pub all_false : {X : Type 0} (test : X → Bool) (xs : List X) (i : ℕ) (x : X) (whole : Bool)
    → i < length xs → x ≡ get_or xs i x → test x ≡ false → list_all test (drop i xs) ≡ whole
    → false ≡ whole
all_false test xs i x whole below is wrong so_far =
    sym (ap (λ b. b && list_all test (drop (i + 1) xs)) (ap test (sym is) ∙ wrong))
    ∙ sym (ap (list_all test) (drop_more xs i x below)) ∙ so_far

-- nothing is left
pub all_tested : {X : Type 0} (test : X → Bool) (xs : List X) (i : ℕ) (whole : Bool) → length xs ≤ i
    → list_all test (drop i xs) ≡ whole → true ≡ whole
all_tested test xs i whole past so_far = sym (ap (list_all test) (drop_all i xs past)) ∙ so_far

-- the same of a list that is mapped, of which the first member is taken
pub first_true : {X Y : Type 0} (test : Y → Bool) (k : X → Y) (xs later : List X) (x : X) (passes whole : Bool)
    → xs ≡ x ∷ later → passes ≡ test (k x) → passes ≡ true → list_all test (map k xs) ≡ whole
    → list_all test (map k later) ≡ whole
first_true test k xs later x passes whole is tests right so_far =
    sym (ap (λ b. b && list_all test (map k later)) (sym tests ∙ right))
    ∙ sym (ap (λ ys. list_all test (map k ys)) is) ∙ so_far

pub first_false : {X Y : Type 0} (test : Y → Bool) (k : X → Y) (xs later : List X) (x : X) (passes whole : Bool)
    → xs ≡ x ∷ later → passes ≡ test (k x) → passes ≡ false → list_all test (map k xs) ≡ whole → false ≡ whole
first_false test k xs later x passes whole is tests wrong so_far =
    sym (ap (λ b. b && list_all test (map k later)) (sym tests ∙ wrong))
    ∙ sym (ap (λ ys. list_all test (map k ys)) is) ∙ so_far

pub none_left : {X Y : Type 0} (test : Y → Bool) (k : X → Y) (xs : List X) (whole : Bool) → length xs ≡ 0
    → list_all test (map k xs) ≡ whole → true ≡ whole
none_left test k [] whole none so_far = so_far
none_left test k (x ∷ xs) whole none so_far = absurd (omega (arith, none))

-- the same of a test that one member passes
pub any_here : {X Y : Type 0} (test : Y → Bool) (k : X → Y) (xs later : List X) (x : X) (passes whole : Bool)
    → xs ≡ x ∷ later → passes ≡ test (k x) → passes ≡ true → list_any test (map k xs) ≡ whole → true ≡ whole
any_here test k xs later x passes whole is tests right so_far =
    sym (ap (λ b. b || list_any test (map k later)) (sym tests ∙ right))
    ∙ sym (ap (λ ys. list_any test (map k ys)) is) ∙ so_far

pub any_later : {X Y : Type 0} (test : Y → Bool) (k : X → Y) (xs later : List X) (x : X) (passes whole : Bool)
    → xs ≡ x ∷ later → passes ≡ test (k x) → passes ≡ false → list_any test (map k xs) ≡ whole
    → list_any test (map k later) ≡ whole
any_later test k xs later x passes whole is tests wrong so_far =
    sym (ap (λ b. b || list_any test (map k later)) (sym tests ∙ wrong))
    ∙ sym (ap (λ ys. list_any test (map k ys)) is) ∙ so_far

pub any_none : {X Y : Type 0} (test : Y → Bool) (k : X → Y) (xs : List X) (whole : Bool) → length xs ≡ 0
    → list_any test (map k xs) ≡ whole → false ≡ whole
any_none test k [] whole none so_far = so_far
any_none test k (x ∷ xs) whole none so_far = absurd (omega (arith, none))

-- ---- the places of all columns

next_place : (columns : List Column) (i : ℕ) → i < length columns
    → places_from i (drop i columns) ≡ i ∷ places_from (i + 1) (drop (i + 1) columns)
next_place [] i below = absurd (omega (arith, below))
next_place (column ∷ columns) i below = ap (places_from i) (drop_more (column ∷ columns) i column below)

pub place_put : (columns : List Column) (i : ℕ) (made more whole : List ℕ) → i < length columns
    → made ++ places_from i (drop i columns) ≡ whole → more ≡ made ++ i ∷ []
    → more ++ places_from (i + 1) (drop (i + 1) columns) ≡ whole
place_put columns i made more whole below so_far pushed =
    ap (λ ms. ms ++ places_from (i + 1) (drop (i + 1) columns)) pushed
    ∙ append_assoc made (i ∷ []) (places_from (i + 1) (drop (i + 1) columns))
    ∙ ap (λ ms. made ++ ms) (sym (next_place columns i below)) ∙ so_far

pub places_put : (columns : List Column) (i : ℕ) (made whole : List ℕ) → length columns ≤ i
    → made ++ places_from i (drop i columns) ≡ whole → made ≡ whole
places_put columns i made whole past so_far =
    sym (append-nil made) ∙ ap (λ cs. made ++ places_from i cs) (sym (drop_all i columns past)) ∙ so_far

-- ---- the place of a column with a name

same_at : (columns : List Column) (i : ℕ) (column : Column) (name a b : List ℕ) (same is_same : Bool)
    → column ≡ get_or columns i column → a ≡ column.name → b ≡ name → same ≡ same_name a b
    → same ≡ is_same → same_name (get_or columns i column).name name ≡ is_same
same_at columns i column name a b same is_same is a_is b_is tests gives =
    ap (λ (c : Column). same_name c.name name) (sym is)
    ∙ sym (ap (λ x. same_name x b) a_is ∙ ap (same_name column.name) b_is) ∙ sym tests ∙ gives

pub place_on : (columns : List Column) (i : ℕ) (column : Column) (name a b : List ℕ) (same : Bool)
    (found : Option ℕ) → i < length columns → column ≡ get_or columns i column → a ≡ column.name
    → b ≡ name → same ≡ same_name a b → same ≡ false → place_from i (drop i columns) name ≡ found
    → place_from (i + 1) (drop (i + 1) columns) name ≡ found
place_on columns i column name a b same found below is a_is b_is tests wrong so_far =
    sym (ap (λ x. if x then Some i else place_from (i + 1) (drop (i + 1) columns) name)
    (same_at columns i column name a b same false is a_is b_is tests wrong))
    ∙ sym (ap (λ cs. place_from i cs name) (drop_more columns i column below)) ∙ so_far

pub place_here : (columns : List Column) (i : ℕ) (column : Column) (name a b : List ℕ) (same : Bool)
    (found : Option ℕ) → i < length columns → column ≡ get_or columns i column → a ≡ column.name
    → b ≡ name → same ≡ same_name a b → same ≡ true → place_from i (drop i columns) name ≡ found
    → Some i ≡ found
place_here columns i column name a b same found below is a_is b_is tests right so_far =
    sym (ap (λ x. if x then Some i else place_from (i + 1) (drop (i + 1) columns) name)
    (same_at columns i column name a b same true is a_is b_is tests right))
    ∙ sym (ap (λ cs. place_from i cs name) (drop_more columns i column below)) ∙ so_far
