-- A loop over a list that makes another one piece by piece: one step on, and at its end.
use Rattle.std.proofs.Common.{◌≡◌, ◌<◌, ◌≤◌, ◌+◌, ℕ, Bool, true, false, List, [], ◌∷◌, ◌++◌, Some, drop, take, map, filter, get_or, length, cond, refl, sym, ap, ◌∙◌}
use Rattle.std.proofs.lemmas.List.{append-nil, append_assoc, at_drop_more, at_drop_all, take_more, map-append}
use Rattle.mg_base.specs.declared.transaction.TxState.{TxState}
use Rattle.mg_base.specs.declared.transaction.TxState.TheVariants.{Committed}
use Rattle.mg_model.specs.declared.change.Change.{Change}
use Rattle.mg_model.specs.declared.opening.PlacedRow.{PlacedRow}
use Rattle.mg_model.specs.Catalog.{CatalogRows, catalog_name, catalog_shape, key_in, key_of}
use Rattle.mg_model.specs.Changes.{Cells, same_name}
use Rattle.mg_value.specs.declared.value.Value.{Value}
use Rattle.mg_model.specs.Machine.{catalog_changes, placed}
use Rattle.mg_plain.specs.declared.known.Known.{Known}
use Rattle.mg_plain.specs.Keeping.{known_at_opening}
use Rattle.mg_plain.specs.Beginning.{known_all}

-- what the rest gives is what its first element gives, and then what is behind it
rest_more : {X Y : Type 0} (F : List X → List Y) → ((x : X) (xs : List X) → F (x ∷ xs) ≡ F (x ∷ []) ++ F xs)
    → (xs : List X) (i : ℕ) (x : X) → i < length xs → x ≡ get_or xs i x
    → F (x ∷ []) ++ F (drop (i + 1) xs) ≡ F (drop i xs)
rest_more {X} {Y} F splits xs i x lt is = sym (splits x (drop (i + 1) xs))
    ∙ (ap (λ (y : X). F (y ∷ drop (i + 1) xs)) is ∙ sym (at_drop_more F xs i x lt))

-- what was made and what the rest gives are the whole, and stay so
pub pieces_more : {X Y : Type 0} (F : List X → List Y)
    → ((x : X) (xs : List X) → F (x ∷ xs) ≡ F (x ∷ []) ++ F xs)
    → (xs : List X) (i : ℕ) (x : X) (old new all : List Y) → i < length xs → x ≡ get_or xs i x
    → old ++ F (drop i xs) ≡ all → new ≡ old ++ F (x ∷ []) → new ++ F (drop (i + 1) xs) ≡ all
pieces_more {X} {Y} F splits xs i x old new all lt is was made =
    ap (λ (ys : List Y). ys ++ F (drop (i + 1) xs)) made
    ∙ (append_assoc old (F (x ∷ [])) (F (drop (i + 1) xs))
    ∙ (ap (λ (ys : List Y). old ++ ys) (rest_more F splits xs i x lt is) ∙ was))

pub pieces_end : {X Y : Type 0} (F : List X → List Y) → F [] ≡ [] → (xs : List X) (i : ℕ) (made all : List Y)
    → length xs ≤ i → made ++ F (drop i xs) ≡ all → made ≡ all
pieces_end {X} {Y} F none xs i made all past was = sym (append-nil made)
    ∙ (ap (λ (ys : List Y). made ++ ys) (sym (at_drop_all F xs i past ∙ none)) ∙ was)

-- the elements so far, each as another
mapped_more : {X Y : Type 0} (f : X → Y) (xs : List X) (i : ℕ) (x : X) → i < length xs → x ≡ get_or xs i x
    → map f (take i xs) ++ f x ∷ [] ≡ map f (take (i + 1) xs)
mapped_more {X} {Y} f xs i x lt is = ap (λ (y : X). map f (take i xs) ++ f y ∷ []) is
    ∙ (sym (map-append f (take i xs) (get_or xs i x ∷ [])) ∙ ap (map f) (sym (take_more xs i x lt)))

pub pushed_more : {X Y : Type 0} (f : X → Y) (xs : List X) (i : ℕ) (x : X) (old new : List Y) (made : Y)
    → i < length xs → x ≡ get_or xs i x → old ≡ map f (take i xs) → made ≡ f x
    → new ≡ old ++ made ∷ [] → new ≡ map f (take (i + 1) xs)
pushed_more {X} {Y} f xs i x old new made lt is was this pushed = pushed
    ∙ (ap (λ (ys : List Y). ys ++ made ∷ []) was
    ∙ (ap (λ (y : Y). map f (take i xs) ++ y ∷ []) this ∙ mapped_more f xs i x lt is))

-- one element more passes, or not
filter_last : {Y : Type 0} (p : Y → Bool) (ys : List Y) (y : Y)
    → filter p (ys ++ y ∷ []) ≡ filter p ys ++ cond (p y) (y ∷ []) []
filter_last p [] y = refl
filter_last {Y} p (x ∷ ys) y = at (p x) (filter_last p ys y)
  where
    at : (b : Bool) → filter p (ys ++ y ∷ []) ≡ filter p ys ++ cond (p y) (y ∷ []) []
        → cond b (x ∷ filter p (ys ++ y ∷ [])) (filter p (ys ++ y ∷ []))
        ≡ cond b (x ∷ filter p ys) (filter p ys) ++ cond (p y) (y ∷ []) []
    at true more = ap (λ (l : List Y). x ∷ l) more
    at false more = more

-- the elements that pass so far, each as another
passed_front : {X Y : Type 0} (p : Y → Bool) (f : X → Y) (xs : List X) (i : ℕ) (x : X) (passes : Bool)
    → i < length xs → x ≡ get_or xs i x → p (f x) ≡ passes
    → filter p (map f (take i xs)) ++ cond passes (f x ∷ []) [] ≡ filter p (map f (take (i + 1) xs))
passed_front {X} {Y} p f xs i x passes lt is does =
    ap (λ (b : Bool). filter p (map f (take i xs)) ++ cond b (f x ∷ []) []) (sym does)
    ∙ (sym (filter_last p (map f (take i xs)) (f x)) ∙ ap (filter p) (mapped_more f xs i x lt is))

pub passed_more : {X Y : Type 0} (p : Y → Bool) (f : X → Y) (xs : List X) (i : ℕ) (x : X) (old new : List Y)
    (made : Y) → i < length xs → x ≡ get_or xs i x → old ≡ filter p (map f (take i xs)) → p (f x) ≡ true → made ≡ f x
    → new ≡ old ++ made ∷ [] → new ≡ filter p (map f (take (i + 1) xs))
passed_more {X} {Y} p f xs i x old new made lt is was does this pushed = pushed
    ∙ (ap (λ (ys : List Y). ys ++ made ∷ []) was
    ∙ (ap (λ (y : Y). filter p (map f (take i xs)) ++ y ∷ []) this ∙ passed_front p f xs i x true lt is does))

pub passed_by : {X Y : Type 0} (p : Y → Bool) (f : X → Y) (xs : List X) (i : ℕ) (x : X) (old : List Y)
    → i < length xs → x ≡ get_or xs i x → old ≡ filter p (map f (take i xs)) → p (f x) ≡ false
    → old ≡ filter p (map f (take (i + 1) xs))
passed_by {X} {Y} p f xs i x old lt is was does = was
    ∙ (sym (append-nil (filter p (map f (take i xs)))) ∙ passed_front p f xs i x false lt is does)

-- what is known so far
pub known_none : (opened : ℕ) (states : List TxState) (none new : List Known) (made : Known) → none ≡ []
    → made ≡ known_at_opening opened Committed → new ≡ none ++ made ∷ [] → new ≡ known_all opened (take 0 states)
known_none opened states none new made empty this pushed = pushed
    ∙ (ap (λ (ys : List Known). ys ++ made ∷ []) empty ∙ ap (λ (y : Known). y ∷ []) this)

pub known_more : (opened : ℕ) (states : List TxState) (i : ℕ) (other : TxState) (old new : List Known) (made : Known)
    → i < length states → old ≡ known_all opened (take i states)
    → made ≡ known_at_opening opened (get_or states i other) → new ≡ old ++ made ∷ []
    → new ≡ known_all opened (take (i + 1) states)
known_more opened states i other old new made lt was this pushed =
    let each : TxState → Known = λ state. known_at_opening opened state in
    let here : List TxState = get_or states i other ∷ [] in
    let mapped : map each (take i states) ++ map each here ≡ map each (take (i + 1) states) =
    sym (map-append each (take i states) here) ∙ ap (map each) (sym (take_more states i other lt)) in
    pushed ∙ (ap (λ (ys : List Known). ys ++ made ∷ []) was
    ∙ (ap (λ (y : Known). known_all opened (take i states) ++ y ∷ []) this
    ∙ ap (λ (ys : List Known). known_at_opening opened Committed ∷ ys) mapped))

-- the catalog's rows
pub catalog_splits : (p : PlacedRow) (rows : List PlacedRow)
    → catalog_changes (p ∷ rows) ≡ catalog_changes (p ∷ []) ++ catalog_changes rows
catalog_splits p rows = at (same_name p.table catalog_name)
  where
    change : Change
    change = record { table = p.table; key = key_of catalog_shape p.row; row = Some p.row }

    at : (b : Bool) → cond b (change ∷ catalog_changes rows) (catalog_changes rows)
        ≡ cond b (change ∷ []) [] ++ catalog_changes rows
    at true = refl
    at false = refl

-- the change that a row of the catalog is
abbrev placed_change : PlacedRow → Change
placed_change p = record { table = p.table; key = key_of catalog_shape p.row; row = Some p.row }

-- a row more, which is one of the catalog, or not
pub catalog_more : (p : PlacedRow) (old new : List Change) (name : List ℕ) (key : Value) (row : Cells) → name ≡ p.table
    → true ≡ same_name name catalog_name → key ≡ key_of catalog_shape p.row → row ≡ p.row
    → new ≡ old ++ record { table = p.table; key = key; row = Some row } ∷ [] → new ≡ old ++ catalog_changes (p ∷ [])
catalog_more p old new name key row is same key_is row_is pushed =
    let made : record { table = p.table; key = key; row = Some row } ≡ placed_change p =
    λ i. record { table = p.table; key = key_is i; row = Some (row_is i) } in
    let test : true ≡ same_name p.table catalog_name = same ∙ ap (λ (n : List ℕ). same_name n catalog_name) is in
    pushed ∙ (ap (λ (c : Change). old ++ c ∷ []) made ∙ ap (λ (b : Bool). old ++ cond b (placed_change p ∷ []) []) test)

pub catalog_same : (p : PlacedRow) (old : List Change) (name : List ℕ) → name ≡ p.table
    → false ≡ same_name name catalog_name → old ≡ old ++ catalog_changes (p ∷ [])
catalog_same p old name is other =
    let test : false ≡ same_name p.table catalog_name = other ∙ ap (λ (n : List ℕ). same_name n catalog_name) is in
    sym (append-nil old) ∙ ap (λ (b : Bool). old ++ cond b (placed_change p ∷ []) []) test

-- the rows of an opening, each under its key
pub placed_more : (catalog : CatalogRows) (p : PlacedRow) (old new : List Change) (key : Value) (row : Cells)
    → key ≡ key_in catalog p.table p.row → row ≡ p.row
    → new ≡ old ++ record { table = p.table; key = key; row = Some row } ∷ [] → new ≡ old ++ placed catalog (p ∷ [])
placed_more catalog p old new key row key_is row_is pushed =
    let made : record { table = p.table; key = key; row = Some row }
    ≡ record { table = p.table; key = key_in catalog p.table p.row; row = Some p.row } =
    λ i. record { table = p.table; key = key_is i; row = Some (row_is i) } in
    pushed ∙ ap (λ (c : Change). old ++ c ∷ []) made
