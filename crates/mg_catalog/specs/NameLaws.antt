-- Laws of names in their order.
use Rattle.std.proofs.Common.{◌≡◌, ◌⊎◌, inl, inr, ◌∙◌, sym, subst, refl, ℕ, true, false, Bool, List, [], ◌∷◌}
use Rattle.std.specs.Prelude.{◌==◌}
use Rattle.std.specs.Cmp.Lexicographic.{slice_cmp}
use Rattle.std.specs.Ordering.{nat_cmp}
use Rattle.std.specs.FinMap.{nat_cmp-IsAntisymmetric, slice_cmp-IsAntisymmetric}
use Rattle.std.specs.declared.cmp.Ordering.{Ordering}
use Rattle.std.specs.declared.cmp.Ordering.TheVariants.{Less, Equal, Greater}
use Rattle.std.proofs.lemmas.Bool.{eq-eqb, eqb-true}
use Rattle.std.proofs.lemmas.Cmp.{nat_list_cmp_total, tied_itself}
use Rattle.mg_value.specs.declared.value.Value.{Value}
use Rattle.mg_value.specs.declared.value.Value.TheVariants.{Null, Int, Text}
use Rattle.mg_model.specs.Changes.{Cells}
use Rattle.mg_model.specs.CatalogRules.{Ascend, IsBefore}
use Rattle.mg_catalog.specs.ByKey.{HasKey, row_key}
use Rattle.mg_catalog.specs.Names.{HasName, insert_name, names_from, with_name, with_text}

-- ---- the order of names

pub before_trans : (a b c : List ℕ) → IsBefore a b → IsBefore b c → IsBefore a c
before_trans a b c first second = nat_list_cmp_total.trans a b c first second

pub not_before_self : (a : List ℕ) → IsBefore a a → ⊥
not_before_self a before = let same = tied_itself nat_list_cmp_total a in absurd cc

pub before_of_greater : (a b : List ℕ) → slice_cmp nat_cmp a b ≡ Greater → IsBefore b a
before_of_greater a b greater = let turned = nat_list_cmp_total.antisymm b a in rw greater at turned

pub names_equal : (a b : List ℕ) → slice_cmp nat_cmp a b ≡ Equal → a ≡ b
names_equal a b same = slice_cmp-IsAntisymmetric nat_cmp-IsAntisymmetric a b same

-- a name comes before the first of these, if there is one
abbrev pub After : List ℕ → List (List ℕ) → Type 0
After name [] = Unit {0}
After name (first ∷ names) = IsBefore name first

pub ascend_split : (name : List ℕ) (names : List (List ℕ)) → Ascend (name ∷ names)
    → After name names × Ascend names
ascend_split name [] ascend = (tt, tt)
ascend_split name (first ∷ names) ascend = (ascend.0, ascend.1)

pub ascend_join : (name : List ℕ) (names : List (List ℕ)) → After name names → Ascend names
    → Ascend (name ∷ names)
ascend_join name [] after ascend = tt
ascend_join name (first ∷ names) after ascend = (after, ascend)

-- ascending names without the second one ascend
pub ascend_skip : (a b : List ℕ) (names : List (List ℕ)) → IsBefore a b → Ascend (b ∷ names)
    → Ascend (a ∷ names)
ascend_skip a b [] before ascend = tt
ascend_skip a b (first ∷ names) before ascend =
    (before_trans a b first before ascend.0, ascend.1)

pub all_after : (name : List ℕ) (names : List (List ℕ)) (other : List ℕ) → Ascend (name ∷ names)
    → HasName names other → IsBefore name other
all_after name [] other ascend has = absurd has
all_after name (first ∷ names) other ascend (inl is) =
    let P : List ℕ → Type 0 = λ x. IsBefore name x in subst P is ascend.0
all_after name (first ∷ names) other ascend (inr has) =
    all_after name names other (ascend_skip name first names ascend.0 ascend.1) has

-- ---- ascending names with the same members are the same

first_same : (x y : List ℕ) (xs ys : List (List ℕ)) → Ascend (x ∷ xs) → Ascend (y ∷ ys)
    → HasName (y ∷ ys) x → HasName (x ∷ xs) y → x ≡ y
first_same x y xs ys ascend other (inl is) there = sym is
first_same x y xs ys ascend other (inr later) (inl is) = is
first_same x y xs ys ascend other (inr later) (inr further) = absurd (not_before_self x
    (before_trans x y x (all_after x xs y ascend further) (all_after y ys x other later)))

rest_has : (x y : List ℕ) (xs ys : List (List ℕ)) → x ≡ y → Ascend (x ∷ xs)
    → ((name : List ℕ) → HasName (x ∷ xs) name → HasName (y ∷ ys) name)
    → (name : List ℕ) → HasName xs name → HasName ys name
rest_has x y xs ys same ascend forth name has = at (forth name (inr has))
  where
    at : HasName (y ∷ ys) name → HasName ys name
    at (inl is) = absurd (not_before_self x
        (let P : List ℕ → Type 0 = λ n. IsBefore x n in
        subst P (sym (same ∙ is)) (all_after x xs name ascend has)))
    at (inr later) = later

pub ascending_once : (xs ys : List (List ℕ)) → Ascend xs → Ascend ys
    → ((name : List ℕ) → HasName xs name → HasName ys name)
    → ((name : List ℕ) → HasName ys name → HasName xs name) → xs ≡ ys
ascending_once [] [] ascend other forth back = refl
ascending_once [] (y ∷ ys) ascend other forth back = absurd (back y (inl refl))
ascending_once (x ∷ xs) [] ascend other forth back = absurd (forth x (inl refl))
ascending_once (x ∷ xs) (y ∷ ys) ascend other forth back =
    at (first_same x y xs ys ascend other (forth x (inl refl)) (back y (inl refl)))
    (λ same. ascending_once xs ys (ascend_split x xs ascend).1 (ascend_split y ys other).1
    (rest_has x y xs ys same ascend forth) (rest_has y x ys xs (sym same) other back))
  where
    at : x ≡ y → (x ≡ y → xs ≡ ys) → x ∷ xs ≡ y ∷ ys
    at same later = let rest = later same in cc

-- ---- a name is put in its place

insert_after : (x name : List ℕ) (names : List (List ℕ)) → IsBefore x name → After x names
    → After x (insert_name name names)
insert_after x name [] before after = before
insert_after x name (first ∷ names) before after = at (slice_cmp nat_cmp name first) refl
  where
    at : (o : Ordering) → slice_cmp nat_cmp name first ≡ o
        → After x (insert_name name (first ∷ names))
    at Less e = rw e before
    at Equal e = rw e after
    at Greater e = rw e after

pub insert_ascends : (name : List ℕ) (names : List (List ℕ)) → Ascend names
    → Ascend (insert_name name names)
insert_ascends name [] ascend = tt
insert_ascends name (first ∷ names) ascend = at (slice_cmp nat_cmp name first) refl
    (insert_ascends name names (ascend_split first names ascend).1)
  where
    at : (o : Ordering) → slice_cmp nat_cmp name first ≡ o → Ascend (insert_name name names)
        → Ascend (insert_name name (first ∷ names))
    at Less e later = rw e (e, ascend)
    at Equal e later = rw e ascend
    at Greater e later = rw e (ascend_join first (insert_name name names)
        (insert_after first name names (before_of_greater name first e)
        (ascend_split first names ascend).0) later)

pub insert_has : (name : List ℕ) (names : List (List ℕ)) (other : List ℕ)
    → HasName (insert_name name names) other → (name ≡ other) ⊎ HasName names other
insert_has name [] other has = has
insert_has name (first ∷ names) other has =
    at (slice_cmp nat_cmp name first) refl has (insert_has name names other)
  where
    further : (first ≡ other) ⊎ HasName (insert_name name names) other
        → (HasName (insert_name name names) other → (name ≡ other) ⊎ HasName names other)
        → (name ≡ other) ⊎ HasName (first ∷ names) other
    further (inl is) later = inr (inl is)
    further (inr more) later = deeper (later more)
      where
        deeper : (name ≡ other) ⊎ HasName names other
            → (name ≡ other) ⊎ HasName (first ∷ names) other
        deeper (inl is) = inl is
        deeper (inr there) = inr (inr there)

    at : (o : Ordering) → slice_cmp nat_cmp name first ≡ o
        → HasName (insert_name name (first ∷ names)) other
        → (HasName (insert_name name names) other → (name ≡ other) ⊎ HasName names other)
        → (name ≡ other) ⊎ HasName (first ∷ names) other
    at Less e has later = rw e at has
    at Equal e has later = inr (rw e at has)
    at Greater e has later = further (rw e at has) later

pub insert_keeps : (name : List ℕ) (names : List (List ℕ)) (other : List ℕ)
    → HasName names other → HasName (insert_name name names) other
insert_keeps name [] other has = absurd has
insert_keeps name (first ∷ names) other has =
    at (slice_cmp nat_cmp name first) refl has (insert_keeps name names other)
  where
    further : (first ≡ other) ⊎ HasName names other
        → (HasName names other → HasName (insert_name name names) other)
        → HasName (first ∷ insert_name name names) other
    further (inl is) later = inl is
    further (inr more) later = inr (later more)

    at : (o : Ordering) → slice_cmp nat_cmp name first ≡ o → HasName (first ∷ names) other
        → (HasName names other → HasName (insert_name name names) other)
        → HasName (insert_name name (first ∷ names)) other
    at Less e has later = rw e (inr has)
    at Equal e has later = rw e has
    at Greater e has later = rw e (further has later)

pub insert_here : (name : List ℕ) (names : List (List ℕ)) → HasName (insert_name name names) name
insert_here name [] = inl refl
insert_here name (first ∷ names) =
    at (slice_cmp nat_cmp name first) refl (insert_here name names)
  where
    at : (o : Ordering) → slice_cmp nat_cmp name first ≡ o → HasName (insert_name name names) name
        → HasName (insert_name name (first ∷ names)) name
    at Less e later = rw e (inl refl)
    at Equal e later = rw e (inl (sym (names_equal name first e)))
    at Greater e later = rw e (inr later)

-- ---- the names of keys

text_ascends : (letter : ℕ) (text : List ℕ) (names : List (List ℕ)) → Ascend names
    → Ascend (with_text letter text names)
text_ascends letter [] names ascend = ascend
text_ascends letter (first ∷ name) names ascend = at (first == letter) refl
  where
    at : (t : Bool) → (first == letter) ≡ t → Ascend (with_text letter (first ∷ name) names)
    at true e = rw e (insert_ascends name names ascend)
    at false e = rw e ascend

with_ascends : (letter : ℕ) (key : Value) (names : List (List ℕ)) → Ascend names
    → Ascend (with_name letter key names)
with_ascends letter Null names ascend = ascend
with_ascends letter (Int number) names ascend = ascend
with_ascends letter (Text text) names ascend = text_ascends letter text names ascend

text_keeps : (letter : ℕ) (text : List ℕ) (names : List (List ℕ)) (other : List ℕ)
    → HasName names other → HasName (with_text letter text names) other
text_keeps letter [] names other has = has
text_keeps letter (first ∷ name) names other has = at (first == letter) refl
  where
    at : (t : Bool) → (first == letter) ≡ t
        → HasName (with_text letter (first ∷ name) names) other
    at true e = rw e (insert_keeps name names other has)
    at false e = rw e has

with_keeps : (letter : ℕ) (key : Value) (names : List (List ℕ)) (other : List ℕ)
    → HasName names other → HasName (with_name letter key names) other
with_keeps letter Null names other has = has
with_keeps letter (Int number) names other has = has
with_keeps letter (Text text) names other has = text_keeps letter text names other has

with_here : (letter : ℕ) (key : Value) (names : List (List ℕ)) (name : List ℕ)
    → key ≡ Text (letter ∷ name) → HasName (with_name letter key names) name
with_here letter key names name is =
    let P : Value → Type 0 = λ k. HasName (with_name letter k names) name in
    subst P (sym is) (rw (eq-eqb letter letter refl) (insert_here name names))

text_has : (letter : ℕ) (text : List ℕ) (names : List (List ℕ)) (other : List ℕ)
    → HasName (with_text letter text names) other
    → (Text text ≡ Text (letter ∷ other)) ⊎ HasName names other
text_has letter [] names other has = inr has
text_has letter (first ∷ name) names other has = at (first == letter) refl has
  where
    deeper : first ≡ letter → (name ≡ other) ⊎ HasName names other
        → (Text (first ∷ name) ≡ Text (letter ∷ other)) ⊎ HasName names other
    deeper same (inl is) = inl cc
    deeper same (inr there) = inr there

    at : (t : Bool) → (first == letter) ≡ t
        → HasName (with_text letter (first ∷ name) names) other
        → (Text (first ∷ name) ≡ Text (letter ∷ other)) ⊎ HasName names other
    at true e has = deeper (eqb-true first letter e) (insert_has name names other (rw e at has))
    at false e has = inr (rw e at has)

with_has : (letter : ℕ) (key : Value) (names : List (List ℕ)) (other : List ℕ)
    → HasName (with_name letter key names) other
    → (key ≡ Text (letter ∷ other)) ⊎ HasName names other
with_has letter Null names other has = inr has
with_has letter (Int number) names other has = inr has
with_has letter (Text text) names other has = text_has letter text names other has

pub from_ascends : (letter : ℕ) (rows : List Cells) (names : List (List ℕ)) → Ascend names
    → Ascend (names_from letter rows names)
from_ascends letter [] names ascend = ascend
from_ascends letter (row ∷ rows) names ascend = from_ascends letter rows
    (with_name letter (row_key row) names) (with_ascends letter (row_key row) names ascend)

pub from_keeps : (letter : ℕ) (rows : List Cells) (names : List (List ℕ)) (name : List ℕ)
    → HasName names name → HasName (names_from letter rows names) name
from_keeps letter [] names name has = has
from_keeps letter (row ∷ rows) names name has = from_keeps letter rows
    (with_name letter (row_key row) names) name (with_keeps letter (row_key row) names name has)

pub from_whole : (letter : ℕ) (rows : List Cells) (names : List (List ℕ)) (name : List ℕ)
    → HasKey rows (Text (letter ∷ name)) → HasName (names_from letter rows names) name
from_whole letter [] names name has = absurd has
from_whole letter (row ∷ rows) names name (inl is) = from_keeps letter rows
    (with_name letter (row_key row) names) name (with_here letter (row_key row) names name is)
from_whole letter (row ∷ rows) names name (inr has) =
    from_whole letter rows (with_name letter (row_key row) names) name has

pub from_each : (letter : ℕ) (rows : List Cells) (names : List (List ℕ)) (name : List ℕ)
    → HasName (names_from letter rows names) name
    → HasKey rows (Text (letter ∷ name)) ⊎ HasName names name
from_each letter [] names name has = inr has
from_each letter (row ∷ rows) names name has =
    at (from_each letter rows (with_name letter (row_key row) names) name has)
  where
    deeper : (row_key row ≡ Text (letter ∷ name)) ⊎ HasName names name
        → HasKey (row ∷ rows) (Text (letter ∷ name)) ⊎ HasName names name
    deeper (inl is) = inl (inl is)
    deeper (inr there) = inr there

    at : HasKey rows (Text (letter ∷ name)) ⊎ HasName (with_name letter (row_key row) names) name
        → HasKey (row ∷ rows) (Text (letter ∷ name)) ⊎ HasName names name
    at (inl later) = inl (inr later)
    at (inr here) = deeper (with_has letter (row_key row) names name here)
