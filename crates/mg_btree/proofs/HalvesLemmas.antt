-- Lemmas of halves, and of an entry more on the page above.
use Rattle.std.proofs.Common.{◌≡◌, ◌≢◌, inl, inr, ◌∙◌, ap, refl, sym, subst, ◌<◌, ◌≤◌, ◌/◌, ℕ, true, false, List, [], ◌∷◌, length, Result, Ok, Err, arith}
use Rattle.std.specs.Prelude.{IsOk, OnOk}
use Rattle.mg_node.specs.declared.entry.Entry.{Entry}
use Rattle.mg_node.specs.NodePage.{SamePlace, count_in, entries_of, is_inner}
use Rattle.mg_node.specs.NodeTests.{HasEnough}
use Rattle.mg_node_writing.specs.declared.inserting.NoRoom.{NoRoom}
use Rattle.mg_node_writing.specs.NodeChanges.{IsEntryOf, TakesEntry}
use Rattle.mg_image.specs.Indexes.{HasEntry}
use Rattle.mg_btree.specs.ChangeLaws.{entry_has}
use Rattle.mg_btree.specs.SplitSteps.{count_is}
use Rattle.mg_btree.specs.Halves.{CoversBy, HasPlace, IsSplitPair, NamesMore}

-- bytes that were split through slices
pub pair_as : (old was left right a b : List ℕ) (at : ℕ) → was ≡ old → a ≡ left → b ≡ right
    → IsSplitPair was at left right → IsSplitPair old at a b
pair_as old was left right a b at same is_a is_b pair =
    subst (λ (x : List ℕ). IsSplitPair x at a b) same
    (subst (λ (x : List ℕ). IsSplitPair was at x b) (sym is_a)
    (subst (λ (x : List ℕ). IsSplitPair was at left x) (sym is_b) pair))

place_there : (es : List Entry) (e f : Entry) → HasEntry es f → SamePlace e f → HasPlace es e
place_there [] e f has same = absurd has
place_there (x ∷ xs) e f (inl is) same = inl (subst (SamePlace e) is same)
place_there (x ∷ xs) e f (inr later) same = inr (place_there xs e f later same)

pub not_entry : (page : List ℕ) (e : Entry) → (HasPlace (entries_of page) e → ⊥) → IsEntryOf page e → ⊥
not_entry page e none is = none (place_there (entries_of page) e e (entry_has page e is)
    (record { key = refl; rec = refl }))

pub entries_there : (page : List ℕ) → 0 < count_in page → entries_of page ≢ []
entries_there page some none =
    let count : 0 ≡ count_in page = ap (λ (es : List Entry). length es) (sym none) ∙ count_is page in
    omega (arith, some, count)

pub some_of : (page : List ℕ) → is_inner page ≡ true → HasEnough page → 0 < count_in page
some_of page inner enough = let two = enough inner in omega (arith, two)

-- an inner page takes an entry of a place that is free
pub takes_name : (page : List ℕ) (e : Entry) → is_inner page ≡ true → 0 < count_in page
    → length e.key ≤ length page / 8 → CoversBy page e → (HasPlace (entries_of page) e → ⊥)
    → TakesEntry page e
takes_name page e inner some short covers none = record {
  short = short;
  from = covers.0;
  below = covers.1;
  leaf = λ leaf. let both : true ≡ false = sym inner ∙ leaf in absurd cc;
  one_child = λ f has same. absurd (none (place_there (entries_of page) e f (entry_has page f has) same));
  first = λ is empty. absurd (entries_there page some empty);
}

pub no_err : (result : Result (Unit {0}) NoRoom) (x : NoRoom) → IsOk result → result ≡ Err x → ⊥
no_err (Ok y) x fine is = absurd cc
no_err (Err y) x fine is = absurd cc

pub on_ok : {P : Type 0} (result : Result (Unit {0}) NoRoom) → IsOk result → OnOk result P → P
on_ok (Ok y) fine is = is
on_ok (Err y) fine is = absurd cc

pub names_as : (old was new a : List ℕ) (e : Entry) → was ≡ old → a ≡ new → NamesMore was new e
    → NamesMore old a e
names_as old was new a e same is_a names =
    subst (λ (x : List ℕ). NamesMore x a e) same
    (subst (λ (x : List ℕ). NamesMore was x e) (sym is_a) names)
