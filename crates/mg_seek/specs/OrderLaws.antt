-- Two lists of rows with the same rows, each key once, are one in another order.
use Rattle.std.proofs.Common.{◌≡◌, ◌∙◌, ◌⊎◌, inl, inr, ℕ, Bool, true, false, List, [], ◌∷◌, ◌++◌, Option, None, Some, refl, sym, ap, subst, cond}
use Rattle.std.specs.Prelude.{◌≢◌, IsPermutation}
use Rattle.std.proofs.lemmas.Bool.{false≢true}
use Rattle.std.proofs.lemmas.List.Sorted.{IsPermutation-cons, IsPermutation-middle, IsPermutation-refl, IsPermutation-trans}
use Rattle.std.proofs.lemmas.Cmp.{tied_itself}
use Rattle.std.specs.Ordering.{is_eq, ordering_reverse}
use Rattle.std.specs.declared.cmp.Ordering.TheVariants.{Greater}
use Rattle.mg_value.specs.OrderLaws.{value_cmp_total}
use Rattle.mg_value.specs.Values.{value_cmp}
use Rattle.mg_value.specs.declared.value.Value.{Value}
use Rattle.mg_image.specs.Form.{Row}
use Rattle.mg_model.specs.Changes.{KeyedRows, same_key}
use Rattle.mg_model.specs.RowLaws.{IsAscending, IsBelow, row_in, same_from_same_key}

same_key_refl : (key : Value) → same_key key key ≡ true
same_key_refl key = ap is_eq (tied_itself value_cmp_total key)

-- what is less than all keys is none of them
none_below : (key : Value) (rows : KeyedRows) → IsBelow key rows → row_in rows key ≡ None
none_below key [] below = refl
none_below key (r ∷ rows) below =
    let back : value_cmp r.0 key ≡ Greater =
    value_cmp_total.antisymm r.0 key ∙ ap ordering_reverse below.0 in
    rw back (none_below key rows below.1)

-- a row with a key is one of these
abbrev pub HasRow : KeyedRows → Value → Row → Type 0
HasRow [] key row = ⊥
HasRow (x ∷ xs) key row = ((x.0 ≡ key) × (x.1 ≡ row)) ⊎ HasRow xs key row

-- no row of these has a key
abbrev pub NoneHas : KeyedRows → Value → Type 0
NoneHas rows key = (row : Row) → HasRow rows key row → ⊥

-- no key stands twice
abbrev pub AreKeyedOnce : KeyedRows → Type 0
AreKeyedOnce [] = Unit {0}
AreKeyedOnce (x ∷ xs) = NoneHas xs x.0 × AreKeyedOnce xs

-- rows without one of them
record TakenOut (rows : KeyedRows) (key : Value) (row : Row) : Type 0 where
  left : KeyedRows
  moved : IsPermutation rows ((key, row) ∷ left)
  once : AreKeyedOnce left
  old : (k : Value) (its : Row) → HasRow left k its → HasRow rows k its × (k ≢ key)
  new : (k : Value) (its : Row) → HasRow rows k its → k ≢ key → HasRow left k its

take_out : (rows : KeyedRows) (key : Value) (row : Row) → AreKeyedOnce rows → HasRow rows key row
    → TakenOut rows key row
take_out [] key row once has = absurd has
take_out (x ∷ xs) key row once (inl same) = record {
  left = xs;
  moved = subst (λ (y : Value × Row). IsPermutation (x ∷ xs) (y ∷ xs)) pair (IsPermutation-refl (x ∷ xs));
  once = once.1;
  old = λ k its has. (
    inr has,
    (λ is. once.0 its
        (subst (λ (v : Value). HasRow xs v its) (is ∙ sym same.0) has)),
  );
  new = later;
}
  where
    pair : x ≡ (key, row)
    pair = λ i. (same.0 i, same.1 i)

    later : (k : Value) (its : Row) → HasRow (x ∷ xs) k its → k ≢ key → HasRow xs k its
    later k its (inl here_) other = absurd (other (sym here_.0 ∙ same.0))
    later k its (inr is) other = is
take_out (x ∷ xs) key row once (inr has) = at (take_out xs key row once.1 has)
  where
    at : TakenOut xs key row → TakenOut (x ∷ xs) key row
    at t = record {
      left = x ∷ t.left;
      moved = IsPermutation-trans (x ∷ xs) (x ∷ (key, row) ∷ t.left) ((key, row) ∷ x ∷ t.left)
          (IsPermutation-cons x xs ((key, row) ∷ t.left) t.moved)
          (IsPermutation-middle (x ∷ []) (key, row) t.left);
      once = ((λ its is. once.0 its (t.old x.0 its is).0), t.once);
      old = old_one;
      new = new_one;
    }
      where
        differs : x.0 ≢ key
        differs same = once.0 row (subst (λ (v : Value). HasRow xs v row) (sym same) has)

        old_one : (k : Value) (its : Row) → HasRow (x ∷ t.left) k its → HasRow (x ∷ xs) k its × (k ≢ key)
        old_one k its (inl here_) = (inl here_, (λ is. differs (here_.0 ∙ is)))
        old_one k its (inr is) = (inr (t.old k its is).0, (t.old k its is).1)

        new_one : (k : Value) (its : Row) → HasRow (x ∷ xs) k its → k ≢ key → HasRow (x ∷ t.left) k its
        new_one k its (inl here_) other = inl here_
        new_one k its (inr is) other = inr (t.new k its is other)

-- a key that is less than all is none of them
below_none : (key : Value) (rows : KeyedRows) (row : Row) → IsBelow key rows → row_in rows key ≡ Some row → ⊥
below_none key rows row below is =
    let none : None ≡ Some row = sym (none_below key rows below) ∙ is in absurd cc

-- rows by their keys, and rows in key order with the same ones, are each other's in another order
pub same_rows : (rows sorted : KeyedRows) → AreKeyedOnce rows → IsAscending sorted
    → ((k : Value) (row : Row) → HasRow rows k row → row_in sorted k ≡ Some row)
    → ((k : Value) (row : Row) → row_in sorted k ≡ Some row → HasRow rows k row)
    → IsPermutation rows sorted
same_rows [] [] once up there back = IsPermutation-refl []
same_rows (x ∷ xs) [] once up there back =
    let none : None ≡ Some x.1 = there x.0 x.1 (inl (refl, refl)) in absurd cc
same_rows rows (s ∷ sorted) once up there back =
    at (take_out rows s.0 s.1 once (back s.0 s.1 (first_there s.0 s.1 sorted)))
    (λ left apart to from. same_rows left sorted apart up.1 to from)
  where
    first_there : (k : Value) (row : Row) (more : KeyedRows) → row_in ((k, row) ∷ more) k ≡ Some row
    first_there k row more = ap (λ (c : Bool). cond c (Some row) (row_in more k)) (same_key_refl k)

    at : TakenOut rows s.0 s.1
        → ((left : KeyedRows) → AreKeyedOnce left
        → ((k : Value) (row : Row) → HasRow left k row → row_in sorted k ≡ Some row)
        → ((k : Value) (row : Row) → row_in sorted k ≡ Some row → HasRow left k row)
        → IsPermutation left sorted)
        → IsPermutation rows (s ∷ sorted)
    at t more = IsPermutation-trans rows (s ∷ t.left) (s ∷ sorted) t.moved
        (IsPermutation-cons s t.left sorted (more t.left t.once to from))
      where
        decide : (k : Value) (b : Bool) → same_key s.0 k ≡ b → (row : Row)
            → cond b (Some s.1) (row_in sorted k) ≡ Some row → k ≢ s.0 → row_in sorted k ≡ Some row
        decide k true same row is other = absurd (other (sym (same_from_same_key s.0 k same)))
        decide k false differs row is other = is

        to : (k : Value) (row : Row) → HasRow t.left k row → row_in sorted k ≡ Some row
        to k row has = decide k (same_key s.0 k) refl row (there k row (t.old k row has).0) (t.old k row has).1

        later : (k : Value) (b : Bool) → same_key s.0 k ≡ b → (row : Row) → row_in sorted k ≡ Some row
            → (cond b (Some s.1) (row_in sorted k) ≡ Some row) × (k ≢ s.0)
        later k true same row is = absurd (below_none s.0 sorted row up.0
            (ap (row_in sorted) (same_from_same_key s.0 k same) ∙ is))
        later k false differs row is = (
          is,
          (λ equal. false≢true (sym differs
              ∙ ap (same_key s.0) equal ∙ same_key_refl s.0)),
        )

        from : (k : Value) (row : Row) → row_in sorted k ≡ Some row → HasRow t.left k row
        from k row is =
            let both = later k (same_key s.0 k) refl row is in
            t.new k row (back k row both.0) both.1
