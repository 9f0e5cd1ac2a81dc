-- The entries of a pointer page, as many as were read.
use Rattle.std.proofs.Common.{◌≡◌, ◌∙◌, ◌+◌, ◌≤◌, ◌++◌, [], ◌∷◌, ℕ, List, add-one, ap, arith, refl}
use Rattle.mg_base.specs.Fields.{u32_at}
use Rattle.mg_pointer.specs.PointerPage.{count_in, entries_of, first_entries, place_of}

-- one entry more is read
pub entry_more : (page old items more : List ℕ) (i entry : ℕ)
    → items ≡ old ++ first_entries page i → more ≡ items ++ entry ∷ []
    → entry ≡ u32_at page (place_of i) → more ≡ old ++ first_entries page (i + 1)
entry_more page old items more i entry at is read = rw (add-one i, is, at, read)
    (grouped old (first_entries page i) (u32_at page (place_of i) ∷ []))
  where
    grouped : (xs ys zs : List ℕ) → (xs ++ ys) ++ zs ≡ xs ++ (ys ++ zs)
    grouped [] ys zs = refl
    grouped (x ∷ xs) ys zs = ap (λ (rest : List ℕ). x ∷ rest) (grouped xs ys zs)

-- all entries are read
pub entries_whole : (page old items : List ℕ) (i end : ℕ) → items ≡ old ++ first_entries page i
    → i ≤ end → end ≤ i → end ≡ count_in page → items ≡ old ++ entries_of page
unfolding entries_of
entries_whole page old items i end at most least is =
    at ∙ ap (λ (k : ℕ). old ++ first_entries page k) (whole (count_in page) is)
  where
    whole : (count : ℕ) → end ≡ count → i ≡ count
    whole count is = omega arith
