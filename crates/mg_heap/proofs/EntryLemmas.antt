-- The entries of a pointer page, appended one by one.
use Rattle.std.proofs.Common.{◌≡◌, ◌≤◌, ◌+◌, ◌++◌, ◌∷◌, [], ◌∙◌, ℕ, List, add-one, ap, append_assoc, arith}
use Rattle.mg_base.specs.Fields.{u32_at}
use Rattle.mg_pointer.specs.PointerPage.{count_in, entries_of, first_entries, place_of}

-- one entry more
pub more_entries : (page start old new : List ℕ) (i entry : ℕ) → old ≡ start ++ first_entries page i
    → new ≡ old ++ entry ∷ [] → entry ≡ u32_at page (place_of i)
    → new ≡ start ++ first_entries page (i + 1)
more_entries page start old new i entry before pushed is = rw (add-one i) (pushed
    ∙ (ap (λ (all : List ℕ). all ++ entry ∷ []) before
    ∙ (append_assoc start (first_entries page i) (entry ∷ [])
    ∙ ap (λ (n : ℕ). start ++ (first_entries page i ++ n ∷ [])) is)))

-- as many as the page has
pub all_entries : (page start new : List ℕ) (i end : ℕ) → new ≡ start ++ first_entries page i → i ≤ end
    → end ≤ i → end ≡ count_in page → new ≡ start ++ entries_of page
unfolding entries_of
all_entries page start new i end is most least count =
    let same : i ≡ end = omega (arith, most, least) in
    is ∙ ap (λ (n : ℕ). start ++ first_entries page n) (same ∙ count)
