-- The entries that stay in the table of dirty pages, as pages are written.
use Rattle.std.proofs.Common.{◌≡◌, ◌==◌, ◌&&◌, ◌⊎◌, inl, inr, ℕ, Bool, true, false, List, [], ◌∷◌, Some, is_some, cond, sym, ◌∙◌, ap, refl}
use Rattle.std.specs.List.{filter}
use Rattle.std.proofs.lemmas.Bool.{eq-eqb}
use Rattle.mg_pool.specs.DirtyPage.{DirtyPage}
use Rattle.mg_pool.specs.Dirty.{DirtyPages, entry_in, bytes_of, content_of, is_dirty}

-- a page has an entry in a list
abbrev pub HasEntry : List DirtyPage → ℕ → Type 0
HasEntry [] page = ⊥
HasEntry (x ∷ xs) page = (x.page ≡ page) ⊎ HasEntry xs page

found : (pages : List DirtyPage) (page : ℕ) → HasEntry pages page → is_some (bytes_of (entry_in pages page)) ≡ true
found [] page there = absurd there
found (x ∷ xs) page (inl e) = rw (eq-eqb x.page page e) refl
found (x ∷ xs) page (inr there) = at (x.page == page) (found xs page there)
  where
    at : (b : Bool) → is_some (bytes_of (entry_in xs page)) ≡ true → is_some (bytes_of (cond b (Some x) (entry_in xs page))) ≡ true
    at true more = refl
    at false more = more

all_pass : (test : ℕ → Bool) (pages : List DirtyPage) → ((page : ℕ) → HasEntry pages page → test page ≡ true) → filter (λ d. test d.page) pages ≡ pages
all_pass test [] each = refl
all_pass test (x ∷ xs) each = rw (each x.page (inl refl), all_pass test xs (λ page there. each page (inr there))) refl

pub filter_same : (p q : ℕ → Bool) → ((page : ℕ) → p page ≡ q page) → (pages : List DirtyPage) → filter (λ d. p d.page) pages ≡ filter (λ d. q d.page) pages
filter_same p q same [] = refl
filter_same p q same (x ∷ xs) = rw (same x.page, filter_same p q same xs) refl

filter_twice : (p q : ℕ → Bool) (pages : List DirtyPage) → filter (λ d. q d.page) (filter (λ d. p d.page) pages) ≡ filter (λ d. p d.page && q d.page) pages
filter_twice p q [] = refl
filter_twice p q (x ∷ xs) = at (p x.page) (q x.page) refl (filter_twice p q xs)
  where
    at : (a b : Bool) → q x.page ≡ b → filter (λ d. q d.page) (filter (λ d. p d.page) xs) ≡ filter (λ d. p d.page && q d.page) xs → filter (λ d. q d.page) (cond a (x ∷ filter (λ d. p d.page) xs) (filter (λ d. p d.page) xs)) ≡ cond (a && b) (x ∷ filter (λ d. p d.page && q d.page) xs) (filter (λ d. p d.page && q d.page) xs)
    at true true is more = rw (is, more) refl
    at true false is more = rw (is, more) refl
    at false b is more = more

-- every entry is that of a dirty page
pub rest_all : (t : DirtyPages) → t.pages ≡ filter (λ d. is_dirty t d.page) t.pages
unfolding content_of
rest_all t = sym (all_pass (is_dirty t) t.pages (λ page there. found t.pages page there))

-- entries stay twice, by tests that together are a third
pub rest_then : (p q r : ℕ → Bool) (a b c : List DirtyPage) → b ≡ filter (λ d. p d.page) a → c ≡ filter (λ d. q d.page) b → ((page : ℕ) → (p page && q page) ≡ r page) → c ≡ filter (λ d. r d.page) a
rest_then p q r a b c first next both = next ∙ (ap (filter (λ d. q d.page)) first ∙ (filter_twice p q a ∙ filter_same (λ page. p page && q page) r both a))
