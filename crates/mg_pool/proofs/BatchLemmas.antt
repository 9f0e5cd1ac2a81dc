-- The pages of a batch as a map from a page to its new content.
use Rattle.std.proofs.Common.{◌≡◌, ◌≢◌, ◌<◌, ◌≤◌, ℕ, suc, zero, ◌+◌, Bool, true, false, not, ◌==◌, ◌⊎◌, inl, inr, List, [], ◌∷◌, ◌++◌, length, get_or, set, take, drop, Option, Some, None, is_some, arith, sym, ◌∙◌, ap, refl, cond}
use Rattle.std.specs.Prelude.{count_by, IfSome, IfNone}
use Rattle.std.proofs.lemmas.Bool.{cases_Bool, cases_eq, both_ways, eq-eqb, ne_eqb}
use Rattle.std.proofs.lemmas.List.Sums.{sum_by-cons}
use Rattle.std.proofs.lemmas.List.{take_more, drop_more, length_push, length-set}
use Rattle.mg_pool.specs.declared.batch.BatchPage.{BatchPage}
use Rattle.mg_pool.specs.DirtyPage.{DirtyPage}
use Rattle.mg_pool.specs.Batch.{content_in, is_in, IsOnce, dirty_with, Changed, PutsPage}
use Rattle.mg_pool.specs.Dirty.{entry_in, bytes_of, content_of, is_dirty}

-- no entry has the page
abbrev pub NotIn : List BatchPage → ℕ → Type 0
NotIn pages page = (i : ℕ) (d : BatchPage) → i < length pages → (get_or pages i d).page ≢ page

pub no_content : (pages : List BatchPage) (page : ℕ) → NotIn pages page → content_in pages page ≡ None
no_content [] page absent = refl
no_content (x ∷ xs) page absent = rw (ne_eqb x.page page (λ e. absent 0 x (omega arith) e)) (no_content xs page (λ i d below e. absent (suc i) d (omega arith) e))

-- no entry before a place has the page
abbrev pub IsFirst : List BatchPage → ℕ → ℕ → Type 0
IsFirst pages page i = (k : ℕ) (d : BatchPage) → k < i → (get_or pages k d).page ≢ page

-- the content at the first place of a page
pub content_first : (pages : List BatchPage) (i page : ℕ) (d : BatchPage) → i < length pages → (get_or pages i d).page ≡ page → IsFirst pages page i → content_in pages page ≡ Some (get_or pages i d).bytes
content_first [] i page d inside at first = absurd (omega arith)
content_first (x ∷ xs) zero page d inside at first = rw (eq-eqb x.page page at) refl
content_first (x ∷ xs) (suc i) page d inside at first =
    rw (ne_eqb x.page page (λ e. first 0 x (omega arith) e)) (content_first xs i page d (omega arith) at (λ k e below f. first (suc k) e (omega arith) f))

-- another content at the first place of a page
pub content-set : (pages : List BatchPage) (i : ℕ) (e d : BatchPage) → i < length pages → (get_or pages i d).page ≡ e.page → IsFirst pages e.page i → content_in (set pages i e) e.page ≡ Some e.bytes
content-set [] i e d inside at first = absurd (omega arith)
content-set (x ∷ xs) zero e d inside at first = rw (eq-eqb e.page e.page refl) refl
content-set (x ∷ xs) (suc i) e d inside at first =
    rw (ne_eqb x.page e.page (λ f. first 0 x (omega arith) f)) (content-set xs i e d (omega arith) at (λ k c below f. first (suc k) c (omega arith) f))

pub content-set_other : (pages : List BatchPage) (i : ℕ) (e d : BatchPage) (other : ℕ) → (get_or pages i d).page ≡ e.page → other ≢ e.page → content_in (set pages i e) other ≡ content_in pages other
content-set_other [] i e d other at apart = refl
content-set_other (x ∷ xs) zero e d other at apart = rw (ne_eqb e.page other (λ f. apart (sym f)), ne_eqb x.page other (λ f. apart (sym f ∙ at))) refl
content-set_other (x ∷ xs) (suc i) e d other at apart = ap (λ (rest : Option (List ℕ)). cond (x.page == other) (Some x.bytes) rest) (content-set_other xs i e d other at apart)

none-set : (pages : List BatchPage) (i : ℕ) (e d : BatchPage) (page : ℕ) → (get_or pages i d).page ≡ e.page → content_in pages page ≡ None → content_in (set pages i e) page ≡ None
none-set [] i e d page at none = none
none-set (x ∷ xs) zero e d page at none = go (x.page == page) refl none
  where
    go : (b : Bool) → (x.page == page) ≡ b → cond b (Some x.bytes) (content_in xs page) ≡ None → cond (e.page == page) (Some e.bytes) (content_in xs page) ≡ None
    go true test same = absurd cc
    go false test same = let f : (e.page == page) ≡ false = ap (λ (k : ℕ). k == page) (sym at) ∙ test in rw f same
none-set (x ∷ xs) (suc i) e d page at none = go (x.page == page) (none-set xs i e d page at) none
  where
    go : (b : Bool) → (content_in xs page ≡ None → content_in (set xs i e) page ≡ None) → cond b (Some x.bytes) (content_in xs page) ≡ None → cond b (Some x.bytes) (content_in (set xs i e) page) ≡ None
    go true more same = absurd cc
    go false more same = more same

pub once-set : (pages : List BatchPage) (i : ℕ) (e d : BatchPage) → IsOnce pages → (get_or pages i d).page ≡ e.page → IsOnce (set pages i e)
once-set [] i e d once at = tt
once-set (x ∷ xs) zero e d once at = (ap (content_in xs) (sym at) ∙ once.0, once.1)
once-set (x ∷ xs) (suc i) e d once at = (none-set xs i e d x.page at once.0, once-set xs i e d once.1 at)

-- one entry more
pub content-push_other : (pages : List BatchPage) (e : BatchPage) (other : ℕ) → other ≢ e.page → content_in (pages ++ e ∷ []) other ≡ content_in pages other
content-push_other [] e other apart = rw (ne_eqb e.page other (λ f. apart (sym f))) refl
content-push_other (x ∷ xs) e other apart = ap (λ (rest : Option (List ℕ)). cond (x.page == other) (Some x.bytes) rest) (content-push_other xs e other apart)

head_apart : (x : BatchPage) (xs : List BatchPage) (page : ℕ) → content_in (x ∷ xs) page ≡ None → (x.page ≢ page) × (content_in xs page ≡ None)
head_apart x xs page none = go (x.page == page) refl none
  where
    go : (b : Bool) → (x.page == page) ≡ b → cond b (Some x.bytes) (content_in xs page) ≡ None → (x.page ≢ page) × (content_in xs page ≡ None)
    go true test same = absurd cc
    go false test same = ((λ e. both_ways (x.page == page) test (eq-eqb x.page page e)), same)

pub content-push : (pages : List BatchPage) (e : BatchPage) → content_in pages e.page ≡ None → content_in (pages ++ e ∷ []) e.page ≡ Some e.bytes
content-push [] e none = rw (eq-eqb e.page e.page refl) refl
content-push (x ∷ xs) e none =
    let parts = head_apart x xs e.page none in
    rw (ne_eqb x.page e.page parts.0) (content-push xs e parts.1)

pub once-push : (pages : List BatchPage) (e : BatchPage) → IsOnce pages → content_in pages e.page ≡ None → IsOnce (pages ++ e ∷ [])
once-push [] e once none = (refl, tt)
once-push (x ∷ xs) e once none =
    let parts = head_apart x xs e.page none in
    (content-push_other xs e x.page parts.0 ∙ once.0, once-push xs e once.1 parts.1)

-- What a put leaves.
pub puts_again : (pages : List BatchPage) (i : ℕ) (e d : BatchPage) (old new : Changed) → old.pages ≡ pages → new.pages ≡ set pages i e → new.orders ≡ old.orders → i < length pages → (get_or pages i d).page ≡ e.page → IsFirst pages e.page i → PutsPage old new e.page e.bytes
puts_again pages i e d old new was now orders inside at first = record {
  here = ap (λ (xs : List BatchPage). content_in xs e.page) now ∙ content-set pages i e d inside at first;
  others = λ other apart. ap (λ (xs : List BatchPage). content_in xs other) now ∙ (content-set_other pages i e d other at apart ∙ ap (λ (xs : List BatchPage). content_in xs other) (sym was));
  count =
      let there : is_in old.pages e.page ≡ true = ap (λ (xs : List BatchPage). is_in xs e.page) was ∙ ap is_some (content_first pages i e.page d inside at first) in
      rw there (ap (length {A = BatchPage}) now ∙ (length-set pages i e ∙ ap (length {A = BatchPage}) (sym was)));
  same_orders = orders;
}

pub puts_new : (pages : List BatchPage) (e : BatchPage) (old new : Changed) → old.pages ≡ pages → new.pages ≡ pages ++ e ∷ [] → new.orders ≡ old.orders → content_in pages e.page ≡ None → PutsPage old new e.page e.bytes
puts_new pages e old new was now orders none = record {
  here = ap (λ (xs : List BatchPage). content_in xs e.page) now ∙ content-push pages e none;
  others = λ other apart. ap (λ (xs : List BatchPage). content_in xs other) now ∙ (content-push_other pages e other apart ∙ ap (λ (xs : List BatchPage). content_in xs other) (sym was));
  count =
      let out : is_in old.pages e.page ≡ false = ap (λ (xs : List BatchPage). is_in xs e.page) was ∙ ap is_some none in
      rw out (ap (length {A = BatchPage}) now ∙ (length_push pages e ∙ ap (λ (xs : List BatchPage). length xs + 1) (sym was)));
  same_orders = orders;
}

-- Pages one after another.

-- some page, to read a list by
pub no_page : BatchPage
no_page = record { page = 0; bytes = [] }

none_at : (pages : List BatchPage) (i page : ℕ) (d : BatchPage) → i < length pages → content_in pages page ≡ None → (get_or pages i d).page ≢ page
none_at [] i page d inside none = absurd (omega arith)
none_at (x ∷ xs) zero page d inside none = (head_apart x xs page none).0
none_at (x ∷ xs) (suc i) page d inside none = none_at xs i page d (omega arith) (head_apart x xs page none).1

-- the page at a place is not before it
pub none_before : (pages : List BatchPage) (i : ℕ) (d : BatchPage) → IsOnce pages → i < length pages → content_in (take i pages) (get_or pages i d).page ≡ None
none_before [] i d once inside = absurd (omega arith)
none_before (x ∷ xs) zero d once inside = refl
none_before (x ∷ xs) (suc i) d once inside = rw (ne_eqb x.page (get_or xs i d).page (λ e. none_at xs i x.page d (omega arith) once.0 (sym e))) (none_before xs i d once.1 (omega arith))

-- nor after it
pub none_after : (pages : List BatchPage) (i : ℕ) (d : BatchPage) → IsOnce pages → i < length pages → content_in (drop (i + 1) pages) (get_or pages i d).page ≡ None
none_after [] i d once inside = absurd (omega arith)
none_after (x ∷ xs) zero d once inside = once.0
none_after (x ∷ xs) (suc i) d once inside =
    let e : suc i + 1 ≡ suc (i + 1) = omega arith in
    rw e (none_after xs i d once.1 (omega arith))

-- the content at a place is the one of its page
pub content_at : (pages : List BatchPage) (i : ℕ) (d : BatchPage) → IsOnce pages → i < length pages → content_in pages (get_or pages i d).page ≡ Some (get_or pages i d).bytes
content_at [] i d once inside = absurd (omega arith)
content_at (x ∷ xs) zero d once inside = rw (eq-eqb x.page x.page refl) refl
content_at (x ∷ xs) (suc i) d once inside = rw (ne_eqb x.page (get_or xs i d).page (λ e. none_at xs i x.page d (omega arith) once.0 (sym e))) (content_at xs i d once.1 (omega arith))

-- one page more of the first ones
pub first_more_here : (pages : List BatchPage) (i : ℕ) (d : BatchPage) → IsOnce pages → i < length pages → content_in (take (i + 1) pages) (get_or pages i d).page ≡ Some (get_or pages i d).bytes
first_more_here pages i d once inside = ap (λ (xs : List BatchPage). content_in xs (get_or pages i d).page) (take_more pages i d inside) ∙ content-push (take i pages) (get_or pages i d) (none_before pages i d once inside)

pub first_more_other : (pages : List BatchPage) (i : ℕ) (d : BatchPage) (other : ℕ) → i < length pages → other ≢ (get_or pages i d).page → content_in (take (i + 1) pages) other ≡ content_in (take i pages) other
first_more_other pages i d other inside apart = ap (λ (xs : List BatchPage). content_in xs other) (take_more pages i d inside) ∙ content-push_other (take i pages) (get_or pages i d) other apart

-- How many pages of a batch are not dirty.

abbrev pub clean_count : (ℕ → Bool) → List BatchPage → ℕ
clean_count dirty pages = count_by (λ x. not (dirty x.page)) pages

-- the count with one page more in front
count_front : (p : BatchPage → Bool) (x : BatchPage) (xs : List BatchPage) → count_by p (x ∷ xs) ≡ cond (p x) 1 0 + count_by p xs
count_front p x xs = sum_by-cons (λ y. cond (p y) 1 0) x xs

pub clean_same : (old new : ℕ → Bool) (page : ℕ) (xs : List BatchPage) → ((p : ℕ) → p ≢ page → new p ≡ old p) → content_in xs page ≡ None → clean_count new xs ≡ clean_count old xs
clean_same old new page [] same none = refl
clean_same old new page (x ∷ xs) same none =
    let parts = head_apart x xs page none in
    let here : cond {A = ℕ} (not (new x.page)) 1 0 ≡ cond {A = ℕ} (not (old x.page)) 1 0 = ap (λ (b : Bool). cond (not b) 1 0) (same x.page parts.0) in
    count_front (λ y. not (new y.page)) x xs ∙ (omega (arith, here, clean_same old new page xs same parts.1) ∙ sym (count_front (λ y. not (old y.page)) x xs))

-- the rest of a batch from a place on
pub clean_rest : (dirty : ℕ → Bool) (pages : List BatchPage) (i : ℕ) (d : BatchPage) → i < length pages → clean_count dirty (drop i pages) ≡ cond (not (dirty (get_or pages i d).page)) 1 0 + clean_count dirty (drop (i + 1) pages)
clean_rest dirty pages i d inside = ap (clean_count dirty) (drop_more pages i d inside) ∙ count_front (λ y. not (dirty y.page)) (get_or pages i d) (drop (i + 1) pages)

-- More pages would be dirty than a batch has: then one is dirty outside it.

mono : (f g : BatchPage → Bool) (xs : List BatchPage) → ((x : BatchPage) → f x ≡ true → g x ≡ true) → count_by f xs ≤ count_by g xs
mono f g [] sub = omega arith
mono f g (x ∷ xs) sub = let here = at (f x) (g x) (sub x) in omega (arith, here, mono f g xs sub, count_front f x xs, count_front g x xs)
  where
    at : (a b : Bool) → (a ≡ true → b ≡ true) → cond a 1 0 ≤ cond b 1 0
    at true true sub = omega arith
    at true false sub = absurd (let h : false ≡ true = sub refl in cc)
    at false true sub = omega arith
    at false false sub = omega arith

abbrev has : List DirtyPage → BatchPage → Bool
has ds x = is_some (entry_in ds x.page)

has_more : (d : DirtyPage) (ds : List DirtyPage) (x : BatchPage) → has ds x ≡ true → has (d ∷ ds) x ≡ true
has_more d ds x there = at (d.page == x.page)
  where
    at : (b : Bool) → is_some (cond b (Some d) (entry_in ds x.page)) ≡ true
    at true = refl
    at false = there

one_more : (d : DirtyPage) (ds : List DirtyPage) (pages : List BatchPage) → entry_in ds d.page ≡ None → is_in pages d.page ≡ true → count_by (has ds) pages + 1 ≤ count_by (has (d ∷ ds)) pages
one_more d ds [] none there = absurd cc
one_more d ds (x ∷ xs) none there = elim (cases_eq x.page d.page) [
  | inl e ↦
      let new : has (d ∷ ds) x ≡ true = rw (eq-eqb d.page x.page (sym e)) refl in
      let old : has ds x ≡ false = ap (λ (p : ℕ). is_some (entry_in ds p)) e ∙ ap is_some none in
      let rest = mono (has ds) (has (d ∷ ds)) xs (has_more d ds) in
      let first : cond {A = ℕ} (has ds x) 1 0 ≡ 0 = ap (λ (b : Bool). cond b 1 0) old in
      let second : cond {A = ℕ} (has (d ∷ ds) x) 1 0 ≡ 1 = ap (λ (b : Bool). cond b 1 0) new in
      omega (arith, rest, first, second, count_front (has ds) x xs, count_front (has (d ∷ ds)) x xs)
  | inr apart ↦
      let in_rest : is_in xs d.page ≡ true = rw (ne_eqb x.page d.page apart) at there in
      let same : has (d ∷ ds) x ≡ has ds x = rw (ne_eqb d.page x.page (λ e. apart (sym e))) refl in
      let here : cond {A = ℕ} (has (d ∷ ds) x) 1 0 ≡ cond {A = ℕ} (has ds x) 1 0 = ap (λ (b : Bool). cond b 1 0) same in
      let rest = one_more d ds xs none in_rest in
      omega (arith, rest, here, count_front (has ds) x xs, count_front (has (d ∷ ds)) x xs)
]

-- each entry of a table has a page of its own
abbrev pub IsApart : List DirtyPage → Type 0
IsApart [] = Unit {0}
IsApart (d ∷ ds) = (entry_in ds d.page ≡ None) × IsApart ds

covered : (ds : List DirtyPage) (pages : List BatchPage) → IsApart ds → ((page : ℕ) → is_some (entry_in ds page) ≡ true → is_in pages page ≡ true) → length ds ≤ count_by (has ds) pages
covered [] pages apart all = omega arith
covered (d ∷ ds) pages apart all =
    let here : is_in pages d.page ≡ true = all d.page (rw (eq-eqb d.page d.page refl) refl) in
    let rest = covered ds pages apart.1 (λ page there. all page (has_more d ds (record { page = page; bytes = [] }) there)) in
    omega (arith, rest, one_more d ds pages apart.0 here)

split : (f : BatchPage → Bool) (xs : List BatchPage) → count_by f xs + count_by (λ x. not (f x)) xs ≡ length xs
split f [] = refl
split f (x ∷ xs) = let here = at (f x) in omega (arith, here, split f xs, count_front f x xs, count_front (λ y. not (f y)) x xs)
  where
    at : (b : Bool) → cond b 1 0 + cond (not b) 1 0 ≡ 1
    at true = refl
    at false = refl

outside_or_all : (ds : List DirtyPage) (pages : List BatchPage) → ((page : ℕ) × (is_some (entry_in ds page) ≡ true) × (is_in pages page ≡ false)) ⊎ ((page : ℕ) → is_some (entry_in ds page) ≡ true → is_in pages page ≡ true)
outside_or_all [] pages = inr (λ page there. absurd cc)
outside_or_all (d ∷ ds) pages = elim (cases_Bool (is_in pages d.page)) [
  | inl here ↦ elim (outside_or_all ds pages) [
    | inl found ↦ inl (found.0, has_more d ds (record { page = found.0; bytes = [] }) found.1, found.2)
    | inr all ↦ inr (λ page there. elim (cases_eq d.page page) [
      | inl e ↦ ap (is_in pages) (sym e) ∙ here
      | inr apart ↦ all page (rw (ne_eqb d.page page apart) at there)
    ])
  ]
  | inr out ↦ inl (d.page, rw (eq-eqb d.page d.page refl) refl, out)
]

has_dirty : (size room : ℕ) (ds : List DirtyPage) (page : ℕ) → is_dirty (record { size = size; room = room; pages = ds }) page ≡ is_some (entry_in ds page)
unfolding content_of
has_dirty size room ds page = at (entry_in ds page)
  where
    at : (o : Option DirtyPage) → is_some (bytes_of o) ≡ is_some o
    at None = refl
    at (Some d) = refl

count_same : (f g : BatchPage → Bool) (xs : List BatchPage) → ((x : BatchPage) → f x ≡ g x) → count_by f xs ≡ count_by g xs
count_same f g [] same = refl
count_same f g (x ∷ xs) same =
    let here : cond {A = ℕ} (f x) 1 0 ≡ cond {A = ℕ} (g x) 1 0 = ap (λ (b : Bool). cond b 1 0) (same x) in
    count_front f x xs ∙ (omega (arith, here, count_same f g xs same) ∙ sym (count_front g x xs))

pub some_outside : (size room : ℕ) (ds : List DirtyPage) (pages : List BatchPage) → IsApart ds → length pages < dirty_with (record { size = size; room = room; pages = ds }) pages → (page : ℕ) × (is_dirty (record { size = size; room = room; pages = ds }) page ≡ true) × (is_in pages page ≡ false)
some_outside size room ds pages apart more = elim (outside_or_all ds pages) [
  | inl found ↦ (found.0, has_dirty size room ds found.0 ∙ found.1, found.2)
  | inr all ↦
      let low = covered ds pages apart all in
      let both = split (has ds) pages in
      let same = count_same (λ x. not (is_dirty (record { size = size; room = room; pages = ds }) x.page)) (λ x. not (has ds x)) pages (λ x. ap not (has_dirty size room ds x.page)) in
      absurd (omega (arith, low, both, same, more))
]

-- a place was found exactly where the batch has the page
pub has_page_is : (pages : List BatchPage) (page : ℕ) (place : Option ℕ) → IfSome place (λ i. (i < length pages) × ((d : BatchPage) → (get_or pages i d).page ≡ page)) → IfSome place (λ i. IsFirst pages page i) → IfNone place (NotIn pages page) → is_some place ≡ is_in pages page
has_page_is pages page None found first absent = sym (ap is_some (no_content pages page absent))
has_page_is pages page (Some i) found first absent = sym (ap is_some (content_first pages i page no_page found.0 (found.1 no_page) first))
