-- The dirty page of least number that passes a test.
use Rattle.std.proofs.Common.{◌≡◌, ◌≢◌, ◌<◌, ◌≤◌, ℕ, suc, zero, ◌+◌, Bool, true, false, ◌==◌, inl, inr, List, [], ◌∷◌, length, get_or, set, take, drop, map, ◌++◌, Option, Some, None, nat_lt, is_some, arith, sym, ◌∙◌, ap, refl, cond}
use Rattle.std.proofs.lemmas.Bool.{cases_lt, ltb-true, ltb-false, eqb-true, eq-eqb}
use Rattle.std.specs.Option.{option_map}
use Rattle.std.specs.Prelude.{IsSome}
use Rattle.std.proofs.lemmas.List.{length-set, get_or-set_same, get_or-set_other, length-map}
use Rattle.mg_careful.specs.Rows.{IsLeast, lesser_of}
use Rattle.mg_pool.specs.DirtyPage.{DirtyPage}
use Rattle.mg_pool.specs.Dirty.{entry_in, bytes_of, marked_by, IsTable, IsLeastPage, content_of, is_dirty, is_marked, DirtyPages, with_mark, MarksAll}
use Rattle.mg_pool.proofs.DirtyLemmas.{entry_at, table}

-- nothing is least among nothing
pub least_none : (given : ℕ → Option ℕ) → IsLeast given 0 None
least_none given = record { found = λ m same. absurd cc; least_of = λ k n below here. absurd (omega arith) }

-- the lesser of the least number and the next one is the least
pub least_more : (given : ℕ → Option ℕ) (i : ℕ) (least next : Option ℕ) → IsLeast given i least → given i ≡ next → IsLeast given (i + 1) (lesser_of least next)
least_more given i None None old here = record {
  found = λ m same. absurd cc;
  least_of = λ k n below at. elim (cases_lt k i) [ inl less ↦ old.least_of k n less at | inr past ↦ let e : k ≡ i = omega arith in absurd (let f : given i ≡ Some n = ap given (sym e) ∙ at in cc) ];
}
least_more given i (Some m) None old here = record {
  found = λ x same. let f = old.found x same in (f.0, omega arith, f.2);
  least_of = λ k n below at. elim (cases_lt k i) [ inl less ↦ old.least_of k n less at | inr past ↦ let e : k ≡ i = omega arith in absurd (let f : given i ≡ Some n = ap given (sym e) ∙ at in cc) ];
}
least_more given i None (Some b) old here = record {
  found = λ x same. (i, omega arith, here ∙ same);
  least_of = λ k n below at. elim (cases_lt k i) [ inl less ↦ let f = old.least_of k n less at in absurd (let g : None ≡ Some f.0 = f.1 in cc) | inr past ↦ let e : k ≡ i = omega arith in let f : given i ≡ Some n = ap given (sym e) ∙ at in let g : b ≡ n = cc in (b, refl, omega arith) ];
}
least_more given i (Some a) (Some b) old here = at (nat_lt a b) refl
  where
    from_old : a < b → IsLeast given (i + 1) (Some a)
    from_old less = record {
      found = λ x same. let f = old.found x same in (f.0, omega arith, f.2);
      least_of = λ k n below there. elim (cases_lt k i) [ inl low ↦ old.least_of k n low there | inr past ↦ let e : k ≡ i = omega arith in let f : given i ≡ Some n = ap given (sym e) ∙ there in let g : b ≡ n = cc in (a, refl, omega arith) ];
    }

    from_new : b ≤ a → IsLeast given (i + 1) (Some b)
    from_new more = record {
      found = λ x same. (i, omega arith, here ∙ same);
      least_of = λ k n below there. elim (cases_lt k i) [ inl low ↦ let f = old.least_of k n low there in let g : a ≡ f.0 = (let h : Some a ≡ Some f.0 = f.1 in cc) in let w : f.0 ≤ n = f.2 in (b, refl, omega arith) | inr past ↦ let e : k ≡ i = omega arith in let f : given i ≡ Some n = ap given (sym e) ∙ there in let g : b ≡ n = cc in (b, refl, omega arith) ];
    }

    at : (t : Bool) → nat_lt a b ≡ t → IsLeast given (i + 1) (cond t (Some a) (Some b))
    at true less = from_old (ltb-true a b less)
    at false more = from_new (ltb-false a b more)

-- the page of an entry that passes a test
abbrev pub chosen : (DirtyPage → Bool) → DirtyPage → Option ℕ
chosen test d = cond (test d) (Some d.page) None

-- the page at a place whose entry passes a test
abbrev pub given : (DirtyPage → Bool) → List DirtyPage → ℕ → Option ℕ
given test [] k = None
given test (x ∷ xs) zero = chosen test x
given test (x ∷ xs) (suc k) = given test xs k

pub given_at : (test : DirtyPage → Bool) (pages : List DirtyPage) (k : ℕ) (d : DirtyPage) → k < length pages → given test pages k ≡ chosen test (get_or pages k d)
given_at test [] k d inside = absurd (omega arith)
given_at test (x ∷ xs) zero d inside = refl
given_at test (x ∷ xs) (suc k) d inside = given_at test xs k d (omega arith)

unfoldable pub passes : (DirtyPage → Bool) → Option DirtyPage → Bool
passes test None = false
passes test (Some d) = test d

-- an entry that passes stands somewhere
place_of_entry : (test : DirtyPage → Bool) (pages : List DirtyPage) (page : ℕ) → passes test (entry_in pages page) ≡ true → (k : ℕ) × (k < length pages) × (given test pages k ≡ Some page)
unfolding passes
place_of_entry test [] page pass = absurd cc
place_of_entry test (x ∷ xs) page pass = at (x.page == page) refl (place_of_entry test xs page) pass
  where
    at : (b : Bool) → (x.page == page) ≡ b → (passes test (entry_in xs page) ≡ true → (k : ℕ) × (k < length xs) × (given test xs k ≡ Some page)) → passes test (cond b (Some x) (entry_in xs page)) ≡ true → (k : ℕ) × (k < length (x ∷ xs)) × (given test (x ∷ xs) k ≡ Some page)
    at true same more pass = (0, omega arith, rw pass (ap Some (eqb-true x.page page same)))
    at false apart more pass = let found = more pass in (suc found.0, omega (arith, found.1), found.2)

-- a place whose entry passes
entry_of_place : (test : DirtyPage → Bool) (size : ℕ) (pages : List DirtyPage) (page k : ℕ) (d : DirtyPage) → IsTable size pages → k < length pages → given test pages k ≡ Some page → passes test (entry_in pages page) ≡ true
unfolding passes
entry_of_place test size pages page k d table inside here = at (test (get_or pages k d)) refl (sym (given_at test pages k d inside) ∙ here)
  where
    at : (b : Bool) → test (get_or pages k d) ≡ b → cond b (Some (get_or pages k d).page) None ≡ Some page → passes test (entry_in pages page) ≡ true
    at true pass same = let e : (get_or pages k d).page ≡ page = cc in rw (entry_at size pages k page d table inside e) pass
    at false pass same = absurd cc

-- the least page of the entries that pass is the least page that passes
-- some entry, to read a list by
pub none_entry : DirtyPage
none_entry = record { page = 0; marks = []; bytes = [] }

pub least_page : (test : DirtyPage → Bool) (size : ℕ) (pages : List DirtyPage) (least : Option ℕ) → IsTable size pages → IsLeast (given test pages) (length pages) least → IsLeastPage (λ page. passes test (entry_in pages page)) least
least_page test size pages least table is = record {
  passes = λ page same. let found = is.found page same in entry_of_place test size pages page found.0 none_entry table found.1 found.2;
  least_of = λ page pass. let place = place_of_entry test pages page pass in is.least_of place.0 page place.1 place.2;
}

-- two tests that agree have one least page
pub least_same : (test other : ℕ → Bool) (least : Option ℕ) → ((page : ℕ) → test page ≡ other page) → IsLeastPage test least → IsLeastPage other least
least_same test other least same is = record {
  passes = λ page here. sym (same page) ∙ is.passes page here;
  least_of = λ page pass. is.least_of page (same page ∙ pass);
}

pub dirty_passes : (size room : ℕ) (pages : List DirtyPage) (page : ℕ) → passes (λ d. true) (entry_in pages page) ≡ is_dirty (table size room pages) page
unfolding passes content_of
dirty_passes size room pages page = at (entry_in pages page)
  where
    at : (o : Option DirtyPage) → passes (λ d. true) o ≡ is_some (bytes_of o)
    at None = refl
    at (Some d) = refl

pub marked_passes : (size room : ℕ) (pages : List DirtyPage) (page who : ℕ) → passes (λ d. get_or d.marks who false) (entry_in pages page) ≡ is_marked (table size room pages) page who
unfolding passes is_marked
marked_passes size room pages page who = at (entry_in pages page)
  where
    at : (o : Option DirtyPage) → passes (λ d. get_or d.marks who false) o ≡ marked_by o who
    at None = refl
    at (Some d) = refl

pub entry-with_mark : (who : ℕ) (pages : List DirtyPage) (page : ℕ) → entry_in (map (with_mark who) pages) page ≡ option_map (with_mark who) (entry_in pages page)
entry-with_mark who [] page = refl
entry-with_mark who (x ∷ xs) page = at (x.page == page) (entry-with_mark who xs page)
  where
    at : (b : Bool) → entry_in (map (with_mark who) xs) page ≡ option_map (with_mark who) (entry_in xs page) → cond b (Some (with_mark who x)) (entry_in (map (with_mark who) xs) page) ≡ option_map (with_mark who) (cond b (Some x) (entry_in xs page))
    at true more = refl
    at false more = more

pub table-with_mark : (who size : ℕ) (pages : List DirtyPage) → IsTable size pages → IsTable size (map (with_mark who) pages)
table-with_mark who size [] table = tt
table-with_mark who size (x ∷ xs) table = (entry-with_mark who xs x.page ∙ ap (option_map (with_mark who)) table.0, table.1, table-with_mark who size xs table.2, rw length-set table.3)

-- one step of the loop that marks
pub mark_step : (who : ℕ) (pages : List DirtyPage) (i : ℕ) (d : DirtyPage) → i < length pages → set (map (with_mark who) (take i pages) ++ drop i pages) i (with_mark who (get_or pages i d)) ≡ map (with_mark who) (take (i + 1) pages) ++ drop (i + 1) pages
mark_step who [] i d inside = absurd (omega arith)
mark_step who (x ∷ xs) zero d inside = refl
mark_step who (x ∷ xs) (suc i) d inside =
    let e : suc i + 1 ≡ suc (i + 1) = omega arith in
    rw e (ap (λ (rest : List DirtyPage). with_mark who x ∷ rest) (mark_step who xs i d (omega arith)))

mark_read : (who : ℕ) (pages : List DirtyPage) (i : ℕ) (d : DirtyPage) → i < length pages → get_or (map (with_mark who) (take i pages) ++ drop i pages) i d ≡ get_or pages i d
mark_read who [] i d inside = absurd (omega arith)
mark_read who (x ∷ xs) zero d inside = refl
mark_read who (x ∷ xs) (suc i) d inside = mark_read who xs i d (omega arith)

-- one turn of the loop that marks, at the entry that was read
pub mark_turn : (who : ℕ) (start now : List DirtyPage) (i : ℕ) (d : DirtyPage) → i < length start → now ≡ map (with_mark who) (take i start) ++ drop i start → d ≡ get_or now i d → set now i (with_mark who d) ≡ map (with_mark who) (take (i + 1) start) ++ drop (i + 1) start
mark_turn who start now i d inside is read =
    let e : d ≡ get_or start i d = read ∙ (ap (λ (xs : List DirtyPage). get_or xs i d) is ∙ mark_read who start i d inside) in
    let f : set now i (with_mark who d) ≡ set (map (with_mark who) (take i start) ++ drop i start) i (with_mark who (get_or start i d)) = ap (λ (xs : List DirtyPage). set xs i (with_mark who d)) is ∙ ap (λ (x : DirtyPage). set (map (with_mark who) (take i start) ++ drop i start) i (with_mark who x)) e in
    f ∙ mark_step who start i d inside

-- every dirty page is marked, and nothing else changes
pub marks_all : (size room who : ℕ) (pages : List DirtyPage) → who < 32 → IsTable size pages → MarksAll (table size room pages) (table size room (map (with_mark who) pages)) who
unfolding content_of is_marked
marks_all size room who pages low kept = record {
  marked = λ page. rw (entry-with_mark who pages page) (here page (entry_in pages page) refl);
  others = λ page other apart. rw (entry-with_mark who pages page) (there (entry_in pages page) other apart);
  contents = λ page. rw (entry-with_mark who pages page) (same (entry_in pages page));
  size = refl;
  room = refl;
  count = length-map pages (with_mark who);
}
  where
    full : (xs : List DirtyPage) (page : ℕ) (d : DirtyPage) → IsTable size xs → entry_in xs page ≡ Some d → length d.marks ≡ 32
    full [] page d table is = absurd cc
    full (x ∷ xs) page d table is = go (x.page == page) (full xs page d table.2) is
      where
        go : (b : Bool) → (entry_in xs page ≡ Some d → length d.marks ≡ 32) → cond b (Some x) (entry_in xs page) ≡ Some d → length d.marks ≡ 32
        go true more same = let e : x ≡ d = cc in ap (λ (y : DirtyPage). length y.marks) (sym e) ∙ table.3
        go false more same = more same

    here : (page : ℕ) (o : Option DirtyPage) → entry_in pages page ≡ o → marked_by (option_map (with_mark who) o) who ≡ is_some (bytes_of o)
    here page None is = refl
    here page (Some d) is = get_or-set_same d.marks who true false (omega (arith, full pages page d kept is))

    there : (o : Option DirtyPage) (other : ℕ) → other ≢ who → marked_by (option_map (with_mark who) o) other ≡ marked_by o other
    there None other apart = refl
    there (Some d) other apart = get_or-set_other d.marks who other true false apart

    same : (o : Option DirtyPage) → bytes_of (option_map (with_mark who) o) ≡ bytes_of o
    same None = refl
    same (Some d) = refl

-- a table that isn't empty has a dirty page
pub some_dirty : (t : DirtyPages) → 0 < length t.pages → (page : ℕ) × (is_dirty t page ≡ true)
unfolding content_of
some_dirty t some = at t.pages some
  where
    at : (xs : List DirtyPage) → 0 < length xs → (page : ℕ) × (is_some (bytes_of (entry_in xs page)) ≡ true)
    at [] some = absurd (omega arith)
    at (x ∷ xs) some = (x.page, rw (eq-eqb x.page x.page refl) refl)

-- a table that isn't empty has a least dirty page
pub is_some_least : (t : DirtyPages) (least : Option ℕ) → 0 < length t.pages → IsLeastPage (is_dirty t) least → IsSome least
is_some_least t (Some m) some is = refl
is_some_least t None some is =
    let page = some_dirty t some in
    let found = is.least_of page.0 page.1 in
    absurd (let e : None ≡ Some found.0 = found.1 in cc)
