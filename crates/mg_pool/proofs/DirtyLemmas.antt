-- The table of dirty pages as a map from a page to its entry.
use Rattle.std.proofs.Common.{◌≡◌, ◌≢◌, ◌<◌, ℕ, suc, zero, ◌+◌, Bool, true, false, ◌==◌, inl, inr, List, [], ◌∷◌, ◌++◌, length, get_or, set, Option, Some, None, arith, sym, ◌∙◌, ap, refl, cond, replicate}
use Rattle.std.specs.Prelude.{remove, not, is_some}
use Rattle.std.specs.List.{filter}
use Rattle.std.proofs.lemmas.Bool.{cases_eq, cases_lt, both_ways, eq-eqb, ne_eqb}
use Rattle.std.proofs.lemmas.List.{get_or_past, get_or-set_same, length-set, get_or-replicate, length_push, get_or_push, get_or_append_left}
use Rattle.mg_pool.specs.DirtyPage.{DirtyPage}
use Rattle.mg_pool.specs.Dirty.{DirtyPages, entry_in, bytes_of, marked_by, content_of, is_marked, PutsContent, TakesOut, IsTable, IsSpare}

-- no entry has the page
abbrev pub Absent : List DirtyPage → ℕ → Type 0
Absent pages page = (i : ℕ) (d : DirtyPage) → i < length pages → (get_or pages i d).page ≢ page

pub no_entry : (pages : List DirtyPage) (page : ℕ) → Absent pages page → entry_in pages page ≡ None
no_entry [] page absent = refl
no_entry (x ∷ xs) page absent = rw (ne_eqb x.page page (λ e. absent 0 x (omega arith) e)) (no_entry xs page (λ i d below e. absent (suc i) d (omega arith) e))

-- an entry that stands somewhere isn't none
entry_some : (pages : List DirtyPage) (i page : ℕ) (d : DirtyPage) → i < length pages → (get_or pages i d).page ≡ page → entry_in pages page ≢ None
entry_some [] i page d inside at none = absurd (omega arith)
entry_some (x ∷ xs) zero page d inside at none = let e : Some x ≡ None = rw (eq-eqb x.page page at) at none in cc
entry_some (x ∷ xs) (suc i) page d inside at none = go (x.page == page) (entry_some xs i page d (omega arith) at) none
  where
    go : (b : Bool) → (entry_in xs page ≢ None) → cond b (Some x) (entry_in xs page) ≡ None → ⊥
    go true more same = cc
    go false more same = more same

-- the entry at a place is what the table has of its page
pub entry_at : (size : ℕ) (pages : List DirtyPage) (i page : ℕ) (d : DirtyPage) → IsTable size pages → i < length pages → (get_or pages i d).page ≡ page → entry_in pages page ≡ Some (get_or pages i d)
entry_at size [] i page d table inside at = absurd (omega arith)
entry_at size (x ∷ xs) zero page d table inside at = rw (eq-eqb x.page page at) refl
entry_at size (x ∷ xs) (suc i) page d table inside at =
    let apart : x.page ≢ page = λ e. entry_some xs i page d (omega arith) at (ap (entry_in xs) (sym e) ∙ table.0) in
    rw (ne_eqb x.page page apart) (entry_at size xs i page d table.2 (omega arith) at)

-- setting an entry of the same page
pub entry-set_other : (pages : List DirtyPage) (i : ℕ) (e d : DirtyPage) (other : ℕ) → (get_or pages i d).page ≡ e.page → other ≢ e.page → entry_in (set pages i e) other ≡ entry_in pages other
entry-set_other [] i e d other at apart = refl
entry-set_other (x ∷ xs) zero e d other at apart = rw (ne_eqb e.page other (λ f. apart (sym f)), ne_eqb x.page other (λ f. apart (sym f ∙ at))) refl
entry-set_other (x ∷ xs) (suc i) e d other at apart = ap (λ (rest : Option DirtyPage). cond (x.page == other) (Some x) rest) (entry-set_other xs i e d other at apart)

none-set : (pages : List DirtyPage) (i : ℕ) (e d : DirtyPage) (page : ℕ) → (get_or pages i d).page ≡ e.page → entry_in pages page ≡ None → entry_in (set pages i e) page ≡ None
none-set [] i e d page at none = none
none-set (x ∷ xs) zero e d page at none = go (x.page == page) refl none
  where
    go : (b : Bool) → (x.page == page) ≡ b → cond b (Some x) (entry_in xs page) ≡ None → cond (e.page == page) (Some e) (entry_in xs page) ≡ None
    go true test same = cc
    go false test same = let f : (e.page == page) ≡ false = ap (λ (k : ℕ). k == page) (sym at) ∙ test in rw f same
none-set (x ∷ xs) (suc i) e d page at none = go (x.page == page) (none-set xs i e d page at) none
  where
    go : (b : Bool) → (entry_in xs page ≡ None → entry_in (set xs i e) page ≡ None) → cond b (Some x) (entry_in xs page) ≡ None → cond b (Some x) (entry_in (set xs i e) page) ≡ None
    go true more same = cc
    go false more same = more same

pub table-set : (size : ℕ) (pages : List DirtyPage) (i : ℕ) (e d : DirtyPage) → IsTable size pages → (get_or pages i d).page ≡ e.page → length e.bytes ≡ size → length e.marks ≡ 32 → IsTable size (set pages i e)
table-set size [] i e d table at whole marks = tt
table-set size (x ∷ xs) zero e d table at whole marks = (ap (entry_in xs) (sym at) ∙ table.0, whole, table.2, marks)
table-set size (x ∷ xs) (suc i) e d table at whole marks = (none-set xs i e d x.page at table.0, table.1, table-set size xs i e d table.2 at whole marks, table.3)

-- one entry more
pub entry-push_other : (pages : List DirtyPage) (e : DirtyPage) (other : ℕ) → other ≢ e.page → entry_in (pages ++ e ∷ []) other ≡ entry_in pages other
entry-push_other [] e other apart = rw (ne_eqb e.page other (λ f. apart (sym f))) refl
entry-push_other (x ∷ xs) e other apart = ap (λ (rest : Option DirtyPage). cond (x.page == other) (Some x) rest) (entry-push_other xs e other apart)

pub entry-push : (pages : List DirtyPage) (e : DirtyPage) → entry_in pages e.page ≡ None → entry_in (pages ++ e ∷ []) e.page ≡ Some e
entry-push [] e none = rw (eq-eqb e.page e.page refl) refl
entry-push (x ∷ xs) e none = go (x.page == e.page) (entry-push xs e) none
  where
    go : (b : Bool) → (entry_in xs e.page ≡ None → entry_in (xs ++ e ∷ []) e.page ≡ Some e) → cond b (Some x) (entry_in xs e.page) ≡ None → cond b (Some x) (entry_in (xs ++ e ∷ []) e.page) ≡ Some e
    go true more same = absurd cc
    go false more same = more same

head_apart : (x : DirtyPage) (xs : List DirtyPage) (page : ℕ) → entry_in (x ∷ xs) page ≡ None → (x.page ≢ page) × (entry_in xs page ≡ None)
head_apart x xs page none = go (x.page == page) refl none
  where
    go : (b : Bool) → (x.page == page) ≡ b → cond b (Some x) (entry_in xs page) ≡ None → (x.page ≢ page) × (entry_in xs page ≡ None)
    go true test same = absurd cc
    go false test same = ((λ e. both_ways (x.page == page) test (eq-eqb x.page page e)), same)

pub table-push : (size : ℕ) (pages : List DirtyPage) (e : DirtyPage) → IsTable size pages → entry_in pages e.page ≡ None → length e.bytes ≡ size → length e.marks ≡ 32 → IsTable size (pages ++ e ∷ [])
table-push size [] e table none whole marks = (refl, whole, tt, marks)
table-push size (x ∷ xs) e table none whole marks =
    let parts = head_apart x xs e.page none in
    (entry-push_other xs e x.page parts.0 ∙ table.0, table.1, table-push size xs e table.2 parts.1 whole marks, table.3)

-- one entry less
none-remove : (pages : List DirtyPage) (i page : ℕ) → entry_in pages page ≡ None → entry_in (remove pages i) page ≡ None
none-remove [] zero page none = none
none-remove [] (suc i) page none = none
none-remove (x ∷ xs) zero page none = (head_apart x xs page none).1
none-remove (x ∷ xs) (suc i) page none = go (x.page == page) (none-remove xs i page) none
  where
    go : (b : Bool) → (entry_in xs page ≡ None → entry_in (remove xs i) page ≡ None) → cond b (Some x) (entry_in xs page) ≡ None → cond b (Some x) (entry_in (remove xs i) page) ≡ None
    go true more same = cc
    go false more same = more same

pub entry-remove_other : (pages : List DirtyPage) (i page : ℕ) (d : DirtyPage) (other : ℕ) → i < length pages → (get_or pages i d).page ≡ page → other ≢ page → entry_in (remove pages i) other ≡ entry_in pages other
entry-remove_other [] i page d other inside at apart = absurd (omega arith)
entry-remove_other (x ∷ xs) zero page d other inside at apart = rw (ne_eqb x.page other (λ e. apart (sym e ∙ at))) refl
entry-remove_other (x ∷ xs) (suc i) page d other inside at apart = ap (λ (rest : Option DirtyPage). cond (x.page == other) (Some x) rest) (entry-remove_other xs i page d other (omega arith) at apart)

pub entry-remove : (size : ℕ) (pages : List DirtyPage) (i page : ℕ) (d : DirtyPage) → IsTable size pages → i < length pages → (get_or pages i d).page ≡ page → entry_in (remove pages i) page ≡ None
entry-remove size [] i page d table inside at = absurd (omega arith)
entry-remove size (x ∷ xs) zero page d table inside at = ap (entry_in xs) (sym at) ∙ table.0
entry-remove size (x ∷ xs) (suc i) page d table inside at =
    let apart : x.page ≢ page = λ e. entry_some xs i page d (omega arith) at (ap (entry_in xs) (sym e) ∙ table.0) in
    rw (ne_eqb x.page page apart) (entry-remove size xs i page d table.2 (omega arith) at)

pub table-remove : (size : ℕ) (pages : List DirtyPage) (i : ℕ) → IsTable size pages → IsTable size (remove pages i)
table-remove size [] zero table = tt
table-remove size [] (suc i) table = tt
table-remove size (x ∷ xs) zero table = table.2
table-remove size (x ∷ xs) (suc i) table = (none-remove xs i x.page table.0, table.1, table-remove size xs i table.2, table.3)

pub length-remove : (pages : List DirtyPage) (i : ℕ) → i < length pages → length (remove pages i) + 1 ≡ length pages
length-remove [] i inside = absurd (omega arith)
length-remove (x ∷ xs) zero inside = omega arith
length-remove (x ∷ xs) (suc i) inside = let more = length-remove xs i (omega arith) in omega (arith, more)

pub whole_at : (size : ℕ) (pages : List DirtyPage) (i : ℕ) (d : DirtyPage) → IsTable size pages → i < length pages → length (get_or pages i d).bytes ≡ size
whole_at size [] i d table inside = absurd (omega arith)
whole_at size (x ∷ xs) zero d table inside = table.1
whole_at size (x ∷ xs) (suc i) d table inside = whole_at size xs i d table.2 (omega arith)

pub marks_at : (size : ℕ) (pages : List DirtyPage) (i : ℕ) (d : DirtyPage) → IsTable size pages → i < length pages → length (get_or pages i d).marks ≡ 32
marks_at size [] i d table inside = absurd (omega arith)
marks_at size (x ∷ xs) zero d table inside = table.3
marks_at size (x ∷ xs) (suc i) d table inside = marks_at size xs i d table.2 (omega arith)

-- Without its entry a list has no entry of the page.
apart_all : (pages : List DirtyPage) (page : ℕ) → entry_in pages page ≡ None → pages ≡ filter (λ d. not (d.page == page)) pages
apart_all [] page none = refl
apart_all (x ∷ xs) page none =
    let parts = head_apart x xs page none in
    rw (ne_eqb x.page page parts.0) (ap (λ (rest : List DirtyPage). x ∷ rest) (apart_all xs page parts.1))

remove_filter : (size : ℕ) (pages : List DirtyPage) (i page : ℕ) (d : DirtyPage) → IsTable size pages → i < length pages → (get_or pages i d).page ≡ page → remove pages i ≡ filter (λ e. not (e.page == page)) pages
remove_filter size [] i page d table inside at = absurd (omega arith)
remove_filter size (x ∷ xs) zero page d table inside at = rw (eq-eqb x.page page at) (apart_all xs page (ap (entry_in xs) (sym at) ∙ table.0))
remove_filter size (x ∷ xs) (suc i) page d table inside at =
    let apart : x.page ≢ page = λ e. entry_some xs i page d (omega arith) at (ap (entry_in xs) (sym e) ∙ table.0) in
    rw (ne_eqb x.page page apart) (ap (λ (rest : List DirtyPage). x ∷ rest) (remove_filter size xs i page d table.2 (omega arith) at))

-- a page that isn't dirty has no mark
pub clean_unmarked : (t : DirtyPages) (page who : ℕ) → is_some (content_of t page) ≡ false → is_marked t page who ≡ false
unfolding content_of is_marked
clean_unmarked t page who out = at (entry_in t.pages page) out
  where
    at : (o : Option DirtyPage) → is_some (bytes_of o) ≡ false → marked_by o who ≡ false
    at None none = refl
    at (Some e) none = absurd cc

-- What the table's calls leave.

abbrev pub table : ℕ → ℕ → List DirtyPage → DirtyPages
table size room pages = record { size = size; room = room; pages = pages }

module _ (size room : ℕ) (pages : List DirtyPage) (kept : IsTable size pages) (i page : ℕ) (d : DirtyPage) (inside : i < length pages) (here : (get_or pages i d).page ≡ page) where
  entry_here : entry_in pages page ≡ Some (get_or pages i d)
  entry_here = entry_at size pages i page d kept inside here

  entry_set : (e : DirtyPage) → e.page ≡ page → length e.bytes ≡ size → length e.marks ≡ 32 → entry_in (set pages i e) page ≡ Some e
  entry_set e same whole full =
      let read : get_or (set pages i e) i d ≡ e = get_or-set_same pages i e d inside in
      let there : (get_or (set pages i e) i d).page ≡ page = ap (λ (x : DirtyPage). x.page) read ∙ same in
      entry_at size (set pages i e) i page d (table-set size pages i e d kept (here ∙ sym same) whole full) (rw length-set inside) there ∙ ap Some read

  full_of : (e : DirtyPage) → e.marks ≡ (get_or pages i d).marks → length e.marks ≡ 32
  full_of e marks = ap (length {A = Bool}) marks ∙ marks_at size pages i d kept inside

  -- another content for a page that is dirty
  pub put_again : (e : DirtyPage) → e.page ≡ page → e.marks ≡ (get_or pages i d).marks → length e.bytes ≡ size → PutsContent (table size room pages) (table size room (set pages i e)) page e.bytes
  unfolding content_of is_marked
  put_again e same marks whole = record {
    here = rw (entry_set e same whole (full_of e marks)) refl;
    others = λ other apart. ap bytes_of (entry-set_other pages i e d other (here ∙ sym same) (λ f. apart (f ∙ same)));
    marks = λ other who. elim (cases_eq other page) [
      | inl f ↦ rw (f, entry_set e same whole (full_of e marks), entry_here, marks) refl
      | inr apart ↦ ap (λ (x : Option DirtyPage). marked_by x who) (entry-set_other pages i e d other (here ∙ sym same) (λ f. apart (f ∙ same)))
    ];
    size = refl;
    room = refl;
    count = rw entry_here (length-set pages i e);
  }

  -- a page is taken out
  pub take_changes : TakesOut (table size room pages) (table size room (remove pages i)) page
  unfolding content_of is_marked
  take_changes = record {
    here = ap bytes_of (entry-remove size pages i page d kept inside here);
    others = λ other apart. ap bytes_of (entry-remove_other pages i page d other inside here apart);
    marks = λ other who apart. ap (λ (x : Option DirtyPage). marked_by x who) (entry-remove_other pages i page d other inside here apart);
    size = refl;
    room = refl;
    count = length-remove pages i inside;
    rest = remove_filter size pages i page d kept inside here;
  }

no_mark : (who : ℕ) → get_or (replicate 32 false) who false ≡ false
no_mark who = elim (cases_lt who 32) [ inl low ↦ get_or-replicate 32 who false false low | inr past ↦ get_or_past (replicate 32 false) who false past ]

-- a page that was not dirty
pub put_new : (size room : ℕ) (pages : List DirtyPage) (page : ℕ) (bytes : List ℕ) → entry_in pages page ≡ None → PutsContent (table size room pages) (table size room (pages ++ (record { page = page; marks = replicate 32 false; bytes = bytes }) ∷ [])) page bytes
unfolding content_of is_marked
put_new size room pages page bytes none = record {
  here = ap bytes_of (entry-push pages e none);
  others = λ other apart. ap bytes_of (entry-push_other pages e other apart);
  marks = λ other who. elim (cases_eq other page) [
    | inl f ↦ rw (f, entry-push pages e none, none) (no_mark who)
    | inr apart ↦ ap (λ (x : Option DirtyPage). marked_by x who) (entry-push_other pages e other apart)
  ];
  size = refl;
  room = refl;
  count = rw none (length_push pages e);
}
  where
    e : DirtyPage
    e = record { page = page; marks = replicate 32 false; bytes = bytes }

-- a buffer is taken from those that wait, or put back
pub spare-less : (size : ℕ) (spare rest : List (List ℕ)) (b : List ℕ) → IsSpare size spare → spare ≡ rest ++ b ∷ [] → IsSpare size rest × (length b ≡ size)
spare-less size spare rest b kept same = (
  record { whole = λ i d below. let read : get_or spare i d ≡ get_or rest i d = ap (λ (xs : List (List ℕ)). get_or xs i d) same ∙ get_or_append_left rest (b ∷ []) d i below in ap length (sym read) ∙ kept.whole i d (omega (arith, ap length same, length_push rest b)) },
  let read : get_or spare (length rest) b ≡ b = ap (λ (xs : List (List ℕ)). get_or xs (length rest) b) same ∙ get_or_push rest b b (length rest) refl in ap length (sym read) ∙ kept.whole (length rest) b (omega (arith, ap length same, length_push rest b)),
)

pub spare-more : (size : ℕ) (spare : List (List ℕ)) (b : List ℕ) → IsSpare size spare → length b ≡ size → IsSpare size (spare ++ b ∷ [])
spare-more size spare b kept long = record {
  whole = λ i d below. elim (cases_lt i (length spare)) [
    | inl inside ↦ ap length (get_or_append_left spare (b ∷ []) d i inside) ∙ kept.whole i d inside
    | inr past ↦ let e : length spare ≡ i = omega (arith, length_push spare b) in ap length (get_or_push spare b d i e) ∙ long
  ];
}
