-- Laws of tables where they stand: which table a page belongs to, and that it is one.
use Rattle.std.proofs.Common.{◌≡◌, ◌≢◌, ◌⊎◌, inl, inr, refl, sym, ap, ◌∙◌, subst, ◌==◌, ◌||◌, ℕ, Bool, true, false, List, [], ◌∷◌, ◌++◌, None, Some}
use Rattle.std.proofs.lemmas.Bool.{cases_eq, eq-eqb, ne_eqb}
use Rattle.std.specs.List.{flat_map}
use Rattle.std.specs.Prelude.{if◌then◌else◌}
use Rattle.mg_base.specs.declared.numbers.RecId.{RecId}
use Rattle.mg_model.specs.declared.table.Table.{Table}
use Rattle.mg_pointer.specs.PointerPage.{next_in}
use Rattle.mg_image.specs.Form.{Pages}
use Rattle.mg_image.specs.Reached.{linked_pages, tips_of}
use Rattle.mg_image.specs.Records.{Reading}
use Rattle.mg_image.specs.Sound.{HasTablePages}
use Rattle.mg_image.specs.Tables.{EachStand, Has, HasStand, IsOnce, Layout, PointerChain, Stand, entries_in, has, pages_of, stands_of, table_at, tree_pages}
use Rattle.mg_reading.specs.ChainLaws.{link_once}
use Rattle.mg_reading.specs.OneTable.{stand_with}

or_true : (b : Bool) → (b || true) ≡ true
or_true true = refl
or_true false = refl

-- the test of a number that a list has
pub has_true : (ns : List ℕ) (n : ℕ) → Has ns n → has ns n ≡ true
has_true [] n none = absurd none
has_true (m ∷ ms) n (inl is) = rw (eq-eqb n m is) refl
has_true (m ∷ ms) n (inr later) = rw (has_true ms n later) (or_true (n == m))

-- what a test of a list finds is in it
pub has_back : (ns : List ℕ) (n : ℕ) → has ns n ≡ true → Has ns n
has_back [] n is = absurd cc
has_back (m ∷ ms) n is = at (cases_eq n m) (λ e. has_back ms n e)
  where
    at : (n ≡ m) ⊎ (n ≢ m) → (has ms n ≡ true → Has ms n) → Has (m ∷ ms) n
    at (inl same) later = inl same
    at (inr other) later = inr (later (rw (ne_eqb n m other) at is))

-- a page that the table is found at is one of its own
pub page_of_table : (table other : Table) (ns : List ℕ) (n : ℕ)
    → table_at (stand_with table ns ∷ []) n ≡ Some other → (other ≡ table) × (has ns n ≡ true)
page_of_table table other ns n is = at (has ns n) refl is
  where
    at : (b : Bool) → has ns n ≡ b → table_at (stand_with table ns ∷ []) n ≡ Some other
        → (other ≡ table) × (has ns n ≡ true)
    at true e is = let same : Some table ≡ Some other = rw e at is in (cc, e)
    at false e is = let no_ : None ≡ Some other = rw e at is in absurd cc

-- a page of a table belongs to it
pub table_at_one : (table : Table) (ns : List ℕ) (n : ℕ) → Has ns n
    → table_at (stand_with table ns ∷ []) n ≡ Some table
table_at_one table ns n is = rw (has_true ns n is) refl

pub has_left : (xs ys : List ℕ) (n : ℕ) → Has xs n → Has (xs ++ ys) n
has_left [] ys n there = absurd there
has_left (x ∷ xs) ys n (inl is) = inl is
has_left (x ∷ xs) ys n (inr later) = inr (has_left xs ys n later)

pub has_right : (xs ys : List ℕ) (n : ℕ) → Has ys n → Has (xs ++ ys) n
has_right [] ys n there = there
has_right (x ∷ xs) ys n there = inr (has_right xs ys n there)

pub once_back : (xs ys : List ℕ) → IsOnce (xs ++ ys) → IsOnce ys
once_back [] ys once = once
once_back (x ∷ xs) ys once = once_back xs ys once.1

pub once_front : (xs ys : List ℕ) → IsOnce (xs ++ ys) → IsOnce xs
once_front [] ys once = tt
once_front (x ∷ xs) ys once =
    (λ there. once.0 (has_left xs ys x there), once_front xs ys once.1)

pub once_apart : (xs ys : List ℕ) (n : ℕ) → IsOnce (xs ++ ys) → Has xs n → Has ys n → ⊥
once_apart [] ys n once here there = here
once_apart (x ∷ xs) ys n once (inl is) there = once.0 (has_right xs ys x (subst (Has ys) is there))
once_apart (x ∷ xs) ys n once (inr later) there = once_apart xs ys n once.1 later there

-- a data page is one of the pages of a table
pub has_data : (s : Stand) (n : ℕ) → Has s.data_pages n → Has (pages_of s) n
has_data s n there = has_left (s.pointers ++ s.data_pages) (tree_pages s.trees) n
    (has_right s.pointers s.data_pages n there)

pub has_of_stand : (ss : List Stand) (s : Stand) (n : ℕ) → HasStand ss s → Has s.data_pages n
    → Has (flat_map pages_of ss) n
has_of_stand [] s n one there = absurd one
has_of_stand (o ∷ ss) s n (inl is) there = has_left (pages_of o) (flat_map pages_of ss) n
    (has_data o n (subst (λ (x : Stand). Has x.data_pages n) is there))
has_of_stand (o ∷ ss) s n (inr later) there =
    has_right (pages_of o) (flat_map pages_of ss) n (has_of_stand ss s n later there)

-- where no page is reached twice, a data page belongs to its table
pub table_at_stand : (ss : List Stand) (s : Stand) (n : ℕ) → IsOnce (flat_map pages_of ss)
    → HasStand ss s → Has s.data_pages n → table_at ss n ≡ Some s.table
table_at_stand [] s n once one there = absurd one
table_at_stand (o ∷ ss) s n once (inl is) there =
    rw (has_true o.data_pages n (subst (λ (x : Stand). Has x.data_pages n) is there))
    (ap (λ (x : Stand). Some x.table) (sym is))
table_at_stand (o ∷ ss) s n once (inr later) there = at (has o.data_pages n) refl
    (table_at_stand ss s n (once_back (pages_of o) (flat_map pages_of ss) once) later there)
  where
    at : (b : Bool) → has o.data_pages n ≡ b → table_at ss n ≡ Some s.table
        → table_at (o ∷ ss) n ≡ Some s.table
    at true e rest = absurd (once_apart (pages_of o) (flat_map pages_of ss) n once
        (has_data o n (has_back o.data_pages n e)) (has_of_stand ss s n later there))
    at false e rest = rw e rest

-- where a page that belongs to a table stands
pub record IsAt (ss : List Stand) (n : ℕ) (table : Table) : Type 0 where
  pub stand : Stand
  pub one : HasStand ss stand
  pub same : stand.table ≡ table
  pub there : Has stand.data_pages n

pub stand_at : (ss : List Stand) (n : ℕ) (table : Table) → table_at ss n ≡ Some table
    → IsAt ss n table
stand_at [] n table is = let no_ : None ≡ Some table = is in absurd cc
stand_at (o ∷ ss) n table is = at (has o.data_pages n) refl is (λ rest. stand_at ss n table rest)
  where
    known : Some o.table ≡ Some table → o.table ≡ table
    known same = cc

    on : IsAt ss n table → IsAt (o ∷ ss) n table
    on found = record {
      stand = found.stand;
      one = inr found.one;
      same = found.same;
      there = found.there;
    }

    at : (b : Bool) → has o.data_pages n ≡ b → table_at (o ∷ ss) n ≡ Some table
        → (table_at ss n ≡ Some table → IsAt ss n table) → IsAt (o ∷ ss) n table
    at true e is go = record {
      stand = o;
      one = inl refl;
      same = known (rw e at is);
      there = has_back o.data_pages n e;
    }
    at false e is go = on (go (rw e at is))

pub each_stand : (P : Stand → Type 0) (ss : List Stand) (s : Stand) → EachStand P ss → HasStand ss s
    → P s
each_stand P [] s each one = absurd one
each_stand P (o ∷ ss) s each (inl is) = subst P (sym is) each.0
each_stand P (o ∷ ss) s each (inr later) = each_stand P ss s each.1 later

-- a table has one list of data pages
pub same_data : (size : ℕ) (pages : Pages) (s t : Stand) → HasTablePages false size pages s
    → HasTablePages false size pages t → s.table ≡ t.table → s.data_pages ≡ t.data_pages
same_data size pages s t first second same = first.entries
    ∙ (ap (entries_in pages) (link_once (λ n. next_in (pages n)) s.table.pointer.0 s.pointers
    t.pointers first.chain
    (subst (λ (x : Table). PointerChain pages x.pointer.0 t.pointers) (sym same) second.chain))
    ∙ sym second.entries)

-- what is read of the slots of these pages alone
abbrev pub restricted : List ℕ → Reading → Reading
restricted ns r p = if has ns p.page.0 then r p else []

-- The places of one table among all.
pub record IsOneOf (ss : List Stand) (s : Stand) : Type 0 where
  pub mine : (p : RecId) → has s.data_pages p.page.0 ≡ true → table_at ss p.page.0 ≡ Some s.table
  pub back : (p : RecId) → table_at ss p.page.0 ≡ Some s.table → has s.data_pages p.page.0 ≡ true

-- where no page is reached twice, the places of a table are those of its data pages
pub one_of : (size : ℕ) (pages : Pages) (ss : List Stand) (s : Stand)
    → IsOnce (flat_map pages_of ss) → EachStand (HasTablePages false size pages) ss
    → HasStand ss s → IsOneOf ss s
one_of size pages ss s once each one = record {
  mine = λ p there. table_at_stand ss s p.page.0 once one
      (has_back s.data_pages p.page.0 there);
  back = λ p is. belongs p (stand_at ss p.page.0 s.table is);
}
  where
    pages_are : (x : Stand) → HasStand ss x → HasTablePages false size pages x
    pages_are x is = each_stand (HasTablePages false size pages) ss x each is

    belongs : (p : RecId) → IsAt ss p.page.0 s.table → has s.data_pages p.page.0 ≡ true
    belongs p found = has_true s.data_pages p.page.0 (subst (λ (ns : List ℕ). Has ns p.page.0)
        (same_data size pages found.stand s (pages_are found.stand found.one)
        (pages_are s one) found.same) found.there)

-- the tables of a layout whose linked pages stand once have their own once
pub once_stands : (size : ℕ) (pages : Pages) (layout : Layout)
    → IsOnce (linked_pages size pages layout) → IsOnce (flat_map pages_of (stands_of layout))
once_stands size pages layout once =
    once_back (tips_of size pages) (flat_map pages_of (stands_of layout))
    (once_front (tips_of size pages ++ flat_map pages_of (stands_of layout)) layout.sequences once)
