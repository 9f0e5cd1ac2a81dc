-- How a page of a table is reached, in the pool and in an overlay.
use Rattle.mg_image_overlay_laws.specs.pages.Kinds.{pointers_of}
use Rattle.mg_image.specs.Form.{Pages}
use Rattle.mg_image.specs.Sound.{HasTablePages}
use Rattle.mg_image.specs.Tables.{EachStand, Has, IsOnce, LinkChain, Stand, ended, entries_in, goes, has, pages_of, table_at, tree_pages}
use Rattle.mg_image_overlay_laws.specs.pages.Growth.{has_back, has_either, has_front}
use Rattle.mg_image_overlay_laws.specs.kept.KeptImages.{AreFrontStands, IsFrontOf}
use Rattle.mg_model.specs.declared.table.Table.{Table}
use Rattle.mg_pointer.specs.PointerPage.{entries_of, next_in}
use Rattle.std.proofs.Common.{Bool, List, Some, [], ap, false, inl, inr, refl, subst, sym, true, ℕ, ◌++◌, ◌==◌, ◌||◌, ◌∙◌, ◌∷◌, ◌≡◌, ◌≢◌, ◌⊎◌}
use Rattle.std.proofs.lemmas.Bool.{eq-eqb, eqb-true}
use Rattle.std.specs.List.{flat_map}
use Rattle.std.specs.Prelude.{if◌then◌else◌}

-- ---- lists

pub has_it : (ns : List ℕ) (n : ℕ) → has ns n ≡ true → Has ns n
has_it [] n is = absurd cc
has_it (m ∷ ms) n is = at (n == m) refl is (has_it ms n)
  where
    at : (c : Bool) → (n == m) ≡ c → (c || has ms n) ≡ true → (has ms n ≡ true → Has ms n)
        → (n ≡ m) ⊎ Has ms n
    at true same is more = inl (eqb-true n m same)
    at false other is more = inr (more is)

pub has_so : (ns : List ℕ) (n : ℕ) → Has ns n → has ns n ≡ true
has_so [] n is = absurd is
has_so (m ∷ ms) n (inl e) = rw (eq-eqb n m e) refl
has_so (m ∷ ms) n (inr more) = rw (has_so ms n more) (by (n == m))
  where
    by : (c : Bool) → (c || true) ≡ true
    by true = refl
    by false = refl

pub once_front : (ms ns : List ℕ) → IsOnce (ms ++ ns) → IsOnce ms
once_front [] ns once = tt
once_front (m ∷ ms) ns once = ((λ is. once.0 (has_front ms ns m is)), once_front ms ns once.1)

pub once_back : (ms ns : List ℕ) → IsOnce (ms ++ ns) → IsOnce ns
once_back [] ns once = once
once_back (m ∷ ms) ns once = once_back ms ns once.1

pub once_apart : (ms ns : List ℕ) (n : ℕ) → IsOnce (ms ++ ns) → Has ms n → Has ns n → ⊥
once_apart [] ns n once here there = here
once_apart (m ∷ ms) ns n once (inl e) there = once.0 (has_back ms ns m (subst (Has ns) e there))
once_apart (m ∷ ms) ns n once (inr more) there = once_apart ms ns n once.1 more there

pub front_has : (ms ns : List ℕ) (n : ℕ) → IsFrontOf ms ns → Has ms n → Has ns n
front_has [] ns n front is = absurd is
front_has (m ∷ ms) [] n front is = absurd front
front_has (m ∷ ms) (k ∷ ks) n front (inl e) = inl (e ∙ front.0)
front_has (m ∷ ms) (k ∷ ks) n front (inr more) = inr (front_has ms ks n front.1 more)

-- ---- the table of a page

pub data_there : (stand : Stand) (n : ℕ) → Has stand.data_pages n → Has (pages_of stand) n
data_there stand n is = has_front (stand.pointers ++ stand.data_pages) (tree_pages stand.trees) n
    (has_back stand.pointers stand.data_pages n is)

pub page_there : (stands : List Stand) (n : ℕ) (table : Table) → table_at stands n ≡ Some table
    → Has (flat_map pages_of stands) n
page_there [] n table is = absurd cc
page_there (stand ∷ stands) n table is = at (has stand.data_pages n) refl is (page_there stands n table)
  where
    at : (c : Bool) → has stand.data_pages n ≡ c
        → (if c then Some stand.table else table_at stands n) ≡ Some table
        → (table_at stands n ≡ Some table → Has (flat_map pages_of stands) n)
        → Has (flat_map pages_of (stand ∷ stands)) n
    at true in_it is more = has_front (pages_of stand) (flat_map pages_of stands) n
        (data_there stand n (has_it stand.data_pages n in_it))
    at false out is more = has_back (pages_of stand) (flat_map pages_of stands) n (more is)

-- a page of a table of the overlay is one of that table in the pool
pub table_in_pool : (bs ps : List Stand) → AreFrontStands bs ps → IsOnce (flat_map pages_of ps)
    → (n : ℕ) (table : Table) → table_at bs n ≡ Some table → table_at ps n ≡ Some table
table_in_pool [] [] fronts once n table is = is
table_in_pool [] (b ∷ ps) fronts once n table is = absurd fronts
table_in_pool (a ∷ bs) [] fronts once n table is = absurd fronts
table_in_pool (a ∷ bs) (b ∷ ps) fronts once n table is =
    at (has a.data_pages n) (has b.data_pages n) refl refl is
    (table_in_pool bs ps fronts.1 (once_back (pages_of b) (flat_map pages_of ps) once) n table)
  where
    at : (c d : Bool) → has a.data_pages n ≡ c → has b.data_pages n ≡ d
        → (if c then Some a.table else table_at bs n) ≡ Some table
        → (table_at bs n ≡ Some table → table_at ps n ≡ Some table)
        → (if has b.data_pages n then Some b.table else table_at ps n) ≡ Some table
    at true d in_a in_b is more =
        let also : has b.data_pages n ≡ true = has_so b.data_pages n
        (front_has a.data_pages b.data_pages n fronts.0.data_pages (has_it a.data_pages n in_a)) in
        rw also (ap Some (sym fronts.0.table) ∙ is)
    at false false in_a in_b is more = rw in_b (more is)
    at false true in_a in_b is more = absurd (once_apart (pages_of b) (flat_map pages_of ps) n once
        (data_there b n (has_it b.data_pages n in_b)) (page_there ps n table (more is)))

-- ---- the pointer pages by which a page is reached

-- A page is entered in one of the pointer pages from one on, and each of these up to there has a
-- property.
pub data IsEntered (P : ℕ → Type 0) (pages : Pages) (n : ℕ) : ℕ → Type 0 where
  here : (m : ℕ) → m ≢ 0 → P m → Has (entries_of (pages m)) n → IsEntered P pages n m
  later : (m : ℕ) → m ≢ 0 → P m → IsEntered P pages n (next_in (pages m)) → IsEntered P pages n m

pub entered_with : (P Q : ℕ → Type 0) (pages : Pages) (n m : ℕ) → ((k : ℕ) → P k → Q k)
    → IsEntered P pages n m → IsEntered Q pages n m
entered_with P Q pages n m gives (here k some is has_) = here k some (gives k is) has_
entered_with P Q pages n m gives (later k some is more) =
    later k some (gives k is) (entered_with P Q pages n (next_in (pages k)) gives more)

-- an image that has these pages has the entry
pub entered_there : (pool image : Pages) (n m : ℕ)
    → IsEntered (λ k. image k ≡ pool k) pool n m → (ns : List ℕ)
    → LinkChain (λ k. next_in (image k)) m ns → Has (entries_in image ns) n
entered_there pool image n m (here k some same has_) ns ended = absurd (some refl)
entered_there pool image n m (here k some same has_) ns (goes j js ne more) =
    has_front (entries_of (image k)) (entries_in image js) n (rw same has_)
entered_there pool image n m (later k some same entered) ns ended = absurd (some refl)
entered_there pool image n m (later k some same entered) ns (goes j js ne more) =
    has_back (entries_of (image k)) (entries_in image js) n
    (entered_there pool image n (next_in (pool k)) entered js
    (subst (λ (next : ℕ). LinkChain (λ i. next_in (image i)) next js) (ap next_in same) more))

-- a page of a table of the pool that is reached is one of that table in the overlay
pub table_in_image : (in_primary : Bool) (size : ℕ) (pool image : Pages) (bs ps : List Stand)
    → AreFrontStands bs ps → EachStand (HasTablePages in_primary size image) bs → (n : ℕ)
    (table : Table) → IsEntered (λ k. image k ≡ pool k) pool n table.pointer.0
    → table_at ps n ≡ Some table → table_at bs n ≡ Some table
table_in_image in_primary size pool image [] [] fronts has_ n table entered is = is
table_in_image in_primary size pool image [] (b ∷ ps) fronts has_ n table entered is = absurd fronts
table_in_image in_primary size pool image (a ∷ bs) [] fronts has_ n table entered is = absurd fronts
table_in_image in_primary size pool image (a ∷ bs) (b ∷ ps) fronts has_ n table entered is =
    at (has b.data_pages n) (has a.data_pages n) refl refl is
    (table_in_image in_primary size pool image bs ps fronts.1 has_.1 n table entered)
  where
    at : (d c : Bool) → has b.data_pages n ≡ d → has a.data_pages n ≡ c
        → (if d then Some b.table else table_at ps n) ≡ Some table
        → (table_at ps n ≡ Some table → table_at bs n ≡ Some table)
        → (if has a.data_pages n then Some a.table else table_at bs n) ≡ Some table
    at d true in_b in_a is more = rw in_a (by d in_b is)
      where
        by : (d : Bool) → has b.data_pages n ≡ d
            → (if d then Some b.table else table_at ps n) ≡ Some table → Some a.table ≡ Some table
        by true in_b is = ap Some fronts.0.table ∙ is
        by false in_b is =
            let also : has b.data_pages n ≡ true = has_so b.data_pages n
            (front_has a.data_pages b.data_pages n fronts.0.data_pages (has_it a.data_pages n in_a)) in
            absurd cc
    at false false in_b in_a is more = rw in_a (more is)
    at true false in_b in_a is more =
        let table_is : b.table ≡ table = cc in
        let first : a.table.pointer.0 ≡ table.pointer.0 =
        ap (λ (t : Table). t.pointer.0) (fronts.0.table ∙ table_is) in
        let chain : LinkChain (λ k. next_in (image k)) table.pointer.0 a.pointers =
        subst (λ (m : ℕ). LinkChain (λ k. next_in (image k)) m a.pointers) first has_.0.chain in
        let there : Has a.data_pages n = subst (λ (ns : List ℕ). Has ns n) (sym has_.0.entries)
        (entered_there pool image n table.pointer.0 entered a.pointers chain) in
        let also : has a.data_pages n ≡ true = has_so a.data_pages n there in absurd cc

-- the pointer pages of stands that are behind others are pages of those
pub pointers_front : (stands others : List Stand) → AreFrontStands stands others → (m : ℕ)
    → Has (pointers_of stands) m → Has (flat_map pages_of others) m
pointers_front [] others fronts m is = absurd is
pointers_front (a ∷ stands) [] fronts m is = absurd fronts
pointers_front (a ∷ stands) (b ∷ others) fronts m is =
    at (has_either a.pointers (pointers_of stands) m is) (pointers_front stands others fronts.1 m)
  where
    at : Has a.pointers m ⊎ Has (pointers_of stands) m
        → (Has (pointers_of stands) m → Has (flat_map pages_of others) m)
        → Has (flat_map pages_of (b ∷ others)) m
    at (inl first_) more = has_front (pages_of b) (flat_map pages_of others) m
        (has_front (b.pointers ++ b.data_pages) (tree_pages b.trees) m
        (has_front b.pointers b.data_pages m
        (front_has a.pointers b.pointers m fronts.0.pointers first_)))
    at (inr rest_) more = has_back (pages_of b) (flat_map pages_of others) m (more rest_)
