-- Lemmas of bytes that were written through a slice of a list.
use Rattle.std.proofs.Common.{◌≡◌, ◌∙◌, refl, sym, subst, ◌≤◌, ◌++◌, take, drop, ℕ, Bool, true, false, List, Option, Some, None, length}
use Rattle.mg_node.specs.declared.entry.Entry.{Entry}
use Rattle.mg_node.specs.NodePage.{has_low, low_of}
use Rattle.mg_node_writing.specs.NodeChanges.{IsSized}
use Rattle.mg_btree.specs.ChangeLaws.{written_back}
use Rattle.mg_btree.specs.Growing.{NamesTwo}

-- a list is what was written to all of it
pub written : (len : ℕ) (was new items result : List ℕ) → length was ≡ len → length new ≡ length was
    → result ≡ take len (new ++ drop (length new) items) → result ≡ new
written len was new items result is_len same is = is ∙ written_back new items len (sym (same ∙ is_len))

pub sized_of : (page : List ℕ) (size : ℕ) → length page ≡ size → 1024 ≤ size → size ≤ 16384 → IsSized page
sized_of page size is least most = record {
  least = subst (λ (n : ℕ). 1024 ≤ n) (sym is) least;
  most = subst (λ (n : ℕ). n ≤ 16384) (sym is) most;
}

pub sized_same : (old new : List ℕ) → length new ≡ length old → IsSized old → IsSized new
sized_same old new same sized = sized_of new (length old) same sized.least sized.most

-- a new root that was made in a list of its own
pub names_written : (size len number owner level : ℕ) (first second : Entry)
    (was new items result : List ℕ) → length was ≡ len → len ≡ size
    → result ≡ take len (new ++ drop (length new) items)
    → NamesTwo (length was) number owner level first second new
    → NamesTwo size number owner level first second result
names_written size len number owner level first second was new items result is_len is_size is names =
    subst (λ (b : List ℕ). NamesTwo size number owner level first second b)
    (sym (written len was new items result is_len names.len is))
    (subst (λ (n : ℕ). NamesTwo n number owner level first second new) (is_len ∙ is_size) names)

-- a page that has a low fence says so
pub low_there : (page : List ℕ) (e : Entry) → low_of page ≡ Some e → has_low page ≡ true
low_there page e is = at (has_low page) refl
  where
    at : (b : Bool) → has_low page ≡ b → has_low page ≡ true
    at true same = same
    at false same = let none : ◌≡◌ {A = Option Entry} None (Some e) = sym (rw same refl) ∙ is in absurd cc
