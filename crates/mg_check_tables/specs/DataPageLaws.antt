-- A table has one list of data pages, and each of them is as its table wants it.
use Rattle.std.proofs.Common.{◌≡◌, ◌≢◌, ◌∙◌, ℕ, List, [], ◌∷◌, inl, inr, ap, refl, sym, subst}
use Rattle.std.specs.Prelude.{◌⊎◌, false}
use Rattle.mg_check_tables.specs.Seats.{AreDataPages}
use Rattle.mg_check_tables.specs.TableRung.{HasTable}
use Rattle.mg_image.specs.Form.{Pages}
use Rattle.mg_image.specs.Sound.{IsTableData}
use Rattle.mg_image.specs.Tables.{EachFrom, LinkChain, ended, entries_in, goes}
use Rattle.mg_pointer.specs.PointerPage.{next_in}

-- a chain has ended, or goes on from its first page
page_opens : (next : ℕ → ℕ) (n : ℕ) (ns : List ℕ) → LinkChain next n ns
    → ((n ≡ 0) × (ns ≡ [])) ⊎ ((later : List ℕ) × (ns ≡ n ∷ later)
    × LinkChain next (next n) later)
page_opens next n ns ended = inl (refl, refl)
page_opens next n ns (goes m ms some more) = inr (ms, refl, more)

zero_chain : (next : ℕ → ℕ) (n : ℕ) (ns : List ℕ) → LinkChain next n ns → n ≡ 0 → ns ≡ []
zero_chain next n ns ended zero_ = refl
zero_chain next n ns (goes m ms some more) zero_ = absurd (some zero_)

-- there is one chain at most
link_once : (next : ℕ → ℕ) (n : ℕ) (ms ns : List ℕ) → LinkChain next n ms
    → LinkChain next n ns → ms ≡ ns
link_once next n ms ns ended other = sym (zero_chain next n ns other refl)
link_once next n ms ns (goes k ks some more) other =
    at (page_opens next k ns other) (λ later chain. link_once next (next k) ks later more chain)
  where
    at : ((k ≡ 0) × (ns ≡ [])) ⊎ ((later : List ℕ) × (ns ≡ k ∷ later)
        × LinkChain next (next k) later)
        → ((later : List ℕ) → LinkChain next (next k) later → ks ≡ later) → k ∷ ks ≡ ns
    at (inl (zero_, empty)) same = absurd (some zero_)
    at (inr (later, opens, chain)) same = ap (λ (xs : List ℕ). k ∷ xs) (same later chain) ∙ sym opens

-- the data pages of a table that is as a sound image asks it are so, each at its place
pub data_pages_wanted : (size : ℕ) (pages : Pages) (first : ℕ) (ns : List ℕ) → HasTable size pages first
    → AreDataPages pages first ns → EachFrom (IsTableData false size pages first) 0 ns
data_pages_wanted size pages first ns has are =
    subst (EachFrom (IsTableData false size pages first) 0)
    (ap (entries_in pages) (link_once (λ (n : ℕ). next_in (pages n)) first has.whole.pointers are.pointers has.whole.chain are.chain)
    ∙ sym are.entries) has.whole.data_pages
