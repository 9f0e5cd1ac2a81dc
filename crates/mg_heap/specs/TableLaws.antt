-- Laws of the chain of a table's pointer pages.
use Rattle.std.specs.Prelude.{◌≡◌, ◌≢◌, ◌⊎◌, ◌<◌, ◌≤◌, ◌+◌, ℕ, suc, true, false, List, [], ◌∷◌, ◌++◌, length}
use Rattle.std.proofs.Common.{refl, sym, ap, subst, ◌∙◌, arith, inl, inr, append_assoc, append-nil}
use Rattle.std.specs.List.{AllByRecursion, IsDistinct, list_any}
use Rattle.std.specs.Prelude.{eqb}
use Rattle.std.proofs.lemmas.Bool.{cases_eq, ne_eqb}
use Rattle.std.proofs.lemmas.Map.Steps.{length-le_from_distinct_below}
use Rattle.mg_image.specs.Form.{Pages}
use Rattle.mg_image.specs.Tables.{EachFrom, Has, IsOnce, LinkChain, ended, entries_in, goes}
use Rattle.mg_pointer.specs.PointerPage.{entries_of, next_in}
use Rattle.mg_heap.specs.Table.{IsPointerAt, IsTable, LeadsTo, LinkRun, more, none}

-- one page more at the end of a run
pub run_push : (next : ℕ → ℕ) (first : ℕ) (ns : List ℕ) (n : ℕ) → LinkRun next first ns n → n ≢ 0
    → LinkRun next first (ns ++ n ∷ []) (next n)
run_push next first ns n (none k) some = more n (next n) [] some (none (next n))
run_push next first ns n (more f k ms other run) some =
    more f (next n) (ms ++ n ∷ []) other (run_push next (next f) ms n run some)

-- a run that leads to no page is a chain
pub run_ends : (next : ℕ → ℕ) (first : ℕ) (ns : List ℕ) (n : ℕ) → LinkRun next first ns n → n ≡ 0
    → LinkChain next first ns
run_ends next first ns n (none k) zero_ = subst (λ (m : ℕ). LinkChain next m []) (sym zero_) ended
run_ends next first ns n (more f k ms other run) zero_ =
    goes f ms other (run_ends next (next f) ms n run zero_)

-- one page more that is as wanted at its place
pub each_push : (P : ℕ → ℕ → Type 0) (at : ℕ) (ns : List ℕ) (n : ℕ) → EachFrom P at ns
    → P (at + length ns) n → EachFrom P at (ns ++ n ∷ [])
each_push P at [] n each here = (subst (λ (k : ℕ). P k n) (nothing at) here, tt)
  where
    nothing : (at : ℕ) → at + 0 ≡ at
    nothing at = omega arith
each_push P at (m ∷ ms) n each here = (
  each.0,
  each_push P (suc at) ms n each.1
      (subst (λ (k : ℕ). P k n) (further at (length ms)) here),
)
  where
    further : (at k : ℕ) → at + suc k ≡ suc at + k
    further at k = omega arith

-- the entries of one page more
pub entries_push : (pages : Pages) (ns : List ℕ) (n : ℕ)
    → entries_in pages (ns ++ n ∷ []) ≡ entries_in pages ns ++ entries_of (pages n)
entries_push pages [] n = rw append-nil refl
entries_push pages (m ∷ ms) n = rw (entries_push pages ms n) (sym
    (append_assoc (entries_of (pages m)) (entries_in pages ms) (entries_of (pages n))))

-- a number of a list with one more is the last one, or one of those before
pub has_push : (ns : List ℕ) (n m : ℕ) → Has (ns ++ n ∷ []) m → Has ns m ⊎ (m ≡ n)
has_push [] n m (inl e) = inr e
has_push [] n m (inr nothing) = absurd nothing
has_push (k ∷ ks) n m (inl e) = inl (inl e)
has_push (k ∷ ks) n m (inr later) = at (has_push ks n m later)
  where
    at : Has ks m ⊎ (m ≡ n) → Has (k ∷ ks) m ⊎ (m ≡ n)
    at (inl is) = inl (inr is)
    at (inr e) = inr e

pub once_push : (ns : List ℕ) (n : ℕ) → IsOnce ns → (Has ns n → ⊥) → IsOnce (ns ++ n ∷ [])
once_push [] n once new_one = ((λ nothing. nothing), tt)
once_push (k ∷ ks) n once new_one = (
  (λ later. at (has_push ks n k later)),
  once_push ks n once.1 (λ is. new_one (inr is)),
)
  where
    at : Has ks k ⊎ (k ≡ n) → ⊥
    at (inl is) = once.0 is
    at (inr e) = new_one (inl (sym e))

apart : (n : ℕ) (ns : List ℕ) → (Has ns n → ⊥) → AllByRecursion (λ (y : ℕ). eqb n y ≡ false) ns
apart n [] none_ = tt
apart n (m ∷ ms) none_ = (ne_eqb n m (λ e. none_ (inl e)), apart n ms (λ later. none_ (inr later)))

distinct : (ns : List ℕ) → IsOnce ns → IsDistinct eqb ns
unfolding IsDistinct
distinct [] once = tt
distinct (n ∷ ns) once = (apart n ns once.0, distinct ns once.1)

has_any : (ns : List ℕ) (q : ℕ) → list_any (eqb q) ns ≡ true → Has ns q
has_any [] q is = absurd cc
has_any (n ∷ ns) q is = at (cases_eq q n) (λ later. has_any ns q later)
  where
    at : (q ≡ n) ⊎ (q ≢ n) → (list_any (eqb q) ns ≡ true → Has ns q) → Has (n ∷ ns) q
    at (inl same) later = inl same
    at (inr other) later = inr (later (rw (ne_eqb q n other) at is))

-- numbers below a bound, none twice, are no more than that bound
pub once_short : (ns : List ℕ) (bound : ℕ) → IsOnce ns → ((m : ℕ) → Has ns m → m < bound)
    → length ns ≤ bound
once_short ns bound once below = length-le_from_distinct_below ns bound (distinct ns once)
    (λ q is. below q (has_any ns q is))

-- a page that is followed leads on
pub leads_on : (pages : Pages) (owner : ℕ) (pointers : List ℕ) (n next : ℕ)
    → LeadsTo pages owner pointers n → n ≢ 0 → IsPointerAt pages owner (length pointers) n
    → next ≡ next_in (pages n) → LeadsTo pages owner (pointers ++ n ∷ []) next
leads_on pages owner pointers n next leads some tested is = record {
  run = subst (LinkRun (λ (m : ℕ). next_in (pages m)) owner (pointers ++ n ∷ [])) (sym is)
      (run_push (λ (m : ℕ). next_in (pages m)) owner pointers n leads.run some);
  tested = each_push (IsPointerAt pages owner) 0 pointers n leads.tested
      (subst (λ (k : ℕ). IsPointerAt pages owner k n) (first (length pointers)) tested);
}
  where
    first : (k : ℕ) → k ≡ 0 + k
    first k = omega arith

-- pages that lead to none are those of a table
pub table_ends : (pages : Pages) (owner : ℕ) (pointers data_pages : List ℕ) (n : ℕ)
    → LeadsTo pages owner pointers n → n ≡ 0 → data_pages ≡ entries_in pages pointers
    → IsTable pages owner pointers data_pages
table_ends pages owner pointers data_pages n leads zero_ entries = record {
  chain = run_ends (λ (m : ℕ). next_in (pages m)) owner pointers n leads.run zero_;
  tested = leads.tested;
  entries = entries;
}

-- ---- a table has its pages once

pub chain_opens : (next : ℕ → ℕ) (n : ℕ) (ns : List ℕ) → LinkChain next n ns
    → ((n ≡ 0) × (ns ≡ [])) ⊎ ((later : List ℕ) × (ns ≡ n ∷ later) × LinkChain next (next n) later)
chain_opens next n ns ended = inl (refl, refl)
chain_opens next n ns (goes m ms some more_) = inr (ms, refl, more_)

pub chain_none : (next : ℕ → ℕ) (n : ℕ) (ns : List ℕ) → LinkChain next n ns → n ≡ 0 → ns ≡ []
chain_none next n ns ended zero_ = refl
chain_none next n ns (goes m ms some more_) zero_ = absurd (some zero_)

chain_once : (next : ℕ → ℕ) (n : ℕ) (ms ns : List ℕ) → LinkChain next n ms → LinkChain next n ns
    → ms ≡ ns
chain_once next n ms ns ended other = sym (chain_none next n ns other refl)
chain_once next n ms ns (goes k ks some more_) other =
    at (chain_opens next k ns other) (λ later chain. chain_once next (next k) ks later more_ chain)
  where
    at : ((k ≡ 0) × (ns ≡ [])) ⊎ ((later : List ℕ) × (ns ≡ k ∷ later)
        × LinkChain next (next k) later)
        → ((later : List ℕ) → LinkChain next (next k) later → ks ≡ later) → k ∷ ks ≡ ns
    at (inl (zero_, empty)) same = absurd (some zero_)
    at (inr (later, opens, chain)) same = ap (λ (xs : List ℕ). k ∷ xs) (same later chain) ∙ sym opens

pub table_once : (pages : Pages) (owner : ℕ) (ps ds qs es : List ℕ) → IsTable pages owner ps ds
    → IsTable pages owner qs es → ds ≡ es
table_once pages owner ps ds qs es first other = first.entries
    ∙ (ap (entries_in pages)
    (chain_once (λ (m : ℕ). next_in (pages m)) owner ps qs first.chain other.chain)
    ∙ sym other.entries)
