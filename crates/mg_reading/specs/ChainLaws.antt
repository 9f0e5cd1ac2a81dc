-- Laws of chains of pages as they are followed.
use Rattle.std.proofs.Common.{◌≡◌, ◌≢◌, ◌⊎◌, inl, inr, ◌∙◌, ap, ◌+◌, ℕ, suc, refl, sym, List, [], ◌∷◌, ◌++◌, length, append_assoc, arith, append-nil}
use Rattle.mg_pointer.specs.PointerPage.{entries_of}
use Rattle.mg_image.specs.Form.{Pages}
use Rattle.mg_image.specs.Tables.{EachFrom, LinkChain, ended, entries_in, goes}

-- one number more has the property at its place
pub each_push : (P : ℕ → ℕ → Type 0) (at : ℕ) (ns : List ℕ) (n : ℕ) → EachFrom P at ns
    → P (at + length ns) n → EachFrom P at (ns ++ n ∷ [])
each_push P at [] n each here = (rw (sym (nothing at)) here, tt)
  where
    nothing : (at : ℕ) → at + 0 ≡ at
    nothing at = omega arith
each_push P at (m ∷ ms) n each here =
    (each.0, each_push P (suc at) ms n each.1 (rw (sym (further at (length ms))) here))
  where
    further : (at k : ℕ) → at + suc k ≡ suc at + k
    further at k = omega arith

-- what a run of pages is followed by
pub record IsRun (next : ℕ → ℕ) (first : ℕ) (ns : List ℕ) (n : ℕ) : Type 0 where
  pub go_on : (rest : List ℕ) → LinkChain next n rest → LinkChain next first (ns ++ rest)
  pub begins : (all : List ℕ) → LinkChain next first all
      → (rest : List ℕ) × (all ≡ ns ++ rest) × LinkChain next n rest

-- a chain has ended, or goes on from its first page
pub page_opens : (next : ℕ → ℕ) (n : ℕ) (ns : List ℕ) → LinkChain next n ns
    → ((n ≡ 0) × (ns ≡ [])) ⊎ ((later : List ℕ) × (ns ≡ n ∷ later)
    × LinkChain next (next n) later)
page_opens next n ns ended = inl (refl, refl)
page_opens next n ns (goes m ms some more) = inr (ms, refl, more)

zero_chain : (next : ℕ → ℕ) (n : ℕ) (ns : List ℕ) → LinkChain next n ns → n ≡ 0 → ns ≡ []
zero_chain next n ns ended zero_ = refl
zero_chain next n ns (goes m ms some more) zero_ = absurd (some zero_)

-- there is one chain at most
pub link_once : (next : ℕ → ℕ) (n : ℕ) (ms ns : List ℕ) → LinkChain next n ms
    → LinkChain next n ns → ms ≡ ns
link_once next n ms ns ended other = sym (zero_chain next n ns other refl)
link_once next n ms ns (goes k ks some more) other =
    at (page_opens next k ns other) (λ later chain. link_once next (next k) ks later more chain)
  where
    at : ((k ≡ 0) × (ns ≡ [])) ⊎ ((later : List ℕ) × (ns ≡ k ∷ later)
        × LinkChain next (next k) later)
        → ((later : List ℕ) → LinkChain next (next k) later → ks ≡ later) → k ∷ ks ≡ ns
    at (inl (zero_, empty)) same = absurd (some zero_)
    at (inr (later, opens, chain)) same = ap (λ (xs : List ℕ). k ∷ xs) (same later chain) ∙ sym opens

pub run_none : (next : ℕ → ℕ) (first : ℕ) → IsRun next first [] first
run_none next first = record {
  go_on = λ rest chain. chain;
  begins = λ all chain. (all, refl, chain);
}

pub run_more : (next : ℕ → ℕ) (first : ℕ) (ns : List ℕ) (n : ℕ) → IsRun next first ns n → n ≢ 0
    → IsRun next first (ns ++ n ∷ []) (next n)
run_more next first ns n run some = record {
  go_on = λ rest chain. rw (append_assoc ns (n ∷ []) rest)
      (run.go_on (n ∷ rest) (goes n rest some chain));
  begins = λ all chain.
      let begun = run.begins all chain in
      at all begun.0 begun.1 (page_opens next n begun.0 begun.2);
}
  where
    at : (all rest : List ℕ) → all ≡ ns ++ rest
        → ((n ≡ 0) × (rest ≡ [])) ⊎ ((later : List ℕ) × (rest ≡ n ∷ later)
        × LinkChain next (next n) later)
        → (later : List ℕ) × (all ≡ (ns ++ n ∷ []) ++ later) × LinkChain next (next n) later
    at all rest is (inl (zero_, empty)) = absurd (some zero_)
    at all rest is (inr (later, opens, chain)) = (
      later,
      is ∙ (ap (λ (xs : List ℕ). ns ++ xs) opens ∙ sym (append_assoc ns (n ∷ []) later)),
      chain,
    )

pub run_ends : (next : ℕ → ℕ) (first : ℕ) (ns : List ℕ) (n : ℕ) → IsRun next first ns n → n ≡ 0
    → LinkChain next first ns
run_ends next first ns n run zero_ =
    rw append-nil at (run.go_on [] (rw zero_ ended))

-- the entries of one page more
pub entries_push : (pages : Pages) (ns : List ℕ) (n : ℕ)
    → entries_in pages (ns ++ n ∷ []) ≡ entries_in pages ns ++ entries_of (pages n)
entries_push pages [] n = rw append-nil refl
entries_push pages (m ∷ ms) n = rw (entries_push pages ms n) (sym
    (append_assoc (entries_of (pages m)) (entries_in pages ms) (entries_of (pages n))))
