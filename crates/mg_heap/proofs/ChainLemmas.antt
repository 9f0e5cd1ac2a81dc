-- Chains of pages that end: each page of one stands in it once, and each part leads on.
use Rattle.std.proofs.Common.{◌≡◌, ◌≢◌, ◌<◌, ◌+◌, ◌++◌, ◌∷◌, [], ◌∙◌, ℕ, zero, suc, List, length, length-append, get_or, refl, sym, ap, subst, arith, inl, inr}
use Rattle.mg_image.specs.Tables.{EachFrom, Has, LinkChain, ended, goes}
use Rattle.mg_heap.specs.Table.{LinkRun, more, none}

-- a chain whose first page is some page begins with it
begins : (next : ℕ → ℕ) (n : ℕ) (ns : List ℕ) → LinkChain next n ns → n ≢ 0
    → (later : List ℕ) × (ns ≡ n ∷ later) × LinkChain next (next n) later
begins next n ns ended some = absurd (some refl)
begins next n ns (goes m ms other on) some = (ms, refl, on)

ends : (next : ℕ → ℕ) (n : ℕ) (ns : List ℕ) → LinkChain next n ns → n ≡ 0 → ns ≡ []
ends next n ns ended zero_ = refl
ends next n ns (goes m ms some on) zero_ = absurd (some zero_)

-- two chains from one page are of one length
one_length : (next : ℕ → ℕ) (n : ℕ) (ms ns : List ℕ) → LinkChain next n ms → LinkChain next n ns
    → length ms ≡ length ns
one_length next n ms ns ended other = ap (length {A = ℕ}) (sym (ends next n ns other refl))
one_length next n ms ns (goes k ks some on) other =
    at (begins next k ns other some) (λ later chain. one_length next (next k) ks later on chain)
  where
    at : (later : List ℕ) × (ns ≡ k ∷ later) × LinkChain next (next k) later
        → ((later : List ℕ) → LinkChain next (next k) later → length ks ≡ length later)
        → length (k ∷ ks) ≡ length ns
    at (later, is, chain) same = ap suc (same later chain) ∙ ap (length {A = ℕ}) (sym is)

-- a run and the page that it leads to are the first pages of the chain
pub run_in_chain : (next : ℕ → ℕ) (first : ℕ) (ps ns : List ℕ) (n : ℕ) → LinkRun next first ps n
    → n ≢ 0 → LinkChain next first ns
    → (later : List ℕ) × (ns ≡ ps ++ n ∷ later) × LinkChain next (next n) later
run_in_chain next first ps ns n (none k) some chain = begins next k ns chain some
run_in_chain next first ps ns n (more f k ms other run) some chain =
    at (begins next f ns chain other)
    (λ later on. run_in_chain next (next f) ms later n run some on)
  where
    at : (later : List ℕ) × (ns ≡ f ∷ later) × LinkChain next (next f) later
        → ((later : List ℕ) → LinkChain next (next f) later
        → (rest : List ℕ) × (later ≡ ms ++ n ∷ rest) × LinkChain next (next n) rest)
        → (rest : List ℕ) × (ns ≡ f ∷ (ms ++ n ∷ rest)) × LinkChain next (next n) rest
    at (later, is, chain_) further =
        let found = further later chain_ in
        (found.0, is ∙ ap (λ (xs : List ℕ). f ∷ xs) found.1, found.2)

head_of : (next : ℕ → ℕ) (first : ℕ) (ns : List ℕ) (p : ℕ) (rest : List ℕ)
    → LinkChain next first ns → ns ≡ p ∷ rest → p ≡ first
head_of next first ns p rest ended e = absurd cc
head_of next first ns p rest (goes k ks some on) e = let same : k ≡ p = cc in sym same

tail_of : (next : ℕ → ℕ) (first : ℕ) (ns : List ℕ) (p : ℕ) (rest : List ℕ)
    → LinkChain next first ns → ns ≡ p ∷ rest → LinkChain next (next first) rest
tail_of next first ns p rest ended e = absurd cc
tail_of next first ns p rest (goes k ks some on) e =
    let same : ks ≡ rest = cc in subst (LinkChain next (next k)) same on

-- a page among the first ones of a chain has a chain of its own, longer than what is behind them
longer : (next : ℕ → ℕ) (first : ℕ) (ps later ns : List ℕ) (y : ℕ) → Has ps y
    → LinkChain next first ns → ns ≡ ps ++ later
    → (ms : List ℕ) × LinkChain next y ms × (length later < length ms)
longer next first [] later ns y has chain is = absurd has
longer next first (p ∷ ps) later ns y (inl same) chain is = (
  ns,
  subst (λ (k : ℕ). LinkChain next k ns)
      (sym (same ∙ head_of next first ns p (ps ++ later) chain is)) chain,
  (let long = ap (length {A = ℕ}) is in omega (arith, long, length-append ps later)),
)
longer next first (p ∷ ps) later ns y (inr has) chain is =
    longer next (next first) ps later (ps ++ later) y has
    (tail_of next first ns p (ps ++ later) chain is) refl

-- no page of a chain leads back to one before it, or to itself
pub leads_on_only : (next : ℕ → ℕ) (first n : ℕ) (ps later ns : List ℕ) → LinkChain next first ns
    → ns ≡ (ps ++ n ∷ []) ++ later → LinkChain next (next n) later → Has (ps ++ n ∷ []) (next n) → ⊥
leads_on_only next first n ps later ns chain is on has =
    let own = longer next first (ps ++ n ∷ []) later ns (next n) has chain is in
    let same : length own.0 ≡ length later = one_length next (next n) own.0 later own.1 on in
    let more_ = own.2 in
    omega (arith, same, more_)

-- ---- each at its place

-- what each page of a list has, the one behind some others has at its place
pub each_behind : (P : ℕ → ℕ → Type 0) (at : ℕ) (ps : List ℕ) (n : ℕ) (later : List ℕ)
    → EachFrom P at (ps ++ n ∷ later) → P (at + length ps) n
each_behind P at [] n later each = subst (λ (k : ℕ). P k n) (first at) each.0
  where
    first : (k : ℕ) → k ≡ k + 0
    first k = omega arith
each_behind P at (p ∷ ps) n later each =
    subst (λ (k : ℕ). P k n) (further at (length ps)) (each_behind P (suc at) ps n later each.1)
  where
    further : (k l : ℕ) → suc k + l ≡ k + suc l
    further k l = omega arith

pub each_at : (P : ℕ → ℕ → Type 0) (at : ℕ) (ns : List ℕ) (place : ℕ) → EachFrom P at ns
    → place < length ns → P (at + place) (get_or ns place 0)
each_at P at [] place each inside = absurd (omega (arith, inside))
each_at P at (n ∷ ns) zero each inside = subst (λ (k : ℕ). P k n) (first at) each.0
  where
    first : (k : ℕ) → k ≡ k + 0
    first k = omega arith
each_at P at (n ∷ ns) (suc place) each inside =
    subst (λ (k : ℕ). P k (get_or ns place 0)) (further at place)
    (each_at P (suc at) ns place each.1 (omega (arith, inside)))
  where
    further : (k l : ℕ) → suc k + l ≡ k + suc l
    further k l = omega arith

pub each_has : (P : ℕ → ℕ → Type 0) (Q : ℕ → Type 0) (at : ℕ) (ns : List ℕ) (n : ℕ)
    → ((k m : ℕ) → P k m → Q m) → EachFrom P at ns → Has ns n → Q n
each_has P Q at [] n gives each has = absurd has
each_has P Q at (m ∷ ms) n gives each (inl same) =
    subst Q (sym same) (gives at m each.0)
each_has P Q at (m ∷ ms) n gives each (inr has) = each_has P Q (suc at) ms n gives each.1 has
