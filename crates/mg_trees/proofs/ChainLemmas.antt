-- The pages of a level as they are read one after another.
use Rattle.std.proofs.Common.{◌≡◌, ◌≢◌, ◌⊎◌, inl, inr, ◌∙◌, ap, sym, subst, ◌+◌, ◌<◌, ◌≤◌, ℕ, suc, true, false, List, [], ◌∷◌, ◌++◌, length, length-append, arith}
use Rattle.std.specs.List.{AllByRecursion, IsDistinct, list_any}
use Rattle.std.specs.Prelude.{eqb}
use Rattle.std.proofs.lemmas.Bool.{cases_eq, ne_eqb}
use Rattle.std.proofs.lemmas.Map.Steps.{length-le_from_distinct_below}
use Rattle.mg_base.specs.declared.geometry.TheConstants.{GREATEST_LIMIT}
use Rattle.mg_node.specs.NodePage.{right_in}
use Rattle.mg_image.specs.Form.{Pages}
use Rattle.mg_image.specs.Indexes.{EachPage}
use Rattle.mg_image.specs.Tables.{Has, IsOnce, LinkChain}
use Rattle.mg_reading.specs.ChainLaws.{IsRun, link_once, page_opens, run_ends, run_more, run_none}
use Rattle.mg_trees.specs.Trees.{HasLevelFrom, IsLevelFrom, IsLevelPage}

-- What the loop over the pages of a level keeps.
pub record IsRead (size : ℕ) (pages : Pages) (owner level first : ℕ) (ns : List ℕ) (next : ℕ)
    : Type 0 where
  pub run : IsRun (λ n. right_in (pages n)) first ns next
  pub each : EachPage (IsLevelPage size pages owner level) ns
  pub once : IsOnce ns

pub read_none : (size : ℕ) (pages : Pages) (owner level first : ℕ)
    → IsRead size pages owner level first [] first
read_none size pages owner level first = record {
  run = run_none (λ n. right_in (pages n)) first;
  each = tt;
  once = tt;
}

each_push : (P : ℕ → Type 0) (ns : List ℕ) (n : ℕ) → EachPage P ns → P n
    → EachPage P (ns ++ n ∷ [])
each_push P [] n each here = (here, tt)
each_push P (m ∷ ms) n each here = (each.0, each_push P ms n each.1 here)

has_push : (ns : List ℕ) (n m : ℕ) → Has (ns ++ n ∷ []) m → Has ns m ⊎ (m ≡ n)
has_push [] n m (inl same) = inr same
has_push [] n m (inr past) = absurd past
has_push (k ∷ ks) n m (inl same) = inl (inl same)
has_push (k ∷ ks) n m (inr later) = at (has_push ks n m later)
  where
    at : Has ks m ⊎ (m ≡ n) → Has (k ∷ ks) m ⊎ (m ≡ n)
    at (inl has) = inl (inr has)
    at (inr same) = inr same

once_push : (ns : List ℕ) (n : ℕ) → IsOnce ns → (Has ns n → ⊥) → IsOnce (ns ++ n ∷ [])
once_push [] n once none = (λ has. has, tt)
once_push (m ∷ ms) n once none = (
  λ has. at (has_push ms n m has),
  once_push ms n once.1 (λ later. none (inr later)),
)
  where
    at : Has ms m ⊎ (m ≡ n) → ⊥
    at (inl later) = once.0 later
    at (inr same) = none (inl (sym same))

-- one page more is read
pub read_more : (size : ℕ) (pages : Pages) (owner level first : ℕ) (ns ms : List ℕ)
    (next right : ℕ) → IsRead size pages owner level first ns next → next ≢ 0
    → (Has ns next → ⊥) → IsLevelPage size pages owner level next → ms ≡ ns ++ next ∷ []
    → right ≡ right_in (pages next) → IsRead size pages owner level first ms right
read_more size pages owner level first ns ms next right read some none page ms_is right_is =
    rw (ms_is, right_is) (record {
      run = run_more (λ n. right_in (pages n)) first ns next read.run some;
      each = each_push (IsLevelPage size pages owner level) ns next read.each page;
      once = once_push ns next read.once none;
    })

-- where the chain ends the level is read
pub read_ends : (size : ℕ) (pages : Pages) (owner level first : ℕ) (ns : List ℕ) (next : ℕ)
    → IsRead size pages owner level first ns next → next ≡ 0
    → IsLevelFrom size pages owner level first ns
read_ends size pages owner level first ns next read zero_ = record {
  chain = run_ends (λ n. right_in (pages n)) first ns next read.run zero_;
  each = read.each;
}

each_mid : (P : ℕ → Type 0) (ns : List ℕ) (n : ℕ) (later : List ℕ)
    → EachPage P (ns ++ n ∷ later) → P n
each_mid P [] n later each = each.0
each_mid P (m ∷ ms) n later each = each_mid P ms n later each.1

-- the next page is one of any level that there is
pub next_is_page : (size : ℕ) (pages : Pages) (owner level first : ℕ) (ns : List ℕ) (next : ℕ)
    → IsRead size pages owner level first ns next → next ≢ 0
    → HasLevelFrom size pages owner level first → IsLevelPage size pages owner level next
next_is_page size pages owner level first ns next read some has =
    let begun = read.run.begins has.0 has.1.chain in
    at begun.0 begun.1 (page_opens (λ n. right_in (pages n)) next begun.0 begun.2)
  where
    at : (rest : List ℕ) → has.0 ≡ ns ++ rest
        → ((next ≡ 0) × (rest ≡ [])) ⊎ ((later : List ℕ) × (rest ≡ next ∷ later)
        × LinkChain (λ n. right_in (pages n)) (right_in (pages next)) later)
        → IsLevelPage size pages owner level next
    at rest whole (inl (zero_, empty)) = absurd (some zero_)
    at rest whole (inr (later, opens, chain)) =
        each_mid (IsLevelPage size pages owner level) ns next later
        (subst (EachPage (IsLevelPage size pages owner level))
        (whole ∙ ap (λ (x : List ℕ). ns ++ x) opens) has.1.each)

-- a chain does not come back to one of its pages
no_return : (next : ℕ → ℕ) (ns rest : List ℕ) (first m : ℕ) → LinkChain next first (ns ++ rest)
    → Has ns m → LinkChain next m rest → ⊥
no_return next [] rest first m chain has again = has
no_return next (k ∷ ks) rest first m chain has again =
    at (page_opens next first (k ∷ ks ++ rest) chain) has
    (λ start later. no_return next ks rest start m later)
  where
    longer : (xs ys : List ℕ) → xs ≡ k ∷ ys ++ xs → ⊥
    longer xs ys same =
        let lengths : length xs ≡ suc (length ys + length xs) =
        ap length same ∙ ap suc (length-append ys xs) in omega arith

    at : ((first ≡ 0) × (k ∷ ks ++ rest ≡ [])) ⊎ ((later : List ℕ)
        × (k ∷ ks ++ rest ≡ first ∷ later) × LinkChain next (next first) later)
        → (m ≡ k) ⊎ Has ks m
        → ((start : ℕ) → LinkChain next start (ks ++ rest) → Has ks m → LinkChain next m rest → ⊥)
        → ⊥
    at (inl (zero_, empty)) which earlier = absurd cc
    at (inr (later, opens, more)) (inl same) earlier =
        let first_is : k ≡ first = cc in
        longer rest ks (link_once next m rest (k ∷ ks ++ rest) again
        (rw (same, first_is) (rw first_is at chain)))
    at (inr (later, opens, more)) (inr has) earlier =
        let later_is : ks ++ rest ≡ later = cc in
        earlier (next first) (rw later_is more) has again

-- a page that comes twice is in no level
pub no_level_returns : (size : ℕ) (pages : Pages) (owner level first : ℕ) (ns : List ℕ) (next : ℕ)
    → IsRead size pages owner level first ns next → Has ns next
    → HasLevelFrom size pages owner level first → ⊥
no_level_returns size pages owner level first ns next read has level_has =
    let begun = read.run.begins level_has.0 level_has.1.chain in
    no_return (λ n. right_in (pages n)) ns begun.0 first next
    (subst (LinkChain (λ n. right_in (pages n)) first) begun.1 level_has.1.chain) has begun.2

apart : (n : ℕ) (ns : List ℕ) → (Has ns n → ⊥) → AllByRecursion (λ (y : ℕ). eqb n y ≡ false) ns
apart n [] none = tt
apart n (m ∷ ms) none =
    (ne_eqb n m (λ same. none (inl same)), apart n ms (λ later. none (inr later)))

distinct : (ns : List ℕ) → IsOnce ns → IsDistinct eqb ns
unfolding IsDistinct
distinct [] once = tt
distinct (n ∷ ns) once = (apart n ns once.0, distinct ns once.1)

below : (size : ℕ) (pages : Pages) (owner level : ℕ) (ns : List ℕ)
    → EachPage (IsLevelPage size pages owner level) ns → (q : ℕ) → list_any (eqb q) ns ≡ true
    → q < GREATEST_LIMIT
below size pages owner level [] each q has = absurd cc
below size pages owner level (n ∷ ns) each q has =
    at (cases_eq q n) (λ later. below size pages owner level ns each.1 q later)
  where
    at : (q ≡ n) ⊎ (q ≢ n) → (list_any (eqb q) ns ≡ true → q < GREATEST_LIMIT)
        → q < GREATEST_LIMIT
    at (inl same) later = rw same each.0.wanted.below
    at (inr other) later = later (rw (ne_eqb q n other) at has)

-- a level is no longer than there are pages
pub level_short : (size : ℕ) (pages : Pages) (owner level first : ℕ) (ns : List ℕ) (next : ℕ)
    → IsRead size pages owner level first ns next → length ns ≤ GREATEST_LIMIT
level_short size pages owner level first ns next read =
    length-le_from_distinct_below ns GREATEST_LIMIT (distinct ns read.once)
    (below size pages owner level ns read.each)
