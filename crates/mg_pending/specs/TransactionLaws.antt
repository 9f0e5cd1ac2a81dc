-- Where the transaction of one session begins or ends, those of the others stay.
use Rattle.std.specs.Prelude.{◌≡◌, ◌≢◌, ◌<◌, ◌==◌, ℕ, zero, suc, Bool, true, false, List, [], ◌∷◌, length, get_or, set, Option, Some, None, refl, if◌then◌else◌}
use Rattle.std.specs.List.{list_any}
use Rattle.std.proofs.Common.{◌||◌, sym, ap, ◌∙◌, subst, arith}
use Rattle.std.proofs.lemmas.Bool.{eqb-true, eq-eqb, ne_eqb}
use Rattle.std.proofs.lemmas.List.{get_or-set_same, get_or-set_other}
use Rattle.mg_base.specs.declared.numbers.TxNo.{TxNo}
use Rattle.mg_pending.specs.declared.transactions.Transaction.{Transaction}
use Rattle.mg_pending.specs.Transactions.{transaction_at, number_in, number_at, is_number, has_number}

-- ---- a number and its places

any_at : {A : Type 0} (test : A → Bool) (xs : List A) (d : A) → test d ≡ false
    → list_any test xs ≡ true → (k : ℕ) × (test (get_or xs k d) ≡ true)
any_at test [] d not is = absurd cc
any_at test (x ∷ xs) d not is = by (λ more. any_at test xs d not more) (test x) refl is
  where
    behind : (k : ℕ) × (test (get_or xs k d) ≡ true) → (k : ℕ) × (test (get_or (x ∷ xs) k d) ≡ true)
    behind (k, found) = (suc k, found)

    by : (list_any test xs ≡ true → (k : ℕ) × (test (get_or xs k d) ≡ true)) → (b : Bool) → test x ≡ b
        → (b || list_any test xs) ≡ true → (k : ℕ) × (test (get_or (x ∷ xs) k d) ≡ true)
    by more true same is = (0, same)
    by more false same is = behind (more is)

at_any : {A : Type 0} (test : A → Bool) (xs : List A) (k : ℕ) (d : A) → test d ≡ false
    → test (get_or xs k d) ≡ true → list_any test xs ≡ true
at_any test [] k d not is = absurd (cc (not, is))
at_any test (x ∷ xs) zero d not is = ap (λ (b : Bool). b || list_any test xs) is
at_any test (x ∷ xs) (suc k) d not is =
    ap (λ (b : Bool). test x || b) (at_any test xs k d not is) ∙ either (test x)
  where
    either : (b : Bool) → (b || true) ≡ true
    either true = refl
    either false = refl

is_its_number : (u : ℕ) (place : Option Transaction) → is_number u place ≡ true
    → (t : TxNo) × (number_in place ≡ Some t) × (t.0 ≡ u)
is_its_number u None is = absurd cc
is_its_number u (Some x) is = (x.number, refl, eqb-true x.number.0 u is)

its_number_is : (u : ℕ) (place : Option Transaction) (t : TxNo) → number_in place ≡ Some t → t.0 ≡ u
    → is_number u place ≡ true
its_number_is u None t is same = absurd cc
its_number_is u (Some x) t is same =
    let it : x.number ≡ t = cc is in eq-eqb x.number.0 u (ap (λ (n : TxNo). n.0) it ∙ same)

-- it has a place, and where it has one it is there
pub has_place : (all : List (Option Transaction)) (u : ℕ) → has_number all u ≡ true
    → (k : ℕ) × (t : TxNo) × (number_at all k ≡ Some t) × (t.0 ≡ u)
has_place all u is =
    let found = any_at (is_number u) all None refl is in
    let its = is_its_number u (get_or all found.0 None) found.1 in
    (found.0, its.0, its.1, its.2)

pub place_has : (all : List (Option Transaction)) (u k : ℕ) (t : TxNo) → number_at all k ≡ Some t
    → t.0 ≡ u → has_number all u ≡ true
place_has all u k t is same =
    at_any (is_number u) all k None refl (its_number_is u (get_or all k None) t is same)

pub same_test : (a b : Bool) → (a ≡ true → b ≡ true) → (b ≡ true → a ≡ true) → a ≡ b
same_test true b first second = sym (first refl)
same_test false true first second = second refl
same_test false false first second = refl

-- ---- one place is set

pub placed_same : (all : List (Option Transaction)) (s : ℕ) (x : Option Transaction) → s < length all
    → transaction_at (set all s x) s ≡ x
placed_same all s x inside = get_or-set_same all s x None inside

pub placed_other : (all : List (Option Transaction)) (s k : ℕ) (x : Option Transaction) → k ≢ s
    → transaction_at (set all s x) k ≡ transaction_at all k
placed_other all s k x apart = get_or-set_other all s k x None apart

-- where each transaction has one place
abbrev pub IsApart : List (Option Transaction) → Type 0
IsApart all = (j k : ℕ) (t u : TxNo) → number_at all j ≡ Some t → number_at all k ≡ Some u → t.0 ≡ u.0
    → j ≡ k

module _ (all : List (Option Transaction)) (s : ℕ) (inside : s < length all) where
  -- the numbers at other places are those from before
  pub has_other : (x : Option Transaction) (u : ℕ) → is_number u (transaction_at all s) ≡ false
      → is_number u x ≡ false → has_number (set all s x) u ≡ has_number all u
  has_other x u was now = same_test (has_number (set all s x) u) (has_number all u) back forth
    where
      at_place : (k : ℕ) (t : TxNo) → number_at (set all s x) k ≡ Some t → t.0 ≡ u → (b : Bool)
          → (k == s) ≡ b → has_number all u ≡ true
      at_place k t is same true here = absurd (cc (
        now,
        its_number_is u x t (ap number_in (sym (placed_same all s x inside))
            ∙ ap (number_at (set all s x)) (sym (eqb-true k s here)) ∙ is) same,
      ))
      at_place k t is same false here =
          place_has all u k t (ap number_in (sym (placed_other all s k x (apart here))) ∙ is) same
        where
          apart : (k == s) ≡ false → k ≢ s
          apart not eq = absurd (cc (not, eq-eqb k s eq))

      back : has_number (set all s x) u ≡ true → has_number all u ≡ true
      back has =
          let found = has_place (set all s x) u has in
          at_place found.0 found.1 found.2 found.3 (found.0 == s) refl

      at_old : (k : ℕ) (t : TxNo) → number_at all k ≡ Some t → t.0 ≡ u → (b : Bool) → (k == s) ≡ b
          → has_number (set all s x) u ≡ true
      at_old k t is same true here = absurd (cc (
        was,
        its_number_is u (transaction_at all s) t (ap (number_at all) (sym (eqb-true k s here)) ∙ is) same,
      ))
      at_old k t is same false here =
          place_has (set all s x) u k t (ap number_in (placed_other all s k x (apart here)) ∙ is) same
        where
          apart : (k == s) ≡ false → k ≢ s
          apart not eq = absurd (cc (not, eq-eqb k s eq))

      forth : has_number all u ≡ true → has_number (set all s x) u ≡ true
      forth has =
          let found = has_place all u has in
          at_old found.0 found.1 found.2 found.3 (found.0 == s) refl

  -- that of the session, which has ended, is none of them any more
  pub has_ended : (t : TxNo) → IsApart all → number_at all s ≡ Some t
      → has_number (set all s None) t.0 ≡ false
  has_ended t apart its = at (has_number (set all s None) t.0) refl
    where
      at_place : (k : ℕ) (u : TxNo) → number_at (set all s None) k ≡ Some u → u.0 ≡ t.0 → (b : Bool)
          → (k == s) ≡ b → ⊥
      at_place k u is same true here =
          let none = ap number_in (placed_same all s None inside) in
          absurd (cc (none, ap (number_at (set all s None)) (sym (eqb-true k s here)) ∙ is))
      at_place k u is same false here =
          let other = ap number_in (sym (placed_other all s k None (distinct here))) ∙ is in
          absurd (cc (here, eq-eqb k s (apart k s u t other its same)))
        where
          distinct : (k == s) ≡ false → k ≢ s
          distinct not eq = absurd (cc (not, eq-eqb k s eq))

      at : (b : Bool) → has_number (set all s None) t.0 ≡ b → b ≡ false
      at true has =
          let found = has_place (set all s None) t.0 has in
          absurd (at_place found.0 found.1 found.2 found.3 (found.0 == s) refl)
      at false has = refl
