-- What remains of versions is some of them.
use Rattle.std.proofs.Common.{◌∙◌, inl, inr, refl, sym, ap, subst, arith, ℕ, ◌<◌, ◌≤◌, ◌||◌, Bool, true, false, List, [], ◌∷◌, ◌++◌}
use Rattle.std.specs.Prelude.{length, if◌then◌else◌}
use Rattle.mg_base.specs.declared.numbers.RecId.{RecId}
use Rattle.mg_base.specs.declared.transaction.TxState.{TxState}
use Rattle.mg_chain.specs.Views.{is_dead}
use Rattle.mg_image.specs.Records.{Stands, writer}
use Rattle.mg_image.specs.declared.entry.Entry.{Entry}
use Rattle.mg_model.specs.Answers.{is_committed}
use Rattle.mg_seek.specs.Speaking.{is_erased_for_all}
use Rattle.mg_snap.specs.Live.{State, needed}
use Rattle.mg_collecting.specs.Remaining.{AreSomeOf, IsToldOf, from_committed, needed_behind, without_dead, without_erased, without_unneeded}

-- ---- some of them

pub some_more : (ds : List Entry) (e : Entry) (es : List Entry) → AreSomeOf ds es → AreSomeOf ds (e ∷ es)
some_more [] e es some = tt
some_more (d ∷ ds) e es some = inr some

pub some_same : (es : List Entry) → AreSomeOf es es
some_same [] = tt
some_same (e ∷ es) = inl (refl, some_same es)

pub some_on : (xs ds es : List Entry) → AreSomeOf xs ds → AreSomeOf ds es → AreSomeOf xs es
some_on [] ds es first second = tt
some_on (x ∷ xs) [] es first second = absurd first
some_on (x ∷ xs) (d ∷ ds) [] first second = absurd second
some_on (x ∷ xs) (d ∷ ds) (e ∷ es) first (inr later) = inr (some_on (x ∷ xs) (d ∷ ds) es first later)
some_on (x ∷ xs) (d ∷ ds) (e ∷ es) (inl (same, rest)) (inl (equal, more)) =
    inl (same ∙ equal, some_on xs ds es rest more)
some_on (x ∷ xs) (d ∷ ds) (e ∷ es) (inr rest) (inl (equal, more)) = inr (some_on (x ∷ xs) ds es rest more)

-- behind the same ones
pub some_behind : (front ds es : List Entry) → AreSomeOf ds es → AreSomeOf (front ++ ds) (front ++ es)
some_behind [] ds es some = some
some_behind (e ∷ front) ds es some = inl (refl, some_behind front ds es some)

pub some_stands : (ds es : List Entry) (x : RecId) → AreSomeOf ds es → Stands ds x → Stands es x
some_stands [] es x some there = absurd there
some_stands (d ∷ ds) [] x some there = absurd some
some_stands (d ∷ ds) (e ∷ es) x (inl (same, rest)) (inl at) = inl (ap (λ (k : Entry). k.at) (sym same) ∙ at)
some_stands (d ∷ ds) (e ∷ es) x (inl (same, rest)) (inr more) = inr (some_stands ds es x rest more)
some_stands (d ∷ ds) (e ∷ es) x (inr later) there = inr (some_stands (d ∷ ds) es x later there)

pub some_fewer : (ds es : List Entry) → AreSomeOf ds es → length ds ≤ length es
some_fewer [] es some = omega arith
some_fewer (d ∷ ds) [] some = absurd some
some_fewer (d ∷ ds) (e ∷ es) (inl (same, rest)) = let less = some_fewer ds es rest in omega (arith, less)
some_fewer (d ∷ ds) (e ∷ es) (inr later) = let less = some_fewer (d ∷ ds) es later in omega (arith, less)

-- ---- the parts

module _ (state : ℕ → TxState) where
  pub dead_some : (es : List Entry) → AreSomeOf (without_dead state es) es
  dead_some [] = tt
  dead_some (e ∷ es) = by (is_dead (state (writer e)))
    where
      by : (b : Bool) → AreSomeOf (if b then es else e ∷ es) (e ∷ es)
      by true = some_more es e es (some_same es)
      by false = some_same (e ∷ es)

module _ (state : ℕ → TxState) (live : State) where
  pub behind_some : (newer : ℕ) (es : List Entry) → AreSomeOf (needed_behind state live newer es) es
  behind_some newer [] = tt
  behind_some newer (e ∷ es) =
      by (is_committed (state (writer e))) (needed live newer (writer e)) (behind_some (writer e) es)
    where
      by : (b c : Bool) → AreSomeOf (needed_behind state live (writer e) es) es
          → AreSomeOf (if b then (if c then e ∷ needed_behind state live (writer e) es
          else needed_behind state live (writer e) es) else e ∷ es) (e ∷ es)
      by true true rest = inl (refl, rest)
      by true false rest = some_more (needed_behind state live (writer e) es) e es rest
      by false c rest = some_same (e ∷ es)

  pub committed_some : (es : List Entry) → AreSomeOf (from_committed state live es) es
  committed_some [] = tt
  committed_some (e ∷ es) = by (is_committed (state (writer e))) (behind_some (writer e) es)
    where
      by : (b : Bool) → AreSomeOf (needed_behind state live (writer e) es) es
          → AreSomeOf (if b then e ∷ needed_behind state live (writer e) es else e ∷ es) (e ∷ es)
      by true rest = inl (refl, rest)
      by false rest = some_same (e ∷ es)

  pub unneeded_some : (es : List Entry) → AreSomeOf (without_unneeded state live es) es
  unneeded_some [] = tt
  unneeded_some (e ∷ es) = by (is_committed (state (writer e))) (behind_some (writer e) es) (committed_some es)
    where
      by : (b : Bool) → AreSomeOf (needed_behind state live (writer e) es) es
          → AreSomeOf (from_committed state live es) es
          → AreSomeOf (if b then e ∷ needed_behind state live (writer e) es else e ∷ from_committed state live es)
          (e ∷ es)
      by true rest also = inl (refl, rest)
      by false rest also = inl (refl, also)

  pub erased_some : (es : List Entry) → AreSomeOf (without_erased state live es) es
  erased_some [] = tt
  erased_some (e ∷ []) = by (is_erased_for_all state live e.version)
    where
      by : (b : Bool) → AreSomeOf (if b then [] else e ∷ []) (e ∷ [])
      by true = tt
      by false = some_same (e ∷ [])
  erased_some (e ∷ d ∷ es) = some_same (e ∷ d ∷ es)

-- ---- what is told

-- one part after another
pub told_on : (a b : Bool) (es xs ys : List Entry) → AreSomeOf xs es → AreSomeOf ys xs → IsToldOf a es xs
    → IsToldOf b xs ys → IsToldOf (a || b) es ys
told_on false false es xs ys some more first second = second ∙ first
told_on false true es xs ys some more first second =
    subst (λ (zs : List Entry). length ys < length zs) first second
told_on true false es xs ys some more first second =
    subst (λ (zs : List Entry). length zs < length es) (sym second) first
told_on true true es xs ys some more first second =
    let less = some_fewer ys xs more in omega (arith, first, second, less)
