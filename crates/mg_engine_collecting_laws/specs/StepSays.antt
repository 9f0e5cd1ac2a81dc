-- What is left of a record's versions where a dead transaction's goes, one that nobody misses, or a deletion that all see,
-- says what they said.
use Rattle.std.proofs.Common.{◌≡◌, ◌≢◌, ◌∙◌, inl, inr, refl, sym, ap, subst, ℕ, Bool, true, false, List, [], ◌∷◌, ◌++◌, None}
use Rattle.mg_base.specs.declared.transaction.TxState.{TxState}
use Rattle.mg_base.specs.declared.transaction.TxState.TheVariants.{Committed}
use Rattle.mg_generation_laws.specs.Generations.{Generation, generation}
use Rattle.mg_generation_laws.specs.Kept.{IsErasedForAll, IsSeenByAll, StandFor}
use Rattle.mg_generation_laws.specs.Laws.{CoveredMayGo, ErasedMayGo}
use Rattle.mg_image.specs.RecordRules.{Each}
use Rattle.mg_image.specs.Records.{record_key, writer}
use Rattle.mg_image.specs.declared.entry.Entry.{Entry}
use Rattle.mg_image_overlay_laws.specs.records.Fronts.{is_dead, living}
use Rattle.mg_image_overlay_laws.specs.records.Skips.{with_back}
use Rattle.mg_model.specs.Answers.{is_active, told}
use Rattle.mg_model.specs.History.{Entries}
use Rattle.mg_model.specs.Machine.{state_of}
use Rattle.mg_model.specs.declared.opening.Opening.{Opening}
use Rattle.mg_model.specs.declared.table.Table.{Table}
use Rattle.mg_seek.specs.Histories.{told_all, told_given, told_versions}
use Rattle.mg_version.specs.declared.cell.Link.{Link}
use Rattle.std.specs.Prelude.{Option}
use Rattle.mg_engine_collecting_laws.specs.LeftVersions.{SaysNothing, SaysTheSame}

-- a committed version counts
counts : (state : ℕ → TxState) (e : Entry) (es : List Entry) → state (writer e) ≡ Committed
    → living state (e ∷ es) ≡ e ∷ es
counts state e es is = rw (ap is_dead is) refl

module _ (o : Opening) (h : Entries) (state : ℕ → TxState) (table : Table) where
  abbrev says : List Entry → List Generation
  says es = told_versions state table es

  -- ---- a dead transaction's newest version

  dead_same : (d : Entry) (older : List Entry) → is_dead (state (writer d)) ≡ true
      → Each (λ e. state (writer e) ≡ Committed) older → says (d ∷ older) ≡ says older
  dead_same d [] dead backs = rw dead refl
  dead_same d (e ∷ older) dead backs = rw dead (ap (told_all table) (sym (counts state e older backs.0)))

  pub dead_says : (d : Entry) (older : List Entry) → is_dead (state (writer d)) ≡ true
      → Each (λ e. state (writer e) ≡ Committed) older
      → (older ≢ [] → record_key table older ≡ record_key table (d ∷ older))
      → SaysTheSame o h state table (d ∷ older) older
  dead_says d older dead backs keyed = record {
    stand = λ name key. subst (StandFor o h name key) (dead_same d older dead backs);
    silent = subst (SaysNothing o h) (dead_same d older dead backs);
    gone = λ none. inl (dead_same d older dead backs ∙ ap says none);
    keyed = keyed;
  }

  -- ---- a version that is covered

  abbrev of : Entry → Generation
  of e = generation (writer e) (told_given table e)

  all_front : (front : List Entry) (a : Entry) (rest : List Entry)
      → told_all table (front ++ a ∷ rest) ≡ told_all table front ++ of a ∷ told_all table rest
  all_front [] a rest = refl
  all_front (e ∷ front) a rest = ap (λ (gs : List Generation). of e ∷ gs) (all_front front a rest)

  says_front : (front : List Entry) (a : Entry) (rest : List Entry) → state (writer a) ≡ Committed
      → says (front ++ a ∷ rest) ≡ says front ++ of a ∷ told_all table rest
  says_front [] a rest is = ap (told_all table) (counts state a rest is)
  says_front (e ∷ front) a rest is = by (is_dead (state (writer e))) refl
    where
      by : (b : Bool) → is_dead (state (writer e)) ≡ b
          → says (e ∷ front ++ a ∷ rest) ≡ says (e ∷ front) ++ of a ∷ told_all table rest
      by true dead = rw dead (all_front front a rest)
      by false alive = rw alive (ap (λ (gs : List Generation). of e ∷ gs) (all_front front a rest))

  -- what begins a chain says whether it says nothing
  nothing_on : (front : List Generation) (a : Generation) (gs hs : List Generation)
      → SaysNothing o h (front ++ a ∷ gs) → SaysNothing o h (front ++ a ∷ hs)
  nothing_on [] a gs hs (inl none) = absurd cc
  nothing_on [] a gs hs (inr erased) = inr erased
  nothing_on (g ∷ front) a gs hs (inl none) = absurd cc
  nothing_on (g ∷ front) a gs hs (inr erased) = inr erased

  never_none : (front : List Entry) (a : Entry) (rest : List Entry) → front ++ a ∷ rest ≡ [] → ⊥
  never_none [] a rest none = absurd cc
  never_none (e ∷ front) a rest none = absurd cc

  key_front : (front : List Entry) (back : Option Link) (a y : Entry) (rest : List Entry)
      → record_key table (front ++ with_back back a ∷ rest) ≡ record_key table (front ++ a ∷ y ∷ rest)
  key_front [] back a y rest = refl
  key_front (e ∷ front) back a y rest = refl

  pub covered_says : CoveredMayGo → (front : List Entry) (back : Option Link) (a y : Entry) (rest : List Entry)
      → state (writer a) ≡ Committed → state_of o h (writer a) ≡ Committed → state_of o h (writer y) ≡ Committed
      → ((t : ℕ) → is_active (state_of o h t) ≡ true → (told o h).saw t (writer y) ≡ true
      → (told o h).saw t (writer a) ≡ true)
      → SaysTheSame o h state table (front ++ a ∷ y ∷ rest) (front ++ with_back back a ∷ rest)
  covered_says covered front back a y rest counts_ committed also saw = record {
    stand = λ name key given. subst (StandFor o h name key) (sym after)
        (covered o h name key (says front) (told_all table rest) (of a) (of y) (subst (StandFor o h name key) was given)
        committed also saw);
    silent = λ nothing_. subst (SaysNothing o h) (sym after)
        (nothing_on (says front) (of a) (of y ∷ told_all table rest) (told_all table rest)
        (subst (SaysNothing o h) was nothing_));
    gone = λ none. absurd (never_none front (with_back back a) rest none);
    keyed = λ some. key_front front back a y rest;
  }
    where
      was : says (front ++ a ∷ y ∷ rest) ≡ says front ++ of a ∷ of y ∷ told_all table rest
      was = says_front front a (y ∷ rest) counts_

      after : says (front ++ with_back back a ∷ rest) ≡ says front ++ of a ∷ told_all table rest
      after = says_front front (with_back back a) rest counts_

  -- ---- a deletion that all see

  pub erased_says : ErasedMayGo → (e : Entry) → state (writer e) ≡ Committed → IsSeenByAll o h (writer e)
      → e.version.deleted ≡ true → SaysTheSame o h state table (e ∷ []) []
  erased_says erased e counts_ seen deleted = record {
    stand = λ name key given. erased o h name key (of e) [] (subst (StandFor o h name key) was given) seen none;
    silent = λ nothing_. inl refl;
    gone = λ none_. inr (subst (IsErasedForAll o h) (sym was) (seen, none));
    keyed = λ some. absurd (some refl);
  }
    where
      was : says (e ∷ []) ≡ of e ∷ []
      was = ap (told_all table) (counts state e [] counts_)

      none : told_given table e ≡ None
      none = rw deleted refl
