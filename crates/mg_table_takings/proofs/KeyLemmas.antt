-- The keys of a table that are given, one after another.
use Rattle.std.proofs.Common.{◌≡◌, ◌≢◌, ◌==◌, ◌++◌, ◌∷◌, ℕ, Bool, true, false, List, [], None, Some, ap, append_assoc, append-nil, cond, refl, subst, sym, ◌∙◌}
use Rattle.std.proofs.lemmas.Bool.{eq-eqb, eqb-true, false≢true, ne_eqb}
use Rattle.mg_value.specs.declared.value.Value.{Value}
use Rattle.mg_undo.specs.Undo.{State as Undo, TakesBack, ends, gives, given_as, take_back}
use Rattle.mg_undo.specs.declared.changes.Change.{Change}
use Rattle.mg_undo.specs.declared.changes.Was.{Was}
use Rattle.mg_taking_back.specs.Changes.{change_of}
use Rattle.mg_taking_back.specs.TakingLaws.{given_is, given_none}
use Rattle.mg_table_takings.specs.Keys.{AreKeysGiven, keys_of}

-- no more is given
pub none_left : (number : ℕ) (left : Undo) → None ≡ given_as (take_back left).given → AreKeysGiven number left []
none_left number left is given end (ends none after) = refl
none_left number left is given end (gives c some more) =
    let both : Some c ≡ None = sym some ∙ given_none _ (sym is) in absurd cc

-- A step gives a change.
module _ (number : ℕ) (left next : Undo) (table : ℕ) (key : Value) (was : Was)
    (is : Some (table, key, was) ≡ given_as (take_back left).given) (after : next ≡ (take_back left).after) where
  also : (take_back left).given ≡ Some (change_of table key was)
  also = given_is _ table key was (sym is)

  its_change : (c : Change) → (take_back left).given ≡ Some c → c ≡ change_of table key was
  its_change c some = let both : Some c ≡ Some (change_of table key was) = sym some ∙ also in cc

  not_ended : (take_back left).given ≡ None → ⊥
  not_ended none = let both : None ≡ Some (change_of table key was) = sym none ∙ also in absurd cc

  on_next : (rest : List Change) (end : Undo) → TakesBack (take_back left).after rest end → TakesBack next rest end
  on_next rest end steps = subst (λ (u : Undo). TakesBack u rest end) (sym after) steps

  -- that is of the table
  module _ (keys : List Value) (are : AreKeysGiven number next keys) (same : table ≡ number) where
    here : (c : Change) → (take_back left).given ≡ Some c → (c.table == number) ≡ true
    here c some = eq-eqb c.table number (ap (λ (d : Change). d.table) (its_change c some) ∙ same)

    one_more : AreKeysGiven number left (key ∷ keys)
    one_more given end (ends none after_) = absurd (not_ended none)
    one_more given end (gives {given = rest} c some more) =
        ap (λ (ks : List Value). key ∷ ks) (are rest end (on_next rest end more))
        ∙ (ap (λ (d : Change). d.key ∷ keys_of number rest) (sym (its_change c some))
        ∙ sym (ap (λ (b : Bool). cond b (c.key ∷ keys_of number rest) (keys_of number rest)) (here c some)))

  -- that is of another one
  module _ (keys : List Value) (are : AreKeysGiven number next keys) (other : table ≢ number) where
    off : (c : Change) → (take_back left).given ≡ Some c → c.table ≢ number
    off c some same = other (sym (ap (λ (d : Change). d.table) (its_change c some)) ∙ same)

    none_more : AreKeysGiven number left keys
    none_more given end (ends none after_) = absurd (not_ended none)
    none_more given end (gives {given = rest} c some more) = are rest end (on_next rest end more)
        ∙ sym (ap (λ (b : Bool). cond b (c.key ∷ keys_of number rest) (keys_of number rest))
        (ne_eqb c.table number (off c some)))

-- ---- the loop

-- What is given from a list on, behind these keys, is given from the first one on.
abbrev pub Leads : ℕ → Undo → Undo → List Value → Type 0
Leads number undo left keys = (rest : List Value) → AreKeysGiven number left rest → AreKeysGiven number undo (keys ++ rest)

pub leads_itself : (number : ℕ) (undo : Undo) (keys : List Value) → keys ≡ [] → Leads number undo undo keys
leads_itself number undo keys none rest are =
    subst (λ (ks : List Value). AreKeysGiven number undo (ks ++ rest)) (sym none) are

pub leads_on : (number : ℕ) (undo left next : Undo) (keys now : List Value) (table : ℕ) (key : Value) (was : Was)
    → Some (table, key, was) ≡ given_as (take_back left).given → next ≡ (take_back left).after → table ≡ number
    → now ≡ keys ++ key ∷ [] → Leads number undo left keys → Leads number undo next now
leads_on number undo left next keys now table key was is after same pushed leads rest are =
    subst (λ (ks : List Value). AreKeysGiven number undo (ks ++ rest)) (sym pushed)
    (subst (λ (ks : List Value). AreKeysGiven number undo ks) (sym (append_assoc keys (key ∷ []) rest))
    (leads (key ∷ rest) (one_more number left next table key was is after rest are same)))

pub leads_past : (number : ℕ) (undo left next : Undo) (keys : List Value) (table : ℕ) (key : Value) (was : Was)
    → Some (table, key, was) ≡ given_as (take_back left).given → next ≡ (take_back left).after → table ≢ number
    → Leads number undo left keys → Leads number undo next keys
leads_past number undo left next keys table key was is after other leads rest are =
    leads rest (none_more number left next table key was is after rest are other)

-- a step more, whichever table it is of
pub leads_step : (number : ℕ) (undo left next : Undo) (keys now : List Value) (table : ℕ) (key : Value) (was : Was)
    → Some (table, key, was) ≡ given_as (take_back left).given → next ≡ (take_back left).after
    → now ≡ cond (table == number) (keys ++ (key ∷ [])) keys → Leads number undo left keys → Leads number undo next now
leads_step number undo left next keys now table key was is after noted leads = at (table == number) refl noted
  where
    at : (b : Bool) → (table == number) ≡ b → now ≡ cond b (keys ++ (key ∷ [])) keys → Leads number undo next now
    at true same put = leads_on number undo left next keys now table key was is after (eqb-true table number same) put leads
    at false off_ stays = subst (λ (ks : List Value). Leads number undo next ks) (sym stays)
        (leads_past number undo left next keys table key was is after
        (λ same. false≢true (sym off_ ∙ eq-eqb table number same)) leads)

pub all_given : (number : ℕ) (undo left : Undo) (keys : List Value) → None ≡ given_as (take_back left).given
    → Leads number undo left keys → AreKeysGiven number undo keys
all_given number undo left keys is leads = subst (λ (ks : List Value). AreKeysGiven number undo ks) (append-nil keys)
    (leads [] (none_left number left is))
