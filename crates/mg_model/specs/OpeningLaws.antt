-- A history may begin with an opening that a database gives, and a history in which each answer is
-- the machine's is legal.
use Rattle.std.specs.Prelude.{◌≡◌, ◌≢◌, ◌⊎◌, ℕ, ◌==◌, ◌&&◌, Bool, true, false, List, [], ◌∷◌, map, cond, refl}
use Rattle.std.proofs.Common.{sym, ◌∙◌, ap, inl, inr}
use Rattle.std.proofs.lemmas.Bool.{false≢true, both_ways, eqb-true}
use Rattle.std.specs.Cmp.Lexicographic.{same_text}
use Rattle.mg_base.specs.declared.transaction.TxState.TheVariants.{Limbo}
use Rattle.mg_value.specs.declared.value.Value.{Value}
use Rattle.mg_model.specs.declared.change.Change.{Change}
use Rattle.mg_model.specs.declared.event.Event.{Event}
use Rattle.mg_model.specs.declared.opening.LimboChange.{LimboChange}
use Rattle.mg_model.specs.declared.opening.Opening.{Opening}
use Rattle.mg_model.specs.Changes.{has_change, is_at, same_key, same_name}
use Rattle.mg_model.specs.History.{Entries, entry}
use Rattle.mg_model.specs.Machine.{changes_by, changes_in, deeds_by, limbo_step, opening_state}
use Rattle.mg_model.specs.Answers.{answer}
use Rattle.mg_model.specs.Legal.{MayBegin, IsLegal}
use Rattle.mg_model.specs.Openings.{Each, HaveOwnKeys, IsOpening, chosen_changes, everyone}
use Rattle.mg_model.specs.RowLaws.{same_from_same_key}
use Rattle.mg_model.specs.Scenarios.{run}

-- ---- a whole opening

none_listed : (o : Opening) (t : ℕ) → opening_state o t ≢ Limbo → (cs : List LimboChange)
    → Each (λ c. opening_state o c.by.0 ≡ Limbo) cs → deeds_by t (map limbo_step cs) ≡ []
none_listed o t other [] each = refl
none_listed o t other (c ∷ cs) each =
    at (c.by.0 == t) refl (none_listed o t other cs each.1)
  where
    at : (b : Bool) → (c.by.0 == t) ≡ b → deeds_by t (map limbo_step cs) ≡ []
        → cond b ((limbo_step c).deed ∷ deeds_by t (map limbo_step cs))
        (deeds_by t (map limbo_step cs)) ≡ []
    at true its more =
        absurd (other (ap (opening_state o) (sym (eqb-true c.by.0 t its)) ∙ each.0))
    at false apart more = more

abbrev change_of : LimboChange → Change
change_of c = record { table = c.table; key = c.key; row = c.row }

-- a change of a key is the first one of a transaction, or among its later ones
first_or_later : (c : LimboChange) (cs : List LimboChange) (t : ℕ) (table : List ℕ) (key : Value)
    → has_change (changes_by t (map limbo_step (c ∷ cs))) table key ≡ true
    → ((c.by.0 ≡ t) × (is_at (change_of c) table key ≡ true))
    ⊎ (has_change (changes_by t (map limbo_step cs)) table key ≡ true)
first_or_later c cs t table key has = at (c.by.0 == t) refl has
  where
    now : (b : Bool) → c.by.0 ≡ t → is_at (change_of c) table key ≡ b
        → cond b true (has_change (changes_by t (map limbo_step cs)) table key) ≡ true
        → ((c.by.0 ≡ t) × (is_at (change_of c) table key ≡ true))
        ⊎ (has_change (changes_by t (map limbo_step cs)) table key ≡ true)
    now true its is has = inl (its, is)
    now false its is has = inr has

    at : (b : Bool) → (c.by.0 == t) ≡ b
        → has_change (changes_in (cond b ((limbo_step c).deed ∷ deeds_by t (map limbo_step cs))
        (deeds_by t (map limbo_step cs)))) table key ≡ true
        → ((c.by.0 ≡ t) × (is_at (change_of c) table key ≡ true))
        ⊎ (has_change (changes_by t (map limbo_step cs)) table key ≡ true)
    at true its has = now (is_at (change_of c) table key) (eqb-true c.by.0 t its) refl has
    at false apart has = inr has

-- a change of one transaction is one of all
own_among_all : (cs : List LimboChange) (t : ℕ) (table : List ℕ) (key : Value)
    → has_change (changes_by t (map limbo_step cs)) table key ≡ true
    → has_change (chosen_changes everyone cs) table key ≡ true
own_among_all [] t table key has = has
own_among_all (c ∷ cs) t table key has =
    at (own_among_all cs t table key) (is_at (change_of c) table key) refl
    (first_or_later c cs t table key has)
  where
    at : (has_change (changes_by t (map limbo_step cs)) table key ≡ true
        → has_change (chosen_changes everyone cs) table key ≡ true) → (b : Bool) → is_at (change_of c) table key ≡ b
        → ((c.by.0 ≡ t) × (is_at (change_of c) table key ≡ true))
        ⊎ (has_change (changes_by t (map limbo_step cs)) table key ≡ true)
        → cond b true (has_change (chosen_changes everyone cs) table key) ≡ true
    at more true is found = refl
    at more false other (inl found) =
        absurd (both_ways (is_at (change_of c) table key) other found.1)
    at more false other (inr later) = more later

and_true : (a b : Bool) → (a && b) ≡ true → (a ≡ true) × (b ≡ true)
and_true true b both = (refl, both)
and_true false b both = absurd (false≢true both)

-- no later change is of the key of the first one
later_is_apart : (c : LimboChange) (cs : List Change) (table : List ℕ) (key : Value)
    → is_at (change_of c) table key ≡ true → has_change cs c.table c.key ≡ false
    → has_change cs table key ≡ true → ⊥
later_is_apart c cs table key is apart has =
    let both = and_true (same_name c.table table) (same_key c.key key) is in
    let named : c.table ≡ table = same_text c.table table (sym both.0) in
    let keyed : c.key ≡ key = same_from_same_key c.key key both.1 in
    both_ways (has_change cs table key)
    (ap (λ (name : List ℕ). has_change cs name key) (sym named)
    ∙ (ap (has_change cs c.table) (sym keyed) ∙ apart)) has

one_writes : (cs : List LimboChange) → HaveOwnKeys (chosen_changes everyone cs) → (t u : ℕ)
    (table : List ℕ) (key : Value)
    → has_change (changes_by t (map limbo_step cs)) table key ≡ true
    → has_change (changes_by u (map limbo_step cs)) table key ≡ true → t ≡ u
one_writes [] apart t u table key first second = absurd (false≢true first)
one_writes (c ∷ cs) apart t u table key first second =
    at (one_writes cs apart.1 t u table key) (first_or_later c cs t table key first)
    (first_or_later c cs u table key second)
  where
    all : List Change
    all = chosen_changes everyone cs

    at : (has_change (changes_by t (map limbo_step cs)) table key ≡ true
        → has_change (changes_by u (map limbo_step cs)) table key ≡ true → t ≡ u)
        → ((c.by.0 ≡ t) × (is_at (change_of c) table key ≡ true))
        ⊎ (has_change (changes_by t (map limbo_step cs)) table key ≡ true)
        → ((c.by.0 ≡ u) × (is_at (change_of c) table key ≡ true))
        ⊎ (has_change (changes_by u (map limbo_step cs)) table key ≡ true) → t ≡ u
    at more (inl a) (inl b) = sym a.0 ∙ b.0
    at more (inl a) (inr later) = absurd (later_is_apart c all table key a.1 apart.0
        (own_among_all cs u table key later))
    at more (inr later) (inl b) = absurd (later_is_apart c all table key b.1 apart.0
        (own_among_all cs t table key later))
    at more (inr a) (inr b) = more a b

-- a history may begin with an opening that a database gives
pub opening_may_begin : (o : Opening) → IsOpening o → MayBegin o
opening_may_begin o opening = record {
  first = opening.first;
  in_limbo = λ t other. none_listed o t other o.limbo opening.in_limbo;
  one_writer = λ t u table key first second.
      one_writes o.limbo opening.changes_apart t u table key first second;
}

-- ---- legal histories

pub run_is_legal : (o : Opening) (h : Entries) (events : List Event) → IsLegal o h
    → IsLegal o (run o h events)
run_is_legal o h [] legal = legal
run_is_legal o h (e ∷ events) legal =
    run_is_legal o (entry e (answer o h e) ∷ h) events (inl refl, legal)
