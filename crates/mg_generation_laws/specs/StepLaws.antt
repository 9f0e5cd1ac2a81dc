-- What a step makes of who changed a key last.
use Rattle.std.specs.Prelude.{◌≡◌, ℕ, ◌==◌, ◌&&◌, not, Bool, true, false, List, [], ◌∷◌, Some, cond, refl}
use Rattle.std.proofs.Common.{sym, ◌∙◌, ap, subst}
use Rattle.std.proofs.lemmas.Bool.{false≢true, both_ways, eq-eqb, ne_eqb, and_right}
use Rattle.mg_value.specs.declared.value.Value.{Value}
use Rattle.mg_model.specs.declared.change.Deed.{Deed}
use Rattle.mg_model.specs.declared.change.Deed.TheVariants.{Changed, Marked, Saved}
use Rattle.mg_model.specs.declared.change.Step.{Step}
use Rattle.mg_model.specs.Changes.{is_at, has_change, row_at}
use Rattle.mg_model.specs.Machine.{deeds_by, changes_in, changes_by, step}
use Rattle.mg_model.specs.Answers.{changes_key, newest_by}
use Rattle.mg_model.specs.LegalLaws.{found_passes}
use Rattle.mg_generation_laws.specs.Generations.{are_on_top}

-- steps say the same of a key as others do: whose changes have it, which rows, who was last, and
-- whose are the newest
pub record SayTheSame (all others : List Step) (table : List ℕ) (key : Value) : Type 0 where
  pub changes : (t : ℕ)
      → has_change (changes_by t all) table key ≡ has_change (changes_by t others) table key
  pub rows : (t : ℕ)
      → row_at (changes_by t all) table key ≡ row_at (changes_by t others) table key
  pub newest : (who : ℕ → Bool)
      → newest_by who (changes_key table key) all ≡ newest_by who (changes_key table key) others
  pub top : (who : ℕ → Bool) (t : ℕ)
      → are_on_top who table key t all ≡ are_on_top who table key t others

module _ (table : List ℕ) (key : Value) where
  pub same_itself : (all : List Step) → SayTheSame all all table key
  same_itself all = record {
    changes = λ t. refl;
    rows = λ t. refl;
    newest = λ who. refl;
    top = λ who t. refl;
  }

  pub same_back : (all others : List Step) → SayTheSame all others table key
      → SayTheSame others all table key
  same_back all others it = record {
    changes = λ t. sym (it.changes t);
    rows = λ t. sym (it.rows t);
    newest = λ who. sym (it.newest who);
    top = λ who t. sym (it.top who t);
  }

  pub same_along : (all others old : List Step) → all ≡ others → SayTheSame others old table key
      → SayTheSame all old table key
  same_along all others old is it =
      let P : List Step → Type 0 = λ steps. SayTheSame steps old table key in subst P (sym is) it

  -- a step that doesn't change the key
  pub same_after_step : (u : ℕ) (d : Deed) (all : List Step) → changes_key table key d ≡ false
      → SayTheSame (step u d ∷ all) all table key
  same_after_step u d all other = record {
    changes = λ t. changed d other t (u == t);
    rows = λ t. given d other t (u == t);
    newest = λ who. rw (other, and_right (who u) false refl) refl;
    top = λ who t. rw other refl;
  }
    where
      changed : (d : Deed) → changes_key table key d ≡ false → (t : ℕ) (b : Bool)
          → has_change (changes_in (cond b (d ∷ deeds_by t all) (deeds_by t all))) table key
          ≡ has_change (changes_by t all) table key
      changed d other t false = refl
      changed (Changed c) other t true = rw other refl
      changed Marked other t true = refl
      changed (Saved name) other t true = refl

      given : (d : Deed) → changes_key table key d ≡ false → (t : ℕ) (b : Bool)
          → row_at (changes_in (cond b (d ∷ deeds_by t all) (deeds_by t all))) table key
          ≡ row_at (changes_by t all) table key
      given d other t false = refl
      given (Changed c) other t true = rw other refl
      given Marked other t true = refl
      given (Saved name) other t true = refl

  -- ---- who changed the key last

  pub front_has : (s : Step) (all : List Step) → changes_key table key s.deed ≡ true
      → has_change (changes_by s.by.0 (s ∷ all)) table key ≡ true
  front_has s all is =
      let its : (s.by.0 == s.by.0) ≡ true = eq-eqb s.by.0 s.by.0 refl in rw its (at s.deed is)
    where
      at : (d : Deed) → changes_key table key d ≡ true
          → has_change (changes_in (d ∷ deeds_by s.by.0 all)) table key ≡ true
      at (Changed c) is = rw is refl
      at Marked is = absurd (false≢true is)
      at (Saved name) is = absurd (false≢true is)

  pub behind_has : (s : Step) (all : List Step) (u : ℕ)
      → has_change (changes_by u all) table key ≡ true
      → has_change (changes_by u (s ∷ all)) table key ≡ true
  behind_has s all u has = at s.deed (s.by.0 == u)
    where
      front : (b : Bool) → cond b true (has_change (changes_by u all) table key) ≡ true
      front true = refl
      front false = has

      at : (d : Deed) (b : Bool)
          → has_change (changes_in (cond b (d ∷ deeds_by u all) (deeds_by u all))) table key ≡ true
      at d false = has
      at (Changed c) true = front (is_at c table key)
      at Marked true = has
      at (Saved name) true = has

  -- it depends on the test at those whose changes have the key alone
  pub newest_as : (a b : ℕ → Bool) (all : List Step)
      → ((u : ℕ) → has_change (changes_by u all) table key ≡ true → a u ≡ b u)
      → newest_by a (changes_key table key) all ≡ newest_by b (changes_key table key) all
  newest_as a b [] same = refl
  newest_as a b (s ∷ all) same =
      at (changes_key table key s.deed) refl (a s.by.0) refl (b s.by.0) refl
      (newest_as a b all (λ u has. same u (behind_has s all u has)))
    where
      at : (c : Bool) → changes_key table key s.deed ≡ c → (x : Bool) → a s.by.0 ≡ x
          → (y : Bool) → b s.by.0 ≡ y
          → newest_by a (changes_key table key) all ≡ newest_by b (changes_key table key) all
          → cond (x && c) (Some s.by.0) (newest_by a (changes_key table key) all)
          ≡ cond (y && c) (Some s.by.0) (newest_by b (changes_key table key) all)
      at false other true one true two more = more
      at false other true one false two more = more
      at false other false one true two more = more
      at false other false one false two more = more
      at true is true one true two more = refl
      at true is false one false two more = more
      at true is true one false two more =
          absurd (both_ways (b s.by.0) two
          (sym (same s.by.0 (front_has s all is)) ∙ one))
      at true is false one true two more =
          absurd (both_ways (a s.by.0) one (same s.by.0 (front_has s all is) ∙ two))

  -- who is found has a change of the key
  pub newest_has : (who : ℕ → Bool) (all : List Step) (u : ℕ)
      → newest_by who (changes_key table key) all ≡ Some u
      → has_change (changes_by u all) table key ≡ true
  newest_has who all u is = at (has_change (changes_by u all) table key) refl
    where
      but : ℕ → Bool
      but v = who v && not (v == u)

      others : (b c : Bool) → c ≡ false → b ≡ (b && not c)
      others true c off = rw off refl
      others false c off = refl

      at : (b : Bool) → has_change (changes_by u all) table key ≡ b → b ≡ true
      at true has = refl
      at false without =
          let found : newest_by but (changes_key table key) all ≡ Some u =
          sym (newest_as who but all (λ v has. others (who v) (v == u)
          (ne_eqb v u (λ same. both_ways (has_change (changes_by u all) table key) without
          (ap (λ n. has_change (changes_by n all) table key) (sym same) ∙ has)))))
          ∙ is in
          let its : (u == u) ≡ true = eq-eqb u u refl in
          let off : but u ≡ false = rw its (and_right (who u) false refl) in
          absurd (both_ways (but u) off (found_passes but (changes_key table key) all u found))
