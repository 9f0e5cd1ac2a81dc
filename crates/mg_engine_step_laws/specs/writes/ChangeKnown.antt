-- One change of a transaction's own, as the history with the entry has it: the changes of an image are those.
use Rattle.mg_base.specs.declared.transaction.TxState.{TxState}
use Rattle.mg_base.specs.declared.transaction.TxState.TheVariants.{Limbo}
use Rattle.mg_image.specs.Held.{Changes}
use Rattle.mg_image.specs.Histories.{newest_at}
use Rattle.mg_image.specs.RecordRules.{Facts}
use Rattle.mg_image.specs.Records.{Change}
use Rattle.mg_image.specs.declared.entry.Entry.{Entry}
use Rattle.mg_image_overlay_laws.specs.transactions.CommitLaws.{LeavesOthers}
use Rattle.mg_model.specs.Changes.{same_key, same_name}
use Rattle.mg_model.specs.History.{Entries, Entry as Event}
use Rattle.mg_model.specs.Machine.{own}
use Rattle.mg_model.specs.ReadLaws.{is_at_itself}
use Rattle.mg_model.specs.RowLaws.{same_from_same_key}
use Rattle.mg_model.specs.declared.change.Change.{Change as Made}
use Rattle.mg_model.specs.declared.opening.Opening.{Opening}
use Rattle.mg_model.specs.declared.table.Table.{Table}
use Rattle.mg_image_overlay_laws.specs.records.OwnWrites.{ChangesOwn, IsThere, limbo_change}
use Rattle.mg_value.specs.declared.value.Value.{Value}
use Rattle.std.proofs.Common.{Bool, List, None, Option, ap, false, if◌then◌else◌, inl, inr, refl, sym, true, ℕ, ◌&&◌, ◌==◌, ◌∙◌, ◌∷◌, ◌≡◌, ◌≢◌, ◌⊎◌}
use Rattle.std.proofs.lemmas.Bool.{and_parts, cases_eq, eq-eqb, false≢true, ne_eqb}
use Rattle.std.specs.Cmp.Lexicographic.{same_text}

-- a transaction's changes after an entry are those of the longer history, all others are as before
abbrev pub changes_after : Opening → Entries → Event → ℕ → Changes → Changes
changes_after o h e t changes u name key =
    if u == t then newest_at (own o (e ∷ h) u) name key else changes u name key

module _ (o : Opening) (h : Entries) (e : Event) (state : ℕ → TxState) (t : ℕ) (name : List ℕ) (key : Value)
    (c : Option Change) (here_now : newest_at (own o (e ∷ h) t) name key ≡ c)
    (else_now : (other : List ℕ) (k : Value) → (same_name name other && same_key key k) ≡ false
    → newest_at (own o (e ∷ h) t) other k ≡ newest_at (own o h t) other k)
    (brings : LeavesOthers o h e t) (limbo : state t ≡ Limbo) (changes : Changes)
    (are : (u : ℕ) (other : List ℕ) (k : Value) → state u ≡ Limbo
    → changes u other k ≡ newest_at (own o h u) other k) where
  abbrev after : Changes
  after = changes_after o h e t changes

  pub after_are : (u : ℕ) (other : List ℕ) (k : Value) → state u ≡ Limbo
      → after u other k ≡ newest_at (own o (e ∷ h) u) other k
  after_are u other k its = at (cases_eq u t)
    where
      at : (u ≡ t) ⊎ (u ≢ t) → after u other k ≡ newest_at (own o (e ∷ h) u) other k
      at (inl same) = rw (eq-eqb u t same) refl
      at (inr ne) = rw (ne_eqb u t ne) (are u other k its
          ∙ ap (λ (cs : List Made). newest_at cs other k) (sym (brings.others u ne)))

  after_own : (other : List ℕ) (k : Value) → after t other k ≡ newest_at (own o (e ∷ h) t) other k
  after_own other k = rw (eq-eqb t t refl) refl

  pub turns_to : (f : Facts) (table : Table) (by : ℕ) (its_key : Value) (es : List Entry) → table.name ≡ name
      → by ≡ t → its_key ≡ key → limbo_change f table es ≡ c → ChangesOwn f table by its_key es changes after
  turns_to f table by its_key es named is_by keyed turned = record { here = here; others = others }
    where
      here : after by table.name its_key ≡ limbo_change f table es
      here = ap (λ (u : ℕ). after u table.name its_key) is_by
          ∙ (ap (λ (n : List ℕ). after t n its_key) named
          ∙ (ap (after t name) keyed ∙ (after_own name key ∙ (here_now ∙ sym turned))))

      there_is : (u : ℕ) (other : List ℕ) (k : Value) → IsThere by table its_key u other k
          → (same_name name other && same_key key k) ≡ true
      there_is u other k (same, (is_name, is_key)) =
          ap (λ (n : List ℕ). same_name name n && same_key key k) (is_name ∙ named)
          ∙ (ap (λ (j : Value). same_name name name && same_key key j) (is_key ∙ keyed)
          ∙ is_at_itself name key None)

      others : (u : ℕ) (other : List ℕ) (k : Value) → IsThere by table its_key u other k
          ⊎ ((IsThere by table its_key u other k → ⊥) × (after u other k ≡ changes u other k))
      others u other k = at (cases_eq u t)
        where
          by_test : (b : Bool) → (same_name name other && same_key key k) ≡ b → u ≡ t
              → IsThere by table its_key u other k
              ⊎ ((IsThere by table its_key u other k → ⊥) × (after u other k ≡ changes u other k))
          by_test true at_it same =
              let parts = and_parts (same_name name other) (same_key key k) at_it in
              inl (
                same ∙ sym is_by,
                (
                  sym (same_text name other (sym parts.0)) ∙ sym named,
                  sym (same_from_same_key key k parts.1) ∙ sym keyed,
                ),
              )
          by_test false off same = inr (
            (λ there. false≢true (sym off ∙ there_is u other k there)),
            ap (λ (w : ℕ). after w other k) same ∙ (after_own other k ∙ (else_now other k off
                ∙ (sym (are t other k limbo) ∙ ap (λ (w : ℕ). changes w other k) (sym same)))),
          )

          at : (u ≡ t) ⊎ (u ≢ t) → IsThere by table its_key u other k
              ⊎ ((IsThere by table its_key u other k → ⊥) × (after u other k ≡ changes u other k))
          at (inl same) = by_test (same_name name other && same_key key k) refl same
          at (inr ne) = inr ((λ there. ne (there.0 ∙ is_by)), rw (ne_eqb u t ne) refl)
