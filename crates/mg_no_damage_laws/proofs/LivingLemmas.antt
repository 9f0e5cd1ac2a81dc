-- The newest version of a record that counts, and the row that it shows where all that have not ended count as committed.
use Rattle.std.proofs.Common.{◌≡◌, ◌∙◌, cond, not, ℕ, Bool, true, false, List, [], ◌∷◌, Option, None, Some, refl, sym, ap, subst}
use Rattle.mg_base.specs.declared.transaction.TxState.{TxState}
use Rattle.mg_base.specs.declared.transaction.TxState.TheVariants.{Committed}
use Rattle.mg_chain.specs.Views.{first_entry, is_dead as dead_version}
use Rattle.mg_image.specs.Form.{Row}
use Rattle.mg_image.specs.RecordRules.{Each, EachBack}
use Rattle.mg_image.specs.Records.{shown, writer}
use Rattle.mg_image.specs.declared.entry.Entry.{Entry}
use Rattle.mg_image_overlay_laws.specs.records.Fronts.{is_dead, living}
use Rattle.mg_seek.specs.Versions.{wants}
use Rattle.mg_seek.specs.declared.whose.Wanted.TheVariants.{Living}
use Rattle.mg_snap.specs.Live.{State}

-- The versions of a record that count begin with this one.
pub record CountsFirst (state : ℕ → TxState) (es : List Entry) (e : Entry) : Type 0 where
  pub later : List Entry
  pub is_ : living state es ≡ e ∷ later
  pub lives : is_dead (state (writer e)) ≡ false

-- And it gives this row.
pub record GivesFirst (state : ℕ → TxState) (es : List Entry) (row : Row) : Type 0 where
  pub e : Entry
  pub counts : CountsFirst state es e
  pub kept : e.version.deleted ≡ false
  pub row_is : e.row ≡ row

given : (b : Bool) (x row : Row) → cond b None (Some x) ≡ Some row → (b ≡ false) × (x ≡ row)
given true x row is = absurd cc
given false x row is = (refl, cc)

module _ (state : ℕ → TxState) where
  -- what the first one that counts has each has
  pub first_has : (P : Entry → Type 0) (es : List Entry) → Each P es → (e : Entry) → CountsFirst state es e → P e
  first_has P [] each e counts = let none = counts.is_ in absurd cc
  first_has P (d ∷ ds) each e counts = at (is_dead (state (writer d))) ds each.1 counts.is_
    where
      at : (b : Bool) (xs : List Entry) → Each P xs → cond b xs (d ∷ xs) ≡ e ∷ counts.later → P e
      at false xs more is = let it : d ≡ e = cc in subst P it each.0
      at true [] more is = absurd cc
      at true (c ∷ xs) more is = let it : c ≡ e = cc in subst P it more.0

  module _ (told : ℕ → TxState) (live : State) (alike : (u : ℕ) → dead_version (told u) ≡ is_dead (state u)) where
    takes : (u : ℕ) (b : Bool) → is_dead (state u) ≡ b → wants told live Living u ≡ not b
    takes u b is = ap not (alike u ∙ is)

    -- the newest one that is of no dead transaction counts first
    pub first_counts : (es : List Entry) → EachBack (λ d. state (writer d) ≡ Committed) es → (e : Entry)
        → first_entry (wants told live Living) es ≡ Some e → CountsFirst state es e
    first_counts [] backs e is = absurd cc
    first_counts (d ∷ ds) backs e is =
        let it = at (is_dead (state (writer d))) refl ds backs is in
        record { later = it.0; is_ = it.1; lives = it.2 }
      where
        at : (b : Bool) → is_dead (state (writer d)) ≡ b → (xs : List Entry)
            → Each (λ c. state (writer c) ≡ Committed) xs → first_entry (wants told live Living) (d ∷ xs) ≡ Some e
            → (later : List Entry) × (cond b xs (d ∷ xs) ≡ e ∷ later) × (is_dead (state (writer e)) ≡ false)
        at false alive xs each same =
            let one : Some d ≡ Some e = sym (ap (λ (b : Bool). cond b (Some d)
            (first_entry (wants told live Living) xs)) (takes (writer d) false alive)) ∙ same in
            let it : d ≡ e = cc in
            (xs, ap (λ (x : Entry). x ∷ xs) it, ap (λ (x : Entry). is_dead (state (writer x))) (sym it) ∙ alive)
        at true gone [] each same =
            let none : ◌≡◌ {A = Option Entry} None (Some e) = sym (ap (λ (b : Bool). cond b (Some d) None)
            (takes (writer d) true gone)) ∙ same in absurd cc
        at true gone (c ∷ xs) each same =
            let alive : is_dead (state (writer c)) ≡ false = ap is_dead each.0 in
            let one : Some c ≡ Some e = sym (ap (λ (b : Bool). cond b (Some d)
            (first_entry (wants told live Living) (c ∷ xs))) (takes (writer d) true gone)
            ∙ ap (λ (b : Bool). cond b (Some c) (first_entry (wants told live Living) xs))
            (takes (writer c) false alive)) ∙ same in
            let it : c ≡ e = cc in
            (xs, ap (λ (x : Entry). x ∷ xs) it, ap (λ (x : Entry). is_dead (state (writer x))) (sym it) ∙ alive)

  -- ---- where all that are not dead count as committed

  module _ (committed : ℕ → Bool) (fits : (u : ℕ) → committed u ≡ not (is_dead (state u))) where
    counted : (u : ℕ) (b : Bool) → is_dead (state u) ≡ b → committed u ≡ not b
    counted u b is = fits u ∙ ap not is

    -- the first one that counts is shown
    pub shows_first : (es : List Entry) → EachBack (λ d. state (writer d) ≡ Committed) es → (e : Entry)
        → CountsFirst state es e → e.version.deleted ≡ false → shown committed es ≡ Some e.row
    shows_first [] backs e counts kept = let none = counts.is_ in absurd cc
    shows_first (d ∷ ds) backs e counts kept = at (is_dead (state (writer d))) refl ds backs counts.is_
      where
        its : (x : Entry) → x ≡ e → cond x.version.deleted None (Some x.row) ≡ Some e.row
        its x same = ap (λ (y : Entry). cond y.version.deleted None (Some y.row)) same
            ∙ ap (λ (b : Bool). cond b None (Some e.row)) kept

        at : (b : Bool) → is_dead (state (writer d)) ≡ b → (xs : List Entry)
            → Each (λ c. state (writer c) ≡ Committed) xs → cond b xs (d ∷ xs) ≡ e ∷ counts.later
            → shown committed (d ∷ xs) ≡ Some e.row
        at false alive xs each is = let it : d ≡ e = cc in
            ap (λ (b : Bool). cond b (cond d.version.deleted None (Some d.row)) (shown committed xs))
            (counted (writer d) false alive) ∙ its d it
        at true gone [] each is = absurd cc
        at true gone (c ∷ xs) each is = let it : c ≡ e = cc in
            ap (λ (b : Bool). cond b (cond d.version.deleted None (Some d.row)) (shown committed (c ∷ xs)))
            (counted (writer d) true gone)
            ∙ (ap (λ (b : Bool). cond b (cond c.version.deleted None (Some c.row)) (shown committed xs))
            (counted (writer c) false (ap is_dead each.0)) ∙ its c it)

    -- and what is shown is the first one that counts
    pub first_shown : (es : List Entry) → EachBack (λ d. state (writer d) ≡ Committed) es → (row : Row)
        → shown committed es ≡ Some row → GivesFirst state es row
    first_shown [] backs row is = absurd cc
    first_shown (d ∷ ds) backs row is =
        let it = at (is_dead (state (writer d))) refl ds backs is in record {
          e = it.0;
          counts = record { later = it.1; is_ = it.2; lives = it.3 };
          kept = it.4;
          row_is = it.5;
        }
      where
        at : (b : Bool) → is_dead (state (writer d)) ≡ b → (xs : List Entry)
            → Each (λ c. state (writer c) ≡ Committed) xs → shown committed (d ∷ xs) ≡ Some row
            → (e : Entry) × (later : List Entry) × (cond b xs (d ∷ xs) ≡ e ∷ later)
            × (is_dead (state (writer e)) ≡ false) × (e.version.deleted ≡ false) × (e.row ≡ row)
        at false alive xs each same =
            let both = given d.version.deleted d.row row (sym (ap (λ (b : Bool). cond b
            (cond d.version.deleted None (Some d.row)) (shown committed xs)) (counted (writer d) false alive)) ∙ same) in
            (d, xs, refl, alive, both.0, both.1)
        at true gone [] each same =
            let none : ◌≡◌ {A = Option Row} None (Some row) = sym (ap (λ (b : Bool). cond b
            (cond d.version.deleted None (Some d.row)) None) (counted (writer d) true gone)) ∙ same in absurd cc
        at true gone (c ∷ xs) each same =
            let alive : is_dead (state (writer c)) ≡ false = ap is_dead each.0 in
            let both = given c.version.deleted c.row row (sym (ap (λ (b : Bool). cond b
            (cond d.version.deleted None (Some d.row)) (shown committed (c ∷ xs))) (counted (writer d) true gone)
            ∙ ap (λ (b : Bool). cond b (cond c.version.deleted None (Some c.row)) (shown committed xs))
            (counted (writer c) false alive)) ∙ same) in
            (c, xs, refl, alive, both.0, both.1)
