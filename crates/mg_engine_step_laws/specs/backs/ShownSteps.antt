-- One key is taken back: the pages show the next of the middle states.
use Rattle.mg_base.specs.declared.numbers.RecId.{RecId}
use Rattle.mg_engine_step_laws.specs.backs.Again.{without_else, without_here, without_key}
use Rattle.mg_engine_step_laws.specs.backs.Shown.{IsTakenBack, ShowsMidway, ShowsOnward, TakesKeyBack}
use Rattle.mg_engine_step_laws.specs.standing.BareLaws.{bare_grown}
use Rattle.mg_engine_step_laws.specs.writes.WritesLaws.{finds_on}
use Rattle.mg_generation_laws.specs.After.{generations_back}
use Rattle.mg_image.specs.Form.{Form, Pages}
use Rattle.mg_image.specs.Histories.{newest_at, row_change}
use Rattle.mg_image.specs.RecordRules.{Facts}
use Rattle.mg_image.specs.Records.{Reading, record_key}
use Rattle.mg_image.specs.Sound.{facts_by}
use Rattle.mg_image.specs.StepLaws.{cases_place, same_place}
use Rattle.mg_image.specs.Tables.{stands_of, table_at}
use Rattle.mg_image.specs.declared.entry.Entry.{Entry as Read}
use Rattle.mg_model.specs.Changes.{is_at, same_key, same_name}
use Rattle.mg_model.specs.History.{Entries, Entry}
use Rattle.mg_model.specs.Machine.{own}
use Rattle.mg_model.specs.Openings.{everyone}
use Rattle.mg_model.specs.ReadLaws.{is_at_itself}
use Rattle.mg_model.specs.RowLaws.{same_from_same_key}
use Rattle.mg_model.specs.declared.change.Change.{Change}
use Rattle.mg_model.specs.declared.opening.Opening.{Opening}
use Rattle.mg_model.specs.declared.table.Table.{Table}
use Rattle.mg_overlay_laws.specs.Overlays.{left_state}
use Rattle.mg_seek.specs.Histories.{told_versions}
use Rattle.mg_engine_step_laws.specs.standing.Standing.{ShowsHistory, Standing}
use Rattle.mg_engine_step_laws.specs.standing.Versions.{SpeaksFor}
use Rattle.mg_value.specs.declared.value.Value.{Value}
use Rattle.std.proofs.Common.{Bool, List, None, Option, Some, [], ap, false, if◌then◌else◌, inl, inr, refl, subst, sym, true, ℕ, ◌&&◌, ◌++◌, ◌∙◌, ◌∷◌, ◌≡◌, ◌≢◌, ◌⊎◌}
use Rattle.std.proofs.lemmas.Bool.{and_parts, false≢true}
use Rattle.std.specs.Cmp.Lexicographic.{same_text}
use Rattle.mg_image.specs.Records as records

-- what is newest in a list is so in the list with none behind
newest_empty : (cs : List Change) (n : List ℕ) (k : Value) → newest_at cs n k ≡ newest_at (cs ++ []) n k
newest_empty [] n k = refl
newest_empty (c ∷ cs) n k = ap (λ (x : Option records.Change). if is_at c n k then Some (row_change c.row) else x)
    (newest_empty cs n k)

module _ (form : Form) (size : ℕ) (o : Opening) (h : Entries) (e : Entry) (t : ℕ) (whole left : List Change)
    (s : Standing) (begun pages later : Pages) (first : ShowsHistory form size o h s begun)
    (midway : ShowsMidway form size o h e t whole left s begun first pages) (name : List ℕ) (key : Value)
    (c : records.Change) (rec : RecId) (table : Table) (to_take : newest_at left name key ≡ Some c)
    (was_of : table_at (stands_of first.layout) rec.page.0 ≡ Some table)
    (takes : TakesKeyBack form size o h e t s pages later midway.layout midway.reading first.versions.speaker name
    key rec table) where
  abbrev f : Facts
  f = facts_by (left_state everyone s.state) begun first.layout

  abbrev now_ : Reading
  now_ = takes.reads.reading

  still : midway.reading rec ≡ first.reading rec
  still = midway.not_yet name key c to_take rec takes.spoken

  same_or : (p : RecId) → (p ≡ rec) ⊎ (p ≢ rec)
  same_or p = at (cases_place p rec)
    where
      at : ((p ≡ rec) × (same_place p rec ≡ true)) ⊎ ((p ≢ rec) × (same_place p rec ≡ false))
          → (p ≡ rec) ⊎ (p ≢ rec)
      at (inl (same, yes_)) = inl same
      at (inr (ne, no_)) = inr ne

  key_was : record_key table (first.reading rec) ≡ key
  key_was = ap (record_key table) (sym still) ∙ takes.keyed

  -- the record
  here : IsTakenBack o h e t f first.reading now_ first.versions.speaker rec
  here = record {
    table = table;
    of = was_of;
    spoke = ap (λ (n : List ℕ). first.versions.speaker n (record_key table (first.reading rec))) takes.named
        ∙ (ap (first.versions.speaker name) key_was ∙ takes.spoken);
    told = ap (told_versions f.state table) takes.reads.here ∙ (takes.told
        ∙ (ap (λ (es : List Read). generations_back (own o (e ∷ h) t) t name key (told_versions f.state table es))
        still
        ∙ (ap (λ (k : Value). generations_back (own o (e ∷ h) t) t name k
        (told_versions f.state table (first.reading rec))) (sym key_was)
        ∙ ap (λ (n : List ℕ). generations_back (own o (e ∷ h) t) t n (record_key table (first.reading rec))
        (told_versions f.state table (first.reading rec))) (sym takes.named))));
    keyed = λ some. ap (record_key table) takes.reads.here
        ∙ (takes.key_stays (λ none. some (takes.reads.here ∙ none)) ∙ sym key_was);
  }

  -- and the others
  there : (p : RecId) → p ≢ rec → IsTakenBack o h e t f first.reading midway.reading first.versions.speaker p
      → IsTakenBack o h e t f first.reading now_ first.versions.speaker p
  there p ne it = record {
    table = it.table;
    of = it.of;
    spoke = it.spoke;
    told = ap (told_versions f.state it.table) (takes.reads.others p ne) ∙ it.told;
    keyed = λ some. ap (record_key it.table) (takes.reads.others p ne)
        ∙ it.keyed (λ none. some (takes.reads.others p ne ∙ none));
  }

  -- the key for which the record speaks is its own alone
  its_key : (n : List ℕ) (k : Value) → first.versions.speaker n k ≡ Some rec → (n ≡ name) × (k ≡ key)
  its_key n k spoken = at (subst (SpeaksFor o h f first.reading n k) spoken (first.versions.speaks n k))
    where
      at : SpeaksFor o h f first.reading n k (Some rec) → (n ≡ name) × (k ≡ key)
      at (its, versions) =
          let both : Some its.table ≡ Some table = sym its.of_table ∙ was_of in
          let same : its.table ≡ table = cc in (
            sym its.named ∙ (ap (λ (x : Table). x.name) same ∙ takes.named),
            sym its.keyed ∙ (ap (λ (x : Table). record_key x (first.reading rec)) same ∙ key_was),
          )

  none_here : newest_at (without_key name key left) name key ≡ None
  none_here = newest_empty (without_key name key left) name key ∙ without_here name key left []

  -- what is still to take is of other keys
  other_key : (n : List ℕ) (k : Value) (x : records.Change)
      → newest_at (without_key name key left) n k ≡ Some x → (same_name name n && same_key key k) ≡ false
  other_key n k x is = at (same_name name n && same_key key k) refl
    where
      at : (b : Bool) → (same_name name n && same_key key k) ≡ b → (same_name name n && same_key key k) ≡ false
      at false off = off
      at true on =
          let parts = and_parts (same_name name n) (same_key key k) on in
          let there_ : newest_at (without_key name key left) name key ≡ Some x =
          ap (λ (m : List ℕ). newest_at (without_key name key left) m key)
          (same_text name n (sym parts.0)) ∙ (ap (newest_at (without_key name key left) n)
          (same_from_same_key key k parts.1) ∙ is) in
          let both : None ≡ Some x = sym none_here ∙ there_ in absurd cc

  else_left : (n : List ℕ) (k : Value) → (same_name name n && same_key key k) ≡ false
      → newest_at (without_key name key left) n k ≡ newest_at left n k
  else_left n k off = newest_empty (without_key name key left) n k ∙ (without_else name key left [] n k off
      ∙ sym (newest_empty left n k))

  itself_on : (same_name name name && same_key key key) ≡ true
  itself_on = is_at_itself name key None

  pub shows_onward : ShowsMidway form size o h e t whole (without_key name key left) s begun first later
  shows_onward = record {
    layout = takes.reads.layout;
    reading = now_;
    sound = takes.reads.sound;
    next = takes.next ∙ midway.next;
    stays = λ p x is. takes.reads.grown.stays p.page.0 x (midway.stays p x is);
    new = λ p x is. new_at p x is (takes.reads.grown.new p.page.0 x is) (same_or p);
    tables = λ u is. finds_on o h s midway.layout takes.reads.layout midway.reading u takes.reads.grown
        (midway.tables u is);
    bare = bare_grown midway.layout takes.reads.layout midway.reading takes.reads.grown midway.bare;
    each_record = λ p. record_at p (same_or p);
    not_yet = λ n k x is p spoken. todo_at n k x is p spoken (same_or p);
    done = λ n k some none p spoken. done_at n k some none p spoken (same_or p)
        (same_name name n && same_key key k) refl;
  }
    where
      new_at : (p : RecId) (x : Table) → table_at (stands_of takes.reads.layout) p.page.0 ≡ Some x
          → (table_at (stands_of midway.layout) p.page.0 ≡ Some x)
          ⊎ ((q : RecId) → q.page.0 ≡ p.page.0 → midway.reading q ≡ []) → (p ≡ rec) ⊎ (p ≢ rec)
          → (table_at (stands_of first.layout) p.page.0 ≡ Some x) ⊎ ((first.reading p ≡ []) × (now_ p ≡ []))
      new_at p x now_is is (inl same) = inl (at is)
        where
          at : (table_at (stands_of midway.layout) p.page.0 ≡ Some x)
              ⊎ ((q : RecId) → q.page.0 ≡ p.page.0 → midway.reading q ≡ [])
              → table_at (stands_of first.layout) p.page.0 ≡ Some x
          at (inl there_) =
              let here_ : table_at (stands_of midway.layout) p.page.0 ≡ Some table =
              ap (λ (q : RecId). table_at (stands_of midway.layout) q.page.0) same ∙ takes.of in
              let both : Some x ≡ Some table = sym there_ ∙ here_ in
              ap (λ (q : RecId). table_at (stands_of first.layout) q.page.0) same ∙ (was_of ∙ sym both)
          at (inr none) = absurd (some_here (sym still ∙ (ap midway.reading (sym same) ∙ none p refl)))
            where
              some_here : first.reading rec ≡ [] → ⊥
              some_here empty = (subst (SpeaksFor o h f first.reading name key) takes.spoken
                  (first.versions.speaks name key)).0.some empty
      new_at p x now_is (inl there_) (inr ne) = at (midway.new p x there_)
        where
          at : (table_at (stands_of first.layout) p.page.0 ≡ Some x)
              ⊎ ((first.reading p ≡ []) × (midway.reading p ≡ []))
              → (table_at (stands_of first.layout) p.page.0 ≡ Some x)
              ⊎ ((first.reading p ≡ []) × (now_ p ≡ []))
          at (inl was) = inl was
          at (inr (none, empty)) = inr (none, takes.reads.others p ne ∙ empty)
      new_at p x now_is (inr none) (inr ne) = by (midway.each_record p)
        where
          by : (midway.reading p ≡ first.reading p)
              ⊎ IsTakenBack o h e t f first.reading midway.reading first.versions.speaker p
              → (table_at (stands_of first.layout) p.page.0 ≡ Some x)
              ⊎ ((first.reading p ≡ []) × (now_ p ≡ []))
          by (inl same) = inr (sym same ∙ none p refl, takes.reads.others p ne ∙ none p refl)
          by (inr it) =
              let there_ : table_at (stands_of takes.reads.layout) p.page.0 ≡ Some it.table =
              takes.reads.grown.stays p.page.0 it.table (midway.stays p it.table it.of) in
              inl (it.of ∙ (sym there_ ∙ now_is))

      record_at : (p : RecId) → (p ≡ rec) ⊎ (p ≢ rec) → (now_ p ≡ first.reading p)
          ⊎ IsTakenBack o h e t f first.reading now_ first.versions.speaker p
      record_at p (inl same) = inr (subst (IsTakenBack o h e t f first.reading now_ first.versions.speaker) (sym same)
          here)
      record_at p (inr ne) = at (midway.each_record p)
        where
          at : (midway.reading p ≡ first.reading p)
              ⊎ IsTakenBack o h e t f first.reading midway.reading first.versions.speaker p
              → (now_ p ≡ first.reading p) ⊎ IsTakenBack o h e t f first.reading now_ first.versions.speaker p
          at (inl same) = inl (takes.reads.others p ne ∙ same)
          at (inr it) = inr (there p ne it)

      todo_at : (n : List ℕ) (k : Value) (x : records.Change)
          → newest_at (without_key name key left) n k ≡ Some x → (p : RecId)
          → first.versions.speaker n k ≡ Some p → (p ≡ rec) ⊎ (p ≢ rec) → now_ p ≡ first.reading p
      todo_at n k x is p spoken (inl same) =
          let own_key = its_key n k (spoken ∙ ap Some same) in
          absurd (false≢true (sym (other_key n k x is)
          ∙ (ap (λ (m : List ℕ). same_name name m && same_key key k) own_key.0
          ∙ (ap (λ (j : Value). same_name name name && same_key key j) own_key.1 ∙ itself_on))))
      todo_at n k x is p spoken (inr ne) = takes.reads.others p ne
          ∙ midway.not_yet n k x (sym (else_left n k (other_key n k x is)) ∙ is) p spoken

      done_at : (n : List ℕ) (k : Value) → newest_at whole n k ≢ None
          → newest_at (without_key name key left) n k ≡ None → (p : RecId)
          → first.versions.speaker n k ≡ Some p → (p ≡ rec) ⊎ (p ≢ rec) → (b : Bool)
          → (same_name name n && same_key key k) ≡ b
          → IsTakenBack o h e t f first.reading now_ first.versions.speaker p
      done_at n k some none p spoken (inl same) b on = subst
          (IsTakenBack o h e t f first.reading now_ first.versions.speaker) (sym same) here
      done_at n k some none p spoken (inr ne) true on =
          let parts = and_parts (same_name name n) (same_key key k) on in
          let at_name : first.versions.speaker name key ≡ Some p =
          ap (λ (m : List ℕ). first.versions.speaker m key) (same_text name n (sym parts.0))
          ∙ (ap (first.versions.speaker n) (same_from_same_key key k parts.1) ∙ spoken) in
          let both : Some p ≡ Some rec = sym at_name ∙ takes.spoken in absurd (ne cc)
      done_at n k some none p spoken (inr ne) false off = there p ne
          (midway.done n k some (sym (else_left n k off) ∙ none) p spoken)

pub pages_onward : (form : Form) → ShowsOnward form
pages_onward form size o h e t whole left s begun pages later first midway name key c rec table to_take was_of
    takes = shows_onward form size o h e t whole left s begun pages later first midway name key c rec table to_take
    was_of takes
