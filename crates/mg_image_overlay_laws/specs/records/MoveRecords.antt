-- The slot of a record comes to lead to another version of the same transaction, in place of its newest
-- one: what is read of the records then.
use Rattle.std.proofs.Common.{◌≡◌, ◌≢◌, ◌⊎◌, inl, inr, refl, sym, ap, ◌∙◌, subst, false, List, [], ◌∷◌, None, Some}
use Rattle.mg_base.specs.declared.numbers.RecId.{RecId}
use Rattle.mg_base.specs.declared.transaction.TxState.TheVariants.{Committed, Dead, Limbo}
use Rattle.mg_value.specs.declared.value.Value.{Value}
use Rattle.mg_version.specs.declared.cell.Cell.TheVariants as cells
use Rattle.mg_version.specs.declared.cell.Link.{Link}
use Rattle.mg_version.specs.declared.cell.Version.{Version}
use Rattle.mg_model.specs.declared.table.Table.{Table}
use Rattle.mg_image.specs.Form.{Coding}
use Rattle.mg_image.specs.RecordRules.{AreOnce, AreRecords, Each, Facts, IsRecord, IsVersion, TakesKey, committed_in, table_in}
use Rattle.mg_image.specs.Records.{Cells, Chain, Changes, Reading, Stands, goes, key_of, record_key, shown, writer}
use Rattle.mg_image.specs.StepLaws.{put_reading}
use Rattle.mg_image.specs.declared.entry.Entry.{Entry}
use Rattle.mg_image_overlay_laws.specs.records.Fronts.{living}
use Rattle.mg_image_overlay_laws.specs.records.Relink.{relink_sound}
use Rattle.mg_image_overlay_laws.specs.records.Overwrite.{not_committed}

-- What is known: the record's newest version d and those behind it, the new version n in its cell, and
-- which versions lie behind that: the same, under one key, or none any more, where its writer is dead.
pub record Moves (coding : Coding) (g : Facts) (old new : Cells) (s : Reading) (p : RecId)
    (table : Table) (l link : Link) (n d : Entry) (ds es : List Entry) : Type 0 where
  pub of : table_in g p ≡ Some table
  pub first : s p ≡ d ∷ ds
  pub slot : old p ≡ Some (cells.Anchor l)
  pub change : Changes old new p (Some (cells.Anchor link))
  pub cell : old n.at ≡ Some (cells.Version n.version)
  pub leads : (n.at ≡ link.rec) × (n.version.tx ≡ link.tx)
  pub chain : Chain new n.version.back es
  pub writers : writer n ≡ writer d
  pub open_ : g.state (writer n) ≢ Committed
  pub unread : (q : RecId) → Stands (s q) n.at → ⊥
  pub lawful : IsVersion coding g table (key_of table n.row) n
  pub behind : ((es ≡ ds) × (key_of table n.row ≡ record_key table (s p)))
      ⊎ ((es ≡ []) × (g.state (writer n) ≡ Dead))

module _ (coding : Coding) (g : Facts) (old new : Cells) (s : Reading) (p : RecId) (table : Table)
    (l link : Link) (n d : Entry) (ds es : List Entry) (are : AreRecords coding g old s)
    (moves : Moves coding g old new s p table l link n d ds es) where
  record_ : IsRecord coding g table (d ∷ ds)
  record_ = subst (IsRecord coding g table) moves.first (are.each p table moves.of)

  no_version : (w : Version) → old p ≢ Some (cells.Version w)
  no_version w is =
      let both : Some (cells.Anchor l) ≡ Some (cells.Version w) = sym moves.slot ∙ is in absurd cc

  not_slot : n.at ≢ p
  not_slot same = no_version n.version (ap old (sym same) ∙ moves.cell)

  pub move_settled : Each (λ e. g.state (writer e) ≡ Committed) es
  move_settled = at moves.behind
    where
      at : ((es ≡ ds) × (key_of table n.row ≡ record_key table (s p)))
          ⊎ ((es ≡ []) × (g.state (writer n) ≡ Dead)) → Each (λ e. g.state (writer e) ≡ Committed) es
      at (inl (same, keyed)) = subst (Each (λ e. g.state (writer e) ≡ Committed)) (sym same) record_.backs
      at (inr (none, dead)) = subst (Each (λ e. g.state (writer e) ≡ Committed)) (sym none) tt

  within : (y : RecId) → Stands es y → Stands (s p) y
  within y there = at moves.behind
    where
      at : ((es ≡ ds) × (key_of table n.row ≡ record_key table (s p)))
          ⊎ ((es ≡ []) × (g.state (writer n) ≡ Dead)) → Stands (s p) y
      at (inl (same, keyed)) = subst (λ (fs : List Entry). Stands fs y) (sym moves.first)
          (inr (subst (λ (fs : List Entry). Stands fs y) same there))
      at (inr (none, dead)) = absurd (subst (λ (fs : List Entry). Stands fs y) none there)

  lawful_now : IsRecord coding g table (n ∷ es)
  lawful_now = record {
    once = ((λ there. moves.unread p (within n.at there)), once);
    each = (moves.lawful, each);
    backs = move_settled;
  }
    where
      once : AreOnce es
      once = at moves.behind
        where
          at : ((es ≡ ds) × (key_of table n.row ≡ record_key table (s p)))
              ⊎ ((es ≡ []) × (g.state (writer n) ≡ Dead)) → AreOnce es
          at (inl (same, keyed)) = subst AreOnce (sym same) record_.once.1
          at (inr (none, dead)) = subst AreOnce (sym none) tt

      each : Each (IsVersion coding g table (key_of table n.row)) es
      each = at moves.behind
        where
          at : ((es ≡ ds) × (key_of table n.row ≡ record_key table (s p)))
              ⊎ ((es ≡ []) × (g.state (writer n) ≡ Dead))
              → Each (IsVersion coding g table (key_of table n.row)) es
          at (inl (same, keyed)) =
              subst (λ (k : Value). Each (IsVersion coding g table k) es)
              (sym (keyed ∙ ap (record_key table) moves.first))
              (subst (Each (IsVersion coding g table (record_key table (d ∷ ds)))) (sym same)
              record_.each.1)
          at (inr (none, dead)) =
              subst (Each (IsVersion coding g table (key_of table n.row))) (sym none) tt

  -- what is shown is shown still, but for versions that go
  off : committed_in g (writer n) ≡ false
  off = not_committed (g.state (writer n)) moves.open_

  shown_now : shown (committed_in g) (n ∷ es) ≡ shown (committed_in g) es
  shown_now = rw off refl

  shown_was : shown (committed_in g) (s p) ≡ shown (committed_in g) ds
  shown_was =
      let was_off : committed_in g (writer d) ≡ false = ap (committed_in g) (sym moves.writers) ∙ off in
      let dropped : shown (committed_in g) (d ∷ ds) ≡ shown (committed_in g) ds = rw was_off refl in
      ap (shown (committed_in g)) moves.first ∙ dropped

  taken : TakesKey g (n ∷ es) → TakesKey g (s p) × (record_key table (n ∷ es) ≡ record_key table (s p))
  taken takes = at moves.behind
    where
      was_limbo : g.state (writer n) ≡ Limbo → TakesKey g (s p)
      was_limbo limbo = subst (TakesKey g) (sym moves.first)
          (inr (ap g.state (sym moves.writers) ∙ limbo))

      same_taken : es ≡ ds → TakesKey g (n ∷ es) → TakesKey g (s p)
      same_taken same (inl (row, shows)) =
          inl (row, shown_was ∙ (ap (shown (committed_in g)) (sym same) ∙ (sym shown_now ∙ shows)))
      same_taken same (inr limbo) = was_limbo limbo

      none_taken : es ≡ [] → g.state (writer n) ≡ Dead → TakesKey g (n ∷ es) → ⊥
      none_taken none dead (inl (row, shows)) =
          let nothing : None ≡ Some row =
          sym (shown_now ∙ ap (shown (committed_in g)) none) ∙ shows in absurd cc
      none_taken none dead (inr limbo) = let both : Dead ≡ Limbo = sym dead ∙ limbo in absurd cc

      at : ((es ≡ ds) × (key_of table n.row ≡ record_key table (s p)))
          ⊎ ((es ≡ []) × (g.state (writer n) ≡ Dead))
          → TakesKey g (s p) × (record_key table (n ∷ es) ≡ record_key table (s p))
      at (inl (same, keyed)) = (same_taken same takes, keyed)
      at (inr (none, dead)) = absurd (none_taken none dead takes)

  pub move_sound : AreRecords coding g new (put_reading s p (n ∷ es))
  move_sound = relink_sound coding g old new s p table (Some (cells.Anchor link)) (n ∷ es) are (record {
    of_table = moves.of;
    slot = no_version;
    change = moves.change;
    reads = goes link n es moves.leads.0 (moves.change.others n.at not_slot ∙ moves.cell) moves.leads.1
        moves.chain;
    lawful = lawful_now;
    apart = λ q y ne there also. apart q y ne there also;
    keys = taken;
  })
    where
      apart : (q y : RecId) → q ≢ p → Stands (n ∷ es) y → Stands (s q) y → ⊥
      apart q y ne (inl at) also = moves.unread q (subst (Stands (s q)) (sym at) also)
      apart q y ne (inr there) also = ne (are.apart q p y also (within y there))

  -- where the writer counts as dead those behind count, as they did
  pub move_living : g.state (writer n) ≡ Dead → living g.state (n ∷ es) ≡ es
  move_living dead = rw dead refl

  pub was_living : g.state (writer n) ≡ Dead → living g.state (s p) ≡ ds
  was_living dead =
      let dead_d : g.state (writer d) ≡ Dead = ap g.state (sym moves.writers) ∙ dead in
      ap (living g.state) moves.first ∙ rw dead_d refl
