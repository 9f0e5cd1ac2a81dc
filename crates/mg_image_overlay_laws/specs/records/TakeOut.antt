-- The slot of a record comes to lead past its newest version, or nowhere: what is read of the records
-- then.
use Rattle.std.proofs.Common.{◌≡◌, ◌≢◌, inl, inr, refl, sym, ap, ◌∙◌, subst, ℕ, false, List, [], ◌∷◌, Option, None, Some}
use Rattle.mg_base.specs.declared.numbers.RecId.{RecId}
use Rattle.mg_base.specs.declared.transaction.TxState.{TxState}
use Rattle.mg_base.specs.declared.transaction.TxState.TheVariants.{Committed, Dead, Limbo}
use Rattle.mg_value.specs.declared.value.Value.{Value}
use Rattle.mg_version.specs.declared.cell.Cell.{Cell}
use Rattle.mg_version.specs.declared.cell.Cell.TheVariants as cells
use Rattle.mg_version.specs.declared.cell.Link.{Link}
use Rattle.mg_version.specs.declared.cell.Version.{Version}
use Rattle.mg_model.specs.declared.table.Table.{Table}
use Rattle.mg_image.specs.Form.{Coding}
use Rattle.mg_image.specs.RecordRules.{AreOnce, AreRecords, Each, Facts, IsRecord, IsVersion, TakesKey, committed_in, table_in}
use Rattle.mg_image.specs.Records.{Cells, Chain, Changes, Reading, Stands, ended, newest_of, record_key, shown, writer}
use Rattle.mg_image.specs.StepLaws.{put_reading, unread_sound}
use Rattle.mg_image.specs.declared.entry.Entry.{Entry}
use Rattle.mg_image_overlay_laws.specs.records.Skips.{chain_cell, reads_none}
use Rattle.mg_image_overlay_laws.specs.records.Fronts.{living}
use Rattle.mg_image_overlay_laws.specs.records.Relink.{relink_sound}
use Rattle.mg_image_overlay_laws.specs.records.Overwrite.{leads_none, not_committed}

-- the cell of a slot that leads where a version leads on to: none where there is nothing behind it
abbrev pub back_cell : Option Link → Option Cell
back_cell None = None
back_cell (Some link) = Some (cells.Anchor link)

pub back_leads : (p : RecId) (back : Option Link) → newest_of p (back_cell back) ≡ back
back_leads p None = refl
back_leads p (Some link) = refl

-- committed versions all count
pub living_settled : (state : ℕ → TxState) (es : List Entry)
    → Each (λ e. state (writer e) ≡ Committed) es → living state es ≡ es
living_settled state [] all = refl
living_settled state (e ∷ es) all = let committed : state (writer e) ≡ Committed = all.0 in
    rw committed refl

-- a slot that leads somewhere holds no version, so no chain comes to it
pub slot_off : (h : Cells) (p : RecId) (m : Link) → h p ≡ Some (cells.Anchor m) → (l : Option Link)
    (es : List Entry) → Chain h l es → Stands es p → ⊥
slot_off h p m slot l es chain there = at (chain_cell h l es p chain there)
  where
    at : (w : Version) × (h p ≡ Some (cells.Version w)) → ⊥
    at (w, is) = let both : Some (cells.Anchor m) ≡ Some (cells.Version w) = sym slot ∙ is in absurd cc

module _ (coding : Coding) (f : Facts) (old new : Cells) (s : Reading) (p : RecId) (table : Table)
    (l : Link) (cell : Option Cell) (are : AreRecords coding f old s) (of : table_in f p ≡ Some table)
    (slot : old p ≡ Some (cells.Anchor l)) (change : Changes old new p cell) where
  no_version : (w : Version) → old p ≢ Some (cells.Version w)
  no_version w is =
      let both : Some (cells.Anchor l) ≡ Some (cells.Version w) = sym slot ∙ is in absurd cc

  -- past its newest version, which is not committed
  module _ (d : Entry) (rest : List Entry) (first : s p ≡ d ∷ rest)
      (open_ : f.state (writer d) ≢ Committed) (leads : Chain new (newest_of p cell) rest) where
    record_ : IsRecord coding f table (d ∷ rest)
    record_ = subst (IsRecord coding f table) first (are.each p table of)

    settled : Each (λ e. f.state (writer e) ≡ Committed) rest
    settled = record_.backs

    lawful : (es : List Entry) → AreOnce es → Each (IsVersion coding f table (record_key table (d ∷ rest))) es
        → Each (λ e. f.state (writer e) ≡ Committed) es → IsRecord coding f table es
    lawful [] once each all = record { once = tt; each = tt; backs = tt }
    lawful (e ∷ es) once each all = record {
      once = once;
      each = subst (λ (k : Value). Each (IsVersion coding f table k) (e ∷ es)) (sym each.0.keyed) each;
      backs = all.1;
    }

    was_taken : (es : List Entry) → Each (IsVersion coding f table (record_key table (d ∷ rest))) es
        → Each (λ e. f.state (writer e) ≡ Committed) es
        → shown (committed_in f) es ≡ shown (committed_in f) (s p) → TakesKey f es
        → TakesKey f (s p) × (record_key table es ≡ record_key table (d ∷ rest))
    was_taken [] each all same (inl (row, shows)) = absurd cc
    was_taken [] each all same (inr none) = absurd none
    was_taken (e ∷ es) each all same (inl (row, shows)) = (inl (row, sym same ∙ shows), each.0.keyed)
    was_taken (e ∷ es) each all same (inr limbo) =
        let both : Committed ≡ Limbo = sym all.0 ∙ limbo in absurd cc

    same_shown : shown (committed_in f) rest ≡ shown (committed_in f) (s p)
    same_shown =
        let off : committed_in f (writer d) ≡ false = not_committed (f.state (writer d)) open_ in
        let dropped : shown (committed_in f) (d ∷ rest) ≡ shown (committed_in f) rest = rw off refl in
        sym dropped ∙ ap (shown (committed_in f)) (sym first)

    pub drop_sound : AreRecords coding f new (put_reading s p rest)
    drop_sound = relink_sound coding f old new s p table cell rest are (record {
      of_table = of;
      slot = no_version;
      change = change;
      reads = leads;
      lawful = lawful rest record_.once.1 record_.each.1 settled;
      apart = λ q y ne there also. ne (are.apart q p y also
          (subst (λ (fs : List Entry). Stands fs y) (sym first) (inr there)));
      keys = λ takes.
          let both = was_taken rest record_.each.1 settled same_shown takes in
          (both.0, both.1 ∙ ap (record_key table) (sym first));
    })

    -- where its transaction counts as dead, the same versions count
    pub drop_living : f.state (writer d) ≡ Dead → living f.state rest ≡ living f.state (s p)
    drop_living dead =
        let dropped : living f.state (d ∷ rest) ≡ rest = rw dead refl in
        living_settled f.state rest settled ∙ (sym dropped ∙ ap (living f.state) (sym first))

  -- nowhere: the record is gone
  pub clear_sound : newest_of p cell ≡ None → AreRecords coding f new (put_reading s p [])
  clear_sound none = relink_sound coding f old new s p table cell [] are (record {
    of_table = of;
    slot = no_version;
    change = change;
    reads = subst (λ (k : Option Link). Chain new k []) (sym none) ended;
    lawful = record { once = tt; each = tt; backs = tt };
    apart = λ q y ne there also. there;
    keys = λ takes. absurd (takes_none takes);
  })
    where
      takes_none : TakesKey f [] → ⊥
      takes_none (inl (row, shows)) = absurd cc
      takes_none (inr none_) = none_

-- a version that no record reads any longer is freed
pub free_sound : (coding : Coding) (f : Facts) (old new : Cells) (r : Reading) (x : RecId) (v : Version)
    → AreRecords coding f old r → old x ≡ Some (cells.Version v) → v.primary ≡ false
    → Changes old new x None → ((q : RecId) → Stands (r q) x → ⊥) → AreRecords coding f new r
free_sound coding f old new r x v are was apart freed unread =
    unread_sound coding f old new r x None are freed unread empty refl
  where
    by : (t : Option Table) → table_in f x ≡ t → r x ≡ []
    by None out = are.outside x out
    by (Some table) of = reads_none old (r x) (subst (λ (k : Option Link). Chain old k (r x))
        (ap (newest_of x) was ∙ leads_none x v apart) (are.reads x table of))

    empty : r x ≡ []
    empty = by (table_in f x) refl
