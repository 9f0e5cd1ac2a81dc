-- What is read of pages of one layout, where cells change.
use Rattle.std.proofs.Common.{◌≡◌, inl, inr, refl, sym, ap, ◌∙◌, subst, ℕ, List, [], ◌∷◌, Option, None, Some}
use Rattle.mg_base.specs.declared.numbers.RecId.{RecId}
use Rattle.mg_base.specs.declared.transaction.TxState.{TxState}
use Rattle.mg_version.specs.declared.cell.Cell.TheVariants as cells
use Rattle.mg_version.specs.declared.cell.Link.{Link}
use Rattle.mg_version.specs.declared.cell.Version.{Version}
use Rattle.mg_rowcode.specs.Storable.{AreStorable}
use Rattle.mg_model.specs.declared.table.Table.{Table}
use Rattle.mg_image.specs.declared.entry.Entry.{Entry}
use Rattle.mg_image.specs.FactLaws.{each_has}
use Rattle.mg_image.specs.Form.{Coding, Form, Pages}
use Rattle.mg_image.specs.ReadingLaws.{Opens, RowsAreOne, chain_opens}
use Rattle.mg_image.specs.RecordRules.{Each, Facts, IsVersion, columns_for, table_in}
use Rattle.mg_image.specs.Records.{Cells, Chain, Reading, Stands, cells_of, ended, goes, newest_of, record_key}
use Rattle.mg_image.specs.Sound.{IsSoundBy, facts_by}
use Rattle.mg_image.specs.Tables.{Layout}
use Rattle.mg_image_overlay_laws.specs.tables.LayoutStays.{chain_stays}

-- A version's body codes its row.
pub record HasItsRow (coding : Coding) (table : Table) (e : Entry) : Type 0 where
  pub spelled : coding.row_spelled (columns_for table e.version.deleted) e.version.format
      e.version.body e.row
  pub storable : AreStorable e.row

same_version : (v w : Version) → Some (cells.Version v) ≡ Some (cells.Version w) → v ≡ w
same_version v w same = cc

-- two versions of one cell are one, as their rows are
one_entry : (coding : Coding) → RowsAreOne coding → (table : Table) (h : Cells) (d e : Entry)
    → d.at ≡ e.at → h d.at ≡ Some (cells.Version d.version) → h e.at ≡ Some (cells.Version e.version)
    → HasItsRow coding table d → HasItsRow coding table e → d ≡ e
one_entry coding one table h d e at is_d is_e of_d of_e =
    let version : d.version ≡ e.version =
    same_version d.version e.version (sym is_d ∙ (ap h at ∙ is_e)) in
    let row : d.row ≡ e.row = one (columns_for table e.version.deleted) e.version.format
    e.version.body d.row e.row (rw version at of_d.spelled) of_e.spelled of_d.storable
    of_e.storable in
    λ i. record { at = at i; version = version i; row = row i }

-- the versions from a link on are one list at most
pub one_chain : (coding : Coding) → RowsAreOne coding → (table : Table) (h : Cells) (l : Option Link)
    (es fs : List Entry) → Chain h l es → Chain h l fs → Each (HasItsRow coding table) es
    → Each (HasItsRow coding table) fs → es ≡ fs
one_chain coding one table h l es fs ended also each each_also = at fs (chain_opens h None fs also)
  where
    at : (fs : List Entry) → Opens h None fs → [] ≡ fs
    at [] o = refl
    at (e ∷ fs) o = absurd o
one_chain coding one table h l es fs (goes n e rest to is tx more) also each each_also =
    at fs (chain_opens h (Some n) fs also) each_also
    (λ v gs same chain all. one_chain coding one table h e.version.back rest gs more
    (rw same chain) each.1 all)
  where
    at : (fs : List Entry) → Opens h (Some n) fs → Each (HasItsRow coding table) fs
        → ((v : Version) (gs : List Entry) → e.version ≡ v → Chain h v.back gs
        → Each (HasItsRow coding table) gs → rest ≡ gs) → e ∷ rest ≡ fs
    at [] o all go = absurd o
    at (d ∷ gs) o all go =
        let same : e ≡ d = one_entry coding one table h e d (to ∙ sym o.0) is o.1 each.0 all.0 in
        let others : rest ≡ gs = go d.version gs (ap (λ (x : Entry). x.version) same) o.3 all.1 in
        λ i. same i ∷ others i

-- cells on which versions stand
pub each_standing : (P : RecId → Type 0) (es : List Entry) → ((x : RecId) → Stands es x → P x)
    → Each (λ e. P e.at) es
each_standing P [] all = tt
each_standing P (e ∷ es) all =
    (all e.at (inl refl), each_standing P es (λ x there. all x (inr there)))

-- ---- two images of one layout

module _ (form : Form) (one : RowsAreOne form.coding) (size : ℕ) (state : ℕ → TxState)
    (old new : Pages) (layout : Layout) (r s : Reading) (first : IsSoundBy form size state old layout r)
    (second : IsSoundBy form size state new layout s) where
  abbrev f : Facts
  f = facts_by state old layout

  pub rows_were : (p : RecId) (table : Table) → table_in f p ≡ Some table
      → Each (HasItsRow form.coding table) (r p)
  rows_were p table of = each_has (IsVersion form.coding f table (record_key table (r p)))
      (HasItsRow form.coding table) (λ e is. record { spelled = is.spelled; storable = is.storable }) (r p)
      (first.records.each p table of).each

  rows_are : (p : RecId) (table : Table) → table_in f p ≡ Some table
      → Each (HasItsRow form.coding table) (s p)
  rows_are p table of = each_has (IsVersion form.coding (facts_by state new layout) table
      (record_key table (s p))) (HasItsRow form.coding table)
      (λ e is. record { spelled = is.spelled; storable = is.storable }) (s p)
      (second.records.each p table of).each

  -- a record has the versions that its slot leads to
  pub read_here : (p : RecId) (table : Table) → table_in f p ≡ Some table → (es : List Entry)
      → Chain (cells_of new) (newest_of p (cells_of new p)) es → Each (HasItsRow form.coding table) es
      → s p ≡ es
  read_here p table of es chain rows = one_chain form.coding one table (cells_of new)
      (newest_of p (cells_of new p)) (s p) es (second.records.reads p table of) chain (rows_are p table of)
      rows

  -- and has what it had, where its slot leads there still, and the cells of its versions are as they were
  pub read_beside : (q : RecId) → newest_of q (cells_of new q) ≡ newest_of q (cells_of old q)
      → ((x : RecId) → Stands (r q) x → cells_of new x ≡ cells_of old x) → s q ≡ r q
  read_beside q leads same = at (table_in f q) refl
    where
      at : (t : Option Table) → table_in f q ≡ t → s q ≡ r q
      at None none = second.records.outside q none ∙ sym (first.records.outside q none)
      at (Some table) of = read_here q table of (r q)
          (subst (λ (l : Option Link). Chain (cells_of new) l (r q)) (sym leads)
          (chain_stays (cells_of old) (cells_of new) (newest_of q (cells_of old q)) (r q)
          (first.records.reads q table of)
          (each_standing (λ x. cells_of new x ≡ cells_of old x) (r q) same))) (rows_were q table of)
