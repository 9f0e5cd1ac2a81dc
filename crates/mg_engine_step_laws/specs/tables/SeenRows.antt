-- Of which record of the catalog a row is that a transaction sees.
use Rattle.std.proofs.Common.{◌≡◌, inl, inr, refl, sym, ap, ◌∙◌, subst, Bool, true, false, List, [], ◌∷◌, Option, None, Some, cond, ℕ}
use Rattle.mg_base.specs.declared.numbers.RecId.{RecId}
use Rattle.mg_base.specs.declared.numbers.TxNo.{TxNo}
use Rattle.mg_base.specs.declared.transaction.TxState.{TxState}
use Rattle.mg_value.specs.declared.value.Value.{Value}
use Rattle.mg_model.specs.declared.table.Table.{Table}
use Rattle.mg_model.specs.CatalogRules.{EachTable, IsTable}
use Rattle.mg_model.specs.Catalog.{CatalogRows}
use Rattle.mg_model.specs.Changes.{same_key}
use Rattle.mg_catalog.specs.ByKey.{by_key, row_key}
use Rattle.mg_catalog.specs.KeyLaws.{keys_equal}
use Rattle.mg_snap.specs.Live.{State}
use Rattle.mg_image.specs.Form.{Pages, Row}
use Rattle.mg_seek.specs.TableRecords.{IsAmong}
use Rattle.mg_seek.specs.TableRows.{AreSeen, FindsNamed, with_row}
use Rattle.mg_seek.specs.Views.{IsRowSeen}

module _ (state : ℕ → TxState) (live : State) (t : TxNo) (pages : Pages) (cat : Table) where
  -- A row is that of one of some records, with this key.
  pub record IsRowOf (recs : List RecId) (key : Value) (row : Row) : Type 0 where
    pub rec : RecId
    pub among : IsAmong recs rec
    pub seen : IsRowSeen state live t pages cat rec (Some row)
    pub keyed : row_key row ≡ key

  -- the row with a key among those that are seen
  pub row_found : (recs : List RecId) (rows : List Row) (key : Value) (row : Row)
      → AreSeen state live t pages cat recs rows → by_key rows key ≡ Some row
      → IsRowOf recs key row
  row_found [] rows key row seen is =
      let none : None ≡ Some row = ap (λ (xs : List Row). by_key xs key) (sym seen) ∙ is in absurd cc
  row_found (rec ∷ recs) rows key row (found, later, here, rest, are) is =
      at found here (subst (λ (xs : List Row). by_key xs key ≡ Some row) are is)
      (λ more. row_found recs later key row rest more)
    where
      further : IsRowOf recs key row → IsRowOf (rec ∷ recs) key row
      further it = record { rec = it.rec; among = inr it.among; seen = it.seen; keyed = it.keyed }

      at : (x : Option Row) → IsRowSeen state live t pages cat rec x
          → by_key (with_row x later) key ≡ Some row
          → (by_key later key ≡ Some row → IsRowOf recs key row) → IsRowOf (rec ∷ recs) key row
      at None seen_ is_ more = further (more is_)
      at (Some first) seen_ is_ more = by (same_key (row_key first) key) refl is_
        where
          by : (b : Bool) → same_key (row_key first) key ≡ b
              → cond b (Some first) (by_key later key) ≡ Some row → IsRowOf (rec ∷ recs) key row
          by true same some =
              let it : first ≡ row = cc in
              record {
                rec = rec;
                among = inl refl;
                seen = subst (λ (x : Row). IsRowSeen state live t pages cat rec (Some x)) it seen_;
                keyed = ap row_key (sym it) ∙ keys_equal (row_key first) key same;
              }
          by false other some = further (more some)

-- the table that is found is one of those that the rows name, and has the name
pub named_is : (rows : CatalogRows) (ts : List Table) (name : List ℕ) (table : Table)
    → EachTable (IsTable rows) ts → FindsNamed ts name (Some table)
    → (table.name ≡ name) × IsTable rows table
named_is rows [] name table each finds = absurd cc
named_is rows (first ∷ ts) name table each (inl (same, is)) =
    let it : first ≡ table = cc in
    (ap (λ (x : Table). x.name) (sym it) ∙ same, subst (IsTable rows) it each.0)
named_is rows (first ∷ ts) name table each (inr (other, later)) =
    named_is rows ts name table each.1 later
