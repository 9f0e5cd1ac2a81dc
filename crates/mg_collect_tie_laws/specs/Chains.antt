-- What stands right behind a version of a record, in each reading of the cells.
use Rattle.std.proofs.Common.{◌≡◌, ◌≢◌, ◌⊎◌, inl, inr, ap, sym, subst, refl, ◌∙◌, true, false, List, [], ◌∷◌, Option, None, Some}
use Rattle.mg_base.specs.declared.numbers.RecId.{RecId}
use Rattle.mg_value.specs.declared.value.Value.{Value}
use Rattle.mg_image.specs.Form.{Coding}
use Rattle.mg_image.specs.ReadingLaws.{Opens, chain_opens}
use Rattle.mg_image.specs.RecordRules.{AreOnce, Each, Facts, IsVersion, table_in}
use Rattle.mg_image.specs.Records.{Cells, Chain, Stands, ended, goes}
use Rattle.mg_image.specs.StepLaws.{cases_place, same_place}
use Rattle.mg_image.specs.declared.entry.Entry.{Entry}
use Rattle.mg_image_overlay_laws.specs.records.Skips.{IsCommittedAt, LeadsInto, before, behind}
use Rattle.mg_model.specs.declared.table.Table.{Table}
use Rattle.mg_version.specs.declared.cell.Cell.TheVariants as cells
use Rattle.mg_version.specs.declared.cell.Link.{Link}
use Rattle.mg_version.specs.declared.cell.Version.{Version}

-- Behind the version at a place stands another one, and behind that what it leads to.
pub record IsNext (h : Cells) (x y : RecId) (w : Version) (es : List Entry) : Type 0 where
  pub next : Entry
  pub rest : List Entry
  pub is : behind x es ≡ next ∷ rest
  pub at : next.at ≡ y
  pub version : next.version ≡ w
  pub chain : Chain h w.back rest
  pub apart : next.at ≢ x
  pub once : Stands rest next.at → ⊥

-- ---- places

pub same_self : (a b : RecId) → a ≡ b → same_place a b ≡ true
same_self a b e = by (cases_place a b)
  where
    by : ((a ≡ b) × (same_place a b ≡ true)) ⊎ ((a ≢ b) × (same_place a b ≡ false)) → same_place a b ≡ true
    by (inl (eq, is)) = is
    by (inr (ne, is)) = absurd (ne e)

pub other_place : (a b : RecId) → a ≢ b → same_place a b ≡ false
other_place a b ne = by (cases_place a b)
  where
    by : ((a ≡ b) × (same_place a b ≡ true)) ⊎ ((a ≢ b) × (same_place a b ≡ false)) → same_place a b ≡ false
    by (inl (eq, is)) = absurd (ne eq)
    by (inr (apart, is)) = is

pub place_is : (a b : RecId) → same_place a b ≡ true → a ≡ b
place_is a b same = by (cases_place a b)
  where
    by : ((a ≡ b) × (same_place a b ≡ true)) ⊎ ((a ≢ b) × (same_place a b ≡ false)) → a ≡ b
    by (inl (eq, is)) = eq
    by (inr (ne, is)) = let both : true ≡ false = sym same ∙ is in absurd cc

-- each version of a record stands on a page of its table
pub each_placed : (coding : Coding) (f : Facts) (table : Table) (key : Value) (es : List Entry) (y : RecId)
    → Each (IsVersion coding f table key) es → Stands es y → table_in f y ≡ Some table
each_placed coding f table key [] y each stands = absurd stands
each_placed coding f table key (e ∷ es) y each (inl at) =
    subst (λ (q : RecId). table_in f q ≡ Some table) at each.0.placed
each_placed coding f table key (e ∷ es) y each (inr more) = each_placed coding f table key es y each.1 more

-- ---- the chain

same_version : (v w : Version) → Some (cells.Version v) ≡ Some (cells.Version w) → v ≡ w
same_version v w same = cc

module _ (f : Facts) (h : Cells) (x : RecId) (v w : Version) (gone : Link)
    (was : h x ≡ Some (cells.Version v)) (back : v.back ≡ Some gone)
    (there : h gone.rec ≡ Some (cells.Version w)) where
  next_here : (e : Entry) (es : List Entry) → e.at ≡ x → h e.at ≡ Some (cells.Version e.version)
      → Chain h e.version.back es → AreOnce (e ∷ es) → IsNext h x gone.rec w (e ∷ es)
  next_here e es at is more once =
      by es (chain_opens h (Some gone) es (subst (λ (l : Option Link). Chain h l es) leads more)) once
    where
      leads : e.version.back ≡ Some gone
      leads = ap (λ (u : Version). u.back) (same_version e.version v (sym is ∙ (ap h at ∙ was))) ∙ back

      by : (fs : List Entry) → Opens h (Some gone) fs → AreOnce (e ∷ fs) → IsNext h x gone.rec w (e ∷ fs)
      by [] opens once_ = absurd opens
      by (d ∷ ds) opens once_ = record {
        next = d;
        rest = ds;
        is = rw (same_self e.at x at) refl;
        at = opens.0;
        version = version_is;
        chain = subst (λ (u : Version). Chain h u.back ds) version_is opens.3;
        apart = λ same. once_.0 (inl (same ∙ sym at));
        once = once_.1.0;
      }
        where
          version_is : d.version ≡ w
          version_is = same_version d.version w (sym opens.1 ∙ (ap h opens.0 ∙ there))

  pub next_of : (l : Option Link) (es : List Entry) → Chain h l es → AreOnce es → IsCommittedAt f x es
      → IsNext h x gone.rec w es
  next_of l es ended once is = absurd is
  next_of l es (goes m e fs at cell tx more) once is =
      by (cases_place e.at x) is (λ further. next_of e.version.back fs more once.1 further)
    where
      by : ((e.at ≡ x) × (same_place e.at x ≡ true)) ⊎ ((e.at ≢ x) × (same_place e.at x ≡ false))
          → IsCommittedAt f x (e ∷ fs) → (IsCommittedAt f x fs → IsNext h x gone.rec w fs)
          → IsNext h x gone.rec w (e ∷ fs)
      by (inl (same, here)) is_ later = next_here e fs same cell more once
      by (inr (ne, here)) (inl at_it) later = absurd (ne at_it.0)
      by (inr (ne, here)) (inr further) later = let it = later further in record {
        next = it.next;
        rest = it.rest;
        is = rw here it.is;
        at = it.at;
        version = it.version;
        chain = it.chain;
        apart = it.apart;
        once = it.once;
      }

-- ---- what it leads to

module _ (h : Cells) (x y : RecId) (w : Version) (es : List Entry) (it : IsNext h x y w es) where
  pub next_stands : Stands (behind x es) y
  next_stands = subst (λ (fs : List Entry). Stands fs y) (sym it.is) (inl it.at)

  pub next_leads : LeadsInto w.back (behind x es)
  next_leads = subst (LeadsInto w.back) (sym it.is)
      (by w.back it.rest (chain_opens h w.back it.rest it.chain))
    where
      by : (b : Option Link) (rest : List Entry) → Opens h b rest → LeadsInto b (it.next ∷ rest)
      by None rest opens = tt
      by (Some l) [] opens = absurd opens
      by (Some l) (d ∷ ds) opens = inr (inl (opens.0, opens.2))

  pub next_before : Stands (before w.back (behind x es)) y
  next_before = subst (λ (fs : List Entry). Stands (before w.back fs) y) (sym it.is)
      (by w.back it.rest (chain_opens h w.back it.rest it.chain) it.once)
    where
      by : (b : Option Link) (rest : List Entry) → Opens h b rest → (Stands rest it.next.at → ⊥)
          → Stands (before b (it.next ∷ rest)) y
      by None rest opens once = inl it.at
      by (Some l) [] opens once = absurd opens
      by (Some l) (d ∷ ds) opens once =
          rw (other_place it.next.at l.rec (λ same. once (inl (opens.0 ∙ sym same)))) (inl it.at)
