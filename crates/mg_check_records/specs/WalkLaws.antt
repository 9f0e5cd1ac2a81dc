-- A walk to the end of a chain comes over the versions of a record.
use Rattle.std.specs.Prelude.{◌≡◌, ◌⊎◌, ◌==◌, ◌&&◌, ◌||◌, ℕ, Bool, true, false, List, [], ◌∷◌, Option, None, Some}
use Rattle.std.proofs.Common.{refl, sym, ap, ◌∙◌, inl, inr, subst}
use Rattle.std.proofs.lemmas.Bool.{eq-eqb}
use Rattle.mg_base.specs.declared.numbers.RecId.{RecId}
use Rattle.mg_check_records.specs.Walks.{IsStoredAs, IsWalk, Meets, Met, and_met, is_place}
use Rattle.mg_check_records.specs.Walks.{ended, goes, stopped}
use Rattle.mg_findings.specs.declared.finding.Finding.{Finding}
use Rattle.mg_image.specs.declared.entry.Entry.{Entry}
use Rattle.mg_image.specs.RecordRules.{AreOnce, Each}
use Rattle.mg_image.specs.Records.{Cells, Chain, Stands}
use Rattle.mg_image.specs.Records as chains
use Rattle.mg_image.specs.Tables.{Has}
use Rattle.mg_model.specs.declared.table.Table.{Table}
use Rattle.mg_version.specs.declared.cell.Cell.TheVariants as cells
use Rattle.mg_version.specs.declared.cell.Link.{Link}

-- a version stands on one of these data pages, and is stored as its table wants it
abbrev pub IsStoredOn : Table → List ℕ → Entry → Type 0
IsStoredOn table ns e = Has ns e.at.page.0 × IsStoredAs table e.version e.row

-- a version's cell was not met
abbrev pub IsFresh : Met → Entry → Type 0
IsFresh met e = met e.at ≡ false

-- a walk comes over versions that are stored as their table wants it, that were not met before, and
-- none of which stands twice; to the end of a chain it comes over all of it
pub record IsOverRecord (h : Cells) (table : Table) (ns : List ℕ) (met : Met) (next : Option Link)
    (es : List Entry) (end : Option Finding) : Type 0 where
  pub chain : end ≡ None → Chain h next es
  pub stored : Each (IsStoredOn table ns) es
  pub fresh : Each (IsFresh met) es
  pub once : AreOnce es

abbrev pub WalkLaw : Type 0
WalkLaw = (h : Cells) (table : Table) (ns : List ℕ) (met : Met) (holder : RecId)
    (next : Option Link) (es : List Entry) (end : Option Finding)
    → IsWalk h table ns met holder next es end → IsOverRecord h table ns met next es end

-- ---- one version more

not_both : (a b : Bool) → (a || b) ≡ false → (a ≡ false) × (b ≡ false)
not_both true b is = absurd cc
not_both false b is = (refl, is)

-- those that were not met when one more was, were not met
fresh_before : (x : RecId) (met : Met) (es : List Entry) → Each (IsFresh (and_met x met)) es
    → Each (IsFresh met) es
fresh_before x met [] each = tt
fresh_before x met (e ∷ es) each =
    ((not_both (is_place x e.at) (met e.at) each.0).1, fresh_before x met es each.1)

place_itself : (x y : RecId) → y ≡ x → is_place x y ≡ true
place_itself x y same = rw (
  eq-eqb x.page.0 y.page.0 (ap (λ (z : RecId). z.page.0) (sym same)),
  eq-eqb x.slot y.slot (ap (λ (z : RecId). z.slot) (sym same)),
) refl

-- and none of them is that one
apart_from : (x : RecId) (met : Met) (es : List Entry) → Each (IsFresh (and_met x met)) es
    → Stands es x → ⊥
apart_from x met [] each stands = stands
apart_from x met (e ∷ es) each (inl same) = absurd
    (let both = sym (not_both (is_place x e.at) (met e.at) each.0).0 ∙ place_itself x e.at same in cc)
apart_from x met (e ∷ es) each (inr later) = apart_from x met es each.1 later

over_more : (h : Cells) (table : Table) (ns : List ℕ) (met : Met) (l : Link) (e : Entry)
    (es : List Entry) (end : Option Finding) → e.at ≡ l.rec → Meets h ns l e.version
    → met l.rec ≡ false → IsStoredAs table e.version e.row
    → IsOverRecord h table ns (and_met e.at met) e.version.back es end
    → IsOverRecord h table ns met (Some l) (e ∷ es) end
over_more h table ns met l e es end at meets fresh stored rest = record {
  chain = λ none. chains.goes l e es at
      (ap h at ∙ meets.cell) meets.tx (rest.chain none);
  stored = ((subst (λ (x : RecId). Has ns x.page.0) (sym at) meets.placed, stored), rest.stored);
  fresh = (subst (λ (x : RecId). met x ≡ false) (sym at) fresh, fresh_before e.at met es rest.fresh);
  once = (apart_from e.at met es rest.fresh, rest.once);
}

pub walk_law : WalkLaw
walk_law h table ns met holder next es end (ended _ _) = record {
  chain = λ none. chains.ended;
  stored = tt;
  fresh = tt;
  once = tt;
}
walk_law h table ns met holder next es end (stopped _ _ l f stop) = record {
  chain = λ none. absurd cc;
  stored = tt;
  fresh = tt;
  once = tt;
}
walk_law h table ns met holder next es end (goes _ _ l e later _ at meets fresh stored walk) =
    over_more h table ns met l e later end at meets fresh stored
    (walk_law h table ns (and_met e.at met) e.at e.version.back later end walk)
