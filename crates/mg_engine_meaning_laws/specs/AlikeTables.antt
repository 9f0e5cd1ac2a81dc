-- Which versions the records of an image have depends on a table's name and shape alone.
use Rattle.std.proofs.Common.{◌≡◌, inl, inr, ap, refl, sym, subst, ◌∙◌, ℕ, List, [], ◌∷◌, Option, None, Some}
use Rattle.std.specs.Prelude.{if◌then◌else◌, map}
use Rattle.std.specs.Str.{bytes_eq}
use Rattle.std.proofs.Math.Path.{fun_ext}
use Rattle.mg_base.specs.declared.numbers.RecId.{RecId}
use Rattle.mg_base.specs.declared.transaction.TxState.{TxState}
use Rattle.mg_value.specs.declared.shape.Shape.{Shape}
use Rattle.mg_value.specs.declared.value.Value.{Value}
use Rattle.mg_model.specs.declared.opening.Opening.{Opening}
use Rattle.mg_model.specs.declared.table.Table.{Table}
use Rattle.mg_model.specs.Catalog.{catalog_name, told_cells}
use Rattle.mg_model.specs.History.{Entries}
use Rattle.mg_generation_laws.specs.Generations.{Generation, generation}
use Rattle.mg_generation_laws.specs.Kept.{IsErasedForAll, StandFor}
use Rattle.mg_image.specs.declared.entry.Entry.{Entry}
use Rattle.mg_image.specs.Catalog.{IsSameTable}
use Rattle.mg_image.specs.RecordRules.{Facts, table_in}
use Rattle.mg_image.specs.Records.{Reading, key_of, record_key, writer}
use Rattle.mg_image_overlay_laws.specs.records.Fronts.{living}
use Rattle.mg_seek.specs.Histories.{told_versions}
use Rattle.mg_engine_step_laws.specs.standing.Versions.{HaveVersions, SpeaksFor, SpeaksOrSilent, told_version}
use Rattle.mg_engine_meaning_laws.specs.Falling.{HasAlike}

told_same : (x y : Table) → IsSameTable x y → (e : Entry) → told_version x e ≡ told_version y e
told_same x y same e = ap (λ (n : List ℕ). generation (writer e) (if e.version.deleted then None
    else Some (if bytes_eq n catalog_name then told_cells e.row else e.row))) same.name

told_list : (state : ℕ → TxState) (x y : Table) → IsSameTable x y → (es : List Entry)
    → told_versions state x es ≡ told_versions state y es
told_list state x y same es = ap (λ (k : Entry → Generation). map k (living state es))
    (fun_ext (told_same x y same))

key_same : (x y : Table) → IsSameTable x y → (es : List Entry) → record_key x es ≡ record_key y es
key_same x y same [] = refl
key_same x y same (e ∷ es) = ap (λ (z : Shape). key_of (record x { shape = z }) e.row) same.shape

-- facts that differ in tables alone, which are alike: the same versions
module _ (o : Opening) (h : Entries) (f g : Facts) (r : Reading) (states : g.state ≡ f.state)
    (to : (n : ℕ) (y : Table) → g.table_of n ≡ Some y → HasAlike f n y)
    (from : (n : ℕ) (x : Table) → f.table_of n ≡ Some x → HasAlike g n x) (have : HaveVersions o h f r)
  where
    speaks_for : (name : List ℕ) (key : Value) (x : Option RecId) → SpeaksFor o h f r name key x
        → SpeaksFor o h g r name key x
    speaks_for name key None none = none
    speaks_for name key (Some p) (its, stand) =
        let it = from p.page.0 its.table its.of_table in (
          record {
            table = it.its;
            of_table = it.there;
            named = it.same.name ∙ its.named;
            some = its.some;
            keyed = key_same it.its its.table it.same (r p) ∙ its.keyed;
          },
          subst (λ (state : ℕ → TxState). StandFor o h name key (told_versions state it.its (r p))) (sym states)
              (subst (StandFor o h name key) (sym (told_list f.state it.its its.table it.same (r p))) stand),
        )

    others : (p : RecId) (y : Table) → table_in g p ≡ Some y → SpeaksOrSilent o h g r have.speaker p y
    others p y of =
        let it = to p.page.0 y of in
        at it.its it.same (have.others p it.its it.there)
      where
        at : (x : Table) → IsSameTable x y → SpeaksOrSilent o h f r have.speaker p x
            → SpeaksOrSilent o h g r have.speaker p y
        at x same (inl none) = inl (sym (told_list f.state x y same (r p)
            ∙ ap (λ (state : ℕ → TxState). told_versions state y (r p)) (sym states)) ∙ none)
        at x same (inr (inl erased)) = inr (inl (subst (IsErasedForAll o h)
            (told_list f.state x y same (r p)
            ∙ ap (λ (state : ℕ → TxState). told_versions state y (r p)) (sym states)) erased))
        at x same (inr (inr speaks)) = inr (inr (ap (λ (n : List ℕ). have.speaker n (record_key y (r p)))
            (sym same.name) ∙ (ap (have.speaker x.name) (sym (key_same x y same (r p))) ∙ speaks)))

    pub versions_alike : HaveVersions o h g r
    versions_alike = record {
      speaker = have.speaker;
      speaks = λ name key. speaks_for name key (have.speaker name key) (have.speaks name key);
      others = others;
    }
