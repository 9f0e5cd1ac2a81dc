-- Versions that stand among others.
use Rattle.mg_base.specs.declared.numbers.RecId.{RecId}
use Rattle.mg_base.specs.declared.transaction.TxState.{TxState}
use Rattle.mg_base.specs.declared.transaction.TxState.TheVariants.{Committed}
use Rattle.mg_image.specs.RecordRules.{AreOnce, Each, EachBack, Facts, IsInLimbo}
use Rattle.mg_image.specs.Records.{Stands, key_of, record_key, shown, writer}
use Rattle.mg_image.specs.declared.entry.Entry.{Entry}
use Rattle.mg_image_overlay_laws.specs.records.Fronts.{IsFront, IsLike, IsThin}
use Rattle.mg_model.specs.declared.table.Table.{Table}
use Rattle.mg_version.specs.declared.cell.Version.{Version}
use Rattle.std.proofs.Common.{Bool, List, None, Some, [], ap, false, inl, inr, refl, subst, sym, true, ℕ, ◌∙◌, ◌∷◌, ◌≡◌, ◌≢◌, ◌⊎◌}
use Rattle.std.specs.Prelude.{if◌then◌else◌}

-- ---- one version and another

pub like_self : (e : Entry) → IsLike e e
like_self e = record { at = refl; version = refl; row = refl }

pub like_trans : (c d e : Entry) → IsLike c d → IsLike d e → IsLike c e
like_trans c d e one other = record {
  at = one.at ∙ other.at;
  version = other.version ∙ ap (λ (w : Version). record w { back = e.version.back }) one.version;
  row = one.row ∙ other.row;
}

pub like_writer : (d e : Entry) → IsLike d e → writer e ≡ writer d
like_writer d e like = ap (λ (w : Version). w.tx.0) like.version

-- ---- versions among others

pub thin_self : (es : List Entry) → IsThin es es
thin_self [] = tt
thin_self (e ∷ es) = inl (like_self e, thin_self es)

pub thin_trans : (cs ds es : List Entry) → IsThin cs ds → IsThin ds es → IsThin cs es
thin_trans [] ds es one other = tt
thin_trans (c ∷ cs) [] es one other = absurd one
thin_trans (c ∷ cs) (d ∷ ds) [] one other = absurd other
thin_trans (c ∷ cs) (d ∷ ds) (e ∷ es) one (inr more) = inr (thin_trans (c ∷ cs) (d ∷ ds) es one more)
thin_trans (c ∷ cs) (d ∷ ds) (e ∷ es) (inl one) (inl other) =
    inl (like_trans c d e one.0 other.0, thin_trans cs ds es one.1 other.1)
thin_trans (c ∷ cs) (d ∷ ds) (e ∷ es) (inr more) (inl other) = inr (thin_trans (c ∷ cs) ds es more other.1)

pub thin_stands : (y : RecId) (ds es : List Entry) → IsThin ds es → Stands ds y → Stands es y
thin_stands y [] es thin there = absurd there
thin_stands y (d ∷ ds) [] thin there = absurd thin
thin_stands y (d ∷ ds) (e ∷ es) (inr more) there = inr (thin_stands y (d ∷ ds) es more there)
thin_stands y (d ∷ ds) (e ∷ es) (inl both) (inl at) = inl (sym both.0.at ∙ at)
thin_stands y (d ∷ ds) (e ∷ es) (inl both) (inr more) = inr (thin_stands y ds es both.1 more)

pub thin_once : (ds es : List Entry) → IsThin ds es → AreOnce es → AreOnce ds
thin_once [] es thin once = tt
thin_once (d ∷ ds) [] thin once = absurd thin
thin_once (d ∷ ds) (e ∷ es) (inr more) once = thin_once (d ∷ ds) es more once.1
thin_once (d ∷ ds) (e ∷ es) (inl both) once = (
  (λ there. once.0 (subst (Stands es) both.0.at (thin_stands d.at ds es both.1 there))),
  thin_once ds es both.1 once.1,
)

pub thin_each : (P : Entry → Type 0) → ((d e : Entry) → IsLike d e → P e → P d) → (ds es : List Entry)
    → IsThin ds es → Each P es → Each P ds
thin_each P as_like [] es thin each = tt
thin_each P as_like (d ∷ ds) [] thin each = absurd thin
thin_each P as_like (d ∷ ds) (e ∷ es) (inr more) each = thin_each P as_like (d ∷ ds) es more each.1
thin_each P as_like (d ∷ ds) (e ∷ es) (inl both) each =
    (as_like d e both.0 each.0, thin_each P as_like ds es both.1 each.1)

-- ---- the first of others

pub front_self : (state : ℕ → TxState) (es : List Entry) → IsFront state es es
front_self state [] = tt
front_self state (e ∷ es) = (like_self e, inl (front_self state es))

pub front_thin : (state : ℕ → TxState) (ds es : List Entry) → IsFront state ds es → IsThin ds es
front_thin state [] es front = tt
front_thin state (d ∷ ds) [] front = absurd front
front_thin state (d ∷ ds) (e ∷ es) (like, inl more) = inl (like, front_thin state ds es more)
front_thin state (d ∷ ds) (e ∷ es) (like, inr more) = inl (like, more.1)

pub front_trans : (state : ℕ → TxState) (cs ds es : List Entry) → IsFront state cs ds → IsFront state ds es
    → IsFront state cs es
front_trans state [] ds es one other = tt
front_trans state (c ∷ cs) [] es one other = absurd one
front_trans state (c ∷ cs) (d ∷ ds) [] one other = absurd other
front_trans state (c ∷ cs) (d ∷ ds) (e ∷ es) one other =
    (like_trans c d e one.0 other.0, rest (front_trans state cs ds es) one.1 other.1)
  where
    rest : (IsFront state cs ds → IsFront state ds es → IsFront state cs es)
        → IsFront state cs ds ⊎ ((state (writer c) ≡ Committed) × IsThin cs ds)
        → IsFront state ds es ⊎ ((state (writer d) ≡ Committed) × IsThin ds es)
        → IsFront state cs es ⊎ ((state (writer c) ≡ Committed) × IsThin cs es)
    rest older (inl a) (inl b) = inl (older a b)
    rest older (inl a) (inr b) = inr (
      ap state (sym (like_writer c d one.0)) ∙ b.0,
      thin_trans cs ds es (front_thin state cs ds a) b.1,
    )
    rest older (inr a) (inl b) = inr (a.0, thin_trans cs ds es a.1 (front_thin state ds es b))
    rest older (inr a) (inr b) = inr (a.0, thin_trans cs ds es a.1 b.1)

-- once more are committed they are so still
pub front_later : (state now : ℕ → TxState) → ((u : ℕ) → state u ≡ Committed → now u ≡ Committed)
    → (ds es : List Entry) → IsFront state ds es → IsFront now ds es
front_later state now stays [] es front = tt
front_later state now stays (d ∷ ds) [] front = absurd front
front_later state now stays (d ∷ ds) (e ∷ es) (like, inl more) = (like, inl (front_later state now stays ds es more))
front_later state now stays (d ∷ ds) (e ∷ es) (like, inr more) = (like, inr (stays (writer d) more.0, more.1))

pub front_back : (state : ℕ → TxState) (P : Entry → Type 0) → ((d e : Entry) → IsLike d e → P e → P d)
    → (ds es : List Entry) → IsFront state ds es → EachBack P es → EachBack P ds
front_back state P as_like [] es front each = tt
front_back state P as_like (d ∷ ds) [] front each = absurd front
front_back state P as_like (d ∷ ds) (e ∷ es) (like, inl more) each =
    thin_each P as_like ds es (front_thin state ds es more) each
front_back state P as_like (d ∷ ds) (e ∷ es) (like, inr more) each = thin_each P as_like ds es more.1 each

-- one of these versions is committed
abbrev pub HasSettled : (ℕ → TxState) → List Entry → Type 0
HasSettled state [] = ⊥
HasSettled state (e ∷ es) = (state (writer e) ≡ Committed) ⊎ HasSettled state es

-- so the same is shown
pub front_shown : (state : ℕ → TxState) (counts : ℕ → Bool) → ((u : ℕ) → state u ≡ Committed → counts u ≡ true)
    → (ds es : List Entry) → IsFront state ds es → HasSettled state ds → shown counts ds ≡ shown counts es
front_shown state counts counted [] es front has = absurd has
front_shown state counts counted (d ∷ ds) [] front has = absurd front
front_shown state counts counted (d ∷ ds) (e ∷ es) front has =
    by (front_shown state counts counted ds es) (counts (writer d)) refl
  where
    as_there : (b : Bool) → counts (writer d) ≡ b → counts (writer e) ≡ b
    as_there b is = ap counts (like_writer d e front.0) ∙ is

    deleted : e.version.deleted ≡ d.version.deleted
    deleted = ap (λ (w : Version). w.deleted) front.0.version

    no_more : counts (writer d) ≡ false → state (writer d) ≡ Committed → ⊥
    no_more off is = let both : true ≡ false = sym (counted (writer d) is) ∙ off in absurd cc

    older : (IsFront state ds es → HasSettled state ds → shown counts ds ≡ shown counts es)
        → counts (writer d) ≡ false
        → IsFront state ds es ⊎ ((state (writer d) ≡ Committed) × IsThin ds es)
        → (state (writer d) ≡ Committed) ⊎ HasSettled state ds → shown counts ds ≡ shown counts es
    older rest off more (inl is) = absurd (no_more off is)
    older rest off (inr is) has_ = absurd (no_more off is.0)
    older rest off (inl more) (inr has_) = rest more has_

    by : (IsFront state ds es → HasSettled state ds → shown counts ds ≡ shown counts es)
        → (b : Bool) → counts (writer d) ≡ b → shown counts (d ∷ ds) ≡ shown counts (e ∷ es)
    by rest true is = rw (is, as_there true is, deleted, front.0.row) refl
    by rest false is = rw (is, as_there false is) (older rest is front.1 has)

pub front_limbo : (f : Facts) (ds es : List Entry) → IsFront f.state ds es → IsInLimbo f ds → IsInLimbo f es
front_limbo f [] es front is = absurd is
front_limbo f (d ∷ ds) [] front is = absurd front
front_limbo f (d ∷ ds) (e ∷ es) front is = ap f.state (like_writer d e front.0) ∙ is
