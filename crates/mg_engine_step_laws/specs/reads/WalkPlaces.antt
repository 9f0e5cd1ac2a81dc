-- The data pages of a table name their places, so a walk stands where the sequence of its place says.
use Rattle.std.proofs.Common.{◌≡◌, ◌∙◌, inl, inr, ◌+◌, ℕ, zero, suc, Bool, List, [], ◌∷◌, ◌++◌, Option, None, Some, sym, ap, subst, arith}
use Rattle.mg_base.specs.Checks.{PassesAll, common_checks}
use Rattle.mg_base.specs.Fields.{u32_at}
use Rattle.mg_base.specs.declared.fields.TheConstants.{SEQUENCE_AT}
use Rattle.mg_base.specs.declared.transaction.TxState.{TxState}
use Rattle.mg_image.specs.Form.{Pages, packed_form}
use Rattle.mg_image.specs.Records.{Reading}
use Rattle.mg_image.specs.Sound.{IsSoundBy, IsTableData}
use Rattle.mg_image.specs.Tables.{EachFrom, Has, Layout}
use Rattle.mg_model.specs.declared.table.Table.{Table}
use Rattle.mg_seek.specs.Walks.{StandsAt}
use Rattle.mg_slots.specs.declared.page.TheConstants.{DATA_KIND}
use Rattle.mg_image_overlay_laws.specs.tables.Growing.{IsTableOf}
use Rattle.mg_image_overlay_laws.specs.kept.Knowing.{its_pages}
use Rattle.mg_engine_step_laws.specs.reads.Walking.{HasAt, StandsInTurn, WalkPlace, rec_of}

-- ---- what stands at a place of a list is in it

has_of : (ns : List ℕ) (at n : ℕ) → HasAt ns at n → Has ns n
has_of [] at n has = absurd has
has_of (m ∷ ms) zero n is = inl is
has_of (m ∷ ms) (suc at) n later = inr (has_of ms at n later)

pub stands_at : (ns : List ℕ) (after : Option WalkPlace) → StandsInTurn ns after → StandsAt ns (rec_of after)
stands_at ns None stands = tt
stands_at ns (Some place) stands = has_of ns place.sequence place.rec.page.0 stands

-- more pages come behind
at_more : (ns more : List ℕ) (at n : ℕ) → HasAt ns at n → HasAt (ns ++ more) at n
at_more [] more at n has = absurd has
at_more (m ∷ ms) more zero n is = is
at_more (m ∷ ms) more (suc at) n later = at_more ms more at n later

pub stands_more : (ns more : List ℕ) (after : Option WalkPlace) → StandsInTurn ns after
    → StandsInTurn (ns ++ more) after
stands_more ns more None stands = tt
stands_more ns more (Some place) stands = at_more ns more place.sequence place.rec.page.0 stands

-- ---- the data pages of a table name their places

names_place : (b : List ℕ) (n owner at : ℕ) → PassesAll (common_checks b n DATA_KIND owner at)
    → u32_at b SEQUENCE_AT ≡ at
unfolding common_checks
names_place b n owner at passes = passes.1.1.1.1.1.0

-- what stands at a place names it
named_at : (in_primary : Bool) (size : ℕ) (pages : Pages) (owner begin : ℕ) (ns : List ℕ)
    → EachFrom (IsTableData in_primary size pages owner) begin ns → (at n : ℕ) → HasAt ns at n
    → u32_at (pages n) SEQUENCE_AT ≡ begin + at
named_at in_primary size pages owner begin [] each at n has = absurd has
named_at in_primary size pages owner begin (m ∷ ms) each zero n is =
    ap (λ (k : ℕ). u32_at (pages k) SEQUENCE_AT) is
    ∙ (names_place (pages m) m owner begin each.0.wanted.fields ∙ omega arith)
named_at in_primary size pages owner begin (m ∷ ms) each (suc at) n later =
    let more = named_at in_primary size pages owner (suc begin) ms each.1 at n later in omega (arith, more)

-- what is in the list stands at some place
at_some : (ns : List ℕ) (n : ℕ) → Has ns n → (at : ℕ) × HasAt ns at n
at_some [] n has = absurd has
at_some (m ∷ ms) n (inl is) = (0, is)
at_some (m ∷ ms) n (inr later) = let there = at_some ms n later in (suc there.0, there.1)

module _ (size : ℕ) (state : ℕ → TxState) (pages : Pages) (layout : Layout) (r : Reading)
    (sound : IsSoundBy packed_form size state pages layout r) (its : Table) (stands : IsTableOf layout its) where
  pub sequence_named : (at n : ℕ) → HasAt stands.stand.data_pages at n → u32_at (pages n) SEQUENCE_AT ≡ at
  sequence_named at n has = named_at packed_form.in_primary size pages stands.stand.table.pointer.0 0
      stands.stand.data_pages
      (its_pages packed_form size state pages layout r sound its stands).data_pages at n has ∙ omega arith

  -- a data page stands at the place that it names
  pub in_turn : (n : ℕ) → Has stands.stand.data_pages n
      → HasAt stands.stand.data_pages (u32_at (pages n) SEQUENCE_AT) n
  in_turn n has = let there = at_some stands.stand.data_pages n has in
      subst (λ (at : ℕ). HasAt stands.stand.data_pages at n) (sym (sequence_named there.0 n there.1)) there.1
