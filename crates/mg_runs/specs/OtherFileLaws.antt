-- A file that holds no database is not opened, and not written.
use Rattle.std.proofs.Common.{◌≡◌, ◌∙◌, ℕ, Ok, Some, sym, subst}
use Rattle.mg_base.specs.Disk.{MayLeave, Meaning}
use Rattle.mg_base.specs.Image.{Image, page_at}
use Rattle.mg_base.specs.Streams.{SinkMeaning}
use Rattle.mg_core.specs.declared.parts.Core.{Core}
use Rattle.mg_database.specs.Tested.{IsTested}
use Rattle.mg_engine_meaning_laws.specs.OpenedLaws.{content_leaves}
use Rattle.mg_engine_meaning_laws.specs.Openings.{IsOpenedOver, RefusesOpening}
use Rattle.mg_format.specs.Format.{IsUnmadeImage}
use Rattle.mg_header.specs.HeaderPage.{reading}
use Rattle.mg_header.specs.declared.header.Header.{Header}
use Rattle.mg_image.specs.Inventory.{header_of}
use Rattle.mg_model.specs.declared.refusal.Refusal.{Refusal}
use Rattle.mg_pool.specs.Pool.{KeepsContent}
use Rattle.mg_run_ends.specs.Ends.{IsOutside, last_line}
use Rattle.mg_run_ends.specs.Printing.{IsPrinted}
use Rattle.mg_run_ends.specs.declared.ending.RunEnd.{RunEnd}
use Rattle.mg_space.specs.View.{Tells}
use Rattle.mg_space.specs.ViewLaws.{CountsNow}
use Rattle.mg_runs.specs.FaultLaws.{refusal_of_file}
use Rattle.mg_runs.specs.Laws.{OtherFilesAreRefused, OtherFilesAreUnopened}
use Rattle.mg_runs.specs.OpeningLaws.{size_over}
use Rattle.mg_runs.specs.OtherFiles.{HoldsNoDatabase, IsUnwritten, RefusesFile}

stays_unwritten : {D : Type 0} (m : Meaning D) → CountsNow m → (old new : D) (size : ℕ) (image : Image)
    → HoldsNoDatabase m old size image → KeepsContent m old new → IsUnwritten m old new
stays_unwritten m counts old new size image other keeps = record {
  held = keeps.held;
  crash = content_leaves m counts (MayLeave m old) old new other.tells.told keeps (λ c may. may);
}

pub files_refused : {D K : Type 0} (m : Meaning D) (n : SinkMeaning K) → CountsNow m → OtherFilesAreRefused m n
files_refused m n counts disk new limit refusal size image end before after other refused ends last = record {
  unwritten = stays_unwritten m counts disk new size image other (refused.unwritten image other.tells.held no_new);
  refusal = refusal;
  opening = refusal_of_file m disk new limit refusal size image other refused.cause;
  ends = ends;
  last = last;
}
  where
    no_new : (size' : ℕ) → m.size new ≡ Some size' → IsUnmadeImage size' image → ⊥
    no_new size' sized is =
        let both : Some size' ≡ Some size = sym sized ∙ refused.same.size size other.sized in
        let same : size' ≡ size = cc in
        other.unmakeable (subst (λ (p : ℕ). IsUnmadeImage p image) same is)

pub files_unopened : {D : Type 0} (m : Meaning D) → OtherFilesAreUnopened m
files_unopened {D} m disk limit core size image other opened = other.unpassed (record {
  header = its_header.0;
  reads = subst (λ (p : ℕ). reading (page_at p image 0) p ≡ Ok its_header.0) its_size its_header.1;
  pointers = opened.pointers;
  data_pages = opened.data_pages;
  tested = subst (λ (p : ℕ). IsTested (page_at p image) (header_of (page_at p image)).catalog.0 opened.pointers
      opened.data_pages) its_size (opened.tested image still);
})
  where
    its_size : core.store.geometry.size ≡ size
    its_size = size_over m disk limit core size image opened other.sized

    keeps : KeepsContent m disk core.store.disk
    keeps = opened.unwritten image other.tells.held (λ is.
        other.unmakeable (subst (λ (p : ℕ). IsUnmadeImage p image) its_size is))

    still : Tells m core.store.disk image
    still = record { told = keeps.tells ∙ other.tells.told; held = keeps.held ∙ other.tells.held }

    its_header : (h : Header) × (reading (page_at core.store.geometry.size image 0) core.store.geometry.size ≡ Ok h)
    its_header = opened.header_is image still
