-- What a buffer has that was lent as a slice, and lists of buffers.
use Rattle.std.proofs.Common.{◌≡◌, ℕ, List, ◌++◌, length, take, drop, Result, ap, ◌∙◌}
use Rattle.std.specs.Prelude.{OnOk}
use Rattle.std.proofs.lemmas.List.{take_at}
use Rattle.mg_base.specs.Image.{Image, page_at}
use Rattle.mg_pool.proofs.RunLemmas.{on_ok}

-- a slice as long as the buffer was written, so that nothing of the buffer is left
module _ (new old items : List ℕ) (len : ℕ) (same : length new ≡ length old) (lent : old ≡ items)
    (long : length old ≡ len) where
  back : take len (new ++ drop (length new) items) ≡ new
  back = take_at new (drop (length new) items) len (same ∙ long)

  pub read_len : length (take len (new ++ drop (length new) items)) ≡ length items
  read_len = ap length back ∙ same ∙ ap length lent

  pub read_page : {T E : Type 0} (r : Result T E) (Held : Image → Type 0) (page : ℕ)
      → OnOk r ((image : Image) → Held image → new ≡ page_at (length old) image page)
      → OnOk r ((image : Image) → Held image
      → take len (new ++ drop (length new) items) ≡ page_at (length items) image page)
  read_page r Held page reads = on_ok r
      ((image : Image) → Held image → new ≡ page_at (length old) image page)
      ((image : Image) → Held image → take len (new ++ drop (length new) items) ≡ page_at (length items) image page)
      (λ is image held. back ∙ is image held ∙ ap (λ (xs : List ℕ). page_at (length xs) image page) lent) reads
