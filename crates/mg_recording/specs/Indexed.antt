-- The walks by indexes of a keeper that is seen through another value.
use Rattle.mg_indexed.specs.Indexing.{IndexWalksAreWhole, IndexWalksFollow, Indexing}
use Rattle.mg_model.specs.declared.opening.Opening.{Opening}
use Rattle.mg_model.specs.History.{Entries}
use Rattle.mg_records.specs.Meaning.{Means}
use Rattle.mg_recording.specs.Via.{via}

-- they are those of the keeper
abbrev pub indexing_via : {R E T : Type 0} → Indexing R E → (T → R) → Indexing T E
indexing_via c keeper = record {
  to_come = λ t. c.to_come (keeper t);
  still = λ t. c.still (keeper t);
}

module _ {R P E T : Type 0} (m : Means R P) (c : Indexing R E) (keeper : T → R)
    (knows : T → Opening → Entries → Type 0) where
  pub each_via : IndexWalksAreWhole m c → IndexWalksAreWhole (via m keeper knows) (indexing_via c keeper)
  each_via law = λ t o h u table index range s. law (keeper t) o h u table index range s.0

  pub follow_via : IndexWalksFollow m c → IndexWalksFollow (via m keeper knows) (indexing_via c keeper)
  follow_via law = λ old new. law (keeper old) (keeper new)
