-- Lemmas of pages that are put with their orders.
use Rattle.std.proofs.Common.{Result, Ok, Err}
use Rattle.std.specs.Prelude.{OnOk}

pub on_ok_as : {T E P Q : Type 0} (result : Result T E) → OnOk result P → (P → Q) → OnOk result Q
on_ok_as (Ok x) holds as_ = as_ holds
on_ok_as (Err e) holds as_ = tt
