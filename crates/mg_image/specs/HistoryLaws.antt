-- An image on which a database may be made holds a new one, and any image what a history begins with.
use Rattle.std.specs.Prelude.{◌≡◌, ◌≤◌, ◌==◌, ◌-◌, ℕ, nat_lt, Bool, false, [], None, refl, slice_index_or, if◌then◌else◌}
use Rattle.std.proofs.Common.{ap, subst, le-ltb, lit≤, arith}
use Rattle.std.proofs.lemmas.Bool.{ne_eqb}
use Rattle.mg_base.specs.declared.transaction.TxState.TheVariants.{Committed, Dead}
use Rattle.mg_model.specs.declared.opening.Opening.{Opening}
use Rattle.mg_model.specs.Answers.{is_committed}
use Rattle.mg_model.specs.Legal.{is_limbo}
use Rattle.mg_model.specs.Machine.{opening_state}
use Rattle.mg_model.specs.NewDatabase.{new_opening}
use Rattle.mg_image.specs.Form.{Form, Pages}
use Rattle.mg_image.specs.Histories.{Begins, HoldsDurable}
use Rattle.mg_image.specs.Opening.{Holds, IsUnmade, Opened, new_row, unmade_image}

-- a number that was not drawn is neither committed nor in limbo
none_undrawn : (o : Opening) (t : ℕ) → 1 ≤ o.next.0 → o.next.0 ≤ t
    → (is_committed (opening_state o t) ≡ false) × (is_limbo (opening_state o t) ≡ false)
none_undrawn o t first above =
    at (t == 0) (nat_lt t o.next.0) (ne_eqb t 0 (λ none. omega arith)) (le-ltb t o.next.0 above)
  where
    at : (p q : Bool) → p ≡ false → q ≡ false
        → (is_committed (if p then Committed
        else (if q then slice_index_or o.states (t - 1) Dead else Dead)) ≡ false)
        × (is_limbo (if p then Committed
        else (if q then slice_index_or o.states (t - 1) Dead else Dead)) ≡ false)
    at p q some undrawn = rw (some, undrawn) (refl, refl)

-- an image on which a database may be made holds what a new database begins with
pub unmade_holds : (form : Form) (size : ℕ) (pages : Pages) (limit free k : ℕ) → IsUnmade form size pages
    → HoldsDurable form size pages (new_opening limit free) [] k
unmade_holds form size pages limit free k unmade = record {
  opened = record {
    rows = new_row;
    limbo = λ t name key. None;
    next = 1;
    state = opening_state (new_opening limit free);
  };
  holds = unmade_image unmade (record {
    rows = λ name key. refl;
    limbo = λ t name key. refl;
    next = refl;
    state = refl;
  });
  rows = λ name key. refl;
  committed = λ t below. refl;
  limbo = λ t below. refl;
  undrawn = λ t above. none_undrawn (new_opening limit free) t (lit≤ tt) above;
  changes = λ t name key in_limbo. refl;
}

-- an image holds what the history that begins with its opening has before any entry
pub opened_holds : (form : Form) (size : ℕ) (pages : Pages) (opened : Opened) (o : Opening) (k : ℕ)
    → Holds form size pages opened → Begins opened o → 1 ≤ o.next.0
    → HoldsDurable form size pages o [] k
opened_holds form size pages opened o k holds begins first = record {
  opened = opened;
  holds = holds;
  rows = begins.rows;
  committed = λ t below. ap is_committed (begins.state t below);
  limbo = λ t below. ap is_limbo (begins.state t below);
  undrawn = λ t above.
      none_undrawn o t first (subst (λ n. n ≤ t) begins.next above);
  changes = λ t name key in_limbo. begins.limbo t name key;
}
