-- The way of a write into a record is that of its newest version: who wrote it, and what has become of that one.
use Rattle.std.proofs.Common.{◌≡◌, ◌⊎◌, inl, inr, ◌==◌, ℕ, Bool, true, false, Option, Some, refl, sym, ap, ◌∙◌, subst}
use Rattle.std.specs.Prelude.{if◌then◌else◌}
use Rattle.std.proofs.lemmas.Bool.{eq-eqb, false≢true}
use Rattle.mg_base.specs.declared.numbers.RecId.{RecId}
use Rattle.mg_base.specs.declared.numbers.TxNo.{TxNo}
use Rattle.mg_base.specs.declared.transaction.TxState.{TxState}
use Rattle.mg_base.specs.declared.transaction.TxState.TheVariants.{Active, Committed, Dead, Limbo}
use Rattle.mg_chain.specs.Views.{is_dead}
use Rattle.mg_image.specs.Form.{Pages}
use Rattle.mg_image.specs.Records.{cells_of, newest_of}
use Rattle.mg_model.specs.declared.table.Table.{Table}
use Rattle.mg_engine_step_laws.specs.writes.Free.{RecordsAreFree}
use Rattle.mg_row_writes.specs.Befores.{IsBeforeBy, IsBeforeIn, IsBeforeOf, OwnBefore}
use Rattle.mg_row_writes.specs.declared.before.Before.{Before}
use Rattle.mg_row_writes.specs.declared.before.Way.TheVariants as ways
use Rattle.mg_seek.specs.Versions.{FirstAt, is_it, is_older, wants}
use Rattle.mg_seek.specs.declared.walk.Placed.{Placed}
use Rattle.mg_seek.specs.declared.whose.Wanted.TheVariants.{Any}
use Rattle.mg_engine_step_laws.specs.standing.Standing.{Standing}
use Rattle.mg_version.specs.declared.cell.Cell.TheVariants as cells
use Rattle.mg_version.specs.declared.cell.Link.{Link}
use Rattle.mg_version.specs.declared.cell.Version.{Version}
use Rattle.mg_engine_change_laws.specs.rows.Ways.{IsFreeWay, WaysAreFree}

-- the version that a link leads to is found first, and is of the transaction that the link names
pub record IsLinked (state : ℕ → TxState) (t : ℕ) (table : Table) (rec : RecId) (newest : Link) (b : Before)
    : Type 0 where
  pub version : Version
  pub by : version.tx ≡ newest.tx
  pub is : IsBeforeBy (version.tx.0 == t) state table rec version b

module _ (s : Standing) (pages : Pages) (t : ℕ) (table : Table) (rec : RecId) (newest : Link) (b : Before)
    (slot : cells_of pages rec ≡ Some (cells.Anchor newest))
    (before : IsBeforeIn s.state s.live t pages table rec b) where
  linked : IsLinked s.state t table rec newest b
  linked = at before.newest (subst (λ (l : Option Link). FirstAt (cells_of pages) (wants s.state s.live Any) l
      before.newest) (ap (newest_of rec) slot) before.first) before.is
    where
      at : (found : Option Placed) → FirstAt (cells_of pages) (wants s.state s.live Any) (Some newest) found
          → IsBeforeOf s.state t table rec found b → IsLinked s.state t table rec newest b
      at (Some p) (is_it l v meets is) its = record { version = v; by = meets.by; is = its }
      at found (is_older l v last meets is more) its = absurd (false≢true (sym is))

  dead_one : (x : TxState) → is_dead x ≡ true → x ≡ Dead
  dead_one Active is = absurd (false≢true is)
  dead_one Limbo is = absurd (false≢true is)
  dead_one Committed is = absurd (false≢true is)
  dead_one Dead is = refl

  free_way : (s.state newest.tx.0 ≡ Committed) ⊎ ((newest.tx.0 ≡ t) ⊎ (s.state newest.tx.0 ≡ Dead))
      → IsFreeWay s rec newest b
  free_way free = by (linked.version.tx.0 == t) refl linked.is
    where
      same_by : linked.version.tx.0 ≡ newest.tx.0
      same_by = ap (λ (n : TxNo). n.0) linked.by

      own : OwnBefore table rec linked.version b → IsFreeWay s rec newest b
      own its = record {
        over = λ way. let both : ways.Replace rec ≡ ways.Push rec = sym its.way ∙ way in absurd cc;
        over_dead = λ way. let both : ways.Replace rec ≡ ways.PushOverDead rec = sym its.way ∙ way in absurd cc;
      }

      over_it : (linked.version.tx.0 == t) ≡ false → is_dead (s.state linked.version.tx.0) ≡ false
          → s.state newest.tx.0 ≡ Committed
      over_it off lives = at free
        where
          at : (s.state newest.tx.0 ≡ Committed) ⊎ ((newest.tx.0 ≡ t) ⊎ (s.state newest.tx.0 ≡ Dead))
              → s.state newest.tx.0 ≡ Committed
          at (inl committed) = committed
          at (inr (inl its)) = absurd (false≢true (sym off ∙ eq-eqb linked.version.tx.0 t (same_by ∙ its)))
          at (inr (inr dead)) = absurd (false≢true (sym lives
              ∙ (ap (λ (n : ℕ). is_dead (s.state n)) same_by ∙ ap is_dead dead)))

      other : (linked.version.tx.0 == t) ≡ false → (dead : Bool) → is_dead (s.state linked.version.tx.0) ≡ dead
          → b.way ≡ (if dead then ways.PushOverDead rec else ways.Push rec) → IsFreeWay s rec newest b
      other off true dead its = record {
        over = λ way. let both : ways.PushOverDead rec ≡ ways.Push rec = sym its ∙ way in absurd cc;
        over_dead = λ way. ap s.state (sym same_by) ∙ dead_one (s.state linked.version.tx.0) dead;
      }
      other off false lives its = record {
        over = λ way. over_it off lives;
        over_dead = λ way. let both : ways.Push rec ≡ ways.PushOverDead rec = sym its ∙ way in absurd cc;
      }

      by : (mine : Bool) → (linked.version.tx.0 == t) ≡ mine → IsBeforeBy mine s.state table rec linked.version b
          → IsFreeWay s rec newest b
      by true is its = own its
      by false off its = other off (is_dead (s.state linked.version.tx.0)) refl (ap (λ (x : Before). x.way) its)

pub ways_are_free : RecordsAreFree → WaysAreFree
ways_are_free free size o h s pages stands t its table rec newest b of slot none before =
    free_way s pages t table rec newest b slot before (free size o h s pages stands t its rec newest of slot none)
