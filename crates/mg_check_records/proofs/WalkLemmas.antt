-- A walk over the versions of a record, one step after another.
use Rattle.std.specs.Prelude.{◌≡◌, ◌<◌, ◌+◌, ◌*◌, ℕ, Bool, List, [], ◌∷◌, ◌++◌, Option, None, Some, length}
use Rattle.std.proofs.Common.{refl, sym, ap, ◌∙◌, arith, subst, append-nil}
use Rattle.std.proofs.lemmas.List.{append_assoc}
use Rattle.mg_base.specs.declared.numbers.RecId.{RecId}
use Rattle.mg_check_records.specs.Marks.{left_of, met_in, most_slots}
use Rattle.mg_check_records.specs.Reads.{StepsTo, TakesEntry}
use Rattle.mg_check_records.specs.Walks.{IsStop, IsWalk, Met, all_met, and_met}
use Rattle.mg_check_records.specs.Walks as walks
use Rattle.mg_check_records.specs.declared.step.Step.{Step}
use Rattle.mg_check_records.specs.declared.step.Step.TheVariants as steps
use Rattle.mg_findings.specs.declared.finding.Finding.{Finding}
use Rattle.mg_image.specs.declared.entry.Entry.{Entry}
use Rattle.mg_image.specs.Records.{Cells}
use Rattle.mg_model.specs.declared.table.Table.{Table}
use Rattle.mg_version.specs.declared.cell.Link.{Link}

met_more : (es : List Entry) (e : Entry) (met : Met)
    → all_met (es ++ e ∷ []) met ≡ and_met e.at (all_met es met)
met_more [] e met = refl
met_more (d ∷ es) e met = met_more es e (and_met d.at met)

-- How far the walk has come: whatever walk goes on from here makes one from the beginning.
pub record IsWalking (h : Cells) (table : Table) (ns : List ℕ) (size : ℕ) (first now : List Bool)
    (p : RecId) (newest : Option Link) (es : List Entry) (holder : RecId) (next : Option Link)
    : Type 0 where
  pub completes : (more : List Entry) (end : Option Finding)
      → IsWalk h table ns (met_in ns (most_slots size) now) holder next more end
      → IsWalk h table ns (met_in ns (most_slots size) first) p newest (es ++ more) end
  pub met : met_in ns (most_slots size) now ≡ all_met es (met_in ns (most_slots size) first)
  pub len : length now ≡ length first

pub walk_begins : (h : Cells) (table : Table) (ns : List ℕ) (size : ℕ) (marks : List Bool)
    (p : RecId) (newest : Option Link) (es : List Entry) → es ≡ []
    → IsWalking h table ns size marks marks p newest es p newest
walk_begins h table ns size marks p newest es empty = subst
    (λ (l : List Entry). IsWalking h table ns size marks marks p newest l p newest) (sym empty)
    (record { completes = λ more end walk. walk; met = refl; len = refl })

module _ (h : Cells) (table : Table) (ns : List ℕ) (size : ℕ) (first now : List Bool) (p : RecId)
    (newest : Option Link) (es : List Entry) (holder : RecId) (next : Option Link)
    (is : IsWalking h table ns size first now p newest es holder next) where
  -- it ends with the chain,
  pub walk_ends : next ≡ None
      → IsWalk h table ns (met_in ns (most_slots size) first) p newest es None
  walk_ends none = subst (λ (l : List Entry).
      IsWalk h table ns (met_in ns (most_slots size) first) p newest l None) (append-nil es)
      (is.completes [] None (subst (λ (o : Option Link).
      IsWalk h table ns (met_in ns (most_slots size) now) holder o [] None) (sym none)
      (walks.ended (met_in ns (most_slots size) now) holder)))

  -- or at what is found,
  pub walk_stops : (l : Link) (f : Finding) → next ≡ Some l
      → IsStop h table ns (met_in ns (most_slots size) now) holder l f
      → IsWalk h table ns (met_in ns (most_slots size) first) p newest es (Some f)
  walk_stops l f some stop = subst (λ (k : List Entry).
      IsWalk h table ns (met_in ns (most_slots size) first) p newest k (Some f)) (append-nil es)
      (is.completes [] (Some f) (subst (λ (o : Option Link).
      IsWalk h table ns (met_in ns (most_slots size) now) holder o [] (Some f)) (sym some)
      (walks.stopped (met_in ns (most_slots size) now) holder l f stop)))

  -- or it goes on
  pub walk_goes_on : (l : Link) (e : Entry) (new : List Bool) (at : RecId) (back : Option Link)
      (all : List Entry) → next ≡ Some l → TakesEntry h table ns size now new l e → at ≡ l.rec
      → back ≡ e.version.back → all ≡ es ++ e ∷ []
      → IsWalking h table ns size first new p newest all at back
  walk_goes_on l e new at back all some takes here older pushed = record {
    completes = λ more end walk. subst (λ (k : List Entry).
        IsWalk h table ns (met_in ns (most_slots size) first) p newest k end)
        (sym (append_assoc es (e ∷ []) more) ∙ ap (λ (k : List Entry). k ++ more) (sym pushed))
        (is.completes (e ∷ more) end (subst (λ (o : Option Link).
        IsWalk h table ns (met_in ns (most_slots size) now) holder o (e ∷ more) end) (sym some)
        (walks.goes (met_in ns (most_slots size) now) holder l e more end takes.at takes.meets
        takes.fresh takes.stored (moved more end walk))));
    met = takes.met ∙ (ap (and_met e.at) is.met
        ∙ (sym (met_more es e (met_in ns (most_slots size) first))
        ∙ ap (λ (k : List Entry). all_met k (met_in ns (most_slots size) first)) (sym pushed)));
    len = takes.len ∙ is.len;
  }
    where
      moved : (more : List Entry) (end : Option Finding)
          → IsWalk h table ns (met_in ns (most_slots size) new) at back more end
          → IsWalk h table ns (and_met e.at (met_in ns (most_slots size) now)) e.at e.version.back
          more end
      moved more end walk = subst (λ (m : Met). IsWalk h table ns m e.at e.version.back more end)
          takes.met (subst (λ (x : RecId).
          IsWalk h table ns (met_in ns (most_slots size) new) x e.version.back more end)
          (here ∙ sym takes.at) (subst (λ (o : Option Link).
          IsWalk h table ns (met_in ns (most_slots size) new) at o more end) older walk))

  pub walk_fewer : (l : Link) (e : Entry) (new : List Bool) → TakesEntry h table ns size now new l e
      → left_of new < left_of now
  walk_fewer l e new takes = omega (arith, takes.fewer)

  pub walk_marks : length first ≡ length ns * most_slots size
      → length now ≡ length ns * most_slots size
  walk_marks long = is.len ∙ long

  -- ---- by what a step gives

  -- what holds where the walk ends at what is found
  pub record IsStopped (new : List Bool) (f : Finding) : Type 0 where
    pub walk : IsWalk h table ns (met_in ns (most_slots size) first) p newest es (Some f)
    pub met : met_in ns (most_slots size) new ≡ all_met es (met_in ns (most_slots size) first)
    pub len : length new ≡ length first

  pub step_stops : (l : Link) (it : Step) (f : Finding) (new : List Bool) → next ≡ Some l
      → StepsTo h table ns size now new holder l it → it ≡ steps.Stopped f → IsStopped new f
  step_stops l it f new some step found =
      let stop = subst (StepsTo h table ns size now new holder l) found step in record {
        walk = walk_stops l f some stop.1;
        met = ap (met_in ns (most_slots size)) stop.0 ∙ is.met;
        len = ap length stop.0 ∙ is.len;
      }

  pub step_goes_on : (l : Link) (it : Step) (e : Entry) (new : List Bool) (all : List Entry)
      → next ≡ Some l → StepsTo h table ns size now new holder l it → it ≡ steps.Entry e
      → all ≡ es ++ e ∷ []
      → IsWalking h table ns size first new p newest all l.rec e.version.back
  step_goes_on l it e new all some step found pushed = walk_goes_on l e new l.rec e.version.back all
      some (subst (StepsTo h table ns size now new holder l) found step) refl refl pushed

  pub step_fewer : (l : Link) (it : Step) (e : Entry) (new : List Bool)
      → StepsTo h table ns size now new holder l it → it ≡ steps.Entry e
      → left_of new < left_of now
  step_fewer l it e new step found =
      walk_fewer l e new (subst (StepsTo h table ns size now new holder l) found step)
