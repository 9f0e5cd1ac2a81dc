use Rattle.std.proofs.Common.{Option, inl, inr, refl, subst}
use Rattle.mg_base.specs.declared.numbers.RecId.{RecId}
use Rattle.mg_engine.specs.KeyCollecting.{CollectsFound}
use Rattle.mg_engine.proofs.KeyCollectLemmas.{found_at_key}
use Rattle.mg_engine.proofs.collecting.collect_at_key.Goals as goal

pub returns-in-Err-clause-collects : goal.returns-in-Err-clause-collects
returns-in-Err-clause-collects g c = inl (c.in-Err.ensures, refl)

pub returns-in-Ok-row_of_key-clause-collects : goal.returns-in-Ok-row_of_key-clause-collects
returns-in-Ok-row_of_key-clause-collects g c = found_at_key g.D.Disk.meaning c.args.core.now c.collect_found.new.core c.args.t
    c.args.table.now c.args.key.now c.collect_found.result (record {
      continues = c.in-Ok.ensures;
      between = c.row_of_key.new.self;
      core = c.row_of_key.ensures.core;
      found = c.in-Ok-row_of_key.found;
      reads = c.in-Ok-row_of_key.ensures.reads;
      collects = subst (λ (rec : Option RecId). CollectsFound g.D.Disk.meaning c.row_of_key.new.self
          c.collect_found.new.core c.args.t c.args.table.now rec c.collect_found.result) c.rec_in.ensures
          c.collect_found.ensures.collects;
    })

pub returns-in-Err-row_of_key-clause-collects : goal.returns-in-Err-row_of_key-clause-collects
returns-in-Err-row_of_key-clause-collects g c =
    inr (inl (record { continues = c.in-Ok.ensures; fails = c.in-Err-row_of_key.ensures.reads }))
