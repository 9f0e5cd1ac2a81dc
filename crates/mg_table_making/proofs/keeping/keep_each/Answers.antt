use Rattle.std.proofs.Common.{arith, ap, length, List}
use Rattle.mg_value.specs.declared.value.Value.{Value}
use Rattle.mg_table_making.proofs.KeepLemmas.{kept_all, kept_none, kept_one, kept_some, no_keys_left}
use Rattle.mg_table_making.proofs.keeping.keep_each.Goals as goal

pub loop-key-init : goal.loop-key-init
loop-key-init c = record {
  kept = kept_none c.args.t.0 c.args.owner c.args.keys.now c.args.works.now;
  places = omega arith;
}

pub loop-key-preserved : goal.loop-key-preserved
loop-key-preserved c = record {
  kept = kept_one c.args.t.0 c.args.owner c.loop-key.count c.args.keys.now c.loop-key.rest.now c.in-Some.later.now
      c.in-Some.key.now c.args.works.now c.loop-key.works c.keep.new.self c.loop-key.invariant.kept
      c.in-Some.ensures.cases.0 c.in-Ok.ensures.ok;
  places = omega (arith, c.loop-key.invariant.places, ap (λ (ks : List Value). length ks) c.in-Some.ensures.cases.0);
}

pub returns-in-Err-clause-fails : goal.returns-in-Err-clause-fails
returns-in-Err-clause-fails c = kept_some c.args.t.0 c.args.owner c.loop-key.count c.args.keys.now c.loop-key.rest.now
    c.args.works.now c.loop-key.works c.keep.new.self c.retract_last.new.works c.loop-key.invariant.kept
    c.in-Err.ensures.err c.retract_last.ensures

pub returns-clause-keeps : goal.returns-clause-keeps
returns-clause-keeps c = kept_all c.args.t.0 c.args.owner c.loop-key.count c.args.keys.now c.loop-key.rest.now
    c.args.works.now c.loop-key.works c.loop-key.invariant.kept
    (no_keys_left c.loop-key.rest.now (omega (arith, c.in_default.ensures.cases)))
