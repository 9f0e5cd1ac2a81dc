use Rattle.std.proofs.Common.{refl}
use Rattle.mg_calls.specs.QuietLaws.{quiet_nothing}
use Rattle.mg_calls.proofs.WriteLemmas.{all_behind, one_taken}
use Rattle.mg_calls.proofs.steps.write_next.Goals as goal

pub returns-in_default-clause-quiet : goal.returns-in_default-clause-quiet
returns-in_default-clause-quiet g c =
    quiet_nothing g.R.Records.meaning g.met.R.Records.crashes c.args.r.now

pub returns-else-is_empty-clause-steps : goal.returns-else-is_empty-clause-steps
returns-else-is_empty-clause-steps g c = record {
  frames = c.in-Done.ensures.leaves.frames;
  table = refl;
  ready = record {
    table = c.in-Done.ensures.leaves.tables refl c.args.w.now.table.name c.args.w.now.table
        c.requires.ready.table;
    fits = all_behind c.args.w.now.table.shape c.pop_front.result c.args.w.now.left.items
        c.pop_front.new.self.items c.pop_front.ensures.items c.requires.ready.fits;
  };
  fewer = one_taken c.pop_front.result c.args.w.now.left.items c.pop_front.new.self.items _ _
      c.pop_front.ensures.items (c.in-Some.ensures.variant.0 refl) c.pop_front.ensures.cases;
}

pub returns-in-Waits-clause-steps : goal.returns-in-Waits-clause-steps
returns-in-Waits-clause-steps g c = record {
  frames = c.in-Waits.ensures.leaves.frames;
  table = refl;
  ready = record {
    table = c.in-Waits.ensures.leaves.tables refl c.args.w.now.table.name c.args.w.now.table
        c.requires.ready.table;
    fits = c.requires.ready.fits;
  };
  fewer = refl;
}

pub returns-in-Refused-clause-steps : goal.returns-in-Refused-clause-steps
returns-in-Refused-clause-steps g c = record {
  frames = c.in-Refused.ensures.leaves.frames;
  table = refl;
  ready = tt;
  fewer = tt;
}

pub returns-in-RolledBack-clause-steps : goal.returns-in-RolledBack-clause-steps
returns-in-RolledBack-clause-steps g c = record {
  frames = c.in-RolledBack.ensures.leaves.frames;
  table = refl;
  ready = tt;
  fewer = tt;
}

pub returns-then-is_empty-clause-steps : goal.returns-then-is_empty-clause-steps
returns-then-is_empty-clause-steps g c = record {
  frames = c.in-Done.ensures.leaves.frames;
  table = refl;
  ready = tt;
  fewer = tt;
}

pub returns-in-Waits-clause-quiet : goal.returns-in-Waits-clause-quiet
returns-in-Waits-clause-quiet g c = c.in-Waits.ensures.quiet

pub returns-in-Refused-clause-quiet : goal.returns-in-Refused-clause-quiet
returns-in-Refused-clause-quiet g c = c.in-Refused.ensures.quiet

pub returns-in-RolledBack-clause-quiet : goal.returns-in-RolledBack-clause-quiet
returns-in-RolledBack-clause-quiet g c = c.in-RolledBack.ensures.quiet

pub returns-then-is_empty-clause-quiet : goal.returns-then-is_empty-clause-quiet
returns-then-is_empty-clause-quiet g c = c.in-Done.ensures.quiet

pub returns-else-is_empty-clause-quiet : goal.returns-else-is_empty-clause-quiet
returns-else-is_empty-clause-quiet g c = c.in-Done.ensures.quiet
