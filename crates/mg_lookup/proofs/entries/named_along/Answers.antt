use Rattle.std.proofs.Common.{ℕ, ◌+◌, [], ◌∷◌, ◌++◌, Option, Some, Ok, Err, ap, arith, refl, subst, sym, ◌∙◌, inl, inr}
use Rattle.std.proofs.lemmas.Bool.{false≢true}
use Rattle.mg_node.specs.declared.entry.Entry.{Entry}
use Rattle.mg_btree.specs.ExitLaws.{reads_memory, reads_ok}
use Rattle.mg_btree.specs.ScanLaws.{reads_err}
use Rattle.mg_btree.specs.declared.range.Step.{Step}
use Rattle.mg_lookup.specs.Along.{TellsSteps, rank_of}
use Rattle.mg_lookup.specs.AlongLaws.{along_as, along_ends, along_next, along_reads, along_refused, found_behind, rank_rises}
use Rattle.mg_lookup.proofs.entries.named_along.Goals as goal

pub returns-in_err-next-clause-reads : goal.returns-in_err-next-clause-reads
returns-in_err-next-clause-reads g c = reads_err Step g.D.Disk.meaning c.args.store.now c.walk_on.new.store
    c.in_err-next.field-0.0 c.from_residual.result c.from_residual.ensures.1
    (along_reads g.D.Disk.meaning g.met.D.Disk.counts_now c.args.store.now c.loop-floor.store c.walk_on.new.store
    c.args.walk c.args.key.now c.loop-floor.found.items c.loop-floor.after c.loop-floor.walk c.loop-floor.floor
    c.loop-floor.invariant.0 (Err c.in_err-next.field-0.0) c.in_err-next.ensures.reads)

pub returns-in_err-next-clause-gives : goal.returns-in_err-next-clause-gives
returns-in_err-next-clause-gives g c = along_refused g.D.Disk.meaning g.met.D.Disk.counts_now c.args.store.now
    c.loop-floor.store c.walk_on.new.store c.args.walk c.args.key.now c.loop-floor.found.items c.loop-floor.after
    c.loop-floor.walk c.loop-floor.floor c.loop-floor.invariant.0 c.in_err-next.field-0.0 c.from_residual.result
    c.from_residual.ensures.1
    (subst (λ (o : Option Entry). TellsSteps g.D.Disk.meaning c.loop-floor.store c.args.key.now o c.loop-floor.walk
    (Err c.in_err-next.field-0.0)) c.as_ref.ensures.value c.in_err-next.ensures.steps)

pub returns-in_default-clause-reads : goal.returns-in_default-clause-reads
returns-in_default-clause-reads g c = reads_ok g.D.Disk.meaning c.args.store.now c.walk_on.new.store
    (Ok c.in_ok-next.field-0) c.in_ok-next.field-0 c.loop-floor.found refl
    (along_reads g.D.Disk.meaning g.met.D.Disk.counts_now c.args.store.now c.loop-floor.store c.walk_on.new.store
    c.args.walk c.args.key.now c.loop-floor.found.items c.loop-floor.after c.loop-floor.walk c.loop-floor.floor
    c.loop-floor.invariant.0 (Ok c.in_ok-next.field-0) c.in_ok-next.ensures.reads)

pub returns-in_default-clause-gives : goal.returns-in_default-clause-gives
returns-in_default-clause-gives g c = along_ends g.D.Disk.meaning g.met.D.Disk.counts_now c.args.store.now
    c.loop-floor.store c.walk_on.new.store c.args.walk c.args.key.now c.loop-floor.found.items c.loop-floor.after
    c.loop-floor.walk c.loop-floor.floor c.loop-floor.invariant.0 c.loop-floor.found c.in_ok-next.field-0 refl
    (inl (c.in_default.is))
    (subst (λ (o : Option Entry). TellsSteps g.D.Disk.meaning c.loop-floor.store c.args.key.now o c.loop-floor.walk
    (Ok c.in_ok-next.field-0)) c.as_ref.ensures.value c.in_ok-next.ensures.steps)

pub returns-then-not-has_key-clause-reads : goal.returns-then-not-has_key-clause-reads
returns-then-not-has_key-clause-reads g c = reads_ok g.D.Disk.meaning c.args.store.now c.walk_on.new.store
    (Ok c.in_ok-next.field-0) c.in_ok-next.field-0 c.loop-floor.found refl
    (along_reads g.D.Disk.meaning g.met.D.Disk.counts_now c.args.store.now c.loop-floor.store c.walk_on.new.store
    c.args.walk c.args.key.now c.loop-floor.found.items c.loop-floor.after c.loop-floor.walk c.loop-floor.floor
    c.loop-floor.invariant.0 (Ok c.in_ok-next.field-0) c.in_ok-next.ensures.reads)

pub returns-then-not-has_key-clause-gives : goal.returns-then-not-has_key-clause-gives
returns-then-not-has_key-clause-gives g c = along_ends g.D.Disk.meaning g.met.D.Disk.counts_now c.args.store.now
    c.loop-floor.store c.walk_on.new.store c.args.walk c.args.key.now c.loop-floor.found.items c.loop-floor.after
    c.loop-floor.walk c.loop-floor.floor c.loop-floor.invariant.0 c.loop-floor.found c.in_ok-next.field-0 refl
    (inr (
      c.in-Some.entry,
      c.in-Some.is,
      λ same. false≢true (sym c.if-not-has_key.true ∙ c.has_key.ensures.1 same),
    ))
    (subst (λ (o : Option Entry). TellsSteps g.D.Disk.meaning c.loop-floor.store c.args.key.now o c.loop-floor.walk
    (Ok c.in_ok-next.field-0)) c.as_ref.ensures.value c.in_ok-next.ensures.steps)

pub returns-in_err-push-clause-reads : goal.returns-in_err-push-clause-reads
returns-in_err-push-clause-reads g c = reads_memory g.D.Disk.meaning c.args.store.now c.walk_on.new.store
    (Ok c.in_ok-next.field-0) c.in_ok-next.field-0 c.from_residual-in_err-push.result refl
    (along_reads g.D.Disk.meaning g.met.D.Disk.counts_now c.args.store.now c.loop-floor.store c.walk_on.new.store
    c.args.walk c.args.key.now c.loop-floor.found.items c.loop-floor.after c.loop-floor.walk c.loop-floor.floor
    c.loop-floor.invariant.0 (Ok c.in_ok-next.field-0) c.in_ok-next.ensures.reads)
    c.from_residual-in_err-push.ensures.1

pub loop-floor-smaller : goal.loop-floor-smaller
loop-floor-smaller g c =
    let rises = rank_rises c.args.key.now c.loop-floor.after c.in-Some.entry c.loop-floor.invariant.0.of_key
    (c.has_key.ensures.0 c.if-not-has_key.false)
    (found_behind c.args.key.now _ c.loop-floor.after c.in_ok-next.field-0.found c.in-Some.entry
    c.in_ok-next.ensures.within (c.in-Some.is) c.as_ref.ensures.value) in
    omega (arith, rises, c.loop-floor.invariant.0.floor_is, c.rank-floor.ensures.rank, c.rank-floor.ensures.below)

pub loop-floor-preserved : goal.loop-floor-preserved
loop-floor-preserved g c = (
  along_as g.D.Disk.meaning c.args.store.now c.walk_on.new.store c.args.walk c.args.key.now
      (c.loop-floor.found.items ++ c.in-Some.entry.rec ∷ []) _ (Some c.in-Some.entry) c.in_ok-next.field-0.walk _
      (rank_of c.in-Some.entry.rec + 1) _ c.in_ok-push.ensures.items refl
      (ap (λ (n : ℕ). n + 1) c.rank-floor.ensures.rank)
      (along_next g.D.Disk.meaning g.met.D.Disk.counts_now c.args.store.now c.loop-floor.store c.walk_on.new.store
      c.args.walk c.args.key.now c.loop-floor.found.items c.loop-floor.after c.loop-floor.walk c.loop-floor.floor
      c.loop-floor.invariant.0 c.in_ok-next.field-0 c.in-Some.entry (c.in-Some.is)
      (c.has_key.ensures.0 c.if-not-has_key.false) c.rank-floor.ensures.slot c.in_ok-next.ensures.reads c.in_ok-next.ensures.leaf
      (subst (λ (o : Option Entry). TellsSteps g.D.Disk.meaning c.loop-floor.store c.args.key.now o c.loop-floor.walk
      (Ok c.in_ok-next.field-0)) c.as_ref.ensures.value c.in_ok-next.ensures.steps)),
  omega (arith, c.rank-floor.ensures.rank, c.rank-floor.ensures.below),
)
