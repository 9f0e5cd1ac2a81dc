use Rattle.std.proofs.Common.{refl, ap, ℕ, ◌/◌}
use Rattle.mg_txlist.proofs.EndLemmas.{else_commits, else_list, keeps_at, then_commits, then_list}
use Rattle.mg_txlist.proofs.list.TxList.keep_committed.Goals as goal

pub returns-then-t-self-clause-ends : goal.returns-then-t-self-clause-ends
returns-then-t-self-clause-ends c = then_commits c.args.self.now _ c.args.t _ c.args.bytes.now
    (ap (λ (k : ℕ). c.args.t / k) c.places_of.ensures) c.requires.list c.requires.some
    c.requires.drawn c.requires.sets c.keep_bytes.ensures refl refl c.if-t-self.true refl

pub returns-else-t-self-clause-ends : goal.returns-else-t-self-clause-ends
returns-else-t-self-clause-ends c = else_commits c.args.self.now _ c.args.t _ c.args.bytes.now
    (ap (λ (k : ℕ). c.args.t / k) c.places_of.ensures) c.requires.list c.requires.some
    c.requires.drawn c.requires.sets c.keep_bytes.ensures refl refl c.if-t-self.false refl

pub returns-then-t-self-clause-list : goal.returns-then-t-self-clause-list
returns-then-t-self-clause-list c = then_list c.args.self.now _ c.args.t _ c.args.bytes.now
    (ap (λ (k : ℕ). c.args.t / k) c.places_of.ensures) c.requires.list c.requires.some
    c.requires.drawn c.requires.sets c.keep_bytes.ensures refl refl c.if-t-self.true refl

pub returns-else-t-self-clause-list : goal.returns-else-t-self-clause-list
returns-else-t-self-clause-list c = else_list c.args.self.now _ c.args.t _ c.args.bytes.now
    (ap (λ (k : ℕ). c.args.t / k) c.places_of.ensures) c.requires.list c.requires.some
    c.requires.drawn c.requires.sets c.keep_bytes.ensures refl refl c.if-t-self.false refl

pub returns-then-t-self-clause-keeps : goal.returns-then-t-self-clause-keeps
returns-then-t-self-clause-keeps c = keeps_at c.args.self.now _ c.args.t _ c.args.bytes.now
    (ap (λ (k : ℕ). c.args.t / k) c.places_of.ensures) c.requires.list c.requires.some
    c.requires.drawn c.requires.sets c.keep_bytes.ensures refl refl

pub returns-else-t-self-clause-keeps : goal.returns-else-t-self-clause-keeps
returns-else-t-self-clause-keeps c = keeps_at c.args.self.now _ c.args.t _ c.args.bytes.now
    (ap (λ (k : ℕ). c.args.t / k) c.places_of.ensures) c.requires.list c.requires.some
    c.requires.drawn c.requires.sets c.keep_bytes.ensures refl refl

pub places_of-requires : goal.places_of-requires
places_of-requires c = c.requires.list.lawful
