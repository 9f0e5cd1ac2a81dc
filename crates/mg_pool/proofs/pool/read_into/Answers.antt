use Rattle.std.proofs.Common.{◌≡◌, ℕ, List, length, Some, ap, sym, ◌∙◌}
use Rattle.mg_base.specs.Image.{Image}
use Rattle.mg_pool.proofs.BufferLemmas.{read_len, read_page}
use Rattle.mg_pool.proofs.pool.read_into.Goals as goal

pub read-requires-clause-whole : goal.read-requires-clause-whole
read-requires-clause-whole g c =
    c.requires.whole ∙ ap (λ (xs : List ℕ). Some (length xs)) (sym c.deref_mut.ensures.value)

pub read-requires-clause-below : goal.read-requires-clause-below
read-requires-clause-below g c = c.requires.below

pub returns-clause-len : goal.returns-clause-len
returns-clause-len g c = read_len c.read.new.into c.deref_mut.result.now c.args.buffer.now.items
    c.args.buffer.now.len c.read.auto.into c.deref_mut.ensures.value c.deref_mut.ensures.len

pub returns-clause-page : goal.returns-clause-page
returns-clause-page g c = read_page c.read.new.into c.deref_mut.result.now c.args.buffer.now.items
    c.args.buffer.now.len c.read.auto.into c.deref_mut.ensures.value c.deref_mut.ensures.len c.read.result
    (λ (image : Image). g.D.Disk.meaning.held c.args.disk.now ≡ Some image) c.args.page.0 c.read.ensures.page

pub returns-clause-calm : goal.returns-clause-calm
returns-clause-calm g c = c.read.ensures.calm

pub returns-clause-reads : goal.returns-clause-reads
returns-clause-reads g c = c.read.ensures.reads
