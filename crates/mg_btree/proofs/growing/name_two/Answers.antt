use Rattle.mg_btree.proofs.GrowingLemmas.{names_two, one_covers, one_free, one_inner, one_room, one_some}
use Rattle.std.proofs.Common.{length}
use Rattle.mg_btree.proofs.growing.name_two.Goals as goal

pub put_name-requires-clause-inner : goal.put_name-requires-clause-inner
put_name-requires-clause-inner c = one_inner (length c.args.b.now) c.args.page.0 c.args.owner c.args.level
    c.args.first.now c.args.second.now c.name_one.new.b c.name_one.ensures c.requires.inner
    c.requires.first c.requires.second

pub put_name-requires-clause-some : goal.put_name-requires-clause-some
put_name-requires-clause-some c = one_some (length c.args.b.now) c.args.page.0 c.args.owner c.args.level
    c.args.first.now c.args.second.now c.name_one.new.b c.name_one.ensures c.requires.inner
    c.requires.first c.requires.second

pub put_name-requires-clause-covers : goal.put_name-requires-clause-covers
put_name-requires-clause-covers c = one_covers (length c.args.b.now) c.args.page.0 c.args.owner
    c.args.level c.args.first.now c.args.second.now c.name_one.new.b c.name_one.ensures c.requires.inner
    c.requires.first c.requires.second

pub put_name-requires-clause-room : goal.put_name-requires-clause-room
put_name-requires-clause-room c = one_room (length c.args.b.now) c.args.page.0 c.args.owner c.args.level
    c.args.first.now c.args.second.now c.name_one.new.b c.name_one.ensures c.requires.inner
    c.requires.first c.requires.second c.requires.sized.least c.requires.short

pub put_name-requires-clause-free : goal.put_name-requires-clause-free
put_name-requires-clause-free c = one_free (length c.args.b.now) c.args.page.0 c.args.owner c.args.level
    c.args.first.now c.args.second.now c.name_one.new.b c.name_one.ensures c.requires.inner
    c.requires.first c.requires.second

pub returns : goal.returns
returns c = names_two (length c.args.b.now) c.args.page.0 c.args.owner c.args.level c.args.first.now
    c.args.second.now c.name_one.new.b c.name_one.ensures c.requires.inner c.requires.first
    c.requires.second c.put_name.new.b c.put_name.ensures
