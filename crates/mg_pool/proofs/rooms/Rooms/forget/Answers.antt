use Rattle.mg_pool.proofs.RoomsLemmas.{forgot_here, put_length, put_others}
use Rattle.mg_pool.proofs.rooms.Rooms.forget.Goals as goal

pub returns-clause-here : goal.returns-clause-here
returns-clause-here c = forgot_here c.args.self.now c.put.new.self c.args.page c.put.ensures

pub returns-clause-others : goal.returns-clause-others
returns-clause-others c = put_others c.args.self.now c.put.new.self c.args.page 65535 c.put.ensures

pub returns-clause-len : goal.returns-clause-len
returns-clause-len c = put_length c.args.self.now c.put.new.self c.args.page 65535 c.put.ensures
