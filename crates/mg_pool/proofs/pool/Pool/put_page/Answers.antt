use Rattle.std.proofs.Common.{◌∙◌}
use Rattle.mg_pool.specs.Clean.{kept_in}
use Rattle.mg_pool.proofs.PutLemmas.{tied_put, few_put, apart_put, below_put, noted_put, without_get}
use Rattle.mg_pool.proofs.pool.Pool.put_page.Goals as goal

pub returns-clause-pool : goal.returns-clause-pool
returns-clause-pool g c =
    let pool = c.requires.pool in
    let here = c.take_out.ensures.here in
    let others = c.take_out.ensures.others in
    let was = without_get (kept_in c.args.self.now.clean) (kept_in c.take_out.new.self) c.args.page here others in
    record {
      size = pool.size;
      page_size = c.put.ensures.size ∙ pool.page_size;
      room = c.put.ensures.room ∙ pool.room;
      few = few_put c.args.self.now.dirty c.put.new.self c.args.page c.args.bytes.now c.put.ensures pool.few c.requires.room;
      graph_room = c.enter.ensures.room ∙ pool.graph_room;
      tied = tied_put c.args.self.now.dirty c.put.new.self c.args.page c.args.bytes.now c.put.ensures c.args.self.now.graph c.enter.new.self c.enter.ensures pool.tied;
      apart = apart_put c.args.self.now.dirty c.put.new.self c.args.page c.args.bytes.now c.put.ensures (kept_in c.args.self.now.clean) (kept_in c.take_out.new.self) here others pool.apart;
      whole = λ p bytes there. pool.whole p bytes (was p bytes there).1;
      on_disk = λ online p bytes there. pool.on_disk online p bytes (was p bytes there).1;
      counted = pool.counted;
      clean = λ told image held p bytes there. pool.clean told image held p bytes (was p bytes there).1;
      below = below_put c.args.self.now.dirty c.put.new.self c.args.page c.args.bytes.now c.put.ensures c.args.self.now.geometry.limit c.requires.below pool.below;
      kept_below = λ p bytes there. pool.kept_below p bytes (was p bytes there).1;
      within = pool.within;
      noted = λ told image held p room there.
          noted_put c.args.self.now.dirty c.put.new.self c.args.page c.args.bytes.now c.put.ensures image c.args.self.now.rooms c.forget.new.self c.forget.ensures.here c.forget.ensures.others (pool.noted told image held) p room there;
    }
