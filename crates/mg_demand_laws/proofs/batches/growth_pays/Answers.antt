use Rattle.mg_demand_laws.specs.GrowDemands.{chain_pays, growth_pays}
use Rattle.mg_demand_laws.proofs.batches.growth_pays.Goals as goal

pub returns-clause-growth : goal.returns-clause-growth
returns-clause-growth c = λ g old taken made new q n owner at orders settled on_disk wanted lawful grows was page_first bit_first.
    growth_pays g old taken made new q n owner at orders settled on_disk wanted lawful grows was page_first bit_first

pub returns-clause-chain : goal.returns-clause-chain
returns-clause-chain c = λ g old with_bit taken made begun new q p n owner at orders settled on_disk wanted lawful grows was data_first pointer_first.
    chain_pays g old with_bit taken made begun new q p n owner at orders settled on_disk wanted lawful grows was data_first pointer_first
