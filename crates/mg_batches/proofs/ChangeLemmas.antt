-- Why the cache refuses a change.
use Rattle.std.proofs.Common.{◌≡◌, ◌⊎◌, inl, inr, Result, Err}
use Rattle.mg_pool.specs.Fault.{OnlyWrites}
use Rattle.mg_pool.specs.declared.fault.PoolFault.{PoolFault}
use Rattle.mg_pool.specs.declared.fault.PoolFault.TheVariants.{Memory}

-- the cache refuses a change by a page write, or for want of memory
pub own_of : (fault : PoolFault)
    → OnlyWrites {T = Unit {0}} (Err fault) ⊎ (◌≡◌ {A = Result (Unit {0}) PoolFault} (Err fault) (Err Memory))
    → OnlyWrites {T = Unit {0}} (Err fault) ⊎ (fault ≡ Memory)
own_of fault (inl own) = inl own
own_of fault (inr is) = inr cc
