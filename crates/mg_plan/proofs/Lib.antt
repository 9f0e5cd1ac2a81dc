pub mod TypeLemmas
pub mod BindingLemmas
pub mod BoxLemmas
pub mod LeafLemmas
pub mod StatementLemmas
pub mod StepLemmas
pub mod PlanLemmas
