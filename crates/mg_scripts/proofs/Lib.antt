mod RunLemmas
mod TurnLemmas
mod EndLemmas
mod SinkLemmas
mod FaultLemmas
