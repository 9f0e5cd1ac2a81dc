mod CountLemmas
mod ParkLemmas
mod SpeakLemmas
mod TurnLemmas
