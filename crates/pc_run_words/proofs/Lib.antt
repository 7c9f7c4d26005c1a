mod Agreement
mod Digits
mod FoundRows
mod Parses
mod Readings
mod WordKinds
mod WordSteps
