mod Defaults
mod StationsRead
mod Outside
mod Agrees
mod Turns
mod StepLaws
mod BallotLaws
