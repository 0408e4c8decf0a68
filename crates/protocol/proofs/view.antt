-- The bench as the arguments see it: functions of the controller's number, the rule that each accepted event comes down to, the cases of each rule.
pub mod View
pub mod Kinds
pub mod Performed
pub mod RuleCases
pub mod Refusals
pub mod Held
pub mod Simulation
