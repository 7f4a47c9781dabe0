-- For callers: what a bank knows block by block, the rules by it, how it agrees with the state of the model, and what a
-- bank answers.
pub mod Known
pub mod KnownRules
pub mod KnownAfter
pub mod Agrees
pub mod Apart
pub mod Targets
pub mod Faults
pub mod BankView
pub mod Opening
pub mod Answers
pub mod RegisterRules
pub mod Wide
