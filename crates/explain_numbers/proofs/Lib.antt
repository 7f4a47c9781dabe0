pub mod Chains
mod Walking
