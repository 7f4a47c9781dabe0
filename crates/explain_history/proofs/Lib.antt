mod Touched
mod Numbered
mod NamedRecords
mod Records
mod Counted
mod Waited
pub mod RecordsAt
mod LastRequest
pub mod NearLemmas
