pub mod Cuts
pub mod MaskLoop
pub mod Pieces
pub mod FieldNext
pub mod EventFields
pub mod PrintedLines
