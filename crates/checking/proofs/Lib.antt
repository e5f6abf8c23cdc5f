pub mod Somes
pub mod Firsts
pub mod Clear
pub mod Pigeons
pub mod Validity
pub mod Told
pub mod Verdicts
