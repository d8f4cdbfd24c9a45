-- The sums of 01 that can be checked by hand, and quotes, over the definitions of the calls.
pub mod Computing
pub mod Samples
pub mod Table
pub mod Sums
pub mod Quotes
pub mod Yesterday
