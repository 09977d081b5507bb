-- What the crate `second` promises: the definitions that its contracts cite.
pub mod Declined
