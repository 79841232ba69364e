pub mod Settled
pub mod Listings
