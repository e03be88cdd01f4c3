pub mod Propers
pub mod Offers
pub mod Sounds
pub mod Replays
pub mod Leads
pub mod Trusts
