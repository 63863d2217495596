pub mod Loans
pub mod Playing
pub mod Seating
pub mod Turning
