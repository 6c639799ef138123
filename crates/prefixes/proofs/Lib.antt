pub mod Powers
pub mod Ends
pub mod Tails
pub mod Octets
pub mod Laws
pub mod Shortest
