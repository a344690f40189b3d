pub mod Deciding
pub mod Signatures
pub mod Sent
