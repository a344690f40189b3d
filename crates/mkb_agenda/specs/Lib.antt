pub mod Agendas
pub mod Open
pub mod Looking
pub mod Following
