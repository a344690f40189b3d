pub mod Family
pub mod CertificateText
pub mod Reading
