pub mod AgreementRows
pub mod NewOrderRows
pub mod NamedRows
