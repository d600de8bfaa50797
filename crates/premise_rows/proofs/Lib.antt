pub mod AgreementAnswers
pub mod NamedAnswers
pub mod NewOrderAnswers
