pub mod AgreementLemmas
pub mod ConversionsLemmas
mod InertPagesLemmas
pub mod PlanFitsLemmas
pub mod ReopeningLemmas
pub mod RepairsLemmas
pub mod TitlesLemmas
