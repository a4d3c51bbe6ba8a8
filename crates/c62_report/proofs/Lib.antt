pub mod ReportLemmas
pub mod PrintLemmas
