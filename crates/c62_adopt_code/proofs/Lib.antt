pub mod CodeLemmas
pub mod OwnLemmas
pub mod RoleLemmas
