pub mod NumberLemmas
pub mod WordLemmas
pub mod DictionaryLemmas
pub mod FaultLemmas
pub mod TextLemmas
pub mod OpenedLemmas
