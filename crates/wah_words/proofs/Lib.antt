pub mod PlacesLemmas
pub mod SpellingLemmas
pub mod WordsLemmas
pub mod StoredLemmas
pub mod CursorLemmas
pub mod ReadingLemmas
pub mod BytesLemmas
pub mod OnesLemmas
