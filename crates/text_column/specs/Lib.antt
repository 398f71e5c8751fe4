pub mod Words
pub mod DictionaryFile
pub mod OpenedDictionary
pub mod Texts
pub mod OpenedTexts
pub mod TextFiles
