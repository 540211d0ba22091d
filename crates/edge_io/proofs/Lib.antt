pub mod LinesLemmas
pub mod ReaderLemmas
pub mod PromptLemmas
pub mod KeyFilesLemmas
