pub mod FileListLemmas
pub mod ContentsLemmas
pub mod TraceWalks
pub mod StreamLemmas
