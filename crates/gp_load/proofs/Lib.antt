mod InsertLemmas
mod ReadLemmas
mod DerivedLemmas
mod StateLemmas
mod TextLemmas
mod LoadLemmas
