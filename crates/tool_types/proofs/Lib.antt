pub mod TypeLists
pub mod KeptLemmas
pub mod NameStarts
