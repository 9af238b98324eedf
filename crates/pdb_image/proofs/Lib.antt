pub mod Finding
mod FirstOf
mod ImageStages
mod ImageErrors
