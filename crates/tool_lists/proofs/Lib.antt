pub mod SameSizes
pub mod StreamOrder
pub mod StreamFilters
pub mod StreamNames
pub mod RoleValues
