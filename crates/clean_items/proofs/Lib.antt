pub mod PartsLoop
pub mod NamesBack
