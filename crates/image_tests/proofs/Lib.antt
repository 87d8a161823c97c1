pub mod FirstLog
