pub mod Stating
