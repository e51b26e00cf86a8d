-- The definition of the lines that the program prints for the rows.
pub mod Lines
