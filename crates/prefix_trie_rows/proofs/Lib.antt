-- The lemmas about printing the lines of the rows.
mod Printing
