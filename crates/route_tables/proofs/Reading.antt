-- What is read: the fields and texts of lines, the lines that are found, and the addresses and networks of whole lists.
pub mod AddressLists
pub mod FoundLines
pub mod LineFields
pub mod LineTexts
pub mod PlainLists
pub mod ReadLists
