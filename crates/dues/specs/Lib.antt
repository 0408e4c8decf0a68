-- a sheet of lockages; one that comes in pieces
pub mod Sheet
pub mod Examples
pub mod Pieces
-- what is printed of it
pub mod Printed
-- laws
pub mod SheetLaws
pub mod SumLaws
pub mod PrintedLaws
