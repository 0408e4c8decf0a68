-- the tariff, the shares, what a lockage pays
pub mod Tariff
pub mod Shares
pub mod Charges
pub mod Examples
-- laws
pub mod ShareLaws
