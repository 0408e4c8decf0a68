-- T counts sends: none is sent twice in an order, and what was sent stays.
pub mod Sends
pub mod Counted
