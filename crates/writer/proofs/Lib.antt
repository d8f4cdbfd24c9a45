-- The writer's laws.
pub mod InARow
-- writing a record, as its code does
pub mod WriteCall
