-- What the paper says: the refusal table, bytes and records.
pub mod Refusal
pub mod Bytes
-- What the code says: its refusals as those of the table, writing into a buffer.
pub mod RefusalOf
pub mod Wrote
