-- What the paper says: refusals 1 to 3, over a format's kinds and limits.
pub mod Framing
-- What the code says: the answers of framing.
pub mod Frame
