-- Standings: what the ranked queue and the filled front return and leave.

-- the paper
pub mod Queues
-- as the code computes it
pub mod QueueCalls
