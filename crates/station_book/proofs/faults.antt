-- The fault of a block by what is kept is its fault by the blocks before it; the first fault:
-- `laws::one_fault`.
pub mod FirstFault
pub mod FaultOrder
pub mod SetFaults
pub mod ReadingFaults
pub mod BlockFaults
