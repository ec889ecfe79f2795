pub mod FixedBlocks
