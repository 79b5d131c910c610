pub mod Blockwise
