pub mod Laws
pub mod PackedOrder
pub mod PairedOrder
pub mod PackedLaws
pub mod PairedLaws
