pub mod Order
pub mod Table
pub mod WallRows
pub mod Left
pub mod Refusals
pub mod RecordRows
pub mod RecordLeft
pub mod RecordRefusals
