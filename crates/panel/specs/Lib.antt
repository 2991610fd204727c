pub mod Lamellae
pub mod Lent
pub mod Materials
pub mod Boards
pub mod Products
pub mod Faces
pub mod Worked
