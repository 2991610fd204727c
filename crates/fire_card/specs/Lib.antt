pub mod Card
pub mod Answers
pub mod Printed
