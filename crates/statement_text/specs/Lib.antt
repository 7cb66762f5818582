pub mod Buffer
pub mod Statement
