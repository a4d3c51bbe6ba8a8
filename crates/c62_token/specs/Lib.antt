pub mod Token
pub mod Number
pub mod Kind
pub mod Laws
