pub mod SupervisedBook
pub mod WorkedLimits
pub mod WorkedKeys
