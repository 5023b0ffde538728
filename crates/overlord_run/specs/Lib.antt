pub mod Visible
pub mod CommandLoad
pub mod Held
pub mod Statuses
pub mod Ends
pub mod Promise
pub mod LoadPromise
pub mod FormPromise
