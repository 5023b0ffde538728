pub mod SwitchRules
pub mod SwitchLaws
pub mod OrdersLeft
