pub mod FieldsAgain
pub mod FieldsTaken
