pub mod Conservation
pub mod Accounts
pub mod Lives
pub mod Promises
pub mod NeverSticks
pub mod CallsLeave
pub mod Carried
