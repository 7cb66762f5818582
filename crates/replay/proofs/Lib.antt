pub mod FirstRecord
pub mod Opens
pub mod OwnCard
mod Lived
mod Ends
mod Fronts
mod WrittenGames
mod NotTwenty
mod NumbersOfFiles
